-- How long keys are, and how many shards there are. No script asks for a key that is out of range, or for a value that is too long.
use Rattle.std.proofs.Common.{◌≡◌, ◌⊎◌, ℕ, zero, suc, ◌^◌, ◌<◌, ◌≤◌, Bool, true, false, List, [], ◌∷◌, length, map, filter, slice_get, nat_le, Option, Some, None, if◌then◌else◌, inl, inr, refl, sym, ◌∙◌, ap, subst, length-append, pow-suc, arith}
use Rattle.std.specs.Prelude.{◌==◌}
use Rattle.std.proofs.lemmas.Bool.{cases_eq, le-leb, leb-true}
use Rattle.std.proofs.lemmas.List.{length-map}
use Rattle.std.proofs.lemmas.Nat.{pow_below}
use Rattle.std.specs.List.{AllByRecursion}
use Rattle.std.specs.Option.{ForSome}
use Rattle.std.proofs.lemmas.Option.{none-some, same_Some}
use Rattle.tree_keys.specs.Path.{key_bits, root_of}
use Rattle.lamport_clocks.specs.declared.header.Header.{Header}
use Rattle.record_hash.specs.Functions.{DigestFunctions}
use Rattle.record_text.specs.declared.request.Request.{Request}
use Rattle.record_text.specs.Value.{IsBlob}
use Rattle.record_text.specs.Tree.{wide_of}
use Rattle.record_text.specs.Longest.{longest_of}
use Rattle.host_plan.specs.Setup.{IsShardCount, child, paths_below, first_content, setup_contents}
use Rattle.script_text.specs.declared.task.Task.{Task}
use Rattle.script_text.specs.Text.{IsTask, AreTasks}
use Rattle.host_core.specs.Host.{asked_in, asked_from, asked}
use Rattle.host_laws.proofs.ToldLaws.{all-append}
use Rattle.shipped_host.specs.declared.settings.Settings.{Settings}
use Rattle.shipped_host.specs.Ranges.{AreInRange, HaveShortValues}
use Rattle.shipped_host.specs.Settings.{IsSettings, bits_within, frontier_bits}
use Rattle.shipped_host.specs.ShippedHost.{new_seats, turn_of, shipped_host}

-- ---- how long keys are

-- how many bits a key has at least and at most
pub bits_within_key : (wide : Bool) → 64 ≤ key_bits wide
bits_within_key true = omega arith
bits_within_key false = omega arith

pub key_bits-most : (wide : Bool) → key_bits wide ≤ 128
key_bits-most true = omega arith
key_bits-most false = omega arith

-- ---- what a script asks

-- what a line can ask has a key in range
task_keys : (header : Header) (tasks : List Task) → AllByRecursion (IsTask header) tasks
    → AllByRecursion (λ (task : Task). task.request.key < 2 ^ key_bits (wide_of header)) tasks
task_keys header [] all = tt
task_keys header (task ∷ tasks) all = (all.0.key, task_keys header tasks all.1)

pub script_keys : (header : Header) (script : List (List Task)) → AreTasks header script → AreInRange header script
script_keys header [] all = tt
script_keys header (tasks ∷ script) all = (task_keys header tasks all.0, script_keys header script all.1)

-- and a short value
script_value : (header : Header) (task : Task) → IsTask header task → IsBlob (longest_of header) task.request.value
script_value header task is = go task.request.value is.size
  where
    go : (value : Option (List ℕ)) → ForSome value (λ bytes. length bytes ≤ longest_of header) → IsBlob (longest_of header) value
    go None size = tt
    go (Some bytes) size = size bytes refl

task_values : (header : Header) (tasks : List Task) → AllByRecursion (IsTask header) tasks → AllByRecursion (λ (task : Task). IsBlob (longest_of header) task.request.value) tasks
task_values header [] all = tt
task_values header (task ∷ tasks) all = (script_value header task all.0, task_values header tasks all.1)

pub script_values : (header : Header) (script : List (List Task)) → AreTasks header script → HaveShortValues header script
script_values header [] all = tt
script_values header (tasks ∷ script) all = (task_values header tasks all.0, script_values header script all.1)

-- ---- what a worker is asked

module _ (P : Request → Type 0) where
  in_phase : (i phase : ℕ) (tasks : List Task) → AllByRecursion (λ (task : Task). P task.request) tasks → AllByRecursion (λ (ask : ℕ × Request). P ask.1) (asked_in i phase (map turn_of tasks))
  in_phase i phase [] all = tt
  in_phase i phase (task ∷ tasks) all = go (in_phase i phase tasks all.1) (task.worker == i)
    where
      more : List (ℕ × Request)
      more = filter (λ turn. turn.0 == i) (map turn_of tasks)

      go : AllByRecursion (λ (ask : ℕ × Request). P ask.1) (map (λ turn. (phase, turn.1)) more) → (b : Bool)
          → AllByRecursion (λ (ask : ℕ × Request). P ask.1) (map (λ turn. (phase, turn.1)) (if b then turn_of task ∷ more else more))
      go rest true = (all.0, rest)
      go rest false = rest

  -- What holds of all that the script asks holds of what a worker is asked.
  pub in_phases : (i phase : ℕ) (phases : List (List Task)) → AllByRecursion (λ (tasks : List Task). AllByRecursion (λ (task : Task). P task.request) tasks) phases
      → AllByRecursion (λ (ask : ℕ × Request). P ask.1) (asked_from i phase (map (map turn_of) phases))
  in_phases i phase [] all = tt
  in_phases i phase (tasks ∷ phases) all =
      all-append (λ (ask : ℕ × Request). P ask.1) (asked_in i phase (map turn_of tasks)) (asked_from i (suc phase) (map (map turn_of) phases))
      (in_phase i phase tasks all.0) (in_phases i (suc phase) phases all.1)

-- the key is below a limit
abbrev InRange : ℕ → ℕ × Request → Type 0
InRange limit ask = ask.1.key < limit

at_index : (limit : ℕ) (asks : List (ℕ × Request)) (k : ℕ) (ask : ℕ × Request) → AllByRecursion (InRange limit) asks → slice_get asks k ≡ Some ask → InRange limit ask
at_index limit [] k ask all is = absurd (none-some ask is)
at_index limit (first ∷ asks) zero ask all is = subst (InRange limit) (same_Some first ask is) all.0
at_index limit (first ∷ asks) (suc k) ask all is = at_index limit asks k ask all.1 is

-- A worker's next request asks for a key in range.
pub next_in_range : (functions : DigestFunctions) (settings : Settings) (script : List (List Task)) → AreInRange settings.header script → (served i phase : ℕ) (request : Request)
    → slice_get (asked (shipped_host functions settings script) i) served ≡ Some (phase, request) → request.key < 2 ^ key_bits (wide_of settings.header)
next_in_range functions settings script keys served i phase request is =
    let limit = 2 ^ key_bits (wide_of settings.header) in
    at_index limit (asked_from i 0 (map (map turn_of) script)) served (phase, request) (in_phases (λ request. request.key < limit) i 0 script keys) is

-- ---- how many shards there are

-- The number of bits is that of the power.
pub bits_are : (most bits : ℕ) → bits ≤ most → bits_within most (2 ^ bits) ≡ bits
bits_are zero bits few = omega (arith, few)
bits_are (suc most) bits few = go (cases_eq bits (suc most)) (λ less. bits_are most bits less)
  where
    go : (bits ≡ suc most) ⊎ (bits ≡ suc most → ⊥) → (bits ≤ most → bits_within most (2 ^ bits) ≡ bits)
        → (if nat_le (2 ^ suc most) (2 ^ bits) then suc most else bits_within most (2 ^ bits)) ≡ bits
    go (inl same) rest =
        subst (λ (n : ℕ). (if nat_le (2 ^ suc most) (2 ^ n) then suc most else bits_within most (2 ^ n)) ≡ n) (sym same)
        (ap (λ (b : Bool). if b then suc most else bits_within most (2 ^ suc most)) (le-leb (2 ^ suc most) (2 ^ suc most) (omega arith)))
    go (inr other) rest = under (nat_le (2 ^ suc most) (2 ^ bits)) refl
      where
        less : bits < suc most
        less = omega (arith, few, other)

        under : (b : Bool) → nat_le (2 ^ suc most) (2 ^ bits) ≡ b → (if b then suc most else bits_within most (2 ^ bits)) ≡ bits
        under true is = absurd (omega (arith, leb-true (2 ^ suc most) (2 ^ bits) is, pow_below bits (suc most) less))
        under false is = rest (omega (arith, less))

-- the frontiers of so many shards
pub frontier_bits_are : (shards : ℕ) (is : IsShardCount shards) → frontier_bits shards ≡ is.bits
frontier_bits_are shards is = ap frontier_bits is.power ∙ bits_are 10 is.bits is.most

pub shards_are : (shards : ℕ) → IsShardCount shards → shards ≡ 2 ^ frontier_bits shards
shards_are shards is = is.power ∙ ap (λ (bits : ℕ). 2 ^ bits) (sym (frontier_bits_are shards is))

-- how many paths there are so many levels below one
pub count_below : (levels : ℕ) (path : List Bool) → length (paths_below levels path) ≡ 2 ^ levels
count_below zero path = refl
count_below (suc levels) path =
    omega (arith, length-append (paths_below levels (child path false)) (paths_below levels (child path true)), count_below levels (child path false), count_below levels (child path true), pow-suc 2 levels)

-- The setup leaves as many shards as the settings say.
pub shards_set_up : (functions : DigestFunctions) (settings : Settings) (script : List (List Task)) → IsSettings settings
    → length (shipped_host functions settings script).setup.after ≡ settings.shards
shards_set_up functions settings script is =
    length-map (setup_contents (wide_of settings.header) settings.header.first (frontier_bits settings.shards)) new_seats
    ∙ length-map (paths_below (frontier_bits settings.shards) (root_of (wide_of settings.header))) (first_content settings.header.first)
    ∙ count_below (frontier_bits settings.shards) (root_of (wide_of settings.header))
    ∙ sym (shards_are settings.shards is.shards)
