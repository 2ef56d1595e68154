-- What a round asks of a worker, as the script has it: what was done of it was next, and then this is left.
use Rattle.std.proofs.Common.{◌≡◌, ℕ, zero, suc, ◌+◌, ◌-◌, ◌<◌, ◌≤◌, Bool, true, false, List, [], ◌∷◌, ◌++◌, map, length, take, drop, get_or, slice_get, Option, Some, None, if◌then◌else◌, refl, sym, ◌∙◌, ap, take_all, append_assoc, append-nil, arith}
use Rattle.std.proofs.lemmas.List.{length-map}
use Rattle.record_hash.specs.Functions.{DigestFunctions}
use Rattle.record_text.specs.declared.request.Request.{Request}
use Rattle.script_text.specs.declared.task.Task.{Task}
use Rattle.host_core.specs.Host.{Host, asked_in, asked_from, asked}
use Rattle.host_core.specs.World.{World}
use Rattle.host_shard.specs.Content.{Content}
use Rattle.round_order.specs.Turn.{IsAsked, served_more, served_behind}
use Rattle.host_epochs.specs.declared.told.Entry.{Entry}
use Rattle.shipped_host.specs.declared.settings.Settings.{Settings}
use Rattle.shipped_host.specs.ShippedHost.{turn_of, shipped_host}
use Rattle.table_order.specs.Rounds as told
use Rattle.round_workers.specs.Parts.{AreDone, IsNext}
use Rattle.worker_threads.specs.Parts.{asked_of}
use Rattle.worker_threads.specs.Phase.{numbered}
use Rattle.worker_threads.specs.Round.{asked_up_to, asked_in_round}
use Rattle.worker_threads.proofs.AskedLemmas.{inside}

-- ---- where a list is cut

pub cut-none : {X : Type 0} (xs : List X) (n : ℕ) → drop n xs ≡ [] → slice_get xs n ≡ None
cut-none [] n is = refl
cut-none (x ∷ xs) zero is = absurd cc
cut-none (x ∷ xs) (suc n) is = cut-none xs n is

cut-some : {X : Type 0} (xs : List X) (n : ℕ) (x : X) (more : List X) → drop n xs ≡ x ∷ more → slice_get xs n ≡ Some x
cut-some [] zero x more is = absurd cc
cut-some [] (suc n) x more is = absurd cc
cut-some (y ∷ ys) zero x more is = cc
cut-some (y ∷ ys) (suc n) x more is = cut-some ys n x more is

cut-more : {X : Type 0} (xs : List X) (n : ℕ) (x : X) (more : List X) → drop n xs ≡ x ∷ more → drop (suc n) xs ≡ more
cut-more [] zero x more is = absurd cc
cut-more [] (suc n) x more is = absurd cc
cut-more (y ∷ ys) zero x more is = cc
cut-more (y ∷ ys) (suc n) x more is = cut-more ys n x more is

cut-less : {X : Type 0} (xs : List X) (n : ℕ) (x : X) (more : List X) → drop n xs ≡ x ∷ more → n < length xs
cut-less [] zero x more is = absurd cc
cut-less [] (suc n) x more is = absurd cc
cut-less (y ∷ ys) zero x more is = omega arith
cut-less (y ∷ ys) (suc n) x more is = let rest = cut-less ys n x more is in omega (arith, rest)

-- ---- what was done

module _ (host : Host Content Request) (first i : ℕ) (is_first : first ≡ host.header.first) where
  -- Each request was the worker's next in the epoch of its clock, and what is left is left of the script.
  pub are_next : (served : ℕ) (asks rest : List (ℕ × Request)) (entries : List Entry) → served ≤ length (asked host i) → drop served (asked host i) ≡ asks → AreDone first asks entries rest
      → told.AreNext host i served entries × (drop (served_behind served (told.turns_of entries)) (asked host i) ≡ rest)
      × (served_behind served (told.turns_of entries) ≤ length (asked host i))
  are_next served asks rest [] within cut done = (tt, cut ∙ done, within)
  are_next served asks rest (entry ∷ entries) within cut done = go (λ n few left. are_next n done.0 rest entries few left done.2) entry.request done.1
    where
      Rest : Type 0
      Rest = (n : ℕ) → n ≤ length (asked host i) → drop n (asked host i) ≡ done.0
          → told.AreNext host i n entries × (drop (served_behind n (told.turns_of entries)) (asked host i) ≡ rest)
          × (served_behind n (told.turns_of entries) ≤ length (asked host i))

      go : Rest → (request : Option Request) → IsNext first asks entry request done.0
          → (IsAsked host i served entry.clock.at.epoch request × told.AreNext host i (served_more served request) entries)
          × (drop (served_behind (served_more served request) (told.turns_of entries)) (asked host i) ≡ rest)
          × (served_behind (served_more served request) (told.turns_of entries) ≤ length (asked host i))
      go behind None next =
          let more = behind served within (cut ∙ next) in
          ((tt, more.0), more.1, more.2)
      go behind (Some request) next =
          let here : drop served (asked host i) ≡ (next.0, request) ∷ done.0 = cut ∙ next.1 in
          let more = behind (suc served) (cut-less (asked host i) served (next.0, request) done.0 here)
          (cut-more (asked host i) served (next.0, request) done.0 here) in
          (((next.0, cut-some (asked host i) served (next.0, request) done.0 here, omega (arith, next.2, is_first)), more.0), more.1, more.2)

-- ---- what is asked

asked-push : {R : Type 0} (i first k at : ℕ) (script : List (List (ℕ × R))) → at ≡ first + k → k < length script
    → asked_from i first (take (suc k) script) ≡ asked_from i first (take k script) ++ asked_in i at (get_or script k [])
asked-push i first k at [] is there = absurd (omega (arith, there))
asked-push {R} i first zero at (turns ∷ script) is there =
    let same : first ≡ at = omega (arith, is) in
    append-nil (asked_in i first turns) ∙ ap (λ (n : ℕ). asked_in i n turns) same
asked-push {R} i first (suc k) at (turns ∷ script) is there =
    ap (λ (more : List (ℕ × R)). asked_in i first turns ++ more) (asked-push i (suc first) k at script (omega (arith, is)) (omega (arith, there)))
    ∙ sym (append_assoc (asked_in i first turns) (asked_from i (suc first) (take k script)) (asked_in i at (get_or script k [])))

module _ (functions : DigestFunctions) (settings : Settings) (script : List (List Task)) (i : ℕ) where
  abbrev host : Host Content Request
  host = shipped_host functions settings script

  many : length host.script ≡ length script
  many = length-map script (map turn_of)

  asked_so_far : (count : ℕ) → count ≤ length script → asked_up_to script 0 i count ≡ asked_from i 0 (take count host.script)
  asked_so_far zero within = refl
  asked_so_far (suc k) within =
      let here : 0 + k ≡ k = omega arith in
      ap (λ (front : List (ℕ × Request)). front ++ numbered k (asked_of i (get_or script (0 + k) []))) (asked_so_far k (omega (arith, within)))
      ∙ ap (λ (n : ℕ). asked_from i 0 (take k host.script) ++ numbered k (asked_of i (get_or script n []))) here
      ∙ ap (λ (back : List (ℕ × Request)). asked_from i 0 (take k host.script) ++ back) (sym (inside functions settings script k i (omega (arith, within))))
      ∙ sym (asked-push i 0 k k host.script (omega arith) (omega (arith, within, many)))

  -- A rolling host's round asks all that the script does,
  pub asked_whole : (world : World Content) → settings.rolling ≡ true → world.phase < length host.script → length host.script ≤ suc world.phase
      → asked_in_round host script world i ≡ asked host i
  asked_whole world rolling there last =
      let all : suc (world.phase - 0) ≡ length script = omega (arith, there, last, many) in
      ap (λ (b : Bool). asked_up_to script (if b then 0 else world.phase) i (suc (world.phase - (if b then 0 else world.phase)))) rolling
      ∙ ap (λ (n : ℕ). asked_up_to script 0 i n) all
      ∙ asked_so_far (length script) (omega arith)
      ∙ ap (asked_from i 0) (take_all (length script) host.script (omega (arith, many)))

  -- and another's what its phase does.
  pub asked_plain : (world : World Content) → settings.rolling ≡ false → asked_in_round host script world i ≡ numbered 0 (asked_of i (get_or script world.phase []))
  asked_plain world plain =
      let one : suc (world.phase - world.phase) ≡ suc 0 = omega arith in
      let here : world.phase + 0 ≡ world.phase = omega arith in
      ap (λ (b : Bool). asked_up_to script (if b then 0 else world.phase) i (suc (world.phase - (if b then 0 else world.phase)))) plain
      ∙ ap (λ (n : ℕ). asked_up_to script world.phase i n) one
      ∙ ap (λ (n : ℕ). numbered 0 (asked_of i (get_or script n []))) here
