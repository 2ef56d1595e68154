-- The turns of a worker in a round: its list is a chain from its clock, its last clock stands behind it, and what it asks is in range.
use Rattle.std.proofs.Common.{◌≡◌, ◌≢◌, ℕ, zero, suc, ◌+◌, ◌^◌, ◌<◌, ◌≤◌, ◌||◌, Bool, false, List, [], ◌∷◌, ◌++◌, length, is_some, Option, Some, None, inl, inr, refl, sym, ◌∙◌, ap, subst, arith}
use Rattle.std.specs.List.{AllByRecursion}
use Rattle.std.proofs.lemmas.Bool.{eq-eqb, ne_eqb}
use Rattle.tree_keys.specs.Path.{key_bits}
use Rattle.stamp_order.proofs.InOrderLaws.{every-append}
use Rattle.lamport_clocks.specs.Reading.{Reading}
use Rattle.record_hash.specs.Functions.{DigestFunctions}
use Rattle.record_text.specs.declared.request.Request.{Request}
use Rattle.record_text.specs.Value.{IsBlob}
use Rattle.record_text.specs.Longest.{longest_of}
use Rattle.record_text.specs.Tree.{wide_of}
use Rattle.script_text.specs.declared.task.Task.{Task}
use Rattle.host_core.specs.Host.{Host, asked}
use Rattle.round_order.specs.Turn.{on_to, IsAsked, served_more, IsWorkerChain, clock_behind}
use Rattle.round_order.specs.Told.{RoundStop, AreOfOthers, stops_by}
use Rattle.round_order.proofs.GoingLaws.{at_start, on_to-later, on_to-there}
use Rattle.host_shard.specs.Content.{Content}
use Rattle.host_epochs.specs.declared.told.Entry.{Entry}
use Rattle.host_epochs.specs.declared.told.Stop.{Stop}
use Rattle.host_epochs.specs.declared.views.Row.{Row}
use Rattle.host_epochs.specs.Round.{row_at}
use Rattle.host_epochs.specs.Terms.{Terms}
use Rattle.host_epochs.specs.Told.{GoesOn, Continues, TakesUp}
use Rattle.shipped_host.specs.declared.settings.Settings.{Settings}
use Rattle.shipped_host.specs.Ranges.{AreInRange, HaveShortValues}
use Rattle.shipped_host.specs.ShippedHost.{shipped_host}
use Rattle.shipped_host.proofs.RangeLaws.{in_phases}
use Rattle.table_order.specs.Rounds.{turns_of, stop_of, stops_from, AreNext, BeginsAt}
use Rattle.table_order.specs.RoundMirroring.{IsAskInRange}
use Rattle.table_order.proofs.ListLemmas.{all-got}
use Rattle.table_order.proofs.RoundPastLemmas.{IsSmall}

-- ---- clocks

-- the later clock is the one to which its worker goes on
abbrev pub IsGoneOn : Reading → Reading → Type 0
IsGoneOn clock later = (later ≡ on_to later.at.epoch clock) × (clock.at.epoch ≤ later.at.epoch)

gone_on : (clock later : Reading) → GoesOn clock later → IsGoneOn clock later
gone_on clock later (inl same) =
    let here : later.at.epoch ≡ clock.at.epoch = ap (λ (r : Reading). r.at.epoch) same in
    (same ∙ sym (on_to-there later.at.epoch clock (omega (arith, here))), omega (arith, here))
gone_on clock later (inr turned) =
    let past = turned.epoch in
    (starts ∙ sym (on_to-later later.at.epoch clock turned.epoch), omega (arith, past))
  where
    starts : later ≡ at_start later.at.epoch clock
    starts = λ k. record { first = turned.first k; end = turned.end k; at = record { epoch = later.at.epoch; counter = turned.counter k } }

-- what it is behind a list
pub continues_behind : (clock later : Reading) (entries : List Entry) → Continues clock entries later → IsGoneOn (clock_behind clock (turns_of entries)) later
continues_behind clock later [] goes = gone_on clock later goes
continues_behind clock later (entry ∷ entries) goes = continues_behind entry.later later entries goes.1

-- The last clock of a worker is of no earlier epoch than the one behind its list.
pub list_behind : (terms : Terms) (clock later : Reading) (entries : List Entry) → clock.at.epoch ≤ later.at.epoch → TakesUp terms entries later
    → (clock_behind clock (turns_of entries)).at.epoch ≤ later.at.epoch
list_behind terms clock later [] from takes = from
list_behind terms clock later (entry ∷ entries) from takes = (continues_behind entry.later later entries takes).1

-- ---- a list

module _ (host : Host Content Request) (worker : ℕ) where
  continues_chain : (clock later : Reading) (served : ℕ) (entries : List Entry) → Continues clock entries later → AreNext host worker served entries
      → IsWorkerChain host worker clock served (turns_of entries)
  continues_chain clock later served [] goes next = tt
  continues_chain clock later served (entry ∷ entries) goes next =
      let on = gone_on clock entry.clock goes.0 in
      (on.0, on.1, next.0, continues_chain entry.later later (served_more served entry.request) entries goes.1 next.1)

  -- A worker's list is a chain from the clock at which it begins.
  pub worker_chain : (terms : Terms) (clock later : Reading) (served : ℕ) (entries : List Entry) → TakesUp terms entries later
      → BeginsAt clock entries → AreNext host worker served entries → IsWorkerChain host worker clock served (turns_of entries)
  worker_chain terms clock later served [] takes begins next = tt
  worker_chain terms clock later served (entry ∷ entries) takes begins next =
      (begins.0, begins.1, next.0, continues_chain entry.later later (served_more served entry.request) entries takes next.1)

-- ---- keys and values

module _ (functions : DigestFunctions) (settings : Settings) (script : List (List Task)) (keys : AreInRange settings.header script) (values : HaveShortValues settings.header script) where
  abbrev host : Host Content Request
  host = shipped_host functions settings script

  ask_small : (worker served epoch : ℕ) (request : Option Request) → IsAsked host worker served epoch request → IsAskInRange settings.header request
  ask_small worker served epoch None is = tt
  ask_small worker served epoch (Some request) is = (
    all-got (λ (ask : ℕ × Request). ask.1.key < 2 ^ key_bits (wide_of settings.header)) (asked host worker) served (is.0, request)
        (in_phases (λ ask. ask.key < 2 ^ key_bits (wide_of settings.header)) worker 0 script keys) is.1,
    all-got (λ (ask : ℕ × Request). IsBlob (longest_of settings.header) ask.1.value) (asked host worker) served (is.0, request)
        (in_phases (λ ask. IsBlob (longest_of settings.header) ask.value) worker 0 script values) is.1,
  )

  -- Of what the script asks each key is in range, and each value is short.
  pub next_small : (worker served : ℕ) (entries : List Entry) → AreNext host worker served entries → AllByRecursion (IsSmall settings.header) entries
  next_small worker served [] next = tt
  next_small worker served (entry ∷ entries) next = (
    ask_small worker served entry.clock.at.epoch entry.request next.0,
    next_small worker (served_more served entry.request) entries next.1,
  )

-- ---- stops

-- What holds of each worker's stop holds of all.
pub all-stops : (P : RoundStop → Type 0) (number : ℕ) (rows : List Row)
    → ((i : ℕ) → i < length rows → AllByRecursion P (stop_of (number + i) (row_at rows i).stop)) → AllByRecursion P (stops_from number rows)
all-stops P number [] all = tt
all-stops P number (row ∷ rows) all =
    every-append P (stop_of number row.stop) (stops_from (suc number) rows)
    (subst (λ (n : ℕ). AllByRecursion P (stop_of n row.stop)) (omega arith) (all 0 (omega arith)))
    (all-stops P (suc number) rows
    (λ i there. subst (λ (n : ℕ). AllByRecursion P (stop_of n (row_at rows i).stop)) (omega arith) (all (suc i) (omega (arith, there)))))

-- the stops of later workers are of others
later_stops : (worker number : ℕ) (rows : List Row) → worker < number → AllByRecursion (λ other. worker ≢ other.worker) (stops_from number rows)
later_stops worker number rows before = all-stops (λ other. worker ≢ other.worker) number rows (λ i there. one (number + i) (row_at rows i).stop (omega (arith, before)))
  where
    one : (other : ℕ) (stop : Option Stop) → worker < other → AllByRecursion (λ (s : RoundStop). worker ≢ s.worker) (stop_of other stop)
    one other None less = tt
    one other (Some stop) less = (λ same. absurd (omega (arith, less, same)), tt)

-- Each stop is of another worker.
pub stops_apart : (number : ℕ) (rows : List Row) → AreOfOthers (stops_from number rows)
stops_apart number [] = tt
stops_apart number (row ∷ rows) = go row.stop (stops_apart (suc number) rows)
  where
    go : (stop : Option Stop) → AreOfOthers (stops_from (suc number) rows) → AreOfOthers (stop_of number stop ++ stops_from (suc number) rows)
    go None rest = rest
    go (Some stop) rest = (later_stops number (suc number) rows (omega arith), rest)

-- A worker is among those that stopped where its row says so.
other_flag : (worker i : ℕ) (stop : Option Stop) (rest : List RoundStop) → (worker ≡ i → ⊥) → stops_by i (stop_of worker stop ++ rest) ≡ stops_by i rest
other_flag worker i None rest apart = refl
other_flag worker i (Some stop) rest apart = ap (λ (b : Bool). b || stops_by i rest) (ne_eqb worker i apart)

later_flags : (i number : ℕ) (rows : List Row) → i < number → stops_by i (stops_from number rows) ≡ false
later_flags i number [] before = refl
later_flags i number (row ∷ rows) before =
    other_flag number i row.stop (stops_from (suc number) rows) (λ same. absurd (omega (arith, before, same)))
    ∙ later_flags i (suc number) rows (omega (arith, before))

pub flags_from : (number k i : ℕ) (rows : List Row) → k < length rows → i ≡ number + k → stops_by i (stops_from number rows) ≡ is_some (row_at rows k).stop
flags_from number k i [] there is = absurd (omega (arith, there))
flags_from number zero i (row ∷ rows) there is = go row.stop
  where
    go : (stop : Option Stop) → stops_by i (stop_of number stop ++ stops_from (suc number) rows) ≡ is_some stop
    go None = later_flags i (suc number) rows (omega (arith, is))
    go (Some stop) = ap (λ (b : Bool). b || stops_by i (stops_from (suc number) rows)) (eq-eqb number i (omega (arith, is)))
flags_from number (suc k) i (row ∷ rows) there is =
    other_flag number i row.stop (stops_from (suc number) rows) (λ same. absurd (omega (arith, is, same)))
    ∙ flags_from (suc number) k i rows (omega (arith, there)) (omega (arith, is))
