-- What the only worker of a rolling host did of its part of a round keeps to its loop.
use Rattle.std.proofs.Common.{◌≡◌, ◌⊎◌, inl, inr, ⊎_elim, ℕ, zero, suc, ◌+◌, ◌%◌, ◌<◌, ◌≤◌, max, List, [], ◌∷◌, drop, slice_get, Option, Some, None, refl, sym, ◌∙◌, ap, subst, arith}
use Rattle.std.specs.List.{AllByRecursion}
use Rattle.std.proofs.lemmas.Bool.{cases_lt}
use Rattle.record_hash.specs.Functions.{DigestFunctions}
use Rattle.record_text.specs.declared.request.Request.{Request}
use Rattle.script_text.specs.declared.task.Task.{Task}
use Rattle.host_core.specs.Host.{Host, asked}
use Rattle.host_core.specs.World.{Worker}
use Rattle.host_shard.specs.Content.{Content, cold, hot, vacant}
use Rattle.host_shard.specs.Shown.{shown_content}
use Rattle.round_order.specs.Turn.{served_more}
use Rattle.host_epochs.specs.declared.told.Entry.{Entry}
use Rattle.host_epochs.specs.declared.views.Row.{Row}
use Rattle.host_epochs.specs.Terms.{Terms, Waits, first_epoch, final_epoch}
use Rattle.shipped_host.specs.declared.settings.Settings.{Settings}
use Rattle.shipped_host.specs.ShippedHost.{shipped_host}
use Rattle.host_serving.specs.Loop as loop
use Rattle.host_serving.specs.Loop.{AreInOrderBehind, AreNoLater, IsFirstOf, IsNoLater, KeepsToLoop, MayBeScanned, serving_epoch}
use Rattle.table_order.specs.Rounds.{turn_of, turns_of}
use Rattle.round_workers.specs.Order.{AreCalledFor, AreFresh, AreInOrder, IsFresh, IsInOrder, MayFollow, NoneMay, called_epoch, left_behind, served_in}
use Rattle.round_workers.specs.Parts.{HasDoneUpTo}

-- ---- the order of scans

-- the number, if there is one, is the epoch from which the turn's worker came
abbrev IsCome : Option ℕ → ℕ → Type 0
IsCome None from = Unit {0}
IsCome (Some before) from = before ≡ from

first_of : (before : Option ℕ) (from epoch : ℕ) → IsCome before from → from < epoch → IsFirstOf before epoch
first_of None from epoch come less = tt
first_of (Some before) from epoch come less = λ same. omega (arith, come, less, same)

may_follow : (before : Option ℕ) (from : ℕ) (entry : Entry) (shard : ℕ) → IsCome before from → (request : Option Request)
    → MayFollow from (turn_of entry) request shard → MayBeScanned before (turn_of entry) request shard
may_follow before from entry shard come None may = may
may_follow before from entry shard come (Some request) may = first_of before from entry.clock.at.epoch come may

order_behind : (before : Option ℕ) (from : ℕ) (entry : Entry) (entries : List Entry) → IsCome before from
    → AreInOrder entry.later.at.epoch (MayFollow from (turn_of entry) entry.request) (turns_of entries)
    → AreInOrderBehind before (turn_of entry) (turns_of entries)
order_behind before from entry [] come is = tt
order_behind before from entry (next ∷ entries) come is = (
  (λ none same. go same (subst (IsInOrder entry.later.at.epoch (MayFollow from (turn_of entry) entry.request) (turn_of next)) none is.0)),
  order_behind (Some entry.later.at.epoch) entry.later.at.epoch next entries refl is.1,
)
  where
    go : next.clock.at.epoch ≡ entry.later.at.epoch
        → IsInOrder entry.later.at.epoch (MayFollow from (turn_of entry) entry.request) (turn_of next) None
        → MayBeScanned before (turn_of entry) entry.request (turn_of next).place.shard
    go same its = ⊎_elim
        (λ (later : entry.later.at.epoch < next.clock.at.epoch). absurd (omega (arith, later, same)))
        (λ (may : MayFollow from (turn_of entry) entry.request (turn_of next).place.shard).
        may_follow before from entry (turn_of next).place.shard come entry.request may)
        its.1

loop_order : (from : ℕ) (entries : List Entry) → AreInOrder from NoneMay (turns_of entries) → loop.AreInOrder (turns_of entries)
loop_order from [] is = tt
loop_order from (entry ∷ entries) is = order_behind None from entry entries tt is.1

-- ---- what is left to do

drop_found : {X : Type 0} (xs : List X) (n : ℕ) (x : X) → slice_get xs n ≡ Some x → drop n xs ≡ x ∷ drop (suc n) xs
drop_found [] zero x found = absurd cc
drop_found [] (suc n) x found = absurd cc
drop_found (y ∷ ys) zero x found = cc
drop_found (y ∷ ys) (suc n) x found = drop_found ys n x found

drop_next : {R : Type 0} (xs : List (ℕ × R)) (n : ℕ) (request : R) → drop (suc n) xs ≡ left_behind (Some request) (drop n xs)
drop_next [] zero request = cc
drop_next [] (suc n) request = cc
drop_next (y ∷ ys) zero request = cc
drop_next (y ∷ ys) (suc n) request = drop_next ys n request

at_most : (n one other : ℕ) → n ≤ max one other → (n ≤ one) ⊎ (n ≤ other)
at_most n one other below = ⊎_elim
    (λ (less : one < n). inr (omega (arith, less, below)))
    (λ (there : n ≤ one). inl there)
    (cases_lt one n)

module _ (functions : DigestFunctions) (settings : Settings) (script : List (List Task)) (terms : Terms) (alone : terms.workers ≡ 1) where
  abbrev host : Host Content Request
  host = shipped_host functions settings script

  abbrev first : ℕ
  first = first_epoch terms

  -- ---- what is found

  found_at : (epoch : ℕ) (content : Content) → Waits (λ e. e ≡ epoch) content → AllByRecursion (λ element. element.stamp.epoch ≡ epoch) (host.pending content)
  found_at epoch (cold shard) waits = (waits, tt)
  found_at epoch (hot kept) waits = (waits, tt)
  found_at epoch vacant waits = tt

  -- each place is the only worker's own
  loop_fresh : (entries : List Entry) → AllByRecursion (λ entry. entry.worker ≡ 0) entries → AreFresh terms.workers (turns_of entries)
      → loop.AreFresh host (turns_of entries)
  loop_fresh [] own fresh = tt
  loop_fresh (entry ∷ entries) own fresh = (go entry.request fresh.0, loop_fresh entries own.1 fresh.1)
    where
      go : (request : Option Request) → IsFresh terms.workers (turn_of entry) request → loop.IsFresh host (turn_of entry) request
      go None is = tt
      go (Some request) is =
          let zeroth : (turn_of entry).place.shard % 1 ≡ 0 = omega arith in
          found_at entry.clock.at.epoch (shown_content entry.before)
          (is (ap (λ (n : ℕ). (turn_of entry).place.shard % n) alone ∙ zeroth ∙ sym own.0))

  -- ---- no later than it is asked

  module _ (is_first : first ≡ host.header.first) where
    loop_later : (served epoch last : ℕ) (asks : List (ℕ × Request)) (entries : List Entry) → drop served (asked host 0) ≡ asks
        → AreCalledFor first (final_epoch terms) epoch asks (turns_of entries) last → AreNoLater host served epoch (turns_of entries)
    loop_later served epoch last asks [] cut called = tt
    loop_later served epoch last asks (entry ∷ entries) cut called =
        (here entry.request, behind (λ n e left is more. loop_later n e last left entries is more) entry.request called.1)
      where
        here : (request : Option Request) → IsNoLater host served epoch (turn_of entry) request
        here None = tt
        here (Some request) = λ phase found.
            let asks_is : asks ≡ (phase, request) ∷ drop (suc served) (asked host 0) = sym cut ∙ drop_found (asked host 0) served (phase, request) found in
            let to : entry.clock.at.epoch ≤ max epoch (first + phase) =
            subst (λ (left : List (ℕ × Request)). entry.clock.at.epoch ≤ called_epoch first (final_epoch terms) epoch left) asks_is called.0 in
            subst (λ (n : ℕ). (entry.clock.at.epoch ≤ epoch) ⊎ (entry.clock.at.epoch ≤ n + phase)) is_first
            (at_most entry.clock.at.epoch epoch (first + phase) to)

        Behind : Type 0
        Behind = (n e : ℕ) (left : List (ℕ × Request)) → drop n (asked host 0) ≡ left
            → AreCalledFor first (final_epoch terms) e left (turns_of entries) last → AreNoLater host n e (turns_of entries)

        behind : Behind → (request : Option Request)
            → AreCalledFor first (final_epoch terms) (served_in epoch (turn_of entry) request) (left_behind request asks) (turns_of entries) last
            → AreNoLater host (served_more served request) (serving_epoch epoch (turn_of entry) request) (turns_of entries)
        behind then None more = then served epoch asks cut more
        behind then (Some request) more =
            then (suc served) entry.clock.at.epoch (left_behind (Some request) asks)
            (drop_next (asked host 0) served request ∙ ap (left_behind (Some request)) cut) more

    -- What it did keeps to the loop, from the epoch of the making on.
    pub keeps_to_loop : (served : ℕ) (asks rest : List (ℕ × Request)) (row : Row) (old new : Worker) → AllByRecursion (λ entry. entry.worker ≡ 0) row.list
        → drop served (asked host 0) ≡ asks → HasDoneUpTo terms asks rest row old new → KeepsToLoop host served first (turns_of row.list)
    keeps_to_loop served asks rest row old new own cut has = record {
      fresh = loop_fresh row.list own has.fresh;
      in_order = loop_order first row.list has.order;
      no_later = loop_later served first (first + row.entered) asks row.list cut (has.called alone);
    }
