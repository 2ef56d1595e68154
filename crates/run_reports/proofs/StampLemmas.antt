-- The stamps of what is evicted are in their ranges, and so are those of what is added, which was evicted before.
use Rattle.std.proofs.Common.{◌≡◌, ℕ, suc, ◌+◌, ◌<◌, ◌≤◌, ◌^◌, Bool, true, false, List, [], ◌∷◌, ◌++◌, Ok, refl, sym, subst, if◌then◌else◌, arith}
use Rattle.std.specs.List.{AllByRecursion}
use Rattle.std.proofs.lemmas.Bool.{eqb-false}
use Rattle.std.proofs.lemmas.Grind.{flat_map-append}
use Rattle.lamport_clocks.specs.declared.header.Header.{Header}
use Rattle.lamport_clocks.specs.declared.stamp.Stamp.{Stamp}
use Rattle.lamport_clocks.specs.Reading.{Reading}
use Rattle.lamport_clocks.specs.Clock.{last_epoch, sent}
use Rattle.lamport_clocks.proofs.ClockLaws.{received-epoch, received-bounds, sent-ok, sent-at, sent-bounds, advanced-ok}
use Rattle.record_text.specs.declared.element.Element.{Element}
use Rattle.record_text.specs.Element.{IsStamp}
use Rattle.log_codec.specs.declared.command.Command.{Command}
use Rattle.merkle_records.specs.Scheme.{Scheme}
use Rattle.stamp_order.proofs.InOrderLaws.{every-append}
use Rattle.verifier_commands.specs.State.{opening}
use Rattle.verifier_commands.specs.Change.{Change, did_add_m, did_evict_m, did_add_b, did_evict_b, did_evict_bm, did_get, did_put, did_next_epoch}
use Rattle.verifier_commands.specs.Ticks.{Ticks}
use Rattle.soundness.specs.History.{Event}
use Rattle.soundness.specs.PathHistory.{path_log_events, path_histories_from}
use Rattle.soundness.specs.Certified.{all_events, evicted_by}
use Rattle.soundness.specs.Timed.{added_among, evicted_among}
use Rattle.soundness.specs.Permutation.{same_element, count_of, is_permutation}
use Rattle.soundness.proofs.PermutationLaws.{same_element-true, same_element-self, count_permuted}
use Rattle.soundness.specs.IsHistory.{IsTicking}
use Rattle.soundness.proofs.HistoryLaws.{path_log-ticks}

-- ---- what is evicted

-- the clock's epoch and its counter's end have 32 bits
pub record IsNarrow (clock : Reading) : Type 0 where
  pub epoch : clock.at.epoch < 2 ^ 32
  pub end : clock.end < 2 ^ 32

-- the element's stamp is in its range
abbrev pub IsStamped : Element → Type 0
IsStamped element = IsStamp element.stamp

-- a stamp that such a clock sends
pub sent_stamp : (clock next : Reading) (stamp : Stamp) → IsNarrow clock → sent clock stamp ≡ Ok next → IsStamp stamp
sent_stamp clock next stamp narrow is =
    let told = sent-ok clock next stamp is in
    record { epoch = omega (arith, told.0, narrow.epoch); counter = omega (arith, told.2, narrow.end) }

sent_narrow : (clock next : Reading) (stamp : Stamp) → IsNarrow clock → sent clock stamp ≡ Ok next → IsNarrow next
sent_narrow clock next stamp narrow is = record {
  epoch = subst (λ (s : Stamp). s.epoch < 2 ^ 32) (sym (sent-at clock next stamp is)) (sent_stamp clock next stamp narrow is).epoch;
  end = omega (arith, narrow.end, (sent-bounds clock next stamp is).end);
}

-- the clock stays so
pub narrow_after : (clock next : Reading) (change : Change) → IsNarrow clock → Ticks clock next change → IsNarrow next
narrow_after clock next (did_add_m parent after child) narrow is = subst IsNarrow (sym is) narrow
narrow_after clock next (did_evict_m parent after child) narrow is = subst IsNarrow (sym is) narrow
narrow_after clock next (did_add_b child element) narrow is = record {
  epoch = omega (arith, narrow.epoch, received-epoch clock next element.stamp is);
  end = omega (arith, narrow.end, (received-bounds clock next element.stamp is).end);
}
narrow_after clock next (did_evict_b child element) narrow is = sent_narrow clock next element.stamp narrow is
narrow_after clock next (did_evict_bm parent after child element) narrow is = sent_narrow clock next element.stamp narrow is
narrow_after clock next (did_get entry) narrow is = subst IsNarrow (sym is) narrow
narrow_after clock next (did_put before after) narrow is = subst IsNarrow (sym is) narrow
narrow_after clock next (did_next_epoch sealed) narrow is =
    let told = advanced-ok clock next sealed is in
    let past : clock.at.epoch + 1 < 2 ^ 32 = omega (arith, eqb-false clock.at.epoch last_epoch told.0, narrow.epoch) in
    subst IsNarrow (sym told.2) (record { epoch = past; end = narrow.end })

evicted_stamped : (clock next : Reading) (change : Change) → IsNarrow clock → Ticks clock next change → AllByRecursion IsStamped (evicted_by change)
evicted_stamped clock next (did_add_m parent after child) narrow is = tt
evicted_stamped clock next (did_evict_m parent after child) narrow is = tt
evicted_stamped clock next (did_add_b child element) narrow is = tt
evicted_stamped clock next (did_evict_b child element) narrow is = (sent_stamp clock next element.stamp narrow is, tt)
evicted_stamped clock next (did_evict_bm parent after child element) narrow is = (sent_stamp clock next element.stamp narrow is, tt)
evicted_stamped clock next (did_get entry) narrow is = tt
evicted_stamped clock next (did_put before after) narrow is = tt
evicted_stamped clock next (did_next_epoch sealed) narrow is = tt

ticking_stamped : (number index : ℕ) (clock : Reading) (events : List Event) → IsNarrow clock → IsTicking number index clock events
    → AllByRecursion IsStamped (evicted_among events)
ticking_stamped number index clock [] narrow ticks = tt
ticking_stamped number index clock (event ∷ events) narrow ticks =
    every-append IsStamped (evicted_by event.change) (evicted_among events)
    (evicted_stamped clock ticks.0 event.change narrow ticks.4)
    (ticking_stamped number (suc index) ticks.0 events (narrow_after clock ticks.0 event.change narrow ticks.4) ticks.5)

-- the numbers of a header with which each clock begins
pub opening_narrow : (number : ℕ) (header : Header) → header.first < 2 ^ 32 → header.end < 2 ^ 32 → IsNarrow (opening number header).clock
opening_narrow number header first end = record { epoch = first; end = end }

-- What the logs of a bundle evict is stamped so.
pub logs_evict : (scheme : Scheme) (header : Header) (number : ℕ) (logs : List (List Command)) → header.first < 2 ^ 32 → header.end < 2 ^ 32
    → AllByRecursion IsStamped (evicted_among (all_events (path_histories_from scheme header number logs)))
logs_evict scheme header number [] first end = tt
logs_evict scheme header number (log ∷ logs) first end =
    let here = path_log_events scheme header number log in
    let rest = all_events (path_histories_from scheme header (suc number) logs) in
    subst (AllByRecursion IsStamped) (sym (flat_map-append (λ (event : Event). evicted_by event.change) here rest))
    (every-append IsStamped (evicted_among here) (evicted_among rest)
    (ticking_stamped number 0 (opening number header).clock here (opening_narrow number header first end) (path_log-ticks scheme header number log))
    (logs_evict scheme header (suc number) logs first end))

-- ---- what is added

-- what holds of two lists joined, holds of each
module _ {X : Type 0} (P : X → Type 0) where
  pub every-first : (xs ys : List X) → AllByRecursion P (xs ++ ys) → AllByRecursion P xs
  every-first [] ys all = tt
  every-first (x ∷ xs) ys all = (all.0, every-first xs ys all.1)

  pub every-second : (xs ys : List X) → AllByRecursion P (xs ++ ys) → AllByRecursion P ys
  every-second [] ys all = all
  every-second (x ∷ xs) ys all = every-second xs ys all.1

-- what each of a list has, an element has that stands in it
counted_has : (P : Element → Type 0) (x : Element) (ys : List Element) → AllByRecursion P ys → 1 ≤ count_of x ys → P x
counted_has P x [] all some = absurd (omega (arith, some))
counted_has P x (y ∷ ys) all some = go (counted_has P x ys all.1) (same_element x y) refl some
  where
    go : (1 ≤ count_of x ys → P x) → (b : Bool) → same_element x y ≡ b → 1 ≤ (if b then suc (count_of x ys) else count_of x ys) → P x
    go deeper true same some = subst P (sym (same_element-true x y same)) all.0
    go deeper false apart some = deeper some

counts_own : (x : Element) (xs : List Element) → 1 ≤ count_of x (x ∷ xs)
counts_own x xs =
    subst (λ (b : Bool). 1 ≤ (if b then suc (count_of x xs) else count_of x xs)) (sym (same_element-self x)) (omega arith)

counts_rest : (z x : Element) (xs : List Element) → count_of z xs ≤ count_of z (x ∷ xs)
counts_rest z x xs = go (same_element z x)
  where
    go : (b : Bool) → count_of z xs ≤ (if b then suc (count_of z xs) else count_of z xs)
    go true = omega arith
    go false = omega arith

-- so have all of another list that stand in it
counted_have : (P : Element → Type 0) (xs ys : List Element) → AllByRecursion P ys → ((z : Element) → count_of z xs ≤ count_of z ys) → AllByRecursion P xs
counted_have P [] ys all within = tt
counted_have P (x ∷ xs) ys all within = (
  counted_has P x ys all (omega (arith, counts_own x xs, within x)),
  counted_have P xs ys all (λ z. omega (arith, counts_rest z x xs, within z)),
)

-- What is added is stamped as what is evicted, where these are those that are added and those that wait.
pub logs_add : (events : List Event) (wait : List Element) → AllByRecursion IsStamped (evicted_among events)
    → is_permutation (evicted_among events) (added_among events ++ wait) ≡ true
    → AllByRecursion IsStamped (added_among events)
logs_add events wait all even =
    every-first IsStamped (added_among events) wait
    (counted_have IsStamped (added_among events ++ wait) (evicted_among events) all
    (λ z. omega (arith, count_permuted (evicted_among events) (added_among events ++ wait) even z)))
