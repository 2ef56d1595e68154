-- Soundness whole: of epochs that are balanced, either there is nothing to exhibit and the operations are serial, or
-- the exhibit collides.
use Rattle.std.proofs.Common.{◌≡◌, ◌⊎◌, ℕ, zero, suc, ◌+◌, ◌≤◌, Bool, true, false, List, [], ◌∷◌, ◌++◌, map, Option, Some, None, refl, sym, ◌∙◌, ap, subst, inl, inr, if◌then◌else◌, arith, nat_le}
use Rattle.std.specs.List.{AllByRecursion}
use Rattle.std.proofs.lemmas.Bool.{leb-true}
use Rattle.lamport_clocks.specs.declared.header.Header.{Header}
use Rattle.record_text.specs.declared.element.Element.{Element}
use Rattle.record_text.proofs.OneTextLaws.{one_value_at}
use Rattle.record_text.specs.Tree.{wide_of}
use Rattle.record_text.specs.Longest.{longest_of}
use Rattle.log_codec.specs.declared.command.Command.{Command}
use Rattle.log_codec.specs.declared.log_command.LogCommand.{LogCommand}
use Rattle.record_hash.specs.Functions.{DigestFunctions}
use Rattle.merkle_records.specs.Merkle.{GivesDigests}
use Rattle.merkle_records.specs.Scheme.{scheme_of}
use Rattle.stamp_order.specs.Serial.{none_everywhere}
use Rattle.stamp_order.specs.Merged.{IsMerged, up_to}
use Rattle.soundness.specs.History.{Event, histories_of}
use Rattle.soundness.specs.Certified.{operations_in, event_moment, order_of, order_up_to, order_within, added_in, evicted_in, sum_over}
use Rattle.soundness.specs.Clash.{Strings, none_evicted, first_clash}
use Rattle.soundness.specs.Collision.{Collides}
use Rattle.soundness.specs.Exhibit.{first_uneven, exhibit_by, exhibit_of}
use Rattle.soundness.specs.Timed.{IsTimed}
use Rattle.soundness.specs.Typed.{AreTyped, ArePathsTyped}
use Rattle.soundness.specs.PathHistory.{path_histories_of}
use Rattle.soundness.specs.IsHistory.{AreHistories}
use Rattle.soundness.specs.Sound.{AreBalanced, IsSerialOrCollides}
use Rattle.soundness.specs.Permutation.{count_of}
use Rattle.soundness.specs.Spot.{waiting}
use Rattle.soundness.specs.Showing.{opening_shown}
use Rattle.soundness.specs.World.{IsWaiting}
use Rattle.soundness.proofs.JoinLemmas.{is_waiting, not_waiting}
use Rattle.soundness.proofs.KnownLemmas.{HasOneText}
use Rattle.soundness.proofs.PermutationLaws.{count_permuted}
use Rattle.soundness.proofs.SerialLemmas.{run_keeps, Collides as CollidesAt, IsSound}
use Rattle.soundness.proofs.ScheduleLemmas.{AreEven, scheduled}
use Rattle.soundness.proofs.PathHistoryLaws.{path_logs_histories}
use Rattle.soundness.proofs.LogHistoryLemmas.{logs_histories}
use Rattle.soundness.proofs.OrderLemmas.{are_timely, order_run, order_timed, order_sorted, order_splits}
use Rattle.soundness.proofs.OpeningLemmas.{opening_spots, opening_cases, opening_world}
use Rattle.soundness.proofs.CertifiedLaws.{same_sum-true, even_where_none, uneven_where_some}

-- no two values of a path have one text
pub one_text : (longest : ℕ) → HasOneText longest
one_text longest path a b is_a is_b same =
    (one_value_at longest path a b [] [] is_a is_b (ap (λ (text : List ℕ). text ++ []) same)).0

-- events up to an epoch are of no later one
pub all_within : (epoch : ℕ) (events : List Event) → AllByRecursion (λ event. event.at.epoch ≤ epoch) (up_to event_moment epoch events)
all_within epoch [] = tt
all_within epoch (event ∷ events) = go (nat_le event.at.epoch epoch) refl (all_within epoch events)
  where
    go : (b : Bool) → nat_le event.at.epoch epoch ≡ b → AllByRecursion (λ event. event.at.epoch ≤ epoch) (up_to event_moment epoch events)
        → AllByRecursion (λ event. event.at.epoch ≤ epoch) (if b then event ∷ up_to event_moment epoch events else up_to event_moment epoch events)
    go true is further = (leb-true event.at.epoch epoch is, further)
    go false is further = further

-- nothing waits at the opening
pub none_waiting : (wide : Bool) → IsWaiting (opening_spots wide) []
none_waiting wide = record { each = λ x there. absurd (omega (arith, there)); once = λ x. omega arith; only = only }
  where
    only : (path : List Bool) (x : Element) → opening_spots wide path ≡ waiting x → 1 ≤ count_of x []
    only path x there =
        absurd (not_waiting (opening_spots wide path) (opening_spots wide path) x refl
        (opening_cases wide (λ path spot. is_waiting spot ≡ false) refl (λ path. refl) path) there)

-- Of any histories.
pub histories_sound : (functions : DigestFunctions) (header : Header) (histories : List (List Event)) (count : ℕ)
    → GivesDigests functions.digest → AreHistories (longest_of header) functions.digest header 0 histories
    → AreBalanced (scheme_of functions header) (order_of histories) header.first count
    → IsSerialOrCollides (scheme_of functions header) (exhibit_of header.first count histories)
    (operations_in (order_within header.first count histories))
histories_sound functions header histories count digests are balanced = by (first_uneven order header.first count) refl
  where
    order : List Event
    order = order_of histories

    within : List Event
    within = order_within header.first count histories

    clash : Option Strings
    clash = first_clash none_evicted (map (λ (event : Event). event.change) within)

    -- up to the last of the epochs
    runs : (n : ℕ) → AreEven header.first (header.first + n) order
        → CollidesAt functions.digest none_evicted (order_up_to (header.first + n) histories) ⊎ IsSound none_evicted none_everywhere (order_up_to (header.first + n) histories)
    runs n even =
        let split = order_splits (header.first + n) histories in
        run_keeps (wide_of header) (longest_of header) functions.digest (one_text (longest_of header)) digests (order_up_to (header.first + n) histories) (opening_shown header) none_evicted none_everywhere (opening_spots (wide_of header)) []
        (opening_world functions.digest header) (none_waiting (wide_of header))
        (order_run header (longest_of header) functions.digest histories (header.first + n) are)
        (scheduled header.first (header.first + n) (order_up_to (header.first + n) histories) split.0
        (all_within (header.first + n) order)
        (subst (λ (l : List Event). IsMerged event_moment l) split.1 (order_sorted histories))
        (subst (λ (l : List Event). AllByRecursion (λ event. IsTimed header.first event.at event.change) l) split.1
        (order_timed header histories (are_timely (longest_of header) functions.digest header 0 histories are)))
        (subst (λ (l : List Event). AreEven header.first (header.first + n) l) split.1 even))

    all_even : (n : ℕ) → first_uneven order header.first (suc n) ≡ None → AreEven header.first (header.first + n) order
    all_even n none epoch from up x =
        count_permuted (added_in epoch order) (evicted_in epoch order) (even_where_none order header.first (suc n) none epoch from (omega (arith, up))) x

    at_count : (k : ℕ) → first_uneven order header.first k ≡ None
        → CollidesAt functions.digest none_evicted (order_within header.first k histories) ⊎ IsSound none_evicted none_everywhere (order_within header.first k histories)
    at_count zero none = inr (refl, tt)
    at_count (suc n) none = runs n (all_even n none)

    ended : first_uneven order header.first count ≡ None
        → CollidesAt functions.digest none_evicted within ⊎ IsSound none_evicted none_everywhere within
        → IsSerialOrCollides (scheme_of functions header) (exhibit_of header.first count histories) (operations_in within)
    ended none (inl collides) =
        inr (subst (Collides (scheme_of functions header))
        (sym (ap (λ (o : Option ℕ). exhibit_by order o clash) none ∙ ap (exhibit_by order None) collides.1)) collides.2)
    ended none (inr serial) =
        inl (ap (λ (o : Option ℕ). exhibit_by order o clash) none ∙ ap (exhibit_by order None) serial.0, serial.1)

    by : (o : Option ℕ) → first_uneven order header.first count ≡ o → IsSerialOrCollides (scheme_of functions header) (exhibit_of header.first count histories) (operations_in within)
    by None none = ended none (at_count count none)
    by (Some epoch) is =
        let uneven = uneven_where_some order header.first count epoch is in
        inr (subst (Collides (scheme_of functions header)) (sym (ap (λ (o : Option ℕ). exhibit_by order o clash) is))
        (uneven.2, same_sum-true (sum_over (scheme_of functions header) (added_in epoch order)) (sum_over (scheme_of functions header) (evicted_in epoch order)) (balanced epoch uneven.0 uneven.1)))

-- And so of those of logs.
pub sound : (functions : DigestFunctions) (header : Header) (logs : List (List LogCommand)) (count : ℕ)
    → GivesDigests functions.digest → AreTyped (longest_of header) logs
    → AreBalanced (scheme_of functions header) (order_of (histories_of (scheme_of functions header) header logs)) header.first count
    → IsSerialOrCollides (scheme_of functions header) (exhibit_of header.first count (histories_of (scheme_of functions header) header logs))
    (operations_in (order_within header.first count (histories_of (scheme_of functions header) header logs)))
sound functions header logs count digests typed balanced =
    histories_sound functions header (histories_of (scheme_of functions header) header logs) count digests
    (logs_histories (scheme_of functions header) header 0 logs typed) balanced

-- Also where all of their commands name paths.
pub path_sound : (functions : DigestFunctions) (header : Header) (logs : List (List Command)) (count : ℕ)
    → GivesDigests functions.digest → ArePathsTyped (longest_of header) logs
    → AreBalanced (scheme_of functions header) (order_of (path_histories_of (scheme_of functions header) header logs)) header.first count
    → IsSerialOrCollides (scheme_of functions header) (exhibit_of header.first count (path_histories_of (scheme_of functions header) header logs))
    (operations_in (order_within header.first count (path_histories_of (scheme_of functions header) header logs)))
path_sound functions header logs count digests typed balanced =
    histories_sound functions header (path_histories_of (scheme_of functions header) header logs) count digests
    (path_logs_histories (scheme_of functions header) header 0 logs typed) balanced
