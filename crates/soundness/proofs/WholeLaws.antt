-- What the laws say of whole bundles: of logs that are read from bytes, of their schedule, and of each log's part.
use Rattle.std.proofs.Common.{◌≡◌, ℕ, zero, suc, ◌+◌, eqb, List, [], ◌∷◌, get_or, refl, ◌∙◌, ap, subst, arith}
use Rattle.std.proofs.lemmas.Bool.{cond-true, cond-false, eq-eqb, ne_eqb}
use Rattle.lamport_clocks.specs.declared.header.Header.{Header}
use Rattle.record_text.specs.Format.{LogFormat, format_of}
use Rattle.log_codec.specs.declared.log_command.LogCommand.{LogCommand}
use Rattle.record_hash.specs.Functions.{DigestFunctions}
use Rattle.merkle_records.specs.Merkle.{GivesDigests}
use Rattle.merkle_records.specs.Scheme.{Scheme, scheme_of}
use Rattle.stamp_order.specs.Merged.{IsMerged, up_to, of_verifier}
use Rattle.soundness.specs.History.{Event, histories_of}
use Rattle.soundness.specs.Typed.{AreTyped}
use Rattle.soundness.specs.IsHistory.{AreTimely}
use Rattle.soundness.specs.Certified.{certified_operations, event_moment, order_of, order_up_to, added_in, evicted_in, certified_count, sealed_by_all}
use Rattle.soundness.specs.Exhibit.{exhibit_of}
use Rattle.soundness.specs.Timed.{AreTimed}
use Rattle.soundness.specs.Scheduled.{IsScheduled, ArePermuted}
use Rattle.soundness.specs.Sound.{IsSerialOrCollides, commands_of, histories_read}
use Rattle.soundness.proofs.PermutationLaws.{count_permuted}
use Rattle.soundness.proofs.ScheduleLemmas.{AreEven, scheduled}
use Rattle.soundness.proofs.OrderLemmas.{history_of, part_up_to, order_timed, order_sorted, order_splits}
use Rattle.soundness.proofs.CertifiedLaws.{counted_balanced}
use Rattle.soundness.proofs.LogHistoryLemmas.{logs_timely}
use Rattle.soundness.proofs.SoundLaws.{all_within, sound}
use Rattle.soundness.proofs.TypedLaws.{read_typed}

-- ---- logs that are read from bytes

-- their commands are typed
commands_typed : (format : LogFormat) (logs : List (List ℕ)) → AreTyped format.longest (commands_of format logs)
commands_typed format [] = tt
commands_typed format (bytes ∷ logs) = (read_typed format bytes, commands_typed format logs)

-- The operations of the certified epochs are serial, or the exhibit collides.
pub certified_sound : (functions : DigestFunctions) (header : Header) (logs : List (List ℕ))
    → let histories = histories_read (scheme_of functions header) header logs in
    let count = certified_count (scheme_of functions header) header.first histories in
    GivesDigests functions.digest
    → IsSerialOrCollides (scheme_of functions header) (exhibit_of header.first count histories)
    (certified_operations (scheme_of functions header) header.first histories)
certified_sound functions header logs digests =
    let histories = histories_read (scheme_of functions header) header logs in
    sound functions header (commands_of (format_of header) logs) (certified_count (scheme_of functions header) header.first histories) digests
    (commands_typed (format_of header) logs) (counted_balanced (scheme_of functions header) (order_of histories) header.first (sealed_by_all histories))

-- ---- the schedule

-- Where each epoch up to the last is even, the events up to it are scheduled.
pub order_scheduled : (header : Header) (histories : List (List Event)) (last : ℕ) → AreTimely header 0 histories
    → ArePermuted header.first last (order_of histories)
    → IsScheduled [] (order_up_to last histories)
order_scheduled header histories last timely permuted =
    let order = order_of histories in
    let split = order_splits last histories in
    let even : AreEven header.first last order = λ epoch from up x.
    count_permuted (added_in epoch order) (evicted_in epoch order) (permuted epoch from up) x in
    scheduled header.first last (order_up_to last histories) split.0 (all_within last order)
    (subst (λ (l : List Event). IsMerged event_moment l) split.1 (order_sorted histories))
    (subst (λ (l : List Event). AreTimed header.first l) split.1 (order_timed header histories timely))
    (subst (λ (l : List Event). AreEven header.first last l) split.1 even)

-- ---- each log's part

-- a verifier's history is the one at its place
history_there : (number : ℕ) (histories : List (List Event)) (i v : ℕ) → v ≡ number + i
    → history_of number histories v ≡ get_or histories i []
history_there number [] i v is = refl
history_there number (history ∷ histories) zero v is =
    cond-true (eqb number v) history (history_of (suc number) histories v) (eq-eqb number v (omega (arith, is)))
history_there number (history ∷ histories) (suc i) v is =
    cond-false (eqb number v) history (history_of (suc number) histories v)
    (ne_eqb number v (λ same. absurd (omega (arith, same, is))))
    ∙ history_there (suc number) histories i v (omega (arith, is))

-- A verifier's part of the merged order up to an epoch is its history up to that epoch.
pub histories_part : (header : Header) (histories : List (List Event)) (epoch v : ℕ) → AreTimely header 0 histories
    → of_verifier event_moment v (order_up_to epoch histories) ≡ up_to event_moment epoch (get_or histories v [])
histories_part header histories epoch v timely =
    part_up_to header histories timely epoch v
    ∙ ap (up_to event_moment epoch) (history_there 0 histories v v (omega arith))

-- And so it is of logs.
pub order_part : (scheme : Scheme) (header : Header) (logs : List (List LogCommand))
    (epoch v : ℕ)
    → of_verifier event_moment v (order_up_to epoch (histories_of scheme header logs))
    ≡ up_to event_moment epoch (get_or (histories_of scheme header logs) v [])
order_part scheme header logs epoch v =
    histories_part header (histories_of scheme header logs) epoch v (logs_timely scheme header 0 logs)
