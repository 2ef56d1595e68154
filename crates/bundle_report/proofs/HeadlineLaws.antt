-- The headline holds of any bytes.
use Rattle.std.proofs.Common.{◌≡◌, ℕ, ◌==◌, Bool, true, false, List, [], ◌∷◌, map, Option, Some, None, IfSome, refl, if◌then◌else◌, zero, suc, ◌+◌, ◌++◌, get_or, ◌∙◌, ap}
use Rattle.std.specs.List.{AllByRecursion}
use Rattle.std.proofs.lemmas.List.Elements.{filter-append}
use Rattle.record_text.specs.Format.{LogFormat, format_of}
use Rattle.log_codec.specs.declared.log_command.LogCommand.{LogCommand}
use Rattle.record_hash.specs.Functions.{DigestFunctions}
use Rattle.record_hash.specs.ShaDigests.{sha_under}
use Rattle.record_hash.specs.Shapes.{IsDigest-sha256}
use Rattle.lamport_clocks.specs.declared.header.Header.{Header}
use Rattle.log_codec.specs.Log.{Log, read_log}
use Rattle.merkle_records.specs.Merkle.{GivesDigests}
use Rattle.merkle_records.specs.Scheme.{Scheme, scheme_of}
use Rattle.record_text.specs.declared.operation.Operation.{Operation}
use Rattle.stamp_order.specs.Merged.{of_verifier}
use Rattle.stamp_order.specs.Operations.{moment_of}
use Rattle.verifier_commands.specs.Change.{Change, did_add_m, did_evict_m, did_add_b, did_evict_b, did_evict_bm, did_get, did_put, did_next_epoch}
use Rattle.soundness.specs.History.{Event, histories_of}
use Rattle.soundness.specs.Certified.{event_moment, operation_at, operations_by, operations_in, order_of, order_up_to, order_within, sealed_by_all, certified_count, certified_operations}
use Rattle.soundness.specs.Sound.{IsSerialOrCollides}
use Rattle.soundness.proofs.WholeLaws.{order_part}
use Rattle.soundness.specs.Typed.{IsTyped}
use Rattle.soundness.proofs.CertifiedLaws.{counted_balanced}
use Rattle.soundness.proofs.SoundLaws.{sound}
use Rattle.soundness.proofs.TypedLaws.{read_typed}
use Rattle.bundle_report.specs.Logged.{logged_of}
use Rattle.bundle_report.specs.BundleReport.{histories_at}
use Rattle.bundle_report.specs.Headline.{certified_exhibit, own_operations, KeepsEachLog, IsSoundAt, IsSound, IsShaSound}

typed : (format : LogFormat) (logs : List (List ℕ)) → AllByRecursion (AllByRecursion (IsTyped format.longest)) (map (λ (log : Log). log.commands) (map (read_log format) logs))
typed format [] = tt
typed format (log ∷ logs) = (read_typed format log, typed format logs)

serial_in : (functions : DigestFunctions) (header : Header) (logs : List (List ℕ)) → GivesDigests functions.digest
    → let scheme = scheme_of functions header in
    let histories = histories_at scheme header logs in
    IsSerialOrCollides scheme (certified_exhibit scheme header.first histories) (certified_operations scheme header.first histories)
serial_in functions header logs digests =
    let scheme = scheme_of functions header in
    let histories = histories_at scheme header logs in
    sound functions header (map (λ (log : Log). log.commands) (map (read_log (format_of header)) logs)) (certified_count scheme header.first histories) digests (typed (format_of header) logs)
    (counted_balanced scheme (order_of histories) header.first (sealed_by_all histories))

-- ---- each verifier's order

-- the operations of an event are its verifier's
own-by : (verifier : ℕ) (event : Event) (change : Change) (b : Bool) → (event.verifier == verifier) ≡ b
    → of_verifier moment_of verifier (operations_by event change) ≡ (if b then operations_by event change else [])
own-by verifier event (did_add_m parent after child) true is = refl
own-by verifier event (did_add_m parent after child) false is = refl
own-by verifier event (did_evict_m parent after child) true is = refl
own-by verifier event (did_evict_m parent after child) false is = refl
own-by verifier event (did_add_b child element) true is = refl
own-by verifier event (did_add_b child element) false is = refl
own-by verifier event (did_evict_b child element) true is = refl
own-by verifier event (did_evict_b child element) false is = refl
own-by verifier event (did_evict_bm parent after child element) true is = refl
own-by verifier event (did_evict_bm parent after child element) false is = refl
own-by verifier event (did_get entry) true is = ap (λ (b : Bool). if b then operation_at event false entry ∷ [] else []) is
own-by verifier event (did_get entry) false is = ap (λ (b : Bool). if b then operation_at event false entry ∷ [] else []) is
own-by verifier event (did_put before after) true is = ap (λ (b : Bool). if b then operation_at event true after ∷ [] else []) is
own-by verifier event (did_put before after) false is = ap (λ (b : Bool). if b then operation_at event true after ∷ [] else []) is
own-by verifier event (did_next_epoch sealed) true is = refl
own-by verifier event (did_next_epoch sealed) false is = refl

-- the operations of a verifier among events are those of its events
own-operations : (verifier : ℕ) (events : List Event) → of_verifier moment_of verifier (operations_in events) ≡ operations_in (of_verifier event_moment verifier events)
own-operations verifier [] = refl
own-operations verifier (event ∷ events) =
    filter-append (λ (operation : Operation). operation.verifier == verifier) (operations_by event event.change) (operations_in events)
    ∙ go (event.verifier == verifier) refl (own-operations verifier events)
  where
    go : (b : Bool) → (event.verifier == verifier) ≡ b
        → of_verifier moment_of verifier (operations_in events) ≡ operations_in (of_verifier event_moment verifier events)
        → of_verifier moment_of verifier (operations_by event event.change) ++ of_verifier moment_of verifier (operations_in events)
        ≡ operations_in (if b then event ∷ of_verifier event_moment verifier events else of_verifier event_moment verifier events)
    go true is further =
        ap (λ (own : List Operation). own ++ of_verifier moment_of verifier (operations_in events)) (own-by verifier event event.change true is)
        ∙ ap (λ (more : List Operation). operations_by event event.change ++ more) further
    go false is further =
        ap (λ (own : List Operation). own ++ of_verifier moment_of verifier (operations_in events)) (own-by verifier event event.change false is) ∙ further

keeps_logs : (scheme : Scheme) (header : Header) (logs : List (List ℕ)) → KeepsEachLog scheme header.first (histories_at scheme header logs)
keeps_logs scheme header logs = λ verifier. go verifier (certified_count scheme header.first histories)
  where
    commands : List (List LogCommand)
    commands = map (λ (log : Log). log.commands) (map (read_log scheme.format) logs)

    histories : List (List Event)
    histories = histories_of scheme header commands

    go : (verifier count : ℕ) → of_verifier moment_of verifier (operations_in (order_within header.first count histories)) ≡ own_operations header.first count (get_or histories verifier [])
    go verifier zero = refl
    go verifier (suc count) =
        own-operations verifier (order_up_to (header.first + count) histories)
        ∙ ap operations_in (order_part scheme header commands (header.first + count) verifier)

sound_at : (functions : DigestFunctions) (found : Option Header) (logs : List (List ℕ)) → GivesDigests functions.digest → IsSoundAt functions found logs
sound_at functions None logs digests = tt
sound_at functions (Some header) logs digests = record {
  order = keeps_logs (scheme_of functions header) header logs;
  serial = serial_in functions header logs digests;
}

pub headline : (functions : DigestFunctions) (bytes : List ℕ) → GivesDigests functions.digest → IsSound functions bytes
headline functions bytes digests = sound_at functions (logged_of bytes).header (logged_of bytes).logs digests

pub sha_headline : (key bytes : List ℕ) → IsShaSound key bytes
sha_headline key bytes = headline (sha_under key) bytes (λ text. (IsDigest-sha256 text).size)

-- what holds of any bytes holds of those that a source has, if it tells them
pub of_left : (P : List ℕ → Type 0) (left : Option (List ℕ)) → ((bytes : List ℕ) → P bytes) → IfSome left P
of_left P None holds = tt
of_left P (Some bytes) holds = holds bytes
