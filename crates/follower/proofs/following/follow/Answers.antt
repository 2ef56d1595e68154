use Rattle.std.proofs.Common.{◌≡◌, ℕ, List, [], ◌∷◌, ◌++◌, map, Option, Some, None, refl, ◌∙◌, ap, subst}
use Rattle.std.specs.List.{flat_map}
use Rattle.record_hash.specs.Functions.{DigestFunctions}
use Rattle.lamport_clocks.specs.declared.header.Header.{Header}
use Rattle.record_text.specs.declared.operation.Operation.{Operation}
use Rattle.record_text.specs.Format.{format_of}
use Rattle.log_codec.specs.Log.{Log, read_log}
use Rattle.merkle_records.specs.Scheme.{scheme_of}
use Rattle.bundle_frames.specs.Extent.{reading_end}
use Rattle.report_text.specs.declared.status.Status.{Status}
use Rattle.report_text.specs.Answer.{Answer, Reading, Writing, AnswersTo}
use Rattle.report_text.specs.Ending.{status_of}
use Rattle.report_text.specs.Status.{last_line}
use Rattle.stamp_order.specs.Serial.{none_everywhere}
use Rattle.soundness.specs.Certified.{certified_operations, certified_count, epochs_from}
use Rattle.bundle_report.specs.Logged.{logged_of}
use Rattle.bundle_report.specs.Report.{operations_told}
use Rattle.bundle_report.specs.BundleReport.{histories_in, end_of, certified_lines}
use Rattle.check_core.specs.Asked.{Asked, asked_at, asked_answer}
use Rattle.check_core.specs.Told.{asked_for}
use Rattle.check_core.specs.declared.told.Told.TheVariants.{Nothing}
use Rattle.report_text.specs.KeyLines.{map_text}
use Rattle.follower.specs.Followed.{map_behind}
use Rattle.follower.specs.Answer.{follow_at, follow_answer}
use Rattle.follower.proofs.following.follow.Goals as goal

-- nothing is told of any epochs
no_lines : (epochs : List ℕ) → flat_map (λ (epoch : ℕ). let none : List ℕ = [] in none) epochs ≡ []
no_lines [] = refl
no_lines (epoch ∷ epochs) = no_lines epochs

same_answer : (text text' due due' : List ℕ) (status : Status) → text ≡ text' → due ≡ due'
    → let one : Answer = record { text = text; due = due; status = status } in let other : Answer = record { text = text'; due = due'; status = status } in one ≡ other
same_answer text text' due due' status texts dues =
    ap (λ (t : List ℕ). let a : Answer = record { text = t; due = due; status = status } in a) texts
    ∙ ap (λ (d : List ℕ). let a : Answer = record { text = text'; due = d; status = status } in a) dues

-- what is asked by a follower whose map is this one at first
module _ (functions : DigestFunctions) (start : ℕ → Option (List ℕ)) (empty : start ≡ none_everywhere)
    (whole : (header : Header) (logs : List Log) → certified_lines operations_told (scheme_of functions header) header (histories_in (scheme_of functions header) header logs)
    ≡ certified_operations (scheme_of functions header) header.first (histories_in (scheme_of functions header) header logs)) where
  abbrev asked : Asked
  asked = asked_for Nothing functions (λ (operations : List Operation). map_text (map_behind start operations))

  at : (header : Option Header) (logs : List (List ℕ)) (bad : Option ℕ) → asked_at asked functions header logs bad ≡ follow_at functions header logs bad
  at None logs bad = refl
  at (Some header) logs bad =
      let scheme = scheme_of functions header in
      let read = map (read_log (format_of header)) logs in
      let end = status_of (end_of scheme header read (histories_in scheme header read) bad) in
      let epochs = epochs_from header.first (certified_count scheme header.first (histories_in scheme header read)) in
      same_answer _ _ _ _ end
      (ap (λ (lines : List ℕ). lines ++ (map_text (map_behind start (certified_lines operations_told scheme header (histories_in scheme header read))) ++ last_line end)) (no_lines epochs)
      ∙ ap (λ (map : ℕ → Option (List ℕ)). map_text (map_behind map (certified_lines operations_told scheme header (histories_in scheme header read))) ++ last_line end) empty
      ∙ ap (λ (operations : List Operation). map_text (map_behind none_everywhere operations) ++ last_line end) (whole header read))
      (no_lines epochs)

  the_follower : asked_answer asked functions ≡ follow_answer functions
  the_follower = λ i bytes. at (logged_of bytes).header (logged_of bytes).logs (logged_of bytes).bad i

pub returns-clause-answers : goal.returns-clause-answers
returns-clause-answers g c =
    let functions = g.D.Digests.functions c.args.d.now in
    let read : Reading = record {
      left = g.S.Source.left c.args.source.now;
      left_after = g.S.Source.left c.tell_bundle.new.source;
      faults = g.S.Source.faults c.args.source.now;
      faults_after = g.S.Source.faults c.tell_bundle.new.source;
    } in
    let wrote : Writing = record {
      held = g.O.Sink.held c.args.out.now;
      held_after = g.O.Sink.held c.tell_bundle.new.out;
      faults = g.O.Sink.faults c.args.out.now;
      faults_after = g.O.Sink.faults c.tell_bundle.new.out;
    } in
    subst (λ (answer : List ℕ → Answer). AnswersTo answer reading_end c.args.limit c.tell_bundle.result read wrote)
    (the_follower functions _ c.new-followed.ensures.none
    (λ header logs. c.operations_come_epoch_by_epoch.ensures.certified functions header _
    (c.logs_have_histories.ensures.all_timely functions header (map (λ log. log.commands) logs))))
    c.tell_bundle.ensures.answers
