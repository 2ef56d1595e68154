use Rattle.std.proofs.Common.{◌≡◌, Bool, ℕ, List, [], Option, Some, None, refl, subst}
use Rattle.record_hash.specs.Functions.{DigestFunctions}
use Rattle.lamport_clocks.specs.declared.header.Header.{Header}
use Rattle.record_text.specs.declared.operation.Operation.{Operation}
use Rattle.bundle_frames.specs.Extent.{reading_end}
use Rattle.report_text.specs.Answer.{Answer, Reading, Writing, AnswersTo}
use Rattle.bundle_report.specs.Headline.{IsSound}
use Rattle.bundle_report.specs.Logged.{logged_of}
use Rattle.bundle_report.specs.Answer.{answer_at, check_answer}
use Rattle.bundle_report.proofs.HeadlineLaws.{headline, of_left}
use Rattle.check_core.specs.Asked.{Asked, asked_at, asked_answer}
use Rattle.check_core.specs.Told.{asked_for}
use Rattle.check_core.specs.declared.told.Told.TheVariants.{Lines}
use Rattle.check_core.proofs.checking.check.Goals as goal

-- what is asked of a check: the lines, and nothing behind them
module _ (receipts : Bool) (functions : DigestFunctions) where
  abbrev asked : Asked
  asked = asked_for (Lines receipts) functions (λ (operations : List Operation). [])

  at : (header : Option Header) (logs : List (List ℕ)) (bad : Option ℕ) → asked_at asked functions header logs bad ≡ answer_at receipts functions header logs bad
  at None logs bad = refl
  at (Some header) logs bad = refl

  the_check : asked_answer asked functions ≡ check_answer receipts functions
  the_check = λ i bytes. at (logged_of bytes).header (logged_of bytes).logs (logged_of bytes).bad i

pub returns-clause-answers : goal.returns-clause-answers
returns-clause-answers g c =
    let read : Reading = record {
      left = g.S.Source.left c.args.source.now;
      left_after = g.S.Source.left c.tell_bundle.new.source;
      faults = g.S.Source.faults c.args.source.now;
      faults_after = g.S.Source.faults c.tell_bundle.new.source;
    } in
    let wrote : Writing = record {
      held = g.O.Sink.held c.args.out.now;
      held_after = g.O.Sink.held c.tell_bundle.new.out;
      faults = g.O.Sink.faults c.args.out.now;
      faults_after = g.O.Sink.faults c.tell_bundle.new.out;
    } in
    subst (λ (answer : List ℕ → Answer). AnswersTo answer reading_end c.args.limit c.tell_bundle.result read wrote)
    (the_check c.args.receipts (g.D.Digests.functions c.args.d.now)) c.tell_bundle.ensures.answers

pub returns-clause-headline : goal.returns-clause-headline
returns-clause-headline g c =
    of_left (IsSound (g.D.Digests.functions c.args.d.now)) (g.S.Source.left c.args.source.now)
    (λ bytes. headline (g.D.Digests.functions c.args.d.now) bytes (λ text. (c.digests_have_32_bytes.ensures.digests text).size))
