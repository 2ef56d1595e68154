use Rattle.std.proofs.Common.{◌≡◌, ℕ, Result, Ok, Err, sym, ap, subst, ◌∙◌}
use Rattle.record_hash.specs.Functions.{DigestFunctions}
use Rattle.fv_outside.specs.declared.failure.Failure.{Failure}
use Rattle.report_text.specs.declared.status.Status.{Status}
use Rattle.report_text.specs.declared.ending.BundleEnd.{BundleEnd}
use Rattle.report_text.specs.Answer.{Reading, Writing}
use Rattle.check_core.specs.declared.seal_reading.FoundSeal.{FoundSeal}
use Rattle.check_core.specs.Found.{unended_answer, GoesFrom, GoesFromAs}
use Rattle.check_core.specs.Outcomes.{IsCheckStatus, check_status}
use Rattle.check_core.proofs.GoingFromLemmas.{AreKept}
use Rattle.check_core.proofs.FoundLemmas.{failed_status, from_failed, from_ended, from_cut}
use Rattle.check_core.proofs.resuming.resume_from.Goals as goal

-- what was done before the last line, as the result that it came to
before : (functions : DigestFunctions) (most : ℕ) (found : FoundSeal) (result other : Result BundleEnd Failure) (read : Reading) (wrote : Writing)
    → result ≡ other → GoesFromAs (unended_answer functions) functions most found (check_status most result) read wrote
    → GoesFromAs (unended_answer functions) functions most found (check_status most other) read wrote
before functions most found result other read wrote is from =
    subst (λ (r : Result BundleEnd Failure). GoesFromAs (unended_answer functions) functions most found (check_status most r) read wrote) is from

pub returns-in-Ok-write_end-clause-from : goal.returns-in-Ok-write_end-clause-from
returns-in-Ok-write_end-clause-from g c =
    let functions = g.D.Digests.functions c.args.d.now in
    let kept : AreKept functions = record {
      whole = c.seals_keep_what_was_read.ensures.whole functions;
      judged = c.seals_keep_what_was_read.ensures.judged functions;
      read = c.seals_keep_what_was_read.ensures.read functions;
    } in
    let read : Reading = record {
      left = g.S.Source.left c.args.source.now;
      left_after = g.S.Source.left c.go_on_from.new.source;
      faults = g.S.Source.faults c.args.source.now;
      faults_after = g.S.Source.faults c.go_on_from.new.source;
    } in
    let held = g.O.Sink.held c.args.out.now in
    let held_now = g.O.Sink.held c.go_on_from.new.out in
    let faults = g.O.Sink.faults c.args.out.now in
    let faults_now = g.O.Sink.faults c.go_on_from.new.out in
    let wrote : Writing = record { held = held; held_after = held_now; faults = faults; faults_after = faults_now } in
    let then_wrote : Writing = record { held = held; held_after = g.O.Sink.held c.write_end.new.out; faults = faults; faults_after = g.O.Sink.faults c.write_end.new.out } in
    subst (λ (status : Status). GoesFrom functions c.args.limit c.args.found status read then_wrote) (sym c.in-Ok-write_end.ensures.status)
    (from_ended functions kept c.args.found c.args.limit read held held_now faults faults_now c.in-Ok.end
    (before functions c.args.limit c.args.found c.go_on_from.result (Ok c.in-Ok.end) read wrote c.in-Ok.is c.go_on_from.ensures.from) _ _ c.in-Ok-write_end.ensures.line)

pub returns-in-Err-write_end-clause-from : goal.returns-in-Err-write_end-clause-from
returns-in-Err-write_end-clause-from g c =
    let functions = g.D.Digests.functions c.args.d.now in
    let kept : AreKept functions = record {
      whole = c.seals_keep_what_was_read.ensures.whole functions;
      judged = c.seals_keep_what_was_read.ensures.judged functions;
      read = c.seals_keep_what_was_read.ensures.read functions;
    } in
    let read : Reading = record {
      left = g.S.Source.left c.args.source.now;
      left_after = g.S.Source.left c.go_on_from.new.source;
      faults = g.S.Source.faults c.args.source.now;
      faults_after = g.S.Source.faults c.go_on_from.new.source;
    } in
    let held = g.O.Sink.held c.args.out.now in
    let held_now = g.O.Sink.held c.go_on_from.new.out in
    let faults = g.O.Sink.faults c.args.out.now in
    let faults_now = g.O.Sink.faults c.go_on_from.new.out in
    let wrote : Writing = record { held = held; held_after = held_now; faults = faults; faults_after = faults_now } in
    from_cut functions kept c.args.found c.args.limit read held held_now faults faults_now c.in-Ok.end
    (before functions c.args.limit c.args.found c.go_on_from.result (Ok c.in-Ok.end) read wrote c.in-Ok.is c.go_on_from.ensures.from) _ _ c.in-Err-write_end.ensures.front
    c.go_on_from.ensures.never_falls c.in-Err-write_end.ensures.counts.failed

pub returns-in-Err-clause-from : goal.returns-in-Err-clause-from
returns-in-Err-clause-from g c =
    let functions = g.D.Digests.functions c.args.d.now in
    let kept : AreKept functions = record {
      whole = c.seals_keep_what_was_read.ensures.whole functions;
      judged = c.seals_keep_what_was_read.ensures.judged functions;
      read = c.seals_keep_what_was_read.ensures.read functions;
    } in
    let read : Reading = record {
      left = g.S.Source.left c.args.source.now;
      left_after = g.S.Source.left c.go_on_from.new.source;
      faults = g.S.Source.faults c.args.source.now;
      faults_after = g.S.Source.faults c.go_on_from.new.source;
    } in
    let held = g.O.Sink.held c.args.out.now in
    let held_now = g.O.Sink.held c.go_on_from.new.out in
    let faults = g.O.Sink.faults c.args.out.now in
    let faults_now = g.O.Sink.faults c.go_on_from.new.out in
    let wrote : Writing = record { held = held; held_after = held_now; faults = faults; faults_after = faults_now } in
    subst (λ (status : Status). GoesFrom functions c.args.limit c.args.found status read wrote) (sym c.of_failure.ensures.value)
    (from_failed functions kept c.args.found c.args.limit read held held_now faults faults_now c.in-Err.failure
    (before functions c.args.limit c.args.found c.go_on_from.result (Err c.in-Err.failure) read wrote c.in-Err.is c.go_on_from.ensures.from))

pub returns-in-Err-clause-outcomes : goal.returns-in-Err-clause-outcomes
returns-in-Err-clause-outcomes g c =
    subst IsCheckStatus (sym c.of_failure.ensures.value) (failed_status c.args.limit c.in-Err.failure (λ is. c.go_on_from.ensures.vault (c.in-Err.is ∙ ap Err is)))
