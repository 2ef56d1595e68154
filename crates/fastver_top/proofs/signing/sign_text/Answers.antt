use Rattle.std.proofs.Common.{◌==◌, Ok, Err, is_ok, true≢false, refl, sym, ◌∙◌, ap, subst}
use Rattle.std.specs.Io.KnownBytes.{Consumes}
use Rattle.script_text.specs.Script.{IsFaultOf}
use Rattle.script_text.specs.Signing.{signed_text}
use Rattle.report_text.specs.declared.status.Status.{Status}
use Rattle.report_text.specs.Answer.{Reading, Writing}
use Rattle.fastver_top.specs.Accepting.{AnswersWhole}
use Rattle.fastver_top.specs.Signing.{sign_answer, IsSignStatus}
use Rattle.fastver_top.proofs.WholeLemmas.{answers-unread}
use Rattle.fastver_top.proofs.SignLemmas.{stop-sign, signs-all, signs-cut, signs-bad, signs-nothing}
use Rattle.fastver_top.proofs.signing.sign_text.Goals as goal

pub returns-in-Err-clause-outcomes : goal.returns-in-Err-clause-outcomes
returns-in-Err-clause-outcomes g c =
    subst IsSignStatus (sym c.of_failure.ensures.value)
    (stop-sign c.args.limit c.in-Err.failure (λ is. c.in-Err.ensures.failure.vault (ap Err is)) (λ is. c.in-Err.ensures.failure.sink (ap Err is)))

pub returns-in-Err-clause-answers : goal.returns-in-Err-clause-answers
returns-in-Err-clause-answers g c =
    let functions = g.D.Digests.functions c.args.d.now in
    let read : Reading = record {
      left = g.S.Source.left c.args.source.now;
      left_after = g.S.Source.left c.read_all.new.source;
      faults = g.S.Source.faults c.args.source.now;
      faults_after = g.S.Source.faults c.read_all.new.source;
    } in
    let held = g.O.Sink.held c.args.out.now in
    let faults = g.O.Sink.faults c.args.out.now in
    let wrote : Writing = record { held = held; held_after = held; faults = faults; faults_after = faults } in
    subst (λ (status : Status). AnswersWhole (sign_answer functions c.args.client c.args.bits) c.args.limit status read wrote) (sym c.of_failure.ensures.value)
    (answers-unread (sign_answer functions c.args.client c.args.bits) c.args.limit read wrote c.in-Err.failure
    (λ is. c.in-Err.ensures.failure.vault (ap Err is)) (λ is. c.in-Err.ensures.failure.sink (ap Err is)) refl
    (λ is. c.in-Err.ensures.fault (ap Err is)) (λ is. c.in-Err.ensures.limit (ap Err is)) (λ other. c.in-Err.ensures.within (λ is. other (cc is))))

pub returns-in-Err-BadScript-clause-answers : goal.returns-in-Err-BadScript-clause-answers
returns-in-Err-BadScript-clause-answers g c =
    let functions = g.D.Digests.functions c.args.d.now in
    let read : Reading = record {
      left = g.S.Source.left c.args.source.now;
      left_after = g.S.Source.left c.read_all.new.source;
      faults = g.S.Source.faults c.args.source.now;
      faults_after = g.S.Source.faults c.read_all.new.source;
    } in
    let held = g.O.Sink.held c.args.out.now in
    let faults = g.O.Sink.faults c.args.out.now in
    let wrote : Writing = record { held = held; held_after = held; faults = faults; faults_after = faults } in
    signs-bad functions c.args.client c.args.bits c.args.limit read wrote c.deref.result.now
    (subst (Consumes read.left read.left_after) (sym c.deref.ensures.value) c.in-Ok.ensures.bytes) c.in-Ok.ensures.end
    (c.in-Ok.ensures.within (λ is. true≢false (ap is_ok is)))
    c.in-Err-BadScript.line c.in-Err-BadScript.cause
    (subst (IsFaultOf (signed_text functions (c.args.bits == 128) c.args.client c.deref.result.now)) c.in-Err-BadScript.field-0-is c.in-Err-BadScript.ensures.refused) refl

pub returns-in-Err-Memory-clause-answers : goal.returns-in-Err-Memory-clause-answers
returns-in-Err-Memory-clause-answers g c =
    let functions = g.D.Digests.functions c.args.d.now in
    let read : Reading = record {
      left = g.S.Source.left c.args.source.now;
      left_after = g.S.Source.left c.read_all.new.source;
      faults = g.S.Source.faults c.args.source.now;
      faults_after = g.S.Source.faults c.read_all.new.source;
    } in
    let held = g.O.Sink.held c.args.out.now in
    let faults = g.O.Sink.faults c.args.out.now in
    let wrote : Writing = record { held = held; held_after = held; faults = faults; faults_after = faults } in
    signs-nothing functions c.args.client c.args.bits c.args.limit read wrote c.deref.result.now
    (subst (Consumes read.left read.left_after) (sym c.deref.ensures.value) c.in-Ok.ensures.bytes) c.in-Ok.ensures.end
    (c.in-Ok.ensures.within (λ is. true≢false (ap is_ok is)))
    refl

pub returns-in-Ok-write_all-clause-answers : goal.returns-in-Ok-write_all-clause-answers
returns-in-Ok-write_all-clause-answers g c =
    let functions = g.D.Digests.functions c.args.d.now in
    let read : Reading = record {
      left = g.S.Source.left c.args.source.now;
      left_after = g.S.Source.left c.read_all.new.source;
      faults = g.S.Source.faults c.args.source.now;
      faults_after = g.S.Source.faults c.read_all.new.source;
    } in
    let wrote : Writing = record {
      held = g.O.Sink.held c.args.out.now;
      held_after = g.O.Sink.held c.write_all.new.sink;
      faults = g.O.Sink.faults c.args.out.now;
      faults_after = g.O.Sink.faults c.write_all.new.sink;
    } in
    signs-all functions c.args.client c.args.bits c.args.limit read wrote c.deref.result.now
    (subst (Consumes read.left read.left_after) (sym c.deref.ensures.value) c.in-Ok.ensures.bytes) c.in-Ok.ensures.end
    (c.in-Ok.ensures.within (λ is. true≢false (ap is_ok is)))
    c.deref-2.result.now (c.in-Ok-sign_lines.ensures.signed ∙ ap Ok (sym c.deref-2.ensures.value)) c.in-Ok-write_all.ensures.whole

pub returns-clause-answers : goal.returns-clause-answers
returns-clause-answers g c =
    let functions = g.D.Digests.functions c.args.d.now in
    let read : Reading = record {
      left = g.S.Source.left c.args.source.now;
      left_after = g.S.Source.left c.read_all.new.source;
      faults = g.S.Source.faults c.args.source.now;
      faults_after = g.S.Source.faults c.read_all.new.source;
    } in
    let wrote : Writing = record {
      held = g.O.Sink.held c.args.out.now;
      held_after = g.O.Sink.held c.write_all.new.sink;
      faults = g.O.Sink.faults c.args.out.now;
      faults_after = g.O.Sink.faults c.write_all.new.sink;
    } in
    signs-cut functions c.args.client c.args.bits c.args.limit read wrote c.deref.result.now
    (subst (Consumes read.left read.left_after) (sym c.deref.ensures.value) c.in-Ok.ensures.bytes) c.in-Ok.ensures.end
    (c.in-Ok.ensures.within (λ is. true≢false (ap is_ok is)))
    c.deref-2.result.now (c.in-Ok-sign_lines.ensures.signed ∙ ap Ok (sym c.deref-2.ensures.value)) c.in-Err-write_all.ensures.front c.in-Err-write_all.ensures.counts.failed
