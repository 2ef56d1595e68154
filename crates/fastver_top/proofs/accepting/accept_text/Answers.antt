use Rattle.std.proofs.Common.{Err, is_ok, true≢false, refl, ap, subst, sym}
use Rattle.std.specs.Io.KnownBytes.{Consumes}
use Rattle.report_text.specs.declared.status.Status.{Status}
use Rattle.report_text.specs.Answer.{Reading, Writing}
use Rattle.fastver_top.specs.Accepting.{accept_answer, AnswersWhole, IsAcceptStatus}
use Rattle.fastver_top.proofs.AcceptLemmas.{answer-answered, stop-accept}
use Rattle.fastver_top.proofs.WholeLemmas.{answers-whole, answers-cut, answers-unread}
use Rattle.fastver_top.proofs.RulesLemmas.{answered-accept}
use Rattle.fastver_top.proofs.accepting.accept_text.Goals as goal

pub returns-in-Err-clause-outcomes : goal.returns-in-Err-clause-outcomes
returns-in-Err-clause-outcomes g c =
    subst IsAcceptStatus (sym c.of_failure.ensures.value)
    (stop-accept c.args.limit c.in-Err.failure (λ is. c.in-Err.ensures.failure.vault (ap Err is)) (λ is. c.in-Err.ensures.failure.sink (ap Err is)))

pub returns-in-Err-clause-answers : goal.returns-in-Err-clause-answers
returns-in-Err-clause-answers g c =
    let functions = g.D.Digests.functions c.args.d.now in
    let read : Reading = record {
      left = g.S.Source.left c.args.source.now;
      left_after = g.S.Source.left c.read_all.new.source;
      faults = g.S.Source.faults c.args.source.now;
      faults_after = g.S.Source.faults c.read_all.new.source;
    } in
    let held = g.O.Sink.held c.args.out.now in
    let faults = g.O.Sink.faults c.args.out.now in
    let wrote : Writing = record { held = held; held_after = held; faults = faults; faults_after = faults } in
    subst (λ (status : Status). AnswersWhole (accept_answer functions) c.args.limit status read wrote) (sym c.of_failure.ensures.value)
    (answers-unread (accept_answer functions) c.args.limit read wrote c.in-Err.failure (λ is. c.in-Err.ensures.failure.vault (ap Err is)) (λ is. c.in-Err.ensures.failure.sink (ap Err is)) refl
    (λ is. c.in-Err.ensures.fault (ap Err is)) (λ is. c.in-Err.ensures.limit (ap Err is)) (λ other. c.in-Err.ensures.within (λ is. other (cc is))))

pub returns-in-Ok-answer-clause-outcomes : goal.returns-in-Ok-answer-clause-outcomes
returns-in-Ok-answer-clause-outcomes g c =
    answered-accept c.in-Ok-answer.status
    (answer-answered (g.D.Digests.functions c.args.d.now) c.deref.result.now c.in-Ok-answer.status c.in-Ok-answer.ensures.status)

pub returns-in-Ok-answer-clause-answers : goal.returns-in-Ok-answer-clause-answers
returns-in-Ok-answer-clause-answers g c =
    let functions = g.D.Digests.functions c.args.d.now in
    let read : Reading = record {
      left = g.S.Source.left c.args.source.now;
      left_after = g.S.Source.left c.read_all.new.source;
      faults = g.S.Source.faults c.args.source.now;
      faults_after = g.S.Source.faults c.read_all.new.source;
    } in
    let wrote : Writing = record {
      held = g.O.Sink.held c.args.out.now;
      held_after = g.O.Sink.held c.answer.new.out;
      faults = g.O.Sink.faults c.args.out.now;
      faults_after = g.O.Sink.faults c.answer.new.out;
    } in
    answers-whole (accept_answer functions) c.args.limit read wrote c.deref.result.now
    (subst (Consumes read.left read.left_after) (sym c.deref.ensures.value) c.in-Ok.ensures.bytes) c.in-Ok.ensures.end
    (c.in-Ok.ensures.within (λ is. true≢false (ap is_ok is))) c.in-Ok-answer.status
    (answer-answered functions c.deref.result.now c.in-Ok-answer.status c.in-Ok-answer.ensures.status) c.in-Ok-answer.ensures.status c.in-Ok-answer.ensures.whole
    (λ before. ap g.O.Sink.held (c.in-Ok-answer.ensures.unwritten before))

pub returns-clause-answers : goal.returns-clause-answers
returns-clause-answers g c =
    let functions = g.D.Digests.functions c.args.d.now in
    let read : Reading = record {
      left = g.S.Source.left c.args.source.now;
      left_after = g.S.Source.left c.read_all.new.source;
      faults = g.S.Source.faults c.args.source.now;
      faults_after = g.S.Source.faults c.read_all.new.source;
    } in
    let wrote : Writing = record {
      held = g.O.Sink.held c.args.out.now;
      held_after = g.O.Sink.held c.answer.new.out;
      faults = g.O.Sink.faults c.args.out.now;
      faults_after = g.O.Sink.faults c.answer.new.out;
    } in
    answers-cut (accept_answer functions) c.args.limit read wrote c.deref.result.now
    (subst (Consumes read.left read.left_after) (sym c.deref.ensures.value) c.in-Ok.ensures.bytes) c.in-Ok.ensures.end
    (c.in-Ok.ensures.within (λ is. true≢false (ap is_ok is))) c.in-Err-answer.ensures.front c.in-Err-answer.ensures.counts.failed
