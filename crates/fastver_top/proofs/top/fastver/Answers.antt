use Rattle.std.proofs.Common.{◌^◌, ℕ, List, IfSome, inl, ap, subst}
use Rattle.record_hash.specs.ShaDigests.{sha_functions, sha_under}
use Rattle.program_words.specs.declared.words.Asked.{Asked}
use Rattle.program_words.specs.declared.words.Asked.TheVariants.{Check, Seal, Audit, Run, Gen, Accept, Follow, Upgrade, Resume, Sign}
use Rattle.bundle_frames.specs.Extent.{reading_end}
use Rattle.report_text.specs.Answer.{Reading, Writing, AnswersTo}
use Rattle.bundle_report.specs.Answer.{check_answer}
use Rattle.bundle_upgrade.specs.Answer.{upgrade_answer, KeepsReport}
use Rattle.follower.specs.Answer.{follow_answer}
use Rattle.fastver_top.specs.Auditing.{audit_answer}
use Rattle.fastver_top.specs.Answers.{AnswersFor, asked_key}
use Rattle.check_core.specs.Sealing.{Keeping, Counting, SealsTo}
use Rattle.check_core.specs.Resuming.{ResumesTo}
use Rattle.fastver_top.specs.Running.{RunsTo}
use Rattle.fastver_top.specs.Generating.{GensTo}
use Rattle.fastver_top.specs.Accepting.{accept_answer, AnswersWhole}
use Rattle.fastver_top.specs.Signing.{sign_answer}
use Rattle.fastver_top.proofs.AnswerLemmas.{answers-nothing, asked_is, upgrade_alone}
use Rattle.fastver_top.proofs.top.fastver.Goals as goal

-- ---- the answer

pub returns-in-Ok-Check-clause-answers : goal.returns-in-Ok-Check-clause-answers
returns-in-Ok-Check-clause-answers g c = λ asked known.
    let read : Reading = record {
      left = g.S.Source.left c.args.source.now;
      left_after = g.S.Source.left c.check.new.source;
      faults = g.S.Source.faults c.args.source.now;
      faults_after = g.S.Source.faults c.check.new.source;
    } in
    let wrote : Writing = record {
      held = g.O.Sink.held c.args.out.now;
      held_after = g.O.Sink.held c.check.new.out;
      faults = g.O.Sink.faults c.args.out.now;
      faults_after = g.O.Sink.faults c.check.new.out;
    } in
    let kept : Keeping = record {
      held = g.V.Sink.held c.args.vault.now;
      held_after = g.V.Sink.held c.args.vault.now;
      name = g.V.Sink.name c.args.vault.now;
      name_after = g.V.Sink.name c.args.vault.now;
      faults = g.V.Sink.faults c.args.vault.now;
      faults_after = g.V.Sink.faults c.args.vault.now;
    } in
    let counted : Counting = record {
      number = g.K.Counter.number c.args.counter.now;
      number_after = g.K.Counter.number c.args.counter.now;
      faults = g.K.Counter.faults c.args.counter.now;
      faults_after = g.K.Counter.faults c.args.counter.now;
    } in
    let own = asked_is _ asked (Check c.in-Ok-Check.checking) c.in-Ok-Check.field-0 known c.in-Ok-Check.ensures.asked c.in-Ok-Check.field-0-is in
    subst (λ (a : Asked). AnswersFor a (2 ^ 40) c.check.result read wrote kept counted) own
    (subst (λ (block : List ℕ). AnswersTo (check_answer c.in-Ok-Check.checking.receipts (sha_functions block)) reading_end (2 ^ 40) c.check.result read wrote)
    c.digests_under-d.ensures.value c.check.ensures.answers)

pub returns-in-Ok-Seal-clause-answers : goal.returns-in-Ok-Seal-clause-answers
returns-in-Ok-Seal-clause-answers g c = λ asked known.
    let read : Reading = record {
      left = g.S.Source.left c.args.source.now;
      left_after = g.S.Source.left c.check_seal.new.source;
      faults = g.S.Source.faults c.args.source.now;
      faults_after = g.S.Source.faults c.check_seal.new.source;
    } in
    let wrote : Writing = record {
      held = g.O.Sink.held c.args.out.now;
      held_after = g.O.Sink.held c.check_seal.new.out;
      faults = g.O.Sink.faults c.args.out.now;
      faults_after = g.O.Sink.faults c.check_seal.new.out;
    } in
    let kept : Keeping = record {
      held = g.V.Sink.held c.args.vault.now;
      held_after = g.V.Sink.held c.check_seal.new.vault;
      name = g.V.Sink.name c.args.vault.now;
      name_after = g.V.Sink.name c.check_seal.new.vault;
      faults = g.V.Sink.faults c.args.vault.now;
      faults_after = g.V.Sink.faults c.check_seal.new.vault;
    } in
    let counted : Counting = record {
      number = g.K.Counter.number c.args.counter.now;
      number_after = g.K.Counter.number c.check_seal.new.counter;
      faults = g.K.Counter.faults c.args.counter.now;
      faults_after = g.K.Counter.faults c.check_seal.new.counter;
    } in
    let seal = c.in-Ok-Seal.sealing in
    let own = asked_is _ asked (Seal seal) c.in-Ok-Seal.field-0 known c.in-Ok-Seal.ensures.asked c.in-Ok-Seal.field-0-is in
    subst (λ (a : Asked). AnswersFor a (2 ^ 40) c.check_seal.result read wrote kept counted) own
    (inl (subst (λ (path : List ℕ). SealsTo (sha_under seal.key) path (2 ^ 40) c.check_seal.result read wrote kept counted) c.as_str-path.ensures.value
    (subst (λ (block : List ℕ). SealsTo (sha_functions block) c.as_str-path.result.now (2 ^ 40) c.check_seal.result read wrote kept counted)
    c.digests_under-d-in-Ok-Seal.ensures.value c.check_seal.ensures.seals)))

pub returns-in-Ok-Audit-clause-answers : goal.returns-in-Ok-Audit-clause-answers
returns-in-Ok-Audit-clause-answers g c = λ asked known.
    let read : Reading = record {
      left = g.S.Source.left c.args.source.now;
      left_after = g.S.Source.left c.audit_text.new.source;
      faults = g.S.Source.faults c.args.source.now;
      faults_after = g.S.Source.faults c.audit_text.new.source;
    } in
    let wrote : Writing = record {
      held = g.O.Sink.held c.args.out.now;
      held_after = g.O.Sink.held c.audit_text.new.out;
      faults = g.O.Sink.faults c.args.out.now;
      faults_after = g.O.Sink.faults c.audit_text.new.out;
    } in
    let kept : Keeping = record {
      held = g.V.Sink.held c.args.vault.now;
      held_after = g.V.Sink.held c.args.vault.now;
      name = g.V.Sink.name c.args.vault.now;
      name_after = g.V.Sink.name c.args.vault.now;
      faults = g.V.Sink.faults c.args.vault.now;
      faults_after = g.V.Sink.faults c.args.vault.now;
    } in
    let counted : Counting = record {
      number = g.K.Counter.number c.args.counter.now;
      number_after = g.K.Counter.number c.args.counter.now;
      faults = g.K.Counter.faults c.args.counter.now;
      faults_after = g.K.Counter.faults c.args.counter.now;
    } in
    let own = asked_is _ asked (Audit c.in-Ok-Audit.key) c.in-Ok-Audit.field-0 known c.in-Ok-Audit.ensures.asked c.in-Ok-Audit.field-0-is in
    subst (λ (a : Asked). AnswersFor a (2 ^ 40) c.audit_text.result read wrote kept counted) own
    (subst (λ (block : List ℕ). AnswersTo (audit_answer (sha_functions block)) reading_end (2 ^ 40) c.audit_text.result read wrote)
    c.digests_under.ensures.value c.audit_text.ensures.answers)

pub returns-in-Ok-Run-clause-answers : goal.returns-in-Ok-Run-clause-answers
returns-in-Ok-Run-clause-answers g c = λ asked known.
    let read : Reading = record {
      left = g.S.Source.left c.args.source.now;
      left_after = g.S.Source.left c.run_script.new.source;
      faults = g.S.Source.faults c.args.source.now;
      faults_after = g.S.Source.faults c.run_script.new.source;
    } in
    let wrote : Writing = record {
      held = g.O.Sink.held c.args.out.now;
      held_after = g.O.Sink.held c.run_script.new.out;
      faults = g.O.Sink.faults c.args.out.now;
      faults_after = g.O.Sink.faults c.run_script.new.out;
    } in
    let kept : Keeping = record {
      held = g.V.Sink.held c.args.vault.now;
      held_after = g.V.Sink.held c.run_script.new.vault;
      name = g.V.Sink.name c.args.vault.now;
      name_after = g.V.Sink.name c.run_script.new.vault;
      faults = g.V.Sink.faults c.args.vault.now;
      faults_after = g.V.Sink.faults c.run_script.new.vault;
    } in
    let counted : Counting = record {
      number = g.K.Counter.number c.args.counter.now;
      number_after = g.K.Counter.number c.args.counter.now;
      faults = g.K.Counter.faults c.args.counter.now;
      faults_after = g.K.Counter.faults c.args.counter.now;
    } in
    let run = c.in-Ok-Run.run' in
    let own = asked_is _ asked (Run run) c.in-Ok-Run.field-0 known c.in-Ok-Run.ensures.asked c.in-Ok-Run.field-0-is in
    subst (λ (a : Asked). AnswersFor a (2 ^ 40) c.run_script.result read wrote kept counted) own
    (subst (λ (block : List ℕ). RunsTo (sha_functions block) run (2 ^ 40) c.run_script.result read wrote kept)
    c.digests_under-d-in-Ok-Run.ensures.value c.run_script.ensures.runs)

pub returns-in-Ok-Gen-clause-answers : goal.returns-in-Ok-Gen-clause-answers
returns-in-Ok-Gen-clause-answers g c = λ asked known.
    let read : Reading = record {
      left = g.S.Source.left c.args.source.now;
      left_after = g.S.Source.left c.args.source.now;
      faults = g.S.Source.faults c.args.source.now;
      faults_after = g.S.Source.faults c.args.source.now;
    } in
    let wrote : Writing = record {
      held = g.O.Sink.held c.args.out.now;
      held_after = g.O.Sink.held c.serve_generated.new.out;
      faults = g.O.Sink.faults c.args.out.now;
      faults_after = g.O.Sink.faults c.serve_generated.new.out;
    } in
    let kept : Keeping = record {
      held = g.V.Sink.held c.args.vault.now;
      held_after = g.V.Sink.held c.serve_generated.new.vault;
      name = g.V.Sink.name c.args.vault.now;
      name_after = g.V.Sink.name c.serve_generated.new.vault;
      faults = g.V.Sink.faults c.args.vault.now;
      faults_after = g.V.Sink.faults c.serve_generated.new.vault;
    } in
    let counted : Counting = record {
      number = g.K.Counter.number c.args.counter.now;
      number_after = g.K.Counter.number c.args.counter.now;
      faults = g.K.Counter.faults c.args.counter.now;
      faults_after = g.K.Counter.faults c.args.counter.now;
    } in
    let load = c.in-Ok-Gen.load in
    let own = asked_is _ asked (Gen load) c.in-Ok-Gen.field-0 known c.in-Ok-Gen.ensures.asked c.in-Ok-Gen.field-0-is in
    subst (λ (a : Asked). AnswersFor a (2 ^ 40) c.serve_generated.result read wrote kept counted) own
    (subst (λ (block : List ℕ). GensTo (sha_functions block) load c.serve_generated.result wrote kept)
    c.digests_under-d-in-Ok-Gen.ensures.value c.serve_generated.ensures.generates)

pub returns-in-Ok-Accept-clause-answers : goal.returns-in-Ok-Accept-clause-answers
returns-in-Ok-Accept-clause-answers g c = λ asked known.
    let read : Reading = record {
      left = g.S.Source.left c.args.source.now;
      left_after = g.S.Source.left c.accept_text.new.source;
      faults = g.S.Source.faults c.args.source.now;
      faults_after = g.S.Source.faults c.accept_text.new.source;
    } in
    let wrote : Writing = record {
      held = g.O.Sink.held c.args.out.now;
      held_after = g.O.Sink.held c.accept_text.new.out;
      faults = g.O.Sink.faults c.args.out.now;
      faults_after = g.O.Sink.faults c.accept_text.new.out;
    } in
    let kept : Keeping = record {
      held = g.V.Sink.held c.args.vault.now;
      held_after = g.V.Sink.held c.args.vault.now;
      name = g.V.Sink.name c.args.vault.now;
      name_after = g.V.Sink.name c.args.vault.now;
      faults = g.V.Sink.faults c.args.vault.now;
      faults_after = g.V.Sink.faults c.args.vault.now;
    } in
    let counted : Counting = record {
      number = g.K.Counter.number c.args.counter.now;
      number_after = g.K.Counter.number c.args.counter.now;
      faults = g.K.Counter.faults c.args.counter.now;
      faults_after = g.K.Counter.faults c.args.counter.now;
    } in
    let own = asked_is _ asked (Accept c.in-Ok-Accept.key) c.in-Ok-Accept.field-0 known c.in-Ok-Accept.ensures.asked c.in-Ok-Accept.field-0-is in
    subst (λ (a : Asked). AnswersFor a (2 ^ 40) c.accept_text.result read wrote kept counted) own
    (subst (λ (block : List ℕ). AnswersWhole (accept_answer (sha_functions block)) (2 ^ 40) c.accept_text.result read wrote)
    c.digests_under-in-Ok-Accept.ensures.value c.accept_text.ensures.answers)

pub returns-in-Ok-Follow-clause-answers : goal.returns-in-Ok-Follow-clause-answers
returns-in-Ok-Follow-clause-answers g c = λ asked known.
    let read : Reading = record {
      left = g.S.Source.left c.args.source.now;
      left_after = g.S.Source.left c.follow.new.source;
      faults = g.S.Source.faults c.args.source.now;
      faults_after = g.S.Source.faults c.follow.new.source;
    } in
    let wrote : Writing = record {
      held = g.O.Sink.held c.args.out.now;
      held_after = g.O.Sink.held c.follow.new.out;
      faults = g.O.Sink.faults c.args.out.now;
      faults_after = g.O.Sink.faults c.follow.new.out;
    } in
    let kept : Keeping = record {
      held = g.V.Sink.held c.args.vault.now;
      held_after = g.V.Sink.held c.args.vault.now;
      name = g.V.Sink.name c.args.vault.now;
      name_after = g.V.Sink.name c.args.vault.now;
      faults = g.V.Sink.faults c.args.vault.now;
      faults_after = g.V.Sink.faults c.args.vault.now;
    } in
    let counted : Counting = record {
      number = g.K.Counter.number c.args.counter.now;
      number_after = g.K.Counter.number c.args.counter.now;
      faults = g.K.Counter.faults c.args.counter.now;
      faults_after = g.K.Counter.faults c.args.counter.now;
    } in
    let own = asked_is _ asked (Follow c.in-Ok-Follow.key) c.in-Ok-Follow.field-0 known c.in-Ok-Follow.ensures.asked c.in-Ok-Follow.field-0-is in
    subst (λ (a : Asked). AnswersFor a (2 ^ 40) c.follow.result read wrote kept counted) own
    (subst (λ (block : List ℕ). AnswersTo (follow_answer (sha_functions block)) reading_end (2 ^ 40) c.follow.result read wrote)
    c.digests_under-in-Ok-Follow.ensures.value c.follow.ensures.answers)

pub returns-in-Ok-Upgrade-clause-answers : goal.returns-in-Ok-Upgrade-clause-answers
returns-in-Ok-Upgrade-clause-answers g c = λ asked known.
    let read : Reading = record {
      left = g.S.Source.left c.args.source.now;
      left_after = g.S.Source.left c.upgrade.new.source;
      faults = g.S.Source.faults c.args.source.now;
      faults_after = g.S.Source.faults c.upgrade.new.source;
    } in
    let wrote : Writing = record {
      held = g.O.Sink.held c.args.out.now;
      held_after = g.O.Sink.held c.upgrade.new.out;
      faults = g.O.Sink.faults c.args.out.now;
      faults_after = g.O.Sink.faults c.upgrade.new.out;
    } in
    let kept : Keeping = record {
      held = g.V.Sink.held c.args.vault.now;
      held_after = g.V.Sink.held c.args.vault.now;
      name = g.V.Sink.name c.args.vault.now;
      name_after = g.V.Sink.name c.args.vault.now;
      faults = g.V.Sink.faults c.args.vault.now;
      faults_after = g.V.Sink.faults c.args.vault.now;
    } in
    let counted : Counting = record {
      number = g.K.Counter.number c.args.counter.now;
      number_after = g.K.Counter.number c.args.counter.now;
      faults = g.K.Counter.faults c.args.counter.now;
      faults_after = g.K.Counter.faults c.args.counter.now;
    } in
    let own = asked_is _ asked (Upgrade c.in-Ok-Upgrade.key) c.in-Ok-Upgrade.field-0 known c.in-Ok-Upgrade.ensures.asked c.in-Ok-Upgrade.field-0-is in
    subst (λ (a : Asked). AnswersFor a (2 ^ 40) c.upgrade.result read wrote kept counted) own
    (subst (λ (block : List ℕ). AnswersTo (upgrade_answer (sha_functions block)) reading_end (2 ^ 40) c.upgrade.result read wrote)
    c.digests_under-in-Ok-Upgrade.ensures.value c.upgrade.ensures.answers)

pub returns-in-Ok-Resume-clause-answers : goal.returns-in-Ok-Resume-clause-answers
returns-in-Ok-Resume-clause-answers g c = λ asked known.
    let read : Reading = record {
      left = g.S.Source.left c.args.source.now;
      left_after = g.S.Source.left c.resume.new.source;
      faults = g.S.Source.faults c.args.source.now;
      faults_after = g.S.Source.faults c.resume.new.source;
    } in
    let wrote : Writing = record {
      held = g.O.Sink.held c.args.out.now;
      held_after = g.O.Sink.held c.resume.new.out;
      faults = g.O.Sink.faults c.args.out.now;
      faults_after = g.O.Sink.faults c.resume.new.out;
    } in
    let kept : Keeping = record {
      held = g.V.Sink.held c.args.vault.now;
      held_after = g.V.Sink.held c.args.vault.now;
      name = g.V.Sink.name c.args.vault.now;
      name_after = g.V.Sink.name c.args.vault.now;
      faults = g.V.Sink.faults c.args.vault.now;
      faults_after = g.V.Sink.faults c.args.vault.now;
    } in
    let counted : Counting = record {
      number = g.K.Counter.number c.args.counter.now;
      number_after = g.K.Counter.number c.resume.new.counter;
      faults = g.K.Counter.faults c.args.counter.now;
      faults_after = g.K.Counter.faults c.resume.new.counter;
    } in
    let own = asked_is _ asked (Resume c.in-Ok-Resume.key) c.in-Ok-Resume.field-0 known c.in-Ok-Resume.ensures.asked c.in-Ok-Resume.field-0-is in
    subst (λ (a : Asked). AnswersFor a (2 ^ 40) c.resume.result read wrote kept counted) own
    (inl (subst (λ (block : List ℕ). ResumesTo (sha_functions block) (2 ^ 40) c.resume.result read wrote counted)
    c.digests_under-d-in-Ok-Resume.ensures.value c.resume.ensures.resumes))

pub returns-in-Ok-Sign-clause-answers : goal.returns-in-Ok-Sign-clause-answers
returns-in-Ok-Sign-clause-answers g c = λ asked known.
    let read : Reading = record {
      left = g.S.Source.left c.args.source.now;
      left_after = g.S.Source.left c.sign_text.new.source;
      faults = g.S.Source.faults c.args.source.now;
      faults_after = g.S.Source.faults c.sign_text.new.source;
    } in
    let wrote : Writing = record {
      held = g.O.Sink.held c.args.out.now;
      held_after = g.O.Sink.held c.sign_text.new.out;
      faults = g.O.Sink.faults c.args.out.now;
      faults_after = g.O.Sink.faults c.sign_text.new.out;
    } in
    let kept : Keeping = record {
      held = g.V.Sink.held c.args.vault.now;
      held_after = g.V.Sink.held c.args.vault.now;
      name = g.V.Sink.name c.args.vault.now;
      name_after = g.V.Sink.name c.args.vault.now;
      faults = g.V.Sink.faults c.args.vault.now;
      faults_after = g.V.Sink.faults c.args.vault.now;
    } in
    let counted : Counting = record {
      number = g.K.Counter.number c.args.counter.now;
      number_after = g.K.Counter.number c.args.counter.now;
      faults = g.K.Counter.faults c.args.counter.now;
      faults_after = g.K.Counter.faults c.args.counter.now;
    } in
    let sign = c.in-Ok-Sign.signing in
    let own = asked_is _ asked (Sign sign) c.in-Ok-Sign.field-0 known c.in-Ok-Sign.ensures.asked c.in-Ok-Sign.field-0-is in
    subst (λ (a : Asked). AnswersFor a (2 ^ 40) c.sign_text.result read wrote kept counted) own
    (subst (λ (block : List ℕ). AnswersWhole (sign_answer (sha_functions block) sign.numbers.client sign.numbers.bits) (2 ^ 40) c.sign_text.result read wrote)
    c.digests_under-d-in-Ok-Sign.ensures.value c.sign_text.ensures.answers)

pub returns-in-Err-Memory-clause-answers : goal.returns-in-Err-Memory-clause-answers
returns-in-Err-Memory-clause-answers g c = λ asked known.
    answers-nothing asked (2 ^ 40) (g.S.Source.left c.args.source.now) (g.O.Sink.held c.args.out.now) (g.V.Sink.held c.args.vault.now) (g.V.Sink.name c.args.vault.now)
    (g.K.Counter.number c.args.counter.now) _ _ _ _ _ _ _ _

-- ---- the report of an upgrade

pub returns-in-Ok-Check-clause-upgrades : goal.returns-in-Ok-Check-clause-upgrades
returns-in-Ok-Check-clause-upgrades g c = λ key known ended.
    absurd (upgrade_alone _ key (Check c.in-Ok-Check.checking) c.in-Ok-Check.field-0 known c.in-Ok-Check.ensures.asked c.in-Ok-Check.field-0-is)

pub returns-in-Ok-Seal-clause-upgrades : goal.returns-in-Ok-Seal-clause-upgrades
returns-in-Ok-Seal-clause-upgrades g c = λ key known ended.
    absurd (upgrade_alone _ key (Seal c.in-Ok-Seal.sealing) c.in-Ok-Seal.field-0 known c.in-Ok-Seal.ensures.asked c.in-Ok-Seal.field-0-is)

pub returns-in-Ok-Audit-clause-upgrades : goal.returns-in-Ok-Audit-clause-upgrades
returns-in-Ok-Audit-clause-upgrades g c = λ key known ended.
    absurd (upgrade_alone _ key (Audit c.in-Ok-Audit.key) c.in-Ok-Audit.field-0 known c.in-Ok-Audit.ensures.asked c.in-Ok-Audit.field-0-is)

pub returns-in-Ok-Run-clause-upgrades : goal.returns-in-Ok-Run-clause-upgrades
returns-in-Ok-Run-clause-upgrades g c = λ key known ended.
    absurd (upgrade_alone _ key (Run c.in-Ok-Run.run') c.in-Ok-Run.field-0 known c.in-Ok-Run.ensures.asked c.in-Ok-Run.field-0-is)

pub returns-in-Ok-Gen-clause-upgrades : goal.returns-in-Ok-Gen-clause-upgrades
returns-in-Ok-Gen-clause-upgrades g c = λ key known ended.
    absurd (upgrade_alone _ key (Gen c.in-Ok-Gen.load) c.in-Ok-Gen.field-0 known c.in-Ok-Gen.ensures.asked c.in-Ok-Gen.field-0-is)

pub returns-in-Ok-Accept-clause-upgrades : goal.returns-in-Ok-Accept-clause-upgrades
returns-in-Ok-Accept-clause-upgrades g c = λ key known ended.
    absurd (upgrade_alone _ key (Accept c.in-Ok-Accept.key) c.in-Ok-Accept.field-0 known c.in-Ok-Accept.ensures.asked c.in-Ok-Accept.field-0-is)

pub returns-in-Ok-Follow-clause-upgrades : goal.returns-in-Ok-Follow-clause-upgrades
returns-in-Ok-Follow-clause-upgrades g c = λ key known ended.
    absurd (upgrade_alone _ key (Follow c.in-Ok-Follow.key) c.in-Ok-Follow.field-0 known c.in-Ok-Follow.ensures.asked c.in-Ok-Follow.field-0-is)

pub returns-in-Ok-Resume-clause-upgrades : goal.returns-in-Ok-Resume-clause-upgrades
returns-in-Ok-Resume-clause-upgrades g c = λ key known ended.
    absurd (upgrade_alone _ key (Resume c.in-Ok-Resume.key) c.in-Ok-Resume.field-0 known c.in-Ok-Resume.ensures.asked c.in-Ok-Resume.field-0-is)

pub returns-in-Ok-Sign-clause-upgrades : goal.returns-in-Ok-Sign-clause-upgrades
returns-in-Ok-Sign-clause-upgrades g c = λ key known ended.
    absurd (upgrade_alone _ key (Sign c.in-Ok-Sign.signing) c.in-Ok-Sign.field-0 known c.in-Ok-Sign.ensures.asked c.in-Ok-Sign.field-0-is)

pub returns-in-Ok-Upgrade-clause-upgrades : goal.returns-in-Ok-Upgrade-clause-upgrades
returns-in-Ok-Upgrade-clause-upgrades g c = λ key known ended.
    let left = g.S.Source.left c.args.source.now in
    let own = asked_is _ (Upgrade key) (Upgrade c.in-Ok-Upgrade.key) c.in-Ok-Upgrade.field-0 known c.in-Ok-Upgrade.ensures.asked c.in-Ok-Upgrade.field-0-is in
    subst (λ (k : List ℕ). IfSome left (KeepsReport (sha_under k))) (ap asked_key own)
    (subst (λ (block : List ℕ). IfSome left (KeepsReport (sha_functions block))) c.digests_under-in-Ok-Upgrade.ensures.value
    (c.upgrade.ensures.report ended))
