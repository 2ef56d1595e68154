use Rattle.std.proofs.Common.{ℕ, ◌++◌, List, map, Bor, add-one, refl, sym, ◌∙◌, ap, subst, arith}
use Rattle.std.specs.List.{fold}
use Rattle.std.proofs.lemmas.Result.{IfOk-from_err}
use Rattle.fv_outside.specs.Written.{GrowsByFront}
use Rattle.fv_outside.proofs.WrittenLaws.{GrowsByFront-none}
use Rattle.report_text.specs.Page.{Passes}
use Rattle.report_text.proofs.PassLaws.{Passes-start, on_err}
use Rattle.epoch_gather.specs.declared.outcome.Verdict.{Verdict}
use Rattle.bundle_report.specs.declared.judged.Judged.{Judged}
use Rattle.bundle_report.specs.Report.{operations_told}
use Rattle.certified_epochs.specs.Telling.{text_by}
use Rattle.certified_epochs.specs.Turn.{Turned, IsVerdictAt, next_epoch}
use Rattle.certified_epochs.proofs.TurnLemmas.{runs_of, handed-at, with_text, turn-none, turn-other, turn-balanced, less-left, fed_courses}
use Rattle.certified_epochs.proofs.GoingOnLemmas.{fed-judged, count-small}
use Rattle.certified_epochs.proofs.OrderLemmas.{fed-in_order}
use Rattle.stamp_order.specs.Operations.{merged_up_to}
use Rattle.verifier_run.specs.Taken.{left_of}
use Rattle.bundle_report.specs.RunReport.{operations_among}
use Rattle.certified_epochs.specs.declared.fed_run.FedRun.{FedRun}
use Rattle.certified_epochs.proofs.certifier.Certifier.certify_next.Goals as goal

-- the text of a turn
abbrev text_of : {A : Type 0} → Turned A → List A
text_of turned = turned.text

pub returns-in_default-clause-turned : goal.returns-in_default-clause-turned
returns-in_default-clause-turned g c =
    with_text _ _ _ _ _
    (turn-none (text_by g.D.Digests.functions c.args.telling.now) c.args.self.now (runs_of c.args.runs.now) c.next_epoch.result c.in_default.is c.next_epoch.ensures.value)

pub returns-in_default-clause-text : goal.returns-in_default-clause-text
returns-in_default-clause-text g c =
    subst (λ (text : List ℕ). Passes (g.O.Sink.held c.args.out.now) c.args.page.now text (g.O.Sink.held c.args.out.now) c.args.page.now)
    (sym (ap text_of
    (turn-none (text_by g.D.Digests.functions c.args.telling.now) c.args.self.now (runs_of c.args.runs.now) c.next_epoch.result c.in_default.is c.next_epoch.ensures.value)))
    (Passes-start (g.O.Sink.held c.args.out.now) c.args.page.now)

pub returns-in_default-clause-folded : goal.returns-in_default-clause-folded
returns-in_default-clause-folded g c =
    ap (fold g.T.OperationFold.step (g.T.OperationFold.state c.args.folded.now))
    (sym (ap text_of
    (turn-none operations_told c.args.self.now (runs_of c.args.runs.now) c.next_epoch.result c.in_default.is c.next_epoch.ensures.value)))

pub verdict_on-requires : goal.verdict_on-requires
verdict_on-requires g c = record {
  few = c.requires.few;
  parts = fed-judged c.args.self.now c.args.runs.now c.requires.can;
  handed =
      handed-at (λ epoch (verdict : Bor Verdict). IsVerdictAt (runs_of c.args.runs.now) 0 epoch verdict.now) c.in-Some.epoch (next_epoch (runs_of c.args.runs.now)) c.args.handed
      (sym c.next_epoch.ensures.value ∙ c.in-Some.is) c.requires.handed;
}

pub returns-in-Unbalanced-clause-turned : goal.returns-in-Unbalanced-clause-turned
returns-in-Unbalanced-clause-turned g c =
    with_text _ _ _ _ _
    (turn-other (text_by g.D.Digests.functions c.args.telling.now) c.args.self.now c.args.runs.now c.next_epoch.result c.in-Some.epoch c.in_ok-verdict_on.field-0 c.in-Some.is c.next_epoch.ensures.value
    c.in_ok-verdict_on.ensures.verdict c.self.inside.judged _ (sym c.self.view_is) c.in-Unbalanced.is)

pub returns-in-Unbalanced-clause-text : goal.returns-in-Unbalanced-clause-text
returns-in-Unbalanced-clause-text g c =
    subst (λ (text : List ℕ). Passes (g.O.Sink.held c.args.out.now) c.args.page.now text (g.O.Sink.held c.args.out.now) c.args.page.now)
    (sym (ap text_of
    (turn-other (text_by g.D.Digests.functions c.args.telling.now) c.args.self.now c.args.runs.now c.next_epoch.result c.in-Some.epoch c.in_ok-verdict_on.field-0 c.in-Some.is c.next_epoch.ensures.value
    c.in_ok-verdict_on.ensures.verdict c.self.inside.judged _ (sym c.self.view_is) c.in-Unbalanced.is)))
    (Passes-start (g.O.Sink.held c.args.out.now) c.args.page.now)

pub returns-in-Missing-clause-turned : goal.returns-in-Missing-clause-turned
returns-in-Missing-clause-turned g c =
    with_text _ _ _ _ _
    (turn-other (text_by g.D.Digests.functions c.args.telling.now) c.args.self.now c.args.runs.now c.next_epoch.result c.in-Some.epoch c.in_ok-verdict_on.field-0 c.in-Some.is c.next_epoch.ensures.value
    c.in_ok-verdict_on.ensures.verdict c.self.inside.judged _ (sym c.self.view_is) c.in-Missing.is)

pub returns-in-Missing-clause-text : goal.returns-in-Missing-clause-text
returns-in-Missing-clause-text g c =
    subst (λ (text : List ℕ). Passes (g.O.Sink.held c.args.out.now) c.args.page.now text (g.O.Sink.held c.args.out.now) c.args.page.now)
    (sym (ap text_of
    (turn-other (text_by g.D.Digests.functions c.args.telling.now) c.args.self.now c.args.runs.now c.next_epoch.result c.in-Some.epoch c.in_ok-verdict_on.field-0 c.in-Some.is c.next_epoch.ensures.value
    c.in_ok-verdict_on.ensures.verdict c.self.inside.judged _ (sym c.self.view_is) c.in-Missing.is)))
    (Passes-start (g.O.Sink.held c.args.out.now) c.args.page.now)

pub tell_epoch-requires-clause-in_order : goal.tell_epoch-requires-clause-in_order
tell_epoch-requires-clause-in_order g c κs within = fed-in_order c.args.self.now c.args.runs.now c.requires.can

pub returns-in_err-tell_epoch-clause-front : goal.returns-in_err-tell_epoch-clause-front
returns-in_err-tell_epoch-clause-front g c =
    on_err _
    (subst (λ (text : List ℕ). GrowsByFront (g.O.Sink.held c.args.out.now) (g.O.Sink.held c.tell_epoch.new.out) (c.args.page.now ++ text))
    (sym (ap text_of
    (turn-balanced (text_by g.D.Digests.functions c.args.telling.now) c.args.self.now c.args.runs.now c.next_epoch.result c.in-Some.epoch c.in_ok-verdict_on.field-0 c.in-Some.is c.next_epoch.ensures.value
    c.in_ok-verdict_on.ensures.verdict c.self.inside.judged _
    (map (λ (fed : FedRun). left_of c.in-Some.epoch fed.run) c.args.runs.now) (merged_up_to c.in-Some.epoch (operations_among (fed_courses c.args.runs.now))) (sym c.self.view_is) refl c.in-Balanced.is refl refl)))
    c.in_err-tell_epoch.ensures.front)

pub one_more-self-inside-requires : goal.one_more-self-inside-requires
one_more-self-inside-requires g c = record {
  within =
      let small = count-small c.args.self.now (runs_of c.args.runs.now) c.next_epoch.result c.in-Some.epoch c.requires.can c.in-Some.is c.next_epoch.ensures.value in
      let same = ap (λ (j : Judged). j.count) c.self.view_is in
      omega (arith, small, same);
}

pub returns-clause-turned : goal.returns-clause-turned
returns-clause-turned g c =
    with_text _ _ _ _ _
    (turn-balanced (text_by g.D.Digests.functions c.args.telling.now) c.args.self.now c.args.runs.now c.next_epoch.result c.in-Some.epoch c.in_ok-verdict_on.field-0 c.in-Some.is c.next_epoch.ensures.value
    c.in_ok-verdict_on.ensures.verdict c.self.inside.judged _
    (runs_of c.pass_all.new.runs) (merged_up_to c.in-Some.epoch (operations_among (fed_courses c.args.runs.now))) (sym c.self.view_is) (c.one_more-self-inside.ensures.value ∙ add-one c.self.inside.judged.count) c.in-Balanced.is c.pass_all.ensures.left refl)

pub returns-clause-text : goal.returns-clause-text
returns-clause-text g c =
    subst (λ (text : List ℕ). Passes (g.O.Sink.held c.args.out.now) c.args.page.now text (g.O.Sink.held c.tell_epoch.new.out) c.tell_epoch.new.page)
    (sym (ap text_of
    (turn-balanced (text_by g.D.Digests.functions c.args.telling.now) c.args.self.now c.args.runs.now c.next_epoch.result c.in-Some.epoch c.in_ok-verdict_on.field-0 c.in-Some.is c.next_epoch.ensures.value
    c.in_ok-verdict_on.ensures.verdict c.self.inside.judged _
    (runs_of c.pass_all.new.runs) (merged_up_to c.in-Some.epoch (operations_among (fed_courses c.args.runs.now))) (sym c.self.view_is) (c.one_more-self-inside.ensures.value ∙ add-one c.self.inside.judged.count) c.in-Balanced.is c.pass_all.ensures.left refl)))
    c.in_ok-tell_epoch.ensures.whole

pub returns-clause-less : goal.returns-clause-less
returns-clause-less g c = λ done.
    less-left c.in-Some.epoch c.args.runs.now c.pass_all.new.runs c.next_epoch.result c.in-Some.is c.next_epoch.ensures.value c.pass_all.ensures.left

pub returns-in-Unbalanced-clause-folded : goal.returns-in-Unbalanced-clause-folded
returns-in-Unbalanced-clause-folded g c =
    ap (fold g.T.OperationFold.step (g.T.OperationFold.state c.args.folded.now))
    (sym (ap text_of
    (turn-other operations_told c.args.self.now c.args.runs.now c.next_epoch.result c.in-Some.epoch c.in_ok-verdict_on.field-0 c.in-Some.is c.next_epoch.ensures.value
    c.in_ok-verdict_on.ensures.verdict c.self.inside.judged _ (sym c.self.view_is) c.in-Unbalanced.is)))

pub returns-in-Missing-clause-folded : goal.returns-in-Missing-clause-folded
returns-in-Missing-clause-folded g c =
    ap (fold g.T.OperationFold.step (g.T.OperationFold.state c.args.folded.now))
    (sym (ap text_of
    (turn-other operations_told c.args.self.now c.args.runs.now c.next_epoch.result c.in-Some.epoch c.in_ok-verdict_on.field-0 c.in-Some.is c.next_epoch.ensures.value
    c.in_ok-verdict_on.ensures.verdict c.self.inside.judged _ (sym c.self.view_is) c.in-Missing.is)))

pub returns-clause-folded : goal.returns-clause-folded
returns-clause-folded g c =
    c.in_ok-tell_epoch.ensures.folded
    ∙ ap (fold g.T.OperationFold.step (g.T.OperationFold.state c.args.folded.now))
    (sym (ap text_of
    (turn-balanced operations_told c.args.self.now c.args.runs.now c.next_epoch.result c.in-Some.epoch c.in_ok-verdict_on.field-0 c.in-Some.is c.next_epoch.ensures.value
    c.in_ok-verdict_on.ensures.verdict c.self.inside.judged _
    (runs_of c.pass_all.new.runs) (merged_up_to c.in-Some.epoch (operations_among (fed_courses c.args.runs.now))) (sym c.self.view_is) (c.one_more-self-inside.ensures.value ∙ add-one c.self.inside.judged.count) c.in-Balanced.is c.pass_all.ensures.left refl)))

pub returns-in_err-verdict_on-clause-front : goal.returns-in_err-verdict_on-clause-front
returns-in_err-verdict_on-clause-front g c = on_err _ (GrowsByFront-none (g.O.Sink.held c.args.out.now) _)

pub returns-in_err-verdict_on-clause-turned : goal.returns-in_err-verdict_on-clause-turned
returns-in_err-verdict_on-clause-turned g c = IfOk-from_err _ _ c.from_residual.ensures.0

pub returns-in_err-verdict_on-clause-text : goal.returns-in_err-verdict_on-clause-text
returns-in_err-verdict_on-clause-text g c = IfOk-from_err _ _ c.from_residual.ensures.0

pub returns-in_err-verdict_on-clause-folded : goal.returns-in_err-verdict_on-clause-folded
returns-in_err-verdict_on-clause-folded g c = IfOk-from_err _ _ c.from_residual.ensures.0

pub returns-in_err-tell_epoch-clause-turned : goal.returns-in_err-tell_epoch-clause-turned
returns-in_err-tell_epoch-clause-turned g c = IfOk-from_err _ _ c.from_residual-in_err-tell_epoch.ensures.0

pub returns-in_err-tell_epoch-clause-text : goal.returns-in_err-tell_epoch-clause-text
returns-in_err-tell_epoch-clause-text g c = IfOk-from_err _ _ c.from_residual-in_err-tell_epoch.ensures.0

pub returns-in_err-tell_epoch-clause-folded : goal.returns-in_err-tell_epoch-clause-folded
returns-in_err-tell_epoch-clause-folded g c = IfOk-from_err _ _ c.from_residual-in_err-tell_epoch.ensures.0
