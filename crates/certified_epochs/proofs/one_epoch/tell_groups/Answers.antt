use Rattle.std.proofs.Common.{ℕ, List, ◌++◌, sym, ◌∙◌, ap, subst, append_assoc, arith}
use Rattle.std.specs.List.{fold}
use Rattle.std.proofs.lemmas.List.Sums.{fold-append}
use Rattle.fv_outside.specs.Written.{GrowsByFront}
use Rattle.fv_outside.proofs.WrittenLaws.{GrowsByFront-none}
use Rattle.record_text.specs.declared.operation.Operation.{Operation}
use Rattle.report_text.specs.Page.{Passes}
use Rattle.report_text.proofs.PassLaws.{Passes-then, Passes-front, Passes-stop, on_err}
use Rattle.certified_epochs.specs.Pieces.{lines_of}
use Rattle.certified_epochs.proofs.PieceLemmas.{lines-append, lines-all, lines-next}
use Rattle.certified_epochs.proofs.one_epoch.tell_groups.Goals as goal

pub returns-in_err-take_group-clause-front : goal.returns-in_err-take_group-clause-front
returns-in_err-take_group-clause-front g c =
    let inv = c.groups.invariant in
    on_err _
    (Passes-stop _ _ _ _ _ _ _ _ inv.passes (GrowsByFront-none (g.O.Sink.held c.groups.out) c.groups.page)
    (lines-all g.D.Digests.functions c.args.telling.now inv.told c.groups.operations c.args.operations.now inv.all))

pub returns-in_err-add_all-clause-front : goal.returns-in_err-add_all-clause-front
returns-in_err-add_all-clause-front g c =
    let inv = c.groups.invariant in
    on_err _
    (Passes-stop _ _ _ _ _ _ _ _ inv.passes (GrowsByFront-none (g.O.Sink.held c.groups.out) c.groups.page)
    (lines-all g.D.Digests.functions c.args.telling.now inv.told c.groups.operations c.args.operations.now inv.all))

pub groups-preserved : goal.groups-preserved
groups-preserved g c =
    let inv = c.groups.invariant in
    let functions = g.D.Digests.functions in
    let telling = c.args.telling.now in
    let group = c.take_group.new.group.items in
    let taken = c.in_ok-take_group.ensures.taken in
    record {
      told = inv.told ++ group;
      all = append_assoc inv.told group c.take_group.new.operations ∙ ap (λ (left : List Operation). inv.told ++ left) (sym taken) ∙ inv.all;
      passes =
          subst (λ (text : List ℕ). Passes (g.O.Sink.held c.args.out.now) c.args.page.now text (g.O.Sink.held c.write_group.new.out) c.write_group.new.page)
          (ap (λ (operations : List Operation). lines_of functions telling inv.told ++ lines_of functions telling operations) c.deref-in-groups.ensures.value
          ∙ sym (lines-append functions telling inv.told group))
          (Passes-then _ _ _ _ _ _ _ _ inv.passes c.in_ok-write_group.ensures.whole);
      folded =
          c.in_ok-add_all.ensures.folded
          ∙ ap (λ (operations : List Operation). fold g.T.OperationFold.step (g.T.OperationFold.state c.groups.folded) operations) c.deref.ensures.value
          ∙ ap (λ state. fold g.T.OperationFold.step state group) inv.folded
          ∙ sym (fold-append g.T.OperationFold.step (g.T.OperationFold.state c.args.folded.now) inv.told group);
      faults = omega (arith, inv.faults, c.write_group.ensures.never_falls);
    }

pub returns-in_err-write_group-clause-front : goal.returns-in_err-write_group-clause-front
returns-in_err-write_group-clause-front g c =
    let inv = c.groups.invariant in
    let functions = g.D.Digests.functions in
    let telling = c.args.telling.now in
    on_err _
    (Passes-front _ _ _ _ _ (lines_of functions telling inv.told) (lines_of functions telling c.take_group.new.group.items) _ _ inv.passes
    (subst (λ (operations : List Operation). GrowsByFront (g.O.Sink.held c.groups.out) (g.O.Sink.held c.write_group.new.out) (c.groups.page ++ lines_of functions telling operations))
    c.deref-in-groups.ensures.value c.in_err-write_group.ensures.front)
    (lines-next functions telling inv.told c.groups.operations c.take_group.new.group.items c.take_group.new.operations c.args.operations.now inv.all
    c.in_ok-take_group.ensures.taken))
