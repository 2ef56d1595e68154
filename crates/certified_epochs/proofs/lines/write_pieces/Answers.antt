use Rattle.std.proofs.Common.{◌≡◌, ℕ, List, ◌++◌, sym, ◌∙◌, subst, arith}
use Rattle.fv_outside.specs.Written.{GrowsByFront}
use Rattle.fv_outside.proofs.WrittenLaws.{GrowsByFront-none}
use Rattle.report_text.specs.Page.{Passes}
use Rattle.report_text.proofs.PassLaws.{Passes-then, Passes-front, Passes-stop, on_err}
use Rattle.certified_epochs.specs.Pieces.{part_at, lines_of, HasLines}
use Rattle.certified_epochs.proofs.PieceLemmas.{lines-part}
use Rattle.certified_epochs.proofs.lines.write_pieces.Goals as goal

pub returns-then-not-piece-clause-front : goal.returns-then-not-piece-clause-front
returns-then-not-piece-clause-front g c =
    let inv = c.loop-piece.invariant in
    Passes-stop _ _ _ _ _ inv.text _ _ inv.passes (GrowsByFront-none (g.O.Sink.held c.loop-piece.out) c.loop-piece.page) inv.left

pub returns-in_err-write_line-clause-front : goal.returns-in_err-write_line-clause-front
returns-in_err-write_line-clause-front g c =
    let inv = c.loop-piece.invariant in
    let functions = g.D.Digests.functions in
    let telling = c.args.telling.now in
    let group = c.args.group.now in
    let number = c.loop-piece.piece-index in
    let own = subst (HasLines functions telling group number) (sym c.piece-item.is) (c.fill_pieces.ensures.lines number c.piece-item.result c.loop-piece-test.true) c.if-not-piece.false in
    let line : c.as_slice.result.now ≡ lines_of functions telling (part_at 1024 number group) = c.as_slice.ensures.value ∙ own in
    on_err _
    (Passes-front _ _ _ _ _ inv.text (lines_of functions telling (part_at 1024 number group)) _ _ inv.passes
    (subst (λ (text : List ℕ). GrowsByFront (g.O.Sink.held c.loop-piece.out) (g.O.Sink.held c.write_line.new.out) (c.loop-piece.page ++ text)) line
    c.in_err-write_line.ensures.front)
    (lines-part functions telling 1024 number group inv.text _ inv.left))

pub loop-piece-preserved : goal.loop-piece-preserved
loop-piece-preserved g c =
    let inv = c.loop-piece.invariant in
    let functions = g.D.Digests.functions in
    let telling = c.args.telling.now in
    let group = c.args.group.now in
    let number = c.loop-piece.piece-index in
    let own = subst (HasLines functions telling group number) (sym c.piece-item.is) (c.fill_pieces.ensures.lines number c.piece-item.result c.loop-piece-test.true) c.if-not-piece.false in
    let line : c.as_slice.result.now ≡ lines_of functions telling (part_at 1024 number group) = c.as_slice.ensures.value ∙ own in
    record {
      text = inv.text ++ lines_of functions telling (part_at 1024 number group);
      passes =
          Passes-then _ _ _ _ _ _ _ _ inv.passes
          (subst (λ (text : List ℕ). Passes (g.O.Sink.held c.loop-piece.out) c.loop-piece.page text (g.O.Sink.held c.write_line.new.out) c.write_line.new.page) line
          c.in_ok-write_line.ensures.whole);
      left = lines-part functions telling 1024 number group inv.text _ inv.left;
      faults = omega (arith, inv.faults, c.write_line.ensures.never_falls);
    }
