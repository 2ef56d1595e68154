use Rattle.std.proofs.Common.{◌∙◌, arith}
use Rattle.report_text.specs.Exhibit.{element_line}
use Rattle.report_text.proofs.PassLaws.{Passes-then, Passes-stop, lines_step, on_err}
use Rattle.report_text.proofs.exhibit.write_elements.Goals as goal

pub returns-in_err-write-clause-front : goal.returns-in_err-write-clause-front
returns-in_err-write-clause-front g c =
    on_err _ (Passes-stop _ _ _ _ _ _ _ _ c.loop-element.invariant.passes c.in_err-write.ensures.front c.loop-element.invariant.left)

pub loop-element-preserved : goal.loop-element-preserved
loop-element-preserved g c = record {
  text = _;
  passes = Passes-then _ _ _ _ _ _ _ _ c.loop-element.invariant.passes c.in_ok-write.ensures.whole;
  left =
      lines_step (element_line c.args.word.now) _ _ _ _ _ _ c.loop-element-test.true c.element-item.is
      (c.as_slice.ensures.value ∙ c.element_line.ensures.text) c.loop-element.invariant.left;
  name = c.in_ok-write.ensures.name ∙ c.loop-element.invariant.name;
  faults = omega (arith, c.loop-element.invariant.faults, c.in_ok-write.ensures.counts.never_falls);
}
