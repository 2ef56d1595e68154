use Rattle.std.proofs.Common.{◌∙◌, sym, arith}
use Rattle.script_text.proofs.SigningLemmas.{signed-nothing, signed-line, signed-refused, signed-all}
use Rattle.script_text.proofs.signing.sign_lines.Goals as goal

pub loop-rest-init : goal.loop-rest-init
loop-rest-init g c = record {
  signed = rw c.new-text.ensures.items (signed-nothing (g.D.Digests.functions c.args.d.now) c.args.wide c.args.client c.args.bytes.now);
  counted = omega arith;
}

pub returns-in-Err-clause-refused : goal.returns-in-Err-clause-refused
returns-in-Err-clause-refused g c =
    signed-refused _ _ _ _ _ _ _ _ _ _ _ c.loop-rest.invariant.signed c.split_line.ensures.lines (sym c.in-Err.ensures.value)

pub loop-rest-preserved : goal.loop-rest-preserved
loop-rest-preserved g c = record {
  signed = rw c.in_ok-write_signed.ensures.appended
      (signed-line _ _ _ _ _ _ _ _ _ _ _ c.loop-rest.invariant.signed c.split_line.ensures.lines (sym c.in-Ok.ensures.value));
  counted = omega (arith, c.split_line.ensures.shorter, c.loop-rest.invariant.counted);
}

pub returns-clause-signed : goal.returns-clause-signed
returns-clause-signed g c = signed-all _ _ _ _ _ _ _ _ (sym c.is_empty.ensures ∙ c.loop-rest-test.false) c.loop-rest.invariant.signed
