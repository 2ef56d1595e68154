use Rattle.std.proofs.Common.{sym, ◌∙◌, arith}
use Rattle.command_window.proofs.GoesOnLemmas.{text-at, text-past}
use Rattle.command_window.proofs.hashing.text_at.Goals as goal

pub returns-then-place-asked : goal.returns-then-place-asked
returns-then-place-asked c = record { value = sym (text-past c.args.asked.now c.args.place (omega (arith, c.if-place-asked.true))) }

pub returns : goal.returns
returns c = record {
  value = c.as_slice.ensures.value ∙ sym (text-at c.args.asked.now c.args.place c.index-asked-place.result (omega (arith, c.if-place-asked.false)));
}
