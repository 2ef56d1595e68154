use Rattle.command_window.proofs.GoesOnLemmas.{digest_noted}
use Rattle.command_window.proofs.hashing.note_digest.Goals as goal

pub returns-then-place-asked : goal.returns-then-place-asked
returns-then-place-asked c = record {
  goes_on = λ functions value. digest_noted functions c.args.asked.now c.args.place c.index-asked-place.result c.args.digest c.if-place-asked.true value;
}
