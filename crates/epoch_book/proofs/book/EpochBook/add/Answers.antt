use Rattle.std.proofs.Common.{◌∙◌, take, length-take, arith}
use Rattle.epoch_book.proofs.StepLemmas.{adds}
use Rattle.epoch_book.proofs.book.EpochBook.add.Goals as goal

pub fetch_add-requires : goal.fetch_add-requires
fetch_add-requires c = (
  c.loop-word.invariant.book ∙ c.requires.ticket.0,
  omega (arith, c.args.self.now.sized),
  adds _ _ _ _ _ _ (take c.loop-word.word c.args.numbers.now) c.loop-word.invariant.row (omega (arith, length-take c.loop-word.word c.args.numbers.now, c.told-numbers)) (omega arith) (c.requires.small c.loop-word.word),
)
