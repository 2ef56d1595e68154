use Rattle.epoch_book.proofs.StepLemmas.{words-close}
use Rattle.epoch_book.proofs.book.EpochBook.totals.Goals as goal

pub returns-clause-totals : goal.returns-clause-totals
returns-clause-totals c word within =
    words-close _ _ _ _ _ _ _ c.gather-ticket.ensures.all c.requires.all.count c.close_with-closed.ensures.values.2 word _ (c.words_of-totals.ensures.words word within)
