use Rattle.host_epochs.specs.Calls.{asked, stop_by}
use Rattle.host_epochs.specs.Made.{terms_of}
use Rattle.host_epochs.specs.Plays.{no_draft}
use Rattle.host_epochs.proofs.epochs.Epochs.stop.Given as goal

abbrev pub ghosts-halt : goal.ghosts-halt
ghosts-halt g a = record {
  terms = terms_of g.D.Digests.functions a.board.now.shared.key;
  draft = no_draft;
  stop = stop_by (terms_of g.D.Digests.functions a.board.now.shared.key) a.hand.now a.at a.held (asked a.request);
}
