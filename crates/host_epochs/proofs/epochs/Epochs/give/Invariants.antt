use Rattle.host_epochs.specs.Calls.{asked}
use Rattle.host_epochs.specs.Made.{terms_of}
use Rattle.host_epochs.specs.Plays.{no_stop}
use Rattle.host_epochs.specs.Terms.{clock_at}
use Rattle.host_epochs.proofs.epochs.Epochs.give.Given as goal

abbrev pub ghosts-note : goal.ghosts-note
ghosts-note g a = record {
  terms = terms_of g.D.Digests.functions a.board.now.shared.key;
  draft = record { clock = clock_at (terms_of g.D.Digests.functions a.board.now.shared.key) a.clock; request = asked a.request; after = a.after.now };
  stop = no_stop;
}
