use Rattle.host_epochs.specs.Made.{terms_of}
use Rattle.host_epochs.specs.Plays.{no_draft, no_stop}
use Rattle.host_epochs.proofs.epochs.Epochs.close.Given as goal

abbrev pub ghosts-come : goal.ghosts-come
ghosts-come g a = record { terms = terms_of g.D.Digests.functions a.board.now.shared.key; draft = no_draft; stop = no_stop }
