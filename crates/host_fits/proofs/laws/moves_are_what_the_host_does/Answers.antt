use Rattle.host_fits.proofs.MoveLemmas.{move_done, move_ended}
use Rattle.host_fits.proofs.laws.moves_are_what_the_host_does.Goals as goal

pub returns : goal.returns
returns c = record { moved = move_done; ended = move_ended }
