use Rattle.host_fits.proofs.SteadyLemmas.{is_steady, moves_keep_epoch}
use Rattle.host_fits.proofs.laws.the_shipped_host_is_steady.Goals as goal

pub returns : goal.returns
returns c = record { steady = is_steady; close = moves_keep_epoch }
