use Rattle.host_fits.proofs.PromiseLaws.{promised}
use Rattle.host_fits.proofs.laws.the_shipped_host_keeps_its_promise.Goals as goal

pub returns : goal.returns
returns c = record { promised = promised }
