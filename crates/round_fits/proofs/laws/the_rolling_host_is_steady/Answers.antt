use Rattle.round_fits.proofs.ScanLaws.{is_steady}
use Rattle.round_fits.proofs.laws.the_rolling_host_is_steady.Goals as goal

pub returns : goal.returns
returns c = record {
  steady = λ functions settings script cold_only. is_steady functions settings script cold_only (c.the_shipped_host_is_steady.ensures.steady functions settings script);
}
