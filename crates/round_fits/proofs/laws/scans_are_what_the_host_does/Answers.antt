use Rattle.round_fits.proofs.ScanLaws.{cold_move}
use Rattle.round_fits.proofs.laws.scans_are_what_the_host_does.Goals as goal

pub returns : goal.returns
returns c = record {
  scanned = λ functions settings script worker s clock shard others cold_only alone. cold_move functions settings script cold_only worker clock shard others alone s;
}
