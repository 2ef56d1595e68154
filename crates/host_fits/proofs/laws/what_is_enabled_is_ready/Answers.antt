use Rattle.shipped_host.proofs.RangeLaws.{shards_set_up}
use Rattle.host_fits.proofs.StandingLaws.{standing}
use Rattle.host_fits.proofs.laws.what_is_enabled_is_ready.Goals as goal

pub returns : goal.returns
returns c = record { ready = standing; shards = shards_set_up }
