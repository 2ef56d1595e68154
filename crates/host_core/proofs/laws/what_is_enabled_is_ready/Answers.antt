use Rattle.std.proofs.Common.{◌≡◌, true}
use Rattle.host_core.proofs.StandingLaws.{always_standing}
use Rattle.host_core.proofs.laws.what_is_enabled_is_ready.Goals as goal

pub returns : goal.returns
returns g c = record { ready = λ host mirrors. always_standing (λ s contents. mirrors s contents ≡ true) host }
