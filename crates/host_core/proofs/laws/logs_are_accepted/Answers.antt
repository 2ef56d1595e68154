use Rattle.std.proofs.Common.{◌≡◌, true}
use Rattle.host_core.proofs.CoreLaws.{always_accepted}
use Rattle.host_core.proofs.laws.logs_are_accepted.Goals as goal

pub returns : goal.returns
returns g c = record {
  accepted = λ host mirrors. always_accepted (λ s contents. mirrors s contents ≡ true) host;
}
