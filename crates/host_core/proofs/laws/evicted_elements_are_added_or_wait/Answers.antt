use Rattle.std.proofs.Common.{◌≡◌, true}
use Rattle.host_core.proofs.CoreLaws.{always_even}
use Rattle.host_core.proofs.laws.evicted_elements_are_added_or_wait.Goals as goal

pub returns : goal.returns
returns g c = record {
  even = λ host mirrors. always_even (λ s contents. mirrors s contents ≡ true) host;
}
