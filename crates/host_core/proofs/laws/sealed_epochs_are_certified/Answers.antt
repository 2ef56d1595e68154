use Rattle.std.proofs.Common.{◌≡◌, true}
use Rattle.host_core.proofs.CoreLaws.{always_sealed, always_permuted, always_certified, always_whole}
use Rattle.host_core.proofs.laws.sealed_epochs_are_certified.Goals as goal

pub returns : goal.returns
returns g c = record {
  sealed = λ host mirrors. always_sealed (λ s contents. mirrors s contents ≡ true) host;
  permuted = λ host mirrors. always_permuted (λ s contents. mirrors s contents ≡ true) host;
  certified = λ host mirrors. always_certified (λ s contents. mirrors s contents ≡ true) host;
  whole = λ host mirrors. always_whole (λ s contents. mirrors s contents ≡ true) host;
}
