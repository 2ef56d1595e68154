use Rattle.std.proofs.Common.{◌≡◌, true}
use Rattle.host_core.proofs.StoringLaws.{always_answered_held, always_certified_held}
use Rattle.host_core.proofs.laws.contents_hold_the_plain_map.Goals as goal

pub returns : goal.returns
returns g c = record {
  answered = λ host mirrors storing. always_answered_held (λ s contents. mirrors s contents ≡ true) storing host;
  certified = λ host mirrors storing. always_certified_held (λ s contents. mirrors s contents ≡ true) storing host;
}
