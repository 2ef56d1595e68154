use Rattle.std.proofs.Common.{◌≡◌, true}
use Rattle.host_core.proofs.ExhibitLaws.{always_nothing_to_show, always_served_serially}
use Rattle.host_core.proofs.laws.certified_answers_are_serial.Goals as goal

pub returns : goal.returns
returns g c = record {
  exhibit = λ host mirrors keeping. always_nothing_to_show (λ s contents. mirrors s contents ≡ true) keeping host;
  serial = λ host mirrors keeping. always_served_serially (λ s contents. mirrors s contents ≡ true) keeping host;
}
