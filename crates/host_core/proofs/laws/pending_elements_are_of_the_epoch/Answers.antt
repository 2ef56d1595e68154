use Rattle.std.proofs.Common.{◌≡◌, true}
use Rattle.host_core.proofs.CoreLaws.{always_in_phase, always_due_in_phase, always_in_round, always_level_behind_round, always_behind_close}
use Rattle.host_core.proofs.laws.pending_elements_are_of_the_epoch.Goals as goal

pub returns : goal.returns
returns g c = record {
  phase = λ host plain mirrors. always_in_phase (λ s contents. mirrors s contents ≡ true) host plain;
  due = λ host plain mirrors. always_due_in_phase (λ s contents. mirrors s contents ≡ true) host plain;
  round = λ host rolling mirrors. always_in_round (λ s contents. mirrors s contents ≡ true) host rolling;
  level = λ host mirrors. always_level_behind_round (λ s contents. mirrors s contents ≡ true) host;
  close = λ host mirrors. always_behind_close (λ s contents. mirrors s contents ≡ true) host;
}
