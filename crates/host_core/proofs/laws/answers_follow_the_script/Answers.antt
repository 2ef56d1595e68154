use Rattle.std.proofs.Common.{◌≡◌, true}
use Rattle.host_core.proofs.CoreLaws.{always_answered, always_answered_in_time, always_done, always_round_done}
use Rattle.host_core.proofs.laws.answers_follow_the_script.Goals as goal

pub returns : goal.returns
returns g c = record {
  front = λ host plain mirrors. always_answered (λ s contents. mirrors s contents ≡ true) host plain;
  whole = λ host plain mirrors. always_done (λ s contents. mirrors s contents ≡ true) host plain;
  in_time = λ host mirrors. always_answered_in_time (λ s contents. mirrors s contents ≡ true) host;
  round = λ host rolling mirrors. always_round_done (λ s contents. mirrors s contents ≡ true) host rolling;
}
