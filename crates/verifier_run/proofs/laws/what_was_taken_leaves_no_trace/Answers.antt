use Rattle.std.proofs.Common.{arith}
use Rattle.verifier_run.proofs.TakenLemmas.{fed_left, ended_left}
use Rattle.verifier_run.proofs.laws.what_was_taken_leaves_no_trace.Goals as goal

pub returns : goal.returns
returns c = record {
  fed = λ scheme progress piece through past. fed_left through scheme progress piece (omega (arith, past));
  ended = λ progress through. ended_left through progress;
}
