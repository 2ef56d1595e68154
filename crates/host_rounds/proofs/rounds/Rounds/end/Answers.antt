use Rattle.std.proofs.Common.{length, ap, arith}
use Rattle.host_rounds.specs.SoFar.{RunsSoFar}
use Rattle.host_rounds.proofs.RunLemmas.{runs-few}
use Rattle.host_rounds.proofs.rounds.Rounds.end.Goals as goal

pub end-requires : goal.end-requires
end-requires c = record {
  few = omega (arith, ap length c.deref_mut.ensures.value, ap (λ (s : RunsSoFar). length s.runs) c.self.view_is, runs-few c.args.self.now c.requires.runs);
}
