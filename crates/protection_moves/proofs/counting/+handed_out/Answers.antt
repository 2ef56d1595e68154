use Rattle.std.proofs.Common.{ℕ, map, arith}
use Rattle.protection_moves.specs.Transfer.{promotes}
use Rattle.protection_moves.proofs.CountingLemmas.{clock_by_each-up}
use Rattle.protection_moves.proofs.counting.+handed_out.Goals as goal

pub returns-in-None-clause-past : goal.returns-in-None-clause-past
returns-in-None-clause-past t c =
    omega (arith, c.in-None.ensures.past, clock_by_each-up c.args.clock.now (map (λ (k : ℕ). promotes k) c.args.keys.now))
