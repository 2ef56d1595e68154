use Rattle.std.proofs.Common.{ℕ, map}
use Rattle.protection_moves.specs.Transfer.{promotes}
use Rattle.protection_moves.proofs.CountingLemmas.{past_by_first_transfer}
use Rattle.protection_moves.proofs.counting.+ended.Goals as goal

pub returns-in-None-clause-past : goal.returns-in-None-clause-past
returns-in-None-clause-past t c =
    past_by_first_transfer c.args.clock.now c.args.back.now c.in-Some.rest.now c.in-Some.first.now (map (λ (k : ℕ). promotes k) c.args.keys.now)
    c.in-Some.ensures.cases.0 c.in-None.ensures.past
