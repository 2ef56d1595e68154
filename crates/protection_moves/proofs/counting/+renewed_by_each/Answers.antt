use Rattle.protection_moves.proofs.RenewingLaws.{past_by_first}
use Rattle.protection_moves.proofs.counting.+renewed_by_each.Goals as goal

pub returns-in-None-renewed-clause-past : goal.returns-in-None-renewed-clause-past
returns-in-None-renewed-clause-past t c =
    past_by_first c.args.clock.now c.args.records.now c.in-Some.rest.now c.in-Some.first.now c.in-Some.ensures.cases.0 c.in-None-renewed.ensures.past
