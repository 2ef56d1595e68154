use Rattle.std.proofs.Common.{arith}
use Rattle.protection_moves.proofs.RenewingLaws.{past_by_first}
use Rattle.protection_moves.proofs.renewing.+renew_places.Goals as goal

pub unreachable-requires : goal.unreachable-requires
unreachable-requires t c =
    omega (
      arith,
      c.requires.within,
      past_by_first c.args.clock.now c.args.records.now c.in-Some.rest.now c.in-Some.first.now c.in-Some.ensures.cases.0 c.in-None.ensures.past,
    )
