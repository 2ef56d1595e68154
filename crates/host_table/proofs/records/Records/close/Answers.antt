use Rattle.std.proofs.Common.{map, subst, List}
use Rattle.host_epochs.specs.Hands as hands
use Rattle.host_epochs.specs.Table as rounds
use Rattle.host_table.specs.declared.views.Row.{Row}
use Rattle.host_table.specs.Phase.{IsPhase}
use Rattle.host_table.specs.Table.{terms}
use Rattle.host_table.proofs.RoundLaws.{round_phase, told_rows}
use Rattle.host_table.proofs.records.Records.close.Goals as goal

pub returns : goal.returns
returns g c =
    let self = c.args.self in
    record {
      phase = subst (λ (rows : List Row). IsPhase (terms g.D.Digests.functions self) c.close.result.items rows) (told_rows c.args.hands.items)
          (round_phase (rounds.terms g.D.Digests.functions self.epochs) self.one c.close.result.items (map hands.row_of c.args.hands.items) c.close.ensures.round);
    }
