use Rattle.host_epochs.specs.Table as rounds
use Rattle.host_table.proofs.CallLemmas.{tries_phase}
use Rattle.host_table.proofs.records.Records.try_take.Goals as goal

pub returns : goal.returns
returns g c =
    let self = c.args.self.now in
    record {
      tries = tries_phase (rounds.terms g.D.Digests.functions self.epochs) self.one (rounds.table self.epochs) c.args.hand.now c.args.place c.try_take.result c.try_take.new.hand c.requires.free
          c.try_take.ensures.tries;
    }
