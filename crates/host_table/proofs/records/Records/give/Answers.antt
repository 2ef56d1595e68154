use Rattle.std.proofs.Common.{Some, subst, sym, Option}
use Rattle.lamport_clocks.specs.declared.stamp.Stamp.{Stamp}
use Rattle.record_text.specs.declared.request.Request.{Request}
use Rattle.host_epochs.specs.Table as rounds
use Rattle.host_table.specs.Calls.{Gives, MayGive, clock_at}
use Rattle.host_table.specs.Table.{terms}
use Rattle.host_table.specs.Terms.{Terms, IsClockOf}
use Rattle.host_table.proofs.CallLemmas.{note_phase, noted_service}
use Rattle.host_table.proofs.records.Records.give.Goals as goal

pub give-requires-in-Some-clause-may : goal.give-requires-in-Some-clause-may
give-requires-in-Some-clause-may g c =
    let self = c.args.self.now in
    let t : Terms = terms g.D.Digests.functions self in
    let may : MayGive t c.args.hand.now c.args.place c.args.content (Some (c.in-Some.clock, c.in-Some.request)) =
    subst (MayGive t c.args.hand.now c.args.place c.args.content) c.in-Some.is c.requires.may in
    note_phase (rounds.terms g.D.Digests.functions self.epochs) self.one (rounds.table self.epochs) c.args.hand.now c.args.place (clock_at t c.in-Some.clock) c.in-Some.request c.args.content
    may.2.0 c.requires.holds may.0 (subst (IsClockOf t) may.2.1.clock_is may.2.1.served.clock) may.1 may.2.1

pub returns-in-Some-clause-gives : goal.returns-in-Some-clause-gives
returns-in-Some-clause-gives g c =
    let self = c.args.self.now in
    let t : Terms = terms g.D.Digests.functions self in
    subst (λ (served : Option (Stamp × Request)). Gives t c.args.hand.now c.args.place c.args.content served c.give-in-Some.new.hand) (sym c.in-Some.is)
    (noted_service (rounds.terms g.D.Digests.functions self.epochs) self.one (rounds.table self.epochs) c.args.hand.now c.args.place (clock_at t c.in-Some.clock) c.in-Some.request c.args.content
    c.give-in-Some.new.hand c.give-in-Some.ensures.gives)
