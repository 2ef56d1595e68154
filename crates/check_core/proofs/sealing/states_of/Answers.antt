use Rattle.std.proofs.Common.{List, map, take_all, arith, subst}
use Rattle.seals.specs.Kept.{kept_in}
use Rattle.resumed_runs.specs.Kept.{AreKeptOf, IsUnbroken}
use Rattle.certified_epochs.specs.declared.fed_run.FedRun.{FedRun}
use Rattle.check_core.proofs.SealedLemmas.{holds_of_item, kept-more}
use Rattle.check_core.proofs.sealing.states_of.Goals as goal

pub to_state-requires-clause-none_held : goal.to_state-requires-clause-none_held
to_state-requires-clause-none_held c =
    (holds_of_item IsUnbroken c.args.runs.now c.loop-fed.fed-index c.fed-item.result c.requires.unbroken c.loop-fed-test.true c.fed-item.is).uncut

pub to_state-requires-clause-none_refused : goal.to_state-requires-clause-none_refused
to_state-requires-clause-none_refused c =
    (holds_of_item IsUnbroken c.args.runs.now c.loop-fed.fed-index c.fed-item.result c.requires.unbroken c.loop-fed-test.true c.fed-item.is).unrefused

pub loop-fed-preserved : goal.loop-fed-preserved
loop-fed-preserved c =
    kept-more c.args.runs.now c.loop-fed.fed-index c.fed-item.result c.loop-fed.states.items c.push.new.self.items c.in_ok-to_state.field-0
    c.loop-fed.invariant c.in_ok-to_state.ensures.kept
    (holds_of_item IsUnbroken c.args.runs.now c.loop-fed.fed-index c.fed-item.result c.requires.unbroken c.loop-fed-test.true c.fed-item.is)
    c.in_ok-push.ensures.items c.loop-fed-test.true c.fed-item.is

pub returns : goal.returns
returns c = record {
  kept = subst (λ (xs : List FedRun). AreKeptOf (map (λ fed. fed.run) xs) (map kept_in c.loop-fed.states.items))
      (take_all c.loop-fed.fed-index c.args.runs.now (omega (arith, c.loop-fed-test.false))) c.loop-fed.invariant;
}
