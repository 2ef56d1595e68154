use Rattle.std.proofs.Common.{◌≡◌, List, subst}
use Rattle.std.specs.Prelude.{IfOk}
use Rattle.record_text.specs.declared.operation.Operation.{Operation}
use Rattle.stamp_order.specs.Merged.{merged}
use Rattle.stamp_order.specs.Operations.{moment_of}
use Rattle.certified_epochs.proofs.OrderLemmas.{fronts-in_order, fronts-all}
use Rattle.certified_epochs.proofs.one_epoch.merged_operations.Goals as goal

pub new-requires : goal.new-requires
new-requires c = record {
  in_order = fronts-in_order c.args.epoch c.args.runs.now c.in_ok-fronts.fronts.items c.in_ok-fronts.ensures.fronts c.requires.in_order;
}

pub returns : goal.returns
returns c = record {
  merged =
      subst (λ (ops : List Operation). IfOk c.new.result (λ merger. merger ≡ merged moment_of ops))
      (fronts-all c.args.epoch c.args.runs.now c.in_ok-fronts.fronts.items c.in_ok-fronts.ensures.fronts) c.new.ensures.all;
}
