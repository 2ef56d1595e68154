use Rattle.std.proofs.Common.{ℕ, Bool, List, ◌∙◌, ap}
use Rattle.host_shard.specs.Tree.{Tree}
use Rattle.host_shard.specs.Shown.{shown}
use Rattle.host_shard.specs.Records.{Kept, record_at, untouched, values_in, touches_in}
use Rattle.host_shard.proofs.ForgetLemmas.{untouched_values, untouched_touches}
use Rattle.host_shard.proofs.shard.Shard.forget_touches.Goals as goal

pub returns : goal.returns
returns c =
    let kept : Kept = record_at c.args.self.now.records in
    record {
      forgotten = ap (λ (new : Kept). record (shown c.args.self.now) { records = values_in new; touches = touches_in new }) c.forget_touches.ensures.forgotten
          ∙ ap (λ (tree : Tree). record (shown c.args.self.now) { records = tree; touches = touches_in (untouched kept) }) (untouched_values kept)
          ∙ ap (λ (touches : List Bool → ℕ). record (shown c.args.self.now) { touches = touches }) (untouched_touches kept);
    }
