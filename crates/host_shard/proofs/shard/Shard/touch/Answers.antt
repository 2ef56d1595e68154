use Rattle.std.proofs.Common.{◌≡◌, ℕ, Bool, List, ◌∙◌, ap}
use Rattle.host_shard.specs.Tree.{Tree}
use Rattle.host_shard.specs.Shard.{key_path_in}
use Rattle.host_shard.specs.Shown.{shown}
use Rattle.host_shard.specs.Records.{Kept, record_at, values_in, touches_in}
use Rattle.host_shard.proofs.TouchLemmas.{counted, counted_values, counted_touches}
use Rattle.host_shard.proofs.shard.Shard.touch.Goals as goal

-- what the records are behind the touch
now_counted : (c : goal.After-touch) → record_at c.touch.new.self ≡ counted (record_at c.args.self.now.records) (key_path_in (shown c.args.self.now) c.args.key)
now_counted c = c.touch.ensures.touched ∙ ap (counted (record_at c.args.self.now.records)) c.path_of-path.ensures.path

pub returns : goal.returns
returns c =
    let kept : Kept = record_at c.args.self.now.records in
    let key : List Bool = key_path_in (shown c.args.self.now) c.args.key in
    record {
      touched =
          ap (λ (new : Kept). record (shown c.args.self.now) { records = values_in new; touches = touches_in new }) (now_counted c)
          ∙ ap (λ (tree : Tree). record (shown c.args.self.now) { records = tree; touches = touches_in (counted kept key) }) (counted_values kept key)
          ∙ ap (λ (touches : List Bool → ℕ). record (shown c.args.self.now) { touches = touches }) (counted_touches kept key c.requires.there);
    }
