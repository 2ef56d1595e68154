use Rattle.std.proofs.Common.{ℕ, ◌≤◌, List, Bool, refl, sym, ap, subst}
use Rattle.tree_keys.specs.Path.{tree_of, key_path, IsBelow}
use Rattle.tree_keys.proofs.TreeLaws.{key_path-data}
use Rattle.host_shard.specs.Shard.{Shard}
use Rattle.table_tests.proofs.shards.shard_at.Goals as goal

pub returns : goal.returns
returns c = record {
  ready = record {
    shard = c.new.result;
    is = refl;
    owns = λ key below. (
      c.new.ensures.fits c.requires.frontier.0 c.requires.frontier.1,
      record {
        whole = key_path-data (tree_of c.new.result.frontier) key;
        below = subst (λ (frontier : List Bool). IsBelow frontier (key_path (tree_of frontier) key)) (sym (ap (λ (s : Shard). s.frontier) c.new.ensures.shard)) below;
      },
    );
    epoch = ap (λ (s : Shard). s.stamp.epoch) c.new.ensures.shard;
    counter = subst (λ (n : ℕ). n ≤ 64) (sym (ap (λ (s : Shard). s.stamp.counter) c.new.ensures.shard)) c.requires.counter;
    evictor = ap (λ (s : Shard). s.evictor) c.new.ensures.shard;
  };
}
