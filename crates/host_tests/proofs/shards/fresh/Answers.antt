use Rattle.std.proofs.Common.{List, Bool, sym, ap, subst}
use Rattle.tree_keys.specs.Path.{tree_of, key_path, IsBelow}
use Rattle.tree_keys.proofs.TreeLaws.{key_path-data}
use Rattle.host_shard.specs.Shard.{Shard}
use Rattle.host_tests.proofs.shards.fresh.Goals as goal

pub returns : goal.returns
returns c = record {
  owns = λ key below. (
    c.new.ensures.fits c.requires.below_root c.requires.no_data,
    record {
      whole = key_path-data (tree_of c.new.result.frontier) key;
      below = subst (λ (frontier : List Bool). IsBelow frontier (key_path (tree_of frontier) key)) (sym (ap (λ (s : Shard). s.frontier) c.new.ensures.shard)) below;
    },
  );
}
