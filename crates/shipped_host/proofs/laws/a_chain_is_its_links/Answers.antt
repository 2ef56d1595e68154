use Rattle.shipped_host.proofs.LinkLaws.{shard_chain_is, shard_links_are}
use Rattle.shipped_host.proofs.laws.a_chain_is_its_links.Goals as goal

pub returns : goal.returns
returns c = record {
  there = λ longest shard key fits own. shard_links_are longest shard key fits own;
  only = λ longest shard key links fits own chain. shard_chain_is longest shard key fits own links chain;
}
