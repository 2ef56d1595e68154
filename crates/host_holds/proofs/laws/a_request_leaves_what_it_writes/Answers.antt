use Rattle.host_holds.proofs.HeldLaws.{shard_served, hot_served}
use Rattle.host_holds.proofs.laws.a_request_leaves_what_it_writes.Goals as goal

pub returns : goal.returns
returns c = record {
  shard = λ longest digest worker stage mirrors absent request clock links small. shard_served longest digest worker stage mirrors absent request clock links small;
  hot_place = λ longest digest worker stage mirrors request clock place found there own.
      hot_served longest digest worker stage mirrors request clock place found there own;
}
