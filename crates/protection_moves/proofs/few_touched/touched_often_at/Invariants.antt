use Rattle.std.proofs.Common.{◌-◌, ◌≤◌, length, map}
use Rattle.host_shard.specs.Shown.{shown_content}
use Rattle.protection_moves.specs.Promotable.{promotable_among}
use Rattle.protection_moves.proofs.LowestLemmas.{IsFront}
use Rattle.protection_moves.proofs.few_touched.touched_often_at.Given as goal

abbrev pub invariant-loop-last : goal.invariant-loop-last
invariant-loop-last l = record {
  front : IsFront (promotable_among l.least l.shard.frontier (map shown_content l.places) l.shard.records) l.keys.items l.last;
  few : length l.keys.items ≤ l.room;
}

abbrev pub decreases-loop-last : goal.decreases-loop-last
decreases-loop-last l = l.room - length l.keys.items
