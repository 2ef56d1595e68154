use Rattle.std.proofs.Common.{◌≡◌, ◌++◌, ◌-◌, ◌≤◌, map, take, length}
use Rattle.host_shard.specs.Shown.{shown_content}
use Rattle.protection_moves.specs.Promotable.{promotable_among}
use Rattle.protection_moves.proofs.promotable.touched_often.Given as goal

abbrev pub invariant-loop-path : goal.invariant-loop-path
invariant-loop-path l = record {
  found : take l.room (promotable_among l.least l.shard.frontier (map shown_content l.places) l.shard.records)
      ≡ l.keys.items ++ take (l.room - length l.keys.items) (promotable_among l.least l.shard.frontier (map shown_content l.places) l.path-iterator);
  few : length l.keys.items ≤ l.room;
}
