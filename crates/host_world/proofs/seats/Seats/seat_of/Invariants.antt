use Rattle.std.proofs.Common.{◌≡◌, false, take, map}
use Rattle.std.specs.List.{list_any}
use Rattle.host_shard.specs.Shown.{shown_content}
use Rattle.protection_moves.specs.Stage.{is_hot_at}
use Rattle.host_world.proofs.seats.Seats.seat_of.Given as goal

-- none of the hot places so far has the key
abbrev pub invariant-loop-at : goal.invariant-loop-at
invariant-loop-at l = list_any (is_hot_at l.key) (take l.at (map shown_content l.self.hot.items)) ≡ false
