use Rattle.std.proofs.Common.{◌≡◌, ◌≤◌, ◌-◌, ℕ, List, Option, length, take}
use Rattle.std.specs.Io.KnownBytes.{Consumes}
use Rattle.check_core.proofs.seal_reading.fill.Given as goal

-- the room so far has what was read
abbrev pub invariant-reads : goal.invariant-reads
invariant-reads g l = record {
  len : length l.room ≡ length l.fn.room;
  from : l.fn.from ≤ l.until;
  within : l.until ≤ l.most;
  bytes : (start : Option (List ℕ)) → Consumes start (g.S.Source.left l.fn.source) (take l.fn.from l.fn.room)
      → Consumes start (g.S.Source.left l.source) (take l.until l.room);
  never_falls : g.S.Source.faults l.fn.source ≤ g.S.Source.faults l.source;
}

-- how much room is left
abbrev pub decreases-reads : goal.decreases-reads
decreases-reads g l = l.most - l.until
