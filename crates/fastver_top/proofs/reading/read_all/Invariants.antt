use Rattle.std.proofs.Common.{◌≡◌, ◌-◌, ◌≤◌, vec_len}
use Rattle.std.specs.Io.KnownBytes.{Consumes}
use Rattle.fastver_top.proofs.reading.read_all.Given as goal

-- the bytes so far were taken, and they are within the limit
abbrev pub invariant-pieces : goal.invariant-pieces
invariant-pieces g l = record {
  room : vec_len l.room ≡ 65536;
  within : vec_len l.bytes ≤ l.limit;
  taken : Consumes (g.S.Source.left l.fn.source) (g.S.Source.left l.source) l.bytes.items;
  faults : g.S.Source.faults l.fn.source ≤ g.S.Source.faults l.source;
}

-- how many bytes may still come
abbrev pub decreases-pieces : goal.decreases-pieces
decreases-pieces g l = l.limit - vec_len l.bytes
