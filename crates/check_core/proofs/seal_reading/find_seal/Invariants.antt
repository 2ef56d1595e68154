use Rattle.std.proofs.Common.{◌≡◌, ◌≤◌, ◌<◌, ◌+◌, ◌*◌, ◌-◌, ℕ, IfSome, take, vec_len}
use Rattle.std.specs.Io.KnownBytes.{Consumes}
use Rattle.check_core.specs.Resuming.{SpellsSeal}
use Rattle.check_core.proofs.seal_reading.find_seal.Given as goal

-- What was read lies at the front of the buffer, of which it fills at least the half once that is larger than at first; and it is too short to
-- be a seal.
abbrev pub invariant-fills : goal.invariant-fills
invariant-fills g l = record {
  size : 65536 ≤ vec_len l.buffer;
  filled : l.until ≤ vec_len l.buffer;
  half : vec_len l.buffer ≤ 2 * l.until + 65536;
  few : vec_len l.buffer ≤ 2 * l.limit + 65536;
  limited : l.until ≤ l.limit;
  bytes : Consumes (g.S.Source.left l.fn.source) (g.S.Source.left l.source) (take l.until l.buffer.items);
  cut : IfSome (g.S.Source.left l.fn.source) (λ bytes. (count : ℕ) → SpellsSeal count bytes → l.until < count);
  never_falls : g.S.Source.faults l.fn.source ≤ g.S.Source.faults l.source;
}

-- how much larger the buffer may still be
abbrev pub decreases-fills : goal.decreases-fills
decreases-fills g l = 2 * l.limit + 65536 - vec_len l.buffer
