-- A header is in its ranges in one way at most, so a struct may keep that it is.
use Rattle.std.proofs.Common.{◌≡◌, ◌⊎◌, inl, inr, ap, arith}
use Rattle.std.proofs.Props.{props}
use Rattle.lamport_clocks.specs.declared.header.Header.{Header}

short-prop : (h : Header) → IsProp (h.bits ≡ 64)
short-prop h = Prim.hlevel props

long-prop : (h : Header) → IsProp ((h.version ≡ 3) × (h.bits ≡ 128))
long-prop h = Prim.hlevel props

-- the bits of a key are 64, or 128, and not both
pub bits-prop : (h : Header) → IsProp ((h.bits ≡ 64) ⊎ ((h.version ≡ 3) × (h.bits ≡ 128)))
bits-prop h (inl a) (inl b) = ap inl (short-prop h a b)
bits-prop h (inl a) (inr b) = absurd (let other = b.1 in omega arith)
bits-prop h (inr a) (inl b) = absurd (let other = a.1 in omega arith)
bits-prop h (inr a) (inr b) = ap inr (long-prop h a b)

pub ruleset header_props = (props, bits-prop)
