-- A sink in memory that never fails, as plain data, and what one write to it answers and leaves.
use Rattle.std.specs.Prelude.{◌≡◌, ℕ, ◌+◌, min, Bool, false, nat_le, List, [], ◌++◌, length, take, Option, None, Some, IfSome, refl, if◌then◌else◌}
use Rattle.std.proofs.Common.{sym, subst}

-- the bytes held, or None once more than the capacity came, and the most that one write takes
pub record SureSinkState : Type 0 where
  pub held : Option (List ℕ)
  pub capacity : ℕ
  pub piece : ℕ

-- a sink that was not written to
abbrev pub new_sure_sink : ℕ → ℕ → SureSinkState
new_sure_sink capacity piece = record { held = Some []; capacity = capacity; piece = piece }

-- how many bytes of a text a write takes
abbrev pub sure_count : SureSinkState → List ℕ → ℕ
sure_count s text = min (length text) s.piece

-- the bytes held after more came: none are told once they are more than the capacity
abbrev pub held_after : ℕ → Option (List ℕ) → List ℕ → Option (List ℕ)
held_after capacity None more = None
held_after capacity (Some bytes) more = if nat_le (length bytes + length more) capacity then Some (bytes ++ more) else None

-- the sink after a write
abbrev pub after_sure_write : SureSinkState → List ℕ → SureSinkState
after_sure_write s text = record s { held = held_after s.capacity s.held (take (sure_count s text) text) }

-- a vault that never fails: a sink, and whether it was named. It keeps no name
pub record SureVaultState : Type 0 where
  pub sink : SureSinkState
  pub is_named : Bool

-- a vault that was neither named nor written to
abbrev pub new_sure_vault : ℕ → ℕ → SureVaultState
new_sure_vault capacity piece = record { sink = new_sure_sink capacity piece; is_named = false }

-- neither named nor written to
abbrev pub IsUnused : SureVaultState → Type 0
IsUnused v = (v.sink.held ≡ Some []) × (v.is_named ≡ false)

-- where such a vault tells its bytes there are none
pub IsUnused-empty : (v : SureVaultState) → IsUnused v → IfSome v.sink.held (λ bytes. bytes ≡ [])
IsUnused-empty v unused =
    let Empty : Option (List ℕ) → Type 0 = λ held. IfSome held (λ bytes. bytes ≡ []) in
    subst Empty (sym unused.0) refl
