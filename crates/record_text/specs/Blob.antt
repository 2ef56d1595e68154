-- A data value by a flag and bytes: none where the flag is false, which has no bytes then.
use Rattle.std.specs.Prelude.{◌≡◌, ℕ, Bool, true, false, List, [], Option, Some, None}
use Rattle.std.proofs.Common.{refl, sym, ap}

-- these bytes, or none
abbrev pub blob_of : Bool → List ℕ → Option (List ℕ)
blob_of false bytes = None
blob_of true bytes = Some bytes

-- a flag and bytes made of a data value
abbrev pub with_blob : {X : Type 0} → (Bool → List ℕ → X) → Option (List ℕ) → X
with_blob make None = make false []
with_blob make (Some bytes) = make true bytes

-- they are the two that it was made of
pub blob_back : {X : Type 0} (make : Bool → List ℕ → X) (is_some : Bool) (bytes : List ℕ) → (is_some ≡ false → bytes ≡ []) → with_blob make (blob_of is_some bytes) ≡ make is_some bytes
blob_back make true bytes empty = refl
blob_back make false bytes empty = sym (ap (λ (b : List ℕ). make false b) (empty refl))
