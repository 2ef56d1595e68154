-- What is known of a vault over a file: whether a file was created for it, whether it was written to,
-- and its count of faults. Nothing is said of the file's bytes.
use Rattle.std.specs.Prelude.{◌≡◌, ℕ, Bool, false}

pub record FileVaultState : Type 0 where
  pub is_named : Bool
  pub is_written : Bool
  pub faults : ℕ

-- a vault that was neither named nor written to
abbrev pub new_file_vault : FileVaultState
new_file_vault = record { is_named = false; is_written = false; faults = 0 }

-- neither named nor written to
abbrev pub IsFresh : FileVaultState → Type 0
IsFresh v = (v.is_named ≡ false) × (v.is_written ≡ false)
