-- A verifier under a header: its cache is of the header's kind and size, and its clock in the header's bounds.
use Rattle.std.specs.Prelude.{◌≡◌, ℕ, true, false, length}
use Rattle.lamport_clocks.specs.declared.header.Header.{Header}
use Rattle.lamport_clocks.specs.Header.{names_paths}
use Rattle.verifier_commands.specs.VerifierState.{AnyCache, by_path, by_slot}
use Rattle.verifier_commands.specs.Machine.{Machine}

-- the cache is by path just where the header's commands name paths, and is of the header's size
abbrev pub IsCacheUnder : Header → AnyCache → Type 0
IsCacheUnder header (by_path held) = (names_paths header ≡ true) × (held.room ≡ header.cache)
IsCacheUnder header (by_slot slots) = (names_paths header ≡ false) × (length slots ≡ header.cache)

-- The verifier has this number and this header, and cache and clock are as the header says.
pub record IsUnder (number : ℕ) (header : Header) (machine : Machine) : Type 0 where
  pub number_is : machine.number ≡ number
  pub header_is : machine.header ≡ header
  pub cache : IsCacheUnder header machine.state.cache
  pub first : machine.state.clock.first ≡ header.first
  pub end : machine.state.clock.end ≡ header.end
