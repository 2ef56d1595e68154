-- What reading at the front of a log answers, whatever its commands.
use Rattle.std.specs.Prelude.{◌≡◌, ℕ, List, drop, Ok, Err}
use Rattle.record_text.specs.declared.reader.TextFault.TheVariants as faults
use Rattle.record_text.specs.Fields.{Parsed}
use Rattle.log_codec.specs.declared.decoded.Decoded.{Decoded}
use Rattle.log_codec.specs.declared.decoded.Decoded.TheVariants.{Read, Malformed, Truncated}

-- the answer is the command that a reader finds in front and how many bytes it takes, or the first fault
abbrev pub Decodes : {C : Type 0} → (List ℕ → Parsed C) → List ℕ → Decoded C → Type 0
Decodes read bytes (Read command taken) = read bytes ≡ Ok (command, drop taken bytes)
Decodes read bytes Malformed = read bytes ≡ Err faults.Malformed
Decodes read bytes Truncated = read bytes ≡ Err faults.Truncated

-- a fact of a command that was read, and of how many bytes it took
abbrev pub IfRead : {C : Type 0} → Decoded C → (C → ℕ → Type 0) → Type 0
IfRead (Read command taken) P = P command taken
IfRead Malformed P = Unit {0}
IfRead Truncated P = Unit {0}
