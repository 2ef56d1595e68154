-- Commands that were read ahead, and what is known of the texts that they will ask for.
use Rattle.std.specs.Prelude.{◌≡◌, ℕ, zero, suc, ◌<◌, ◌≤◌, List, [], ◌∷◌, length, take, drop, None}
use Rattle.std.specs.List.{AllByRecursion}
use Rattle.std.specs.Option.{ForSome}
use Rattle.arrayvec.specs.ArrayVec.{array_vec_len}
use Rattle.record_hash.specs.Functions.{DigestFunctions}
use Rattle.record_text.specs.Format.{LogFormat}
use Rattle.log_codec.specs.LogCommand.{command_text, IsCommand}
use Rattle.command_window.specs.declared.read_command.Asked.{Asked}
use Rattle.command_window.specs.declared.read_command.ReadCommand.{ReadCommand}

-- the commands of a window, and what the command at each place asks for
pub record Window : Type 0 where
  pub commands : List ReadCommand
  pub asked : List Asked

-- the bytes begin with the command, which takes so many of them
pub record IsReadOf (format : LogFormat) (bytes : List ℕ) (read : ReadCommand) : Type 0 where
  pub kind : IsCommand format read.command
  pub text : take read.len bytes ≡ command_text read.command
  pub some : 0 < read.len
  pub within : read.len ≤ length bytes

-- the bytes begin with these commands, one behind another
abbrev pub AreReadOf : LogFormat → List ℕ → List ReadCommand → Type 0
AreReadOf format bytes [] = Unit {0}
AreReadOf format bytes (read ∷ reads) = IsReadOf format bytes read × AreReadOf format (drop read.len bytes) reads

-- ---- what is known

-- nothing is known of a text
pub record IsUnknown (asked : Asked) : Type 0 where
  pub digest : asked.digest ≡ None
  pub lanes : asked.lanes ≡ None

-- and there is none
pub record IsForgotten (asked : Asked) : Type 0 where
  pub empty : array_vec_len asked.text ≡ 0
  pub unknown : IsUnknown asked

-- so it is of each of these
abbrev pub AreForgotten : List Asked → Type 0
AreForgotten asked = AllByRecursion IsForgotten asked

-- the text that is asked for at a place; none, if there is no such place
abbrev pub text_at : List Asked → ℕ → List ℕ
text_at [] place = []
text_at (asked ∷ more) zero = asked.text.items
text_at (asked ∷ more) (suc place) = text_at more place

-- a digest and lanes, if they are known, are those of the text
pub record IsRight (functions : DigestFunctions) (asked : Asked) : Type 0 where
  pub digest : ForSome asked.digest (λ digest. digest ≡ functions.digest asked.text.items)
  pub lanes : ForSome asked.lanes (λ lanes. lanes ≡ functions.lanes asked.text.items)

-- so is what is known of each of these
abbrev pub AreRight : DigestFunctions → List Asked → Type 0
AreRight functions asked = AllByRecursion (IsRight functions) asked

-- The same texts, of which maybe more is known: what is known is right where it was before.
pub record GoesOn (functions : DigestFunctions) (old new : List Asked) : Type 0 where
  pub right : AreRight functions old → AreRight functions new
  pub count : length new ≡ length old
  pub texts : (place : ℕ) → text_at new place ≡ text_at old place
