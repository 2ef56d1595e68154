-- What is answered to bytes that are to be a seal.
use Rattle.std.specs.Prelude.{◌≡◌, ◌≢◌, ⊤, ℕ, ◌+◌, ◌-◌, List, length, take, Result, Ok, Err}
use Rattle.record_hash.specs.Functions.{DigestFunctions}
use Rattle.record_text.specs.declared.reader.TextFault.{TextFault}
use Rattle.record_text.specs.declared.reader.TextFault.TheVariants as faults
use Rattle.record_text.specs.Fields.{Parsed}
use Rattle.seals.specs.declared.fault.Fault.{Fault}
use Rattle.seals.specs.declared.fault.Fault.TheVariants.{Text, Memory}
use Rattle.seals.specs.declared.state.SealedState.{SealedState}
use Rattle.seals.specs.declared.answer.SealFront.{SealFront}
use Rattle.seals.specs.declared.answer.SealFront.TheVariants as fronts
use Rattle.seals.specs.declared.answer.ReadSeal.{ReadSeal}
use Rattle.seals.specs.declared.answer.ReadSeal.TheVariants as seals
use Rattle.seals.specs.State.{Seal}
use Rattle.seals.specs.Kept.{seal_in}
use Rattle.seals.specs.Seal.{seal_at, tag_bytes}

-- A reader that takes memory: what it made, seen as the thing that it stands for, and the bytes that it leaves are what reading gives, and
-- so is a fault of the text. For want of memory it says nothing.
abbrev pub Reads : {A B : Type 0} → (B → A) → Result B Fault → List ℕ → Parsed A → Type 0
Reads seen (Ok made) left parsed = parsed ≡ Ok (seen made, left)
Reads seen (Err (Text fault)) left parsed = parsed ≡ Err fault
Reads seen (Err Memory) left parsed = ⊤

-- the bytes before a tag, behind which so many bytes are left
abbrev pub tagged_front : List ℕ → List ℕ → List ℕ
tagged_front bytes rest = take (length bytes - (length rest + tag_bytes)) bytes

-- The bytes begin with a seal: what it keeps is this, it has so many bytes, and its tag is that of all before it.
pub record IsWhole (functions : DigestFunctions) (bytes : List ℕ) (state : SealedState) (count : ℕ) : Type 0 where
  pub tag : List ℕ
  pub rest : List ℕ
  pub read : seal_at bytes ≡ Ok ((seal_in state, tag), rest)
  pub tagged : functions.tag (tagged_front bytes rest) ≡ tag
  pub counted : count + length rest ≡ length bytes

-- the bytes begin with a seal whose tag is not that of all before it
pub record IsUntagged (functions : DigestFunctions) (bytes : List ℕ) : Type 0 where
  pub seal : Seal
  pub tag : List ℕ
  pub rest : List ℕ
  pub read : seal_at bytes ≡ Ok ((seal, tag), rest)
  pub other : functions.tag (tagged_front bytes rest) ≢ tag

-- What each answer to the front of a source says. They exclude one another.
abbrev pub IsFront : DigestFunctions → List ℕ → SealFront → Type 0
IsFront functions bytes (fronts.Whole state count) = IsWhole functions bytes state count
IsFront functions bytes fronts.Open = seal_at bytes ≡ Err faults.Truncated
IsFront functions bytes fronts.BadSeal = seal_at bytes ≡ Err faults.Malformed
IsFront functions bytes fronts.NotTagged = IsUntagged functions bytes
IsFront functions bytes fronts.Memory = ⊤

-- What each answer to all bytes of a source says: a seal that is cut is a bad one.
abbrev pub IsAnswer : DigestFunctions → List ℕ → ReadSeal → Type 0
IsAnswer functions bytes (seals.Whole state count) = IsWhole functions bytes state count
IsAnswer functions bytes seals.BadSeal = (fault : TextFault) × (seal_at bytes ≡ Err fault)
IsAnswer functions bytes seals.NotTagged = IsUntagged functions bytes
IsAnswer functions bytes seals.Memory = ⊤
