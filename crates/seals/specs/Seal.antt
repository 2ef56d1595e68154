-- A seal as a text, and what bytes mean as one.
use Rattle.std.specs.Prelude.{◌≡◌, ◌<◌, ◌≤◌, ◌^◌, ℕ, zero, suc, nat_lt, List, [], ◌∷◌, ◌++◌, length, codes, Some, Ok, Err, if◌then◌else◌}
use Rattle.std.specs.Int.{w32, w64, to_be_bytes, from_be_bytes}
use Rattle.std.specs.List.{flat_map}
use Rattle.lamport_clocks.specs.declared.header.Header.{Header}
use Rattle.lamport_clocks.specs.Header.{IsHeader}
use Rattle.record_text.specs.declared.reader.TextFault.TheVariants.{Truncated}
use Rattle.record_text.specs.Fields.{Parsed, ◌>>=◌, field}
use Rattle.record_text.specs.Reading.{run_at as bytes_at, u32_at, u64_at}
use Rattle.bundle_frames.specs.Bundle.{magic_bytes, header_bytes_in, header_in, header_text}
use Rattle.seals.specs.Combined.{then_at, pick_at, tested_at, at_most, exactly}
use Rattle.seals.specs.State.{KeptRun, Seal}
use Rattle.seals.specs.Run.{run_at, run_text, IsGoodRun}

-- a seal begins with these four bytes
abbrev pub seal_magic : List ℕ
seal_magic = codes "FVS1"

-- the same as a number
abbrev pub magic_number : ℕ
magic_number = from_be_bytes w32 seal_magic

-- the most bytes of a bundle that a seal may say were taken
abbrev pub most_taken : ℕ
most_taken = 2 ^ 40

-- the header of a bundle: as many bytes as its first four tell
unfoldable pub header_at : List ℕ → Parsed Header
header_at bytes = if nat_lt (length bytes) magic_bytes then Err Truncated else field (header_bytes_in bytes) header_in bytes

-- the magic number, the counter's number, how many bytes were taken, the header, and how many epochs are certified
abbrev pub HeadFields : Type 0
HeadFields = ℕ × (ℕ × (ℕ × (Header × ℕ)))

unfoldable pub head_at : List ℕ → Parsed HeadFields
head_at bytes =
    then_at (tested_at (exactly magic_number) u32_at) (λ magic. then_at u64_at (λ counter. then_at (tested_at (at_most most_taken) u64_at) (λ taken.
    then_at header_at (λ header. u32_at)))) bytes

-- what is kept of so many verifiers, the first of which has this number
unfoldable pub runs_at : Header → ℕ → ℕ → ℕ → ℕ → List ℕ → Parsed (List KeptRun)
runs_at header certified taken number zero bytes = Ok ([], bytes)
runs_at header certified taken number (suc count) bytes = do
  run ← run_at header certified taken number bytes
  more ← runs_at header certified taken (suc number) count run.1
  Ok (run.0 ∷ more.0, more.1)

abbrev pub seal_with : HeadFields → List KeptRun → Seal
seal_with f runs = record { counter = f.1.0; taken = f.1.1.0; header = f.1.1.1.0; certified = f.1.1.1.1; runs = runs }

abbrev pub runs_behind : HeadFields → List ℕ → Parsed (List KeptRun)
runs_behind f bytes = runs_at f.1.1.1.0 f.1.1.1.1 f.1.1.0 0 f.1.1.1.0.verifiers bytes

-- what bytes mean as a seal without its tag
unfoldable pub untagged_at : List ℕ → Parsed Seal
untagged_at bytes = pick_at (λ f. Some (seal_with f.0 f.1)) (then_at head_at runs_behind) bytes

-- how many bytes a tag has
abbrev pub tag_bytes : ℕ
tag_bytes = 32

-- What bytes mean as a seal: what it keeps, and what is said to be the tag of all before it.
unfoldable pub seal_at : List ℕ → Parsed (Seal × List ℕ)
seal_at bytes = then_at untagged_at (λ seal. bytes_at tag_bytes) bytes

abbrev pub head_text : Seal → List ℕ
head_text seal = to_be_bytes w32 magic_number ++ (to_be_bytes w64 seal.counter ++ (to_be_bytes w64 seal.taken ++ (header_text seal.header ++ to_be_bytes w32 seal.certified)))

-- the text of a seal without its tag
abbrev pub seal_text : Seal → List ℕ
seal_text seal = head_text seal ++ flat_map run_text seal.runs

-- each is what its verifier can have come to, where the first has this number
abbrev pub AreGoodRuns : Header → ℕ → ℕ → ℕ → List KeptRun → Type 0
AreGoodRuns header certified taken number [] = Unit {0}
AreGoodRuns header certified taken number (run ∷ runs) = IsGoodRun header certified taken number run × AreGoodRuns header certified taken (suc number) runs

-- Which seals have a text: the numbers are in their ranges, and there is what each verifier of the header can have come to.
pub record IsGoodSeal (seal : Seal) : Type 0 where
  pub counter : seal.counter < 2 ^ 64
  pub taken : seal.taken ≤ most_taken
  pub header : IsHeader seal.header
  pub first : seal.header.first < 2 ^ 32
  pub certified : seal.certified < 2 ^ 32
  pub verifiers : length seal.runs ≡ seal.header.verifiers
  pub runs : AreGoodRuns seal.header seal.certified seal.taken 0 seal.runs
