-- What the program's words ask for, by clap's own rules for its commands.
use Rattle.std.specs.Prelude.{ℕ, Bool, true, false, List, [], ◌∷◌, Option, Some, None, codes, option_and_then, if◌then◌else◌}
use Rattle.std.specs.Option.{option_map}
use Rattle.std.specs.Str.{bytes_eq}
use Rattle.clap.specs.Walk.{Row, Text, first_of}
use Rattle.clap.specs.Simple.{subcommand_of}
use Rattle.clap.specs.Kinds.{Kinds}
use Rattle.clap.specs.Faults.{fault_of}
use Rattle.program_words.specs.Key.{key_in}
use Rattle.program_words.specs.Found.{flag_in}
use Rattle.program_words.specs.CommandLine.{fastver_app}
use Rattle.program_words.specs.Numbers.{given}
use Rattle.program_words.specs.HostWords.{AreHostNumbers, numbers_in}
use Rattle.program_words.specs.LoadWords.{AreLoadNumbers, load_in}
use Rattle.program_words.specs.SignWords.{AreSignNumbers, sign_numbers_in}
use Rattle.program_words.specs.declared.words.Asked.{Asked}
use Rattle.program_words.specs.declared.words.Asked.TheVariants.{Check, Seal, Audit, Run, Gen, Accept, Follow, Upgrade, Resume, Sign}

-- what `check` asks for with this key, where a path for a seal and a flag for receipts are given or not: a report that is sealed
-- has no receipts
abbrev pub check_with : Option Text → Bool → List ℕ → Option Asked
check_with None receipts key = Some (Check (record { key = key; receipts = receipts }))
check_with (Some path) false key = Some (Seal (record { key = key; path = path }))
check_with (Some path) true key = None

-- what `check` asks for with this key and with what was found of its option and its flag
abbrev pub check_as : List Row → List ℕ → Option Asked
check_as rows key = check_with (first_of (codes "seal") rows) (flag_in (codes "receipts") rows) key

-- what `run` asks for with this key and with what was found of its options
abbrev pub run_as : List Row → List ℕ → Option Asked
run_as rows key = option_map (λ numbers. Run (record {
  key = key;
  numbers = numbers;
  logs = first_of (codes "logs") rows;
  receipts = flag_in (codes "receipts") rows;
})) (numbers_in rows)

-- what `gen` asks for with this key and with what was found of its options
abbrev pub gen_as : List Row → List ℕ → Option Asked
gen_as rows key =
    given (load_in rows) (λ load.
    given (numbers_in rows) (λ numbers.
    Some (Gen (record {
      key = key;
      load = load;
      numbers = numbers;
      logs = first_of (codes "logs") rows;
    }))))

-- what `sign` asks for with this key and with what was found of its options
abbrev pub sign_as : List Row → List ℕ → Option Asked
sign_as rows key = option_map (λ numbers. Sign (record { key = key; numbers = numbers })) (sign_numbers_in rows)

-- what the command of this name asks for with this key and with what was found of its options
abbrev pub asked_as : Text → List Row → List ℕ → Option Asked
asked_as name rows key =
    if bytes_eq name (codes "check") then check_as rows key
    else if bytes_eq name (codes "audit") then Some (Audit key)
    else if bytes_eq name (codes "run") then run_as rows key
    else if bytes_eq name (codes "gen") then gen_as rows key
    else if bytes_eq name (codes "accept") then Some (Accept key)
    else if bytes_eq name (codes "follow") then Some (Follow key)
    else if bytes_eq name (codes "upgrade") then Some (Upgrade key)
    else if bytes_eq name (codes "resume") then Some (Resume key)
    else if bytes_eq name (codes "sign") then sign_as rows key
    else None

-- what a command asks for, with what was found of its options
abbrev pub asked_by : Text × List Row → Option Asked
asked_by command = option_and_then (asked_as command.0 command.1) (option_and_then key_in (first_of (codes "key") command.1))

-- the second, where there is no fault
abbrev pub unless_fault : {X : Type 0} → Kinds → Option X → Option X
unless_fault [] answer = answer
unless_fault (fault ∷ more) answer = None

-- What the words ask for: nothing where clap finds a fault in them, else what the command that they name asks for.
abbrev pub asked_of : List Text → Option Asked
asked_of words = unless_fault (fault_of fastver_app words) (option_and_then asked_by (subcommand_of fastver_app words))

-- the numbers of what is asked for are in their ranges
abbrev pub IsInRange : Asked → Type 0
IsInRange (Check check) = Unit {0}
IsInRange (Seal seal) = Unit {0}
IsInRange (Audit key) = Unit {0}
IsInRange (Run run) = AreHostNumbers run.numbers
IsInRange (Gen gen) = AreLoadNumbers gen.load × AreHostNumbers gen.numbers
IsInRange (Accept key) = Unit {0}
IsInRange (Follow key) = Unit {0}
IsInRange (Upgrade key) = Unit {0}
IsInRange (Resume key) = Unit {0}
IsInRange (Sign sign) = AreSignNumbers sign.numbers
