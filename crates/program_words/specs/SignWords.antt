-- What the words behind `sign` say: which client signs, and how many bits a key has.
use Rattle.std.specs.Prelude.{◌≡◌, ℕ, ◌≤◌, ◌⊎◌, List, Option, Some, codes}
use Rattle.clap.specs.Walk.{Row, first_of}
use Rattle.program_words.specs.Numbers.{given, needed_in}
use Rattle.program_words.specs.HostWords.{key_bits_in, last_version}
use Rattle.program_words.specs.declared.sign_words.SignNumbers.{SignNumbers}

-- the greatest number of a client
abbrev pub greatest_client : ℕ
greatest_client = 65535

-- which client signs, and how many bits a key has: as many as it can have in the last version
abbrev pub sign_numbers_in : List Row → Option SignNumbers
sign_numbers_in rows =
    given (needed_in 0 greatest_client (first_of (codes "client") rows)) (λ client.
    given (key_bits_in last_version (first_of (codes "bits") rows)) (λ bits.
    Some (record { client = client; bits = bits })))

-- both are in their ranges
pub record AreSignNumbers (numbers : SignNumbers) : Type 0 where
  pub client : numbers.client ≤ greatest_client
  pub bits : (numbers.bits ≡ 64) ⊎ (numbers.bits ≡ 128)
