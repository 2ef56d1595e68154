-- What the words behind `gen` say: how a load is made that a host is to serve.
use Rattle.std.specs.Prelude.{ℕ, ◌-◌, ◌^◌, ◌<◌, ◌≤◌, List, Option, Some, codes, unwrap_or}
use Rattle.clap.specs.Walk.{Row, first_of}
use Rattle.program_words.specs.Numbers.{given, needed_in, optional_in}
use Rattle.program_words.specs.declared.load_words.LoadNumbers.{LoadNumbers}

-- the most requests of a load
abbrev pub most_ops : ℕ
most_ops = 1000000

-- the most keys that a load asks a worker for, and how many they are where no number is given
abbrev pub most_keys : ℕ
most_keys = 65536

abbrev pub usual_keys : ℕ
usual_keys = 1024

-- the most requests behind which an epoch closes, and how many they are where no number is given
abbrev pub most_every : ℕ
most_every = 1000000

abbrev pub usual_every : ℕ
usual_every = 10000

-- how a load is made, in what was found of a command's options, if each number that is needed is there and each is in its range
abbrev pub load_in : List Row → Option LoadNumbers
load_in rows =
    given (needed_in 0 (2 ^ 64 - 1) (first_of (codes "seed") rows)) (λ seed.
    given (needed_in 0 most_ops (first_of (codes "ops") rows)) (λ ops.
    given (optional_in 1 most_keys (first_of (codes "keys") rows)) (λ keys.
    given (optional_in 1 most_every (first_of (codes "every") rows)) (λ every.
    Some (record {
      seed = seed;
      ops = ops;
      keys = unwrap_or keys usual_keys;
      every = unwrap_or every usual_every;
    })))))

-- each number of a load is in its range
pub record AreLoadNumbers (load : LoadNumbers) : Type 0 where
  pub seed : load.seed < 2 ^ 64
  pub ops : load.ops ≤ most_ops
  pub some_keys : 1 ≤ load.keys
  pub keys : load.keys ≤ most_keys
  pub some_every : 1 ≤ load.every
  pub every : load.every ≤ most_every
