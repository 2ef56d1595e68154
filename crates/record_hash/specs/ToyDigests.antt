-- What `ToyDigests` computes: sums of bytes, so that tests find collisions at will.
use Rattle.std.specs.Prelude.{ℕ, ◌%◌, ◌^◌, List, ◌∷◌, ◌++◌, replicate, sum}
use Rattle.std.specs.Int.{w32, to_be_bytes}
use Rattle.record_hash.specs.Functions.{DigestFunctions}

-- the sum of the bytes modulo 2 ^ 32
abbrev pub toy_sum : List ℕ → ℕ
toy_sum bytes = sum bytes % 2 ^ 32

-- that sum as a number in 32 bytes, high byte first
abbrev pub toy_digest : List ℕ → List ℕ
toy_digest bytes = replicate 28 0 ++ to_be_bytes w32 (toy_sum bytes)

-- that sum in lane 0, and the other lanes 0
abbrev pub toy_lanes : List ℕ → List ℕ
toy_lanes bytes = toy_sum bytes ∷ replicate 7 0

-- the functions: each client's tag is the tag
abbrev pub toy_functions : DigestFunctions
toy_functions = record { digest = toy_digest; lanes = toy_lanes; tag = toy_digest; client_tag = λ client. toy_digest }
