-- What a `Digests` value computes, as functions of bytes.
use Rattle.std.specs.Prelude.{ℕ, List}

-- the digest of a text, the lanes of an element's text, the tag of a text, and the tag that the client of a number makes of one
pub record DigestFunctions : Type 0 where
  pub digest : List ℕ → List ℕ
  pub lanes : List ℕ → List ℕ
  pub tag : List ℕ → List ℕ
  pub client_tag : ℕ → List ℕ → List ℕ
