-- What a write does to the bytes that a sink holds and to the name that a vault has, where they are told.
use Rattle.std.specs.Prelude.{◌≡◌, ℕ, List, ◌++◌, take, ⊤, Option, None, Some, Result, MatchResult}

-- the bytes held grew by these. A sink may stop telling its bytes, and then never tells them again
abbrev pub Grows : Option (List ℕ) → Option (List ℕ) → List ℕ → Type 0
Grows old None bytes = ⊤
Grows None (Some new) bytes = ⊥
Grows (Some old) (Some new) bytes = new ≡ old ++ bytes

-- the bytes held grew by a front of the text: by none of it, by a part or by the whole
pub record GrowsByFront (old new : Option (List ℕ)) (text : List ℕ) : Type 0 where
  pub front : List ℕ
  pub rest : List ℕ
  pub parts : text ≡ front ++ rest
  pub grown : Grows old new front

-- one write: at `Ok(n)` the first n bytes of the piece were appended, and at `Err` nothing changed
abbrev pub WriteGrows : {E : Type 0} → Option (List ℕ) → Option (List ℕ) → Result ℕ E → List ℕ → Type 0
WriteGrows old new result piece = MatchResult result (λ n. Grows old new (take n piece)) (λ _. new ≡ old)

-- the name is now the text, where it is told, and it is told if it was before
abbrev pub IsNamed : Option (Option (List ℕ)) → Option (Option (List ℕ)) → List ℕ → Type 0
IsNamed None None text = ⊤
IsNamed (Some name) None text = ⊥
IsNamed old (Some name) text = name ≡ Some text
