-- How several writes go together.
use Rattle.std.proofs.Common.{◌≡◌, ℕ, ◌+◌, List, [], ◌++◌, take, drop, Option, None, Some, refl, sym, ap, ◌∙◌, append_assoc, append-nil, take-append-drop}
use Rattle.std.proofs.Math.Seq.{take-add}
use Rattle.fv_outside.specs.Written.{Grows, GrowsByFront}

-- nothing was written
pub Grows-nil : (held : Option (List ℕ)) → Grows held held []
Grows-nil None = tt
Grows-nil (Some bytes) = sym (append-nil bytes)

-- what stayed as it was grew by nothing
pub Grows-same : (a b : Option (List ℕ)) → b ≡ a → Grows a b []
Grows-same a b same = rw same (Grows-nil a)

-- one text, and then another
pub Grows-then : (a b c : Option (List ℕ)) (first second : List ℕ) → Grows a b first → Grows b c second → Grows a c (first ++ second)
Grows-then a b None first second h k = tt
Grows-then a None (Some z) first second h k = absurd k
Grows-then None (Some y) (Some z) first second h k = absurd h
Grows-then (Some x) (Some y) (Some z) first second h k = k ∙ ap (λ l. l ++ second) h ∙ append_assoc x first second

-- none of the text
pub GrowsByFront-none : (held : Option (List ℕ)) (text : List ℕ) → GrowsByFront held held text
GrowsByFront-none held text = record { front = []; rest = text; parts = refl; grown = Grows-nil held }

-- the whole text
pub GrowsByFront-whole : (a b : Option (List ℕ)) (text : List ℕ) → Grows a b text → GrowsByFront a b text
GrowsByFront-whole a b text h = record { front = text; rest = []; parts = sym (append-nil text); grown = h }

-- a front of a text is one of a longer text
pub GrowsByFront-more : (a b : Option (List ℕ)) (text more : List ℕ) → GrowsByFront a b text → GrowsByFront a b (text ++ more)
GrowsByFront-more a b text more h =
    record { front = h.front; rest = h.rest ++ more; parts = ap (λ l. l ++ more) h.parts ∙ append_assoc h.front h.rest more; grown = h.grown }

-- a whole text, and then a front of another
pub GrowsByFront-then : (a b c : Option (List ℕ)) (first second : List ℕ) → Grows a b first → GrowsByFront b c second → GrowsByFront a c (first ++ second)
GrowsByFront-then a b c first second h k =
    record {
      front = first ++ k.front;
      rest = k.rest;
      parts = ap (λ l. first ++ l) k.parts ∙ sym (append_assoc first k.front k.rest);
      grown = Grows-then a b c first k.front h k.grown;
    }

-- the first n bytes of a text, and then the next m
pub Grows-more : (a b c : Option (List ℕ)) (n m : ℕ) (text : List ℕ) → Grows a b (take n text) → Grows b c (take m (drop n text)) → Grows a c (take (n + m) text)
Grows-more a b c n m text h k = rw (take-add n m text) (Grows-then a b c (take n text) (take m (drop n text)) h k)

-- the first n bytes of a text, and then nothing more
pub GrowsByFront-part : (a b c : Option (List ℕ)) (n : ℕ) (text : List ℕ) → Grows a b (take n text) → c ≡ b → GrowsByFront a c text
GrowsByFront-part a b c n text h same =
    record { front = take n text; rest = drop n text; parts = sym (take-append-drop n text); grown = rw same h }
