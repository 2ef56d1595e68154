-- Fields in a row, and something made of them.
use Rattle.std.proofs.Common.{◌≡◌, ℕ, Bool, true, false, cond, List, Ok, Err, ap, ◌∙◌}
use Rattle.record_text.specs.declared.reader.TextFault.TheVariants.{Malformed}
use Rattle.record_text.specs.Fields.{Parsed, ◌>>=◌, KeepsOn}
use Rattle.record_text.proofs.FieldLaws.{bind_ok}
use Rattle.record_text.proofs.KeepsOnLaws.{keeps_on-nothing, keeps_on-then}

-- one reader after another, at the bytes that it left
abbrev pub then_at : {A B : Type 0} → Parsed A → (A → List ℕ → Parsed B) → Parsed B
then_at first second = first >>= λ a. second a.0 a.1

-- what two fields are made into
abbrev pub two_at : {A B C : Type 0} → (A → B → C) → (List ℕ → Parsed A) → (A → List ℕ → Parsed B) → List ℕ → Parsed C
two_at make first second bytes = then_at (first bytes) (λ a left. then_at (second a left) (λ b rest. Ok (make a b, rest)))

-- what three fields are made into
abbrev pub three_at : {A B C D : Type 0} → (A → B → C → D) → (List ℕ → Parsed A) → (A → List ℕ → Parsed B) → (List ℕ → Parsed C) → List ℕ → Parsed D
three_at make first second third bytes = then_at (first bytes) (λ a left. two_at (make a) (second a) (λ b. third) left)

-- what four fields are made into
abbrev pub four_at : {A B C D E : Type 0} → (A → B → C → D → E) → (List ℕ → Parsed A) → (A → List ℕ → Parsed B) → (List ℕ → Parsed C) → (List ℕ → Parsed D) → List ℕ → Parsed E
four_at make first second third fourth bytes = then_at (first bytes) (λ a left. three_at (make a) (second a) (λ b. third) fourth left)

pub then_ok : {A B : Type 0} (first : Parsed A) (second : A → List ℕ → Parsed B) (made : B) (rest : List ℕ) → then_at first second ≡ Ok (made, rest)
    → (a : A) × (left : List ℕ) × (first ≡ Ok (a, left)) × (second a left ≡ Ok (made, rest))
then_ok first second made rest e =
    let f = bind_ok first (λ a. second a.0 a.1) (made, rest) e in
    (f.0.0, f.0.1, f.1, f.2)

pub then_again : {A B : Type 0} (first : Parsed A) (second : A → List ℕ → Parsed B) (a : A) (left : List ℕ) (made : B) (rest : List ℕ) → first ≡ Ok (a, left) → second a left ≡ Ok (made, rest) → then_at first second ≡ Ok (made, rest)
then_again first second a left made rest e h = ap (λ (r : Parsed _). then_at r second) e ∙ h

-- ---- more bytes behind disturb no reader that is made of such

pub keeps_on-if : {A : Type 0} (test : Bool) (first second : List ℕ → Parsed A) → KeepsOn first → KeepsOn second → KeepsOn (λ bytes. cond test (first bytes) (second bytes))
keeps_on-if true first second one two = one
keeps_on-if false first second one two = two

pub keeps_on-malformed : {A : Type 0} → KeepsOn {A = A} (λ bytes. Err Malformed)
keeps_on-malformed = record {
  found = λ bytes more value rest e. absurd (cc);
  malformed = λ bytes more e. e;
  left = λ bytes value rest e. absurd (cc);
}

pub keeps_on-two : {A B C : Type 0} (make : A → B → C) (first : List ℕ → Parsed A) (second : A → List ℕ → Parsed B) → KeepsOn first → ((a : A) → KeepsOn (second a)) → KeepsOn (λ bytes. two_at make first second bytes)
keeps_on-two make first second one two =
    keeps_on-then first (λ a left. then_at (second a left) (λ b rest. Ok (make a b, rest))) one
    (λ a. keeps_on-then (second a) (λ b rest. Ok (make a b, rest)) (two a) (λ b. keeps_on-nothing (make a b)))

pub keeps_on-three : {A B C D : Type 0} (make : A → B → C → D) (first : List ℕ → Parsed A) (second : A → List ℕ → Parsed B) (third : List ℕ → Parsed C) → KeepsOn first → ((a : A) → KeepsOn (second a)) → KeepsOn third → KeepsOn (λ bytes. three_at make first second third bytes)
keeps_on-three make first second third one two three =
    keeps_on-then first (λ a left. two_at (make a) (second a) (λ b. third) left) one
    (λ a. keeps_on-two (make a) (second a) (λ b. third) (two a) (λ b. three))

pub keeps_on-four : {A B C D E : Type 0} (make : A → B → C → D → E) (first : List ℕ → Parsed A) (second : A → List ℕ → Parsed B) (third : List ℕ → Parsed C) (fourth : List ℕ → Parsed D) → KeepsOn first → ((a : A) → KeepsOn (second a)) → KeepsOn third → KeepsOn fourth → KeepsOn (λ bytes. four_at make first second third fourth bytes)
keeps_on-four make first second third fourth one two three four =
    keeps_on-then first (λ a left. three_at (make a) (second a) (λ b. third) fourth left) one
    (λ a. keeps_on-three (make a) (second a) (λ b. third) fourth (two a) (λ b. three) four)
