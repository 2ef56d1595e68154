-- Readers and texts of one kind: what was read is spelled so and good, and what is good is read of its text.
use Rattle.std.proofs.Common.{◌≡◌, ℕ, suc, zero, Bool, true, false, cond, List, [], ◌∷◌, ◌++◌, length, Option, Some, None, Ok, refl, sym, ap, subst, ◌∙◌, append_assoc, arith}
use Rattle.std.specs.Prelude.{IsTrue}
use Rattle.std.specs.List.{flat_map, AllByRecursion}
use Rattle.record_text.specs.Fields.{Parsed, ◌>>=◌, ranged, KeepsOn}
use Rattle.record_text.proofs.FieldLaws.{AreBytes, Begins, Begins-then, bind_ok, ranged_ok, Ok-is}
use Rattle.record_text.proofs.KeepsOnLaws.{keeps_on-nothing, keeps_on-then, keeps_on-made}
use Rattle.seals.specs.Combined.{then_at, pick_at, if_passing, tested_at, row_at, InRow, counted_at}

-- what is read is spelled so and good, and what is good is read of its text, whatever follows
pub record IsCodec {A : Type 0} (read : List ℕ → Parsed A) (text : A → List ℕ) (Good : A → Type 0) : Type 0 where
  pub begins : (bytes : List ℕ) (x : A) (rest : List ℕ) → AreBytes bytes → read bytes ≡ Ok (x, rest) → Begins bytes (text x) rest × Good x
  pub again : (x : A) (rest : List ℕ) → Good x → read (text x ++ rest) ≡ Ok (x, rest)

-- ---- one behind another

pub codec-then : {A B : Type 0} (first : List ℕ → Parsed A) (text : A → List ℕ) (Good : A → Type 0) (next : A → List ℕ → Parsed B) (text' : A → B → List ℕ) (Good' : A → B → Type 0)
    → IsCodec first text Good → ((a : A) → Good a → IsCodec (next a) (text' a) (Good' a))
    → IsCodec (then_at first next) (λ p. text p.0 ++ text' p.0 p.1) (λ p. Good p.0 × Good' p.0 p.1)
codec-then {A} {B} first text Good next text' Good' one two = record {
  begins = λ bytes x rest fits e.
      let a = bind_ok (first bytes) (λ a. next a.0 a.1 >>= λ b. Ok ((a.0, b.0), b.1)) (x, rest) e in
      let b = bind_ok (next a.0.0 a.0.1) (λ b. Ok ((a.0.0, b.0), b.1)) (x, rest) a.2 in
      let front = one.begins bytes a.0.0 a.0.1 fits a.1 in
      let back = (two a.0.0 front.1).begins a.0.1 b.0.0 b.0.1 front.0.rest_fits b.1 in
      let made : A × B = (a.0.0, b.0.0) in
      let P : (A × B) × List ℕ → Type 0 = λ y. Begins bytes (text y.0.0 ++ text' y.0.0 y.0.1) y.1 × (Good y.0.0 × Good' y.0.0 y.0.1) in
      subst P {x = (made, b.0.1)} (Ok-is (made, b.0.1) (x, rest) b.2)
      (Begins-then bytes (text a.0.0) a.0.1 (text' a.0.0 b.0.0) b.0.1 front.0 back.0, (front.1, back.1));
  again = λ x rest good.
      ap (λ (bytes : List ℕ). then_at first next bytes) (append_assoc (text x.0) (text' x.0 x.1) rest)
      ∙ (ap (λ (r : Parsed A). r >>= λ a. next a.0 a.1 >>= λ b. Ok ((a.0, b.0), b.1)) (one.again x.0 (text' x.0 x.1 ++ rest) good.0)
      ∙ ap (λ (r : Parsed B). r >>= λ b. Ok ((x.0, b.0), b.1)) ((two x.0 good.0).again x.1 rest good.1));
}

-- ---- what a thing means

-- things and what they mean: each thing of which one is made is that one's, and what is good is made of a good thing
pub record IsPicked {A B : Type 0} (pick : A → Option B) (fields : B → A) (Good : A → Type 0) (Good' : B → Type 0) : Type 0 where
  pub back : (a : A) (b : B) → Good a → pick a ≡ Some b → (fields b ≡ a) × Good' b
  pub again : (b : B) → Good' b → (pick (fields b) ≡ Some b) × Good (fields b)

pub codec-pick : {A B : Type 0} (pick : A → Option B) (fields : B → A) (read : List ℕ → Parsed A) (text : A → List ℕ) (Good : A → Type 0) (Good' : B → Type 0)
    → IsPicked pick fields Good Good' → IsCodec read text Good → IsCodec (pick_at pick read) (λ b. text (fields b)) Good'
codec-pick {A} {B} pick fields read text Good Good' picked one = record {
  begins = λ bytes x rest fits e.
      let a = bind_ok (read bytes) (λ a. ranged (pick a.0) a.1) (x, rest) e in
      let meant = ranged_ok (pick a.0.0) a.0.1 x rest a.2 in
      let front = one.begins bytes a.0.0 a.0.1 fits a.1 in
      let back = picked.back a.0.0 x front.1 meant.0 in
      (subst (λ (r : List ℕ). Begins bytes (text (fields x)) r) meant.1 (subst (λ (y : A). Begins bytes (text y) a.0.1) (sym back.0) front.0), back.1);
  again = λ x rest good.
      let made = picked.again x good in
      ap (λ (r : Parsed A). r >>= λ a. ranged (pick a.0) a.1) (one.again (fields x) rest made.1)
      ∙ ap (λ (o : Option B). ranged o rest) made.0;
}

-- where a test gives a thing, it passed
passing : {A : Type 0} (b : Bool) (x y : A) → cond b (Some x) None ≡ Some y → IsTrue b × (x ≡ y)
passing true x y e = (refl, cc)
passing false x y e = absurd (cc)

pub picked-if : {A : Type 0} (test : A → Bool) (Good : A → Type 0) → IsPicked (if_passing test) (λ a. a) Good (λ a. IsTrue (test a) × Good a)
picked-if test Good = record {
  back = λ a b good e.
      let passed = passing (test a) a b e in
      (sym passed.1, subst (λ x. IsTrue (test x) × Good x) passed.1 (passed.0, good));
  again = λ b good. (ap (λ (t : Bool). cond t (Some b) None) good.0, good.1);
}

pub codec-tested : {A : Type 0} (test : A → Bool) (read : List ℕ → Parsed A) (text : A → List ℕ) (Good : A → Type 0) → IsCodec read text Good → IsCodec (tested_at test read) text (λ a. IsTrue (test a) × Good a)
codec-tested test read text Good one = codec-pick (if_passing test) (λ a. a) read text Good (λ a. IsTrue (test a) × Good a) (picked-if test Good) one

-- ---- lists

-- so many of a kind, each of which may stand behind the one before
abbrev pub AreRow : {A : Type 0} → (Option A → A → Bool) → (A → Type 0) → Option A → ℕ → List A → Type 0
AreRow follows Good before count xs = (length xs ≡ count) × InRow follows before xs × AllByRecursion Good xs

-- a good first item and a good row behind it are read of their texts
row_again : {A : Type 0} (follows : Option A → A → Bool) (read : List ℕ → Parsed A) (text : A → List ℕ) (Good : A → Type 0) (before : Option A) (count : ℕ) → IsCodec (tested_at (follows before) read) text (λ a. IsTrue (follows before a) × Good a)
    → ((previous : Option A) → IsCodec (row_at follows read previous count) (λ xs. flat_map text xs) (AreRow follows Good previous count))
    → (x : List A) (rest : List ℕ) → AreRow follows Good before (suc count) x → row_at follows read before (suc count) (flat_map text x ++ rest) ≡ Ok (x, rest)
unfolding row_at
row_again follows read text Good before count first next [] rest good = absurd (omega (arith, good.0))
row_again {A} follows read text Good before count first next (y ∷ x) rest good =
    let long : length x ≡ count = omega (arith, good.0) in
    ap (λ (bytes : List ℕ). row_at follows read before (suc count) bytes) (append_assoc (text y) (flat_map text x) rest)
    ∙ (ap (λ (r : Parsed A). r >>= λ a. row_at follows read (Some a.0) count a.1 >>= λ more. Ok (a.0 ∷ more.0, more.1)) (first.again y (flat_map text x ++ rest) (good.1.0, good.2.0))
    ∙ ap (λ (r : Parsed (List A)). r >>= λ more. Ok (y ∷ more.0, more.1)) ((next (Some y)).again x rest (long, good.1.1, good.2.1)))

no_row_again : {A : Type 0} (text : A → List ℕ) (x : List A) (rest : List ℕ) → length x ≡ 0 → (let r : Parsed (List A) = Ok ([], flat_map text x ++ rest) in r ≡ Ok (x, rest))
no_row_again text [] rest len = refl
no_row_again text (y ∷ x) rest len = absurd (omega arith)

pub codec-row : {A : Type 0} (follows : Option A → A → Bool) (read : List ℕ → Parsed A) (text : A → List ℕ) (Good : A → Type 0) → IsCodec read text Good
    → (count : ℕ) (before : Option A) → IsCodec (row_at follows read before count) (λ xs. flat_map text xs) (AreRow follows Good before count)
unfolding row_at
codec-row {A} follows read text Good one zero before = record {
  begins = λ bytes x rest fits e.
      let none : List A = [] in
      subst (λ (y : List A × List ℕ). Begins bytes (flat_map text y.0) y.1 × AreRow follows Good before 0 y.0) (Ok-is (none, bytes) (x, rest) e)
      (record { parts = refl; rest_fits = fits }, (refl, tt, tt));
  again = λ x rest good. no_row_again text x rest good.0;
}
codec-row {A} follows read text Good one (suc count) before =
    let first = codec-tested (follows before) read text Good one in record {
      begins = λ bytes x rest fits e.
          let a = bind_ok (tested_at (follows before) read bytes) (λ a. row_at follows read (Some a.0) count a.1 >>= λ more. Ok (a.0 ∷ more.0, more.1)) (x, rest) e in
          let b = bind_ok (row_at follows read (Some a.0.0) count a.0.1) (λ more. Ok (a.0.0 ∷ more.0, more.1)) (x, rest) a.2 in
          let front = first.begins bytes a.0.0 a.0.1 fits a.1 in
          let back = (codec-row follows read text Good one count (Some a.0.0)).begins a.0.1 b.0.0 b.0.1 front.0.rest_fits b.1 in
          let made : List A = a.0.0 ∷ b.0.0 in
          let long : length made ≡ suc count = omega (arith, back.1.0) in
          let row : AreRow follows Good before (suc count) made = (long, (front.1.0, back.1.1), (front.1.1, back.1.2)) in
          subst (λ (y : List A × List ℕ). Begins bytes (flat_map text y.0) y.1 × AreRow follows Good before (suc count) y.0) {x = (made, b.0.1)} (Ok-is (made, b.0.1) (x, rest) b.2)
          (Begins-then bytes (text a.0.0) a.0.1 (flat_map text b.0.0) b.0.1 front.0 back.0, row);
      again = row_again follows read text Good before count first (codec-row follows read text Good one count);
    }

-- how many, and these
pub codec-counted : {A : Type 0} (number : List ℕ → Parsed ℕ) (number_text : ℕ → List ℕ) (Number : ℕ → Type 0) (test : ℕ → Bool) (follows : Option A → A → Bool) (read : List ℕ → Parsed A) (text : A → List ℕ) (Good : A → Type 0)
    → IsCodec number number_text Number → IsCodec read text Good
    → IsCodec (counted_at number test follows read) (λ xs. number_text (length xs) ++ flat_map text xs) (λ xs. (IsTrue (test (length xs)) × Number (length xs)) × InRow follows None xs × AllByRecursion Good xs)
codec-counted {A} number number_text Number test follows read text Good numbers items =
    codec-pick (λ found. Some found.1) (λ xs. (length xs, xs)) (then_at (tested_at test number) (row_at follows read None)) (λ p. number_text p.0 ++ flat_map text p.1)
    (λ p. (IsTrue (test p.0) × Number p.0) × AreRow follows Good None p.0 p.1) (λ xs. (IsTrue (test (length xs)) × Number (length xs)) × InRow follows None xs × AllByRecursion Good xs)
    (record {
      back = λ a xs good e.
          let is : a.1 ≡ xs = cc in
          let count : length a.1 ≡ a.0 = good.1.0 in
          let P : List A → Type 0 = λ ys. ((length ys, ys) ≡ a) × ((IsTrue (test (length ys)) × Number (length ys)) × InRow follows None ys × AllByRecursion Good ys) in
          subst P is (ap (λ (n : ℕ). (n, a.1)) count, (subst (λ (n : ℕ). IsTrue (test n) × Number n) (sym count) good.0, good.1.1, good.1.2));
      again = λ xs good. (refl, (good.0, (refl, good.1, good.2)));
    })
    (codec-then (tested_at test number) number_text (λ n. IsTrue (test n) × Number n) (row_at follows read None) (λ n xs. flat_map text xs) (λ n xs. AreRow follows Good None n xs)
    (codec-tested test number number_text Number numbers) (λ n fits. codec-row follows read text Good items n None))

-- ---- more bytes behind

pub keeps_on-ranged : {A : Type 0} (o : Option A) → KeepsOn (λ bytes. ranged o bytes)
keeps_on-ranged None = record {
  found = λ bytes more value rest e. absurd (cc);
  malformed = λ bytes more e. refl;
  left = λ bytes value rest e. absurd (cc);
}
keeps_on-ranged (Some x) = keeps_on-nothing x

pub keeps_on-both : {A B : Type 0} (first : List ℕ → Parsed A) (next : A → List ℕ → Parsed B) → KeepsOn first → ((a : A) → KeepsOn (next a)) → KeepsOn (then_at first next)
keeps_on-both first next one two = keeps_on-then first (λ a bytes. next a bytes >>= λ b. Ok ((a, b.0), b.1)) one (λ a. keeps_on-made (next a) (λ b. (a, b)) (two a))

pub keeps_on-pick : {A B : Type 0} (pick : A → Option B) (read : List ℕ → Parsed A) → KeepsOn read → KeepsOn (pick_at pick read)
keeps_on-pick pick read one = keeps_on-then read (λ a bytes. ranged (pick a) bytes) one (λ a. keeps_on-ranged (pick a))

pub keeps_on-row : {A : Type 0} (follows : Option A → A → Bool) (read : List ℕ → Parsed A) → KeepsOn read → (count : ℕ) (before : Option A) → KeepsOn (row_at follows read before count)
unfolding row_at
keeps_on-row follows read one zero before = keeps_on-nothing []
keeps_on-row follows read one (suc count) before =
    keeps_on-then (tested_at (follows before) read) (λ a bytes. row_at follows read (Some a) count bytes >>= λ more. Ok (a ∷ more.0, more.1)) (keeps_on-pick (if_passing (follows before)) read one)
    (λ a. keeps_on-made (row_at follows read (Some a) count) (λ more. a ∷ more) (keeps_on-row follows read one count (Some a)))

pub keeps_on-counted : {A : Type 0} (number : List ℕ → Parsed ℕ) (test : ℕ → Bool) (follows : Option A → A → Bool) (read : List ℕ → Parsed A) → KeepsOn number → KeepsOn read → KeepsOn (counted_at number test follows read)
keeps_on-counted number test follows read numbers items =
    keeps_on-pick (λ found. Some found.1) (then_at (tested_at test number) (row_at follows read None))
    (keeps_on-both (tested_at test number) (row_at follows read None) (keeps_on-pick (if_passing test) number numbers) (λ n. keeps_on-row follows read items n None))
