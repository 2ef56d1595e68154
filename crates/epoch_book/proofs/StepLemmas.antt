-- Each step keeps what holds of the words.
use Rattle.std.proofs.Common.{◌≡◌, ◌≢◌, ℕ, zero, suc, ◌+◌, ◌-◌, ◌*◌, ◌%◌, ◌^◌, ◌<◌, ◌≤◌, List, [], ◌∷◌, ◌++◌, length, set, refl, sym, ap, ◌∙◌, subst, ⊎_elim, arith, mul-le-mul_right}
use Rattle.std.specs.Prelude.{slice_index, sum_by, replicate}
use mathlib.Core.Option.{some, none, some-injective, some-ne-none}
use mathlib.Core.Logic.{dite}
use native.Mathlib.Decide.{ℕ_discrete}
use lib.ListN.{get_elem?}
use Rattle.std.proofs.Math.Nat.{mod-eq_of_lt}
use Rattle.std.proofs.lemmas.List.{length-set, get_or-set_same, get_or-set_other}
use Rattle.std.proofs.lemmas.List.Sums.{sum_by-cons}
use Rattle.atomic_table.specs.Table.{State, Me, step, keeps, opening, Allows, Splits, Joins, Seen, Final}
use Rattle.atomic_table.proofs.Lists.{at_set, at_snoc}
use Rattle.epoch_book.specs.declared.rule.Account.{Account}
use Rattle.epoch_book.specs.Words.{account_of, column, IsKept, opened, dealt_from, dealt, Added, gathered, spent}
use Rattle.epoch_book.proofs.ListLemmas.{sum_set, sum_more, column-one, column-append, index-behind, index-elsewhere, index-past}

-- no ticket has added more than its passes may
abbrev Bounded : List Account → Type 0
Bounded views = (k : ℕ) (account : Account) → get_elem? views k ≡ some account → (word : ℕ) → column word account.rows ≤ account.passes * 2 ^ 57

abbrev passes_in : Account → ℕ
passes_in account = account.passes

abbrev column_in : ℕ → Account → ℕ
column_in word account = column word account.rows

bounded-set : (views : List Account) (i : ℕ) (account : Account) → Bounded views → ((word : ℕ) → column word account.rows ≤ account.passes * 2 ^ 57) → Bounded (set views i account)
bounded-set views i account all own k other at word =
    ⊎_elim
    (λ (here : (k ≡ i) × (account ≡ other)). subst (λ (a : Account). column word a.rows ≤ a.passes * 2 ^ 57) here.1 (own word))
    (λ (there : (k ≢ i) × (get_elem? views k ≡ some other)). all k other there.1 word)
    (at_set views i k account other at)

bounded-more : (views : List Account) (account : Account) → Bounded views → ((word : ℕ) → column word account.rows ≤ account.passes * 2 ^ 57) → Bounded (views ++ account ∷ [])
bounded-more views account all own k other at word =
    ⊎_elim
    (λ (there : get_elem? views k ≡ some other). all k other there word)
    (λ (here : account ≡ other). subst (λ (a : Account). column word a.rows ≤ a.passes * 2 ^ 57) here (own word))
    (at_snoc views account other k at)

-- so many passes come to no more than this in a word
sum-bounded : (views : List Account) (word : ℕ) → Bounded views → sum_by (column_in word) views ≤ sum_by passes_in views * 2 ^ 57
sum-bounded [] word all = omega arith
sum-bounded (account ∷ views) word all =
    let own = all 0 account refl word in
    let rest = sum-bounded views word (λ k other at. all (suc k) other at) in
    omega (arith, sum_by-cons (column_in word) account views, sum_by-cons passes_in account views, own, rest)

-- ---- the opening

zeros : (word : ℕ) → slice_index (replicate 18 0) word ≡ 0
zeros word = go 18 word
  where
    go : (n word : ℕ) → slice_index (replicate n 0) word ≡ 0
    go zero word = refl
    go (suc n) zero = refl
    go (suc n) (suc word) = go n word

pub opens : (verifiers : ℕ) → verifiers ≤ 64 → IsKept verifiers (opening (replicate 18 0) [] (opened verifiers))
opens verifiers few = record {
  few = few;
  words = refl;
  passes = sum_by-cons passes_in (opened verifiers) [] ∙ omega arith;
  bounded = λ k account at word. first k account at word;
  sums = λ word. zeros word ∙ omega (arith, sum_by-cons (column_in word) (opened verifiers) []);
}
  where
    first : Bounded (opened verifiers ∷ [])
    first zero account at word = subst (λ (a : Account). column word a.rows ≤ a.passes * 2 ^ 57) (some-injective (opened verifiers) account at) (omega arith)
    first (suc k) account at word = absurd (some-ne-none account (sym at))

-- ---- a pass is dealt

pub deals : (n id : ℕ) (v : Account) → 0 < v.passes → v.rows ≡ [] → Splits {S = Unit {0}} (IsKept n) id v (dealt_from v) dealt
deals n id v some_left empty s kept at = record {
  few = kept.few;
  words = kept.words;
  passes = omega (arith, sum_set passes_in s.views id v (dealt_from v) at, sum_more passes_in (set s.views id (dealt_from v)) dealt, kept.passes);
  bounded = bounded-more (set s.views id (dealt_from v)) dealt (bounded-set s.views id (dealt_from v) kept.bounded none_yet) (λ word. omega (arith, column-one word []));
  sums = λ word. omega (arith, kept.sums word, sum_set (column_in word) s.views id v (dealt_from v) at, sum_more (column_in word) (set s.views id (dealt_from v)) dealt, column-one word []);
}
  where
    none_yet : (word : ℕ) → column word v.rows ≤ (v.passes - 1) * 2 ^ 57
    none_yet word = rw empty (omega arith)

-- ---- a number is added

-- the account of a pass, before its next number is added and after
abbrev row_before : List ℕ → Account
row_before row = account_of 1 (row ∷ [])

abbrev row_after : List ℕ → ℕ → Account
row_after row number = account_of 1 ((row ++ number ∷ []) ∷ [])

-- no word wraps
fits-word : (n word number : ℕ) (s : State (Unit {0}) Account) → IsKept n s → number ≤ 2 ^ 57 → (slice_index s.words word + number) % 2 ^ 64 ≡ slice_index s.words word + number
fits-word n word number s kept small =
    let whole = sum-bounded s.views word kept.bounded in
    let few = mul-le-mul_right (2 ^ 57) kept.few in
    let sum = kept.sums word in
    let all : sum_by passes_in s.views * 2 ^ 57 ≡ n * 2 ^ 57 = ap (λ (k : ℕ). k * 2 ^ 57) kept.passes in
    mod-eq_of_lt (omega arith)

after-bounded : (row : List ℕ) (number : ℕ) → number ≤ 2 ^ 57 → ((word : ℕ) → column word (row ∷ []) ≤ 1 * 2 ^ 57) → (word : ℕ) → column word ((row ++ number ∷ []) ∷ []) ≤ 1 * 2 ^ 57
after-bounded row number small before word =
    dite (ℕ_discrete word (length row))
    (λ here. omega (arith, column-one word (row ++ number ∷ []), index-behind row number word here))
    (λ apart. omega (arith, column-one word (row ++ number ∷ []), index-elsewhere row number word apart, column-one word row, before word))

-- what the words are once the number is added
after-sums : (n id word number : ℕ) (row : List ℕ) (s : State (Unit {0}) Account) → IsKept n s → get_elem? s.views id ≡ some (row_before row) → length row ≡ word → word < 18 → number ≤ 2 ^ 57
    → (i : ℕ) → slice_index (set s.words word ((slice_index s.words word + number) % 2 ^ 64)) i ≡ sum_by (column_in i) (set s.views id (row_after row number))
after-sums n id word number row s kept at here within small i =
    let sums = sum_set (column_in i) s.views id (row_before row) (row_after row number) at in
    let before = column-one i row in
    let after = column-one i (row ++ number ∷ []) in
    let was = kept.sums i in
    dite (ℕ_discrete i word)
    (λ same.
    let room : word < length s.words = omega (arith, kept.words) in
    let new = get_or-set_same s.words word ((slice_index s.words word + number) % 2 ^ 64) 0 room in
    let new' : slice_index (set s.words word ((slice_index s.words word + number) % 2 ^ 64)) i ≡ (slice_index s.words word + number) % 2 ^ 64 = ap (λ (k : ℕ). slice_index (set s.words word ((slice_index s.words word + number) % 2 ^ 64)) k) same ∙ new in
    let whole = fits-word n word number s kept small in
    let old : slice_index s.words word ≡ slice_index s.words i = ap (λ (k : ℕ). slice_index s.words k) (sym same) in
    let shown = index-behind row number i (same ∙ sym here) in
    let none_yet = index-past row i (same ∙ sym here) in
    omega arith)
    (λ apart.
    let kept_word = get_or-set_other s.words word i ((slice_index s.words word + number) % 2 ^ 64) 0 apart in
    let shown = index-elsewhere row number i (λ same. apart (same ∙ here)) in
    omega arith)

adds_to : (n slots id word number : ℕ) (row : List ℕ) → length row ≡ word → word < 18 → number ≤ 2 ^ 57
    → Allows {S = Unit {0}} (IsKept n) slots id (row_before row, []) word (λ found. (found + number) % 2 ^ 64) (Added (step slots word number 0 none) (row_before row, []))
adds_to n slots id word number row here within small s kept homes at fits = (
  row_after row number,
  keeps,
  tt,
  record {
    few = kept.few;
    words = length-set s.words word _ ∙ kept.words;
    passes = omega (arith, sum_set passes_in s.views id (row_before row) (row_after row number) at, kept.passes);
    bounded = bounded-set s.views id (row_after row number) kept.bounded (after-bounded row number small (kept.bounded id (row_before row) at));
    sums = after-sums n id word number row s kept at here within small;
  },
  refl,
)

-- the same for a account that is known to have this row
pub adds : (n slots id word number : ℕ) (me : Me (Unit {0}) Account) (row : List ℕ) → me ≡ (row_before row, []) → length row ≡ word → word < 18 → number ≤ 2 ^ 57
    → Allows {S = Unit {0}} (IsKept n) slots id me word (λ found. (found + number) % 2 ^ 64) (Added (step slots word number 0 none) me)
adds n slots id word number me row is here within small =
    subst (λ (m : Me (Unit {0}) Account). Allows {S = Unit {0}} (IsKept n) slots id m word (λ found. (found + number) % 2 ^ 64) (Added (step slots word number 0 none) m)) (sym is) (adds_to n slots id word number row here within small)

-- ---- a ticket stands for the passes of another too

gathered-bounded : (v w : Account) → ((word : ℕ) → column word v.rows ≤ v.passes * 2 ^ 57) → ((word : ℕ) → column word w.rows ≤ w.passes * 2 ^ 57) → (word : ℕ) → column word (w.rows ++ v.rows) ≤ (v.passes + w.passes) * 2 ^ 57
gathered-bounded v w own its word = omega (arith, column-append word w.rows v.rows, own word, its word)

-- the account that is taken in was as it is, before the other changed
other_ticket : (views : List Account) (id other : ℕ) (v w : Account) → ¬ (other ≡ id) → get_elem? (set views id v) other ≡ some w → get_elem? views other ≡ some w
other_ticket views id other v w apart at =
    ⊎_elim (λ (here : (other ≡ id) × (v ≡ w)). absurd (apart here.0)) (λ (there : (other ≢ id) × (get_elem? views other ≡ some w)). there.1) (at_set views id other v w at)

pub gathers : (n id : ℕ) (v : Account) (other : ℕ) (w : Account) → Joins {S = Unit {0}} (IsKept n) id v other w (gathered v w) spent
gathers n id v other w s kept at apart there =
    let first = set s.views id (gathered v w) in
    let w_at = other_ticket s.views id other (gathered v w) w apart there in
    let w_bounded = kept.bounded other w w_at in
    let v_bounded = kept.bounded id v at in record {
      few = kept.few;
      words = kept.words;
      passes = omega (arith, sum_set passes_in s.views id v (gathered v w) at, sum_set passes_in first other w spent there, kept.passes);
      bounded = bounded-set first other spent (bounded-set s.views id (gathered v w) kept.bounded (gathered-bounded v w v_bounded w_bounded)) (λ word. omega arith);
      sums = λ word. omega (arith, kept.sums word, sum_set (column_in word) s.views id v (gathered v w) at, sum_set (column_in word) first other w spent there, column-append word w.rows v.rows);
    }

-- ---- all passes have come together

-- where one account answers for all passes, the words are what its rows have added
pub closes : (n id : ℕ) (rows : List (List ℕ)) (s : State (Unit {0}) Account) → Seen (IsKept n) id (account_of n rows) s → (word : ℕ) → slice_index s.words word ≡ column word rows
closes n id rows s seen word =
    let kept = seen.0 in
    let others = set s.views id spent in
    let left = bounded-set s.views id spent kept.bounded (λ word. omega arith) in
    let passes = sum_set passes_in s.views id (account_of n rows) spent seen.1 in
    let columns = sum_set (column_in word) s.views id (account_of n rows) spent seen.1 in
    let bound = sum-bounded others word left in
    let nobody : sum_by passes_in others ≡ 0 = omega (arith, passes, kept.passes) in
    let nothing : sum_by passes_in others * 2 ^ 57 ≡ 0 = ap (λ (k : ℕ). k * 2 ^ 57) nobody in
    omega (arith, kept.sums word, columns, bound, nothing)

number-at : (words : List ℕ) (word number : ℕ) → get_elem? words word ≡ some number → slice_index words word ≡ number
number-at [] word number at = absurd (some-ne-none number (sym at))
number-at (w ∷ words) zero number at = some-injective w number at
number-at (w ∷ words) (suc word) number at = number-at words word number at

-- the same of the words that a closed table has, where the account is known to answer for all
pub words-close : (n id count : ℕ) (me : Me (Unit {0}) Account) (rows : List (List ℕ)) (words : List ℕ) (slots : List (Unit {0})) → me ≡ (account_of count rows, []) → count ≡ n
    → Final (Seen (IsKept n) id me.0) words slots → (word : ℕ) (number : ℕ) → get_elem? words word ≡ some number → number ≡ column word rows
words-close n id count me rows words slots is all final word number at =
    let account : me.0 ≡ account_of n rows = ap (λ (m : Me (Unit {0}) Account). m.0) is ∙ ap (λ (k : ℕ). account_of k rows) all in
    let seen = subst (λ (a : Account). Seen (IsKept n) id a final.0) account final.1 in
    sym (number-at words word number at) ∙ ap (λ (ws : List ℕ). slice_index ws word) (sym final.2) ∙ closes n id rows final.0 seen word
