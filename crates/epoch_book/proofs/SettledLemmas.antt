-- What the passes of a book say together.
use Rattle.std.proofs.Common.{◌≡◌, ◌≢◌, ℕ, zero, suc, ◌+◌, ◌*◌, ◌^◌, ◌<◌, ◌≤◌, ◌==◌, ◌&&◌, ◌||◌, if◌then◌else◌, ne_eqb, eq-eqb, Bool, false, not, cond, List, [], ◌∷◌, ◌++◌, length, take, drop, get_or, map, fold, find, Option, Some, None, All, refl, sym, ap, ◌∙◌, subst, arith, length-take, append-nil}
use Rattle.std.specs.Prelude.{slice_get, slice_index, is_none, is_some}
use Rattle.std.specs.Option.{ForSome, option_map}
use Rattle.std.specs.Str.{bytes_eq}
use Rattle.std.proofs.Math.Bool.{and-false}
use Rattle.std.proofs.lemmas.Bool.{and_from}
use Rattle.std.specs.List.{cons_option, range_with_len}
use Rattle.std.proofs.lemmas.List.{take_more}
use Rattle.std.proofs.lemmas.List.Elements.{filter_map-append}
use Rattle.std.proofs.lemmas.List.Sums.{fold_push}
use Rattle.multiset_sum.specs.declared.part.Part.{Part}
use Rattle.multiset_sum.specs.Tally.{Tally}
use Rattle.multiset_sum.specs.Sum.{zero_sum, joined}
use Rattle.epoch_gather.specs.declared.outcome.Verdict.TheVariants.{Balanced, Unbalanced, Missing}
use Rattle.epoch_gather.specs.Parts.{of_epoch, has_part, lowest_missing, total}
use Rattle.epoch_gather.specs.Verdict.{verdict_by, verdict_of}
use Rattle.epoch_book.specs.declared.pass.Pass.{Pass}
use Rattle.epoch_book.specs.Words.{column}
use Rattle.epoch_book.specs.Numbers.{numbers_of, row_of}
use Rattle.epoch_book.specs.Passes.{part_of, parts_of, rows_of, number_of}
use Rattle.epoch_book.specs.Settled.{first_without, settled}
use Rattle.epoch_book.proofs.NumberLemmas.{halves-are}

-- ---- the parts that some passes have come to little

abbrev sum_from : (Part → Tally) → Tally → List Part → Tally
sum_from side sum parts = fold (λ s part. joined s (side part)) sum parts

count_one : (side : Part → Tally) (sum : Tally) (passes : List Pass) (part : Option Part) → ForSome part (λ p. (side p).count < 2 ^ 25)
    → ((s : Tally) → (sum_from side s (parts_of passes)).count ≤ s.count + length passes * 33554431)
    → (sum_from side sum (cons_option part (parts_of passes))).count ≤ sum.count + suc (length passes) * 33554431
count_one side sum passes None small rest = let others = rest sum in omega arith
count_one side sum passes (Some part) small rest =
    let others = rest (joined sum (side part)) in
    let own : (side part).count ≤ 33554431 = omega (arith, small part refl) in
    omega (arith, others, own)

count_from : (side : Part → Tally) → ((pass : Pass) → ForSome pass.part (λ p. (side p).count < 2 ^ 25)) → (passes : List Pass) (sum : Tally) → (sum_from side sum (parts_of passes)).count ≤ sum.count + length passes * 33554431
count_from side small [] sum = omega arith
count_from side small (pass ∷ passes) sum = count_one side sum passes pass.part (small pass) (λ s. count_from side small passes s)

-- the next part can be joined
pub room_for : (side : Part → Tally) → ((pass : Pass) → ForSome pass.part (λ p. (side p).count < 2 ^ 25)) → (passes : List Pass) (i : ℕ) (part : Part) → length passes ≤ 64 → i < length passes → (side part).count < 2 ^ 25
    → (total side (parts_of (take i passes))).count + (side part).count < 2147483648
room_for side small passes i part few within own =
    let bound = count_from side small (take i passes) zero_sum in
    let front : length (take i passes) ≤ 63 = omega (arith, length-take i passes) in
    omega (arith, bound, front)

-- one pass more
parts_more : (passes : List Pass) (i : ℕ) (pass : Pass) → i < length passes → pass ≡ get_or passes i pass → parts_of (take (i + 1) passes) ≡ parts_of (take i passes) ++ cons_option pass.part []
parts_more passes i pass within is =
    ap parts_of (take_more passes i pass within ∙ ap (λ (p : Pass). take i passes ++ p ∷ []) (sym is))
    ∙ filter_map-append part_of (take i passes) (pass ∷ [])

pub total_more : (side : Part → Tally) (passes : List Pass) (i : ℕ) (pass : Pass) (part : Part) → i < length passes → pass ≡ get_or passes i pass → pass.part ≡ Some part
    → total side (parts_of (take (i + 1) passes)) ≡ joined (total side (parts_of (take i passes))) (side part)
total_more side passes i pass part within is has =
    ap (total side) (parts_more passes i pass within is ∙ ap (λ (o : Option Part). parts_of (take i passes) ++ cons_option o []) has)
    ∙ fold_push (λ s p. joined s (side p)) zero_sum (parts_of (take i passes)) part

pub total_same : (side : Part → Tally) (passes : List Pass) (i : ℕ) (pass : Pass) → i < length passes → pass ≡ get_or passes i pass → pass.part ≡ None
    → total side (parts_of (take (i + 1) passes)) ≡ total side (parts_of (take i passes))
total_same side passes i pass within is has =
    ap (total side) (parts_more passes i pass within is ∙ ap (λ (o : Option Part). parts_of (take i passes) ++ cons_option o []) has ∙ append-nil (parts_of (take i passes)))

-- ---- where no pass is without a part

first_none : (o : Option Pass) → option_map number_of o ≡ None → o ≡ None
first_none None e = refl
first_none (Some pass) e = absurd (cc)

rows_by : (part : Option Part) (pass : Pass) (passes : List Pass) → cond (is_none part) (Some pass) (find (λ p. is_none (part_of p)) passes) ≡ None
    → (find (λ p. is_none (part_of p)) passes ≡ None → rows_of passes ≡ map numbers_of (parts_of passes))
    → row_of part ∷ rows_of passes ≡ map numbers_of (cons_option part (parts_of passes))
rows_by None pass passes e rest = absurd (cc)
rows_by (Some part) pass passes e rest = ap (λ rows. numbers_of part ∷ rows) (rest e)

rows_found : (passes : List Pass) → find (λ p. is_none (part_of p)) passes ≡ None → rows_of passes ≡ map numbers_of (parts_of passes)
rows_found [] e = refl
rows_found (pass ∷ passes) e = rows_by pass.part pass passes e (λ later. rows_found passes later)

-- the rows are the numbers of the parts
pub rows_are : (passes : List Pass) → first_without passes ≡ None → rows_of passes ≡ map numbers_of (parts_of passes)
rows_are passes e = rows_found passes (first_none _ e)

-- ---- the verdict on one epoch

-- these passes have the numbers from one on
abbrev Numbered : ℕ → List Pass → Type 0
Numbered from passes = (k : ℕ) (pass : Pass) → slice_get passes k ≡ Some pass → pass.number ≡ from + k

numbered_rest : (from : ℕ) (pass : Pass) (passes : List Pass) → Numbered from (pass ∷ passes) → Numbered (from + 1) passes
numbered_rest from pass passes numbered k other at = numbered (suc k) other at ∙ omega arith

-- so do these parts: whether one of them is of this epoch and verifier
abbrev has : ℕ → ℕ → List Part → Bool
has epoch verifier parts = has_part parts epoch verifier

all_rest : (P : Part → Type 0) (part : Option Part) (parts : List Part) → All P (cons_option part parts) → All P parts
all_rest P None parts all = all
all_rest P (Some part) parts all = λ k d within. all (suc k) d (omega arith)

-- a part of another verifier counts for nothing here
apart_by : (epoch verifier : ℕ) (part : Option Part) (parts : List Part) → ((p : Part) → part ≡ Some p → p.verifier ≢ verifier) → has epoch verifier (cons_option part parts) ≡ has epoch verifier parts
apart_by epoch verifier None parts apart = refl
apart_by epoch verifier (Some part) parts apart =
    ap (λ (b : Bool). (part.epoch == epoch && b) || has epoch verifier parts) (ne_eqb part.verifier verifier (apart part refl))
    ∙ ap (λ (b : Bool). b || has epoch verifier parts) (and-false (part.epoch == epoch))

lower_has_none : (epoch verifier from : ℕ) (passes : List Pass) → verifier < from → Numbered from passes → has epoch verifier (parts_of passes) ≡ false
lower_has_none epoch verifier from [] below numbered = refl
lower_has_none epoch verifier from (pass ∷ passes) below numbered =
    apart_by epoch verifier pass.part (parts_of passes) (λ part is same. let own = (pass.fits part is).0 in let number = numbered 0 pass refl in absurd (omega arith))
    ∙ lower_has_none epoch verifier (from + 1) passes (omega arith) (numbered_rest from pass passes numbered)

own_by : (epoch verifier : ℕ) (part : Option Part) (parts : List Part) → ((p : Part) → part ≡ Some p → p.verifier ≡ verifier) → All (λ p. p.epoch ≡ epoch) (cons_option part parts) → has epoch verifier parts ≡ false → has epoch verifier (cons_option part parts) ≡ is_some part
own_by epoch verifier None parts own all others = others
own_by epoch verifier (Some part) parts own all others =
    ap (λ (b : Bool). b || has epoch verifier parts)
    (and_from (part.epoch == epoch) (part.verifier == verifier) (eq-eqb part.epoch epoch (all 0 part (omega arith))) (eq-eqb part.verifier verifier (own part refl)))

-- a verifier has a part exactly where its pass has one
has-own : (epoch from : ℕ) (passes : List Pass) → Numbered from passes → All (λ p. p.epoch ≡ epoch) (parts_of passes) → (k : ℕ) (pass : Pass) → slice_get passes k ≡ Some pass → has epoch (from + k) (parts_of passes) ≡ is_some pass.part
has-own epoch from [] numbered all k pass at = absurd (cc)
has-own epoch from (first ∷ passes) numbered all zero pass at =
    let same : first ≡ pass = cc in
    subst (λ (p : Pass). has epoch (from + 0) (parts_of (first ∷ passes)) ≡ is_some p.part) same
    (own_by epoch (from + 0) first.part (parts_of passes) (λ part is. (first.fits part is).0 ∙ numbered 0 first refl) all
    (lower_has_none epoch (from + 0) (from + 1) passes (omega arith) (numbered_rest from first passes numbered)))
has-own epoch from (first ∷ passes) numbered all (suc k) pass at =
    apart_by epoch (from + suc k) first.part (parts_of passes) (λ part is same. let own = (first.fits part is).0 in let number = numbered 0 first refl in absurd (omega arith))
    ∙ ap (λ (verifier : ℕ). has epoch verifier (parts_of passes)) (let sum : from + suc k ≡ (from + 1) + k = omega arith in sum)
    ∙ has-own epoch (from + 1) passes (numbered_rest from first passes numbered) (all_rest (λ p. p.epoch ≡ epoch) first.part (parts_of passes) all) k pass at

-- a search through the verifiers finds what a search through the passes does
find_by : (has : ℕ → Bool) (from : ℕ) (first : Pass) (rest : Option ℕ) (found : Option Pass) → first.number ≡ from → (part : Option Part) → has from ≡ is_some part → rest ≡ option_map number_of found
    → cond (not (has from)) (Some from) rest ≡ option_map number_of (cond (is_none part) (Some first) found)
find_by has from first rest found number None e same = ap (λ (b : Bool). cond (not b) (Some from) rest) e ∙ ap Some (sym number)
find_by has from first rest found number (Some part) e same = ap (λ (b : Bool). cond (not b) (Some from) rest) e ∙ same

first-same : (has : ℕ → Bool) (from : ℕ) (passes : List Pass) → Numbered from passes → ((k : ℕ) (pass : Pass) → slice_get passes k ≡ Some pass → has (from + k) ≡ is_some pass.part)
    → find (λ verifier. not (has verifier)) (range_with_len from (length passes)) ≡ first_without passes
first-same has from [] numbered own = refl
first-same has from (pass ∷ passes) numbered own =
    find_by has from pass _ (find (λ p. is_none (part_of p)) passes) (numbered 0 pass refl ∙ omega arith) pass.part
    (ap has (let sum : from ≡ from + 0 = omega arith in sum) ∙ own 0 pass refl)
    (first-same has (from + 1) passes (numbered_rest from pass passes numbered) (λ k other at. ap has (let sum : (from + 1) + k ≡ from + suc k = omega arith in sum) ∙ own (suc k) other at))

of_epoch-all : (epoch : ℕ) (parts : List Part) → All (λ p. p.epoch ≡ epoch) parts → of_epoch epoch parts ≡ parts
of_epoch-all epoch [] all = refl
of_epoch-all epoch (part ∷ parts) all =
    ap (λ (b : Bool). cond b (part ∷ of_epoch epoch parts) (of_epoch epoch parts)) (eq-eqb part.epoch epoch (all 0 part (omega arith)))
    ∙ ap (λ ps. part ∷ ps) (of_epoch-all epoch parts (λ k d within. all (suc k) d (omega arith)))

-- where all parts are of one epoch, what was settled is the verdict on that epoch
pub settled-verdict_of : (verifiers : ℕ) (passes : List Pass) → length passes ≡ verifiers → ((k : ℕ) (pass : Pass) → slice_get passes k ≡ Some pass → pass.number ≡ k) → (epoch : ℕ) → All (λ p. p.epoch ≡ epoch) (parts_of passes)
    → settled passes ≡ verdict_of verifiers epoch (parts_of passes)
settled-verdict_of verifiers passes count numbers epoch all =
    let parts = parts_of passes in
    let numbered : Numbered 0 passes = λ (k : ℕ) (pass : Pass) (at : slice_get passes k ≡ Some pass). numbers k pass at ∙ omega arith in
    let missing : first_without passes ≡ lowest_missing verifiers epoch parts =
    sym (first-same (has_part parts epoch) 0 passes numbered (has-own epoch 0 passes numbered all))
    ∙ ap (λ (n : ℕ). lowest_missing n epoch parts) count in
    let own = sym (of_epoch-all epoch parts all) in
    ap (λ m. verdict_by m (total (λ part. part.added) parts) (total (λ part. part.evicted) parts)) missing
    ∙ ap (λ ps. verdict_by (lowest_missing verifiers epoch parts) (total (λ part. part.added) ps) (total (λ part. part.evicted) ps)) own

-- ---- the three outcomes

pub settled-missing : (passes : List Pass) (verifier : ℕ) → first_without passes ≡ Some verifier → settled passes ≡ Missing verifier
settled-missing passes verifier is = ap (λ m. verdict_by m (total (λ part. part.added) (parts_of passes)) (total (λ part. part.evicted) (parts_of passes))) is

-- where the halves of the words are compared
pub settled-compared : (passes : List Pass) (words : List ℕ) → first_without passes ≡ None → length words ≡ 18 → ((word : ℕ) → word < 18 → slice_index words word ≡ column word (rows_of passes))
    → settled passes ≡ (if bytes_eq (take 9 words) (drop 9 words) then Balanced else Unbalanced (total (λ part. part.added) (parts_of passes)) (total (λ part. part.evicted) (parts_of passes)))
settled-compared passes words is count sums =
    let parts = parts_of passes in
    let rows = rows_are passes is in
    let halves = halves-are words parts count (λ word within. sums word within ∙ ap (column word) rows) in
    ap (λ m. verdict_by m (total (λ part. part.added) parts) (total (λ part. part.evicted) parts)) is
    ∙ ap (λ (b : Bool). if b then Balanced else Unbalanced (total (λ part. part.added) parts) (total (λ part. part.evicted) parts)) (sym halves)
