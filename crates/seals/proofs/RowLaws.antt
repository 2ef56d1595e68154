-- Lists as they are read item by item.
use Rattle.std.proofs.Common.{◌≡◌, ℕ, suc, ◌+◌, ◌-◌, ◌<◌, ◌≤◌, Bool, true, false, cond, List, [], ◌∷◌, ◌++◌, length, Option, Some, None, Result, Ok, Err, refl, sym, ap, subst, ◌∙◌, append_assoc, append-nil, length-append, arith}
use Rattle.std.specs.Prelude.{slice_get}
use Rattle.record_text.specs.declared.reader.TextFault.{TextFault}
use Rattle.record_text.specs.declared.reader.TextFault.TheVariants.{Malformed}
use Rattle.record_text.specs.Fields.{Parsed, ◌>>=◌, ranged}
use Rattle.seals.specs.declared.fault.Fault.{Fault}
use Rattle.seals.specs.declared.fault.Fault.TheVariants.{Text, Memory}
use Rattle.seals.specs.Answer.{Reads}
use Rattle.seals.specs.Combined.{row_at, counted_at}

-- items that were read, with those that are read behind them
abbrev pub behind : {A : Type 0} → List A → Parsed (List A) → Parsed (List A)
behind items parsed = parsed >>= λ more. Ok (items ++ more.0, more.1)

-- the item that was read last
abbrev pub last_of : {A : Type 0} → List A → Option A
last_of items = slice_get items (length items - 1)

pushed-at : {A : Type 0} (xs : List A) (x : A) → slice_get (xs ++ x ∷ []) (length xs) ≡ Some x
pushed-at [] x = refl
pushed-at (y ∷ xs) x = pushed-at xs x

last_of-push : {A : Type 0} (xs : List A) (x : A) → last_of (xs ++ x ∷ []) ≡ Some x
last_of-push xs x =
    let place : length (xs ++ x ∷ []) - 1 ≡ length xs = omega (arith, length-append xs (x ∷ [])) in
    ap (λ (n : ℕ). slice_get (xs ++ x ∷ []) n) place ∙ pushed-at xs x

-- ---- one item more of a row

row-fault : {A : Type 0} (follows : Option A → A → Bool) (read : List ℕ → Parsed A) (before : Option A) (count : ℕ) (bytes : List ℕ) (fault : TextFault) → read bytes ≡ Err fault → row_at follows read before (suc count) bytes ≡ Err fault
unfolding row_at
row-fault {A} follows read before count bytes fault is =
    ap (λ (r : Parsed A). (r >>= λ a. ranged (cond (follows before a.0) (Some a.0) None) a.1) >>= λ a. row_at follows read (Some a.0) count a.1 >>= λ more. Ok (a.0 ∷ more.0, more.1)) is

row-stop : {A : Type 0} (follows : Option A → A → Bool) (read : List ℕ → Parsed A) (before : Option A) (count : ℕ) (bytes : List ℕ) (x : A) (rest : List ℕ) → read bytes ≡ Ok (x, rest) → follows before x ≡ false → row_at follows read before (suc count) bytes ≡ Err Malformed
unfolding row_at
row-stop {A} follows read before count bytes x rest is fails =
    ap (λ (r : Parsed A). (r >>= λ a. ranged (cond (follows before a.0) (Some a.0) None) a.1) >>= λ a. row_at follows read (Some a.0) count a.1 >>= λ more. Ok (a.0 ∷ more.0, more.1)) is
    ∙ ap (λ (b : Bool). ranged (cond b (Some x) None) rest >>= λ a. row_at follows read (Some a.0) count a.1 >>= λ more. Ok (a.0 ∷ more.0, more.1)) fails

row-next : {A : Type 0} (follows : Option A → A → Bool) (read : List ℕ → Parsed A) (before : Option A) (count : ℕ) (bytes : List ℕ) (x : A) (rest : List ℕ) → read bytes ≡ Ok (x, rest) → follows before x ≡ true
    → row_at follows read before (suc count) bytes ≡ (row_at follows read (Some x) count rest >>= λ more. Ok (x ∷ more.0, more.1))
unfolding row_at
row-next {A} follows read before count bytes x rest is passes =
    ap (λ (r : Parsed A). (r >>= λ a. ranged (cond (follows before a.0) (Some a.0) None) a.1) >>= λ a. row_at follows read (Some a.0) count a.1 >>= λ more. Ok (a.0 ∷ more.0, more.1)) is
    ∙ ap (λ (b : Bool). ranged (cond b (Some x) None) rest >>= λ a. row_at follows read (Some a.0) count a.1 >>= λ more. Ok (a.0 ∷ more.0, more.1)) passes

pub behind-next : {A : Type 0} (items : List A) (x : A) (parsed : Parsed (List A)) → behind items (parsed >>= λ more. Ok (x ∷ more.0, more.1)) ≡ behind (items ++ x ∷ []) parsed
behind-next items x (Ok found) = ap (λ (xs : List _). Ok (xs, found.1)) (sym (append_assoc items (x ∷ []) found.0))
behind-next items x (Err fault) = refl

-- ---- the row so far

-- what the row is read as, where these items of it were read and these bytes are left
pub record IsSoFar {A : Type 0} (follows : Option A → A → Bool) (read : List ℕ → Parsed A) (count : ℕ) (start : List ℕ) (items : List A) (place : ℕ) (left : List ℕ) : Type 0 where
  pub row : row_at follows read None count start ≡ behind items (row_at follows read (last_of items) (count - place) left)

nothing_behind : {A : Type 0} (parsed : Parsed (List A)) → parsed ≡ behind [] parsed
nothing_behind (Ok found) = refl
nothing_behind (Err fault) = refl

pub so_far-start : {A : Type 0} (follows : Option A → A → Bool) (read : List ℕ → Parsed A) (count : ℕ) (start : List ℕ) (items : List A) → items ≡ [] → IsSoFar follows read count start items 0 start
so_far-start {A} follows read count start items none =
    let empty : List A = [] in
    let whole : count ≡ count - 0 = omega arith in
    subst (λ (xs : List A). IsSoFar follows read count start xs 0 start) {x = empty} (sym none)
    (record { row = nothing_behind (row_at follows read None count start) ∙ ap (λ (n : ℕ). behind empty (row_at follows read None n start)) whole })

pub so_far-fault : {A : Type 0} (follows : Option A → A → Bool) (read : List ℕ → Parsed A) (count : ℕ) (start : List ℕ) (items : List A) (place : ℕ) (left : List ℕ) (fault : TextFault)
    → IsSoFar follows read count start items place left → place < count → read left ≡ Err fault → row_at follows read None count start ≡ Err fault
so_far-fault follows read count start items place left fault so_far within is =
    let more : count - place ≡ suc (count - (place + 1)) = omega arith in
    so_far.row ∙ (ap (λ (n : ℕ). behind items (row_at follows read (last_of items) n left)) more
    ∙ ap (behind items) (row-fault follows read (last_of items) (count - (place + 1)) left fault is))

pub so_far-stop : {A : Type 0} (follows : Option A → A → Bool) (read : List ℕ → Parsed A) (count : ℕ) (start : List ℕ) (items : List A) (place : ℕ) (left : List ℕ) (x : A) (rest : List ℕ)
    → IsSoFar follows read count start items place left → place < count → read left ≡ Ok (x, rest) → follows (last_of items) x ≡ false → row_at follows read None count start ≡ Err Malformed
so_far-stop follows read count start items place left x rest so_far within is fails =
    let more : count - place ≡ suc (count - (place + 1)) = omega arith in
    so_far.row ∙ (ap (λ (n : ℕ). behind items (row_at follows read (last_of items) n left)) more
    ∙ ap (behind items) (row-stop follows read (last_of items) (count - (place + 1)) left x rest is fails))

pub so_far-next : {A : Type 0} (follows : Option A → A → Bool) (read : List ℕ → Parsed A) (count : ℕ) (start : List ℕ) (items : List A) (place : ℕ) (left : List ℕ) (x : A) (rest : List ℕ) (all : List A)
    → IsSoFar follows read count start items place left → place < count → read left ≡ Ok (x, rest) → follows (last_of items) x ≡ true → all ≡ items ++ x ∷ [] → IsSoFar follows read count start all (place + 1) rest
so_far-next {A} follows read count start items place left x rest all so_far within is passes grown =
    let more : count - place ≡ suc (count - (place + 1)) = omega arith in
    let further : IsSoFar follows read count start (items ++ x ∷ []) (place + 1) rest = record {
      row = so_far.row ∙ (ap (λ (n : ℕ). behind items (row_at follows read (last_of items) n left)) more
          ∙ (ap (behind items) (row-next follows read (last_of items) (count - (place + 1)) left x rest is passes)
          ∙ (behind-next items x (row_at follows read (Some x) (count - (place + 1)) rest)
          ∙ ap (λ (o : Option A). behind (items ++ x ∷ []) (row_at follows read o (count - (place + 1)) rest)) (sym (last_of-push items x)))));
    } in
    subst (λ (xs : List A). IsSoFar follows read count start xs (place + 1) rest) (sym grown) further

none_left : {A : Type 0} (follows : Option A → A → Bool) (read : List ℕ → Parsed A) (before : Option A) (left : List ℕ) → row_at follows read before 0 left ≡ Ok ([], left)
unfolding row_at
none_left follows read before left = refl

pub so_far-end : {A : Type 0} (follows : Option A → A → Bool) (read : List ℕ → Parsed A) (count : ℕ) (start : List ℕ) (items : List A) (place : ℕ) (left : List ℕ)
    → IsSoFar follows read count start items place left → count ≤ place → row_at follows read None count start ≡ Ok (items, left)
so_far-end {A} follows read count start items place left so_far all =
    let over : count - place ≡ 0 = omega arith in
    so_far.row ∙ (ap (λ (n : ℕ). behind items (row_at follows read (last_of items) n left)) over
    ∙ (ap (behind items) (none_left follows read (last_of items) left) ∙ ap (λ (xs : List A). Ok (xs, left)) (append-nil items)))

-- ---- a row behind its count

-- what a row is read as behind its count
abbrev row_behind : {A : Type 0} → ℕ → Parsed (List A) → Parsed (List A)
row_behind {A} count row = (row >>= λ b. let both : Parsed (ℕ × List A) = Ok ((count, b.0), b.1) in both) >>= λ a. ranged (Some a.0.1) a.1

counted-is : {A : Type 0} (number : List ℕ → Parsed ℕ) (test : ℕ → Bool) (follows : Option A → A → Bool) (read : List ℕ → Parsed A) (bytes left : List ℕ) (count : ℕ) → number bytes ≡ Ok (count, left) → test count ≡ true
    → counted_at number test follows read bytes ≡ row_behind count (row_at follows read None count left)
counted-is {A} number test follows read bytes left count is passes =
    let all : Parsed ℕ → Parsed (List A) = λ r. (r >>= λ a. row_at follows read None a.0 a.1 >>= λ b. let both : Parsed (ℕ × List A) = Ok ((a.0, b.0), b.1) in both) >>= λ a. ranged (Some a.0.1) a.1 in
    ap (λ (r : Parsed ℕ). all (r >>= λ a. ranged (cond (test a.0) (Some a.0) None) a.1)) is ∙ ap (λ (t : Bool). all (ranged (cond t (Some count) None) left)) passes

-- a count that passes its test, and the row that is read behind it
pub counted_read : {A V : Type 0} (items : V → List A) (number : List ℕ → Parsed ℕ) (test : ℕ → Bool) (follows : Option A → A → Bool) (read : List ℕ → Parsed A) (bytes left rest : List ℕ) (count : ℕ) (result : Result V Fault)
    → number bytes ≡ Ok (count, left) → test count ≡ true → Reads items result rest (row_at follows read None count left) → Reads items result rest (counted_at number test follows read bytes)
counted_read {A} items number test follows read bytes left rest count (Ok made) is passes row =
    counted-is number test follows read bytes left count is passes ∙ ap (row_behind count) row
counted_read {A} items number test follows read bytes left rest count (Err (Text fault)) is passes row =
    counted-is number test follows read bytes left count is passes ∙ ap (row_behind count) row
counted_read items number test follows read bytes left rest count (Err Memory) is passes row = tt
