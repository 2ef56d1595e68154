-- The marks of an index once one came in or went out.
use Rattle.std.proofs.Common.{◌≡◌, ◌≢◌, ℕ, ◌+◌, ◌-◌, ◌<◌, ◌≤◌, ◌⊎◌, inl, inr, sym, ◌∙◌, ap, arith}
use Rattle.std.proofs.lemmas.Bool.{cases_lt, cases_order}
use Rattle.path_index.specs.declared.index.Index.{Index}
use Rattle.path_index.specs.declared.index.Mark.{Mark}
use Rattle.path_index.specs.Order.{order_of}
use Rattle.path_index.specs.Index.{mark_at, count_of, Rises, IsGapFor}
use Rattle.slot_rewriting.specs.Indexed.{HasMark}

-- a mark came in at a rank
pub record CameIn (index next : Index) (rank : ℕ) (mark : Mark) : Type 0 where
  pub gap : IsGapFor mark.path index rank
  pub count : count_of next ≡ count_of index + 1
  pub before : (i : ℕ) → i < rank → mark_at next i ≡ mark_at index i
  pub here : mark_at next rank ≡ mark
  pub behind : (i : ℕ) → rank ≤ i → i < count_of index → mark_at next (i + 1) ≡ mark_at index i

-- the mark of a rank went out
pub record WentOut (index next : Index) (rank : ℕ) : Type 0 where
  pub within : rank < count_of index
  pub count : count_of next + 1 ≡ count_of index
  pub before : (i : ℕ) → i < rank → mark_at next i ≡ mark_at index i
  pub behind : (i : ℕ) → rank ≤ i → i < count_of next → mark_at next i ≡ mark_at index (i + 1)

-- the orders of one mark's path are one
level : (m n : Mark) → m ≡ n → order_of m.path ≡ order_of n.path
level m n same = ap (λ (x : Mark). order_of x.path) same

-- two marks of one path are one mark
pub one_mark : (index : Index) (m n : Mark) → Rises index → HasMark index m → HasMark index n → m.path ≡ n.path → m ≡ n
one_mark index m n rises has had same = elim (cases_order has.0 had.0) [
  | inl one ↦ sym has.2 ∙ (ap (mark_at index) one ∙ had.2)
  | inr (inl low) ↦ absurd (omega (arith, rises has.0 had.0 low had.1, level _ _ has.2, level _ _ had.2, ap order_of same))
  | inr (inr high) ↦ absurd (omega (arith, rises had.0 has.0 high has.1, level _ _ has.2, level _ _ had.2, ap order_of same))
]

-- ---- a mark that came in

-- of a rank behind the new one, the mark is that of the rank before
behind_it : (index next : Index) (rank : ℕ) (mark : Mark) → CameIn index next rank mark → (i : ℕ) → rank < i → i < count_of next → mark_at next i ≡ mark_at index (i - 1)
behind_it index next rank mark came i high short = ap (mark_at next) (omega (arith, high)) ∙ came.behind (i - 1) (omega (arith, high)) (omega (arith, high, short, came.count))

pub rises_in : (index next : Index) (rank : ℕ) (mark : Mark) → CameIn index next rank mark → Rises index → Rises next
rises_in index next rank mark came rises i j less short = elim (cases_order j rank) [
  | inl one ↦ omega (arith, level _ _ (came.before i (omega (arith, less, one))), level _ _ (ap (mark_at next) one ∙ came.here), came.gap.before i (omega (arith, less, one)))
  | inr (inl low) ↦ omega (arith, level _ _ (came.before i (omega (arith, less, low))), level _ _ (came.before j low), rises i j less (omega (arith, low, came.gap.within)))
  | inr (inr high) ↦ elim (cases_order i rank) [
    | inl one ↦ omega (arith, level _ _ (ap (mark_at next) one ∙ came.here), level _ _ (behind_it index next rank mark came j high short), came.gap.behind (j - 1) (omega (arith, high)) (omega (arith, high, short, came.count)))
    | inr (inl low) ↦ omega (arith, level _ _ (came.before i low), level _ _ (behind_it index next rank mark came j high short), rises i (j - 1) (omega (arith, high, low)) (omega (arith, high, short, came.count)))
    | inr (inr after) ↦ omega (arith, level _ _ (behind_it index next rank mark came i after (omega (arith, less, short))), level _ _ (behind_it index next rank mark came j high short), rises (i - 1) (j - 1) (omega (arith, after, less)) (omega (arith, high, short, came.count)))
  ]
]

pub has_new : (index next : Index) (rank : ℕ) (mark : Mark) → CameIn index next rank mark → HasMark next mark
has_new index next rank mark came = (rank, omega (arith, came.gap.within, came.count), came.here)

pub has_still : (index next : Index) (rank : ℕ) (mark m : Mark) → CameIn index next rank mark → HasMark index m → HasMark next m
has_still index next rank mark m came has = elim (cases_lt has.0 rank) [
  | inl low ↦ (has.0, omega (arith, has.1, came.count), came.before has.0 low ∙ has.2)
  | inr high ↦ (has.0 + 1, omega (arith, has.1, came.count), came.behind has.0 high has.1 ∙ has.2)
]

pub had_or_new : (index next : Index) (rank : ℕ) (mark m : Mark) → CameIn index next rank mark → HasMark next m → (m ≡ mark) ⊎ HasMark index m
had_or_new index next rank mark m came has = elim (cases_order has.0 rank) [
  | inl one ↦ inl (sym has.2 ∙ (ap (mark_at next) one ∙ came.here))
  | inr (inl low) ↦ inr (has.0, omega (arith, low, came.gap.within), sym (came.before has.0 low) ∙ has.2)
  | inr (inr high) ↦ inr (has.0 - 1, omega (arith, high, has.1, came.count), sym (behind_it index next rank mark came has.0 high has.1) ∙ has.2)
]

-- ---- a mark that went out

pub rises_out : (index next : Index) (rank : ℕ) → WentOut index next rank → Rises index → Rises next
rises_out index next rank went rises i j less short = elim (cases_lt j rank) [
  | inl low ↦ omega (arith, level _ _ (went.before i (omega (arith, less, low))), level _ _ (went.before j low), rises i j less (omega (arith, low, went.within)))
  | inr high ↦ elim (cases_lt i rank) [
    | inl before ↦ omega (arith, level _ _ (went.before i before), level _ _ (went.behind j high short), rises i (j + 1) (omega (arith, less)) (omega (arith, short, went.count)))
    | inr after ↦ omega (arith, level _ _ (went.behind i after (omega (arith, less, short))), level _ _ (went.behind j high short), rises (i + 1) (j + 1) (omega (arith, less)) (omega (arith, short, went.count)))
  ]
]

-- what is there still was there, and is of another path
pub had_other : (index next : Index) (rank : ℕ) (m : Mark) → WentOut index next rank → Rises index → HasMark next m → HasMark index m × (m.path ≢ (mark_at index rank).path)
had_other index next rank m went rises has = elim (cases_lt has.0 rank) [
  | inl low ↦
      let was : mark_at index has.0 ≡ m = sym (went.before has.0 low) ∙ has.2 in
      ((has.0, omega (arith, low, went.within), was), λ same. omega (arith, rises has.0 rank low went.within, level _ _ was, ap order_of same))
  | inr high ↦
      let was : mark_at index (has.0 + 1) ≡ m = sym (went.behind has.0 high has.1) ∙ has.2 in
      ((has.0 + 1, omega (arith, has.1, went.count), was), λ same. omega (arith, rises rank (has.0 + 1) (omega (arith, high)) (omega (arith, has.1, went.count)), level _ _ was, ap order_of same))
]

-- what is of another path is there still
pub has_other : (index next : Index) (rank : ℕ) (m : Mark) → WentOut index next rank → HasMark index m → m.path ≢ (mark_at index rank).path → HasMark next m
has_other index next rank m went has apart = elim (cases_order has.0 rank) [
  | inl one ↦ absurd (apart (ap (λ (x : Mark). x.path) (sym has.2 ∙ ap (mark_at index) one)))
  | inr (inl low) ↦ (has.0, omega (arith, low, went.within, went.count), went.before has.0 low ∙ has.2)
  | inr (inr high) ↦
      (has.0 - 1, omega (arith, high, has.1, went.count), went.behind (has.0 - 1) (omega (arith, high)) (omega (arith, high, has.1, went.count)) ∙ (ap (mark_at index) (omega (arith, high)) ∙ has.2))
]
