use Rattle.std.proofs.Common.{◌≡◌, ℕ, ◌-◌, ◌<◌, inl, inr, ap, arith}
use Rattle.std.proofs.lemmas.Bool.{cases_order}
use Rattle.path_index.specs.declared.index.Mark.{Mark}
use Rattle.path_index.specs.Order.{order_of}
use Rattle.path_index.specs.Index.{mark_at}
use Rattle.path_index.proofs.searching.is_above.Goals as goal

pub returns : goal.returns
returns c = record {
  before = λ is i less.
      let last : ℕ = c.args.rank - 1 in
      let seen : order_of c.mark.result.now.path ≡ order_of (mark_at c.args.index.now last).path = ap (λ (m : Mark). order_of m.path) c.mark.ensures.value in
      let there : order_of c.mark.result.now.path < order_of c.args.k.now = c.is_before.ensures.order is in
      elim (cases_order i last) [
        | inl one ↦ omega (arith, seen, there, ap (λ (n : ℕ). order_of (mark_at c.args.index.now n).path) one)
        | inr (inl low) ↦ omega (arith, seen, there, c.requires.rises i last low (omega (arith, c.requires.within, less)))
        | inr (inr high) ↦ absurd (omega (arith, high, less))
      ];
}
