use Rattle.std.proofs.Common.{◌≡◌, ℕ, ◌<◌, inl, inr, ap, arith}
use Rattle.std.proofs.lemmas.Bool.{cases_order}
use Rattle.path_index.specs.declared.index.Mark.{Mark}
use Rattle.path_index.specs.Order.{order_of}
use Rattle.path_index.specs.Index.{mark_at}
use Rattle.path_index.proofs.searching.is_below.Goals as goal

pub returns : goal.returns
returns c = record {
  behind = λ is i from less.
      let seen : order_of c.mark.result.now.path ≡ order_of (mark_at c.args.index.now c.args.rank).path = ap (λ (m : Mark). order_of m.path) c.mark.ensures.value in
      let there : order_of c.args.k.now < order_of c.mark.result.now.path = c.is_before.ensures.order is in
      elim (cases_order i c.args.rank) [
        | inl one ↦ omega (arith, seen, there, ap (λ (n : ℕ). order_of (mark_at c.args.index.now n).path) one)
        | inr (inl low) ↦ absurd (omega (arith, low, from))
        | inr (inr high) ↦ omega (arith, seen, there, c.requires.rises c.args.rank i high less)
      ];
}
