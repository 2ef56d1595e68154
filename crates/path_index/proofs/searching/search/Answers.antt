use Rattle.std.proofs.Common.{◌≡◌, ℕ, ◌+◌, ◌-◌, ◌*◌, ◌/◌, ◌^◌, ◌<◌, ◌≤◌, inl, inr, sym, ap, subst, arith}
use Rattle.std.proofs.lemmas.Bool.{cases_order}
use Rattle.path_index.specs.declared.index.Mark.{Mark}
use Rattle.path_index.specs.Order.{order_of}
use Rattle.path_index.specs.Index.{mark_at, count_of}
use Rattle.path_index.proofs.HalvingLemmas.{Halved, Halved-step}
use Rattle.path_index.proofs.searching.search.Goals as goal

pub halving-preserved-in-Less : goal.halving-preserved-in-Less
halving-preserved-in-Less g c =
    let middle : ℕ = c.halving.low + (c.halving.high - c.halving.low) / 2 in
    let seen : order_of c.mark.result.now.path ≡ order_of (mark_at c.args.index.now middle).path = ap (λ (m : Mark). order_of m.path) c.mark.ensures.value in
    record {
      order = omega arith;
      within = omega (arith, c.halving-test.true, c.halving.invariant.within);
      before = c.halving.invariant.before;
      behind = λ i from less. elim (cases_order i middle) [
        | inl one ↦ omega (arith, seen, c.in-Less.ensures.order, ap (λ (n : ℕ). order_of (mark_at c.args.index.now n).path) one)
        | inr (inl low) ↦ absurd (omega (arith, low, from))
        | inr (inr high) ↦ omega (arith, seen, c.in-Less.ensures.order, c.requires.rises middle i high less)
      ];
      rise = omega (arith, c.in-Less.ensures.step, c.halving.invariant.rise);
      counts = inl (omega (arith, c.in-Less.ensures.step, c.halving.invariant.rise));
      halved = subst (λ (s : ℕ). Halved (s - c.args.steps.now) (middle - c.halving.low) (count_of c.args.index.now)) (sym c.in-Less.ensures.step)
          (Halved-step c.halving.steps c.args.steps.now (c.halving.high - c.halving.low) (middle - c.halving.low) (count_of c.args.index.now) c.halving.invariant.rise c.halving.invariant.halved (omega (arith, c.halving-test.true)) (omega (arith, c.halving-test.true)));
    }

pub halving-preserved : goal.halving-preserved
halving-preserved g c =
    let middle : ℕ = c.halving.low + (c.halving.high - c.halving.low) / 2 in
    let seen : order_of c.mark.result.now.path ≡ order_of (mark_at c.args.index.now middle).path = ap (λ (m : Mark). order_of m.path) c.mark.ensures.value in
    let inside : middle < c.halving.high = omega (arith, c.halving-test.true) in
    record {
      order = omega (arith, c.halving-test.true);
      within = c.halving.invariant.within;
      before = λ i less. elim (cases_order i middle) [
        | inl one ↦ omega (arith, seen, c.in-Greater.ensures.order, ap (λ (n : ℕ). order_of (mark_at c.args.index.now n).path) one)
        | inr (inl low) ↦ omega (arith, seen, c.in-Greater.ensures.order, c.requires.rises i middle low (omega (arith, inside, c.halving.invariant.within)))
        | inr (inr high) ↦ absurd (omega (arith, high, less))
      ];
      behind = c.halving.invariant.behind;
      rise = omega (arith, c.in-Greater.ensures.step, c.halving.invariant.rise);
      counts = inl (omega (arith, c.in-Greater.ensures.step, c.halving.invariant.rise));
      halved = subst (λ (s : ℕ). Halved (s - c.args.steps.now) (c.halving.high - (middle + 1)) (count_of c.args.index.now)) (sym c.in-Greater.ensures.step)
          (Halved-step c.halving.steps c.args.steps.now (c.halving.high - c.halving.low) (c.halving.high - (middle + 1)) (count_of c.args.index.now) c.halving.invariant.rise c.halving.invariant.halved (omega (arith, c.halving-test.true)) (omega (arith, c.halving-test.true)));
    }

pub returns-in-Equal-clause-steps : goal.returns-in-Equal-clause-steps
returns-in-Equal-clause-steps g c =
    let halved : Halved (c.halving.steps + 1 - c.args.steps.now) 0 (count_of c.args.index.now) =
    Halved-step c.halving.steps c.args.steps.now (c.halving.high - c.halving.low) 0 (count_of c.args.index.now) c.halving.invariant.rise c.halving.invariant.halved (omega (arith, c.halving-test.true)) (omega arith) in
    subst (λ (s : ℕ). 2 ^ (s - c.args.steps.now) ≤ 2 * count_of c.args.index.now + 1) (sym c.in-Equal.ensures.step) halved.bound
