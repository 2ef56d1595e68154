use Rattle.std.proofs.Common.{◌≡◌, ℕ, ◌≤◌, Some, length, slice_index, arith, sym, ◌∙◌, ap, inl, inr}
use Rattle.std.proofs.lemmas.List.{get_or_read}
use Rattle.free_numbers.specs.Free.{lowest_free}
use Rattle.free_numbers.proofs.TreeLemmas.{length-free, root_is_lowest, none_is_free}
use Rattle.free_numbers.proofs.numbers.FreeNumbers.lowest.Goals as goal

pub returns-then-self-eq0-clause-value : goal.returns-then-self-eq0-clause-value
returns-then-self-eq0-clause-value c =
    sym (none_is_free c.self.inside.bound c.self.inside.least.items c.self.invariant (inl c.if-self-eq0.true)) ∙ ap lowest_free c.self.view_is

pub returns-then-number-self-clause-value : goal.returns-then-number-self-clause-value
returns-then-number-self-clause-value c =
    let some : 1 ≤ c.self.inside.bound = omega (arith, c.if-self-eq0.false) in
    let read : c.index-number.result.now ≡ slice_index c.self.inside.least.items 1 = get_or_read c.self.inside.least.items 1 c.index-number.result.now (omega (arith, some, c.self.invariant.len)) c.index-number.ensures 0 in
    ap (λ (n : ℕ). Some n) read
    ∙ (sym (root_is_lowest c.self.inside.bound c.self.inside.least.items c.self.invariant some (omega (arith, read, c.if-number-self.true))) ∙ ap lowest_free c.self.view_is)

pub returns-then-number-self-clause-within : goal.returns-then-number-self-clause-within
returns-then-number-self-clause-within c =
    omega (arith, c.if-number-self.true, ap length c.self.view_is, length-free c.self.inside.bound c.self.inside.least.items c.self.invariant)

pub returns-else-number-self-clause-value : goal.returns-else-number-self-clause-value
returns-else-number-self-clause-value c =
    let read : c.index-number.result.now ≡ slice_index c.self.inside.least.items 1 = get_or_read c.self.inside.least.items 1 c.index-number.result.now (omega (arith, c.if-self-eq0.false, c.self.invariant.len)) c.index-number.ensures 0 in
    sym (none_is_free c.self.inside.bound c.self.inside.least.items c.self.invariant (inr (omega (arith, read, c.if-number-self.false)))) ∙ ap lowest_free c.self.view_is
