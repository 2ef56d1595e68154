use Rattle.std.proofs.Common.{◌≡◌, ◌≢◌, ℕ, zero, suc, ◌+◌, ◌<◌, false, Bool, List, [], ◌∷◌, ◌++◌, length, get_or, take, get_or-set_other, get_or-set_same, ap, sym, ◌∙◌, arith, rules}
use Rattle.std.proofs.lemmas.List.{take_more}
use mathlib.Core.Logic.{dite}
use mathlib.Core.Option.{some, some-injective, some-ne-none}
use native.Mathlib.Decide.{ℕ_discrete}
use lib.ListN.{get_elem?}
use Rattle.core.specs.Mem.Slots.{slots_items, slots_filled, slots_len, slots_counts}
use Rattle.host_shard.specs.declared.content.Content.{Content}
use Rattle.host_epochs.proofs.closing.hand_out.Goals as goal

got : (xs : List Content) (i : ℕ) (x : Content) → get_elem? xs i ≡ some x → get_or xs i x ≡ x
got [] i x is = absurd (some-ne-none x (sym is))
got (y ∷ ys) zero x is = some-injective y x is
got (y ∷ ys) (suc i) x is = got ys i x is

pub loop-place-preserved : goal.loop-place-preserved
loop-place-preserved c =
    let at : ℕ = c.loop-place.place in
    let fs : List Bool = slots_filled c.loop-place.closed.slots in
    let kept = c.loop-place.invariant in
    let others = c.take.ensures.others in
    let before = slots_items c.args.closed.slots in
    let counts = slots_counts c.loop-place.closed.slots in
    let counts' = slots_counts c.args.closed.slots in
    let inside : at < slots_len c.loop-place.closed.slots = search rules in
    record {
      filled = λ k from below. ap (λ l. get_or l k false) others.1 ∙ (get_or-set_other fs at k false false (λ e. absurd (omega arith))
          ∙ kept.filled k (omega arith) (omega (arith, below, others.2)));
      emptied = λ k below. ap (λ l. get_or l k false) others.1 ∙ dite (ℕ_discrete k at)
          (λ e. ap (λ n. get_or (Rattle.std.proofs.Common.set fs at false) n false) e ∙ get_or-set_same fs at false false (omega (arith, inside, counts.1)))
          (λ other. get_or-set_other fs at k false false other ∙ kept.emptied k (omega arith));
      items = others.0 ∙ kept.items;
      count = others.2 ∙ kept.count;
      end = kept.end;
      room = search rules;
      taken = c.in-Ok.ensures.items ∙ (ap (λ xs. xs ++ c.take.result ∷ []) kept.taken
          ∙ (ap (λ x. take at before ++ x ∷ []) (sym (got before at c.take.result (ap (λ xs. get_elem? xs at) (sym kept.items) ∙ c.take.ensures.value)))
          ∙ sym (take_more before at c.take.result (omega (arith, inside, kept.count, counts'.0)))));
    }
