use Rattle.std.proofs.Common.{◌∙◌, ℕ, ◌+◌, ◌<◌, ◌^◌, All, length, sym, ap, subst, arith}
use Rattle.std.specs.List.{IsDistinct}
use Rattle.std.proofs.lemmas.List.Elements.{All-push, All-weaker}
use Rattle.multiset_sum.specs.declared.part.Part.{Part}
use Rattle.epoch_gather.specs.Parts.{is_same_part}
use Rattle.thread_tests.proofs.PartLemmas.{none_distinct, distinct_push}
use Rattle.thread_tests.proofs.books.Case.parts.Goals.{then-is_there+in_ok-push, else-is_there}
use Rattle.thread_tests.proofs.books.Case.parts.Goals as goal

abbrev Below : ℕ → Part → Type 0
Below n part = part.verifier < n

abbrev Small : Part → Type 0
Small part = (part.added.count < 2 ^ 25) × (part.evicted.count < 2 ^ 25)

one_further : (n : ℕ) (part : Part) → part.verifier < n → part.verifier < n + 1
one_further n part below = omega arith

pub loop-verifier-init : goal.loop-verifier-init
loop-verifier-init c =
    let empty = ap length c.new-parts.ensures.items in record {
      numbers = λ k d within. absurd (omega arith);
      once = subst (IsDistinct is_same_part) (sym c.new-parts.ensures.items) none_distinct;
      counts = λ k d within. absurd (omega arith);
    }

pub loop-verifier-preserved : goal.loop-verifier-preserved
loop-verifier-preserved c =
    let kept = c.loop-verifier.invariant in
    let further = All-weaker (Below c.loop-verifier.verifier) (Below (c.loop-verifier.verifier + 1)) (one_further c.loop-verifier.verifier) c.loop-verifier.parts.items kept.numbers in
    elim c.if-is_there.branch [
      | then-is_there+in_ok-push w ↦
          (let part = w.part.result in
          let items = sym (ap (λ v. v.items) w.parts-is ∙ w.in_ok-push.ensures.items) in
          let below : All (Below part.verifier) c.loop-verifier.parts.items = subst (λ (n : ℕ). All (Below n) c.loop-verifier.parts.items) (sym w.part.ensures.part.0) kept.numbers in record {
            numbers = subst (All (Below (c.loop-verifier.verifier + 1))) items (All-push (Below (c.loop-verifier.verifier + 1)) c.loop-verifier.parts.items part further (omega (arith, w.part.ensures.part.0)));
            once = subst (IsDistinct is_same_part) items (distinct_push c.loop-verifier.parts.items part below kept.once);
            counts = subst (All Small) items (All-push Small c.loop-verifier.parts.items part kept.counts w.part.ensures.counts);
          })
      | else-is_there w ↦
          (let items = sym (ap (λ v. v.items) w.parts-is) in record {
            numbers = subst (All (Below (c.loop-verifier.verifier + 1))) items further;
            once = subst (IsDistinct is_same_part) items kept.once;
            counts = subst (All Small) items kept.counts;
          })
    ]
