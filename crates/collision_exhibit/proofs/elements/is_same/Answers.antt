use Rattle.std.proofs.Common.{◌≡◌, Bool, true, false, not, ◌&&◌, refl, ◌∙◌}
use Rattle.record_text.proofs.SameTestLaws.{tells_same_value}
use Rattle.std.proofs.lemmas.Bool.{eq-eqb, true≢false, false≢true}
use Rattle.collision_exhibit.proofs.elements.is_same.Goals as goal

-- where the other parts are the same, the values decide
by_value : (p v s k : Bool) → true ≡ p → false ≡ not s → k ≡ true → v ≡ ((p && v) && (s && k))
by_value true true true true path stamp verifier = refl
by_value true false true true path stamp verifier = refl
by_value false v s k path stamp verifier = absurd (true≢false path)
by_value true v false k path stamp verifier = absurd (false≢true stamp)
by_value true v true false path stamp verifier = absurd (false≢true verifier)

pub returns : goal.returns
returns c = record {
  same =
      tells_same_value _ _ _ c.is_same-2.ensures.same
      ∙ by_value _ _ _ _ c.if-not-is_same.ensures.value c.if-ne.ensures (eq-eqb _ _ c.if-one-other.false);
}
