-- Two evicts of different verifiers are different evicts.
use Rattle.std.proofs.Common.{◌≡◌, [], ◌∷◌, ◌++◌, sym, ◌∙◌, ap, subst, arith}
use Rattle.std.specs.List.{IsDistinct}
use Rattle.record_text.specs.declared.element.Element.{Element}
use Rattle.collision_exhibit.specs.declared.audit_event.AuditChange.{AuditChange}
use Rattle.collision_exhibit.specs.declared.audit_event.AuditChange.TheVariants as audits
use Rattle.collision_exhibit.specs.Shown.{evicted_element}
use Rattle.collision_exhibit.specs.Elements.{HaveOwnStamps}
use Rattle.collision_exhibit.proofs.OwnStampLemmas.{verifiers_apart}
use Rattle.collision_exhibit.proofs.elements_tests.uneven_of.Goals as goal

two_apart : (a b : Element) → a.verifier ≡ 0 → b.verifier ≡ 1 → HaveOwnStamps (a ∷ b ∷ [])
unfolding IsDistinct
two_apart a b first second = ((verifiers_apart a b 0 first (omega (arith, second)), tt), (tt, tt))

went : (d e f g : AuditChange) (a b x y : Element) → d ≡ audits.EvictB a → e ≡ audits.AddB x → f ≡ audits.EvictB b → g ≡ audits.AddB y
    → evicted_element d ++ (evicted_element e ++ (evicted_element f ++ (evicted_element g ++ []))) ≡ a ∷ b ∷ []
went d e f g a b x y one two three four =
    ap (λ (z : AuditChange). evicted_element z ++ (evicted_element e ++ (evicted_element f ++ (evicted_element g ++ [])))) one
    ∙ ap (λ (z : AuditChange). a ∷ (evicted_element z ++ (evicted_element f ++ (evicted_element g ++ [])))) two
    ∙ ap (λ (z : AuditChange). a ∷ (evicted_element z ++ (evicted_element g ++ []))) three
    ∙ ap (λ (z : AuditChange). a ∷ b ∷ (evicted_element z ++ [])) four

pub first_uneven-requires : goal.first_uneven-requires
first_uneven-requires c = record {
  own_stamps =
      subst HaveOwnStamps
      (sym (went _ _ _ _ _ _ _ _ c.item.ensures.change c.item-2.ensures.change c.item-3.ensures.change c.item-4.ensures.change))
      (two_apart _ _ c.element.ensures.verifier c.element-3.ensures.verifier);
}
