-- The contents that a place has had: each has one pending element, and that of the last is no lower.
use Rattle.std.proofs.Common.{◌≡◌, ℕ, ◌<◌, List, [], ◌∷◌, sym, ◌∙◌, ap, subst, inl, inr, arith}
use Rattle.std.specs.List.{AllByRecursion}
use Rattle.lamport_clocks.specs.declared.stamp.Stamp.{Stamp}
use Rattle.record_text.specs.declared.element.Element.{Element}
use Rattle.host_core.specs.Host.{Host}
use Rattle.host_order.specs.Serving.{Serving, IsPlaceChain, content_behind, IsHad}
use Rattle.host_order.specs.Steady.{IsUpFrom}
use Rattle.host_order.proofs.TurnLemmas.{IsOf}

module _ {C R : Type 0} (host : Host C R) (epoch : ℕ) where
  -- the content has one pending element, with this stamp
  abbrev pub Waits : C → Stamp → Type 0
  Waits content stamp = (element : Element) × (host.pending content ≡ element ∷ []) × (element.stamp ≡ stamp)

  -- a serving at a content goes above its element
  above_element : (content : C) (stamp : Stamp) (serving : Serving C R) → Waits content stamp → stamp.epoch ≡ epoch
      → serving.before ≡ content → IsOf host epoch serving → stamp.counter < serving.done.clock.at.counter
  above_element content stamp serving waits is before of =
      let there : host.pending serving.before ≡ waits.0 ∷ [] = ap host.pending before ∙ waits.1 in
      let all = of.moves.above
      (subst (AllByRecursion (λ element. element.stamp.epoch ≡ serving.clock.at.epoch)) (sym there)
      (ap (λ (s : Stamp). s.epoch) waits.2 ∙ is ∙ sym of.of_epoch, tt)) in
      let less = subst (AllByRecursion (λ element. element.stamp.counter < serving.done.clock.at.counter)) there all in
      subst (λ (s : Stamp). s.counter < serving.done.clock.at.counter) waits.2 less.0

  up_to-last : (content : C) (stamp : Stamp) (servings : List (Serving C R)) → Waits content stamp → stamp.epoch ≡ epoch
      → IsPlaceChain content servings → AllByRecursion (IsOf host epoch) servings → IsUpFrom host epoch content (content_behind content servings)
  up_to-last content stamp [] waits is chain each =
      let own : waits.0.stamp.epoch ≡ epoch = ap (λ (s : Stamp). s.epoch) waits.2 ∙ is in
      record { was = waits.0; now = waits.0; was_there = waits.1; now_there = waits.1; was_of = own; now_of = own; rises = omega arith }
  up_to-last content stamp (serving ∷ servings) waits is chain each =
      let moved = each.0.moves in
      let own : serving.done.clock.at.epoch ≡ epoch = moved.epoch ∙ each.0.of_epoch in
      let further = up_to-last serving.done.after serving.done.clock.at servings moved.new own chain.1 each.1 in
      record {
        was = waits.0;
        now = further.now;
        was_there = waits.1;
        now_there = further.now_there;
        was_of = ap (λ (s : Stamp). s.epoch) waits.2 ∙ is;
        now_of = further.now_of;
        rises = omega (
          arith,
          above_element content stamp serving waits is chain.0 each.0,
          ap (λ (s : Stamp). s.counter) waits.2,
          further.rises,
          ap (λ (s : Stamp). s.counter) moved.new.2,
          one_element moved.new.0 further.was (sym moved.new.1 ∙ further.was_there),
        );
      }
    where
      one_element : (a b : Element) → a ∷ [] ≡ b ∷ [] → a.stamp.counter ≡ b.stamp.counter
      one_element a b same = ap (λ (zs : List Element). first zs) same
        where
          first : List Element → ℕ
          first [] = 0
          first (z ∷ zs) = z.stamp.counter

  -- A content that the place has had is up to its last.
  pub had-up_to : (content : C) (stamp : Stamp) (servings : List (Serving C R)) (noted : C) → Waits content stamp → stamp.epoch ≡ epoch
      → IsPlaceChain content servings → AllByRecursion (IsOf host epoch) servings → IsHad content servings noted
      → IsUpFrom host epoch noted (content_behind content servings)
  had-up_to content stamp [] noted waits is chain each had =
      subst (λ (c : C). IsUpFrom host epoch c content) (sym had) (up_to-last content stamp [] waits is tt tt)
  had-up_to content stamp (serving ∷ servings) noted waits is chain each (inl had) =
      subst (λ (c : C). IsUpFrom host epoch c (content_behind serving.done.after servings)) (sym had)
      (up_to-last content stamp (serving ∷ servings) waits is chain each)
  had-up_to content stamp (serving ∷ servings) noted waits is chain each (inr had) =
      had-up_to serving.done.after serving.done.clock.at servings noted each.0.moves.new (each.0.moves.epoch ∙ each.0.of_epoch) chain.1 each.1 had
