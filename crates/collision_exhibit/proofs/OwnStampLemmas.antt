-- No verifier evicts two elements with one stamp: the stamps of each log's evicts rise, and the logs are of different
-- verifiers.
use Rattle.std.proofs.Common.{◌≡◌, ℕ, suc, ◌<◌, ◌≤◌, ◌==◌, ◌&&◌, Bool, true, false, List, [], ◌∷◌, ◌++◌, append_assoc, sym, ◌∙◌, subst, flat_map, IsPermutation, arith}
use Rattle.merkle_records.specs.Scheme.{Scheme}
use Rattle.std.specs.List.{AllByRecursion, IsDistinct}
use Rattle.std.specs.Ordering.{is_lt}
use Rattle.std.proofs.lemmas.Bool.{false≢true, cond_both, and_parts, eqb-true}
use Rattle.std.proofs.lemmas.Bool.Decides.{nat_tests}
use Rattle.std.proofs.lemmas.Grind.{flat_map-append}
use Rattle.std.proofs.lemmas.List.Sorted.{IsPermutation-refl, IsPermutation-trans, IsPermutation-append_left, IsPermutation-append_right, IsPermutation-append_comm}
use Rattle.std.proofs.lemmas.Map.Keys.{IsDistinct-head, IsDistinct-tail, IsDistinct-cons, IsDistinct-IsPermutation}
use Rattle.lamport_clocks.specs.declared.header.Header.{Header}
use Rattle.lamport_clocks.specs.Stamp.{stamp_cmp}
use Rattle.record_text.specs.declared.element.Element.{Element}
use Rattle.log_codec.specs.declared.log_command.LogCommand.{LogCommand}
use Rattle.stamp_order.specs.InOrder.{put_in_order, in_order}
use Rattle.stamp_order.specs.Merged.{comes_before}
use Rattle.stamp_order.proofs.InOrderLaws.{every-weaker, every-append}
use Rattle.soundness.specs.History.{Event, log_events, histories_from, histories_of}
use Rattle.soundness.specs.Certified.{event_moment, evicted_by, all_events, order_of}
use Rattle.soundness.specs.Permutation.{same_stamp}
use Rattle.soundness.specs.Timed.{IsEarlier, evicted_among, IsRising}
use Rattle.soundness.proofs.RisingLaws.{log_own, log_rising}
use Rattle.collision_exhibit.specs.AuditEvent.{audit_events_in}
use Rattle.collision_exhibit.specs.Shown.{evicted_elements}
use Rattle.collision_exhibit.specs.Elements.{same_evict, HaveOwnStamps}
use Rattle.collision_exhibit.proofs.AuditEventLemmas.{went_in}
use Rattle.collision_exhibit.proofs.PartingLemmas.{never, same_evict-flips}

-- ---- one log

-- a stamp isn't before itself
earlier_apart : (x y : Element) → IsEarlier x.stamp y.stamp → same_evict x y ≡ false
earlier_apart x y earlier =
    never (same_evict x y)
    (λ same. false≢true (sym (not_before x.stamp.epoch y.stamp.epoch x.stamp.counter y.stamp.counter (and_parts (same_stamp x.stamp y.stamp) (x.verifier == y.verifier) same).0) ∙ earlier))
  where
    not_before : (e f c d : ℕ) → (e == f && c == d) ≡ true → is_lt (stamp_cmp (record { epoch = e; counter = c }) (record { epoch = f; counter = d })) ≡ false
    not_before e f c d same = grind (arith, nat_tests)

-- elements whose stamps rise are of different evicts
rising_apart : (xs : List Element) → IsRising xs → HaveOwnStamps xs
unfolding IsDistinct
rising_apart [] rising = tt
rising_apart (x ∷ xs) rising =
    IsDistinct-cons same_evict x xs
    (every-weaker (λ y. IsEarlier x.stamp y.stamp) (λ y. same_evict x y ≡ false) (λ y earlier. earlier_apart x y earlier) xs rising.0)
    (rising_apart xs rising.1)

-- ---- all logs

-- two lists of keys that are distinct, and each of the one from each of the other
distinct-append : {X : Type 0} (alike : X → X → Bool) (xs ys : List X) → IsDistinct alike xs → IsDistinct alike ys
    → AllByRecursion (λ x. AllByRecursion (λ y. alike x y ≡ false) ys) xs → IsDistinct alike (xs ++ ys)
distinct-append alike [] ys left right apart = right
distinct-append alike (x ∷ xs) ys left right apart =
    IsDistinct-cons alike x (xs ++ ys)
    (every-append (λ y. alike x y ≡ false) xs ys (IsDistinct-head alike x xs left) apart.0)
    (distinct-append alike xs ys (IsDistinct-tail alike x xs left) right apart.1)

-- elements of different verifiers are of different evicts
pub verifiers_apart : (x y : Element) (number : ℕ) → x.verifier ≡ number → number < y.verifier → same_evict x y ≡ false
verifiers_apart x y number own later =
    never (same_evict x y)
    (λ same.
    let is = eqb-true x.verifier y.verifier (and_parts (same_stamp x.stamp y.stamp) (x.verifier == y.verifier) same).1 in
    absurd (omega (arith, own, later, is)))

module _ (scheme : Scheme) (header : Header) where
  -- the elements that a log evicts
  abbrev log_evicts : ℕ → List LogCommand → List Element
  log_evicts number log = evicted_among (log_events scheme header number log)

  -- the elements that the logs evict, one log after another
  abbrev all_evicts : ℕ → List (List LogCommand) → List Element
  all_evicts number logs = evicted_among (all_events (histories_from scheme header number logs))

  split_evicts : (number : ℕ) (log : List LogCommand) (logs : List (List LogCommand))
      → all_evicts number (log ∷ logs) ≡ log_evicts number log ++ all_evicts (suc number) logs
  split_evicts number log logs =
      flat_map-append (λ (event : Event). evicted_by event.change) (log_events scheme header number log)
      (all_events (histories_from scheme header (suc number) logs))

  -- the logs from one number on evict elements of verifiers from it on
  verifiers_from : (number : ℕ) (logs : List (List LogCommand))
      → AllByRecursion (λ element. number ≤ element.verifier) (all_evicts number logs)
  verifiers_from number [] = tt
  verifiers_from number (log ∷ logs) =
      subst (AllByRecursion (λ (element : Element). number ≤ element.verifier)) (sym (split_evicts number log logs))
      (every-append (λ element. number ≤ element.verifier) (log_evicts number log) (all_evicts (suc number) logs)
      (every-weaker (λ element. element.verifier ≡ number) (λ element. number ≤ element.verifier) (λ element own. omega (arith, own))
      (log_evicts number log) (log_own scheme header number log))
      (every-weaker (λ element. suc number ≤ element.verifier) (λ element. number ≤ element.verifier) (λ element later. omega (arith, later))
      (all_evicts (suc number) logs) (verifiers_from (suc number) logs)))

  -- no verifier evicts two elements with one stamp
  all_apart : (number : ℕ) (logs : List (List LogCommand)) → HaveOwnStamps (all_evicts number logs)
  unfolding IsDistinct
  all_apart number [] = tt
  all_apart number (log ∷ logs) =
      subst HaveOwnStamps (sym (split_evicts number log logs))
      (distinct-append same_evict (log_evicts number log) (all_evicts (suc number) logs)
      (rising_apart (log_evicts number log) (log_rising scheme header number log))
      (all_apart (suc number) logs)
      (every-weaker (λ x. x.verifier ≡ number)
      (λ x. AllByRecursion (λ y. same_evict x y ≡ false) (all_evicts (suc number) logs))
      (λ x own. every-weaker (λ y. suc number ≤ y.verifier) (λ y. same_evict x y ≡ false) (λ y later. verifiers_apart x y number own later)
      (all_evicts (suc number) logs) (verifiers_from (suc number) logs))
      (log_evicts number log) (log_own scheme header number log)))

-- ---- the merged order

module _ {X Y : Type 0} (lt : X → X → Bool) (block : X → List Y) where
  -- two blocks change places
  blocks-swap : (xs ys zs : List Y) → IsPermutation (xs ++ (ys ++ zs)) (ys ++ (xs ++ zs))
  blocks-swap xs ys zs =
      subst (λ (us : List Y). IsPermutation us (ys ++ (xs ++ zs))) (append_assoc xs ys zs)
      (subst (λ (vs : List Y). IsPermutation ((xs ++ ys) ++ zs) vs) (append_assoc ys xs zs)
      (IsPermutation-append_left zs (xs ++ ys) (ys ++ xs) (IsPermutation-append_comm xs ys)))

  put-blocks : (x : X) (ys : List X) → IsPermutation (block x ++ flat_map block ys) (flat_map block (put_in_order lt x ys))
  put-blocks x [] = IsPermutation-refl (block x ++ [])
  put-blocks x (y ∷ ys) =
      cond_both (lt y x) (y ∷ put_in_order lt x ys) (x ∷ y ∷ ys)
      (λ zs. IsPermutation (block x ++ (block y ++ flat_map block ys)) (flat_map block zs))
      (λ _. IsPermutation-trans (block x ++ (block y ++ flat_map block ys)) (block y ++ (block x ++ flat_map block ys)) (block y ++ flat_map block (put_in_order lt x ys))
      (blocks-swap (block x) (block y) (flat_map block ys))
      (IsPermutation-append_right (block y) (block x ++ flat_map block ys) (flat_map block (put_in_order lt x ys)) (put-blocks x ys)))
      (λ _. IsPermutation-refl (block x ++ (block y ++ flat_map block ys)))

  -- what stands for the members, in their order, is the same, each as often
  ordered-blocks : (xs : List X) → IsPermutation (flat_map block xs) (flat_map block (in_order lt xs))
  ordered-blocks [] = IsPermutation-refl []
  ordered-blocks (x ∷ xs) =
      IsPermutation-trans (block x ++ flat_map block xs) (block x ++ flat_map block (in_order lt xs)) (flat_map block (put_in_order lt x (in_order lt xs)))
      (IsPermutation-append_right (block x) (flat_map block xs) (flat_map block (in_order lt xs)) (ordered-blocks xs))
      (put-blocks x (in_order lt xs))

-- Of all logs' audit events in their order, no verifier evicted two elements with one stamp.
pub distinct_evicts : (scheme : Scheme) (header : Header) (logs : List (List LogCommand))
    → HaveOwnStamps (evicted_elements (audit_events_in (order_of (histories_of scheme header logs))))
distinct_evicts scheme header logs =
    let histories = histories_of scheme header logs in
    subst HaveOwnStamps (sym (went_in (order_of histories)))
    (IsDistinct-IsPermutation same_evict same_evict-flips (evicted_among (all_events histories)) (evicted_among (order_of histories))
    (ordered-blocks (comes_before event_moment) (λ event. evicted_by event.change) (all_events histories))
    (all_apart scheme header 0 logs))
