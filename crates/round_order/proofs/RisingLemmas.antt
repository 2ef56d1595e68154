-- The stamps of a worker's turns rise, and so do those of a place's: each list stands in the order of its moments.
use Rattle.std.proofs.Common.{◌≡◌, ◌≢◌, ◌⊎◌, ℕ, ◌<◌, ◌≤◌, Bool, true, false, List, [], ◌∷◌, ◌++◌, AllPairs, Option, Some, None, refl, sym, ◌∙◌, ap, subst, inl, inr, true≢false, arith}
use Rattle.std.specs.List.{AllByRecursion}
use Rattle.std.proofs.lemmas.Bool.{cases_lt}
use Rattle.std.proofs.lemmas.Bool.Decides.{nat_tests}
use Rattle.std.proofs.lemmas.List.Elements.{All-from_recursion}
use Rattle.std.proofs.lemmas.List.Kept.{AllPairs-cons}
use Rattle.lamport_clocks.specs.Reading.{Reading}
use Rattle.lamport_clocks.specs.declared.stamp.Stamp.{Stamp}
use Rattle.record_text.specs.declared.element.Element.{Element}
use Rattle.stamp_order.specs.declared.moment.Moment.{Moment}
use Rattle.stamp_order.specs.Moment.{is_before}
use Rattle.stamp_order.specs.Merged.{comes_before, IsMerged}
use Rattle.stamp_order.proofs.InOrderLaws.{every-weaker, every-append}
use Rattle.host_core.specs.Host.{Host}
use Rattle.host_core.specs.World.{World, shard_at}
use Rattle.host_core.specs.WorldEvent.{AreUpTo}
use Rattle.round_order.specs.Turn.{Turn, turn_moment, served_more, IsPlaceChain, IsWorkerChain, content_at}
use Rattle.round_order.specs.Steady.{HasOne, IsSteady}
use Rattle.round_order.specs.Told.{IsDid, IsTaken, others_at}
use Rattle.round_order.proofs.GoingLaws.{on_to-there}
use Rattle.round_order.proofs.ReadyLemmas.{RisesIn, AreIn, IsMoving}

-- ---- stamps

-- the stamp is of a later epoch, or of the same with a greater counter
abbrev pub IsLater : Stamp → Stamp → Type 0
IsLater low at = (low.epoch < at.epoch) ⊎ ((low.epoch ≡ at.epoch) × (low.counter < at.counter))

later-then : (a b c : Stamp) → IsLater a b → IsLater b c → IsLater a c
later-then a b c (inl first) (inl second) = inl (omega (arith, first, second))
later-then a b c (inl first) (inr second) = inl (omega (arith, first, second.0))
later-then a b c (inr first) (inl second) = inl (omega (arith, first.0, second))
later-then a b c (inr first) (inr second) = inr (first.0 ∙ second.0, omega (arith, first.1, second.1))

-- a later moment doesn't come before
not_before : (m n : Moment) → IsLater m.at n.at → is_before n m ≡ false
not_before m n (inl less) = grind (arith, nat_tests)
not_before m n (inr both) =
    let same : m.at.epoch ≡ n.at.epoch = both.0 in
    let less : m.at.counter < n.at.counter = both.1 in
    grind (arith, nat_tests)

later-apart : (m n : Moment) → IsLater m.at n.at → m ≡ n → ⊥
later-apart m n (inl less) same = omega (arith, less, ap (λ (x : Moment). x.at.epoch) same)
later-apart m n (inr both) same = omega (arith, both.1, ap (λ (x : Moment). x.at.counter) same)

-- a moment of an earlier epoch comes before
of_earlier : (m n : Moment) → n.at.epoch < m.at.epoch → is_before n m ≡ true
of_earlier m n less = grind (arith, nat_tests)

no_earlier : (m n : Moment) → is_before n m ≡ false → m.at.epoch ≤ n.at.epoch
no_earlier m n is = go (cases_lt n.at.epoch m.at.epoch)
  where
    go : (n.at.epoch < m.at.epoch) ⊎ (m.at.epoch ≤ n.at.epoch) → m.at.epoch ≤ n.at.epoch
    go (inl less) = absurd (true≢false (sym (of_earlier m n less) ∙ is))
    go (inr least) = least

-- ---- lists with rising stamps

module _ {C R : Type 0} where
  -- each with a later stamp than the one before it
  abbrev pub RisesFrom : Stamp → List (Turn C R) → Type 0
  RisesFrom low [] = Unit {0}
  RisesFrom low (turn ∷ turns) = IsLater low turn.done.clock.at × RisesFrom turn.done.clock.at turns

  all_above : (low : Stamp) (turns : List (Turn C R)) → RisesFrom low turns → AllByRecursion (λ turn. IsLater low turn.done.clock.at) turns
  all_above low [] rises = tt
  all_above low (turn ∷ turns) rises = (
    rises.0,
    every-weaker (λ later. IsLater turn.done.clock.at later.done.clock.at) (λ later. IsLater low later.done.clock.at)
        (λ later above. later-then low turn.done.clock.at later.done.clock.at rises.0 above) turns (all_above turn.done.clock.at turns rises.1),
  )

  -- They stand in the order of their moments.
  pub rises-sorted : (low : Stamp) (turns : List (Turn C R)) → RisesFrom low turns → IsMerged turn_moment turns
  rises-sorted low [] rises = tt
  rises-sorted low (turn ∷ turns) rises = (
    every-weaker (λ later. IsLater turn.done.clock.at later.done.clock.at) (λ later. comes_before turn_moment later turn ≡ false)
        (λ later above. not_before (turn_moment turn) (turn_moment later) above) turns (all_above turn.done.clock.at turns rises.1),
    rises-sorted turn.done.clock.at turns rises.1,
  )

  -- ---- no two moments are one

  abbrev pub AreApart : List (Turn C R) → Type 0
  AreApart [] = Unit {0}
  AreApart (turn ∷ turns) = AllByRecursion (λ other. turn_moment turn ≢ turn_moment other) turns × AreApart turns

  pub rises-apart : (low : Stamp) (turns : List (Turn C R)) → RisesFrom low turns → AreApart turns
  rises-apart low [] rises = tt
  rises-apart low (turn ∷ turns) rises = (
    every-weaker (λ later. IsLater turn.done.clock.at later.done.clock.at) (λ later. turn_moment turn ≢ turn_moment later)
        (λ later above same. later-apart (turn_moment turn) (turn_moment later) above same) turns (all_above turn.done.clock.at turns rises.1),
    rises-apart turn.done.clock.at turns rises.1,
  )

  pub apart-append : (xs ys : List (Turn C R)) → AreApart xs → AreApart ys
      → AllByRecursion (λ x. AllByRecursion (λ y. turn_moment x ≢ turn_moment y) ys) xs → AreApart (xs ++ ys)
  apart-append [] ys first second cross = second
  apart-append (x ∷ xs) ys first second cross =
      (every-append (λ y. turn_moment x ≢ turn_moment y) xs ys first.0 cross.0, apart-append xs ys first.1 second cross.1)

  pub pairs-apart : (turns : List (Turn C R)) → AreApart turns → AllPairs (λ x y. turn_moment x ≢ turn_moment y) turns
  pairs-apart [] apart = λ i j d below within. absurd (omega arith)
  pairs-apart (turn ∷ turns) apart =
      AllPairs-cons (λ x y. turn_moment x ≢ turn_moment y) turn turns
      (All-from_recursion (λ other. turn_moment turn ≢ turn_moment other) turns apart.0) (pairs-apart turns apart.1)

module _ {C R : Type 0} (host : Host C R) where
  -- ---- turns in the order of their moments rise in epochs

  in_behind : (turn : Turn C R) (turns : List (Turn C R)) → IsMoving host turn → AllByRecursion (IsMoving host) turns
      → AllByRecursion (λ later. comes_before turn_moment later turn ≡ false) turns → AreIn turn.clock.at.epoch turns
  in_behind turn [] moved moving above = tt
  in_behind turn (later ∷ turns) moved moving above = (
    omega (arith, no_earlier (turn_moment turn) (turn_moment later) above.0, moved.epoch, moving.0.epoch),
    in_behind turn turns moved moving.1 above.1,
  )

  pub sorted-rises : (epoch : ℕ) (turns : List (Turn C R)) → IsMerged turn_moment turns → AllByRecursion (IsMoving host) turns → AreIn epoch turns
      → RisesIn epoch turns
  sorted-rises epoch [] sorted moving all = tt
  sorted-rises epoch (turn ∷ turns) sorted moving all =
      (all.0, sorted-rises turn.clock.at.epoch turns sorted.1 moving.1 (in_behind turn turns moving.0 moving.1 sorted.0))

  -- ---- workers and places

  module _ (scans : Bool) (steady : IsSteady host scans) (world : World C) where
    -- it is taken, at a content with one pending element
    pub record IsMet (turn : Turn C R) : Type 0 where
      pub is_taken : IsTaken host scans world turn
      pub one : HasOne host turn.before

    pub did_moves : (turn : Turn C R) → IsDid host scans world turn turn.request → HasOne host turn.before → IsMoving host turn
    did_moves turn did one = go turn.request did
      where
        go : (request : Option R) → IsDid host scans world turn request → IsMoving host turn
        go None scan = steady.scans_on scan.scanned turn.worker turn.place.shard turn.clock turn.before (others_at world turn.place.shard) turn.done one scan.alone scan.moves
        go (Some request) did = steady.serves_on turn.worker turn.clock turn.before request turn.done one did.1

    pub moves : (turn : Turn C R) → IsMet turn → IsMoving host turn
    moves turn is = did_moves turn is.is_taken.did is.one

    -- a content at which a turn was has one element
    pub one_there : (turn : Turn C R) (request : Option R) → turn.before ≡ content_at host world turn.place → IsDid host scans world turn request
        → HasOne host (content_at host world turn.place)
    one_there turn None before scan = subst (HasOne host) before scan.waits
    one_there turn (Some request) before did = steady.waits turn.place.shard turn.place.seat (shard_at world turn.place.shard).contents request did.0

    -- a place's turns are at contents with one element, from the first on
    pub place-met : (content : C) (turns : List (Turn C R)) → HasOne host content → IsPlaceChain content turns
        → AllByRecursion (IsTaken host scans world) turns → AllByRecursion IsMet turns
    place-met content [] one chain each = tt
    place-met content (turn ∷ turns) one chain each =
        let met : IsMet turn = record { is_taken = each.0; one = subst (HasOne host) (sym chain.0) one } in
        let new = (moves turn met).new in
        (met, place-met turn.done.after turns (new.0, new.1) chain.1 each.1)

    -- A worker's stamps rise.
    pub worker-rises : (i : ℕ) (turns : List (Turn C R)) (served : ℕ) (clock : Reading) → IsWorkerChain host i clock served turns
        → AllByRecursion IsMet turns → RisesFrom clock.at turns
    worker-rises i [] served clock chain each = tt
    worker-rises i (turn ∷ turns) served clock chain each =
        (go (cases_lt clock.at.epoch turn.clock.at.epoch), worker-rises i turns (served_more served turn.request) turn.done.clock chain.3 each.1)
      where
        moved : IsMoving host turn
        moved = moves turn each.0

        go : (clock.at.epoch < turn.clock.at.epoch) ⊎ (turn.clock.at.epoch ≤ clock.at.epoch) → IsLater clock.at turn.done.clock.at
        go (inl less) = inl (omega (arith, less, moved.epoch))
        go (inr there) =
            let same : turn.clock ≡ clock = chain.0 ∙ on_to-there turn.clock.at.epoch clock there in
            inr (
              sym (moved.epoch ∙ ap (λ (c : Reading). c.at.epoch) same),
              omega (arith, moved.later, ap (λ (c : Reading). c.at.counter) same),
            )

    -- all are of its epoch or a later one
    pub worker-in : (i epoch : ℕ) (turns : List (Turn C R)) (served : ℕ) (clock : Reading) → epoch ≤ clock.at.epoch → IsWorkerChain host i clock served turns
        → AllByRecursion IsMet turns → AreIn epoch turns
    worker-in i epoch [] served clock from chain each = tt
    worker-in i epoch (turn ∷ turns) served clock from chain each = (
      omega (arith, from, chain.1),
      worker-in i epoch turns (served_more served turn.request) turn.done.clock (omega (arith, from, chain.1, (moves turn each.0).epoch)) chain.3 each.1,
    )

    -- the content has one pending element, with this stamp
    abbrev pub Waits : C → Stamp → Type 0
    Waits content stamp = (element : Element) × (host.pending content ≡ element ∷ []) × (element.stamp ≡ stamp)

    -- a turn at a content goes above its element
    above_element : (content : C) (stamp : Stamp) (turn : Turn C R) → Waits content stamp → turn.before ≡ content → IsMet turn → IsLater stamp turn.done.clock.at
    above_element content stamp turn waits before met = go (cases_lt stamp.epoch turn.clock.at.epoch)
      where
        moved : IsMoving host turn
        moved = moves turn met

        waiting : host.pending turn.before ≡ waits.0 ∷ []
        waiting = ap host.pending before ∙ waits.1

        of : waits.0.stamp.epoch ≡ stamp.epoch
        of = ap (λ (s : Stamp). s.epoch) waits.2

        within : waits.0.stamp.epoch ≤ turn.clock.at.epoch
        within = (subst (AreUpTo turn.clock.at.epoch) waiting met.is_taken.reached).0

        go : (stamp.epoch < turn.clock.at.epoch) ⊎ (turn.clock.at.epoch ≤ stamp.epoch) → IsLater stamp turn.done.clock.at
        go (inl less) = inl (omega (arith, less, moved.epoch))
        go (inr there) =
            let same : waits.0.stamp.epoch ≡ turn.clock.at.epoch = omega (arith, there, of, within) in
            let all = moved.above (subst (AllByRecursion (λ (element : Element). element.stamp.epoch ≡ turn.clock.at.epoch)) (sym waiting) (same, tt)) in
            let less = (subst (AllByRecursion (λ (element : Element). element.stamp.counter < turn.done.clock.at.counter)) waiting all).0 in
            inr (
              sym of ∙ same ∙ sym moved.epoch,
              subst (λ (s : Stamp). s.counter < turn.done.clock.at.counter) waits.2 less,
            )

    -- The stamps of a place's turns rise.
    place-behind : (content : C) (stamp : Stamp) (turns : List (Turn C R)) → Waits content stamp → IsPlaceChain content turns → AllByRecursion IsMet turns
        → RisesFrom stamp turns
    place-behind content stamp [] waits chain each = tt
    place-behind content stamp (turn ∷ turns) waits chain each = (
      above_element content stamp turn waits chain.0 each.0,
      place-behind turn.done.after turn.done.clock.at turns (moves turn each.0).new chain.1 each.1,
    )

    pub place-sorted : (content : C) (turns : List (Turn C R)) → IsPlaceChain content turns → AllByRecursion IsMet turns → IsMerged turn_moment turns
    place-sorted content [] chain each = tt
    place-sorted content (turn ∷ turns) chain each =
        let one = each.0.one in
        rises-sorted one.0.stamp (turn ∷ turns)
        (place-behind content one.0.stamp (turn ∷ turns) (one.0, ap host.pending (sym chain.0) ∙ one.1, refl) chain each)
