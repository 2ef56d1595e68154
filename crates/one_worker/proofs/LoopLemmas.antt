-- What the loop's order comes to: no shard is left out in an epoch, and no epoch begins before the requests of the phases before it
-- are served.
use Rattle.std.proofs.Common.{◌≡◌, ◌≢◌, ◌⊎◌, inl, inr, ℕ, zero, suc, ◌+◌, ◌<◌, ◌≤◌, List, [], ◌∷◌, ◌++◌, map, length, drop, slice_get, Option, Some, None, refl, sym, ◌∙◌, ap, subst, arith}
use Rattle.std.proofs.lemmas.Bool.{cases_eq}
use Rattle.std.proofs.lemmas.Option.{none-some, same_Some}
use Rattle.lamport_clocks.specs.Reading.{Reading}
use Rattle.record_text.specs.declared.element.Element.{Element}
use Rattle.host_core.specs.Host.{Host, asked, asked_from}
use Rattle.host_core.specs.World.{World}
use Rattle.host_core.specs.WorldEvent.{AreFrom}
use Rattle.round_order.specs.Turn.{Turn, IsAsked, IsWorkerChain, served_more, served_behind, clock_behind}
use Rattle.host_serving.specs.Loop.{MayBeScanned, AreInOrderBehind, IsNoLater, AreNoLater, serving_epoch}
use Rattle.one_worker.specs.Deeds.{own_turns}
use Rattle.one_worker.proofs.ShapeLemmas.{IsKnown}
use Rattle.one_worker.proofs.TurnLemmas.{contents_in, first_in, Waits, waits_one, Tells, put, put_tells, put_still, turn_moves, met_serving, met_scanning}

-- ---- lists

pub head_of : {X : Type 0} (xs : List X) (n : ℕ) (y : X) (ys : List X) → drop n xs ≡ y ∷ ys → slice_get xs n ≡ Some y
head_of [] zero y ys is = absurd (cc)
head_of [] (suc n) y ys is = absurd (cc)
head_of (x ∷ xs) zero y ys is = let same : x ≡ y = cc in ap (λ z. Some z) same
head_of (x ∷ xs) (suc n) y ys is = head_of xs n y ys is

pub tail_of : {X : Type 0} (xs : List X) (n : ℕ) (y : X) (ys : List X) → drop n xs ≡ y ∷ ys → drop (suc n) xs ≡ ys
tail_of [] zero y ys is = absurd (cc)
tail_of [] (suc n) y ys is = absurd (cc)
tail_of (x ∷ xs) zero y ys is = cc
tail_of (x ∷ xs) (suc n) y ys is = tail_of xs n y ys is

pub none_left : {X : Type 0} (xs : List X) (n : ℕ) → drop n xs ≡ [] → slice_get xs n ≡ None
none_left [] zero is = refl
none_left [] (suc n) is = refl
none_left (x ∷ xs) zero is = absurd (cc)
none_left (x ∷ xs) (suc n) is = none_left xs n is

-- where something is next it is the head of what is left
pub left_is : {X : Type 0} (xs : List X) (n : ℕ) (y : X) → slice_get xs n ≡ Some y → (ys : List X) × (drop n xs ≡ y ∷ ys)
left_is [] n y is = absurd (none-some y is)
left_is (x ∷ xs) zero y is = (xs, ap (λ z. z ∷ xs) (same_Some x y is))
left_is (x ∷ xs) (suc n) y is = left_is xs n y is

-- what is asked from a phase on is of that phase or of a later one
pub asked_later : {R : Type 0} (script : List (List (ℕ × R))) (from phase : ℕ) (request : R) (rest : List (ℕ × R))
    → asked_from 0 from script ≡ (phase, request) ∷ rest → from ≤ phase
asked_later [] from phase request rest is = absurd (cc)
asked_later {R} (turns ∷ script) from phase request rest is = go (asked_later script (suc from) phase request rest) (own_turns turns) is
  where
    go : (asked_from 0 (suc from) script ≡ (phase, request) ∷ rest → suc from ≤ phase) → (own : List (ℕ × R))
        → map (λ turn. (from, turn.1)) own ++ asked_from 0 (suc from) script ≡ (phase, request) ∷ rest → from ≤ phase
    go later [] is = let more = later is in omega (arith, more)
    go later (turn ∷ own) is =
        let same : (from, turn.1) ≡ (phase, request) = cc in
        subst (λ (n : ℕ). from ≤ n) (ap (λ (ask : ℕ × R). ask.0) same) (omega arith)

-- ---- a scan behind a turn

-- behind what a lower shard may follow, a higher one may
may_up : {C R : Type 0} (before : Option ℕ) (turn : Turn C R) (request : Option R) (s x : ℕ) → s < x → MayBeScanned before turn request s → MayBeScanned before turn request x
may_up before turn None s x less may = omega (arith, may, less)
may_up before turn (Some request) s x less may = may

module _ {C R : Type 0} (host : Host C R) (world : World C) (known : IsKnown host (contents_in world)) (last : List (List C)) (top : ℕ)
    (reached : (s : ℕ) → s < length (contents_in world) → AreFrom top (host.pending (first_in host last s))) where
  -- what waits at the end is of the top
  pub at_end : (shards : List (List C)) (x w : ℕ) → x < length (contents_in world) → Tells host world known shards last [] → Waits host (first_in host shards x) w → top ≤ w
  at_end shards x w there tells waits =
      let end : Waits host (first_in host last x) w = subst (λ (c : C). Waits host c w) (tells.ends x there) waits in
      let from = waits_one host w w (first_in host last x) (λ (element : Element). top ≤ element.stamp.epoch) end (reached x there) in
      omega (arith, from, end.2)

  -- A shard that waits in an epoch before the clock's, and that may not be scanned next, is never scanned.
  pub lost : (turns : List (Turn C R)) (shards : List (List C)) (served : ℕ) (clock : Reading) (before : Option ℕ) (prev : Turn C R) (x w epoch : ℕ)
      → x < length (contents_in world) → Waits host (first_in host shards x) w → w < epoch → epoch ≤ top → Tells host world known shards last turns
      → IsWorkerChain host 0 clock served turns → prev.done.clock.at.epoch ≤ clock.at.epoch → epoch ≤ prev.done.clock.at.epoch → AreInOrderBehind before prev turns
      → (prev.done.clock.at.epoch ≡ epoch → MayBeScanned before prev prev.request x → ⊥) → ⊥
  lost [] shards served clock before prev x w epoch there waits less within tells chain from on order passed =
      let end = at_end shards x w there tells waits in
      absurd (omega (arith, end, less, within))
  lost (turn ∷ turns) shards served clock before prev x w epoch there waits less within tells chain from on order passed =
      go (cases_eq x turn.place.shard)
      (λ apart. lost turns (put host world known shards last turn turns tells) (served_more served turn.request) turn.done.clock (Some prev.done.clock.at.epoch) turn x w epoch there
      (put_still host world known shards last turn turns tells x w apart waits) less within (put_tells host world known shards last turn turns tells) chain.3
      (omega arith) (omega (arith, moved, on, from, chain.1)) order.1 (passed_on turn.request refl))
    where
      moved : turn.done.clock.at.epoch ≡ turn.clock.at.epoch
      moved = (turn_moves host world known shards last turn turns tells).epoch

      at_own : x ≡ turn.place.shard → (request : Option R) → turn.request ≡ request → ⊥
      at_own is (Some request) asks =
          let own = subst (λ (n : ℕ). Waits host (first_in host shards n) w) is waits in
          let met = met_serving host world known shards last turn turns tells request w asks own in
          absurd (omega (arith, met, less, on, from, chain.1))
      at_own is None asks =
          let own = subst (λ (n : ℕ). Waits host (first_in host shards n) w) is waits in
          let met = met_scanning host world known shards last turn turns tells w asks own in
          let same : turn.clock.at.epoch ≡ prev.done.clock.at.epoch = omega (arith, met, less, on, from, chain.1) in
          passed (omega (arith, met, less, on, from, chain.1))
          (subst (MayBeScanned before prev prev.request) (sym is) (order.0 asks same))

      passed_on : (request : Option R) → turn.request ≡ request → turn.done.clock.at.epoch ≡ epoch → MayBeScanned (Some prev.done.clock.at.epoch) turn request x → ⊥
      passed_on (Some request) asks is first = first (omega (arith, is, moved, on, from, chain.1))
      passed_on None asks is lower =
          let same : turn.clock.at.epoch ≡ prev.done.clock.at.epoch = omega (arith, is, moved, on, from, chain.1) in
          passed (omega (arith, is, moved, on, from, chain.1)) (may_up before prev prev.request turn.place.shard x lower (order.0 asks same))

      go : (x ≡ turn.place.shard) ⊎ (x ≢ turn.place.shard) → (x ≢ turn.place.shard → ⊥) → ⊥
      go (inl is) elsewhere = at_own is turn.request refl
      go (inr apart) elsewhere = elsewhere apart

  -- The clock does not go back.
  pub rises : (turns : List (Turn C R)) (shards : List (List C)) (served : ℕ) (clock : Reading) → Tells host world known shards last turns
      → IsWorkerChain host 0 clock served turns → clock.at.epoch ≤ (clock_behind clock turns).at.epoch
  rises [] shards served clock tells chain = omega arith
  rises (turn ∷ turns) shards served clock tells chain =
      let moved = (turn_moves host world known shards last turn turns tells).epoch in
      let rest = rises turns (put host world known shards last turn turns tells) (served_more served turn.request) turn.done.clock
      (put_tells host world known shards last turn turns tells) chain.3 in
      omega (arith, moved, rest, chain.1)

  -- Past the epoch of the next request's phase, and of the last service, nothing is asked any more.
  pub not_past : (turns : List (Turn C R)) (shards : List (List C)) (served : ℕ) (clock : Reading) (serving epoch phase : ℕ) (request : R)
      → Tells host world known shards last turns → IsWorkerChain host 0 clock served turns → AreNoLater host served serving turns
      → slice_get (asked host 0) served ≡ Some (phase, request) → host.header.first + phase ≤ epoch → serving ≤ epoch → epoch < clock.at.epoch
      → slice_get (asked host 0) (served_behind served turns) ≡ None → ⊥
  not_past [] shards served clock serving epoch phase request tells chain no_later next begun within past all = absurd (none-some (phase, request) (sym all ∙ next))
  not_past (turn ∷ turns) shards served clock serving epoch phase request tells chain no_later next begun within past all =
      go turn.request chain.2 no_later.0
      (λ chain' no_later' all'. not_past turns (put host world known shards last turn turns tells) served turn.done.clock serving epoch phase request
      (put_tells host world known shards last turn turns tells) chain' no_later' next begun within (omega (arith, past, moved, chain.1)) all')
      chain.3 no_later.1 all
    where
      moved : turn.done.clock.at.epoch ≡ turn.clock.at.epoch
      moved = (turn_moves host world known shards last turn turns tells).epoch

      go : (asks : Option R) → IsAsked host 0 served turn.clock.at.epoch asks → IsNoLater host served serving turn asks
          → (IsWorkerChain host 0 turn.done.clock served turns → AreNoLater host served serving turns → slice_get (asked host 0) (served_behind served turns) ≡ None → ⊥)
          → IsWorkerChain host 0 turn.done.clock (served_more served asks) turns → AreNoLater host (served_more served asks) (serving_epoch serving turn asks) turns
          → slice_get (asked host 0) (served_behind (served_more served asks) turns) ≡ None → ⊥
      go None is bound again chain' no_later' all' = again chain' no_later' all'
      go (Some request') is bound again chain' no_later' all' = end (bound is.0 is.1)
        where
          number : is.0 ≡ phase
          number = ap (λ (ask : ℕ × R). ask.0) (same_Some (is.0, request') (phase, request) (sym is.1 ∙ next))

          end : (turn.clock.at.epoch ≤ serving) ⊎ (turn.clock.at.epoch ≤ host.header.first + is.0) → ⊥
          end (inl least) = absurd (omega (arith, least, within, past, chain.1))
          end (inr least) = absurd (omega (arith, least, number, begun, past, chain.1))
