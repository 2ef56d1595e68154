-- What is told of the round of a rolling host with one worker, from its setup on: the one order is the worker's list, and its epochs do
-- not go back.
use Rattle.std.proofs.Common.{◌≡◌, ℕ, zero, suc, ◌+◌, ◌-◌, ◌<◌, ◌≤◌, Bool, true, false, List, [], ◌∷◌, ◌++◌, map, filter, length, get_or, set, None, refl, sym, ◌∙◌, ap, subst, arith}
use Rattle.std.specs.List.{AllByRecursion}
use Rattle.std.proofs.lemmas.Bool.{eq-eqb, cond-true, cond-false}
use Rattle.std.proofs.lemmas.List.{length-map, length-replicate}
use Rattle.lamport_clocks.specs.Reading.{Reading}
use Rattle.lamport_clocks.specs.Clock.{last_epoch}
use Rattle.stamp_order.specs.Merged.{comes_before}
use Rattle.stamp_order.proofs.InOrderLaws.{every-weaker, every-in_order}
use Rattle.host_core.specs.Host.{Host}
use Rattle.host_core.specs.World.{Place, Worker, Seats, World, unmoved, idle, fresh, set_up, worker_at, shard_at, epoch_of}
use Rattle.host_core.specs.WorldEvent.{run_events}
use Rattle.host_core.specs.Deeds.{pending_of}
use Rattle.host_core.proofs.EventLaws.{run-append}
use Rattle.round_order.specs.Turn.{Turn, turn_moment, is_at, is_by, IsPlaceChain, IsWorkerChain, served_more, content_behind, clock_behind, content_at, in_one_order}
use Rattle.round_order.specs.Told.{IsTaken, IsLevel, CanRoll, AreTold, joined, list_of, past_of, round_events, finishes_from, whole_events}
use Rattle.round_order.proofs.OrderLaws.{worker_part, place_part}
use Rattle.round_order.proofs.ChainLaws.{Led}
use Rattle.round_order.proofs.RoundLaws.{round_led}
use Rattle.host_serving.specs.Loop.{AreFresh}
use Rattle.one_worker.proofs.ShapeLemmas.{IsKnown, IsSeated}
use Rattle.one_worker.proofs.TurnLemmas.{first_place, contents_in, contents_at, first_in, Tells, turn_moves, put, put_tells}

-- ---- lists

pub all_front : {X : Type 0} (P : X → Type 0) (xs ys : List X) → AllByRecursion P (xs ++ ys) → AllByRecursion P xs
all_front P [] ys all = tt
all_front P (x ∷ xs) ys all = (all.0, all_front P xs ys all.1)

pub all_behind : {X : Type 0} (P : X → Type 0) (xs ys : List X) → AllByRecursion P (xs ++ ys) → AllByRecursion P ys
all_behind P [] ys all = all
all_behind P (x ∷ xs) ys all = all_behind P xs ys all.1

pub all_part : {C R : Type 0} (P : Turn C R → Type 0) (lists : List (List (Turn C R))) (i : ℕ) → AllByRecursion P (joined lists) → AllByRecursion P (list_of lists i)
all_part P [] i all = tt
all_part P (xs ∷ lists) zero all = all_front P xs (joined lists) all
all_part P (xs ∷ lists) (suc i) all = all_part P lists i (all_behind P xs (joined lists) all)

filter_all : {X : Type 0} (p : X → Bool) (xs : List X) → AllByRecursion (λ x. p x ≡ true) xs → filter p xs ≡ xs
filter_all p [] all = refl
filter_all p (x ∷ xs) all = cond-true (p x) (x ∷ filter p xs) (filter p xs) all.0 ∙ ap (λ zs. x ∷ zs) (filter_all p xs all.1)

pub filter_none : {X : Type 0} (p : X → Bool) (xs : List X) → AllByRecursion (λ x. p x ≡ false) xs → filter p xs ≡ []
filter_none p [] all = refl
filter_none p (x ∷ xs) all = cond-false (p x) (x ∷ filter p xs) (filter p xs) all.0 ∙ filter_none p xs all.1

pub same_contents : {C : Type 0} (contents : List (List C)) → map (λ (shard : Seats C). shard.contents) (map unmoved contents) ≡ contents
same_contents [] = refl
same_contents (some ∷ contents) = ap (λ rest. some ∷ rest) (same_contents contents)

-- ---- what is taken of a host at its setup

pub record IsSetUp {C R : Type 0} (host : Host C R) : Type 0 where
  pub known : IsKnown host host.setup.after
  pub one : host.header.verifiers ≡ 1
  pub some : 0 < length host.setup.after
  pub first : host.setup.clock.at.epoch ≡ host.header.first
  pub shaped : (s : ℕ) → s < length host.setup.after → IsSeated host host.setup.after s (get_or host.setup.after s [])
  pub waits : (s : ℕ) → s < length host.setup.after → AllByRecursion (λ element. element.stamp.epoch ≡ host.header.first) (pending_of host (get_or host.setup.after s []))

-- ---- what is told with one worker

-- each is of the epoch of the one before it or of a later one, from this epoch on, up to the final one
abbrev pub AreUpwards : {C R : Type 0} → ℕ → ℕ → List (Turn C R) → Type 0
AreUpwards final epoch [] = epoch ≤ final
AreUpwards final epoch (turn ∷ turns) = (epoch ≤ turn.clock.at.epoch) × AreUpwards final turn.clock.at.epoch turns

pub upwards_within : {C R : Type 0} (final epoch : ℕ) (turns : List (Turn C R)) → AreUpwards final epoch turns → epoch ≤ final
upwards_within final epoch [] are = are
upwards_within final epoch (turn ∷ turns) are = let rest = upwards_within final turn.clock.at.epoch turns are.1 in omega (arith, are.0, rest)

-- It is told from the setup on, up to an epoch that is not past that of the last phase, nor past the last that there is, where it is
-- past the first.
pub record IsToldOn {C R : Type 0} (host : Host C R) (top : ℕ) (finals : ℕ → ℕ) (lists : List (List (Turn C R))) (pasts : List (List (List (Turn C R)))) : Type 0 where
  pub told : AreTold host true (set_up host) top finals lists pasts
  pub from : host.header.first ≤ top
  pub within : host.header.first < top → (top ≤ epoch_of host (set_up host)) × (top ≤ last_epoch)

module _ {C R : Type 0} (host : Host C R) where
  -- notes of scans change nothing else
  pub still_noted : (world : World C) (i n : ℕ) → ((run_events host world (finishes_from i n)).shards ≡ world.shards) × ((run_events host world (finishes_from i n)).workers ≡ world.workers)
      × ((run_events host world (finishes_from i n)).phase ≡ world.phase)
  still_noted world i zero = (refl, refl, refl)
  still_noted world i (suc n) = still_noted (record world { scanned = set world.scanned i (worker_at host world i).clock.at.epoch }) (suc i) n

module _ {C R : Type 0} (host : Host C R) (is : IsSetUp host) where
  abbrev world : World C
  world = set_up host

  pub workers_one : length world.workers ≡ 1
  workers_one = omega (arith, is.one, length-replicate (host.header.verifiers - 1) (fresh host.header))

  pub origin_is : contents_in world ≡ host.setup.after
  origin_is = same_contents host.setup.after

  pub known : IsKnown host (contents_in world)
  known = subst (IsKnown host) (sym origin_is) is.known

  pub shards_count : length world.shards ≡ length host.setup.after
  shards_count = length-map host.setup.after unmoved

  seats_at : (s : ℕ) → s < length world.shards → (shard_at world s).contents ≡ get_or host.setup.after s []
  seats_at s there = sym (contents_at world s there) ∙ ap (λ (cs : List (List C)). get_or cs s []) origin_is

  -- what holds of the only worker
  pub first_only : (P : Worker → Type 0) → P (idle host.setup.commands host.setup.clock) → (i : ℕ) → i < length world.workers → P (worker_at host world i)
  first_only P own zero there = own
  first_only P own (suc i) there = absurd (omega (arith, there, workers_one))

  pub level : IsLevel host world host.header.first
  level = record {
    going = refl;
    phase = refl;
    idle = λ i there. first_only (λ (w : Worker). w.holds ≡ None) refl i there;
    clocks = λ i there. first_only (λ (w : Worker). w.clock.at.epoch ≡ host.header.first) is.first i there;
    waits = λ s there. subst (λ (cs : List C). AllByRecursion (λ element. element.stamp.epoch ≡ host.header.first) (pending_of host cs)) (sym (seats_at s there))
        (is.waits s (omega (arith, there, shards_count)));
  }

  pub marks_one : length world.scanned ≡ length world.workers
  marks_one = length-replicate host.header.verifiers host.header.first ∙ is.one ∙ sym workers_one

  pub seated : (s : ℕ) → s < length (contents_in world) → IsSeated host (contents_in world) s (get_or (contents_in world) s [])
  seated = subst (λ (cs : List (List C)). (s : ℕ) → s < length cs → IsSeated host cs s (get_or cs s [])) (sym origin_is) is.shaped

  pub shards_there : (s : ℕ) → s < length (contents_in world) → s < length world.shards
  shards_there s within = omega (arith, within, length-map world.shards (λ (shard : Seats C). shard.contents))

  pub before_is : (s : ℕ) → s < length (contents_in world) → content_at host world (first_place s) ≡ first_in host (contents_in world) s
  before_is s within = ap (λ (cs : List C). get_or cs 0 host.vacant) (sym (contents_at world s (shards_there s within)))

  module _ (top : ℕ) (finals : ℕ → ℕ) (lists : List (List (Turn C R))) (pasts : List (List (List (Turn C R)))) (told : AreTold host true world top finals lists pasts) where
    abbrev list : List (Turn C R)
    list = list_of lists 0

    pub part_is : filter (is_by 0) (in_one_order (joined lists)) ≡ list
    part_is = worker_part host true known.steady world host.header.first top finals level lists pasts told 0

    pub all_taken : AllByRecursion (IsTaken host true world) (in_one_order (joined lists))
    all_taken = every-in_order (comes_before turn_moment) (IsTaken host true world) (joined lists) told.taken

    -- the one order is the worker's list
    pub order_is : in_one_order (joined lists) ≡ list
    order_is =
        sym (filter_all (is_by 0) (in_one_order (joined lists))
        (every-weaker (IsTaken host true world) (λ turn. is_by 0 turn ≡ true) (λ turn taken. eq-eqb turn.worker 0 (omega (arith, taken.there, workers_one))) (in_one_order (joined lists)) all_taken))
        ∙ part_is

    pub past_is : (place : Place) → past_of pasts place ≡ filter (is_at place) list
    past_is place = sym (place_part host true known.steady world host.header.first top finals level lists pasts told place) ∙ ap (filter (is_at place)) order_is

    pub places_are : (s : ℕ) → s < length (contents_in world) → IsPlaceChain (first_in host (contents_in world) s) (filter (is_at (first_place s)) list)
    places_are s within = subst (λ (c : C). IsPlaceChain c (filter (is_at (first_place s)) list)) (before_is s within)
        (subst (IsPlaceChain (content_at host world (first_place s))) (past_is (first_place s)) (told.places (first_place s)))

    -- What is told, up to contents that the places come to.
    pub tells_to : AreFresh host list → (last : List (List C))
        → ((s : ℕ) → s < length (contents_in world) → content_behind (first_in host (contents_in world) s) (filter (is_at (first_place s)) list) ≡ first_in host last s)
        → Tells host world known (contents_in world) last list
    tells_to fresh last ends = record {
      shaped = record { count = refl; seated = seated; owners = λ s seat ask. refl };
      taken = all_part (IsTaken host true world) lists 0 told.taken;
      fresh = fresh;
      places = places_are;
      ends = ends;
    }

    -- ---- its epochs do not go back

    -- the contents that the places of so many shards come to, from one on
    abbrev lasts_from : ℕ → ℕ → List (List C)
    lasts_from s zero = []
    lasts_from s (suc count) = (content_behind (first_in host (contents_in world) s) (filter (is_at (first_place s)) list) ∷ []) ∷ lasts_from (suc s) count

    last_at : (count s k : ℕ) → k < count
        → content_behind (first_in host (contents_in world) (s + k)) (filter (is_at (first_place (s + k))) list) ≡ first_in host (lasts_from s count) k
    last_at zero s k there = absurd (omega (arith, there))
    last_at (suc count) s zero there =
        let same : s + 0 ≡ s = omega arith in
        ap (λ (n : ℕ). content_behind (first_in host (contents_in world) n) (filter (is_at (first_place n)) list)) same
    last_at (suc count) s (suc k) there =
        let same : s + suc k ≡ suc s + k = omega arith in
        ap (λ (n : ℕ). content_behind (first_in host (contents_in world) n) (filter (is_at (first_place n)) list)) same
        ∙ last_at count (suc s) k (omega (arith, there))

    upwards : (last : List (List C)) (turns : List (Turn C R)) (shards : List (List C)) (served : ℕ) (clock : Reading) (final epoch : ℕ) → Tells host world known shards last turns
        → IsWorkerChain host 0 clock served turns → (clock_behind clock turns).at.epoch ≤ final → epoch ≤ clock.at.epoch → AreUpwards final epoch turns
    upwards last [] shards served clock final epoch tells chain within from = omega (arith, within, from)
    upwards last (turn ∷ turns) shards served clock final epoch tells chain within from =
        let moved = (turn_moves host world known shards last turn turns tells).epoch in (
          omega (arith, from, chain.1),
          upwards last turns (put host world known shards last turn turns tells) (served_more served turn.request) turn.done.clock final turn.clock.at.epoch
              (put_tells host world known shards last turn turns tells) chain.3 within (omega (arith, moved)),
        )

    pub list_upwards : AreFresh host list → AreUpwards (finals 0) host.header.first list
    list_upwards fresh =
        upwards (lasts_from 0 (length (contents_in world))) list (contents_in world) 0 host.setup.clock (finals 0) host.header.first
        (tells_to fresh (lasts_from 0 (length (contents_in world))) ends)
        (told.workers 0) (told.final 0 (omega (arith, workers_one))).0 (omega (arith, is.first))
      where
        ends : (s : ℕ) → s < length (contents_in world)
            → content_behind (first_in host (contents_in world) s) (filter (is_at (first_place s)) list) ≡ first_in host (lasts_from 0 (length (contents_in world))) s
        ends s within =
            let same : s ≡ 0 + s = omega arith in
            ap (λ (n : ℕ). content_behind (first_in host (contents_in world) n) (filter (is_at (first_place n)) list)) same
            ∙ last_at (length (contents_in world)) 0 s within

  -- ---- where it leads

  module _ (rolling : host.rolling ≡ true) (top : ℕ) (finals : ℕ → ℕ) (lists : List (List (Turn C R))) (pasts : List (List (List (Turn C R)))) (told : IsToldOn host top finals lists pasts) where
    can_roll : host.header.first < top → CanRoll host world host.header.first top
    can_roll less = record {
      rolling = rolling;
      newest = refl;
      within = (told.within less).0;
      last = (told.within less).1;
      marks = marks_one;
      some = omega (arith, workers_one);
      running = λ i there. first_only (λ (w : Worker). w.stopped ≡ false) refl i there;
    }

    pub led : Led host true known.steady top finals world (in_one_order (joined lists)) (round_events finals (length world.workers) top host.header.first (in_one_order (joined lists)))
    led = round_led host true known.steady world host.header.first top finals level lists pasts told.told told.from can_roll

    abbrev pub noted : World C
    noted = run_events host world (whole_events world finals top host.header.first lists)

    -- behind it all note that their shards are of the last epoch
    pub noted_is : noted ≡ run_events host led.later (finishes_from 0 (length world.workers))
    noted_is = run-append host world (round_events finals (length world.workers) top host.header.first (in_one_order (joined lists))) (finishes_from 0 (length world.workers))
        ∙ ap (λ (w : World C). run_events host w (finishes_from 0 (length world.workers))) led.way.is
