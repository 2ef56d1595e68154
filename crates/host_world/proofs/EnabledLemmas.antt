-- Events that are enabled, as tests of the world tell it.
use Rattle.std.proofs.Common.{◌≡◌, ℕ, zero, suc, ◌+◌, ◌-◌, ◌<◌, ◌≤◌, ◌%◌, Bool, true, false, not, ◌&&◌, ◌||◌, List, [], ◌∷◌, length, get_or, slice_get, Option, Some, None, is_none, refl, sym, ◌∙◌, ap, subst, inl, inr, ◌⊎◌, arith}
use Rattle.std.specs.Prelude.{◌==◌, nat_lt, nat_le}
use Rattle.std.specs.List.{AllByRecursion}
use Rattle.std.proofs.lemmas.Bool.{false≢true, and_parts, and_from, cases_lt, leb-true, ltb-true, eqb-true, eq-eqb}
use Rattle.std.proofs.lemmas.Option.{none-some}
use Rattle.lamport_clocks.specs.Clock.{last_epoch}
use Rattle.lamport_clocks.specs.Reading.{Reading}
use Rattle.record_text.specs.declared.element.Element.{Element}
use Rattle.host_core.specs.Deeds.{pending_of}
use Rattle.host_core.specs.Host.{Host, asked}
use Rattle.host_core.specs.World.{Place, Holding, World, worker_at, shard_at, scanned_at, epoch_of}
use Rattle.host_core.specs.WorldEvent.{WorldEvent, takes, loses, serves, gives, advances, moves, opens, raises, enters, scans, finishes, stops, step, AreUpTo, AreFrom, Holds, IsLast, AllMoved, HasAdvanced, HasEnded, IsServing, IsRolling, MayTake, MayServe, MayAdvance, MayMove, MayRaise, MayEnter, MayScan, MayFinish, MayStop, IsEnabled, AreEnabled}

-- ---- tests

-- each of them answers yes
abbrev are_true : List Bool → Bool
are_true [] = true
are_true (b ∷ bs) = b && are_true bs

each_true : (bs : List Bool) → are_true bs ≡ true → AllByRecursion (λ b. b ≡ true) bs
each_true [] is = tt
each_true (b ∷ bs) is = let parts = and_parts b (are_true bs) is in (parts.0, each_true bs parts.1)

-- the test answers yes for each number below a bound
abbrev below : ℕ → (ℕ → Bool) → Bool
below zero p = true
below (suc n) p = p n && below n p

is_false : (b : Bool) → not b ≡ true → b ≡ false
is_false true is = absurd (false≢true is)
is_false false is = refl

is_nothing : {X : Type 0} (x : Option X) → is_none x ≡ true → x ≡ None
is_nothing None is = refl
is_nothing (Some x) is = absurd (false≢true is)

below_all : (n : ℕ) (p : ℕ → Bool) → below n p ≡ true → (i : ℕ) → i < n → p i ≡ true
below_all zero p is i there = absurd (omega (arith, there))
below_all (suc n) p is i there = go (cases_lt i n) (below_all n p parts.1 i)
  where
    parts : (p n ≡ true) × (below n p ≡ true)
    parts = and_parts (p n) (below n p) is

    go : (i < n) ⊎ (n ≤ i) → (i < n → p i ≡ true) → p i ≡ true
    go (inl less) rest = rest less
    go (inr more) rest = subst (λ (k : ℕ). p k ≡ true) (omega (arith, more, there)) parts.0

-- none of them waits in an earlier epoch
abbrev from_on : ℕ → List Element → Bool
from_on epoch [] = true
from_on epoch (element ∷ elements) = nat_le epoch element.stamp.epoch && from_on epoch elements

are_from : (epoch : ℕ) (elements : List Element) → from_on epoch elements ≡ true → AreFrom epoch elements
are_from epoch [] is = tt
are_from epoch (element ∷ elements) is =
    let parts = and_parts (nat_le epoch element.stamp.epoch) (from_on epoch elements) is in
    (leb-true epoch element.stamp.epoch parts.0, are_from epoch elements parts.1)

-- none of them waits in a later epoch
abbrev up_to : ℕ → List Element → Bool
up_to epoch [] = true
up_to epoch (element ∷ elements) = nat_le element.stamp.epoch epoch && up_to epoch elements

are_up_to : (epoch : ℕ) (elements : List Element) → up_to epoch elements ≡ true → AreUpTo epoch elements
are_up_to epoch [] is = tt
are_up_to epoch (element ∷ elements) is =
    let parts = and_parts (nat_le element.stamp.epoch epoch) (up_to epoch elements) is in
    (leb-true element.stamp.epoch epoch parts.0, are_up_to epoch elements parts.1)

-- what is held, if anything is, is another place
abbrev is_away : Place → Option Holding → Bool
is_away place None = true
is_away place (Some found) = not (found.place.shard == place.shard && found.place.seat == place.seat)

module _ {C R : Type 0} (host : Host C R) where
  -- ---- what is tested of a world

  -- the worker is there, in a phase
  abbrev serving : World C → ℕ → List Bool
  serving world i = not world.over ∷ not world.closing ∷ nat_lt i (length world.workers) ∷ []

  is_serving : (world : World C) (i : ℕ) → are_true (serving world i) ≡ true → IsServing host world i
  is_serving world i is =
      let tests = each_true (serving world i) is in
      record { going = is_false world.over tests.0; phase = is_false world.closing tests.1.0; there = ltb-true i (length world.workers) tests.1.1.0 }

  -- the worker holds nothing
  abbrev holds_none : World C → ℕ → Bool
  holds_none world i = is_none (worker_at host world i).holds

  -- it does not hold the place
  abbrev is_elsewhere : World C → Place → ℕ → Bool
  is_elsewhere world place j = is_away place (worker_at host world j).holds

  -- nobody holds the place, which is there, and the worker holds none
  abbrev taking : World C → ℕ → Place → List Bool
  taking world i place =
      are_true (serving world i)
      ∷ nat_lt place.shard (length world.shards) ∷ nat_lt place.seat (length (shard_at world place.shard).contents)
      ∷ below (length world.workers) (is_elsewhere world place) ∷ not (worker_at host world i).stopped ∷ holds_none world i ∷ []

  may_take : (world : World C) (i : ℕ) (place : Place) → are_true (taking world i place) ≡ true → MayTake host world i place
  may_take world i place is = record {
    serving = is_serving world i tests.0;
    there = (ltb-true place.shard (length world.shards) tests.1.0, ltb-true place.seat (length (shard_at world place.shard).contents) tests.1.1.0);
    free = λ j used there held. not_held (worker_at host world j).holds used (below_all (length world.workers) (is_elsewhere world place) tests.1.1.1.0 j there) held;
    empty = is_nothing (worker_at host world i).holds tests.1.1.1.1.1.0;
    running = is_false (worker_at host world i).stopped tests.1.1.1.1.0;
  }
    where
      tests : AllByRecursion (λ b. b ≡ true) (taking world i place)
      tests = each_true (taking world i place) is

      not_held : (holds : Option Holding) (used : Bool) → is_away place holds ≡ true → holds ≡ Some (record { place = place; used = used }) → ⊥
      not_held holds used away held =
          false≢true (sym (ap not (and_from (place.shard == place.shard) (place.seat == place.seat) (eq-eqb place.shard place.shard refl) (eq-eqb place.seat place.seat refl)))
          ∙ (sym (ap (is_away place) held) ∙ away))

  -- it does, and its request, which it owns, is to be served there, in a phase that has begun
  abbrev serving_at : World C → ℕ → Place → R → List Bool
  serving_at world i place request =
      are_true (serving world i)
      ∷ nat_lt place.shard (length world.shards) ∷ nat_lt place.seat (length (shard_at world place.shard).contents)
      ∷ host.owns place.shard (shard_at world place.shard).contents place.seat request
      ∷ up_to (worker_at host world i).clock.at.epoch (host.pending (get_or (shard_at world place.shard).contents place.seat host.vacant)) ∷ []

  -- the next request of a worker, and that its phase has begun
  abbrev pub NextIs : World C → ℕ → R → Type 0
  NextIs world i request = (phase : ℕ) × (slice_get (asked host i) (worker_at host world i).served ≡ Some (phase, request))
      × (nat_le (host.header.first + phase) (worker_at host world i).clock.at.epoch ≡ true)

  may_serve : (world : World C) (i : ℕ) (place : Place) (request : R) → are_true (serving_at world i place request) ≡ true
      → Holds (worker_at host world i) place false → NextIs world i request → MayServe host world i place request
  may_serve world i place request is holds next =
      let tests = each_true (serving_at world i place request) is in
      record {
        serving = is_serving world i tests.0;
        there = (ltb-true place.shard (length world.shards) tests.1.0, ltb-true place.seat (length (shard_at world place.shard).contents) tests.1.1.0);
        holds = holds;
        due = record {
          phase = next.0;
          next = next.1;
          begun = leb-true (host.header.first + next.0) (worker_at host world i).clock.at.epoch next.2;
          reached = are_up_to (worker_at host world i).clock.at.epoch _ tests.1.1.1.1.0;
        };
        owns = tests.1.1.1.0;
      }

  -- ---- a close

  -- the script asks for no more of the worker
  abbrev none_next : World C → ℕ → Bool
  none_next world j = is_none (slice_get (asked host j) (worker_at host world j).served)

  -- its clock is so many epochs past the phase's
  abbrev advanced : World C → ℕ → ℕ → Bool
  advanced world i times = (worker_at host world i).clock.at.epoch == epoch_of host world + times

  abbrev is_moved : World C → ℕ → Bool
  is_moved world s = (shard_at world s).moved

  -- the phase is the script's last
  abbrev in_last_phase : World C → Bool
  in_last_phase world = nat_le (length host.script) (suc world.phase)

  -- the worker is not stopped, and has scanned in the epoch of the last phase
  abbrev is_over : World C → ℕ → Bool
  is_over world j = not (worker_at host world j).stopped && (scanned_at host world j == epoch_of host world)

  -- the phase is over, and the round of a rolling host; the worker has not advanced, or once where all shards are moved in a last close
  abbrev advancing : World C → ℕ → List Bool
  advancing world i =
      (not host.rolling || below (length world.workers) (is_over world)) ∷ not world.over ∷ nat_lt i (length world.workers)
      ∷ below (length world.workers) (holds_none world) ∷ below (length world.workers) (none_next world)
      ∷ (advanced world i 0 || (advanced world i 1 && (in_last_phase world && below (length world.shards) (is_moved world)))) ∷ []

  may_advance : (world : World C) (i : ℕ) → are_true (advancing world i) ≡ true → MayAdvance host world i
  may_advance world i is = record {
    going = is_false world.over tests.1.0;
    there = ltb-true i (length world.workers) tests.1.1.0;
    through = λ j there. (
      is_nothing (worker_at host world j).holds (below_all (length world.workers) (holds_none world) tests.1.1.1.0 j there),
      inr (λ request next. none-some _ (sym (is_none_next j there) ∙ next)),
    );
    settled = λ rolling j there.
        let over : below (length world.workers) (is_over world) ≡ true = sym (ap (λ (b : Bool). not b || below (length world.workers) (is_over world)) rolling) ∙ tests.0 in
        let parts = and_parts (not (worker_at host world j).stopped) (scanned_at host world j == epoch_of host world) (below_all (length world.workers) (is_over world) over j there) in
        (is_false (worker_at host world j).stopped parts.0, is_none_next j there, eqb-true (scanned_at host world j) (epoch_of host world) parts.1);
    turns = go (advanced world i 0) refl tests.1.1.1.1.1.0;
  }
    where
      tests : AllByRecursion (λ b. b ≡ true) (advancing world i)
      tests = each_true (advancing world i) is

      is_none_next : (j : ℕ) → j < length world.workers → slice_get (asked host j) (worker_at host world j).served ≡ None
      is_none_next j there =
          is_nothing (slice_get (asked host j) (worker_at host world j).served) (below_all (length world.workers) (none_next world) tests.1.1.1.1.0 j there)

      go : (b : Bool) → advanced world i 0 ≡ b → (b || (advanced world i 1 && (in_last_phase world && below (length world.shards) (is_moved world)))) ≡ true
          → (HasAdvanced host world i 0) ⊎ (HasAdvanced host world i 1 × IsLast host world × AllMoved world)
      go true first any = inl (eqb-true (worker_at host world i).clock.at.epoch (epoch_of host world + 0) first)
      go false first any =
          let parts = and_parts (advanced world i 1) (in_last_phase world && below (length world.shards) (is_moved world)) any in
          let rest = and_parts (in_last_phase world) (below (length world.shards) (is_moved world)) parts.1 in
          inr (
            eqb-true (worker_at host world i).clock.at.epoch (epoch_of host world + 1) parts.0,
            inl (leb-true (length host.script) (suc world.phase) rest.0),
            below_all (length world.shards) (is_moved world) rest.1,
          )

  -- the shard is the worker's, and is to be moved once those before it are
  abbrev moving : World C → ℕ → ℕ → List Bool
  moving world i s =
      not world.over ∷ world.closing ∷ nat_lt i (length world.workers) ∷ nat_lt s (length world.shards) ∷ advanced world i 1
      ∷ not (worker_at host world i).stuck ∷ (s % length world.workers == i) ∷ not (is_moved world s) ∷ below s (is_moved world) ∷ []

  may_move : (world : World C) (i s : ℕ) → are_true (moving world i s) ≡ true → MayMove host world i s
  may_move world i s is =
      let tests = each_true (moving world i s) is in
      record {
        going = is_false world.over tests.0;
        closing = tests.1.0;
        there = ltb-true i (length world.workers) tests.1.1.0;
        shard = ltb-true s (length world.shards) tests.1.1.1.0;
        turned = eqb-true (worker_at host world i).clock.at.epoch (epoch_of host world + 1) tests.1.1.1.1.0;
        running = is_false (worker_at host world i).stuck tests.1.1.1.1.1.0;
        own = eqb-true (s % length world.workers) i tests.1.1.1.1.1.1.0;
        still = is_false (is_moved world s) tests.1.1.1.1.1.1.1.0;
        in_order = λ t before mine. below_all s (is_moved world) tests.1.1.1.1.1.1.1.1.0 t before;
      }

  -- ---- a round

  -- the host is rolling, and the worker may do something in its round
  abbrev going_on : World C → ℕ → List Bool
  going_on world i = are_true (serving world i) ∷ host.rolling ∷ not (worker_at host world i).stopped ∷ []

  is_rolling : (world : World C) (i : ℕ) → are_true (going_on world i) ≡ true → IsRolling host world i
  is_rolling world i is =
      let tests = each_true (going_on world i) is in
      record { serving = is_serving world i tests.0; rolling = tests.1.0; running = is_false (worker_at host world i).stopped tests.1.1.0 }

  -- each worker has scanned in no earlier epoch than this one's
  abbrev raising : World C → ℕ → List Bool
  raising world i =
      let epoch = (worker_at host world i).clock.at.epoch in
      are_true (going_on world i) ∷ nat_lt epoch (epoch_of host world) ∷ nat_lt epoch last_epoch
      ∷ below (length world.workers) (λ j. nat_le epoch (scanned_at host world j)) ∷ []

  may_raise : (world : World C) (i : ℕ) → are_true (raising world i) ≡ true → MayRaise host world i
  may_raise world i is =
      let epoch = (worker_at host world i).clock.at.epoch in
      let tests = each_true (raising world i) is in
      record {
        rolling = is_rolling world i tests.0;
        wanted = ltb-true epoch (epoch_of host world) tests.1.0;
        more = ltb-true epoch last_epoch tests.1.1.0;
        scanned = λ j there. leb-true epoch (scanned_at host world j) (below_all (length world.workers) (λ k. nat_le epoch (scanned_at host world k)) tests.1.1.1.0 j there);
      }

  -- the newest epoch is past its own
  abbrev entering : World C → ℕ → List Bool
  entering world i =
      let epoch = (worker_at host world i).clock.at.epoch in
      are_true (going_on world i) ∷ nat_lt epoch world.newest ∷ nat_lt epoch last_epoch ∷ []

  may_enter : (world : World C) (i : ℕ) → are_true (entering world i) ≡ true → MayEnter host world i
  may_enter world i is =
      let epoch = (worker_at host world i).clock.at.epoch in
      let tests = each_true (entering world i) is in
      record { rolling = is_rolling world i tests.0; newer = ltb-true epoch world.newest tests.1.0; more = ltb-true epoch last_epoch tests.1.1.0 }

  -- what waits in the shard, which is its own, is of an epoch before its own
  abbrev scanning : World C → ℕ → Place → List Bool
  scanning world i place =
      let epoch = (worker_at host world i).clock.at.epoch in
      are_true (going_on world i) ∷ nat_lt place.shard (length world.shards) ∷ (place.seat == 0) ∷ (place.shard % length world.workers == i)
      ∷ nat_lt 0 epoch ∷ up_to (epoch - 1) (pending_of host (shard_at world place.shard).contents) ∷ []

  may_scan : (world : World C) (i : ℕ) (place : Place) → are_true (scanning world i place) ≡ true → Holds (worker_at host world i) place false
      → MayScan host world i place
  may_scan world i place is holds =
      let epoch = (worker_at host world i).clock.at.epoch in
      let tests = each_true (scanning world i place) is in
      record {
        rolling = is_rolling world i tests.0;
        shard = ltb-true place.shard (length world.shards) tests.1.0;
        first = eqb-true place.seat 0 tests.1.1.0;
        holds = holds;
        own = eqb-true (place.shard % length world.workers) i tests.1.1.1.0;
        before = epoch - 1;
        turned = omega (arith, ltb-true 0 epoch tests.1.1.1.1.0);
        earlier = are_up_to (epoch - 1) _ tests.1.1.1.1.1.0;
      }

  -- none of its shards has anything of an earlier epoch
  abbrev has_reached : World C → ℕ → ℕ → Bool
  has_reached world i s =
      not (s % length world.workers == i) || from_on (worker_at host world i).clock.at.epoch (pending_of host (shard_at world s).contents)

  abbrev finishing : World C → ℕ → List Bool
  finishing world i = are_true (going_on world i) ∷ below (length world.shards) (has_reached world i) ∷ []

  may_finish : (world : World C) (i : ℕ) → are_true (finishing world i) ≡ true → MayFinish host world i
  may_finish world i is = record { rolling = is_rolling world i tests.0; reached = λ s there own. go s own (below_all (length world.shards) (has_reached world i) tests.1.0 s there) }
    where
      tests : AllByRecursion (λ b. b ≡ true) (finishing world i)
      tests = each_true (finishing world i) is

      go : (s : ℕ) → s % length world.workers ≡ i → has_reached world i s ≡ true
          → AreFrom (worker_at host world i).clock.at.epoch (pending_of host (shard_at world s).contents)
      go s own reached =
          are_from (worker_at host world i).clock.at.epoch _
          (sym (ap (λ (b : Bool). not b || from_on (worker_at host world i).clock.at.epoch (pending_of host (shard_at world s).contents))
          (eq-eqb (s % length world.workers) i own)) ∙ reached)

  -- there is an epoch to come, and no number for it, or there are not two counters more behind the clock's own
  abbrev has_ended : World C → ℕ → Bool
  has_ended world i =
      let clock = (worker_at host world i).clock in
      ((clock.at.epoch == last_epoch) && nat_lt clock.at.epoch (epoch_of host world)) || nat_lt clock.end (clock.at.counter + 2)

  abbrev stopping : World C → ℕ → List Bool
  stopping world i = are_true (going_on world i) ∷ has_ended world i ∷ []

  may_stop : (world : World C) (i : ℕ) → are_true (stopping world i) ≡ true → MayStop host world i None
  may_stop world i is = record { rolling = is_rolling world i tests.0; ended = go _ refl tests.1.0 }
    where
      tests : AllByRecursion (λ b. b ≡ true) (stopping world i)
      tests = each_true (stopping world i) is

      clock : Reading
      clock = (worker_at host world i).clock

      go : (b : Bool) → ((clock.at.epoch == last_epoch) && nat_lt clock.at.epoch (epoch_of host world)) ≡ b → (b || nat_lt clock.end (clock.at.counter + 2)) ≡ true
          → HasEnded host world clock None
      go true last any =
          let parts = and_parts (clock.at.epoch == last_epoch) (nat_lt clock.at.epoch (epoch_of host world)) last in
          inl (eqb-true clock.at.epoch last_epoch parts.0, ltb-true clock.at.epoch (epoch_of host world) parts.1)
      go false last any = inr (inl (ltb-true clock.end (clock.at.counter + 2) any))

  -- ---- events

  -- the tests of an event answer yes
  abbrev pub IsTested : World C → WorldEvent R → Type 0
  IsTested world (takes i place) = are_true (taking world i place) ≡ true
  IsTested world (loses i place) = ⊥
  IsTested world (serves i place request) =
      (are_true (serving_at world i place request) ≡ true) × Holds (worker_at host world i) place false × NextIs world i request
  IsTested world (gives i place) = (are_true (serving world i) ≡ true) × ((used : Bool) × Holds (worker_at host world i) place used)
  IsTested world (advances i) = are_true (advancing world i) ≡ true
  IsTested world (moves i s) = are_true (moving world i s) ≡ true
  IsTested world opens = ⊥
  IsTested world (raises i) = are_true (raising world i) ≡ true
  IsTested world (enters i) = are_true (entering world i) ≡ true
  IsTested world (scans i place) = (are_true (scanning world i place) ≡ true) × Holds (worker_at host world i) place false
  IsTested world (finishes i) = are_true (finishing world i) ≡ true
  IsTested world (stops i None) = are_true (stopping world i) ≡ true
  IsTested world (stops i (Some element)) = ⊥

  abbrev pub AreTested : World C → List (WorldEvent R) → Type 0
  AreTested world [] = Unit {0}
  AreTested world (event ∷ events) = IsTested world event × AreTested (step host world event) events

  is_enabled : (world : World C) (event : WorldEvent R) → IsTested world event → IsEnabled host world event
  is_enabled world (takes i place) is = may_take world i place is
  is_enabled world (loses i place) is = absurd is
  is_enabled world (serves i place request) is = may_serve world i place request is.0 is.1 is.2
  is_enabled world (gives i place) is = record { serving = is_serving world i is.0; holds = is.1 }
  is_enabled world (advances i) is = may_advance world i is
  is_enabled world (moves i s) is = may_move world i s is
  is_enabled world opens is = absurd is
  is_enabled world (raises i) is = may_raise world i is
  is_enabled world (enters i) is = may_enter world i is
  is_enabled world (scans i place) is = may_scan world i place is.0 is.1
  is_enabled world (finishes i) is = may_finish world i is
  is_enabled world (stops i None) is = may_stop world i is
  is_enabled world (stops i (Some element)) is = absurd is

  -- Events of which all tests answer yes are enabled.
  pub are_enabled : (world : World C) (events : List (WorldEvent R)) → AreTested world events → AreEnabled host world events
  are_enabled world [] is = tt
  are_enabled world (event ∷ events) is = (is_enabled world event is.0, are_enabled (step host world event) events is.1)
