-- A phase is a round of one epoch.
use Rattle.std.proofs.Common.{◌≡◌, ℕ, suc, ◌-◌, ◌<◌, ◌≤◌, false, List, [], ◌∷◌, ◌++◌, length, Option, Some, None, refl, sym, ◌∙◌, ap, subst, true≢false, arith}
use Rattle.std.specs.List.{AllByRecursion}
use Rattle.lamport_clocks.specs.Reading.{Reading}
use Rattle.lamport_clocks.specs.declared.stamp.Stamp.{Stamp}
use Rattle.record_text.specs.declared.element.Element.{Element}
use Rattle.stamp_order.specs.Merged.{comes_before}
use Rattle.stamp_order.proofs.InOrderLaws.{every-weaker, every-in_order}
use Rattle.host_core.specs.Host.{Host}
use Rattle.host_core.specs.World.{Place, World, worker_at, shard_at, epoch_of}
use Rattle.host_core.specs.WorldEvent.{WorldEvent, IsPlace, AreEnabled, run_events}
use Rattle.round_order.specs.Turn.{Turn, turn_moment, served_more, IsPlaceChain, IsWorkerChain, IsAsked, content_behind, clock_behind, content_at, in_one_order}
use Rattle.round_order.specs.Steady.{HasOne, IsSteady}
use Rattle.round_order.specs.Told.{IsTaken, IsLevel, CanRoll, AreTold, EndsWith, joined, list_of, past_of, climb, done_events, round_events}
use Rattle.round_order.specs.Phase.{IsOfPhase, IsPhaseChain, IsServedTurn, ArePhaseTold, replay, IsRoundOfOne, PhasesAreRounds}
use Rattle.round_order.proofs.GoingLaws.{on_to-there}
use Rattle.round_order.proofs.WayLemmas.{Way}
use Rattle.round_order.proofs.ReadyLemmas.{IsMoving}
use Rattle.round_order.proofs.ChainLaws.{Found, LeadsTo, found}
use Rattle.round_order.proofs.RoundLaws.{round_led, round_ready, ends_told}
use Rattle.round_order.proofs.RisingLemmas.{did_moves, one_there}
use Rattle.round_order.proofs.PartLemmas.{content_part, every-joined, every-part}
use Rattle.round_order.proofs.PastLemmas.{past_part, every-past, to_pasts, to_lists}

module _ {C R : Type 0} (host : Host C R) (steady : IsSteady host false) (world : World C) (level : IsLevel host world (epoch_of host world))
    (lists : List (List (Turn C R))) (pasts : List (List (List (Turn C R)))) (told : ArePhaseTold host world lists pasts) where
  abbrev pub epoch : ℕ
  epoch = epoch_of host world

  -- ---- each turn was at a content with one element, from a clock of the epoch

  pub record IsServedAt (turn : Turn C R) : Type 0 where
    pub served : IsServedTurn host world turn
    pub one : HasOne host turn.before

  pub moves : (turn : Turn C R) → IsServedAt turn → IsMoving host turn
  moves turn is = did_moves host false steady world turn is.served.did is.one

  place-at : (content : C) (turns : List (Turn C R)) → HasOne host content → IsPlaceChain content turns
      → AllByRecursion (IsServedTurn host world) turns → AllByRecursion IsServedAt turns
  place-at content [] one chain each = tt
  place-at content (turn ∷ turns) one chain each =
      let at : IsServedAt turn = record { served = each.0; one = subst (HasOne host) (sym chain.0) one } in
      let new = (moves turn at).new in
      (at, place-at turn.done.after turns (new.0, new.1) chain.1 each.1)

  past_at : (place : Place) → AllByRecursion IsServedAt (past_of pasts place)
  past_at place =
      go (past_of pasts place) (past_part pasts (IsServedTurn host world) place (to_pasts lists pasts told.same (IsServedTurn host world) told.served)) (told.own_place place) (told.places place)
    where
      go : (turns : List (Turn C R)) → AllByRecursion (IsServedTurn host world) turns → AllByRecursion (λ turn. turn.place ≡ place) turns
          → IsPlaceChain (content_at host world place) turns → AllByRecursion IsServedAt turns
      go [] each own chain = tt
      go (turn ∷ turns) each own chain =
          place-at (content_at host world place) (turn ∷ turns)
          (subst (λ (p : Place). HasOne host (content_at host world p)) own.0
          (one_there host false steady world turn turn.request (chain.0 ∙ ap (content_at host world) (sym own.0)) each.0.did))
          chain each

  list_at : (i : ℕ) → AllByRecursion IsServedAt (list_of lists i)
  list_at i = every-part IsServedAt lists i (to_lists lists pasts told.same IsServedAt (every-past pasts IsServedAt past_at))

  pub record IsOf (turn : Turn C R) : Type 0 where
    pub at : IsServedAt turn
    pub of_epoch : turn.clock.at.epoch ≡ epoch

  worker-of : (i : ℕ) (turns : List (Turn C R)) (served : ℕ) (clock : Reading) → clock.at.epoch ≡ epoch → IsPhaseChain host world.phase i clock served turns
      → AllByRecursion IsServedAt turns → AllByRecursion IsOf turns
  worker-of i [] served clock is chain each = tt
  worker-of i (turn ∷ turns) served clock is chain each =
      let here : turn.clock.at.epoch ≡ epoch = ap (λ (c : Reading). c.at.epoch) chain.0 ∙ is in (
        record { at = each.0; of_epoch = here },
        worker-of i turns (served_more served turn.request) turn.done.clock ((moves turn each.0).epoch ∙ here) chain.2 each.1,
      )

  -- a worker with a list is there
  pub list_of_epoch : (i : ℕ) → AllByRecursion IsOf (list_of lists i)
  list_of_epoch i = go (list_of lists i) (list_at i) (told.own_worker i) (told.workers i)
    where
      go : (turns : List (Turn C R)) → AllByRecursion IsServedAt turns → AllByRecursion (λ turn. turn.worker ≡ i) turns
          → IsPhaseChain host world.phase i (worker_at host world i).clock (worker_at host world i).served turns → AllByRecursion IsOf turns
      go [] each own chain = tt
      go (turn ∷ turns) each own chain =
          let there : i < length world.workers = subst (λ (n : ℕ). n < length world.workers) own.0 each.0.served.there in
          worker-of i (turn ∷ turns) (worker_at host world i).served (worker_at host world i).clock (level.clocks i there) chain each

  all_of : AllByRecursion IsOf (joined lists)
  all_of = every-joined IsOf lists list_of_epoch

  pub past_of_epoch : (place : Place) → AllByRecursion IsOf (past_of pasts place)
  past_of_epoch place = past_part pasts IsOf place (to_pasts lists pasts told.same IsOf all_of)

  -- ---- what waits is of the epoch

  abbrev pub AreOf : C → Type 0
  AreOf content = AllByRecursion (λ (element : Element). element.stamp.epoch ≡ epoch) (host.pending content)

  after_of : (turn : Turn C R) → IsOf turn → AreOf turn.done.after
  after_of turn is =
      let moved = moves turn is.at in
      subst (AllByRecursion (λ (element : Element). element.stamp.epoch ≡ epoch)) (sym moved.new.1)
      (ap (λ (s : Stamp). s.epoch) moved.new.2 ∙ moved.epoch ∙ is.of_epoch, tt)

  place-of : (content : C) (turns : List (Turn C R)) → AreOf content → IsPlaceChain content turns → AllByRecursion IsOf turns
      → AllByRecursion (λ turn. AreOf turn.before) turns × AreOf (content_behind content turns)
  place-of content [] is chain each = (tt, is)
  place-of content (turn ∷ turns) is chain each =
      let rest = place-of turn.done.after turns (after_of turn each.0) chain.1 each.1 in
      ((subst AreOf (sym chain.0) is, rest.0), rest.1)

  pub content_of : (place : Place) → IsPlace world place → AreOf (content_at host world place)
  content_of place at =
      content_part (λ (element : Element). element.stamp.epoch ≡ epoch) host.pending (shard_at world place.shard).contents place.seat host.vacant at.1
      (level.waits place.shard at.0)

  to_taken : (turn : Turn C R) → IsOf turn → AreOf turn.before → IsTaken host false world turn
  to_taken turn is waiting = record {
    there = is.at.served.there;
    at = is.at.served.at;
    running = is.at.served.running;
    reached = every-weaker (λ (element : Element). element.stamp.epoch ≡ epoch) (λ (element : Element). element.stamp.epoch ≤ turn.clock.at.epoch)
        (λ element of. omega (arith, of, is.of_epoch)) (host.pending turn.before) waiting;
    near = every-weaker (λ (element : Element). element.stamp.epoch ≡ epoch) (λ (element : Element). turn.clock.at.epoch ≤ suc element.stamp.epoch)
        (λ element of. omega (arith, of, is.of_epoch)) (host.pending turn.before) waiting;
    alone = λ scanned. absurd (true≢false (sym scanned));
    did = is.at.served.did;
  }

  past_taken : (place : Place) → AllByRecursion (IsTaken host false world) (past_of pasts place)
  past_taken place = go (past_of pasts place) (past_of_epoch place) (told.own_place place) (told.places place)
    where
      each-taken : (turns : List (Turn C R)) → AllByRecursion IsOf turns → AllByRecursion (λ turn. AreOf turn.before) turns → AllByRecursion (IsTaken host false world) turns
      each-taken [] each waiting = tt
      each-taken (turn ∷ turns) each waiting = (to_taken turn each.0 waiting.0, each-taken turns each.1 waiting.1)

      go : (turns : List (Turn C R)) → AllByRecursion IsOf turns → AllByRecursion (λ turn. turn.place ≡ place) turns
          → IsPlaceChain (content_at host world place) turns → AllByRecursion (IsTaken host false world) turns
      go [] each own chain = tt
      go (turn ∷ turns) each own chain =
          let at : IsPlace world place = subst (IsPlace world) own.0 each.0.at.served.at in
          each-taken (turn ∷ turns) each (place-of (content_at host world place) (turn ∷ turns) (content_of place at) chain each).0

  -- ---- each worker's list

  to_asked : (i served at : ℕ) (request : Option R) → at ≡ epoch → IsOfPhase host world.phase i served request → IsAsked host i served at request
  to_asked i served at None is next = absurd next
  to_asked i served at (Some request) is next = (world.phase, next, omega (arith, is))

  to_chain : (i : ℕ) (turns : List (Turn C R)) (served : ℕ) (clock : Reading) → IsPhaseChain host world.phase i clock served turns → AllByRecursion IsOf turns
      → IsWorkerChain host i clock served turns
  to_chain i [] served clock chain each = tt
  to_chain i (turn ∷ turns) served clock chain each =
      let same : clock.at.epoch ≡ turn.clock.at.epoch = ap (λ (c : Reading). c.at.epoch) (sym chain.0) in (
        chain.0 ∙ sym (on_to-there turn.clock.at.epoch clock (omega (arith, same))),
        omega (arith, same),
        to_asked i served turn.clock.at.epoch turn.request each.0.of_epoch chain.1,
        to_chain i turns (served_more served turn.request) turn.done.clock chain.2 each.1,
      )

  pub clock-end : (turns : List (Turn C R)) (clock : Reading) → clock.at.epoch ≡ epoch → AllByRecursion IsOf turns → (clock_behind clock turns).at.epoch ≡ epoch
  clock-end [] clock is each = is
  clock-end (turn ∷ turns) clock is each = clock-end turns turn.done.clock ((moves turn each.0.at).epoch ∙ each.0.of_epoch) each.1

  -- ---- the round

  round_told : AreTold host false world epoch (λ i. epoch) lists pasts
  round_told = record {
    taken = to_lists lists pasts told.same (IsTaken host false world) (every-past pasts (IsTaken host false world) past_taken);
    same = told.same;
    own_worker = told.own_worker;
    own_place = told.own_place;
    workers = λ i. to_chain i (list_of lists i) (worker_at host world i).served (worker_at host world i).clock (told.workers i) (list_of_epoch i);
    places = told.places;
    final = λ i there. (
      omega (arith, clock-end (list_of lists i) (worker_at host world i).clock (level.clocks i there) (list_of_epoch i)),
      omega arith,
      omega arith,
    );
    ends = λ place at.
        every-weaker (λ (element : Element). element.stamp.epoch ≡ epoch) (λ (element : Element). epoch ≤ suc element.stamp.epoch)
        (λ element of. omega (arith, of)) (host.pending (content_behind (content_at host world place) (past_of pasts place)))
        (place-of (content_at host world place) (past_of pasts place) (content_of place at) (told.places place) (past_of_epoch place)).1;
  }

  -- from an epoch to itself there is nothing to do
  no_climb : (n from to : ℕ) → to ≡ from → climb {R = R} (λ i. epoch) n from (to - from) ≡ []
  no_climb n from to is =
      let none' : to - from ≡ 0 = omega (arith, is) in
      ap (climb {R = R} (λ i. epoch) n from) none'

  turns_alone : (n from : ℕ) (turns : List (Turn C R)) → from ≡ epoch → AllByRecursion IsOf turns → round_events (λ i. epoch) n epoch from turns ≡ replay turns
  turns_alone n from [] is each = no_climb n from epoch (sym is)
  turns_alone n from (turn ∷ turns) is each =
      ap (λ (events : List (WorldEvent R)). events ++ (done_events turn ++ round_events (λ i. epoch) n epoch turn.clock.at.epoch turns))
      (no_climb n from turn.clock.at.epoch (each.0.of_epoch ∙ sym is))
      ∙ ap (λ (events : List (WorldEvent R)). done_events turn ++ events) (turns_alone n turn.clock.at.epoch turns each.0.of_epoch each.1)

  pub round_of_one : IsRoundOfOne host world lists pasts
  round_of_one = record {
    told = round_told;
    events = turns_alone (length world.workers) epoch (in_one_order (joined lists)) refl (every-in_order (comes_before turn_moment) IsOf (joined lists) all_of);
  }

  -- ---- as events

  abbrev pub turns : List (Turn C R)
  turns = in_one_order (joined lists)

  -- The turns of a phase are enabled, one behind the other; each finds its worker's clock and its place's content; and they lead
  -- where all is as it is told.
  pub record IsPlayed : Type 0 where
    pub later : World C
    pub enabled : AreEnabled host world (replay turns)
    pub is : run_events host world (replay turns) ≡ later
    pub found : Found host world turns
    pub leads : LeadsTo host false steady epoch (λ i. epoch) world later turns
    pub ends : EndsWith host world later epoch (λ i. epoch) lists pasts

  pub played : IsPlayed
  played =
      let roll : epoch < epoch → CanRoll host world epoch epoch = λ less. absurd (omega (arith, less)) in
      let led = round_led host false steady world epoch epoch (λ i. epoch) level lists pasts round_told (omega arith) roll in
      let way : Way host world (replay turns) led.later = subst (λ (events : List (WorldEvent R)). Way host world events led.later) round_of_one.events led.way in
      record {
        later = led.later;
        enabled = way.enabled;
        is = way.is;
        found = found host false steady epoch (λ i. epoch) turns world epoch
            (round_ready host false steady world epoch epoch (λ i. epoch) level lists pasts round_told (omega arith) roll)
            (every-weaker IsOf (λ turn. turn.clock.at.epoch ≡ epoch) (λ turn is. is.of_epoch) turns (every-in_order (comes_before turn_moment) IsOf (joined lists) all_of));
        leads = led.leads;
        ends = ends_told host false steady world epoch epoch (λ i. epoch) level lists pasts round_told led.later led.leads;
      }

-- What is told of a phase is told of a round.
pub phases_are_rounds : {C R : Type 0} (host : Host C R) → PhasesAreRounds host
phases_are_rounds host world lists pasts steady level told = round_of_one host steady world level lists pasts told
