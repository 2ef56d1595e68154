-- A serving is a turn of a round, and what is told of a phase's servings is told of its turns.
use Rattle.std.proofs.Common.{◌≡◌, ℕ, suc, ◌+◌, ◌-◌, Bool, true, false, cond, List, [], ◌∷◌, ◌++◌, map, length, get_or, replicate, Some, refl, sym, ◌∙◌, ap, subst, arith}
use Rattle.std.specs.List.{AllByRecursion}
use Rattle.std.specs.List.Sorted.{IsPermutation}
use Rattle.std.proofs.Math.ListN.{get_or-map}
use Rattle.std.proofs.lemmas.Bool.{false≢true}
use Rattle.std.proofs.lemmas.List.{map-append}
use Rattle.std.proofs.lemmas.List.Sorted.{IsPermutation-map}
use Rattle.lamport_clocks.specs.Reading.{Reading}
use Rattle.record_text.specs.declared.element.Element.{Element}
use Rattle.log_codec.specs.declared.command.Command.{Command}
use Rattle.log_codec.specs.declared.command.Command.TheVariants.{NextEpoch}
use Rattle.stamp_order.specs.InOrder.{put_in_order}
use Rattle.stamp_order.specs.Merged.{comes_before}
use Rattle.stamp_order.proofs.InOrderLaws.{every-weaker}
use Rattle.host_core.specs.Host.{Host}
use Rattle.host_core.specs.World.{Place, World, worker_at, shard_at, epoch_of}
use Rattle.host_core.specs.WorldEvent.{WorldEvent, takes, serves, gives, run_events}
use Rattle.host_core.specs.Deeds.{IsStamped, pending_of}
use Rattle.round_order.specs.Turn.{Turn, turn_moment}
use Rattle.round_order.specs.Turn as turn
use Rattle.round_order.specs.Steady as steadiness
use Rattle.round_order.specs.Told.{IsLevel}
use Rattle.round_order.specs.Told as round
use Rattle.round_order.specs.Phase as phase
use Rattle.round_order.proofs.ChainLaws.{Found}
use Rattle.host_order.specs.Serving.{Serving, serving_moment, IsPlaceChain, IsWorkerChain, content_behind, clock_behind, commands_in, content_at, in_one_order, replay}
use Rattle.host_order.specs.Steady.{IsSteady}
use Rattle.host_order.specs.Told.{joined, joined_pasts, list_of, past_of, IsServed, IsAtRest, AreTold, AreDone}

-- what holds of each that a list is made of
every-map : {X Y : Type 0} (P : Y → Type 0) (f : X → Y) (xs : List X) → AllByRecursion (λ x. P (f x)) xs → AllByRecursion P (map f xs)
every-map P f [] all = tt
every-map P f (x ∷ xs) all = (all.0, every-map P f xs all.1)

pub every-unmap : {X Y : Type 0} (P : Y → Type 0) (f : X → Y) (xs : List X) → AllByRecursion P (map f xs) → AllByRecursion (λ x. P (f x)) xs
every-unmap P f [] all = tt
every-unmap P f (x ∷ xs) all = (all.0, every-unmap P f xs all.1)

module _ {C R : Type 0} where
  abbrev pub turn_of : Serving C R → Turn C R
  turn_of serving = record {
    place = serving.place;
    worker = serving.worker;
    clock = serving.clock;
    before = serving.before;
    request = Some serving.request;
    done = serving.done;
  }

  abbrev pub turns_of : List (Serving C R) → List (Turn C R)
  turns_of servings = map turn_of servings

  abbrev pub lists_of : List (List (Serving C R)) → List (List (Turn C R))
  lists_of lists = map turns_of lists

  abbrev pub pasts_of : List (List (List (Serving C R))) → List (List (List (Turn C R)))
  pasts_of pasts = map lists_of pasts

  -- ---- lists

  pub list_is : (lists : List (List (Serving C R))) (i : ℕ) → round.list_of (lists_of lists) i ≡ turns_of (list_of lists i)
  list_is lists i = get_or-map turns_of lists i []

  pub past_is : (pasts : List (List (List (Serving C R)))) (place : Place) → round.past_of (pasts_of pasts) place ≡ turns_of (past_of pasts place)
  past_is pasts place =
      ap (λ (all : List (List (Turn C R))). get_or all place.seat []) (get_or-map lists_of pasts place.shard [])
      ∙ get_or-map turns_of (get_or pasts place.shard []) place.seat []

  joined_is : (lists : List (List (Serving C R))) → round.joined (lists_of lists) ≡ turns_of (joined lists)
  joined_is [] = refl
  joined_is (servings ∷ lists) =
      ap (λ (rest : List (Turn C R)). turns_of servings ++ rest) (joined_is lists) ∙ sym (map-append turn_of servings (joined lists))

  joined_pasts_is : (pasts : List (List (List (Serving C R)))) → round.joined_pasts (pasts_of pasts) ≡ turns_of (joined_pasts pasts)
  joined_pasts_is [] = refl
  joined_pasts_is (lists ∷ pasts) =
      ap (λ (rest : List (Turn C R)). round.joined (lists_of lists) ++ rest) (joined_pasts_is pasts)
      ∙ ap (λ (front : List (Turn C R)). front ++ turns_of (joined_pasts pasts)) (joined_is lists)
      ∙ sym (map-append turn_of (joined lists) (joined_pasts pasts))

  put_is : (serving : Serving C R) (servings : List (Serving C R))
      → put_in_order (comes_before turn_moment) (turn_of serving) (turns_of servings) ≡ turns_of (put_in_order (comes_before serving_moment) serving servings)
  put_is serving [] = refl
  put_is serving (first ∷ servings) = go (comes_before serving_moment first serving) (put_is serving servings)
    where
      go : (b : Bool) → put_in_order (comes_before turn_moment) (turn_of serving) (turns_of servings) ≡ turns_of (put_in_order (comes_before serving_moment) serving servings)
          → cond b (turn_of first ∷ put_in_order (comes_before turn_moment) (turn_of serving) (turns_of servings)) (turn_of serving ∷ turn_of first ∷ turns_of servings)
          ≡ turns_of (cond b (first ∷ put_in_order (comes_before serving_moment) serving servings) (serving ∷ first ∷ servings))
      go true rest = ap (λ (turns : List (Turn C R)). turn_of first ∷ turns) rest
      go false rest = refl

  order_is : (servings : List (Serving C R)) → turn.in_one_order (turns_of servings) ≡ turns_of (in_one_order servings)
  order_is [] = refl
  order_is (serving ∷ servings) =
      ap (put_in_order (comes_before turn_moment) (turn_of serving)) (order_is servings) ∙ put_is serving (in_one_order servings)

  -- The one order of the turns is that of the servings.
  pub turns_are : (lists : List (List (Serving C R))) → turn.in_one_order (round.joined (lists_of lists)) ≡ turns_of (in_one_order (joined lists))
  turns_are lists = ap (λ (turns : List (Turn C R)). turn.in_one_order turns) (joined_is lists) ∙ order_is (joined lists)

  pub replay_is : (servings : List (Serving C R)) → phase.replay (turns_of servings) ≡ replay servings
  replay_is [] = refl
  replay_is (serving ∷ servings) =
      ap (λ (events : List (WorldEvent R)). takes serving.worker serving.place ∷ serves serving.worker serving.place serving.request ∷ gives serving.worker serving.place ∷ events)
      (replay_is servings)

  -- ---- what they leave

  pub content_is : (content : C) (servings : List (Serving C R)) → turn.content_behind content (turns_of servings) ≡ content_behind content servings
  content_is content [] = refl
  content_is content (serving ∷ servings) = content_is serving.done.after servings

  pub clock_is : (clock : Reading) (servings : List (Serving C R)) → turn.clock_behind clock (turns_of servings) ≡ clock_behind clock servings
  clock_is clock [] = refl
  clock_is clock (serving ∷ servings) = clock_is serving.done.clock servings

  pub served_is : (served : ℕ) (servings : List (Serving C R)) → turn.served_behind served (turns_of servings) ≡ served + length servings
  served_is served [] = omega arith
  served_is served (serving ∷ servings) = served_is (suc served) servings ∙ omega arith

module _ {C R : Type 0} (host : Host C R) where
  -- what is done at a serving moves the clock on, from a clock of the epoch
  pub record IsOf (epoch : ℕ) (serving : Serving C R) : Type 0 where
    pub moves : steadiness.MovesOn host serving.clock serving.before serving.done
    pub of_epoch : serving.clock.at.epoch ≡ epoch

  -- Servings of one epoch log their commands alone.
  pub logged_is : (epoch : ℕ) (clock : Reading) (servings : List (Serving C R)) → clock.at.epoch ≡ epoch → AllByRecursion (IsOf epoch) servings
      → turn.logged epoch clock (turns_of servings) ≡ commands_in servings
  logged_is epoch clock [] is each =
      let none' : epoch - clock.at.epoch ≡ 0 = omega (arith, is) in
      ap (λ (n : ℕ). replicate n NextEpoch) none'
  logged_is epoch clock (serving ∷ servings) is each =
      let none' : serving.clock.at.epoch - clock.at.epoch ≡ 0 = omega (arith, is, each.0.of_epoch) in
      ap (λ (n : ℕ). replicate n NextEpoch ++ (serving.done.commands ++ turn.logged epoch serving.done.clock (turns_of servings))) none'
      ∙ ap (λ (rest : List Command). serving.done.commands ++ rest)
      (logged_is epoch serving.done.clock servings (each.0.moves.epoch ∙ each.0.of_epoch) each.1)

  pub end_is : (epoch : ℕ) (clock : Reading) (servings : List (Serving C R)) → clock.at.epoch ≡ epoch → AllByRecursion (IsOf epoch) servings
      → (clock_behind clock servings).at.epoch ≡ epoch
  end_is epoch clock [] is each = is
  end_is epoch clock (serving ∷ servings) is each = end_is epoch serving.done.clock servings (each.0.moves.epoch ∙ each.0.of_epoch) each.1

  -- ---- what is told

  pub turns_steady : IsSteady host → steadiness.IsSteady host false
  turns_steady steady = record {
    serves_on = λ i clock before request done one is. let moves = steady.moves_on i clock before request done one is in
        record { epoch = moves.epoch; later = moves.later; above = moves.above; new = moves.new };
    scans_on = λ scanned. absurd (false≢true scanned);
    owners = steady.owners;
    scan_owners = λ scanned. absurd (false≢true scanned);
    waits = steady.waits;
  }

  chain_is : (number i : ℕ) (servings : List (Serving C R)) (clock : Reading) (served : ℕ) → IsWorkerChain host number i clock served servings
      → phase.IsPhaseChain host number i clock served (turns_of servings)
  chain_is number i [] clock served chain = tt
  chain_is number i (serving ∷ servings) clock served chain = (chain.0, chain.1, chain_is number i servings serving.done.clock (suc served) chain.2)

  place_chain_is : (servings : List (Serving C R)) (content : C) → IsPlaceChain content servings → turn.IsPlaceChain content (turns_of servings)
  place_chain_is [] content chain = tt
  place_chain_is (serving ∷ servings) content chain = (chain.0, place_chain_is servings serving.done.after chain.1)

  module _ (world : World C) where
    pub rest_level : IsAtRest host world → IsLevel host world (epoch_of host world)
    rest_level rest = record {
      going = rest.going;
      phase = rest.phase;
      idle = rest.idle;
      clocks = (rest.epochs rest.phase).0;
      waits = λ s there.
          every-weaker (IsStamped host (epoch_of host world)) (λ (element : Element). element.stamp.epoch ≡ epoch_of host world) (λ element stamped. stamped.1)
          (pending_of host (shard_at world s).contents) ((rest.epochs rest.phase).1 s there);
    }

    turn_served : (serving : Serving C R) → IsServed host world serving → phase.IsServedTurn host world (turn_of serving)
    turn_served serving is = record {
      there = is.may.there;
      at = is.may.at;
      running = is.may.running;
      did = (is.may.owns, is.serves);
    }

    pub turns_told : (lists : List (List (Serving C R))) (pasts : List (List (List (Serving C R)))) → AreTold host world lists pasts
        → phase.ArePhaseTold host world (lists_of lists) (pasts_of pasts)
    turns_told lists pasts told = record {
      served = subst (AllByRecursion (phase.IsServedTurn host world)) (sym (joined_is lists))
          (every-map (phase.IsServedTurn host world) turn_of (joined lists)
          (every-weaker (IsServed host world) (λ serving. phase.IsServedTurn host world (turn_of serving)) turn_served (joined lists) told.served));
      same = subst (λ (turns : List (Turn C R)). IsPermutation turns (round.joined_pasts (pasts_of pasts))) (sym (joined_is lists))
          (subst (IsPermutation (turns_of (joined lists))) (sym (joined_pasts_is pasts)) (IsPermutation-map turn_of (joined lists) (joined_pasts pasts) told.same));
      own_worker = λ i. subst (AllByRecursion (λ (t : Turn C R). t.worker ≡ i)) (sym (list_is lists i))
          (every-map (λ (t : Turn C R). t.worker ≡ i) turn_of (list_of lists i) (told.own_worker i));
      own_place = λ place. subst (AllByRecursion (λ (t : Turn C R). t.place ≡ place)) (sym (past_is pasts place))
          (every-map (λ (t : Turn C R). t.place ≡ place) turn_of (past_of pasts place) (told.own_place place));
      workers = λ i. subst (phase.IsPhaseChain host world.phase i (worker_at host world i).clock (worker_at host world i).served) (sym (list_is lists i))
          (chain_is world.phase i (list_of lists i) (worker_at host world i).clock (worker_at host world i).served (told.workers i));
      places = λ place. subst (turn.IsPlaceChain (content_at host world place)) (sym (past_is pasts place))
          (place_chain_is (past_of pasts place) (content_at host world place) (told.places place));
    }

  -- Servings that find their clocks and contents are done as they are told.
  pub found_done : (servings : List (Serving C R)) (world : World C)
      → AllByRecursion (λ serving. host.serve serving.worker serving.clock serving.before serving.request ≡ Some serving.done) servings
      → Found host world (turns_of servings) → AreDone host world servings
  found_done [] world each found = tt
  found_done (serving ∷ servings) world each found = (
    ap (λ (c : Reading). host.serve serving.worker c (content_at host world serving.place) serving.request) (sym found.0)
        ∙ ap (λ (x : C). host.serve serving.worker serving.clock x serving.request) (sym found.1)
        ∙ each.0,
    found_done servings (run_events host world (replay (serving ∷ []))) each.1 found.2,
  )
