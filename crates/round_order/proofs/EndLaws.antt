-- How a round ends: all note that their shards are of the last epoch, and it is over; or some workers stop.
use Rattle.std.proofs.Common.{◌≡◌, ◌≢◌, ◌⊎◌, ℕ, zero, suc, ◌+◌, ◌<◌, ◌≤◌, ◌==◌, ◌||◌, Bool, true, false, List, [], ◌∷◌, length, get_or, set, slice_get, Option, None, refl, sym, ◌∙◌, ap, subst, inl, inr, arith}
use Rattle.std.specs.List.{AllByRecursion}
use Rattle.std.proofs.lemmas.Bool.{cases_eq, eq-eqb, ne_eqb}
use Rattle.std.proofs.lemmas.Option.{none-some}
use Rattle.std.proofs.lemmas.List.{length-set, get_or-set_same, get_or-set_other}
use Rattle.lamport_clocks.specs.Reading.{Reading}
use Rattle.lamport_clocks.specs.Clock.{last_epoch}
use Rattle.record_text.specs.declared.element.Element.{Element}
use Rattle.stamp_order.proofs.InOrderLaws.{every-weaker}
use Rattle.host_core.specs.Host.{Host, asked}
use Rattle.host_core.specs.World.{Worker, Seats, World, unmoved, fresh, worker_at, shard_at, epoch_of}
use Rattle.host_core.specs.WorldEvent.{WorldEvent, IsPlace, AreFrom, IsPhaseOver, IsRoundOver, HasEnded, MayStop, with_worker, run_events}
use Rattle.host_core.specs.WorldEvent as machine
use Rattle.host_core.specs.Deeds.{pending_of}
use Rattle.round_order.specs.Turn.{Turn, in_one_order}
use Rattle.round_order.specs.Steady.{IsSteady}
use Rattle.round_order.specs.Told.{IsLevel, CanRoll, AreTold, IsRaised, joined, finishes_from, round_events, EndsWith, final_clock, IsWholeRound, whole_events, EndsWhole, RoundStop, IsInTheWay, IsStopTold, AreOfOthers, stop_events, stops_by, stopped_events, EndsStopped, EndsRounds}
use Rattle.round_order.proofs.GoingLaws.{aim-past}
use Rattle.round_order.proofs.WayLemmas.{Way, way-none, way-then, way-cons}
use Rattle.round_order.proofs.NoteLemmas.{note, note-length, note-at, CanNote, marked, finishes_way}
use Rattle.round_order.proofs.ReadyLemmas.{every-content}
use Rattle.round_order.proofs.ChainLaws.{Led}
use Rattle.round_order.proofs.RoundLaws.{turns, round_led, round_raised, ends_told}

-- a worker but for whether it is stopped
abbrev unflagged : Worker → Worker
unflagged worker = record worker { stopped = false }

-- what a change of one element leaves of it, it leaves of all
shows-set : {X Y : Type 0} (show : X → Y) (xs : List X) (i : ℕ) (x d : X) → show x ≡ show (get_or xs i d)
    → (j : ℕ) → show (get_or (set xs i x) j d) ≡ show (get_or xs j d)
shows-set show [] i x d same j = refl
shows-set show (y ∷ xs) zero x d same zero = same
shows-set show (y ∷ xs) zero x d same (suc j) = refl
shows-set show (y ∷ xs) (suc i) x d same zero = refl
shows-set show (y ∷ xs) (suc i) x d same (suc j) = shows-set show xs i x d same j

module _ {C R : Type 0} (host : Host C R) where
  -- the other world is the later one but for flags and notes
  record IsLike (later other : World C) : Type 0 where
    pub shards : other.shards ≡ later.shards
    pub count : length other.workers ≡ length later.workers
    pub marks : length other.scanned ≡ length later.scanned
    pub same : (i : ℕ) → unflagged (worker_at host other i) ≡ unflagged (worker_at host later i)
    pub phase : other.phase ≡ later.phase
    pub closing : other.closing ≡ later.closing
    pub over : other.over ≡ later.over

  -- what is told of the one is told of the other
  ends-like : (world : World C) (top : ℕ) (finals : ℕ → ℕ) (lists : List (List (Turn C R))) (pasts : List (List (List (Turn C R)))) (later other : World C)
      → IsLike later other → EndsWith host world later top finals lists pasts → EndsWith host world other top finals lists pasts
  ends-like world top finals lists pasts later other like ends = record {
    contents = λ place. ap (λ (all : List (Seats C)). get_or (get_or all place.shard (unmoved [])).contents place.seat host.vacant) like.shards ∙ ends.contents place;
    logs = λ i there. ap (λ (w : Worker). w.log) (like.same i) ∙ ends.logs i there;
    clocks = λ i there. ap (λ (w : Worker). w.clock) (like.same i) ∙ ends.clocks i there;
    served = λ i. ap (λ (w : Worker). w.served) (like.same i) ∙ ends.served i;
    stuck = λ i. ap (λ (w : Worker). w.stuck) (like.same i) ∙ ends.stuck i;
    counts = (like.count ∙ ends.counts.0, ap (λ (all : List (Seats C)). length all) like.shards ∙ ends.counts.1, like.marks ∙ ends.counts.2);
    idle = λ i there. ap (λ (w : Worker). w.holds) (like.same i) ∙ ends.idle i there;
    phase = (like.phase ∙ ends.phase.0, like.closing ∙ ends.phase.1, like.over ∙ ends.phase.2);
  }

  -- ---- stops, one behind the other

  abbrev stopped_one : World C → ℕ → World C
  stopped_one world i = with_worker world i (record (worker_at host world i) { stopped = true })

  abbrev stopped_all : World C → List RoundStop → World C
  stopped_all world [] = world
  stopped_all world (stop ∷ list) = stopped_all (stopped_one world stop.worker) list

  like-one : (later world : World C) (i : ℕ) → IsLike later world → IsLike later (stopped_one world i)
  like-one later world i like = record {
    shards = like.shards;
    count = length-set world.workers i (record (worker_at host world i) { stopped = true }) ∙ like.count;
    marks = like.marks;
    same = λ j. shows-set unflagged world.workers i (record (worker_at host world i) { stopped = true }) (fresh host.header) refl j ∙ like.same j;
    phase = like.phase;
    closing = like.closing;
    over = like.over;
  }

  like-all : (later : World C) (list : List RoundStop) (world : World C) → IsLike later world → IsLike later (stopped_all world list)
  like-all later [] world like = like
  like-all later (stop ∷ list) world like = like-all later list (stopped_one world stop.worker) (like-one later world stop.worker like)

  -- a clock that has ended in the one world has in the other
  ended-like : (later world : World C) → IsLike later world → (clock : Reading) (found : Option Element) → HasEnded host later clock found → HasEnded host world clock found
  ended-like later world like clock found (inl last) = inl (last.0, omega (arith, last.1, like.phase))
  ended-like later world like clock found (inr (inl past)) = inr (inl past)
  ended-like later world like clock found (inr (inr at)) = inr (inr (record {
    element = at.element;
    is = at.is;
    of_epoch = at.of_epoch;
    had = record {
      there = omega (arith, at.had.there, like.count);
      come = subst (λ (c : Reading). (at.element.stamp.epoch < c.at.epoch) ⊎ ((at.element.stamp.epoch ≡ c.at.epoch) × (at.element.stamp.counter ≤ c.at.counter)))
          (sym (ap (λ (w : Worker). w.clock) (like.same at.element.verifier))) at.had.come;
    };
    ends = at.ends;
  }))

  -- a stop that may happen in a world
  record CanStop (later : World C) (stop : RoundStop) : Type 0 where
    pub rolling : host.rolling ≡ true
    pub going : later.over ≡ false
    pub phase : later.closing ≡ false
    pub there : stop.worker < length later.workers
    pub ended : HasEnded host later (worker_at host later stop.worker).clock stop.found

  may_stop : (later world : World C) (stop : RoundStop) → IsLike later world → CanStop later stop → (worker_at host world stop.worker).stopped ≡ false
      → MayStop host world stop.worker stop.found
  may_stop later world stop like can running = record {
    rolling = record {
      serving = record { going = like.over ∙ can.going; phase = like.closing ∙ can.phase; there = omega (arith, can.there, like.count) };
      rolling = can.rolling;
      running = running;
    };
    ended = subst (λ (c : Reading). HasEnded host world c stop.found) (sym (ap (λ (w : Worker). w.clock) (like.same stop.worker)))
        (ended-like later world like (worker_at host later stop.worker).clock stop.found can.ended);
  }

  abbrev AreRunning : World C → List RoundStop → Type 0
  AreRunning world list = AllByRecursion (λ stop. (worker_at host world stop.worker).stopped ≡ false) list

  still_running : (world : World C) (i : ℕ) (list : List RoundStop) → AllByRecursion (λ other. i ≢ other.worker) list → AreRunning world list
      → AreRunning (stopped_one world i) list
  still_running world i [] apart running = tt
  still_running world i (other ∷ list) apart running = (
    ap (λ (w : Worker). w.stopped) (get_or-set_other world.workers i other.worker (record (worker_at host world i) { stopped = true }) (fresh host.header) (λ same. apart.0 (sym same)))
        ∙ running.0,
    still_running world i list apart.1 running.1,
  )

  stops_way : (later : World C) (list : List RoundStop) (world : World C) → IsLike later world → AllByRecursion (CanStop later) list → AreRunning world list → AreOfOthers list
      → Way host world (stop_events list) (stopped_all world list)
  stops_way later [] world like can running others = way-none host world
  stops_way later (stop ∷ list) world like can running others =
      way-cons host world (stopped_one world stop.worker) (stopped_all world (stop ∷ list)) (machine.stops stop.worker stop.found) (stop_events list)
      (may_stop later world stop like can.0 running.0) refl
      (stops_way later list (stopped_one world stop.worker) (like-one later world stop.worker like) can.1 (still_running world stop.worker list others.0 running.1) others.1)

  -- stops leave the newest epoch and the notes
  raised-stopped : (before : World C) (epoch top : ℕ) (list : List RoundStop) (world : World C) → IsRaised host before world epoch top
      → IsRaised host before (stopped_all world list) epoch top
  raised-stopped before epoch top [] world raised = raised
  raised-stopped before epoch top (stop ∷ list) world raised =
      raised-stopped before epoch top list (stopped_one world stop.worker) (record { still = raised.still; newest = raised.newest; marks = raised.marks })

  or-true : (b : Bool) → (b || true) ≡ true
  or-true true = refl
  or-true false = refl

  or-first : (b c : Bool) → b ≡ false → (b || c) ≡ c
  or-first b c is = ap (λ (x : Bool). x || c) is

  -- whose stop is among them is stopped
  stopped_is : (list : List RoundStop) (world : World C) (i : ℕ) → i < length world.workers
      → (worker_at host (stopped_all world list) i).stopped ≡ ((worker_at host world i).stopped || stops_by i list)
  stopped_is [] world i there = none (worker_at host world i).stopped
    where
      none : (b : Bool) → b ≡ (b || false)
      none true = refl
      none false = refl
  stopped_is (stop ∷ list) world i there =
      stopped_is list (stopped_one world stop.worker) i (omega (arith, there, length-set world.workers stop.worker (record (worker_at host world stop.worker) { stopped = true })))
      ∙ go (cases_eq stop.worker i)
    where
      now : Worker
      now = record (worker_at host world stop.worker) { stopped = true }

      go : (stop.worker ≡ i) ⊎ (stop.worker ≡ i → ⊥)
          → ((worker_at host (stopped_one world stop.worker) i).stopped || stops_by i list) ≡ ((worker_at host world i).stopped || ((stop.worker == i) || stops_by i list))
      go (inl same) =
          ap (λ (w : Worker). w.stopped || stops_by i list)
          (ap (λ (n : ℕ). worker_at host (stopped_one world stop.worker) n) (sym same)
          ∙ get_or-set_same world.workers stop.worker now (fresh host.header) (subst (λ (n : ℕ). n < length world.workers) (sym same) there))
          ∙ sym (or-true (worker_at host world i).stopped)
          ∙ ap (λ (b : Bool). (worker_at host world i).stopped || (b || stops_by i list)) (sym (eq-eqb stop.worker i same))
      go (inr apart) =
          ap (λ (w : Worker). w.stopped || stops_by i list) (get_or-set_other world.workers stop.worker i now (fresh host.header) (λ same. apart (sym same)))
          ∙ ap (λ (b : Bool). (worker_at host world i).stopped || b) (sym (or-first (stop.worker == i) (stops_by i list) (ne_eqb stop.worker i apart)))

-- ---- rounds

module _ {C R : Type 0} (host : Host C R) (scans : Bool) (steady : IsSteady host scans) (world : World C) (epoch top : ℕ) (finals : ℕ → ℕ) (level : IsLevel host world epoch)
    (lists : List (List (Turn C R))) (pasts : List (List (List (Turn C R)))) (told : AreTold host scans world top finals lists pasts)
    (within : epoch ≤ top) (roll : epoch < top → CanRoll host world epoch top) where
  led : Led host scans steady top finals world (turns host scans steady world epoch top finals level lists pasts told)
      (round_events finals (length world.workers) top epoch (in_one_order (joined lists)))
  led = round_led host scans steady world epoch top finals level lists pasts told within roll

  abbrev later : World C
  later = led.later

  ends : EndsWith host world later top finals lists pasts
  ends = ends_told host scans steady world epoch top finals level lists pasts told later led.leads

  like-self : IsLike host later later
  like-self = record { shards = refl; count = refl; marks = refl; same = λ i. refl; phase = refl; closing = refl; over = refl }

  -- ---- a whole round

  module _ (whole : IsWholeRound host world top finals lists pasts) where
    -- all that waits has come to the last epoch
    all_reached : (s : ℕ) → s < length later.shards → AreFrom top (pending_of host (shard_at later s).contents)
    all_reached s there =
        every-content (λ (element : Element). top ≤ element.stamp.epoch) host.pending (shard_at later s).contents host.vacant
        (λ seat has. subst (λ (c : C). AreFrom top (host.pending c)) (sym (ends.contents (record { shard = s; seat = seat })))
        (whole.reached (record { shard = s; seat = seat }) (omega (arith, there, led.leads.shards), omega (arith, has, led.leads.seats s))))

    can_note : CanNote host later top
    can_note = record {
      going = led.leads.up.going;
      phase = led.leads.up.phase;
      rolling = whole.rolling;
      running = λ i there. led.leads.stopped i ∙ whole.running i (omega (arith, there, led.leads.count));
      clocks = λ i there. led.leads.up.clocks i there ∙ aim-past top (finals i) (omega (arith, whole.come i (omega (arith, there, led.leads.count))))
          ∙ whole.come i (omega (arith, there, led.leads.count));
      reached = all_reached;
    }

    abbrev closed : World C
    closed = marked host later top (note top 0 (length world.workers) later.scanned)

    close_way : Way host world (whole_events world finals top epoch lists) closed
    close_way =
        way-then host world later closed (round_events finals (length world.workers) top epoch (in_one_order (joined lists))) (finishes_from 0 (length world.workers))
        led.way (finishes_way host later top can_note 0 (length world.workers) later.scanned (omega (arith, led.leads.count)))

    served_is : (i : ℕ) → i < length world.workers → slice_get (asked host i) (worker_at host later i).served ≡ None
    served_is i there = ap (slice_get (asked host i)) (ends.served i) ∙ whole.served i there

    over : IsRoundOver host closed
    over i there =
        let here : i < length world.workers = omega (arith, there, led.leads.count) in (
          can_note.running i there,
          served_is i here,
          note-at top 0 (length world.workers) later.scanned i host.header.first (omega arith) (omega (arith, here)) (omega (arith, led.leads.marks, whole.marks))
              ∙ whole.last ∙ ap (λ (n : ℕ). host.header.first + n) (sym led.leads.phase),
        )

    through : IsPhaseOver host closed
    through i there =
        let here : i < length world.workers = omega (arith, there, led.leads.count) in
        (led.leads.up.idle i there, inr (λ request next. none-some (closed.phase, request) (sym (served_is i here) ∙ next)))

    pub ends_whole : EndsWhole host world epoch top finals lists pasts
    ends_whole = record {
      enabled = close_way.enabled;
      ends = subst (λ (w : World C). EndsWith host world w top finals lists pasts) (sym close_way.is)
          (ends-like host world top finals lists pasts later closed (record { shards = refl; count = refl; marks = note-length top 0 (length world.workers) later.scanned; same = λ i. refl; phase = refl; closing = refl; over = refl }) ends);
      over = subst (IsRoundOver host) (sym close_way.is) over;
      through = subst (IsPhaseOver host) (sym close_way.is) through;
    }

  -- ---- a round in which clocks end

  clock_is : (i : ℕ) → i < length world.workers → (worker_at host later i).clock ≡ final_clock host world finals lists i
  clock_is i there = ends.clocks i there

  can_stop : (stop : RoundStop) → IsStopTold host world finals lists stop → CanStop host later stop
  can_stop stop is = record {
    rolling = is.rolling;
    going = led.leads.up.going;
    phase = led.leads.up.phase;
    there = omega (arith, is.there, led.leads.count);
    ended = subst (λ (c : Reading). HasEnded host later c stop.found) (sym (clock_is stop.worker is.there)) (ended is.ended);
  }
    where
      clock : Reading
      clock = final_clock host world finals lists stop.worker

      ended : ((clock.at.epoch ≡ last_epoch) × (clock.at.epoch < epoch_of host world)) ⊎ (clock.end < clock.at.counter + 2) ⊎ IsInTheWay host world finals lists clock stop.found
          → HasEnded host later clock stop.found
      ended (inl last) = inl (last.0, omega (arith, last.1, led.leads.phase))
      ended (inr (inl past)) = inr (inl past)
      ended (inr (inr at)) = inr (inr (record {
        element = at.element;
        is = at.is;
        of_epoch = at.of_epoch;
        had = record {
          there = omega (arith, at.there, led.leads.count);
          come = subst (λ (c : Reading). (at.element.stamp.epoch < c.at.epoch) ⊎ ((at.element.stamp.epoch ≡ c.at.epoch) × (at.element.stamp.counter ≤ c.at.counter)))
              (sym (clock_is at.element.verifier at.there)) at.come;
        };
        ends = at.ends;
      }))

  module _ (list : List RoundStop) (stops_told : AllByRecursion (IsStopTold host world finals lists) list) (others : AreOfOthers list) where
    abbrev halted : World C
    halted = stopped_all host later list

    halt_way : Way host world (stopped_events world finals top epoch lists list) halted
    halt_way =
        way-then host world later halted (round_events finals (length world.workers) top epoch (in_one_order (joined lists))) (stop_events list) led.way
        (stops_way host later list later like-self (every-weaker (IsStopTold host world finals lists) (CanStop host later) can_stop list stops_told)
        (every-weaker (IsStopTold host world finals lists) (λ stop. (worker_at host later stop.worker).stopped ≡ false)
        (λ stop is. led.leads.stopped stop.worker ∙ is.running) list stops_told) others)

    pub ends_stopped : EndsStopped host world epoch top finals lists pasts list
    unfolding led
    ends_stopped = record {
      enabled = halt_way.enabled;
      ends = subst (λ (w : World C). EndsWith host world w top finals lists pasts) (sym halt_way.is)
          (ends-like host world top finals lists pasts later halted (like-all host later list later like-self) ends);
      stopped = λ i there. subst (λ (w : World C). (worker_at host w i).stopped ≡ ((worker_at host world i).stopped || stops_by i list)) (sym halt_way.is)
          (stopped_is host list later i (omega (arith, there, led.leads.count)) ∙ ap (λ (b : Bool). b || stops_by i list) (led.leads.stopped i));
      raised = subst (λ (w : World C). IsRaised host world w epoch top) (sym halt_way.is)
          (raised-stopped host world epoch top list later (round_raised host scans steady world epoch top finals level lists pasts told within roll));
    }

-- What is told of a round ends so.
pub ends_rounds : {C R : Type 0} (host : Host C R) → EndsRounds host
ends_rounds host scans world epoch top finals lists pasts steady level within roll told = (
  ends_whole host scans steady world epoch top finals level lists pasts told within roll,
  ends_stopped host scans steady world epoch top finals level lists pasts told within roll,
)
