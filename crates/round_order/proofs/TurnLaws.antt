-- A turn, replayed: a take, a serve or a scan, and a give, and the world behind them.
use Rattle.std.proofs.Common.{◌≡◌, ◌≢◌, ◌⊎◌, ℕ, ◌<◌, ◌%◌, ◌==◌, Bool, true, false, List, [], ◌∷◌, ◌++◌, length, get_or, set, slice_get, Option, Some, None, refl, sym, ◌∙◌, ap, subst, inl, inr, append-nil, true≢false, arith}
use Rattle.std.proofs.lemmas.Bool.{cases_eq, eq-eqb, and_from}
use Rattle.std.proofs.lemmas.Option.{none-some}
use Rattle.std.proofs.lemmas.List.{length-set, get_or-set_same, get_or-set_other, set-set}
use Rattle.lamport_clocks.specs.Reading.{Reading}
use Rattle.record_text.specs.declared.element.Element.{Element}
use Rattle.host_core.specs.Host.{Host, Done, asked}
use Rattle.host_core.specs.World.{Place, Worker, Seats, World, unmoved, fresh, worker_at, shard_at}
use Rattle.host_core.specs.WorldEvent.{takes, gives, with_worker, after_serve, after_scan, step, AreUpTo, IsPlace, IsFree, IsServing, MayTake, MayGive, IsEnabled}
use Rattle.host_core.specs.Deeds.{pending_of}
use Rattle.round_order.specs.Turn.{Turn, same_place, served_more, IsAsked, content_at}
use Rattle.round_order.specs.Steady.{HasOne, scanned_done, IsSteady}
use Rattle.round_order.specs.Told.{IsScan, IsDid, IsTaken, others_in, others_at, act_of, done_events}
use Rattle.round_order.proofs.WayLemmas.{Way, way-none, way-cons}

-- ---- contents, the first of which is replaced

module _ {C : Type 0} where
  -- the first and the others
  pub first-whole : (contents : List C) (seat : ℕ) (d : C) → seat ≡ 0 → seat < length contents → contents ≡ get_or contents seat d ∷ others_in contents
  first-whole [] seat d is there = absurd (omega (arith, there))
  first-whole (content ∷ contents) seat d is there = ap (λ (n : ℕ). get_or (content ∷ contents) n d ∷ contents) (sym is)

  pub first-set : (contents : List C) (seat : ℕ) (new : C) → seat ≡ 0 → seat < length contents → new ∷ others_in contents ≡ set contents seat new
  first-set [] seat new is there = absurd (omega (arith, there))
  first-set (content ∷ contents) seat new is there = ap (λ (n : ℕ). set (content ∷ contents) n new) (sym is)

  pub others-set : (contents : List C) (seat : ℕ) (new : C) → seat ≡ 0 → others_in (set contents seat new) ≡ others_in contents
  others-set [] seat new is = refl
  others-set (content ∷ contents) seat new is = ap (λ (n : ℕ). others_in (set (content ∷ contents) n new)) is

module _ {C R : Type 0} (host : Host C R) where
  -- a phase in which no place is held
  pub record IsIdle (world : World C) : Type 0 where
    pub going : world.over ≡ false
    pub phase : world.closing ≡ false
    pub idle : (i : ℕ) → i < length world.workers → (worker_at host world i).holds ≡ None

  -- ---- workers, where one is replaced

  pub worker-same : (world : World C) (i : ℕ) (worker : Worker) → i < length world.workers → worker_at host (with_worker world i worker) i ≡ worker
  worker-same world i worker within = get_or-set_same world.workers i worker (fresh host.header) within

  -- ---- three events

  -- the worker while it holds the place, and once it has given it back
  abbrev pub holding : Worker → Place → Worker
  holding worker place = record worker { holds = Some (record { place = place; used = false }) }

  abbrev pub turned_worker : Worker → Option R → Done C → Worker
  turned_worker worker request done = record {
    log = worker.log ++ done.commands;
    clock = done.clock;
    served = served_more worker.served request;
    holds = None;
    stopped = worker.stopped;
    stuck = worker.stuck;
  }

  abbrev pub turned_seats : Seats C → ℕ → Done C → Seats C
  turned_seats seats seat done = record seats { contents = set seats.contents seat done.after }

  -- the world behind a turn
  abbrev pub after_turn : World C → Turn C R → World C
  after_turn world turn = record world {
    workers = set world.workers turn.worker (turned_worker (worker_at host world turn.worker) turn.request turn.done);
    shards = set world.shards turn.place.shard (turned_seats (shard_at world turn.place.shard) turn.place.seat turn.done);
  }

module _ {C R : Type 0} (host : Host C R) (scans : Bool) where
  -- What a turn finds: its worker's clock and next request, and its place's content.
  pub record IsNextTurn (world : World C) (turn : Turn C R) : Type 0 where
    pub is_taken : IsTaken host scans world turn
    pub clock : turn.clock ≡ (worker_at host world turn.worker).clock
    pub asked_for : IsAsked host turn.worker (worker_at host world turn.worker).served turn.clock.at.epoch turn.request
    pub before : turn.before ≡ content_at host world turn.place

  module _ (world : World C) (idle : IsIdle host world) (turn : Turn C R) (next : IsNextTurn world turn) where
    abbrev i : ℕ
    i = turn.worker

    abbrev worker : Worker
    worker = worker_at host world turn.worker

    abbrev place : Place
    place = turn.place

    abbrev contents : List C
    contents = (shard_at world place.shard).contents

    abbrev new_shards : List (Seats C)
    new_shards = set world.shards place.shard (turned_seats host (shard_at world place.shard) place.seat turn.done)

    -- the worlds behind the take and behind what is done
    abbrev taken : World C
    taken = with_worker world i (holding host worker place)

    abbrev acted_worker : Option R → Worker
    acted_worker request = record worker {
      log = worker.log ++ turn.done.commands;
      clock = turn.done.clock;
      served = served_more worker.served request;
      holds = Some (record { place = place; used = true });
    }

    abbrev acted : Option R → World C
    acted request = record world { workers = set world.workers i (acted_worker request); shards = new_shards }

    there : i < length world.workers
    there = next.is_taken.there

    took : worker_at host taken i ≡ holding host worker place
    took = worker-same host world i (holding host worker place) there

    -- the contents of the shard, of which the place is the first
    whole : place.seat ≡ 0 → contents ≡ turn.before ∷ others_at world place.shard
    whole first =
        first-whole contents place.seat host.vacant first next.is_taken.at.1
        ∙ ap (λ (c : C). c ∷ others_at world place.shard) (sym next.before)

    moved : IsScan host scans world turn → host.move i worker.clock place.shard contents ≡ Some (scanned_done (others_at world place.shard) turn.done)
    moved scan =
        ap (λ (c : Reading). host.move i c place.shard contents) (sym next.clock)
        ∙ ap (λ (cs : List C). host.move i turn.clock place.shard cs) (whole scan.first)
        ∙ scan.moves

    act_is : (request : Option R) → IsDid host scans world turn request → step host taken (act_of turn request) ≡ acted request
    act_is None scan =
        ap (λ (w : Worker). after_scan taken i w place (shard_at world place.shard) (host.move i w.clock place.shard contents)) took
        ∙ ap (λ (o : Option (Done (List C))). after_scan taken i (holding host worker place) place (shard_at world place.shard) o) (moved scan)
        ∙ ap (λ (ws : List Worker). record world {
          workers = ws;
          shards = set world.shards place.shard (record (shard_at world place.shard) { contents = turn.done.after ∷ others_at world place.shard });
        }) (set-set world.workers i (holding host worker place) (acted_worker None))
        ∙ ap (λ (cs : List C). record world {
          workers = set world.workers i (acted_worker None);
          shards = set world.shards place.shard (record (shard_at world place.shard) { contents = cs });
        }) (first-set contents place.seat turn.done.after scan.first next.is_taken.at.1)
    act_is (Some request) did =
        ap (λ (w : Worker). after_serve taken i w place (shard_at world place.shard) (host.serve i w.clock (content_at host world place) request)) took
        ∙ ap (λ (o : Option (Done C)). after_serve taken i (holding host worker place) place (shard_at world place.shard) o)
        (ap (λ (c : Reading). host.serve i c (content_at host world place) request) (sym next.clock)
        ∙ ap (λ (x : C). host.serve i turn.clock x request) (sym next.before)
        ∙ did.1)
        ∙ ap (λ (ws : List Worker). record world { workers = ws; shards = new_shards }) (set-set world.workers i (holding host worker place) (acted_worker (Some request)))

    acted_there : (request : Option R) → worker_at host (acted request) i ≡ acted_worker request
    acted_there request = worker-same host world i (acted_worker request) there

    give_is : step host (acted turn.request) (gives i place) ≡ after_turn host world turn
    give_is =
        ap (λ (w : Worker). with_worker (acted turn.request) i (record w { holds = None })) (acted_there turn.request)
        ∙ ap (λ (ws : List Worker). record world { workers = ws; shards = new_shards })
        (set-set world.workers i (acted_worker turn.request) (turned_worker host worker turn.request turn.done))

    free : IsFree host world place
    free j used within holds = none-some (record { place = place; used = used }) (sym (idle.idle j within) ∙ holds)

    still_there : (w : Worker) → i < length (set world.workers i w)
    still_there w = subst (λ (n : ℕ). i < n) (sym (length-set world.workers i w)) there

    is_serving : IsServing host taken i
    is_serving = record { going = idle.going; phase = idle.phase; there = still_there (holding host worker place) }

    epoch_is : (worker_at host taken i).clock.at.epoch ≡ turn.clock.at.epoch
    epoch_is = ap (λ (w : Worker). w.clock.at.epoch) took ∙ ap (λ (c : Reading). c.at.epoch) (sym next.clock)

    may_act : (request : Option R) → IsDid host scans world turn request → IsAsked host i worker.served turn.clock.at.epoch request
        → IsEnabled host taken (act_of turn request)
    may_act None scan asked_for = record {
      rolling = record {
        serving = is_serving;
        rolling = scan.rolling;
        running = ap (λ (w : Worker). w.stopped) took ∙ next.is_taken.running;
      };
      shard = next.is_taken.at.0;
      first = scan.first;
      holds = ap (λ (w : Worker). w.holds) took;
      own = subst (λ (n : ℕ). place.shard % n ≡ i) (sym (length-set world.workers i (holding host worker place))) scan.own;
      before = scan.before;
      turned = epoch_is ∙ scan.turned;
      earlier = subst (λ (cs : List C). AreUpTo scan.before (pending_of host cs)) (sym (whole scan.first))
          (subst (AreUpTo scan.before) (sym (append-nil (host.pending turn.before)) ∙ ap (λ (es : List Element). host.pending turn.before ++ es) (sym scan.alone)) scan.earlier);
    }
    may_act (Some request) did asked_for = record {
      serving = is_serving;
      there = next.is_taken.at;
      holds = ap (λ (w : Worker). w.holds) took;
      due = record {
        phase = asked_for.0;
        next = ap (λ (w : Worker). slice_get (asked host i) w.served) took ∙ asked_for.1;
        begun = omega (arith, asked_for.2, epoch_is);
        reached = subst (λ (n : ℕ). AreUpTo n (host.pending (content_at host world place))) (sym epoch_is)
            (subst (λ (x : C). AreUpTo turn.clock.at.epoch (host.pending x)) next.before next.is_taken.reached);
      };
      owns = did.0;
    }

    -- The three events are enabled, and lead to the world behind the turn.
    pub turn_way : Way host world (done_events turn) (after_turn host world turn)
    turn_way =
        way-cons host world taken (after_turn host world turn) (takes i place) (act_of turn turn.request ∷ gives i place ∷ []) may_take refl
        (way-cons host taken (acted turn.request) (after_turn host world turn) (act_of turn turn.request) (gives i place ∷ [])
        (may_act turn.request next.is_taken.did next.asked_for) (act_is turn.request next.is_taken.did)
        (way-cons host (acted turn.request) (after_turn host world turn) (after_turn host world turn) (gives i place) [] may_give give_is
        (way-none host (after_turn host world turn))))
      where
        may_take : MayTake host world i place
        may_take = record {
          serving = record { going = idle.going; phase = idle.phase; there = there };
          there = next.is_taken.at;
          free = free;
          empty = idle.idle i there;
          running = next.is_taken.running;
        }

        may_give : MayGive host (acted turn.request) i place
        may_give = record {
          serving = record { going = idle.going; phase = idle.phase; there = still_there (acted_worker turn.request) };
          holds = (true, ap (λ (w : Worker). w.holds) (acted_there turn.request));
        }

    -- ---- what the world behind it is

    pub own_worker_is : worker_at host (after_turn host world turn) i ≡ turned_worker host worker turn.request turn.done
    own_worker_is = worker-same host world i (turned_worker host worker turn.request turn.done) there

    pub other_worker_is : (j : ℕ) → j ≢ i → worker_at host (after_turn host world turn) j ≡ worker_at host world j
    other_worker_is j apart = get_or-set_other world.workers i j (turned_worker host worker turn.request turn.done) (fresh host.header) apart

    pub count_is : length (after_turn host world turn).workers ≡ length world.workers
    count_is = length-set world.workers i (turned_worker host worker turn.request turn.done)

    pub shards_count_is : length (after_turn host world turn).shards ≡ length world.shards
    shards_count_is = length-set world.shards place.shard (turned_seats host (shard_at world place.shard) place.seat turn.done)

    seats_there : (s : ℕ) → s ≡ place.shard → shard_at (after_turn host world turn) s ≡ turned_seats host (shard_at world place.shard) place.seat turn.done
    seats_there s same =
        ap (λ (n : ℕ). get_or new_shards n (unmoved [])) same
        ∙ get_or-set_same world.shards place.shard (turned_seats host (shard_at world place.shard) place.seat turn.done) (unmoved []) next.is_taken.at.0

    seats_other : (s : ℕ) → s ≢ place.shard → shard_at (after_turn host world turn) s ≡ shard_at world s
    seats_other s apart = get_or-set_other world.shards place.shard s (turned_seats host (shard_at world place.shard) place.seat turn.done) (unmoved []) apart

    pub own_content_is : content_at host (after_turn host world turn) place ≡ turn.done.after
    own_content_is =
        ap (λ (z : Seats C). get_or z.contents place.seat host.vacant) (seats_there place.shard refl)
        ∙ get_or-set_same contents place.seat turn.done.after host.vacant next.is_taken.at.1

    pub other_content_is : (other : Place) → same_place place other ≡ false → content_at host (after_turn host world turn) other ≡ content_at host world other
    other_content_is other apart = go (cases_eq other.shard place.shard)
      where
        seat_apart : other.shard ≡ place.shard → other.seat ≢ place.seat
        seat_apart same seat = true≢false
            (sym (and_from (place.shard == other.shard) (place.seat == other.seat) (eq-eqb place.shard other.shard (sym same)) (eq-eqb place.seat other.seat (sym seat)))
            ∙ apart)

        go : (other.shard ≡ place.shard) ⊎ (other.shard ≡ place.shard → ⊥) → content_at host (after_turn host world turn) other ≡ content_at host world other
        go (inl same) =
            ap (λ (z : Seats C). get_or z.contents other.seat host.vacant) (seats_there other.shard same)
            ∙ get_or-set_other contents place.seat other.seat turn.done.after host.vacant (seat_apart same)
            ∙ ap (λ (n : ℕ). get_or (shard_at world n).contents other.seat host.vacant) (sym same)
        go (inr other_shard) = ap (λ (z : Seats C). get_or z.contents other.seat host.vacant) (seats_other other.shard other_shard)

    -- each shard has as many seats
    pub seats_count_is : (s : ℕ) → length (shard_at (after_turn host world turn) s).contents ≡ length (shard_at world s).contents
    seats_count_is s = go (cases_eq s place.shard)
      where
        go : (s ≡ place.shard) ⊎ (s ≡ place.shard → ⊥) → length (shard_at (after_turn host world turn) s).contents ≡ length (shard_at world s).contents
        go (inl same) =
            ap (λ (z : Seats C). length z.contents) (seats_there s same) ∙ length-set contents place.seat turn.done.after
            ∙ ap (λ (n : ℕ). length (shard_at world n).contents) (sym same)
        go (inr apart) = ap (λ (z : Seats C). length z.contents) (seats_other s apart)

    pub place_on : (at : Place) → IsPlace world at → IsPlace (after_turn host world turn) at
    place_on at is = (omega (arith, is.0, shards_count_is), omega (arith, is.1, seats_count_is at.shard))

    pub place_back : (at : Place) → IsPlace (after_turn host world turn) at → IsPlace world at
    place_back at is = (omega (arith, is.0, shards_count_is), omega (arith, is.1, seats_count_is at.shard))

    pub running_is : (j : ℕ) → (worker_at host (after_turn host world turn) j).stopped ≡ (worker_at host world j).stopped
    running_is j = go (cases_eq j i)
      where
        go : (j ≡ i) ⊎ (j ≡ i → ⊥) → (worker_at host (after_turn host world turn) j).stopped ≡ (worker_at host world j).stopped
        go (inl same) =
            ap (λ (n : ℕ). (worker_at host (after_turn host world turn) n).stopped) same ∙ ap (λ (w : Worker). w.stopped) own_worker_is
            ∙ ap (λ (n : ℕ). (worker_at host world n).stopped) (sym same)
        go (inr apart) = ap (λ (w : Worker). w.stopped) (other_worker_is j apart)

    pub idle_after : IsIdle host (after_turn host world turn)
    idle_after = record {
      going = idle.going;
      phase = idle.phase;
      idle = λ j within. go j (omega (arith, within, count_is)) (cases_eq j i);
    }
      where
        go : (j : ℕ) → j < length world.workers → (j ≡ i) ⊎ (j ≡ i → ⊥) → (worker_at host (after_turn host world turn) j).holds ≡ None
        go j within (inl same) = ap (λ (n : ℕ). (worker_at host (after_turn host world turn) n).holds) same ∙ ap (λ (w : Worker). w.holds) own_worker_is
        go j within (inr apart) = ap (λ (w : Worker). w.holds) (other_worker_is j apart) ∙ idle.idle j within

    -- ---- what is still to be done

    module _ (steady : IsSteady host scans) where
      pub one_waits : HasOne host (content_at host world place)
      one_waits = go turn.request next.is_taken.did
        where
          go : (request : Option R) → IsDid host scans world turn request → HasOne host (content_at host world place)
          go None scan = subst (HasOne host) next.before scan.waits
          go (Some request) did = steady.waits place.shard place.seat contents request did.0

      -- the seats own what they owned
      pub owners_stay : (s seat : ℕ) (ask : R) → host.owns s (shard_at (after_turn host world turn) s).contents seat ask ≡ host.owns s (shard_at world s).contents seat ask
      owners_stay s seat ask = go (cases_eq s place.shard)
        where
          own : (request : Option R) → IsDid host scans world turn request
              → host.owns place.shard (set contents place.seat turn.done.after) seat ask ≡ host.owns place.shard contents seat ask
          own None scan =
              ap (λ (cs : List C). host.owns place.shard cs seat ask) (sym (first-set contents place.seat turn.done.after scan.first next.is_taken.at.1))
              ∙ steady.scan_owners scan.scanned i place.shard turn.clock turn.before (others_at world place.shard) turn.done scan.waits scan.alone scan.moves seat ask
              ∙ ap (λ (cs : List C). host.owns place.shard cs seat ask) (sym (whole scan.first))
          own (Some request) did =
              steady.owners i turn.clock place.shard place.seat contents request turn.done one_waits
              (ap (λ (c : C). host.serve i turn.clock c request) (sym next.before) ∙ did.1) seat ask

          go : (s ≡ place.shard) ⊎ (s ≡ place.shard → ⊥)
              → host.owns s (shard_at (after_turn host world turn) s).contents seat ask ≡ host.owns s (shard_at world s).contents seat ask
          go (inl same) =
              ap (λ (z : Seats C). host.owns s z.contents seat ask) (seats_there s same)
              ∙ ap (λ (n : ℕ). host.owns n (set contents place.seat turn.done.after) seat ask) same
              ∙ own turn.request next.is_taken.did
              ∙ ap (λ (n : ℕ). host.owns n (shard_at world n).contents seat ask) (sym same)
          go (inr apart) = ap (λ (z : Seats C). host.owns s z.contents seat ask) (seats_other s apart)

      -- where places are scanned the other seats are as they were
      pub others_stay : scans ≡ true → (s : ℕ) → others_at (after_turn host world turn) s ≡ others_at world s
      others_stay scanned s = go (cases_eq s place.shard)
        where
          go : (s ≡ place.shard) ⊎ (s ≡ place.shard → ⊥) → others_at (after_turn host world turn) s ≡ others_at world s
          go (inl same) =
              ap (λ (z : Seats C). others_in z.contents) (seats_there s same)
              ∙ others-set contents place.seat turn.done.after (next.is_taken.alone scanned)
              ∙ ap (λ (n : ℕ). others_at world n) (sym same)
          go (inr apart) = ap (λ (z : Seats C). others_in z.contents) (seats_other s apart)

      -- What was to be taken is so still.
      pub taken_after : (other : Turn C R) → IsTaken host scans world other → IsTaken host scans (after_turn host world turn) other
      taken_after other is = record {
        there = omega (arith, is.there, count_is);
        at = place_on other.place is.at;
        running = running_is other.worker ∙ is.running;
        reached = is.reached;
        near = is.near;
        alone = is.alone;
        did = did other.request is.did;
      }
        where
          did : (request : Option R) → IsDid host scans world other request → IsDid host scans (after_turn host world turn) other request
          did None scan = record {
            rolling = scan.rolling;
            scanned = scan.scanned;
            first = scan.first;
            own = subst (λ (n : ℕ). other.place.shard % n ≡ other.worker) (sym count_is) scan.own;
            alone = ap (pending_of host) (others_stay scan.scanned other.place.shard) ∙ scan.alone;
            waits = scan.waits;
            before = scan.before;
            turned = scan.turned;
            earlier = scan.earlier;
            moves = subst (λ (cs : List C). host.move other.worker other.clock other.place.shard (other.before ∷ cs) ≡ Some (scanned_done cs other.done))
                (sym (others_stay scan.scanned other.place.shard)) scan.moves;
          }
          did (Some request) owned = (owners_stay other.place.shard other.place.seat request ∙ owned.0, owned.1)
