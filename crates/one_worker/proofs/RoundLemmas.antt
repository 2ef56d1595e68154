-- A round whose events go on comes to no epoch past that of the last phase; and where its close may begin it was whole.
use Rattle.std.proofs.Common.{◌≡◌, ◌⊎◌, inl, inr, ℕ, zero, suc, ◌+◌, ◌-◌, ◌<◌, ◌≤◌, ◌%◌, true, false, List, [], ◌∷◌, ◌++◌, filter, length, get_or, set, slice_get, nat_lt, Option, Some, None, refl, sym, ◌∙◌, ap, subst, arith}
use Rattle.std.specs.List.{AllByRecursion}
use Rattle.std.proofs.lemmas.Bool.{cases_lt, cond-true, lt-ltb}
use Rattle.std.proofs.lemmas.List.{length-set, get_or-set_same}
use Rattle.lamport_clocks.specs.Clock.{last_epoch}
use Rattle.lamport_clocks.specs.Reading.{Reading}
use Rattle.log_codec.specs.declared.command.Command.TheVariants.{NextEpoch}
use Rattle.record_text.specs.declared.element.Element.{Element}
use Rattle.host_core.specs.Host.{Host, Done, asked}
use Rattle.host_core.specs.World.{Place, Worker, World, fresh, set_up, worker_at, shard_at, epoch_of}
use Rattle.host_core.specs.WorldEvent.{WorldEvent, takes, serves, raises, enters, finishes, IsPlace, IsEnabled, IsRoundOver, AreFrom, HasAdvanced, MayServe, MayRaise, MayFinish, logging, next_clock, having_served, having_scanned, with_worker, after_serve, after_scan, step, run_events}
use Rattle.host_core.specs.WorldEvent as machine
use Rattle.host_core.specs.Deeds.{pending_of}
use Rattle.host_order.specs.Close.{MovesKeepEpoch}
use Rattle.round_order.specs.Turn.{Turn, is_at, on_to, content_behind, clock_behind, served_behind, content_at, in_one_order}
use Rattle.round_order.specs.Steady.{IsSteady}
use Rattle.round_order.specs.Told.{AreTold, IsWholeRound, joined, list_of, past_of, climb, enters_from, done_events, act_of, round_events, finishes_from}
use Rattle.round_order.proofs.ChainLaws.{Led}
use Rattle.round_order.proofs.GoingLaws.{on_to-epoch}
use Rattle.host_serving.specs.Loop.{AreFresh}
use Rattle.one_worker.proofs.EventLemmas.{Goes, goes_front, goes_behind}
use Rattle.one_worker.proofs.ToldLemmas.{all_front, all_behind, IsSetUp, AreUpwards, upwards_within, IsToldOn, still_noted, workers_one, known, first_only, marks_one, part_is, order_is, past_is, list_upwards, led, noted, noted_is}

-- ---- the worker's epoch

-- another worker in the same epoch leaves worker 0 in its epoch
shows_epoch : (workers : List Worker) (i : ℕ) (worker d : Worker) → worker.clock.at.epoch ≡ (get_or workers i d).clock.at.epoch
    → (get_or (set workers i worker) 0 d).clock.at.epoch ≡ (get_or workers 0 d).clock.at.epoch
shows_epoch [] i worker d same = refl
shows_epoch (first ∷ workers) zero worker d same = same
shows_epoch (first ∷ workers) (suc i) worker d same = refl

module _ {C R : Type 0} (host : Host C R) (steady : IsSteady host true) (keeps : MovesKeepEpoch host) (phase : ℕ) where
  -- worker 0 is there, in this epoch
  pub record IsIn (world : World C) (epoch : ℕ) : Type 0 where
    pub phase_is : world.phase ≡ phase
    pub some : 0 < length world.workers
    pub epoch_is : (worker_at host world 0).clock.at.epoch ≡ epoch

  -- where the epoch is past the first, it is not past that of the last phase, nor past the last that there is
  abbrev pub IsWithin : ℕ → Type 0
  IsWithin epoch = host.header.first < epoch → (epoch ≤ host.header.first + phase) × (epoch ≤ last_epoch)

  kept : (world : World C) (epoch i : ℕ) (worker : Worker) → IsIn world epoch → worker.clock.at.epoch ≡ (worker_at host world i).clock.at.epoch
      → IsIn (with_worker world i worker) epoch
  kept world epoch i worker is same = record {
    phase_is = is.phase_is;
    some = omega (arith, is.some, length-set world.workers i worker);
    epoch_is = shows_epoch world.workers i worker (fresh host.header) same ∙ is.epoch_is;
  }

  serve_kept : (world : World C) (epoch i : ℕ) (place : Place) (request : R) → IsIn world epoch → MayServe host world i place request
      → IsIn (step host world (serves i place request)) epoch
  serve_kept world epoch i place request is may = go (host.serve i worker.clock content request) refl
    where
      worker : Worker
      worker = worker_at host world i

      content : C
      content = get_or (shard_at world place.shard).contents place.seat host.vacant

      go : (found : Option (Done C)) → host.serve i worker.clock content request ≡ found → IsIn (after_serve world i worker place (shard_at world place.shard) found) epoch
      go None none' = kept world epoch i (record worker { stopped = true }) is refl
      go (Some done) found =
          let on = steady.serves_on i worker.clock content request done (steady.waits place.shard place.seat (shard_at world place.shard).contents request may.owns) found in
          let next = kept world epoch i (having_served (logging worker done.commands done.clock) place) is on.epoch in
          record { phase_is = next.phase_is; some = next.some; epoch_is = next.epoch_is }

  scan_kept : (world : World C) (epoch i : ℕ) (place : Place) → IsIn world epoch → IsIn (step host world (machine.scans i place)) epoch
  scan_kept world epoch i place is = go (host.move i worker.clock place.shard (shard_at world place.shard).contents) refl
    where
      worker : Worker
      worker = worker_at host world i

      go : (found : Option (Done (List C))) → host.move i worker.clock place.shard (shard_at world place.shard).contents ≡ found
          → IsIn (after_scan world i worker place (shard_at world place.shard) found) epoch
      go None none' = kept world epoch i (record worker { stopped = true }) is refl
      go (Some done) found =
          let next = kept world epoch i (having_scanned (logging worker done.commands done.clock) place) is
          (keeps i worker.clock place.shard (shard_at world place.shard).contents done found) in
          record { phase_is = next.phase_is; some = next.some; epoch_is = next.epoch_is }

  act_kept : (turn : Turn C R) (request : Option R) (world : World C) (epoch : ℕ) → IsIn world epoch → IsEnabled host world (act_of turn request)
      → IsIn (step host world (act_of turn request)) epoch
  act_kept turn None world epoch is may = scan_kept world epoch turn.worker turn.place is
  act_kept turn (Some request) world epoch is may = serve_kept world epoch turn.worker turn.place request is may

  done_kept : (turn : Turn C R) (world : World C) (epoch : ℕ) → IsIn world epoch → Goes host world (done_events turn) → IsIn (run_events host world (done_events turn)) epoch
  done_kept turn world epoch is goes =
      let taken = step host world (takes turn.worker turn.place) in
      let acted = step host taken (act_of turn turn.request) in
      kept acted epoch turn.worker (record (worker_at host acted turn.worker) { holds = None })
      (act_kept turn turn.request taken epoch
      (kept world epoch turn.worker (record (worker_at host world turn.worker) { holds = Some (record { place = turn.place; used = false }) }) is refl) goes.2.0) refl

  -- ---- from an epoch to the next

  module _ (finals : ℕ → ℕ) where
    -- behind a note, a raise and an enter
    abbrev entered : World C → World C
    entered world = step host (step host (step host world (finishes 0)) (raises 0)) (enters 0)

    entered_in : (world : World C) (epoch : ℕ) → IsIn world epoch → IsIn (entered world) (suc epoch)
    entered_in world epoch is =
        let worker = worker_at host world 0 in
        let next = logging worker (NextEpoch ∷ []) (next_clock worker.clock) in
        record {
          phase_is = is.phase_is;
          some = omega (arith, is.some, length-set world.workers 0 next);
          epoch_is = ap (λ (w : Worker). w.clock.at.epoch) (get_or-set_same world.workers 0 next (fresh host.header) is.some) ∙ omega (arith, is.epoch_is);
        }

    raised_within : (world : World C) (epoch : ℕ) → IsIn world epoch → MayRaise host (step host world (finishes 0)) 0 → IsWithin (suc epoch)
    raised_within world epoch is may =
        let wanted : (worker_at host world 0).clock.at.epoch < host.header.first + world.phase = may.wanted in
        let more : (worker_at host world 0).clock.at.epoch < last_epoch = may.more in
        λ past. (omega (arith, wanted, is.epoch_is, is.phase_is), omega (arith, more, is.epoch_is))

    module _ (world : World C) (epoch count : ℕ) (less : epoch < finals 0) where
      abbrev rest : List (WorldEvent R)
      rest = climb finals 1 (suc epoch) count

      enters_is : ◌≡◌ {A = List (WorldEvent R)} (enters_from finals epoch 0 1) (enters 0 ∷ [])
      enters_is = cond-true (nat_lt epoch (finals 0)) (enters 0 ∷ []) [] (lt-ltb epoch (finals 0) less)

      goes_on : Goes host world (climb finals 1 epoch (suc count)) → Goes host (entered world) rest
      goes_on goes = (subst (λ (es : List (WorldEvent R)). Goes host world (finishes 0 ∷ raises 0 ∷ (es ++ rest))) enters_is goes).2.2.2

      runs_on : run_events host world (climb finals 1 epoch (suc count)) ≡ run_events host (entered world) rest
      runs_on = ap (λ (es : List (WorldEvent R)). run_events host world (finishes 0 ∷ raises 0 ∷ (es ++ rest))) enters_is

    climb_on : (count epoch : ℕ) (world : World C) → IsIn world epoch → Goes host world (climb finals 1 epoch count) → epoch + count ≤ finals 0
        → IsIn (run_events host world (climb finals 1 epoch count)) (epoch + count)
    climb_on zero epoch world is goes within = let same : epoch ≡ epoch + 0 = omega arith in subst (IsIn world) same is
    climb_on (suc count) epoch world is goes within =
        let less : epoch < finals 0 = omega (arith, within) in
        let same : suc epoch + count ≡ epoch + suc count = omega arith in
        subst (λ (w : World C). IsIn w (epoch + suc count)) (sym (runs_on world epoch count less))
        (subst (IsIn (run_events host (entered world) (climb finals 1 (suc epoch) count))) same
        (climb_on count (suc epoch) (entered world) (entered_in world epoch is) (goes_on world epoch count less goes) (omega (arith, within))))

    climb_within : (count epoch : ℕ) (world : World C) → IsIn world epoch → Goes host world (climb finals 1 epoch count) → epoch + count ≤ suc (finals 0)
        → IsWithin epoch → IsWithin (epoch + count)
    climb_within zero epoch world is goes within so = let same : epoch ≡ epoch + 0 = omega arith in subst IsWithin same so
    climb_within (suc count) epoch world is goes within so =
        go (cases_lt epoch (finals 0))
        (λ less. climb_within count (suc epoch) (entered world) (entered_in world epoch is) (goes_on world epoch count less goes) (omega (arith, within)) raised)
      where
        raised : IsWithin (suc epoch)
        raised = raised_within world epoch is goes.2.0

        go : (epoch < finals 0) ⊎ (finals 0 ≤ epoch) → (epoch < finals 0 → IsWithin (suc epoch + count)) → IsWithin (epoch + suc count)
        go (inl less) again = let same : suc epoch + count ≡ epoch + suc count = omega arith in subst IsWithin same (again less)
        go (inr past) again = let same : suc epoch ≡ epoch + suc count = omega (arith, past, within) in subst IsWithin same raised

    -- The round comes to no later epoch.
    pub round_within : (turns : List (Turn C R)) (epoch top : ℕ) (world : World C) → IsIn world epoch → Goes host world (round_events finals 1 top epoch turns)
        → AreUpwards (finals 0) epoch turns → finals 0 ≤ top → top ≤ suc (finals 0) → IsWithin epoch → IsWithin top
    round_within [] epoch top world is goes up low high so =
        let same : epoch + (top - epoch) ≡ top = omega (arith, up, low) in
        subst IsWithin same (climb_within (top - epoch) epoch world is goes (omega (arith, same, high)) so)
    round_within (turn ∷ turns) epoch top world is goes up low high so =
        round_within turns to top (run_events host middle (done_events turn))
        (done_kept turn middle to here (goes_front host middle (done_events turn) zs goes_then)) (goes_behind host middle (done_events turn) zs goes_then) up.1 low high
        (subst IsWithin same (climb_within (to - epoch) epoch world is goes_first (omega (arith, same, least)) so))
      where
        to : ℕ
        to = turn.clock.at.epoch

        xs : List (WorldEvent R)
        xs = climb finals 1 epoch (to - epoch)

        zs : List (WorldEvent R)
        zs = round_events finals 1 top to turns

        middle : World C
        middle = run_events host world xs

        goes_first : Goes host world xs
        goes_first = goes_front host world xs (done_events turn ++ zs) goes

        goes_then : Goes host middle (done_events turn ++ zs)
        goes_then = goes_behind host world xs (done_events turn ++ zs) goes

        least : to ≤ finals 0
        least = upwards_within (finals 0) to turns up.1

        same : epoch + (to - epoch) ≡ to
        same = omega (arith, up.0)

        here : IsIn middle to
        here = subst (IsIn middle) same (climb_on (to - epoch) epoch world is goes_first (omega (arith, same, least)))

-- ---- the round of a rolling host

-- what waits at a seat waits among all of them
pending_at : {C R : Type 0} (host : Host C R) (P : Element → Type 0) (contents : List C) (seat : ℕ) → seat < length contents
    → AllByRecursion P (pending_of host contents) → AllByRecursion P (host.pending (get_or contents seat host.vacant))
pending_at host P [] seat there all = absurd (omega (arith, there))
pending_at host P (content ∷ contents) zero there all = all_front P (host.pending content) (pending_of host contents) all
pending_at host P (content ∷ contents) (suc seat) there all =
    pending_at host P contents seat (omega (arith, there)) (all_behind P (host.pending content) (pending_of host contents) all)

module _ {C R : Type 0} (host : Host C R) (rolling : host.rolling ≡ true) (is : IsSetUp host) (keeps : MovesKeepEpoch host) (top : ℕ) (finals : ℕ → ℕ)
    (lists : List (List (Turn C R))) (pasts : List (List (List (Turn C R)))) (told : AreTold host true (set_up host) top finals lists pasts) (new : AreFresh host (list_of lists 0))
    (goes : Goes host (set_up host) (round_events finals (length (set_up host).workers) top host.header.first (in_one_order (joined lists)))) where
  abbrev world : World C
  world = set_up host

  there : 0 < length world.workers
  there = omega (arith, workers_one host is)

  upwards : AreUpwards (finals 0) host.header.first (list_of lists 0)
  upwards = list_upwards host is top finals lists pasts told new

  listed : Goes host world (round_events finals 1 top host.header.first (list_of lists 0))
  listed =
      subst (λ (turns : List (Turn C R)). Goes host world (round_events finals 1 top host.header.first turns)) (order_is host is top finals lists pasts told)
      (subst (λ (n : ℕ). Goes host world (round_events finals n top host.header.first (in_one_order (joined lists)))) (workers_one host is) goes)

  ends : (finals 0 ≤ top) × (top ≤ suc (finals 0))
  ends = ((told.final 0 there).1, (told.final 0 there).2)

  pub told_on : IsToldOn host top finals lists pasts
  told_on = record {
    told = told;
    from = let least = upwards_within (finals 0) host.header.first (list_of lists 0) upwards in omega (arith, least, ends.0);
    within = round_within host (known host is).steady keeps world.phase finals (list_of lists 0) host.header.first top world
        (record { phase_is = refl; some = there; epoch_is = is.first }) listed upwards ends.0 ends.1 (λ past. absurd (omega (arith, past)));
  }

  abbrev done : Led host true (known host is).steady top finals world (in_one_order (joined lists)) (round_events finals (length world.workers) top host.header.first (in_one_order (joined lists)))
  done = led host is rolling top finals lists pasts told_on

  abbrev later : World C
  later = done.later

  -- the worker's clock is in its last epoch
  clock_is : (worker_at host later 0).clock.at.epoch ≡ finals 0
  clock_is =
      ap (λ (c : Reading). c.at.epoch) (done.leads.clocks 0 there
      ∙ ap (λ (turns : List (Turn C R)). on_to (finals 0) (clock_behind (worker_at host world 0).clock turns)) (part_is host is top finals lists pasts told))
      ∙ on_to-epoch (finals 0) (clock_behind (worker_at host world 0).clock (list_of lists 0)) (told.final 0 there).0

  top_within : top ≤ epoch_of host world
  top_within = go (cases_lt host.header.first top)
    where
      go : (host.header.first < top) ⊎ (top ≤ host.header.first) → top ≤ epoch_of host world
      go (inl less) = (told_on.within less).0
      go (inr least) = omega (arith, least)

  -- no close is behind it
  pub not_ended : HasAdvanced host (noted host is rolling top finals lists pasts told_on) 0 2 → ⊥
  not_ended twice =
      let again : HasAdvanced host (run_events host later (finishes_from 0 (length world.workers))) 0 2 = subst (λ (w : World C). HasAdvanced host w 0 2) (noted_is host is rolling top finals lists pasts told_on) twice in
      let still = still_noted host later 0 (length world.workers) in
      let worker : (worker_at host (run_events host later (finishes_from 0 (length world.workers))) 0).clock.at.epoch ≡ (worker_at host later 0).clock.at.epoch =
      ap (λ (ws : List Worker). (get_or ws 0 (fresh host.header)).clock.at.epoch) still.1 in
      absurd (omega (arith, again, worker, still.2, done.leads.phase, clock_is, ends.0, top_within))

  -- ---- where its close may begin

  module _ (noting : Goes host later (finishes_from 0 (length world.workers))) (over : IsRoundOver host (noted host is rolling top finals lists pasts told_on)) where
    may : MayFinish host later 0
    may = (subst (λ (n : ℕ). Goes host later (finishes_from 0 n)) (workers_one host is) noting).0

    over_then : IsRoundOver host (step host later (finishes 0))
    over_then = subst (IsRoundOver host) (noted_is host is rolling top finals lists pasts told_on ∙ ap (λ (n : ℕ). run_events host later (finishes_from 0 n)) (workers_one host is)) over

    here : 0 < length later.workers
    here = omega (arith, there, done.leads.count)

    marked : 0 < length later.scanned
    marked = omega (arith, there, done.leads.marks, marks_one host is)

    final_is : finals 0 ≡ epoch_of host world
    final_is =
        sym clock_is ∙ sym (get_or-set_same later.scanned 0 (worker_at host later 0).clock.at.epoch host.header.first marked)
        ∙ (over_then 0 here).2 ∙ ap (λ (n : ℕ). host.header.first + n) done.leads.phase

    top_is : top ≡ epoch_of host world
    top_is = omega (arith, final_is, top_within, ends.0)

    past_part : (place : Place) → filter (is_at place) (in_one_order (joined lists)) ≡ past_of pasts place
    past_part place = ap (filter (is_at place)) (order_is host is top finals lists pasts told) ∙ sym (past_is host is top finals lists pasts told place)

    reached : (place : Place) → IsPlace world place → AreFrom top (host.pending (content_behind (content_at host world place) (past_of pasts place)))
    reached place at =
        subst (λ (c : C). AreFrom top (host.pending c)) (done.leads.contents place ∙ ap (content_behind (content_at host world place)) (past_part place))
        (subst (λ (n : ℕ). AreFrom n (host.pending (content_at host later place))) (clock_is ∙ final_is ∙ sym top_is)
        (pending_at host (λ element. (worker_at host later 0).clock.at.epoch ≤ element.stamp.epoch) (shard_at later place.shard).contents place.seat
        (omega (arith, at.1, done.leads.seats place.shard))
        (may.reached place.shard (omega (arith, at.0, done.leads.shards)) (subst (λ (n : ℕ). place.shard % n ≡ 0) one (omega arith)))))
      where
        one : 1 ≡ length later.workers
        one = sym (done.leads.count ∙ workers_one host is)

    served : slice_get (asked host 0) (served_behind (worker_at host world 0).served (list_of lists 0)) ≡ None
    served =
        ap (λ (turns : List (Turn C R)). slice_get (asked host 0) (served_behind (worker_at host world 0).served turns)) (sym (part_is host is top finals lists pasts told))
        ∙ ap (slice_get (asked host 0)) (sym (done.leads.served 0)) ∙ (over_then 0 here).1

    -- It was whole.
    pub whole : IsWholeRound host world top finals lists pasts
    whole = record {
      rolling = rolling;
      last = top_is;
      come = λ i within. each_come i within;
      served = λ i within. each_served i within;
      reached = reached;
      running = λ i within. first_only host is (λ (w : Worker). w.stopped ≡ false) refl i within;
      marks = marks_one host is;
    }
      where
        each_come : (i : ℕ) → i < length world.workers → finals i ≡ top
        each_come zero within = final_is ∙ sym top_is
        each_come (suc i) within = absurd (omega (arith, within, workers_one host is))

        each_served : (i : ℕ) → i < length world.workers → slice_get (asked host i) (served_behind (worker_at host world i).served (list_of lists i)) ≡ None
        each_served zero within = served
        each_served (suc i) within = absurd (omega (arith, within, workers_one host is))
