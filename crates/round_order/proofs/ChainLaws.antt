-- Turns in a row, replayed with the epochs between them: where each worker's part and each place's part is a chain, all of it is
-- enabled, and leads where it tells.
use Rattle.std.proofs.Common.{◌≡◌, ◌⊎◌, ℕ, suc, ◌+◌, ◌-◌, ◌<◌, ◌≤◌, ◌==◌, Bool, true, false, List, [], ◌∷◌, ◌++◌, filter, length, get_or, replicate, refl, sym, ◌∙◌, ap, subst, inl, inr, append_assoc, arith}
use Rattle.std.specs.List.{AllByRecursion}
use Rattle.std.proofs.lemmas.Bool.{cases_eq, eq-eqb, eqb-true, ne_eqb, cond-true, cond-false, and_from, and_parts}
use Rattle.stamp_order.proofs.InOrderLaws.{every-weaker, every-filter}
use Rattle.record_text.specs.declared.element.Element.{Element}
use Rattle.log_codec.specs.declared.command.Command.TheVariants.{NextEpoch}
use Rattle.host_core.specs.Host.{Host}
use Rattle.host_core.specs.World.{Place, Worker, Seats, World, unmoved, worker_at, shard_at}
use Rattle.host_core.specs.WorldEvent.{WorldEvent, IsPlace, run_events}
use Rattle.round_order.specs.Turn.{Turn, same_place, is_at, is_by, on_to, served_more, IsPlaceChain, IsWorkerChain, content_behind, clock_behind, served_behind, logged, content_at}
use Rattle.round_order.specs.Steady.{IsSteady}
use Rattle.round_order.specs.Told.{IsTaken, IsRaised, climb, done_events, round_events}
use Rattle.round_order.proofs.GoingLaws.{aim, aim-within, aim-past, gone_on, on_to-there}
use Rattle.round_order.proofs.WayLemmas.{Way, way-then}
use Rattle.round_order.proofs.ClimbLemmas.{IsUp, Climbs, climbs_up, raised-then}
use Rattle.round_order.proofs.TurnLaws.{IsIdle, IsNextTurn, turned_worker, after_turn, turn_way, own_worker_is, other_worker_is, count_is, shards_count_is, own_content_is, other_content_is, seats_count_is, place_back, running_is, idle_after, owners_stay, taken_after}
use Rattle.round_order.proofs.ReadyLemmas.{RisesIn, AreIn, rises-all, IsMoving, chain-rises, Ready, reached, content_same, shown_same, part_behind, ready_on}

-- places that are told to be the same are
place_is : (p q : Place) → same_place p q ≡ true → p ≡ q
place_is p q same =
    let parts = and_parts (p.shard == q.shard) (p.seat == q.seat) same in
    ap (λ (n : ℕ). record { shard = n; seat = p.seat }) (eqb-true p.shard q.shard parts.0)
    ∙ ap (λ (n : ℕ). record { shard = q.shard; seat = n }) (eqb-true p.seat q.seat parts.1)

same_place-self : (p : Place) → same_place p p ≡ true
same_place-self p =
    and_from (p.shard == p.shard) (p.seat == p.seat) (eq-eqb p.shard p.shard refl) (eq-eqb p.seat p.seat refl)

-- each of these turns, in a row with nothing between them, finds its worker's clock and its place's content
abbrev pub Found : {C R : Type 0} → Host C R → World C → List (Turn C R) → Type 0
Found host world [] = Unit {0}
Found host world (turn ∷ turns) =
    (turn.clock ≡ (worker_at host world turn.worker).clock) × (turn.before ≡ content_at host world turn.place)
    × Found host (run_events host world (done_events turn)) turns

module _ {C R : Type 0} (host : Host C R) (scans : Bool) (steady : IsSteady host scans) (top : ℕ) (finals : ℕ → ℕ) where
  -- The later world has the last contents and clocks; each worker has logged its commands and the epochs that it went on by, and has
  -- come to its last epoch.
  pub record LeadsTo (world later : World C) (turns : List (Turn C R)) : Type 0 where
    pub contents : (place : Place) → content_at host later place ≡ content_behind (content_at host world place) (filter (is_at place) turns)
    pub logs : (i : ℕ) → i < length world.workers
        → (worker_at host later i).log ≡ (worker_at host world i).log ++ logged (finals i) (worker_at host world i).clock (filter (is_by i) turns)
    pub clocks : (i : ℕ) → i < length world.workers
        → (worker_at host later i).clock ≡ on_to (finals i) (clock_behind (worker_at host world i).clock (filter (is_by i) turns))
    pub served : (i : ℕ) → (worker_at host later i).served ≡ served_behind (worker_at host world i).served (filter (is_by i) turns)
    pub stopped : (i : ℕ) → (worker_at host later i).stopped ≡ (worker_at host world i).stopped
    pub stuck : (i : ℕ) → (worker_at host later i).stuck ≡ (worker_at host world i).stuck
    pub up : IsUp host top finals later top
    pub count : length later.workers ≡ length world.workers
    pub shards : length later.shards ≡ length world.shards
    pub seats : (s : ℕ) → length (shard_at later s).contents ≡ length (shard_at world s).contents
    pub owns : (s seat : ℕ) (ask : R) → host.owns s (shard_at later s).contents seat ask ≡ host.owns s (shard_at world s).contents seat ask
    pub marks : length later.scanned ≡ length world.scanned
    pub phase : later.phase ≡ world.phase

  -- ---- one turn, in whose epoch the world stands

  module _ (world : World C) (turn : Turn C R) (turns : List (Turn C R)) (ready : Ready host scans top finals world turn.clock.at.epoch (turn ∷ turns)) where
    abbrev i : ℕ
    i = turn.worker

    abbrev epoch : ℕ
    epoch = turn.clock.at.epoch

    abbrev after : World C
    after = after_turn host world turn

    there : i < length world.workers
    there = ready.each.0.there

    -- what its worker's part and its place's part begin with
    own_part : IsWorkerChain host i (worker_at host world i).clock (worker_at host world i).served (turn ∷ filter (is_by i) turns)
    own_part =
        subst (IsWorkerChain host i (worker_at host world i).clock (worker_at host world i).served)
        (cond-true (is_by i turn) _ _ (eq-eqb i i refl)) (ready.workers i)

    own_place : IsPlaceChain (content_at host world turn.place) (turn ∷ filter (is_at turn.place) turns)
    own_place =
        subst (IsPlaceChain (content_at host world turn.place))
        (cond-true (is_at turn.place turn) _ _ (same_place-self turn.place)) (ready.places turn.place)

    own_final : (clock_behind turn.done.clock (filter (is_by i) turns)).at.epoch ≤ finals i
    own_final =
        subst (λ (part : List (Turn C R)). (clock_behind (worker_at host world i).clock part).at.epoch ≤ finals i)
        (cond-true (is_by i turn) _ _ (eq-eqb i i refl)) (ready.final i there)

    -- the worker's last epoch is not before
    come : epoch ≤ finals i
    come =
        let moving = every-filter (IsMoving host) (is_by i) turns ready.moving.1 in
        omega (
          arith,
          ready.moving.0.epoch,
          chain-rises host i (filter (is_by i) turns) (served_more (worker_at host world i).served turn.request) turn.done.clock own_part.3 moving,
          own_final,
        )

    stands : (worker_at host world i).clock.at.epoch ≡ epoch
    stands = ready.up.clocks i there ∙ aim-within epoch (finals i) come

    idle : IsIdle host world
    idle = record { going = ready.up.going; phase = ready.up.phase; idle = ready.up.idle }

    pub next : IsNextTurn host scans world turn
    next = record {
      is_taken = ready.each.0;
      clock = own_part.0 ∙ on_to-there epoch (worker_at host world i).clock (omega (arith, stands));
      asked_for = own_part.2;
      before = own_place.0;
    }

    pub after_way : Way host world (done_events turn) after
    after_way = turn_way host scans world idle turn next

    -- a worker's part with the turn, or without
    own_filter : (j : ℕ) → i ≡ j → filter (is_by j) (turn ∷ turns) ≡ turn ∷ filter (is_by j) turns
    own_filter j same = cond-true (is_by j turn) _ _ (eq-eqb i j same)

    other_filter : (j : ℕ) → (i ≡ j → ⊥) → filter (is_by j) (turn ∷ turns) ≡ filter (is_by j) turns
    other_filter j apart = cond-false (is_by j turn) _ _ (ne_eqb i j apart)

    own_is : (j : ℕ) → i ≡ j → worker_at host after j ≡ turned_worker host (worker_at host world j) turn.request turn.done
    own_is j same =
        ap (λ (n : ℕ). worker_at host after n) (sym same)
        ∙ own_worker_is host scans world idle turn next
        ∙ ap (λ (n : ℕ). turned_worker host (worker_at host world n) turn.request turn.done) same

    other_is : (j : ℕ) → (i ≡ j → ⊥) → worker_at host after j ≡ worker_at host world j
    other_is j apart = other_worker_is host scans world idle turn next j (λ same. apart (sym same))

    count : length after.workers ≡ length world.workers
    count = count_is host scans world idle turn next

    -- The rest is ready in the world behind it.
    pub rest_ready : Ready host scans top finals after epoch turns
    rest_ready = record {
      up = record {
        going = ready.up.going;
        phase = ready.up.phase;
        idle = (idle_after host scans world idle turn next).idle;
        clocks = λ j within. clock j (omega (arith, within, count)) (cases_eq i j);
        lasts = λ j within. ready.up.lasts j (omega (arith, within, count));
        within = ready.up.within;
        roll = λ less. let can = ready.up.roll less in record {
          rolling = can.rolling;
          newest = can.newest;
          within = can.within;
          last = can.last;
          marks = can.marks ∙ sym count;
          some = omega (arith, can.some, count);
          running = λ j within. running_is host scans world idle turn next j ∙ can.running j (omega (arith, within, count));
        };
      };
      each = every-weaker (IsTaken host scans world) (IsTaken host scans after) (taken_after host scans world idle turn next steady) turns ready.each.1;
      moving = ready.moving.1;
      rising = ready.rising.1;
      workers = λ j. worker_part j (cases_eq i j);
      places = λ place. (content_part place (is_at place turn) refl).0;
      final = λ j within. final j (omega (arith, within, count)) (cases_eq i j);
      ends = λ place at. (content_part place (is_at place turn) refl).1 (place_back host scans world idle turn next place at);
    }
      where
        clock : (j : ℕ) → j < length world.workers → (i ≡ j) ⊎ (i ≡ j → ⊥) → (worker_at host after j).clock.at.epoch ≡ aim epoch (finals j)
        clock j within (inl same) =
            ap (λ (w : Worker). w.clock.at.epoch) (own_is j same) ∙ ready.moving.0.epoch
            ∙ sym (aim-within epoch (finals j) (subst (λ (n : ℕ). epoch ≤ finals n) same come))
        clock j within (inr apart) = ap (λ (w : Worker). w.clock.at.epoch) (other_is j apart) ∙ ready.up.clocks j within

        Chain : ℕ → Worker → Type 0
        Chain j w = IsWorkerChain host j w.clock w.served (filter (is_by j) turns)

        worker_part : (j : ℕ) → (i ≡ j) ⊎ (i ≡ j → ⊥) → Chain j (worker_at host after j)
        worker_part j (inl same) =
            subst (λ (n : ℕ). Chain n (worker_at host after n)) same
            (subst (Chain i) (sym (own_worker_is host scans world idle turn next)) own_part.3)
        worker_part j (inr apart) =
            subst (Chain j) (sym (other_is j apart))
            (subst (IsWorkerChain host j (worker_at host world j).clock (worker_at host world j).served) (other_filter j apart) (ready.workers j))

        final : (j : ℕ) → j < length world.workers → (i ≡ j) ⊎ (i ≡ j → ⊥) → (clock_behind (worker_at host after j).clock (filter (is_by j) turns)).at.epoch ≤ finals j
        final j within (inl same) =
            subst (λ (n : ℕ). (clock_behind (worker_at host after n).clock (filter (is_by n) turns)).at.epoch ≤ finals n) same
            (subst (λ (w : Worker). (clock_behind w.clock (filter (is_by i) turns)).at.epoch ≤ finals i) (sym (own_worker_is host scans world idle turn next)) own_final)
        final j within (inr apart) =
            subst (λ (w : Worker). (clock_behind w.clock (filter (is_by j) turns)).at.epoch ≤ finals j) (sym (other_is j apart))
            (subst (λ (part : List (Turn C R)). (clock_behind (worker_at host world j).clock part).at.epoch ≤ finals j) (other_filter j apart) (ready.final j within))

        Ends : C → List (Turn C R) → Type 0
        Ends content part = AllByRecursion (λ (element : Element). top ≤ suc element.stamp.epoch) (host.pending (content_behind content part))

        content_part : (place : Place) (b : Bool) → is_at place turn ≡ b
            → IsPlaceChain (content_at host after place) (filter (is_at place) turns)
            × (IsPlace world place → Ends (content_at host after place) (filter (is_at place) turns))
        content_part place true here =
            let same = place_is turn.place place here in (
              subst (λ (p : Place). IsPlaceChain (content_at host after p) (filter (is_at p) turns)) same
                  (subst (λ (c : C). IsPlaceChain c (filter (is_at turn.place) turns)) (sym (own_content_is host scans world idle turn next)) own_place.1),
              λ at. subst (λ (c : C). Ends c (filter (is_at place) turns))
                  (sym (ap (content_at host after) (sym same) ∙ own_content_is host scans world idle turn next))
                  (subst (Ends (content_at host world place)) (cond-true (is_at place turn) _ _ here) (ready.ends place at)),
            )
        content_part place false elsewhere = (
          subst (λ (c : C). IsPlaceChain c (filter (is_at place) turns)) (sym (other_content_is host scans world idle turn next place elsewhere))
              (subst (IsPlaceChain (content_at host world place)) (cond-false (is_at place turn) _ _ elsewhere) (ready.places place)),
          λ at. subst (λ (c : C). Ends c (filter (is_at place) turns)) (sym (other_content_is host scans world idle turn next place elsewhere))
              (subst (Ends (content_at host world place)) (cond-false (is_at place turn) _ _ elsewhere) (ready.ends place at)),
        )

    -- What the rest leads to, the whole leads to.
    pub turn_leads : (later : World C) → LeadsTo after later turns → LeadsTo world later (turn ∷ turns)
    turn_leads later leads = record {
      contents = λ place. contents place (is_at place turn) refl;
      logs = λ j within. logs j within (cases_eq i j);
      clocks = λ j within. clocks j within (cases_eq i j);
      served = λ j. served j (cases_eq i j);
      stopped = λ j. leads.stopped j ∙ running_is host scans world idle turn next j;
      stuck = λ j. leads.stuck j ∙ stuck j (cases_eq i j);
      up = leads.up;
      count = leads.count ∙ count;
      shards = leads.shards ∙ shards_count_is host scans world idle turn next;
      seats = λ s. leads.seats s ∙ seats_count_is host scans world idle turn next s;
      owns = λ s seat ask. leads.owns s seat ask ∙ owners_stay host scans world idle turn next steady s seat ask;
      marks = leads.marks;
      phase = leads.phase;
    }
      where
        contents : (place : Place) (b : Bool) → is_at place turn ≡ b
            → content_at host later place ≡ content_behind (content_at host world place) (filter (is_at place) (turn ∷ turns))
        contents place true here =
            let same = place_is turn.place place here in
            leads.contents place
            ∙ ap (λ (c : C). content_behind c (filter (is_at place) turns))
            (ap (content_at host after) (sym same) ∙ own_content_is host scans world idle turn next)
            ∙ sym (ap (content_behind (content_at host world place)) (cond-true (is_at place turn) _ _ here))
        contents place false elsewhere =
            leads.contents place
            ∙ ap (λ (c : C). content_behind c (filter (is_at place) turns)) (other_content_is host scans world idle turn next place elsewhere)
            ∙ sym (ap (content_behind (content_at host world place)) (cond-false (is_at place turn) _ _ elsewhere))

        logs : (j : ℕ) → j < length world.workers → (i ≡ j) ⊎ (i ≡ j → ⊥)
            → (worker_at host later j).log ≡ (worker_at host world j).log ++ logged (finals j) (worker_at host world j).clock (filter (is_by j) (turn ∷ turns))
        logs j within (inl same) =
            let rest = logged (finals j) turn.done.clock (filter (is_by j) turns) in
            let was : Worker = worker_at host world j in
            let none' : 0 ≡ epoch - was.clock.at.epoch = omega (arith, stands, ap (λ (n : ℕ). (worker_at host world n).clock.at.epoch) same) in
            leads.logs j (omega (arith, within, count))
            ∙ ap (λ (w : Worker). w.log ++ logged (finals j) w.clock (filter (is_by j) turns)) (own_is j same)
            ∙ append_assoc was.log turn.done.commands rest
            ∙ ap (λ (n : ℕ). was.log ++ (replicate n NextEpoch ++ (turn.done.commands ++ rest))) none'
            ∙ sym (ap (λ (zs : List (Turn C R)). was.log ++ logged (finals j) was.clock zs) (own_filter j same))
        logs j within (inr apart) =
            leads.logs j (omega (arith, within, count))
            ∙ ap (λ (w : Worker). w.log ++ logged (finals j) w.clock (filter (is_by j) turns)) (other_is j apart)
            ∙ sym (ap (λ (zs : List (Turn C R)). (worker_at host world j).log ++ logged (finals j) (worker_at host world j).clock zs) (other_filter j apart))

        clocks : (j : ℕ) → j < length world.workers → (i ≡ j) ⊎ (i ≡ j → ⊥)
            → (worker_at host later j).clock ≡ on_to (finals j) (clock_behind (worker_at host world j).clock (filter (is_by j) (turn ∷ turns)))
        clocks j within (inl same) =
            leads.clocks j (omega (arith, within, count))
            ∙ ap (λ (w : Worker). on_to (finals j) (clock_behind w.clock (filter (is_by j) turns))) (own_is j same)
            ∙ sym (ap (λ (zs : List (Turn C R)). on_to (finals j) (clock_behind (worker_at host world j).clock zs)) (own_filter j same))
        clocks j within (inr apart) =
            leads.clocks j (omega (arith, within, count))
            ∙ ap (λ (w : Worker). on_to (finals j) (clock_behind w.clock (filter (is_by j) turns))) (other_is j apart)
            ∙ sym (ap (λ (zs : List (Turn C R)). on_to (finals j) (clock_behind (worker_at host world j).clock zs)) (other_filter j apart))

        served : (j : ℕ) → (i ≡ j) ⊎ (i ≡ j → ⊥)
            → (worker_at host later j).served ≡ served_behind (worker_at host world j).served (filter (is_by j) (turn ∷ turns))
        served j (inl same) =
            leads.served j
            ∙ ap (λ (w : Worker). served_behind w.served (filter (is_by j) turns)) (own_is j same)
            ∙ sym (ap (served_behind (worker_at host world j).served) (own_filter j same))
        served j (inr apart) =
            leads.served j
            ∙ ap (λ (w : Worker). served_behind w.served (filter (is_by j) turns)) (other_is j apart)
            ∙ sym (ap (served_behind (worker_at host world j).served) (other_filter j apart))

        stuck : (j : ℕ) → (i ≡ j) ⊎ (i ≡ j → ⊥) → (worker_at host after j).stuck ≡ (worker_at host world j).stuck
        stuck j (inl same) = ap (λ (w : Worker). w.stuck) (own_is j same)
        stuck j (inr apart) = ap (λ (w : Worker). w.stuck) (other_is j apart)

  -- ---- all of them

  -- events that are enabled, and the world that they lead to
  pub record Led (world : World C) (turns : List (Turn C R)) (events : List (WorldEvent R)) : Type 0 where
    pub later : World C
    pub way : Way host world events later
    pub leads : LeadsTo world later turns

  -- behind the epochs that the workers go on by first
  module _ (world : World C) (epoch : ℕ) (turns : List (Turn C R)) (ready : Ready host scans top finals world epoch turns) (to : ℕ) (from : epoch ≤ to) (within : to ≤ top)
      (all : AreIn to turns) (middle : World C) (climbs : Climbs host top finals world middle to) (up : IsUp host top finals middle to) where
    behind : (i : ℕ) → i < length world.workers
        → (on_to (finals i) (clock_behind (worker_at host middle i).clock (filter (is_by i) turns)) ≡ on_to (finals i) (clock_behind (worker_at host world i).clock (filter (is_by i) turns)))
        × ((worker_at host middle i).log ++ logged (finals i) (worker_at host middle i).clock (filter (is_by i) turns)
        ≡ (worker_at host world i).log ++ logged (finals i) (worker_at host world i).clock (filter (is_by i) turns))
    behind = part_behind host scans top finals world epoch turns ready to from within all middle climbs up

    shown : {A : Type 0} (show : Worker → A) → ((n : ℕ) (w : Worker) → show (gone_on n w) ≡ show w) → (i : ℕ)
        → show (worker_at host middle i) ≡ show (worker_at host world i)
    shown = shown_same host scans top finals world epoch turns ready to from within all middle climbs up

    climb_leads : (later : World C) → LeadsTo middle later turns → LeadsTo world later turns
    climb_leads later leads = record {
      contents = λ place. leads.contents place
          ∙ ap (λ (c : C). content_behind c (filter (is_at place) turns)) (content_same host scans top finals world epoch turns ready to from within all middle climbs up place);
      logs = λ i there. leads.logs i (omega (arith, there, climbs.count)) ∙ (behind i there).1;
      clocks = λ i there. leads.clocks i (omega (arith, there, climbs.count)) ∙ (behind i there).0;
      served = λ i. leads.served i ∙ ap (λ (n : ℕ). served_behind n (filter (is_by i) turns)) (shown (λ w. w.served) (λ n w. refl) i);
      stopped = λ i. leads.stopped i ∙ shown (λ w. w.stopped) (λ n w. refl) i;
      stuck = λ i. leads.stuck i ∙ shown (λ w. w.stuck) (λ n w. refl) i;
      up = leads.up;
      count = leads.count ∙ climbs.count;
      shards = leads.shards ∙ ap (λ (shards : List (Seats C)). length shards) climbs.shards;
      seats = λ s. leads.seats s ∙ ap (λ (shards : List (Seats C)). length (get_or shards s (unmoved [])).contents) climbs.shards;
      owns = λ s seat ask. leads.owns s seat ask ∙ ap (λ (shards : List (Seats C)). host.owns s (get_or shards s (unmoved [])).contents seat ask) climbs.shards;
      marks = leads.marks ∙ climbs.marks;
      phase = leads.phase ∙ climbs.phase;
    }

  -- where no turn is left each worker goes on to its last epoch
  none_leads : (n : ℕ) (world : World C) (epoch : ℕ) → n ≡ length world.workers → Ready host scans top finals world epoch []
      → Led world [] (climb finals n epoch (top - epoch))
  none_leads n world epoch many ready =
      let up = ready.up in
      let is : epoch + (top - epoch) ≡ top = omega (arith, up.within) in
      let climbed = climbs_up host top finals (top - epoch) world epoch top n is many up (omega arith)
      (reached host scans top finals world epoch [] ready top up.within (omega arith) tt) in
      let climbs = climbed.climbs in
      record {
        later = climbed.later;
        way = climbed.way;
        leads = record {
          contents = λ place. content_same host scans top finals world epoch [] ready top up.within (omega arith) tt climbed.later climbs climbed.up place;
          logs = λ i there. ap (λ (w : Worker). w.log) (climbs.own i there)
              ∙ ap (λ (e : ℕ). (worker_at host world i).log ++ replicate (e - (worker_at host world i).clock.at.epoch) NextEpoch) (aim-past top (finals i) (up.lasts i there).0);
          clocks = λ i there. ap (λ (w : Worker). w.clock) (climbs.own i there)
              ∙ ap (λ (e : ℕ). on_to e (worker_at host world i).clock) (aim-past top (finals i) (up.lasts i there).0);
          served = λ i. shown world epoch [] ready top up.within (omega arith) tt climbed.later climbs climbed.up (λ w. w.served) (λ n w. refl) i;
          stopped = λ i. shown world epoch [] ready top up.within (omega arith) tt climbed.later climbs climbed.up (λ w. w.stopped) (λ n w. refl) i;
          stuck = λ i. shown world epoch [] ready top up.within (omega arith) tt climbed.later climbs climbed.up (λ w. w.stuck) (λ n w. refl) i;
          up = climbed.up;
          count = climbs.count;
          shards = ap (λ (shards : List (Seats C)). length shards) climbs.shards;
          seats = λ s. ap (λ (shards : List (Seats C)). length (get_or shards s (unmoved [])).contents) climbs.shards;
          owns = λ s seat ask. ap (λ (shards : List (Seats C)). host.owns s (get_or shards s (unmoved [])).contents seat ask) climbs.shards;
          marks = climbs.marks;
          phase = climbs.phase;
        };
      }

  -- the first turn is of no later epoch than the last
  last_within : (world : World C) (epoch : ℕ) (turn : Turn C R) (turns : List (Turn C R)) → Ready host scans top finals world epoch (turn ∷ turns) → turn.clock.at.epoch ≤ top
  last_within world epoch turn turns ready =
      let i : ℕ = turn.worker in
      let moving = every-filter (IsMoving host) (is_by i) turns ready.moving.1 in
      let chain = subst (IsWorkerChain host i (worker_at host world i).clock (worker_at host world i).served) (cond-true (is_by i turn) _ _ (eq-eqb i i refl)) (ready.workers i) in
      let last = subst (λ (part : List (Turn C R)). (clock_behind (worker_at host world i).clock part).at.epoch ≤ finals i) (cond-true (is_by i turn) _ _ (eq-eqb i i refl)) (ready.final i ready.each.0.there) in
      omega (
        arith,
        ready.moving.0.epoch,
        chain-rises host i (filter (is_by i) turns) (served_more (worker_at host world i).served turn.request) turn.done.clock chain.3 moving,
        last,
        (ready.up.lasts i ready.each.0.there).0,
      )

  -- Ready turns are enabled, one behind the other, with the epochs that the workers go on by.
  pub replay : (n : ℕ) (turns : List (Turn C R)) (world : World C) (epoch : ℕ) → n ≡ length world.workers → Ready host scans top finals world epoch turns
      → Led world turns (round_events finals n top epoch turns)
  replay n [] world epoch many ready = none_leads n world epoch many ready
  replay n (turn ∷ turns) world epoch many ready =
      let to : ℕ = turn.clock.at.epoch in
      let from : epoch ≤ to = ready.rising.0 in
      let within : to ≤ top = last_within world epoch turn turns ready in
      let rising : RisesIn to (turn ∷ turns) = (omega arith, ready.rising.1) in
      let all : AreIn to (turn ∷ turns) = rises-all to to (turn ∷ turns) (omega arith) rising in
      let is : epoch + (to - epoch) ≡ to = omega (arith, from) in
      let climbed = climbs_up host top finals (to - epoch) world epoch to n is many ready.up within
      (reached host scans top finals world epoch (turn ∷ turns) ready to from within all) in
      let middle : World C = climbed.later in
      let on : Ready host scans top finals middle to (turn ∷ turns) =
      ready_on host scans top finals world epoch (turn ∷ turns) ready to from within all middle climbed.climbs climbed.up rising in
      let after : World C = after_turn host middle turn in
      let rest : Led after turns (round_events finals n top to turns) =
      replay n turns after to (many ∙ sym climbed.climbs.count ∙ sym (count middle turn turns on)) (rest_ready middle turn turns on) in
      record {
        later = rest.later;
        way = way-then host world middle rest.later (climb finals n epoch (to - epoch)) (done_events turn ++ round_events finals n top to turns) climbed.way
            (way-then host middle after rest.later (done_events turn) (round_events finals n top to turns) (after_way middle turn turns on) rest.way);
        leads = climb_leads world epoch (turn ∷ turns) ready to from within all middle climbed.climbs climbed.up rest.later
            (turn_leads middle turn turns on rest.later rest.leads);
      }

  -- The newest epoch comes to the top by them.
  pub replay_raised : (n : ℕ) (turns : List (Turn C R)) (world : World C) (epoch : ℕ) (many : n ≡ length world.workers) (ready : Ready host scans top finals world epoch turns)
      → IsRaised host world (replay n turns world epoch many ready).later epoch top
  unfolding replay none_leads
  replay_raised n [] world epoch many ready =
      let is : epoch + (top - epoch) ≡ top = omega (arith, ready.up.within) in
      (climbs_up host top finals (top - epoch) world epoch top n is many ready.up (omega arith)
      (reached host scans top finals world epoch [] ready top ready.up.within (omega arith) tt)).raised
  replay_raised n (turn ∷ turns) world epoch many ready =
      let to : ℕ = turn.clock.at.epoch in
      let from : epoch ≤ to = ready.rising.0 in
      let within : to ≤ top = last_within world epoch turn turns ready in
      let rising : RisesIn to (turn ∷ turns) = (omega arith, ready.rising.1) in
      let all : AreIn to (turn ∷ turns) = rises-all to to (turn ∷ turns) (omega arith) rising in
      let is : epoch + (to - epoch) ≡ to = omega (arith, from) in
      let climbed = climbs_up host top finals (to - epoch) world epoch to n is many ready.up within
      (reached host scans top finals world epoch (turn ∷ turns) ready to from within all) in
      let middle : World C = climbed.later in
      let on : Ready host scans top finals middle to (turn ∷ turns) =
      ready_on host scans top finals world epoch (turn ∷ turns) ready to from within all middle climbed.climbs climbed.up rising in
      let after : World C = after_turn host middle turn in
      let gone = many ∙ sym climbed.climbs.count ∙ sym (count middle turn turns on) in
      let rest = replay_raised n turns after to gone (rest_ready middle turn turns on) in
      raised-then host top finals world middle (replay n turns after to gone (rest_ready middle turn turns on)).later epoch to top from within climbed.climbs.count climbed.raised
      (record {
        still = rest.still;
        newest = rest.newest;
        marks = λ more i there. rest.marks more i (omega (arith, there, count middle turn turns on));
      })

  -- Where all of them are of one epoch, each finds its worker's clock and its place's content.
  pub found : (turns : List (Turn C R)) (world : World C) (one_epoch : ℕ) → Ready host scans top finals world one_epoch turns
      → AllByRecursion (λ turn. turn.clock.at.epoch ≡ one_epoch) turns → Found host world turns
  found [] world one_epoch ready same = tt
  found (turn ∷ turns) world one_epoch ready same =
      let on : Ready host scans top finals world turn.clock.at.epoch (turn ∷ turns) =
      subst (λ (n : ℕ). Ready host scans top finals world n (turn ∷ turns)) (sym same.0) ready in
      let one = next world turn turns on in (
        one.clock,
        one.before,
        subst (λ (w : World C). Found host w turns) (sym (after_way world turn turns on).is)
            (found turns (after_turn host world turn) turn.clock.at.epoch (rest_ready world turn turns on)
            (every-weaker (λ other. other.clock.at.epoch ≡ one_epoch) (λ other. other.clock.at.epoch ≡ turn.clock.at.epoch)
            (λ other is. is ∙ sym same.0) turns same.1)),
      )
