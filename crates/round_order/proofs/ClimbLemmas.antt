-- From an epoch to later ones: all workers note that their shards are of it, one lets all go on, and those go on that are to.
use Rattle.std.proofs.Common.{◌≡◌, ◌⊎◌, ℕ, zero, suc, ◌+◌, ◌<◌, ◌≤◌, max, Bool, true, false, List, [], ◌∷◌, ◌++◌, length, get_or, set, nat_lt, None, if◌then◌else◌, refl, sym, ◌∙◌, ap, subst, inl, inr, append_assoc, length-append, arith}
use Rattle.std.specs.List.{AllByRecursion}
use Rattle.std.proofs.lemmas.Bool.{cases_lt, cond-true, cond-false, lt-ltb, le-ltb}
use Rattle.record_text.specs.declared.element.Element.{Element}
use Rattle.log_codec.specs.declared.command.Command.TheVariants.{NextEpoch}
use Rattle.host_core.specs.Host.{Host}
use Rattle.host_core.specs.World.{Worker, World, fresh, worker_at, shard_at, scanned_at}
use Rattle.host_core.specs.WorldEvent.{WorldEvent, raises, enters, step, logging, next_clock, MayRaise, MayEnter}
use Rattle.host_core.specs.Deeds.{pending_of}
use Rattle.stamp_order.proofs.InOrderLaws.{every-weaker}
use Rattle.round_order.specs.Told.{CanRoll, IsRaised, finishes_from, enters_from, step_up, climb}
use Rattle.round_order.proofs.GoingLaws.{aim, aim-within, aim-past, gone_on, gone_on-there, gone_on-one, gone_on-then, on_to-epoch}
use Rattle.round_order.proofs.NoteLemmas.{note, note-length, note-at, CanNote, marked, is_rolling, finishes_way}
use Rattle.round_order.proofs.WayLemmas.{Way, way-none, way-then, way-cons, get-at, set-at, get_or-past}

module _ {C R : Type 0} (host : Host C R) (top : ℕ) (finals : ℕ → ℕ) where
  -- The world stands in an epoch of its round: each worker has come to it, or to its last.
  pub record IsUp (world : World C) (epoch : ℕ) : Type 0 where
    pub going : world.over ≡ false
    pub phase : world.closing ≡ false
    pub idle : (i : ℕ) → i < length world.workers → (worker_at host world i).holds ≡ None
    pub clocks : (i : ℕ) → i < length world.workers → (worker_at host world i).clock.at.epoch ≡ aim epoch (finals i)
    pub lasts : (i : ℕ) → i < length world.workers → (finals i ≤ top) × (top ≤ suc (finals i))
    pub within : epoch ≤ top
    pub roll : epoch < top → CanRoll host world epoch top

  -- what waits is of the epoch before this one or of a later one
  abbrev pub HaveReached : World C → ℕ → Type 0
  HaveReached world epoch = (s : ℕ) → s < length world.shards
      → AllByRecursion (λ (element : Element). epoch ≤ suc element.stamp.epoch) (pending_of host (shard_at world s).contents)

  -- ---- one epoch

  module _ (world : World C) (epoch : ℕ) (up : IsUp world epoch) (less : epoch < top) (reached : HaveReached world (suc epoch)) where
    can : CanRoll host world epoch top
    can = up.roll less

    clock_is : (i : ℕ) → i < length world.workers → (worker_at host world i).clock.at.epoch ≡ epoch
    clock_is i there =
        let bounds = up.lasts i there in
        up.clocks i there ∙ aim-within epoch (finals i) (omega (arith, bounds.1, less))

    -- all note
    can_note : CanNote host world epoch
    can_note = record {
      going = up.going;
      phase = up.phase;
      rolling = can.rolling;
      running = can.running;
      clocks = clock_is;
      reached = λ s within.
          every-weaker (λ (element : Element). suc epoch ≤ suc element.stamp.epoch) (λ (element : Element). epoch ≤ element.stamp.epoch)
          (λ element above. omega (arith, above)) (pending_of host (shard_at world s).contents) (reached s within);
    }

    -- one lets all go on
    abbrev noted : List ℕ
    noted = note epoch 0 (length world.workers) world.scanned

    abbrev staffed : List Worker → World C
    staffed workers = record world { workers = workers; newest = suc epoch; scanned = noted }

    may_raise : MayRaise host (marked host world epoch noted) 0
    may_raise = record {
      rolling = is_rolling host world epoch can_note noted 0 can.some;
      wanted = omega (arith, clock_is 0 can.some, less, can.within);
      more = omega (arith, clock_is 0 can.some, less, can.last);
      scanned = λ j within. omega (
        arith,
        clock_is 0 can.some,
        note-at epoch 0 (length world.workers) world.scanned j host.header.first (omega arith) (omega (arith, within)) (omega (arith, can.marks)),
      );
    }

    raised : step host (marked host world epoch noted) (raises 0) ≡ staffed world.workers
    raised =
        let own : (worker_at host world 0).clock.at.epoch ≡ epoch = clock_is 0 can.some in
        let most : max world.newest (suc (worker_at host world 0).clock.at.epoch) ≡ suc epoch = omega (arith, own, can.newest) in
        ap (λ (n : ℕ). record world { newest = n; scanned = noted }) most

    -- those go on that are to
    abbrev entered : ℕ → List Worker → List Worker
    entered i [] = []
    entered i (worker ∷ workers) = (if nat_lt epoch (finals i) then gone_on (suc epoch) worker else worker) ∷ entered (suc i) workers

    abbrev CanEnter : Worker → Type 0
    CanEnter worker = (worker.clock.at.epoch ≡ epoch) × (worker.stopped ≡ false)

    shift : (front : List Worker) (worker : Worker) (rest more : List Worker) (events : List (WorldEvent R))
        → Way host (staffed ((front ++ worker ∷ []) ++ rest)) events (staffed ((front ++ worker ∷ []) ++ more))
        → Way host (staffed (front ++ worker ∷ rest)) events (staffed (front ++ worker ∷ more))
    shift front worker rest more events way =
        subst (λ (ws : List Worker). Way host (staffed ws) events (staffed (front ++ worker ∷ more))) (append_assoc front (worker ∷ []) rest)
        (subst (λ (ws : List Worker). Way host (staffed ((front ++ worker ∷ []) ++ rest)) events (staffed ws)) (append_assoc front (worker ∷ []) more) way)

    enters_way : (front rest : List Worker) (i : ℕ) → i ≡ length front → AllByRecursion CanEnter rest
        → Way host (staffed (front ++ rest)) (enters_from finals epoch i (length rest)) (staffed (front ++ entered i rest))
    enters_way front [] i is all = way-none host (staffed (front ++ []))
    enters_way front (worker ∷ rest) i is all =
        go (nat_lt epoch (finals i))
        (λ first count. shift front first rest (entered (suc i) rest) (enters_from finals epoch (suc i) (length rest))
        (enters_way (front ++ first ∷ []) rest (suc i) count all.1))
      where
        next : suc i ≡ length (front ++ worker ∷ [])
        next = omega (arith, is, length-append front (worker ∷ []))

        there : i < length (front ++ worker ∷ rest)
        there = omega (arith, is, length-append front (worker ∷ rest))

        own : worker_at host (staffed (front ++ worker ∷ rest)) i ≡ worker
        own = get-at front worker rest i (fresh host.header) is

        may_enter : MayEnter host (staffed (front ++ worker ∷ rest)) i
        may_enter = record {
          rolling = record {
            serving = record { going = up.going; phase = up.phase; there = there };
            rolling = can.rolling;
            running = ap (λ (w : Worker). w.stopped) own ∙ all.0.1;
          };
          newer = omega (arith, ap (λ (w : Worker). w.clock.at.epoch) own, all.0.0);
          more = omega (arith, ap (λ (w : Worker). w.clock.at.epoch) own, all.0.0, less, can.last);
        }

        stepped_to : step host (staffed (front ++ worker ∷ rest)) (enters i) ≡ staffed (front ++ gone_on (suc epoch) worker ∷ rest)
        stepped_to =
            ap (λ (w : Worker). staffed (set (front ++ worker ∷ rest) i (logging w (NextEpoch ∷ []) (next_clock w.clock)))) own
            ∙ ap (λ (w : Worker). staffed (set (front ++ worker ∷ rest) i w)) (gone_on-one epoch worker all.0.0)
            ∙ ap staffed (set-at front worker rest i (gone_on (suc epoch) worker) is)

        Rest : Type 0
        Rest = (first : Worker) → suc i ≡ length (front ++ first ∷ [])
            → Way host (staffed (front ++ first ∷ rest)) (enters_from finals epoch (suc i) (length rest)) (staffed (front ++ first ∷ entered (suc i) rest))

        go : (b : Bool) → Rest → Way host (staffed (front ++ worker ∷ rest))
            (if b then enters i ∷ enters_from finals epoch (suc i) (length rest) else enters_from finals epoch (suc i) (length rest))
            (staffed (front ++ (if b then gone_on (suc epoch) worker else worker) ∷ entered (suc i) rest))
        go true rest_way =
            way-cons host (staffed (front ++ worker ∷ rest)) (staffed (front ++ gone_on (suc epoch) worker ∷ rest)) _ (enters i)
            (enters_from finals epoch (suc i) (length rest)) may_enter stepped_to
            (rest_way (gone_on (suc epoch) worker) (omega (arith, is, length-append front (gone_on (suc epoch) worker ∷ []))))
        go false rest_way = rest_way worker next

    entered-length : (i : ℕ) (workers : List Worker) → length (entered i workers) ≡ length workers
    entered-length i [] = refl
    entered-length i (worker ∷ workers) = ap suc (entered-length (suc i) workers)

    entered-at : (first : ℕ) (workers : List Worker) (i at : ℕ) (d : Worker) → at ≡ first + i → i < length workers
        → get_or (entered first workers) i d ≡ (if nat_lt epoch (finals at) then gone_on (suc epoch) (get_or workers i d) else get_or workers i d)
    entered-at first [] i at d is there = absurd (omega (arith, there))
    entered-at first (worker ∷ workers) zero at d is there =
        let same : first ≡ at = omega (arith, is) in
        ap (λ (n : ℕ). if nat_lt epoch (finals n) then gone_on (suc epoch) worker else worker) same
    entered-at first (worker ∷ workers) (suc i) at d is there = entered-at (suc first) workers i at d (omega (arith, is)) (omega (arith, there))

    -- The world behind the step.
    abbrev pub stepped : World C
    stepped = staffed (entered 0 world.workers)

    all_can : AllByRecursion CanEnter world.workers
    all_can = go world.workers (λ i there. (clock_is i there, can.running i there))
      where
        go : (workers : List Worker)
            → ((i : ℕ) → i < length workers → ((get_or workers i (fresh host.header)).clock.at.epoch ≡ epoch) × ((get_or workers i (fresh host.header)).stopped ≡ false))
            → AllByRecursion CanEnter workers
        go [] each = tt
        go (worker ∷ workers) each = (each 0 (omega arith), go workers (λ i there. each (suc i) (omega (arith, there))))

    pub step_way : Way host world (step_up finals (length world.workers) epoch) stepped
    step_way =
        way-then host world (marked host world epoch noted) stepped (finishes_from 0 (length world.workers)) (raises 0 ∷ enters_from finals epoch 0 (length world.workers))
        (finishes_way host world epoch can_note 0 (length world.workers) world.scanned (omega arith))
        (way-cons host (marked host world epoch noted) (staffed world.workers) stepped (raises 0) (enters_from finals epoch 0 (length world.workers)) may_raise raised
        (enters_way [] world.workers 0 refl all_can))

    -- each worker has gone on, or come to its last
    pub stepped_own : (i : ℕ) → i < length world.workers → worker_at host stepped i ≡ gone_on (aim (suc epoch) (finals i)) (worker_at host world i)
    stepped_own i there = entered-at 0 world.workers i i (fresh host.header) (omega arith) there ∙ go (cases_lt epoch (finals i))
      where
        worker : Worker
        worker = worker_at host world i

        go : (epoch < finals i) ⊎ (finals i ≤ epoch)
            → (if nat_lt epoch (finals i) then gone_on (suc epoch) worker else worker) ≡ gone_on (aim (suc epoch) (finals i)) worker
        go (inl more) =
            cond-true (nat_lt epoch (finals i)) _ _ (lt-ltb epoch (finals i) more)
            ∙ ap (λ (n : ℕ). gone_on n worker) (sym (aim-within (suc epoch) (finals i) (omega (arith, more))))
        go (inr last) =
            cond-false (nat_lt epoch (finals i)) _ _ (le-ltb epoch (finals i) last)
            ∙ sym (gone_on-there (finals i) worker (omega (arith, last, clock_is i there)))
            ∙ ap (λ (n : ℕ). gone_on n worker) (sym (aim-past (suc epoch) (finals i) (omega (arith, last))))

    pub stepped_others : (i : ℕ) → length world.workers ≤ i → worker_at host stepped i ≡ worker_at host world i
    stepped_others i past =
        get_or-past (entered 0 world.workers) i (fresh host.header) (omega (arith, past, entered-length 0 world.workers))
        ∙ sym (get_or-past world.workers i (fresh host.header) past)

    pub stepped_count : length stepped.workers ≡ length world.workers
    stepped_count = entered-length 0 world.workers

    pub stepped_marks : length stepped.scanned ≡ length world.scanned
    stepped_marks = note-length epoch 0 (length world.workers) world.scanned

    pub stepped_raised : IsRaised host world stepped epoch (suc epoch)
    stepped_raised = record {
      still = λ same. absurd (omega (arith, same));
      newest = λ more. refl;
      marks = λ more i there. ap suc (note-at epoch 0 (length world.workers) world.scanned i host.header.first (omega arith) (omega (arith, there)) (omega (arith, can.marks)));
    }

    pub stepped_up : IsUp stepped (suc epoch)
    stepped_up = record {
      going = up.going;
      phase = up.phase;
      idle = λ i within. let there : i < length world.workers = omega (arith, within, stepped_count) in
          ap (λ (w : Worker). w.holds) (stepped_own i there) ∙ up.idle i there;
      clocks = λ i within. let there : i < length world.workers = omega (arith, within, stepped_count) in
          ap (λ (w : Worker). w.clock.at.epoch) (stepped_own i there)
          ∙ on_to-epoch (aim (suc epoch) (finals i)) (worker_at host world i).clock (come i there (cases_lt epoch (finals i)));
      lasts = λ i within. up.lasts i (omega (arith, within, stepped_count));
      within = omega (arith, less);
      roll = λ more. record {
        rolling = can.rolling;
        newest = refl;
        within = can.within;
        last = can.last;
        marks = note-length epoch 0 (length world.workers) world.scanned ∙ can.marks ∙ sym stepped_count;
        some = omega (arith, can.some, stepped_count);
        running = λ i within. let there : i < length world.workers = omega (arith, within, stepped_count) in
            ap (λ (w : Worker). w.stopped) (stepped_own i there) ∙ can.running i there;
      };
    }
      where
        come : (i : ℕ) → i < length world.workers → (epoch < finals i) ⊎ (finals i ≤ epoch) → (worker_at host world i).clock.at.epoch ≤ aim (suc epoch) (finals i)
        come i there (inl more) = omega (arith, clock_is i there, aim-within (suc epoch) (finals i) (omega (arith, more)))
        come i there (inr last) =
            let bounds = up.lasts i there in
            omega (arith, clock_is i there, bounds.1, less, aim-past (suc epoch) (finals i) (omega (arith, last)))

  -- ---- many epochs

  -- the later world stands in this epoch, and is else the one before
  pub record Climbs (world later : World C) (epoch : ℕ) : Type 0 where
    pub shards : later.shards ≡ world.shards
    pub phase : later.phase ≡ world.phase
    pub count : length later.workers ≡ length world.workers
    pub marks : length later.scanned ≡ length world.scanned
    pub own : (i : ℕ) → i < length world.workers → worker_at host later i ≡ gone_on (aim epoch (finals i)) (worker_at host world i)
    pub others : (i : ℕ) → length world.workers ≤ i → worker_at host later i ≡ worker_at host world i

  -- these events lead there
  pub record Climbed (world : World C) (from epoch : ℕ) (events : List (WorldEvent R)) : Type 0 where
    pub later : World C
    pub way : Way host world events later
    pub climbs : Climbs world later epoch
    pub up : IsUp later epoch
    pub raised : IsRaised host world later from epoch

  -- where the newest epoch came to one and then to another, it came to the other
  pub raised-then : (world middle later : World C) (from to last : ℕ) → from ≤ to → to ≤ last → length middle.workers ≡ length world.workers
      → IsRaised host world middle from to → IsRaised host middle later to last → IsRaised host world later from last
  raised-then world middle later from to last least most count first second = record {
    still = λ same. let one = first.still (omega (arith, same, least, most)) in let two = second.still (omega (arith, same, least, most)) in (two.0 ∙ one.0, two.1 ∙ one.1);
    newest = λ less. newest less (cases_lt to last);
    marks = λ less i there. mark less i there (cases_lt to last);
  }
    where
      newest : from < last → (to < last) ⊎ (last ≤ to) → later.newest ≡ last
      newest less (inl more) = second.newest more
      newest less (inr past) = (second.still (omega (arith, most, past))).0 ∙ first.newest (omega (arith, less, past)) ∙ omega (arith, most, past)

      mark : from < last → (i : ℕ) → i < length world.workers → (to < last) ⊎ (last ≤ to) → suc (scanned_at host later i) ≡ last
      mark less i there (inl more) = second.marks more i (omega (arith, there, count))
      mark less i there (inr past) =
          ap (λ (marks : List ℕ). suc (get_or marks i host.header.first)) (second.still (omega (arith, most, past))).1
          ∙ first.marks (omega (arith, less, past)) i there ∙ omega (arith, most, past)

  aim-rises : (low high final : ℕ) → low ≤ high → aim low final ≤ aim high final
  aim-rises low high final within = go (cases_lt final low) (cases_lt final high)
    where
      go : (final < low) ⊎ (low ≤ final) → (final < high) ⊎ (high ≤ final) → aim low final ≤ aim high final
      go (inl first) second = omega (arith, aim-past low final (omega (arith, first)), aim-past high final (omega (arith, first, within)))
      go (inr first) (inl second) = omega (arith, aim-within low final first, aim-past high final (omega (arith, second)), first)
      go (inr first) (inr second) = omega (arith, aim-within low final first, aim-within high final second, within)

  -- From an epoch to a later one.
  pub climbs_up : (count : ℕ) (world : World C) (epoch to n : ℕ) → epoch + count ≡ to → n ≡ length world.workers → IsUp world epoch → to ≤ top → HaveReached world to
      → Climbed world epoch to (climb finals n epoch count)
  climbs_up zero world epoch to n is many up within reached =
      let same : epoch ≡ to = omega (arith, is) in
      record {
        later = world;
        way = way-none host world;
        climbs = record {
          shards = refl;
          phase = refl;
          count = refl;
          marks = refl;
          own = λ i there. sym (gone_on-there (aim to (finals i)) (worker_at host world i)
              (omega (arith, up.clocks i there, ap (λ (n : ℕ). aim n (finals i)) same)));
          others = λ i past. refl;
        };
        up = subst (IsUp world) same up;
        raised = record {
          still = λ same'. (refl, refl);
          newest = λ more. absurd (omega (arith, more, same));
          marks = λ more i there. absurd (omega (arith, more, same));
        };
      }
  climbs_up (suc count) world epoch to n is many up within reached =
      let less : epoch < top = omega (arith, is, within) in
      let near : HaveReached world (suc epoch) = λ s there.
      every-weaker (λ (element : Element). to ≤ suc element.stamp.epoch) (λ (element : Element). suc epoch ≤ suc element.stamp.epoch)
      (λ element above. omega (arith, above, is)) (pending_of host (shard_at world s).contents) (reached s there) in
      let middle : World C = stepped world epoch up less near in
      let rest : Climbed middle (suc epoch) to (climb finals n (suc epoch) count) =
      climbs_up count middle (suc epoch) to n (omega (arith, is)) (many ∙ sym (stepped_count world epoch up less near)) (stepped_up world epoch up less near) within reached in
      record {
        later = rest.later;
        way = way-then host world middle rest.later (step_up finals n epoch) (climb finals n (suc epoch) count)
            (subst (λ (k : ℕ). Way host world (step_up finals k epoch) middle) (sym many) (step_way world epoch up less near)) rest.way;
        climbs = record {
          shards = rest.climbs.shards;
          phase = rest.climbs.phase;
          count = rest.climbs.count ∙ stepped_count world epoch up less near;
          marks = rest.climbs.marks ∙ stepped_marks world epoch up less near;
          own = λ i there.
              rest.climbs.own i (omega (arith, there, stepped_count world epoch up less near))
              ∙ ap (gone_on (aim to (finals i))) (stepped_own world epoch up less near i there)
              ∙ gone_on-then (aim (suc epoch) (finals i)) (aim to (finals i)) (worker_at host world i)
              (omega (arith, up.clocks i there, aim-rises epoch (suc epoch) (finals i) (omega arith)))
              (aim-rises (suc epoch) to (finals i) (omega (arith, is)));
          others = λ i past. rest.climbs.others i (omega (arith, past, stepped_count world epoch up less near)) ∙ stepped_others world epoch up less near i past;
        };
        up = rest.up;
        raised = raised-then world middle rest.later epoch (suc epoch) to (omega arith) (omega (arith, is)) (stepped_count world epoch up less near)
            (stepped_raised world epoch up less near) rest.raised;
      }
