-- All workers advance, one after another.
use Rattle.std.proofs.Common.{◌≡◌, ◌⊎◌, ℕ, zero, suc, ◌+◌, ◌<◌, ◌≤◌, ◌==◌, Bool, true, false, List, [], ◌∷◌, length, get_or, slice_get, Some, refl, sym, ◌∙◌, ap, subst, inl, inr, if◌then◌else◌, arith}
use Rattle.std.proofs.lemmas.Bool.{cases_eq, cases_lt}
use Rattle.std.proofs.lemmas.List.{length-set, get_or-set_same, get_or-set_other}
use Rattle.lamport_clocks.specs.Clock.{last_epoch}
use Rattle.log_codec.specs.declared.command.Command.TheVariants.{NextEpoch}
use Rattle.host_core.specs.Host.{Host, asked}
use Rattle.host_core.specs.World.{Worker, Seats, World, unmoved, fresh, worker_at, epoch_of}
use Rattle.host_core.specs.WorldEvent.{advances, with_worker, logging, next_clock, step, IsNext, IsPhaseOver, IsRoundOver, IsLast, AllMoved, HasAdvanced, MayAdvance, AreEnabled, run_events}
use Rattle.host_order.specs.Close.{advances_from}

abbrev pub advanced_worker : Worker → Worker
advanced_worker worker = logging worker (NextEpoch ∷ []) (next_clock worker.clock)

module _ {C R : Type 0} (host : Host C R) (world : World C) where
  -- every worker may advance
  pub record CanAdvance : Type 0 where
    pub going : world.over ≡ false
    pub through : IsPhaseOver host world
    pub more : (i : ℕ) → i < length world.workers → ((worker_at host world i).clock.at.epoch == last_epoch) ≡ false
    pub settled : host.rolling ≡ true → IsRoundOver host world
    pub turns : (i : ℕ) → i < length world.workers
        → HasAdvanced host world i 0 ⊎ (HasAdvanced host world i 1 × IsLast host world × AllMoved world)

  -- the workers up to one have advanced
  pub record Advanced (later : World C) (j : ℕ) : Type 0 where
    pub before : (i : ℕ) → i < j → worker_at host later i ≡ advanced_worker (worker_at host world i)
    pub behind : (i : ℕ) → j ≤ i → worker_at host later i ≡ worker_at host world i
    pub shards : later.shards ≡ world.shards
    pub phase : later.phase ≡ world.phase
    pub going : later.over ≡ false
    pub count : length later.workers ≡ length world.workers
    pub closing : 0 < j → later.closing ≡ true
    pub words : (later.newest ≡ world.newest) × (later.scanned ≡ world.scanned)

  -- what of a worker an advance leaves
  pub shows : {X : Type 0} (show : Worker → X) → ((w : Worker) → show (advanced_worker w) ≡ show w) → (later : World C) (j : ℕ)
      → Advanced later j → (i : ℕ) → show (worker_at host later i) ≡ show (worker_at host world i)
  shows show same later j advanced i = go (cases_lt i j)
    where
      go : (i < j) ⊎ (j ≤ i) → show (worker_at host later i) ≡ show (worker_at host world i)
      go (inl less) = ap show (advanced.before i less) ∙ same (worker_at host world i)
      go (inr above) = ap show (advanced.behind i above)

  -- the phase is still over
  pub still_through : (later : World C) (j : ℕ) → Advanced later j → IsPhaseOver host world → IsPhaseOver host later
  still_through later j advanced through i within =
      let was = through i (subst (λ (n : ℕ). i < n) advanced.count within) in
      (shows (λ w. w.holds) (λ w. refl) later j advanced i ∙ was.0, go was.1)
    where
      go : ((worker_at host world i).stopped ≡ true) ⊎ ((request : R) → IsNext host world i request → ⊥)
          → ((worker_at host later i).stopped ≡ true) ⊎ ((request : R) → IsNext host later i request → ⊥)
      go (inl stopped) = inl (shows (λ w. w.stopped) (λ w. refl) later j advanced i ∙ stopped)
      go (inr none) = inr (λ request next. none request
          (ap (slice_get (asked host i)) (sym (shows (λ w. w.served) (λ w. refl) later j advanced i)) ∙ next
          ∙ ap (λ (n : ℕ). Some (n, request)) advanced.phase))

  -- and so is the round
  still_settled : (later : World C) (j : ℕ) → Advanced later j → IsRoundOver host world → IsRoundOver host later
  still_settled later j advanced over i within =
      let was = over i (subst (λ (n : ℕ). i < n) advanced.count within) in (
        shows (λ w. w.stopped) (λ w. refl) later j advanced i ∙ was.0,
        ap (slice_get (asked host i)) (shows (λ w. w.served) (λ w. refl) later j advanced i) ∙ was.1,
        ap (λ (scanned : List ℕ). get_or scanned i host.header.first) advanced.words.1 ∙ was.2
            ∙ ap (λ (n : ℕ). host.header.first + n) (sym advanced.phase),
      )

  -- the close is still the last
  pub still_last : (later : World C) (j : ℕ) → Advanced later j → IsLast host world → IsLast host later
  still_last later j advanced (inl end) = inl (omega (arith, end, advanced.phase))
  still_last later j advanced (inr stopped) =
      inr (stopped.0, subst (λ (n : ℕ). stopped.0 < n) (sym advanced.count) stopped.1, shows (λ w. w.stopped) (λ w. refl) later j advanced stopped.0 ∙ stopped.2)

  still_moved : (later : World C) (j : ℕ) → Advanced later j → AllMoved world → AllMoved later
  still_moved later j advanced moved s within =
      ap (λ (shards : List (Seats C)). (get_or shards s (unmoved [])).moved) advanced.shards
      ∙ moved s (subst (λ (shards : List (Seats C)). s < length shards) advanced.shards within)

  -- The next worker may advance.
  pub may_advance : CanAdvance → (later : World C) (j : ℕ) → Advanced later j → j < length world.workers → MayAdvance host later j
  may_advance can later j advanced within = record {
    going = advanced.going;
    there = subst (λ (n : ℕ). j < n) (sym advanced.count) within;
    through = still_through later j advanced can.through;
    settled = λ rolling. still_settled later j advanced (can.settled rolling);
    turns = go (can.turns j within);
  }
    where
      epoch_is : epoch_of host later ≡ epoch_of host world
      epoch_is = ap (λ (n : ℕ). host.header.first + n) advanced.phase

      own : worker_at host later j ≡ worker_at host world j
      own = advanced.behind j (omega arith)

      has : (times : ℕ) → HasAdvanced host world j times → HasAdvanced host later j times
      has times is = ap (λ (w : Worker). w.clock.at.epoch) own ∙ is ∙ ap (λ (n : ℕ). n + times) (sym epoch_is)

      go : HasAdvanced host world j 0 ⊎ (HasAdvanced host world j 1 × IsLast host world × AllMoved world)
          → HasAdvanced host later j 0 ⊎ (HasAdvanced host later j 1 × IsLast host later × AllMoved later)
      go (inl once) = inl (has 0 once)
      go (inr twice) = inr (has 1 twice.0, still_last later j advanced twice.1, still_moved later j advanced twice.2)

  -- and then one more has advanced
  one_more : CanAdvance → (later : World C) (j : ℕ) → Advanced later j → j < length world.workers → Advanced (step host later (advances j)) (suc j)
  one_more can later j advanced within =
      subst (λ (w : World C). Advanced w (suc j)) (sym step_is)
      (record {
        before = λ i less. go i (cases_eq i j) less;
        behind = λ i above. get_or-set_other later.workers j i (advanced_worker (worker_at host later j)) (fresh host.header) (λ same. omega (arith, same, above))
            ∙ advanced.behind i (omega (arith, above));
        shards = advanced.shards;
        phase = advanced.phase;
        going = advanced.going;
        count = length-set later.workers j (advanced_worker (worker_at host later j)) ∙ advanced.count;
        closing = λ some. refl;
        words = advanced.words;
      })
    where
      own : worker_at host later j ≡ worker_at host world j
      own = advanced.behind j (omega arith)

      next : World C
      next = record (with_worker later j (advanced_worker (worker_at host later j))) { closing = true }

      step_is : step host later (advances j) ≡ next
      step_is =
          ap (λ (b : Bool). if b then record later { over = true } else next)
          (ap (λ (w : Worker). w.clock.at.epoch == last_epoch) own ∙ can.more j within)

      go : (i : ℕ) → (i ≡ j) ⊎ (i ≡ j → ⊥) → i < suc j → worker_at host next i ≡ advanced_worker (worker_at host world i)
      go i (inl same) less =
          ap (λ (n : ℕ). worker_at host next n) same
          ∙ get_or-set_same later.workers j (advanced_worker (worker_at host later j)) (fresh host.header) (subst (λ (n : ℕ). j < n) (sym advanced.count) within)
          ∙ ap advanced_worker own
          ∙ ap (λ (n : ℕ). advanced_worker (worker_at host world n)) (sym same)
      go i (inr apart) less =
          get_or-set_other later.workers j i (advanced_worker (worker_at host later j)) (fresh host.header) apart
          ∙ advanced.before i (omega (arith, less, apart))

  -- ---- all of them

  advance_on : CanAdvance → (later : World C) (j count : ℕ) → j + count ≡ length world.workers → Advanced later j
      → AreEnabled host later (advances_from j count) × Advanced (run_events host later (advances_from j count)) (length world.workers)
  advance_on can later j zero is advanced = (tt, subst (Advanced later) (omega (arith, is)) advanced)
  advance_on can later j (suc count) is advanced =
      let within : j < length world.workers = omega (arith, is) in
      let rest = advance_on can (step host later (advances j)) (suc j) count (omega (arith, is)) (one_more can later j advanced within) in
      ((may_advance can later j advanced within, rest.0), rest.1)

  -- no worker has advanced yet
  pub none_advanced : CanAdvance → Advanced world 0
  none_advanced can = record {
    before = λ i less. absurd (omega (arith, less));
    behind = λ i above. refl;
    shards = refl;
    phase = refl;
    going = can.going;
    count = refl;
    closing = λ some. absurd (omega (arith, some));
    words = (refl, refl);
  }

  -- All workers may advance, and have advanced then.
  pub all_advance : CanAdvance
      → AreEnabled host world (advances_from 0 (length world.workers))
      × Advanced (run_events host world (advances_from 0 (length world.workers))) (length world.workers)
  all_advance can = advance_on can world 0 (length world.workers) (omega arith) (none_advanced can)
