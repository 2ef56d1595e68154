-- What a close comes to: the next phase is open, or nothing can follow.
use Rattle.std.proofs.Common.{◌≡◌, ◌⊎◌, ℕ, zero, suc, ◌+◌, ◌<◌, ◌≤◌, ◌==◌, ◌%◌, Bool, true, false, List, [], ◌∷◌, length, get_or, filter, take, Option, Some, None, IfSome, if◌then◌else◌, refl, sym, ◌∙◌, ap, subst, inl, inr, length-append, mod-lt, arith}
use Rattle.std.proofs.lemmas.Bool.{cases_lt, false≢true}
use Rattle.std.proofs.lemmas.List.{length-map}
use Rattle.host_core.specs.Host.{Host, asked_in, asked_from}
use Rattle.host_core.specs.World.{Worker, Seats, World, unmoved, worker_at, shard_at, epoch_of}
use Rattle.host_core.specs.WorldEvent.{WorldEvent, takes, loses, serves, gives, advances, moves, opens, raises, enters, scans, finishes, stops, step, IsEnabled, IsLast, AllMoved, HasAdvanced, MayOpen}
use Rattle.host_world.specs.declared.fault.ClockEnd.{ClockEnd}
use Rattle.host_serving.specs.Leading.{CanDoNoMore}
use Rattle.host_serving.specs.Standing.{turns_of, asked_by, IsServedUpTo, BeginsRound, IsServedOut, IsClosed, NoneStopped, NoneStuckBelow}
use Rattle.host_serving.specs.Closing.{IsKept, IsThroughMoves, IsStuckInMoves, CanAllAdvance, HaveTurned, CanMoveAll, HaveAdvanced, EndsAdvance, HaveAllMoved, HaveSomeStuck, EndsMoves, ShardsAreClosed, EndsShards}
use Rattle.host_serving.proofs.AdvanceLemmas.{over_still, round_still, advance_keeps}
use Rattle.host_serving.proofs.MoveLemmas.{kept-then, turned_still}

-- ---- what is asked

-- as many, whatever the phase's number
asked-same : {R : Type 0} (i n m : ℕ) (turns : List (ℕ × R)) → length (asked_in i n turns) ≡ length (asked_in i m turns)
asked-same {R} i n m turns =
    let own : List (ℕ × R) = filter (λ turn. turn.0 == i) turns in
    let first : ℕ × R → ℕ × R = λ turn. (n, turn.1) in
    let other : ℕ × R → ℕ × R = λ turn. (m, turn.1) in
    length-map own first ∙ sym (length-map own other)

-- as many as in the phases before, and in this one
asked-more : {R : Type 0} (i n m p : ℕ) (script : List (List (ℕ × R))) → p < length script
    → length (asked_from i n (take (suc p) script)) ≡ length (asked_from i n (take p script)) + length (asked_in i m (get_or script p []))
asked-more i n m p [] within = absurd (omega (arith, within))
asked-more i n m zero (turns ∷ script) within =
    length-append (asked_in i n turns) []
    ∙ omega (arith, asked-same i n m turns)
asked-more i n m (suc p) (turns ∷ script) within =
    length-append (asked_in i n turns) (asked_from i (suc n) (take (suc p) script))
    ∙ omega (arith, asked-more i (suc n) m p script (omega (arith, within)), length-append (asked_in i n turns) (asked_from i (suc n) (take p script)))

-- all of it
take-whole : {X : Type 0} (xs : List X) → take (length xs) xs ≡ xs
take-whole [] = refl
take-whole (x ∷ xs) = ap (λ (ys : List _). x ∷ ys) (take-whole xs)

module _ {C R : Type 0} (host : Host C R) where
  -- where a phase is served, nothing of the next is
  pub asked_next : (i phase : ℕ) → phase < length host.script → asked_by host i phase (length (turns_of host phase)) ≡ asked_by host i (suc phase) 0
  asked_next i phase within =
      ap (λ (turns : List (ℕ × R)). length (asked_from i 0 (take phase host.script)) + length (asked_in i phase turns)) (take-whole (turns_of host phase))
      ∙ sym (asked-more i 0 phase phase host.script within)
      ∙ omega arith

  -- ---- nothing can follow

  -- where there is no epoch to come
  pub over_rests : (world : World C) → world.over ≡ true → CanDoNoMore host world
  over_rests world over = λ event may. false≢true (sym (going event may) ∙ over)
    where
      going : (event : WorldEvent R) → IsEnabled host world event → world.over ≡ false
      going (takes i place) may = may.serving.going
      going (loses i place) may = may.serving.going
      going (serves i place request) may = may.serving.going
      going (gives i place) may = may.serving.going
      going (advances i) may = may.going
      going (moves i s) may = may.going
      going opens may = may.going
      going (raises i) may = may.rolling.serving.going
      going (enters i) may = may.rolling.serving.going
      going (scans i place) may = may.rolling.serving.going
      going (finishes i) may = may.rolling.serving.going
      going (stops i found) may = may.rolling.serving.going

  -- so it is where an advance came to an end
  pub advance_rests : (world later : World C) (end : Option ClockEnd) → EndsAdvance host world later end → IfSome end (λ _. CanDoNoMore host later)
  advance_rests world later None ends = tt
  advance_rests world later (Some end) over = over_rests later over.0

  -- and then it is worker 0 that is named
  pub advance_lowest : (world later : World C) (end : Option ClockEnd) → EndsAdvance host world later end → IfSome end (λ found. NoneStuckBelow host later found.worker)
  advance_lowest world later None ends = tt
  advance_lowest world later (Some end) over = λ i less. absurd (omega (arith, less, over.1))

  -- each worker keeps what a close leaves, either way
  pub advance_kept : (world later : World C) (end : Option ClockEnd) → EndsAdvance host world later end → (i : ℕ) → IsKept (worker_at host world i) (worker_at host later i)
  advance_kept world later None have = advance_keeps host world later (length world.workers) have
  advance_kept world later (Some end) over = over.2

  -- where a worker's clock ended in the close, and the others have moved their shards
  pub stuck_rests : (world later : World C) → HaveTurned host later → length later.workers ≡ length world.workers → HaveSomeStuck host world later → CanDoNoMore host later
  stuck_rests world later turned workers have = go
    where
      some : IsStuckInMoves host later have.some.0
      some = have.some.2

      not_all : AllMoved later → ⊥
      not_all all = false≢true (sym some.left.3 ∙ all some.left.0 some.left.1)

      not_phase : later.closing ≡ false → ⊥
      not_phase phase = false≢true (sym phase ∙ turned.closing)

      not_moves : (i s : ℕ) → (worker_at host later i).stuck ≡ false → (shard_at later s).moved ≡ false → s < length later.shards → s % length later.workers ≡ i
          → IsThroughMoves host later i ⊎ IsStuckInMoves host later i → ⊥
      not_moves i s running still within own (inl through) = false≢true (sym still ∙ through.moved s within own)
      not_moves i s running still within own (inr stuck) = false≢true (sym running ∙ stuck.stuck)

      again : (i : ℕ) → HasAdvanced host later i 1 → HasAdvanced host later i 0 ⊎ (HasAdvanced host later i 1 × IsLast host later × AllMoved later) → ⊥
      again i once (inl none') = omega (arith, once, none')
      again i once (inr twice) = not_all twice.2

      go : CanDoNoMore host later
      go (takes i place) may = not_phase may.serving.phase
      go (loses i place) may = not_phase may.serving.phase
      go (serves i place request) may = not_phase may.serving.phase
      go (gives i place) may = not_phase may.serving.phase
      go (advances i) may = again i (turned.turned i may.there) may.turns
      go (moves i s) may = not_moves i s may.running may.still may.shard may.own (have.each i (subst (λ (n : ℕ). i < n) workers may.there))
      go opens may = not_all may.moved
      go (raises i) may = not_phase may.rolling.serving.phase
      go (enters i) may = not_phase may.rolling.serving.phase
      go (scans i place) may = not_phase may.rolling.serving.phase
      go (finishes i) may = not_phase may.rolling.serving.phase
      go (stops i found) may = not_phase may.rolling.serving.phase

  -- where all have advanced twice
  pub twice_rests : (world : World C) → 0 < length world.workers → world.closing ≡ true → ((i : ℕ) → i < length world.workers → HasAdvanced host world i 2) → CanDoNoMore host world
  twice_rests world some closing twice = go
    where
      not_phase : world.closing ≡ false → ⊥
      not_phase phase = false≢true (sym phase ∙ closing)

      again : (i : ℕ) → HasAdvanced host world i 2 → HasAdvanced host world i 0 ⊎ (HasAdvanced host world i 1 × IsLast host world × AllMoved world) → ⊥
      again i two (inl none') = omega (arith, two, none')
      again i two (inr once) = omega (arith, two, once.0)

      go : CanDoNoMore host world
      go (takes i place) may = not_phase may.serving.phase
      go (loses i place) may = not_phase may.serving.phase
      go (serves i place request) may = not_phase may.serving.phase
      go (gives i place) may = not_phase may.serving.phase
      go (advances i) may = again i (twice i may.there) may.turns
      go (moves i s) may = omega (arith, twice i may.there, may.turned)
      go opens may = omega (arith, twice 0 some, may.turned 0 some)
      go (raises i) may = not_phase may.rolling.serving.phase
      go (enters i) may = not_phase may.rolling.serving.phase
      go (scans i place) may = not_phase may.rolling.serving.phase
      go (finishes i) may = not_phase may.rolling.serving.phase
      go (stops i found) may = not_phase may.rolling.serving.phase

  -- ---- the first half of a close

  module _ (world : World C) (served : IsServedOut host world)
      (clocked : (i : ℕ) → i < length world.workers → HasAdvanced host world i 0) (still : (s : ℕ) → s < length world.shards → (shard_at world s).moved ≡ false) where
    pub begins : CanAllAdvance host world
    begins = record { going = served.served.going; through = served.over; settled = served.settled; turns = λ i within. inl (clocked i within) }

    module _ (middle : World C) (some : 0 < length world.workers) (have : HaveAdvanced host world middle (length world.workers)) where
      -- all may move their shards once all have advanced
      pub moves_begin : CanMoveAll host middle
      moves_begin = record {
        all = record {
          going = have.going;
          closing = have.closing some;
          turned = λ i within. turned i (subst (λ (n : ℕ). i < n) have.workers within);
        };
        before = λ i within. record {
          running = ap (λ (w : Worker). w.stuck) (have.before i (subst (λ (n : ℕ). i < n) have.workers within))
              ∙ (served.served.each i (subst (λ (n : ℕ). i < n) have.workers within)).going;
          still = λ s there own. ap (λ (shards : List (Seats C)). (get_or shards s (unmoved [])).moved) have.shards
              ∙ still s (subst (λ (shards : List (Seats C)). s < length shards) have.shards there);
        };
      }
        where
          turned : (i : ℕ) → i < length world.workers → HasAdvanced host middle i 1
          turned i within =
              ap (λ (w : Worker). w.clock.at.epoch) (have.before i within)
              ∙ ap (λ (n : ℕ). n + 1) (clocked i within)
              ∙ zero_more (epoch_of host world)
              ∙ ap (λ (n : ℕ). (host.header.first + n) + 1) (sym have.phase)
            where
              zero_more : (n : ℕ) → (n + 0) + 1 ≡ n + 1
              zero_more n = omega arith

      module _ (later : World C) where
        -- each worker keeps what a close leaves
        kept : ((i : ℕ) → IsKept (worker_at host middle i) (worker_at host later i)) → (i : ℕ) → IsKept (worker_at host world i) (worker_at host later i)
        kept moved i =
            kept-then host (worker_at host world i) (worker_at host middle i) (worker_at host later i)
            (advance_keeps host world middle (length world.workers) have i) (moved i)

        -- where all have moved them
        pub shards_closed : HaveAllMoved host middle later → ShardsAreClosed host world later
        shards_closed moved =
            let phase : later.phase ≡ world.phase = moved.keeps.phase ∙ have.phase in
            let workers : length later.workers ≡ length world.workers = moved.keeps.workers ∙ have.workers in
            record {
              all = turned_still host middle later moved.keeps moves_begin.all;
              through = over_still host world later phase workers (kept moved.keeps.kept) served.over;
              settled = λ rolling. round_still host world later phase (moved.keeps.scanned ∙ have.scanned) workers (kept moved.keeps.kept) (served.settled rolling);
              phase = phase;
              workers = workers;
              kept = kept moved.keeps.kept;
              running = λ i within. (moved.each i (subst (λ (n : ℕ). i < n) (sym have.workers) within)).running;
              moved = λ s within. (moved.each (s % length later.workers) (owner s)).moved s within refl;
            }
          where
            owner : (s : ℕ) → s % length later.workers < length middle.workers
            owner s =
                let more : 0 < length later.workers = omega (arith, some, moved.keeps.workers, have.workers) in
                omega (arith, mod-lt s more, moved.keeps.workers)

        -- where a clock ended
        pub shards_stuck : HaveSomeStuck host middle later → CanDoNoMore host later
        shards_stuck stuck = stuck_rests middle later (turned_still host middle later stuck.keeps moves_begin.all) stuck.keeps.workers stuck

        -- either way
        pub ends_shards : (end : Option ClockEnd) → EndsMoves host middle later end → EndsShards host world later end
        ends_shards None moved = shards_closed moved
        ends_shards (Some end) stuck = (shards_stuck stuck.0, stuck.1, kept stuck.0.keeps.kept)

  -- ---- the second half

  module _ (world later : World C) (closed : ShardsAreClosed host world later) where
    -- whether the close is the last
    last_back : IsLast host later → IsLast host world
    last_back (inl end) = inl (omega (arith, end, closed.phase))
    last_back (inr stopped) =
        inr (stopped.0, subst (λ (n : ℕ). stopped.0 < n) closed.workers stopped.1, sym (closed.kept stopped.0).stopped ∙ stopped.2)

    last_on : IsLast host world → IsLast host later
    last_on (inl end) = inl (omega (arith, end, closed.phase))
    last_on (inr stopped) =
        inr (stopped.0, subst (λ (n : ℕ). stopped.0 < n) (sym closed.workers) stopped.1, (closed.kept stopped.0).stopped ∙ stopped.2)

    -- In a last close all may advance once more.
    pub again : IsLast host world → CanAllAdvance host later
    again last = record {
      going = closed.all.going;
      through = closed.through;
      settled = closed.settled;
      turns = λ i within. inr (closed.all.turned i within, last_on last, closed.moved);
    }

    -- Else the next phase may open.
    pub may_open : (IsLast host world → ⊥) → MayOpen host later
    may_open more = record {
      going = closed.all.going;
      through = closed.through;
      turned = closed.all.turned;
      moved = closed.moved;
      more = λ last. more (last_back last);
    }

    -- the last close is whole
    module _ (end : World C) (some : 0 < length world.workers) (have : HaveAdvanced host later end (length later.workers)) where
      twice : (i : ℕ) → i < length end.workers → HasAdvanced host end i 2
      twice i within =
          let there = subst (λ (n : ℕ). i < n) have.workers within in
          ap (λ (w : Worker). w.clock.at.epoch) (have.before i there)
          ∙ ap (λ (n : ℕ). n + 1) (closed.all.turned i there)
          ∙ two (epoch_of host later)
          ∙ ap (λ (n : ℕ). (host.header.first + n) + 2) (sym have.phase)
        where
          two : (n : ℕ) → (n + 1) + 1 ≡ n + 2
          two n = omega arith

      pub is_closed : IsClosed host end
      is_closed = record {
        over = over_still host later end have.phase have.workers (advance_keeps host later end (length later.workers) have) closed.through;
        advanced = twice;
      }

      pub closed_phase : end.phase ≡ world.phase
      closed_phase = have.phase ∙ closed.phase

      pub closed_running : NoneStopped host world → NoneStopped host end
      closed_running none' i within =
          (advance_keeps host later end (length later.workers) have i).stopped ∙ (closed.kept i).stopped
          ∙ none' i (subst (λ (n : ℕ). i < n) (have.workers ∙ closed.workers) within)

      pub closed_rests : CanDoNoMore host end
      closed_rests = twice_rests end (omega (arith, some, have.workers, closed.workers)) (have.closing (omega (arith, some, closed.workers))) twice

    -- the next phase is open
    module _ (served : IsServedOut host world) (end : host.rolling ≡ true → length host.script ≤ suc world.phase) (more : IsLast host world → ⊥) where
      abbrev pub opened : World C
      opened = step host later opens

      -- a rolling host closes its last phase alone
      not_rolling : host.rolling ≡ true → ⊥
      not_rolling rolling = more (inl (end rolling))

      is_plain : host.rolling ≡ false
      is_plain = go host.rolling refl
        where
          go : (b : Bool) → host.rolling ≡ b → b ≡ false
          go true rolling = absurd (not_rolling rolling)
          go false plain = refl

      running : (i : ℕ) → i < length later.workers → (worker_at host later i).stopped ≡ false
      running i within = go (served.served.each i there).served
        where
          there : i < length world.workers
          there = subst (λ (n : ℕ). i < n) closed.workers within

          go : ((worker_at host world i).stopped ≡ true) ⊎ (((worker_at host world i).stopped ≡ false) × ((worker_at host world i).served ≡ asked_by host i world.phase (length (turns_of host world.phase))))
              → (worker_at host later i).stopped ≡ false
          go (inl stopped) = absurd (more (inr (i, there, stopped)))
          go (inr whole) = (closed.kept i).stopped ∙ whole.0

      opened_served : IsServedUpTo host opened (suc later.phase) 0
      opened_served = record {
        going = closed.all.going;
        phase = refl;
        within = next_there;
        each = λ i within. record {
          idle = (closed.kept i).holds ∙ (served.served.each i (subst (λ (n : ℕ). i < n) closed.workers within)).idle;
          going = closed.running i (subst (λ (n : ℕ). i < n) closed.workers within);
          served = inr (running i within, count i within);
        };
      }
        where
          next_there : suc later.phase < length host.script
          next_there = go (cases_lt (suc later.phase) (length host.script))
            where
              go : (suc later.phase < length host.script) ⊎ (length host.script ≤ suc later.phase) → suc later.phase < length host.script
              go (inl less) = less
              go (inr end) = absurd (more (inl (omega (arith, end, closed.phase))))

          count : (i : ℕ) → i < length later.workers → (worker_at host later i).served ≡ asked_by host i (suc later.phase) 0
          count i within = go (served.served.each i there).served
            where
              there : i < length world.workers
              there = subst (λ (n : ℕ). i < n) closed.workers within

              go : ((worker_at host world i).stopped ≡ true) ⊎ (((worker_at host world i).stopped ≡ false) × ((worker_at host world i).served ≡ asked_by host i world.phase (length (turns_of host world.phase))))
                  → (worker_at host later i).served ≡ asked_by host i (suc later.phase) 0
              go (inl stopped) = absurd (more (inr (i, there, stopped)))
              go (inr whole) = (closed.kept i).served ∙ whole.1 ∙ asked_next i world.phase served.served.within
                  ∙ ap (λ (n : ℕ). asked_by host i (suc n) 0) (sym closed.phase)

      pub opened_begins : BeginsRound host opened
      opened_begins = record {
        served = subst (λ (n : ℕ). IsServedUpTo host opened n 0) (sym (ap (λ (b : Bool). if b then 0 else suc later.phase) is_plain)) opened_served;
        newest = λ rolling. absurd (not_rolling rolling);
        marks = λ rolling. absurd (not_rolling rolling);
      }

      pub opened_phase : opened.phase ≡ suc world.phase
      opened_phase = ap suc closed.phase

      pub opened_running : NoneStopped host opened
      opened_running = running
