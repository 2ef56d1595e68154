-- All workers advance, one after another, or there is no epoch to come.
use Rattle.std.proofs.Common.{◌≡◌, ◌⊎◌, ℕ, suc, ◌+◌, ◌<◌, ◌≤◌, ◌==◌, Bool, true, false, List, [], length, get_or, slice_get, Option, Some, None, refl, sym, ◌∙◌, ap, subst, inl, inr, if◌then◌else◌, arith}
use Rattle.std.proofs.lemmas.Bool.{cases_eq, cases_lt}
use Rattle.std.proofs.lemmas.List.{length-set, get_or-set_same, get_or-set_other}
use Rattle.lamport_clocks.specs.Clock.{last_epoch}
use Rattle.host_core.specs.Host.{Host, asked}
use Rattle.host_core.specs.World.{Worker, Seats, World, unmoved, fresh, worker_at}
use Rattle.host_core.specs.WorldEvent.{advances, with_worker, step, IsNext, IsPhaseOver, IsRoundOver, IsLast, AllMoved, HasAdvanced, MayAdvance}
use Rattle.host_world.specs.declared.fault.ClockEnd.{ClockEnd}
use Rattle.host_world.specs.Ending.{end_of, end_at}
use Rattle.host_serving.specs.Closing.{advanced, IsKept, CanAllAdvance, HaveAdvanced}

module _ {C R : Type 0} (host : Host C R) where
  -- ---- what is kept

  -- a phase that was over is over still
  pub over_still : (world later : World C) → later.phase ≡ world.phase → length later.workers ≡ length world.workers
      → ((i : ℕ) → IsKept (worker_at host world i) (worker_at host later i)) → IsPhaseOver host world → IsPhaseOver host later
  over_still world later phase workers kept through i within =
      let was = through i (subst (λ (n : ℕ). i < n) workers within) in
      ((kept i).holds ∙ was.0, go was.1)
    where
      go : ((worker_at host world i).stopped ≡ true) ⊎ ((request : R) → IsNext host world i request → ⊥)
          → ((worker_at host later i).stopped ≡ true) ⊎ ((request : R) → IsNext host later i request → ⊥)
      go (inl stopped) = inl ((kept i).stopped ∙ stopped)
      go (inr none') = inr (λ request next. none' request
          (ap (slice_get (asked host i)) (sym (kept i).served) ∙ next ∙ ap (λ (n : ℕ). Some (n, request)) phase))

  -- a round that was over is over still
  pub round_still : (world later : World C) → later.phase ≡ world.phase → later.scanned ≡ world.scanned → length later.workers ≡ length world.workers
      → ((i : ℕ) → IsKept (worker_at host world i) (worker_at host later i)) → IsRoundOver host world → IsRoundOver host later
  round_still world later phase scanned workers kept over i within =
      let was = over i (subst (λ (n : ℕ). i < n) workers within) in (
        (kept i).stopped ∙ was.0,
        ap (slice_get (asked host i)) (kept i).served ∙ was.1,
        ap (λ (all : List ℕ). get_or all i host.header.first) scanned ∙ was.2 ∙ ap (λ (n : ℕ). host.header.first + n) (sym phase),
      )

  -- and a last close is the last still
  pub last_still : (world later : World C) → later.phase ≡ world.phase → length later.workers ≡ length world.workers
      → ((i : ℕ) → IsKept (worker_at host world i) (worker_at host later i)) → IsLast host world → IsLast host later
  last_still world later phase workers kept (inl end) = inl (omega (arith, end, phase))
  last_still world later phase workers kept (inr stopped) =
      inr (stopped.0, subst (λ (n : ℕ). stopped.0 < n) (sym workers) stopped.1, (kept stopped.0).stopped ∙ stopped.2)

  module _ (world : World C) where
    -- none has advanced yet
    pub have-none : CanAllAdvance host world → HaveAdvanced host world world 0
    have-none can = record {
      before = λ i less. absurd (omega (arith, less));
      behind = λ i above. refl;
      shards = refl;
      phase = refl;
      scanned = refl;
      going = can.going;
      workers = refl;
      closing = λ some. absurd (omega (arith, some));
    }

    pub advance_keeps : (later : World C) (count : ℕ) → HaveAdvanced host world later count
        → (i : ℕ) → IsKept (worker_at host world i) (worker_at host later i)
    advance_keeps later count have i = go (cases_lt i count)
      where
        go : (i < count) ⊎ (count ≤ i) → IsKept (worker_at host world i) (worker_at host later i)
        go (inl less) = subst (IsKept (worker_at host world i)) (sym (have.before i less)) (record { holds = refl; served = refl; stopped = refl })
        go (inr above) = subst (IsKept (worker_at host world i)) (sym (have.behind i above)) (record { holds = refl; served = refl; stopped = refl })

    -- ---- the next worker

    module _ (can : CanAllAdvance host world) (later : World C) (j : ℕ) (have : HaveAdvanced host world later j) (there : j < length world.workers) where
      own : worker_at host later j ≡ worker_at host world j
      own = have.behind j (omega arith)

      -- It may advance.
      pub may_advance : MayAdvance host later j
      may_advance = record {
        going = have.going;
        there = subst (λ (n : ℕ). j < n) (sym have.workers) there;
        through = over_still world later have.phase have.workers (advance_keeps later j have) can.through;
        settled = λ rolling. round_still world later have.phase have.scanned have.workers (advance_keeps later j have) (can.settled rolling);
        turns = go (can.turns j there);
      }
        where
          has : (times : ℕ) → HasAdvanced host world j times → HasAdvanced host later j times
          has times is = ap (λ (w : Worker). w.clock.at.epoch) own ∙ is ∙ ap (λ (n : ℕ). (host.header.first + n) + times) (sym have.phase)

          go : HasAdvanced host world j 0 ⊎ (HasAdvanced host world j 1 × IsLast host world × AllMoved world)
              → HasAdvanced host later j 0 ⊎ (HasAdvanced host later j 1 × IsLast host later × AllMoved later)
          go (inl once) = inl (has 0 once)
          go (inr twice) = inr (
            has 1 twice.0,
            last_still world later have.phase have.workers (advance_keeps later j have) twice.1,
            subst (λ (shards : List (Seats C)). (s : ℕ) → s < length shards → (get_or shards s (unmoved [])).moved ≡ true) (sym have.shards) twice.2,
          )

      -- what comes of it
      abbrev pub Goes : World C → Option ClockEnd → Type 0
      Goes new None = HaveAdvanced host world new (suc j)
      Goes new (Some end) = (new.over ≡ true) × (end.worker ≡ 0) × ((i : ℕ) → IsKept (worker_at host world i) (worker_at host new i))

      abbrev next : World C
      next = record (with_worker later j (advanced (worker_at host later j))) { closing = true }

      have_next : HaveAdvanced host world next (suc j)
      have_next = record {
        before = λ i less. go i (cases_eq i j) less;
        behind = λ i above. get_or-set_other later.workers j i (advanced (worker_at host later j)) (fresh host.header) (λ same. omega (arith, same, above))
            ∙ have.behind i (omega (arith, above));
        shards = have.shards;
        phase = have.phase;
        scanned = have.scanned;
        going = have.going;
        workers = length-set later.workers j (advanced (worker_at host later j)) ∙ have.workers;
        closing = λ some. refl;
      }
        where
          go : (i : ℕ) → (i ≡ j) ⊎ (i ≡ j → ⊥) → i < suc j → worker_at host next i ≡ advanced (worker_at host world i)
          go i (inl same) less =
              ap (λ (n : ℕ). worker_at host next n) same
              ∙ get_or-set_same later.workers j (advanced (worker_at host later j)) (fresh host.header) (subst (λ (n : ℕ). j < n) (sym have.workers) there)
              ∙ ap advanced own
              ∙ ap (λ (n : ℕ). advanced (worker_at host world n)) (sym same)
          go i (inr apart) less =
              get_or-set_other later.workers j i (advanced (worker_at host later j)) (fresh host.header) apart
              ∙ have.before i (omega (arith, less, apart))

      -- Then one more has advanced, or there is no epoch to come.
      pub goes_next : (new : World C) (end : Option ClockEnd) → new ≡ step host later (advances j) → end ≡ end_of host later (advances j) → Goes new end
      goes_next new end is ends = go ((worker_at host later j).clock.at.epoch == last_epoch) is ends
        where
          go : (b : Bool) → new ≡ (if b then record later { over = true } else next) → end ≡ (if b then Some (end_at host later 0) else None) → Goes new end
          go true is' ends' = subst (Goes new) (sym ends') (
            ap (λ (w : World C). w.over) is',
            refl,
            λ i. subst (λ (w : World C). IsKept (worker_at host world i) (worker_at host w i)) (sym is') (advance_keeps later j have i),
          )
          go false is' ends' = subst (Goes new) (sym ends') (subst (λ (w : World C). HaveAdvanced host world w (suc j)) (sym is') have_next)
