-- All workers note that their shards are of the epoch in which they stand.
use Rattle.std.proofs.Common.{◌≡◌, ◌⊎◌, ℕ, zero, suc, ◌+◌, ◌<◌, ◌≤◌, true, false, List, length, get_or, set, refl, sym, ◌∙◌, ap, subst, inl, inr, arith}
use Rattle.std.proofs.lemmas.Bool.{cases_eq}
use Rattle.std.proofs.lemmas.List.{length-set, get_or-set_same, get_or-set_other}
use Rattle.host_core.specs.Host.{Host}
use Rattle.host_core.specs.World.{World, worker_at, shard_at}
use Rattle.host_core.specs.WorldEvent.{finishes, AreFrom, IsRolling, MayFinish}
use Rattle.host_core.specs.Deeds.{pending_of}
use Rattle.round_order.specs.Told.{finishes_from}
use Rattle.round_order.proofs.WayLemmas.{Way, way-none, way-cons}

-- ---- the notes

module _ (epoch : ℕ) where
  -- so many of the notes, from one on, are of the epoch
  abbrev pub note : ℕ → ℕ → List ℕ → List ℕ
  note i zero marks = marks
  note i (suc count) marks = note (suc i) count (set marks i epoch)

  pub note-length : (i count : ℕ) (marks : List ℕ) → length (note i count marks) ≡ length marks
  note-length i zero marks = refl
  note-length i (suc count) marks = note-length (suc i) count (set marks i epoch) ∙ length-set marks i epoch

  note-before : (i count : ℕ) (marks : List ℕ) (j d : ℕ) → j < i → get_or (note i count marks) j d ≡ get_or marks j d
  note-before i zero marks j d below = refl
  note-before i (suc count) marks j d below =
      note-before (suc i) count (set marks i epoch) j d (omega (arith, below))
      ∙ get_or-set_other marks i j epoch d (λ same. omega (arith, same, below))

  pub note-at : (i count : ℕ) (marks : List ℕ) (j d : ℕ) → i ≤ j → j < i + count → i + count ≤ length marks → get_or (note i count marks) j d ≡ epoch
  note-at i zero marks j d from below within = absurd (omega (arith, from, below))
  note-at i (suc count) marks j d from below within =
      go (cases_eq j i)
      (λ apart. note-at (suc i) count (set marks i epoch) j d (omega (arith, from, apart)) (omega (arith, below))
      (omega (arith, within, length-set marks i epoch)))
    where
      go : (j ≡ i) ⊎ (j ≡ i → ⊥) → ((j ≡ i → ⊥) → get_or (note (suc i) count (set marks i epoch)) j d ≡ epoch)
          → get_or (note (suc i) count (set marks i epoch)) j d ≡ epoch
      go (inl same) rest =
          note-before (suc i) count (set marks i epoch) j d (omega (arith, same))
          ∙ ap (λ (n : ℕ). get_or (set marks i epoch) n d) same
          ∙ get_or-set_same marks i epoch d (omega (arith, within))
      go (inr apart) rest = rest apart

-- ---- the events

module _ {C R : Type 0} (host : Host C R) (world : World C) (epoch : ℕ) where
  -- a rolling host's world in which nobody is stopped, and all clocks and all that waits have come to the epoch
  pub record CanNote : Type 0 where
    pub going : world.over ≡ false
    pub phase : world.closing ≡ false
    pub rolling : host.rolling ≡ true
    pub running : (i : ℕ) → i < length world.workers → (worker_at host world i).stopped ≡ false
    pub clocks : (i : ℕ) → i < length world.workers → (worker_at host world i).clock.at.epoch ≡ epoch
    pub reached : (s : ℕ) → s < length world.shards → AreFrom epoch (pending_of host (shard_at world s).contents)

  -- the world with these notes
  abbrev pub marked : List ℕ → World C
  marked marks = record world { scanned = marks }

  module _ (can : CanNote) where
    pub is_rolling : (marks : List ℕ) (i : ℕ) → i < length world.workers → IsRolling host (marked marks) i
    is_rolling marks i there = record {
      serving = record { going = can.going; phase = can.phase; there = there };
      rolling = can.rolling;
      running = can.running i there;
    }

    may_finish : (marks : List ℕ) (i : ℕ) → i < length world.workers → MayFinish host (marked marks) i
    may_finish marks i there = record {
      rolling = is_rolling marks i there;
      reached = λ s within own.
          subst (λ (n : ℕ). AreFrom n (pending_of host (shard_at world s).contents)) (sym (can.clocks i there)) (can.reached s within);
    }

    pub finishes_way : (i count : ℕ) (marks : List ℕ) → i + count ≤ length world.workers
        → Way host (marked marks) (finishes_from i count) (marked (note epoch i count marks))
    finishes_way i zero marks within = way-none host (marked marks)
    finishes_way i (suc count) marks within =
        let there : i < length world.workers = omega (arith, within) in
        way-cons host (marked marks) (marked (set marks i epoch)) (marked (note epoch (suc i) count (set marks i epoch))) (finishes i) (finishes_from (suc i) count)
        (may_finish marks i there) (ap (λ (n : ℕ). marked (set marks i n)) (can.clocks i there))
        (finishes_way (suc i) count (set marks i epoch) (omega (arith, within)))
