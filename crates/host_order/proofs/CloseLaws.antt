-- The one order of a close: all workers advance, and then each moves its shards.
use Rattle.std.proofs.Common.{◌≡◌, ◌⊎◌, ℕ, suc, ◌+◌, ◌*◌, ◌/◌, ◌%◌, ◌<◌, ◌≤◌, ◌==◌, Bool, true, false, List, [], ◌∷◌, length, get_or, slice_get, Option, Some, refl, sym, ◌∙◌, ap, subst, inl, inr, mod-lt, arith}
use Rattle.std.proofs.lemmas.Option.{slice_get-get_or}
use Rattle.lamport_clocks.specs.Reading.{Reading}
use Rattle.lamport_clocks.specs.Clock.{last_epoch}
use Rattle.host_core.specs.Host.{Host, Done, asked}
use Rattle.host_core.specs.World.{Worker, Seats, World, unmoved, worker_at, shard_at, epoch_of}
use Rattle.host_core.specs.WorldEvent.{next_clock, IsNext, IsPhaseOver, IsRoundOver, IsLast, AllMoved, HasAdvanced, MayAdvance, MayOpen, AreEnabled, run_events}
use Rattle.host_core.proofs.EventLaws.{enabled-append, run-append}
use Rattle.host_order.specs.Close.{Moves, moves_of, MovesKeepEpoch, AreMoves, IsToClose, IsCloseTold, advances_from, all_move_events, close_events, seats_after, EndsClosed, NoneStuck, HasOneClose, OrdersClose}
use Rattle.host_order.proofs.AdvanceLemmas.{advanced_worker, CanAdvance, Advanced, shows, all_advance}
use Rattle.host_order.proofs.MoveLemmas.{before_own, moved_worker, IsMoveBase, HaveMoved, none_moved, Lead, tell, tell_stuck, tell-at, tell_stuck-at, all_moves}

module _ {C R : Type 0} (host : Host C R) where
  -- moves of a world with the same shards and as many workers
  same_moves : (world other : World C) → other.shards ≡ world.shards → length other.workers ≡ length world.workers
      → (i s : ℕ) (clock : Reading) (dones : List (Done (List C))) (stuck : Bool) → AreMoves host world i s clock dones stuck → AreMoves host other i s clock dones stuck
  same_moves world other shards count i s clock [] false told = subst (λ (zs : List (Seats C)). length zs ≤ s) (sym shards) told
  same_moves world other shards count i s clock [] true told = (
    subst (λ (zs : List (Seats C)). s < length zs) (sym shards) told.0,
    ap (λ (zs : List (Seats C)). host.move i clock s (get_or zs s (unmoved [])).contents) shards ∙ told.1,
  )
  same_moves world other shards count i s clock (done ∷ dones) stuck told = (
    subst (λ (zs : List (Seats C)). s < length zs) (sym shards) told.0,
    ap (λ (zs : List (Seats C)). host.move i clock s (get_or zs s (unmoved [])).contents) shards ∙ told.1,
    same_moves world other shards count i (s + length other.workers) done.clock dones stuck
        (subst (λ (n : ℕ). AreMoves host world i (s + n) done.clock dones stuck) (sym count) told.2),
  )

  -- moves with no end of a clock are all of a worker's shards
  all_of_them : (world : World C) (i s : ℕ) (clock : Reading) (dones : List (Done (List C))) → AreMoves host world i s clock dones false
      → length world.shards ≤ length dones * length world.workers + s
  all_of_them world i s clock [] told = omega (arith, told)
  all_of_them world i s clock (done ∷ dones) told =
      omega (arith, all_of_them world i (s + length world.workers) done.clock dones told.2)

  module _ (world : World C) (close : List (Moves C)) (keeps : MovesKeepEpoch host) (is : IsToClose host world) (told : IsCloseTold host world close) where
    can_advance : CanAdvance host world
    can_advance = record {
      going = is.going;
      through = is.through;
      settled = is.settled;
      more = λ i within. ap (λ (n : ℕ). n == last_epoch) ((is.epochs is.phase).0 i within) ∙ is.more;
      turns = λ i within. inl ((is.epochs is.phase).0 i within ∙ omega arith);
    }

    abbrev base : World C
    base = run_events host world (advances_from 0 (length world.workers))

    advanced : Advanced host world base (length world.workers)
    advanced = (all_advance host world can_advance).1

    -- a worker that has advanced
    base_worker : (i : ℕ) → i < length world.workers → worker_at host base i ≡ advanced_worker (worker_at host world i)
    base_worker i within = advanced.before i within

    base_count : length base.workers ≡ length world.workers
    base_count = advanced.count

    epoch_is : epoch_of host base ≡ epoch_of host world
    epoch_is = ap (λ (n : ℕ). host.header.first + n) advanced.phase

    move_base : IsMoveBase host base
    move_base = record {
      going = advanced.going;
      closing = advanced.closing is.some;
      epochs = λ i within. epochs i (subst (λ (n : ℕ). i < n) base_count within);
      running = λ i within. shows host world (λ w. w.stuck) (λ w. refl) base (length world.workers) advanced i
          ∙ is.running i (subst (λ (n : ℕ). i < n) base_count within);
      still = λ s within. ap (λ (zs : List (Seats C)). (get_or zs s (unmoved [])).moved) advanced.shards
          ∙ (is.epochs is.phase).2 s (subst (λ (zs : List (Seats C)). s < length zs) advanced.shards within);
    }
      where
        epochs : (i : ℕ) → i < length world.workers → (worker_at host base i).clock.at.epoch ≡ epoch_of host base + 1
        epochs i within =
            ap (λ (w : Worker). w.clock.at.epoch) (base_worker i within)
            ∙ ap (λ (n : ℕ). n + 1) ((is.epochs is.phase).0 i within ∙ sym epoch_is)

    abbrev later : World C
    later = run_events host base (all_move_events (length world.workers) 0 close)

    abbrev dones : ℕ → List (Done (List C))
    dones = tell host base (λ i. []) 0 close

    abbrev flags : ℕ → Bool
    flags = tell_stuck host base (λ i. false) 0 close

    lead : Lead host base base dones flags (all_move_events (length world.workers) 0 close)
    lead =
        subst (λ (n : ℕ). Lead host base base dones flags (all_move_events n 0 close)) base_count
        (all_moves host base move_base keeps base (λ i. []) (λ i. false) 0 close (omega (arith, told.count, base_count)) (none_moved host base move_base)
        (λ j above. refl) (λ j above. refl)
        (λ k within. moves_told k (subst (λ (n : ℕ). k < n) told.count within)))
      where
        moves_told : (k : ℕ) → k < length world.workers
            → AreMoves host base (0 + k) (0 + k) (worker_at host base (0 + k)).clock (moves_of close k).dones (moves_of close k).stuck
        moves_told k within =
            subst (λ (n : ℕ). AreMoves host base n n (worker_at host base n).clock (moves_of close k).dones (moves_of close k).stuck) {x = k} (omega arith)
            (subst (λ (w : Worker). AreMoves host base k k w.clock (moves_of close k).dones (moves_of close k).stuck) (sym (base_worker k within))
            (same_moves world base advanced.shards base_count k k (next_clock (worker_at host world k).clock) (moves_of close k).dones (moves_of close k).stuck
            (told.each k within)))

    moved : HaveMoved host base later dones flags
    moved = lead.1

    -- what is told of a worker
    dones_is : (i : ℕ) → i < length world.workers → dones i ≡ (moves_of close i).dones
    dones_is i within =
        ap dones {x = i} (omega arith)
        ∙ tell-at host base (λ i. []) 0 close i (subst (λ (n : ℕ). i < n) (sym told.count) within) (λ j above. refl)

    flags_is : (i : ℕ) → i < length world.workers → flags i ≡ (moves_of close i).stuck
    flags_is i within =
        ap flags {x = i} (omega arith) ∙ tell_stuck-at host base (λ i. false) 0 close i (subst (λ (n : ℕ). i < n) (sym told.count) within)

    worker_is : (i : ℕ) → i < length world.workers
        → worker_at host later i ≡ moved_worker (advanced_worker (worker_at host world i)) (moves_of close i).dones (moves_of close i).stuck
    worker_is i within =
        moved.worker i (subst (λ (n : ℕ). i < n) (sym base_count) within)
        ∙ ap (λ (w : Worker). moved_worker w (dones i) (flags i)) (base_worker i within)
        ∙ ap (λ (zs : List (Done (List C))). moved_worker (advanced_worker (worker_at host world i)) zs (flags i)) (dones_is i within)
        ∙ ap (moved_worker (advanced_worker (worker_at host world i)) (moves_of close i).dones) (flags_is i within)

    shard_is : (s : ℕ) → s < length world.shards → shard_at later s
        ≡ seats_after (shard_at world s) (slice_get (moves_of close (s % length world.workers)).dones (s / length world.workers))
    shard_is s within =
        moved.shards s (subst (λ (zs : List (Seats C)). s < length zs) (sym advanced.shards) within)
        ∙ ap (λ (zs : List (Seats C)). seats_after (get_or zs s (unmoved [])) (slice_get (dones (s % length base.workers)) (s / length base.workers))) advanced.shards
        ∙ ap (λ (n : ℕ). seats_after (shard_at world s) (slice_get (dones (s % n)) (s / n))) base_count
        ∙ ap (λ (zs : List (Done (List C))). seats_after (shard_at world s) (slice_get zs (s / length world.workers)))
        (dones_is (s % length world.workers) (mod-lt s is.some))

    phase_is : later.phase ≡ world.phase
    phase_is = moved.phase ∙ advanced.phase

    count_is : length later.workers ≡ length world.workers
    count_is = moved.count ∙ base_count

    shard_count_is : length later.shards ≡ length world.shards
    shard_count_is = moved.shard_count ∙ ap (λ (zs : List (Seats C)). length zs) advanced.shards

    ends : EndsClosed host world later close
    ends = record {
      logs = λ i within. ap (λ (w : Worker). w.log) (worker_is i within);
      clocks = λ i within. ap (λ (w : Worker). w.clock) (worker_is i within);
      served = λ i within. ap (λ (w : Worker). w.served) (worker_is i within);
      stopped = λ i within. ap (λ (w : Worker). w.stopped) (worker_is i within);
      stuck = λ i within. ap (λ (w : Worker). w.stuck) (worker_is i within);
      idle = λ i within. ap (λ (w : Worker). w.holds) (worker_is i within) ∙ (is.through i within).0;
      shards = shard_is;
      counts = (count_is, shard_count_is);
      phase = (phase_is, moved.going);
      words = (moved.words.0 ∙ advanced.words.0, moved.words.1 ∙ advanced.words.1);
    }

    -- ---- what may follow

    later_there : (i : ℕ) → i < length later.workers → i < length world.workers
    later_there i within = subst (λ (n : ℕ). i < n) count_is within

    through_is : IsPhaseOver host later
    through_is i within = (ends.idle i (later_there i within), go (is.through i (later_there i within)).1)
      where
        go : ((worker_at host world i).stopped ≡ true) ⊎ ((request : R) → IsNext host world i request → ⊥)
            → ((worker_at host later i).stopped ≡ true) ⊎ ((request : R) → IsNext host later i request → ⊥)
        go (inl stopped) = inl (ends.stopped i (later_there i within) ∙ stopped)
        go (inr none) = inr (λ request next. none request
            (ap (slice_get (asked host i)) (sym (ends.served i (later_there i within))) ∙ next ∙ ap (λ (n : ℕ). Some (n, request)) phase_is))

    settled_is : host.rolling ≡ true → IsRoundOver host later
    settled_is rolling i within =
        let there = later_there i within in
        let was = is.settled rolling i there in (
          ends.stopped i there ∙ was.0,
          ap (slice_get (asked host i)) (ends.served i there) ∙ was.1,
          ap (λ (scanned : List ℕ). get_or scanned i host.header.first) ends.words.1 ∙ was.2 ∙ ap (λ (n : ℕ). host.header.first + n) (sym phase_is),
        )

    last_back : IsLast host later → IsLast host world
    last_back (inl end) = inl (omega (arith, end, phase_is))
    last_back (inr stopped) =
        inr (stopped.0, later_there stopped.0 stopped.1, sym (ends.stopped stopped.0 (later_there stopped.0 stopped.1)) ∙ stopped.2)

    last_on : IsLast host world → IsLast host later
    last_on (inl end) = inl (omega (arith, end, phase_is))
    last_on (inr stopped) = inr (stopped.0, subst (λ (n : ℕ). stopped.0 < n) (sym count_is) stopped.1, ends.stopped stopped.0 stopped.1 ∙ stopped.2)

    turned_is : (i : ℕ) → i < length world.workers → HasAdvanced host later i 1
    turned_is i within =
        ap (λ (w : Worker). w.clock.at.epoch) (moved.worker i (subst (λ (n : ℕ). i < n) (sym base_count) within))
        ∙ moved.epochs i (subst (λ (n : ℕ). i < n) (sym base_count) within)
        ∙ ap (λ (n : ℕ). (host.header.first + n) + 1) (sym moved.phase)

    moved_is : NoneStuck world close → AllMoved later
    moved_is none s within =
        let there = subst (λ (n : ℕ). s < n) shard_count_is within in
        let i = s % length world.workers in
        let owner = mod-lt s is.some in
        let whole = all_of_them world i i (next_clock (worker_at host world i).clock) (moves_of close i).dones
        (subst (λ (b : Bool). AreMoves host world i i (next_clock (worker_at host world i).clock) (moves_of close i).dones b) (none i owner) (told.each i owner)) in
        let less = before_own s (length (moves_of close i).dones) i (length world.workers) (omega (arith, whole, there)) refl in
        ap (λ (z : Seats C). z.moved) (shard_is s there) ∙ some_there (moves_of close i).dones (s / length world.workers) less
      where
        some_there : (xs : List (Done (List C))) (k : ℕ) → k < length xs → (seats_after (shard_at world s) (slice_get xs k)).moved ≡ true
        some_there [] k less = absurd (omega (arith, less))
        some_there (x ∷ xs) k less = ap (λ (o : Option (Done (List C))). (seats_after (shard_at world s) o).moved) (slice_get-get_or (x ∷ xs) k x less)

    may_open : NoneStuck world close → (IsLast host world → ⊥) → MayOpen host later
    may_open none more = record {
      going = moved.going;
      through = through_is;
      turned = λ i within. turned_is i (later_there i within);
      moved = moved_is none;
      more = λ last. more (last_back last);
    }

    can_again : NoneStuck world close → IsLast host world → (suc (epoch_of host world) == last_epoch) ≡ false → CanAdvance host later
    can_again none last more = record {
      going = moved.going;
      through = through_is;
      settled = settled_is;
      more = λ i within.
          ap (λ (n : ℕ). n == last_epoch) (turned_is i (later_there i within) ∙ ap (λ (n : ℕ). (host.header.first + n) + 1) phase_is ∙ next (epoch_of host world)) ∙ more;
      turns = λ i within. inr (turned_is i (later_there i within), last_on last, moved_is none);
    }
      where
        next : (n : ℕ) → n + 1 ≡ suc n
        next n = omega arith

    may_advance_again : NoneStuck world close → IsLast host world → MayAdvance host later 0
    may_advance_again none last = record {
      going = moved.going;
      there = subst (λ (n : ℕ). 0 < n) (sym count_is) is.some;
      through = through_is;
      settled = settled_is;
      turns = inr (turned_is 0 is.some, last_on last, moved_is none);
    }

    -- ---- the whole

    run_is : run_events host world (close_events world close) ≡ later
    run_is = run-append host world (advances_from 0 (length world.workers)) (all_move_events (length world.workers) 0 close)

    -- What is told of a close has one order.
    pub one_close : HasOneClose host world close
    one_close = record {
      enabled = enabled-append host world (advances_from 0 (length world.workers)) (all_move_events (length world.workers) 0 close)
          (all_advance host world can_advance).0 lead.0;
      ends = subst (λ (w : World C). EndsClosed host world w close) (sym run_is) ends;
      opened = λ none more. subst (λ (w : World C). MayOpen host w) (sym run_is) (may_open none more);
      last = λ none last more. subst (λ (w : World C). AreEnabled host w (advances_from 0 (length world.workers))) (sym run_is)
          (subst (λ (n : ℕ). AreEnabled host later (advances_from 0 n)) count_is (all_advance host later (can_again none last more)).0);
      ended = λ none last. subst (λ (w : World C). MayAdvance host w 0) (sym run_is) (may_advance_again none last);
    }

pub orders_close : {C R : Type 0} (host : Host C R) → OrdersClose host
orders_close host world close keeps is told = one_close host world close keeps is told
