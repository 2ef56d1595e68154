-- A worker moves its shards, one after another, until its clock ends; and so does each.
use Rattle.std.proofs.Common.{◌≡◌, ◌≢◌, ◌⊎◌, ℕ, zero, suc, ◌+◌, ◌/◌, ◌%◌, ◌<◌, ◌≤◌, true, false, List, [], ◌∷◌, length, get_or, set, Option, Some, None, is_none, refl, sym, ◌∙◌, ap, subst, inl, inr, if◌then◌else◌, mul-le-mul_right, div-add-mod', mod-eq_of_lt, arith}
use Rattle.std.proofs.Math.Nat.{add-mod_right}
use Rattle.std.proofs.lemmas.Bool.{cases_eq, cases_lt}
use Rattle.std.proofs.lemmas.List.{length-set, get_or-set_same, get_or-set_other}
use Rattle.host_core.specs.Host.{Host, Done}
use Rattle.host_core.specs.World.{Worker, Seats, World, unmoved, fresh, worker_at, shard_at}
use Rattle.host_core.specs.WorldEvent.{moves, after_move, logging, step, MayMove}
use Rattle.host_order.specs.Close.{MovesKeepEpoch}
use Rattle.host_world.specs.declared.fault.ClockEnd.{ClockEnd}
use Rattle.host_world.specs.Ending.{end_of, end_at}
use Rattle.host_serving.specs.Leading.{first_of}
use Rattle.host_serving.specs.Closing.{IsKept, IsThroughMoves, IsStuckInMoves, IsBeforeMoves, HaveTurned, CanMoveOwn, CanMoveAll, KeepsTurned, OnlyMoves, EndsOwn, EndsMoves}

-- ---- lists and numbers

-- what a change of one element leaves of it, it leaves of all
pub shows-set : {X Y : Type 0} (show : X → Y) (xs : List X) (i : ℕ) (x d : X) → show x ≡ show (get_or xs i d)
    → (j : ℕ) → show (get_or (set xs i x) j d) ≡ show (get_or xs j d)
shows-set show [] i x d same j = refl
shows-set show (y ∷ xs) zero x d same zero = same
shows-set show (y ∷ xs) zero x d same (suc j) = refl
shows-set show (y ∷ xs) (suc i) x d same zero = refl
shows-set show (y ∷ xs) (suc i) x d same (suc j) = shows-set show xs i x d same j

-- between a worker's shard and its next there is none of its own
pub next_own : (s t n i : ℕ) → s % n ≡ i → t % n ≡ i → s ≤ t → t < s + n → t ≡ s
next_own s t n i own own' above below = go (cases_lt (s / n) (t / n))
  where
    go : (s / n < t / n) ⊎ (t / n ≤ s / n) → t ≡ s
    go (inl less) =
        let more : suc (s / n) ≤ t / n = omega (arith, less) in
        absurd (omega (arith, own, own', below, div-add-mod' s n, div-add-mod' t n, mul-le-mul_right n more))
    go (inr least) = omega (arith, own, own', above, div-add-mod' s n, div-add-mod' t n, mul-le-mul_right n least)

module _ {C R : Type 0} (host : Host C R) where
  -- ---- what moves leave

  pub keeps_turned-none : (world : World C) → KeepsTurned host world world
  keeps_turned-none world = record {
    phase = refl;
    scanned = refl;
    going = refl;
    closing = refl;
    workers = refl;
    shards = refl;
    kept = λ i. record { holds = refl; served = refl; stopped = refl };
    epochs = λ i. refl;
  }

  pub kept-then : (first second third : Worker) → IsKept first second → IsKept second third → IsKept first third
  kept-then first second third one two = record {
    holds = two.holds ∙ one.holds;
    served = two.served ∙ one.served;
    stopped = two.stopped ∙ one.stopped;
  }

  pub keeps_turned-then : (world middle later : World C) → KeepsTurned host world middle → KeepsTurned host middle later → KeepsTurned host world later
  keeps_turned-then world middle later one two = record {
    phase = two.phase ∙ one.phase;
    scanned = two.scanned ∙ one.scanned;
    going = two.going ∙ one.going;
    closing = two.closing ∙ one.closing;
    workers = two.workers ∙ one.workers;
    shards = two.shards ∙ one.shards;
    kept = λ i. kept-then (worker_at host world i) (worker_at host middle i) (worker_at host later i) (one.kept i) (two.kept i);
    epochs = λ i. two.epochs i ∙ one.epochs i;
  }

  only_moves-then : (world middle later : World C) (i : ℕ) → OnlyMoves host world i middle → OnlyMoves host middle i later → OnlyMoves host world i later
  only_moves-then world middle later i one two = record {
    keeps = keeps_turned-then world middle later one.keeps two.keeps;
    others = λ j apart. two.others j apart ∙ one.others j apart;
    foreign = λ s apart. two.foreign s (subst (λ (n : ℕ). s % n ≢ i) (sym one.keeps.workers) apart) ∙ one.foreign s apart;
  }

  -- all have turned still
  pub turned_still : (world later : World C) → KeepsTurned host world later → HaveTurned host world → HaveTurned host later
  turned_still world later keeps turned = record {
    going = keeps.going ∙ turned.going;
    closing = keeps.closing ∙ turned.closing;
    turned = λ i within. keeps.epochs i ∙ turned.turned i (subst (λ (n : ℕ). i < n) keeps.workers within)
        ∙ ap (λ (n : ℕ). (host.header.first + n) + 1) (sym keeps.phase);
  }

  -- ---- one move

  module _ (keep_epoch : MovesKeepEpoch host) (world : World C) (i s : ℕ) (own : s % length world.workers ≡ i) where
    -- what it leaves
    after_only : (done : Option (Done (List C))) → host.move i (worker_at host world i).clock s (shard_at world s).contents ≡ done
        → OnlyMoves host world i (after_move world i (worker_at host world i) s done)
    after_only None is =
        let was = worker_at host world i in
        let now : Worker = record was { stuck = true } in
        record {
          keeps = record {
            phase = refl;
            scanned = refl;
            going = refl;
            closing = refl;
            workers = length-set world.workers i now;
            shards = refl;
            kept = λ j. record {
              holds = shows-set (λ (w : Worker). w.holds) world.workers i now (fresh host.header) refl j;
              served = shows-set (λ (w : Worker). w.served) world.workers i now (fresh host.header) refl j;
              stopped = shows-set (λ (w : Worker). w.stopped) world.workers i now (fresh host.header) refl j;
            };
            epochs = λ j. shows-set (λ (w : Worker). w.clock.at.epoch) world.workers i now (fresh host.header) refl j;
          };
          others = λ j apart. ap (λ (w : Worker). w.stuck) (get_or-set_other world.workers i j now (fresh host.header) apart);
          foreign = λ t apart. refl;
        }
    after_only (Some done) is =
        let was = worker_at host world i in
        let now : Worker = logging was done.commands done.clock in
        let seats : Seats C = record { contents = done.after; moved = true } in
        record {
          keeps = record {
            phase = refl;
            scanned = refl;
            going = refl;
            closing = refl;
            workers = length-set world.workers i now;
            shards = length-set world.shards s seats;
            kept = λ j. record {
              holds = shows-set (λ (w : Worker). w.holds) world.workers i now (fresh host.header) refl j;
              served = shows-set (λ (w : Worker). w.served) world.workers i now (fresh host.header) refl j;
              stopped = shows-set (λ (w : Worker). w.stopped) world.workers i now (fresh host.header) refl j;
            };
            epochs = λ j. shows-set (λ (w : Worker). w.clock.at.epoch) world.workers i now (fresh host.header) (keep_epoch i was.clock s (shard_at world s).contents done is) j;
          };
          others = λ j apart. ap (λ (w : Worker). w.stuck) (get_or-set_other world.workers i j now (fresh host.header) apart);
          foreign = λ t apart. ap (λ (z : Seats C). z.moved)
              (get_or-set_other world.shards s t seats (unmoved []) (λ same. apart (ap (λ (n : ℕ). n % length world.workers) same ∙ own)));
        }

  -- ---- one worker's moves

  -- A worker's shards below one are moved, and its clock has not ended.
  pub record OwnBelow (world : World C) (i : ℕ) (later : World C) (s : ℕ) : Type 0 where
    pub only : OnlyMoves host world i later
    pub own : s % length world.workers ≡ i
    pub running : (worker_at host later i).stuck ≡ false
    pub before : (t : ℕ) → t < s → t < length world.shards → t % length world.workers ≡ i → (shard_at later t).moved ≡ true
    pub behind : (t : ℕ) → s ≤ t → t < length world.shards → t % length world.workers ≡ i → (shard_at later t).moved ≡ false

  module _ (keep_epoch : MovesKeepEpoch host) (world : World C) (i : ℕ) (can : CanMoveOwn host world i) where
    -- Of its own shards that of its number is the first.
    pub own_first : OwnBelow world i world i
    own_first = record {
      only = record { keeps = keeps_turned-none world; others = λ j apart. refl; foreign = λ s apart. refl };
      own = mod-eq_of_lt there';
      running = can.before.running;
      before = λ t less within own.
          let below : t < length world.workers = omega (arith, less, there') in
          absurd (omega (arith, less, own, mod-eq_of_lt below));
      behind = λ t above within own. can.before.still t within own;
    }
      where
        there' : i < length world.workers
        there' = can.there

    -- Once no shard is left, it is through.
    pub own_through : (later : World C) (s : ℕ) → OwnBelow world i later s → length world.shards ≤ s → EndsOwn host world i later None
    own_through later s below past = (
      below.only,
      record {
        running = below.running;
        moved = λ t within own.
            let there = subst (λ (n : ℕ). t < n) below.only.keeps.shards within in
            below.before t (omega (arith, there, past)) there (subst (λ (n : ℕ). t % n ≡ i) below.only.keeps.workers own);
      },
    )

    module _ (later : World C) (s : ℕ) (below : OwnBelow world i later s) (shard : s < length world.shards) where
      own_later : s % length later.workers ≡ i
      own_later = subst (λ (n : ℕ). s % n ≡ i) (sym below.only.keeps.workers) below.own

      turned : HaveTurned host later
      turned = turned_still world later below.only.keeps can.all

      there : i < length later.workers
      there = subst (λ (n : ℕ). i < n) (sym below.only.keeps.workers) can.there

      -- The shard may be moved.
      pub may_move : MayMove host later i s
      may_move = record {
        going = turned.going;
        closing = turned.closing;
        there = there;
        shard = subst (λ (n : ℕ). s < n) (sym below.only.keeps.shards) shard;
        turned = turned.turned i there;
        running = below.running;
        own = own_later;
        still = below.behind s (omega arith) shard below.own;
        in_order = λ t less own. below.before t less (omega (arith, less, shard)) (subst (λ (n : ℕ). t % n ≡ i) below.only.keeps.workers own);
      }

      -- what comes of it
      abbrev pub Goes : World C → Option ClockEnd → Type 0
      Goes new None = OwnBelow world i new (s + length world.workers)
      Goes new (Some end) = EndsOwn host world i new (Some end)

      made : (done : Option (Done (List C))) → host.move i (worker_at host later i).clock s (shard_at later s).contents ≡ done
          → Goes (after_move later i (worker_at host later i) s done) (if is_none done then Some (end_at host later i) else None)
      made None is =
          let only = after_only keep_epoch later i s own_later None is in
          let new : World C = after_move later i (worker_at host later i) s None in
          let now : Worker = record (worker_at host later i) { stuck = true } in (
            only_moves-then world later new i below.only only,
            record {
              stuck = ap (λ (w : Worker). w.stuck) (get_or-set_same later.workers i now (fresh host.header) there);
              left = (
                s,
                subst (λ (n : ℕ). s < n) (sym below.only.keeps.shards) shard,
                subst (λ (n : ℕ). s % n ≡ i) (sym only.keeps.workers) own_later,
                below.behind s (omega arith) shard below.own,
              );
            },
            refl,
          )
      made (Some done) is =
          let only = after_only keep_epoch later i s own_later (Some done) is in
          let new : World C = after_move later i (worker_at host later i) s (Some done) in
          let now : Worker = logging (worker_at host later i) done.commands done.clock in
          let seats : Seats C = record { contents = done.after; moved = true } in
          record {
            only = only_moves-then world later new i below.only only;
            own = add-mod_right s (length world.workers) ∙ below.own;
            running = shows-set (λ (w : Worker). w.stuck) later.workers i now (fresh host.header) refl i ∙ below.running;
            before = λ t less within own. before t (cases_eq t s) less within own;
            behind = λ t above within own.
                ap (λ (z : Seats C). z.moved) (get_or-set_other later.shards s t seats (unmoved []) (λ same. past t above same))
                ∙ below.behind t (omega (arith, above)) within own;
          }
        where
          some_workers : 0 < length world.workers
          some_workers = omega (arith, can.there)

          past : (t : ℕ) → s + length world.workers ≤ t → t ≡ s → ⊥
          past t above same = omega (arith, above, same, some_workers)

          before : (t : ℕ) → (t ≡ s) ⊎ (t ≡ s → ⊥) → t < s + length world.workers → t < length world.shards → t % length world.workers ≡ i
              → (get_or (set later.shards s (record { contents = done.after; moved = true })) t (unmoved [])).moved ≡ true
          before t (inl same) less within own =
              ap (λ (n : ℕ). (get_or (set later.shards s (record { contents = done.after; moved = true })) n (unmoved [])).moved) same
              ∙ ap (λ (z : Seats C). z.moved) (get_or-set_same later.shards s (record { contents = done.after; moved = true }) (unmoved [])
              (subst (λ (n : ℕ). s < n) (sym below.only.keeps.shards) shard))
          before t (inr apart) less within own =
              ap (λ (z : Seats C). z.moved) (get_or-set_other later.shards s t (record { contents = done.after; moved = true }) (unmoved []) apart)
              ∙ below.before t (earlier (cases_lt t s)) within own
            where
              earlier : (t < s) ⊎ (s ≤ t) → t < s
              earlier (inl less') = less'
              earlier (inr above) = absurd (apart (next_own s t (length world.workers) i below.own own above less))

      -- Then its next shard is to be moved, or its clock ended.
      pub goes_next : (new : World C) (end : Option ClockEnd) → new ≡ step host later (moves i s) → end ≡ end_of host later (moves i s) → Goes new end
      goes_next new end is ends =
          subst (λ (w : World C). Goes w end) (sym is)
          (subst (Goes (step host later (moves i s))) (sym ends)
          (made (host.move i (worker_at host later i).clock s (shard_at later s).contents) refl))

  -- ---- all workers

  module _ (world : World C) where
    -- what is told of an end
    abbrev pub TellsEnd : World C → Option ClockEnd → ℕ → Type 0
    TellsEnd later None i = (j : ℕ) → j < i → j < length world.workers → IsThroughMoves host later j
    TellsEnd later (Some end) i =
        (end.worker < i) × (end.worker < length world.workers) × IsStuckInMoves host later end.worker
        × ((j : ℕ) → j < end.worker → IsThroughMoves host later j)

    -- The workers below one have moved their shards, or their clocks ended, and the first end is told.
    pub record AllBelow (later : World C) (end : Option ClockEnd) (i : ℕ) : Type 0 where
      pub keeps : KeepsTurned host world later
      pub before : (j : ℕ) → j < i → j < length world.workers → IsThroughMoves host later j ⊎ IsStuckInMoves host later j
      pub behind : (j : ℕ) → i ≤ j → j < length world.workers → IsBeforeMoves host later j
      pub tells : TellsEnd later end i

    pub all_first : CanMoveAll host world → AllBelow world None 0
    all_first can = record {
      keeps = keeps_turned-none world;
      before = λ j less within. absurd (omega (arith, less));
      behind = λ j above within. can.before j within;
      tells = λ j less within. absurd (omega (arith, less));
    }

    pub all_through : (later : World C) (end : Option ClockEnd) (i : ℕ) → length world.workers ≤ i → AllBelow later end i → EndsMoves host world later end
    all_through later None i past below = record { keeps = below.keeps; each = λ j within. below.tells j (omega (arith, within, past)) within }
    all_through later (Some end) i past below = (
      record {
        keeps = below.keeps;
        each = λ j within. below.before j (omega (arith, within, past)) within;
        some = (end.worker, below.tells.1, below.tells.2);
      },
      λ j less. (below.tells.3 j less).running,
    )

    -- the next worker may begin
    pub may_begin : CanMoveAll host world → (later : World C) (end : Option ClockEnd) (i : ℕ) → AllBelow later end i → i < length world.workers → CanMoveOwn host later i
    may_begin can later end i below within = record {
      all = turned_still world later below.keeps can.all;
      there = subst (λ (n : ℕ). i < n) (sym below.keeps.workers) within;
      before = below.behind i (omega arith) within;
    }

    module _ (later new : World C) (i : ℕ) (only : OnlyMoves host later i new) where
      -- what another worker's shards and clock still are
      shard_back : (j s : ℕ) → j ≢ i → s % length new.workers ≡ j → (shard_at new s).moved ≡ (shard_at later s).moved
      shard_back j s apart own = only.foreign s (λ same. apart (sym (subst (λ (n : ℕ). s % n ≡ j) only.keeps.workers own) ∙ same))

      through_on : (j : ℕ) → j ≢ i → IsThroughMoves host later j → IsThroughMoves host new j
      through_on j apart through = record {
        running = only.others j apart ∙ through.running;
        moved = λ s within own. shard_back j s apart own
            ∙ through.moved s (subst (λ (n : ℕ). s < n) only.keeps.shards within) (subst (λ (n : ℕ). s % n ≡ j) only.keeps.workers own);
      }

      before_on : (j : ℕ) → j ≢ i → IsBeforeMoves host later j → IsBeforeMoves host new j
      before_on j apart before = record {
        running = only.others j apart ∙ before.running;
        still = λ s within own. shard_back j s apart own
            ∙ before.still s (subst (λ (n : ℕ). s < n) only.keeps.shards within) (subst (λ (n : ℕ). s % n ≡ j) only.keeps.workers own);
      }

      stuck_on : (j : ℕ) → j ≢ i → IsStuckInMoves host later j → IsStuckInMoves host new j
      stuck_on j apart stuck =
          let own : stuck.left.0 % length new.workers ≡ j = subst (λ (n : ℕ). stuck.left.0 % n ≡ j) (sym only.keeps.workers) stuck.left.2 in
          record {
            stuck = only.others j apart ∙ stuck.stuck;
            left = (
              stuck.left.0,
              subst (λ (n : ℕ). stuck.left.0 < n) (sym only.keeps.shards) stuck.left.1,
              own,
              shard_back j stuck.left.0 apart own ∙ stuck.left.3,
            );
          }

      either_on : (j : ℕ) → j ≢ i → IsThroughMoves host later j ⊎ IsStuckInMoves host later j → IsThroughMoves host new j ⊎ IsStuckInMoves host new j
      either_on j apart (inl through) = inl (through_on j apart through)
      either_on j apart (inr stuck) = inr (stuck_on j apart stuck)

    -- an end that was told of a worker below this one is told still
    told-still : (later new : World C) (i : ℕ) → OnlyMoves host later i new → (end : ClockEnd) → TellsEnd later (Some end) i → TellsEnd new (Some end) (suc i)
    told-still later new i only end told = (
      omega (arith, told.0),
      told.1,
      stuck_on later new i only end.worker (λ same. omega (arith, told.0, same)) told.2,
      λ j less. through_on later new i only j (λ same. omega (arith, less, told.0, same)) (told.3 j less),
    )

    -- Behind the next worker it is so still.
    pub all_next : (later new : World C) (i : ℕ) (first end : Option ClockEnd) → i < length world.workers → AllBelow later first i → EndsOwn host later i new end
        → AllBelow new (first_of first end) (suc i)
    all_next later new i first None within below moved = record {
      keeps = keeps_turned-then world later new below.keeps moved.0.keeps;
      before = λ j less there. before j (cases_eq j i) less there;
      behind = λ j above there. before_on later new i moved.0 j (λ same. omega (arith, above, same)) (below.behind j (omega (arith, above)) there);
      tells = tells first below.tells;
    }
      where
        before : (j : ℕ) → (j ≡ i) ⊎ (j ≡ i → ⊥) → j < suc i → j < length world.workers → IsThroughMoves host new j ⊎ IsStuckInMoves host new j
        before j (inl same) less there = inl (subst (IsThroughMoves host new) (sym same) moved.1)
        before j (inr apart) less there = either_on later new i moved.0 j apart (below.before j (omega (arith, less, apart)) there)

        through : ((j : ℕ) → j < i → j < length world.workers → IsThroughMoves host later j) → (j : ℕ) → (j ≡ i) ⊎ (j ≡ i → ⊥) → j < suc i → j < length world.workers → IsThroughMoves host new j
        through all j (inl same) less there = subst (IsThroughMoves host new) (sym same) moved.1
        through all j (inr apart) less there = through_on later new i moved.0 j apart (all j (omega (arith, less, apart)) there)

        tells : (first : Option ClockEnd) → TellsEnd later first i → TellsEnd new (first_of first None) (suc i)
        tells None all = λ j less there. through all j (cases_eq j i) less there
        tells (Some end) some = told-still later new i moved.0 end some
    all_next later new i first (Some end) within below moved = record {
      keeps = keeps_turned-then world later new below.keeps moved.0.keeps;
      before = λ j less there. before j (cases_eq j i) less there;
      behind = λ j above there. before_on later new i moved.0 j (λ same. omega (arith, above, same)) (below.behind j (omega (arith, above)) there);
      tells = tells first below.tells;
    }
      where
        before : (j : ℕ) → (j ≡ i) ⊎ (j ≡ i → ⊥) → j < suc i → j < length world.workers → IsThroughMoves host new j ⊎ IsStuckInMoves host new j
        before j (inl same) less there = inr (subst (IsStuckInMoves host new) (sym same) moved.1)
        before j (inr apart) less there = either_on later new i moved.0 j apart (below.before j (omega (arith, less, apart)) there)

        tells : (first : Option ClockEnd) → TellsEnd later first i → TellsEnd new (first_of first (Some end)) (suc i)
        tells None all = (
          omega (arith, moved.2),
          omega (arith, moved.2, within),
          subst (IsStuckInMoves host new) (sym moved.2) moved.1,
          λ j less. through_on later new i moved.0 j (λ same. omega (arith, less, same, moved.2))
              (all j (omega (arith, less, moved.2)) (omega (arith, less, moved.2, within))),
        )
        tells (Some earlier) some = told-still later new i moved.0 earlier some
