-- Workers move their shards, each in its order, in whatever order among them.
use Rattle.std.proofs.Common.{◌≡◌, ◌≢◌, ◌⊎◌, ℕ, zero, suc, ◌+◌, ◌*◌, ◌/◌, ◌%◌, ◌<◌, ◌≤◌, ◌==◌, Bool, true, false, List, [], ◌∷◌, ◌++◌, length, slice_get, Option, Some, None, refl, sym, ◌∙◌, ap, subst, inl, inr, if◌then◌else◌, append_assoc, append-nil, length-append, mul-le-mul_right, arith}
use Rattle.std.specs.List.{flat_map}
use Rattle.std.proofs.lemmas.Bool.{cases_eq, cases_lt, eq-eqb, ne_eqb}
use Rattle.std.proofs.lemmas.Grind.{flat_map-append}
use Rattle.std.proofs.lemmas.Nat.{mod-mul-add, div-mul-add, div-add-mod'}
use Rattle.std.proofs.lemmas.Option.{slice_get_past, slice_get-get_or}
use Rattle.std.proofs.lemmas.List.{length-set, get_or-set_same, get_or-set_other}
use Rattle.lamport_clocks.specs.Reading.{Reading}
use Rattle.log_codec.specs.declared.command.Command.{Command}
use Rattle.host_core.specs.Host.{Host, Done}
use Rattle.host_core.specs.World.{Worker, Seats, World, unmoved, fresh, worker_at, shard_at, epoch_of}
use Rattle.host_core.specs.WorldEvent.{WorldEvent, moves, after_move, step, MayMove, AreEnabled, run_events}
use Rattle.host_core.proofs.EventLaws.{enabled-append, run-append}
use Rattle.host_order.specs.Close.{Moves, moves_of, MovesKeepEpoch, last_clock, AreMoves, move_events, all_move_events, seats_after}

-- ---- lists and numbers

module _ {X : Type 0} where
  slice_get-last : (xs : List X) (x : X) → slice_get (xs ++ x ∷ []) (length xs) ≡ Some x
  slice_get-last [] x = refl
  slice_get-last (y ∷ xs) x = slice_get-last xs x

  slice_get-not_last : (xs : List X) (x : X) (k : ℕ) → k ≢ length xs → slice_get (xs ++ x ∷ []) k ≡ slice_get xs k
  slice_get-not_last [] x zero apart = absurd (apart refl)
  slice_get-not_last [] x (suc k) apart = refl
  slice_get-not_last (y ∷ xs) x zero apart = refl
  slice_get-not_last (y ∷ xs) x (suc k) apart = slice_get-not_last xs x k (λ same. apart (ap suc same))

-- a shard of a worker's own stands before the k-th
pub before_own : (t k i n : ℕ) → t < k * n + i → t % n ≡ i → t / n < k
before_own t k i n below own = go (cases_lt (t / n) k)
  where
    go : (t / n < k) ⊎ (k ≤ t / n) → t / n < k
    go (inl less) = less
    go (inr above) = absurd (omega (arith, below, own, div-add-mod' t n, mul-le-mul_right n above))

-- a value of one number replaced
abbrev pub update : {X : Type 0} → (ℕ → X) → ℕ → X → ℕ → X
update f i x = λ j. if j == i then x else f j

module _ {X : Type 0} (f : ℕ → X) (i : ℕ) (x : X) where
  pub update-same : update f i x i ≡ x
  update-same = ap (λ (b : Bool). if b then x else f i) (eq-eqb i i refl)

  pub update-other : (j : ℕ) → j ≢ i → update f i x j ≡ f j
  update-other j apart = ap (λ (b : Bool). if b then x else f j) (ne_eqb j i apart)

module _ {C : Type 0} where
  -- the clock behind one move more
  last_clock-more : (clock : Reading) (dones : List (Done (List C))) (done : Done (List C)) → last_clock clock (dones ++ done ∷ []) ≡ done.clock
  last_clock-more clock [] done = refl
  last_clock-more clock (one ∷ dones) done = last_clock-more one.clock dones done

  abbrev pub commands_of : List (Done (List C)) → List Command
  commands_of dones = flat_map (λ done. done.commands) dones

  commands-more : (dones : List (Done (List C))) (done : Done (List C)) → commands_of (dones ++ done ∷ []) ≡ commands_of dones ++ done.commands
  commands-more dones done =
      flat_map-append (λ (done : Done (List C)). done.commands) dones (done ∷ [])
      ∙ ap (λ (zs : List Command). commands_of dones ++ zs) (append-nil done.commands)

  -- a worker that has moved these shards
  abbrev pub moved_worker : Worker → List (Done (List C)) → Bool → Worker
  moved_worker worker dones stuck = record worker { log = worker.log ++ commands_of dones; clock = last_clock worker.clock dones; stuck = stuck }

-- ---- the world behind moves

module _ {C R : Type 0} (host : Host C R) (base : World C) where
  abbrev workers : ℕ
  workers = length base.workers

  -- all have advanced, and none has moved a shard
  pub record IsMoveBase : Type 0 where
    pub going : base.over ≡ false
    pub closing : base.closing ≡ true
    pub epochs : (i : ℕ) → i < length base.workers → (worker_at host base i).clock.at.epoch ≡ epoch_of host base + 1
    pub running : (i : ℕ) → i < length base.workers → (worker_at host base i).stuck ≡ false
    pub still : (s : ℕ) → s < length base.shards → (shard_at base s).moved ≡ false

  -- The workers have made these moves, and the clocks of some have ended then.
  pub record HaveMoved (later : World C) (dones : ℕ → List (Done (List C))) (flags : ℕ → Bool) : Type 0 where
    pub worker : (i : ℕ) → i < length base.workers → worker_at host later i ≡ moved_worker (worker_at host base i) (dones i) (flags i)
    pub shards : (s : ℕ) → s < length base.shards
        → shard_at later s ≡ seats_after (shard_at base s) (slice_get (dones (s % length base.workers)) (s / length base.workers))
    pub epochs : (i : ℕ) → i < length base.workers → (last_clock (worker_at host base i).clock (dones i)).at.epoch ≡ epoch_of host base + 1
    pub going : later.over ≡ false
    pub closing : later.closing ≡ true
    pub phase : later.phase ≡ base.phase
    pub count : length later.workers ≡ length base.workers
    pub shard_count : length later.shards ≡ length base.shards
    pub words : (later.newest ≡ base.newest) × (later.scanned ≡ base.scanned)

  pub none_moved : IsMoveBase → HaveMoved base (λ i. []) (λ i. false)
  none_moved is = record {
    worker = λ i within. fresh_is (worker_at host base i) (is.running i within);
    shards = λ s within. refl;
    epochs = is.epochs;
    going = is.going;
    closing = is.closing;
    phase = refl;
    count = refl;
    shard_count = refl;
    words = (refl, refl);
  }
    where
      fresh_is : (w : Worker) → w.stuck ≡ false → w ≡ moved_worker {C = C} w [] false
      fresh_is w running =
          ap (λ (log : List Command). record { log = log; clock = w.clock; served = w.served; holds = w.holds; stopped = w.stopped; stuck = w.stuck }) (sym (append-nil w.log))
          ∙ ap (λ (b : Bool). record { log = w.log ++ []; clock = w.clock; served = w.served; holds = w.holds; stopped = w.stopped; stuck = b }) running

  module _ (is : IsMoveBase) (keeps : MovesKeepEpoch host) (later : World C) (dones : ℕ → List (Done (List C))) (flags : ℕ → Bool)
      (moved : HaveMoved later dones flags) (i : ℕ) (there : i < length base.workers) (running : flags i ≡ false)
      (s : ℕ) (shard : s < length base.shards) (at : s ≡ length (dones i) * length base.workers + i) where
    -- the next shard of the worker
    own : s % length base.workers ≡ i
    own = ap (λ (n : ℕ). n % length base.workers) at ∙ mod-mul-add (length (dones i)) (length base.workers) i there

    rank : s / length base.workers ≡ length (dones i)
    rank = ap (λ (n : ℕ). n / length base.workers) at ∙ div-mul-add (length (dones i)) (length base.workers) i there

    own_done : slice_get (dones (s % length base.workers)) (s / length base.workers) ≡ None
    own_done = ap (λ (n : ℕ). slice_get (dones n) (s / length base.workers)) own
        ∙ ap (slice_get (dones i)) rank ∙ slice_get_past (dones i) (length (dones i)) (omega arith)

    pub shard_is : shard_at later s ≡ shard_at base s
    shard_is = moved.shards s shard ∙ ap (seats_after (shard_at base s)) own_done

    pub clock_is : (worker_at host later i).clock ≡ last_clock (worker_at host base i).clock (dones i)
    clock_is = ap (λ (w : Worker). w.clock) (moved.worker i there)

    -- It may be moved.
    pub may_move : MayMove host later i s
    may_move = record {
      going = moved.going;
      closing = moved.closing;
      there = subst (λ (n : ℕ). i < n) (sym moved.count) there;
      shard = subst (λ (n : ℕ). s < n) (sym moved.shard_count) shard;
      turned = ap (λ (c : Reading). c.at.epoch) clock_is ∙ moved.epochs i there ∙ ap (λ (n : ℕ). (host.header.first + n) + 1) (sym moved.phase);
      running = ap (λ (w : Worker). w.stuck) (moved.worker i there) ∙ running;
      own = ap (λ (n : ℕ). s % n) moved.count ∙ own;
      still = ap (λ (z : Seats C). z.moved) shard_is ∙ is.still s shard;
      in_order = λ t below whose. front t below (ap (λ (n : ℕ). t % n) (sym moved.count) ∙ whose);
    }
      where
        front : (t : ℕ) → t < s → t % length base.workers ≡ i → (shard_at later t).moved ≡ true
        front t below whose =
            let less : t / length base.workers < length (dones i) = before_own t (length (dones i)) i (length base.workers) (subst (λ (n : ℕ). t < n) at below) whose in
            ap (λ (z : Seats C). z.moved) (moved.shards t (omega (arith, below, shard)))
            ∙ ap (λ (n : ℕ). (seats_after (shard_at base t) (slice_get (dones n) (t / length base.workers))).moved) whose
            ∙ some_there (dones i) (t / length base.workers) less
          where
            some_there : (xs : List (Done (List C))) (k : ℕ) → k < length xs → (seats_after (shard_at base t) (slice_get xs k)).moved ≡ true
            some_there [] k less = absurd (omega (arith, less))
            some_there (x ∷ xs) k less = ap (λ (o : Option (Done (List C))). (seats_after (shard_at base t) o).moved) (slice_get-get_or (x ∷ xs) k x less)

    -- what the event does, by what the host makes of the shard
    made_is : step host later (moves i s)
        ≡ after_move later i (worker_at host later i) s (host.move i (last_clock (worker_at host base i).clock (dones i)) s (shard_at base s).contents)
    made_is =
        ap (λ (c : Reading). after_move later i (worker_at host later i) s (host.move i c s (shard_at later s).contents)) clock_is
        ∙ ap (λ (z : Seats C). after_move later i (worker_at host later i) s (host.move i (last_clock (worker_at host base i).clock (dones i)) s z.contents)) shard_is

    -- Behind a move, the worker has made one more.
    pub move_made : (done : Done (List C))
        → host.move i (last_clock (worker_at host base i).clock (dones i)) s (shard_at base s).contents ≡ Some done
        → HaveMoved (step host later (moves i s)) (update dones i (dones i ++ done ∷ [])) flags
    move_made done did = subst (λ (w : World C). HaveMoved w (update dones i (dones i ++ done ∷ [])) flags) (sym step_is) have
      where
        next : World C
        next = after_move later i (worker_at host later i) s (Some done)

        step_is : step host later (moves i s) ≡ next
        step_is = made_is ∙ ap (after_move later i (worker_at host later i) s) did

        worker' : Worker
        worker' = record (worker_at host later i) { log = (worker_at host later i).log ++ done.commands; clock = done.clock }

        more : ℕ → List (Done (List C))
        more = update dones i (dones i ++ done ∷ [])

        own_worker : worker' ≡ moved_worker (worker_at host base i) (dones i ++ done ∷ []) (flags i)
        own_worker =
            ap (λ (w : Worker). record w { log = w.log ++ done.commands; clock = done.clock }) (moved.worker i there)
            ∙ ap (λ (log : List Command). record (moved_worker (worker_at host base i) (dones i) (flags i)) { log = log; clock = done.clock })
            (append_assoc (worker_at host base i).log (commands_of (dones i)) done.commands
            ∙ ap (λ (zs : List Command). (worker_at host base i).log ++ zs) (sym (commands-more (dones i) done)))
            ∙ ap (λ (c : Reading). record (moved_worker (worker_at host base i) (dones i ++ done ∷ []) (flags i)) { clock = c })
            (sym (last_clock-more (worker_at host base i).clock (dones i) done))

        workers_after : (j : ℕ) → (j ≡ i) ⊎ (j ≡ i → ⊥) → j < length base.workers → worker_at host next j ≡ moved_worker (worker_at host base j) (more j) (flags j)
        workers_after j (inl same) within =
            ap (worker_at host next) same
            ∙ get_or-set_same later.workers i worker' (fresh host.header) (subst (λ (n : ℕ). i < n) (sym moved.count) there)
            ∙ own_worker
            ∙ ap (λ (zs : List (Done (List C))). moved_worker (worker_at host base i) zs (flags i)) (sym (update-same dones i (dones i ++ done ∷ [])))
            ∙ ap (λ (n : ℕ). moved_worker (worker_at host base n) (more n) (flags n)) (sym same)
        workers_after j (inr apart) within =
            get_or-set_other later.workers i j worker' (fresh host.header) apart
            ∙ moved.worker j within
            ∙ ap (λ (zs : List (Done (List C))). moved_worker (worker_at host base j) zs (flags j)) (sym (update-other dones i (dones i ++ done ∷ []) j apart))

        -- the moves of a shard's worker, at the shard's rank
        done_at : ℕ → (ℕ → List (Done (List C))) → Option (Done (List C))
        done_at t ds = slice_get (ds (t % length base.workers)) (t / length base.workers)

        done_own : done_at s more ≡ Some done
        done_own =
            ap (λ (n : ℕ). slice_get (more n) (s / length base.workers)) own
            ∙ ap (λ (zs : List (Done (List C))). slice_get zs (s / length base.workers)) (update-same dones i (dones i ++ done ∷ []))
            ∙ ap (slice_get (dones i ++ done ∷ [])) rank
            ∙ slice_get-last (dones i) done

        done_other : (t : ℕ) → t ≢ s → done_at t more ≡ done_at t dones
        done_other t apart = go (cases_eq (t % length base.workers) i)
          where
            go : (t % length base.workers ≡ i) ⊎ (t % length base.workers ≡ i → ⊥) → done_at t more ≡ done_at t dones
            go (inl whose) =
                ap (λ (n : ℕ). slice_get (more n) (t / length base.workers)) whose
                ∙ ap (λ (zs : List (Done (List C))). slice_get zs (t / length base.workers)) (update-same dones i (dones i ++ done ∷ []))
                ∙ slice_get-not_last (dones i) done (t / length base.workers)
                (λ same. apart (sym (div-add-mod' t (length base.workers))
                ∙ ap (λ (n : ℕ). n * length base.workers + t % length base.workers) same
                ∙ ap (λ (n : ℕ). length (dones i) * length base.workers + n) whose ∙ sym at))
                ∙ ap (λ (n : ℕ). slice_get (dones n) (t / length base.workers)) (sym whose)
            go (inr another) = ap (λ (zs : List (Done (List C))). slice_get zs (t / length base.workers)) (update-other dones i (dones i ++ done ∷ []) (t % length base.workers) another)

        shards_after : (t : ℕ) → (t ≡ s) ⊎ (t ≡ s → ⊥) → t < length base.shards → shard_at next t ≡ seats_after (shard_at base t) (done_at t more)
        shards_after t (inl same) within =
            ap (shard_at next) same
            ∙ get_or-set_same later.shards s (record { contents = done.after; moved = true }) (unmoved []) (subst (λ (n : ℕ). s < n) (sym moved.shard_count) shard)
            ∙ sym (ap (seats_after (shard_at base s)) done_own)
            ∙ ap (λ (n : ℕ). seats_after (shard_at base n) (done_at n more)) (sym same)
        shards_after t (inr apart) within =
            get_or-set_other later.shards s t (record { contents = done.after; moved = true }) (unmoved []) apart
            ∙ moved.shards t within
            ∙ ap (seats_after (shard_at base t)) (sym (done_other t apart))

        epochs_after : (j : ℕ) → (j ≡ i) ⊎ (j ≡ i → ⊥) → j < length base.workers → (last_clock (worker_at host base j).clock (more j)).at.epoch ≡ epoch_of host base + 1
        epochs_after j (inl same) within =
            ap (λ (n : ℕ). (last_clock (worker_at host base n).clock (more n)).at.epoch) same
            ∙ ap (λ (zs : List (Done (List C))). (last_clock (worker_at host base i).clock zs).at.epoch) (update-same dones i (dones i ++ done ∷ []))
            ∙ ap (λ (c : Reading). c.at.epoch) (last_clock-more (worker_at host base i).clock (dones i) done)
            ∙ keeps i (last_clock (worker_at host base i).clock (dones i)) s (shard_at base s).contents done did
            ∙ moved.epochs i there
        epochs_after j (inr apart) within =
            ap (λ (zs : List (Done (List C))). (last_clock (worker_at host base j).clock zs).at.epoch) (update-other dones i (dones i ++ done ∷ []) j apart)
            ∙ moved.epochs j within

        have : HaveMoved next more flags
        have = record {
          worker = λ j within. workers_after j (cases_eq j i) within;
          shards = λ t within. shards_after t (cases_eq t s) within;
          epochs = λ j within. epochs_after j (cases_eq j i) within;
          going = moved.going;
          closing = moved.closing;
          phase = moved.phase;
          count = length-set later.workers i worker' ∙ moved.count;
          shard_count = length-set later.shards s (record { contents = done.after; moved = true }) ∙ moved.shard_count;
          words = moved.words;
        }

    -- Where the worker's clock would pass its end, that is all that is told.
    pub move_stuck : host.move i (last_clock (worker_at host base i).clock (dones i)) s (shard_at base s).contents ≡ None
        → HaveMoved (step host later (moves i s)) dones (update flags i true)
    move_stuck did = subst (λ (w : World C). HaveMoved w dones (update flags i true)) (sym step_is) have
      where
        next : World C
        next = after_move later i (worker_at host later i) s None

        step_is : step host later (moves i s) ≡ next
        step_is = made_is ∙ ap (after_move later i (worker_at host later i) s) did

        worker' : Worker
        worker' = record (worker_at host later i) { stuck = true }

        workers_after : (j : ℕ) → (j ≡ i) ⊎ (j ≡ i → ⊥) → j < length base.workers
            → worker_at host next j ≡ moved_worker (worker_at host base j) (dones j) (update flags i true j)
        workers_after j (inl same) within =
            ap (worker_at host next) same
            ∙ get_or-set_same later.workers i worker' (fresh host.header) (subst (λ (n : ℕ). i < n) (sym moved.count) there)
            ∙ ap (λ (w : Worker). record w { stuck = true }) (moved.worker i there)
            ∙ ap (moved_worker (worker_at host base i) (dones i)) (sym (update-same flags i true))
            ∙ ap (λ (n : ℕ). moved_worker (worker_at host base n) (dones n) (update flags i true n)) (sym same)
        workers_after j (inr apart) within =
            get_or-set_other later.workers i j worker' (fresh host.header) apart
            ∙ moved.worker j within
            ∙ ap (moved_worker (worker_at host base j) (dones j)) (sym (update-other flags i true j apart))

        have : HaveMoved next dones (update flags i true)
        have = record {
          worker = λ j within. workers_after j (cases_eq j i) within;
          shards = moved.shards;
          epochs = moved.epochs;
          going = moved.going;
          closing = moved.closing;
          phase = moved.phase;
          count = length-set later.workers i worker' ∙ moved.count;
          shard_count = moved.shard_count;
          words = moved.words;
        }

  -- ---- one worker's moves, and those of all

  -- the same moves, told by other functions
  retold : (later : World C) (dones others : ℕ → List (Done (List C))) (flags signs : ℕ → Bool) → ((i : ℕ) → dones i ≡ others i) → ((i : ℕ) → flags i ≡ signs i)
      → HaveMoved later dones flags → HaveMoved later others signs
  retold later dones others flags signs same_dones same_flags moved =
      subst (λ (ds : ℕ → List (Done (List C))). HaveMoved later ds signs) (λ k i. same_dones i k)
      (subst (λ (fs : ℕ → Bool). HaveMoved later dones fs) (λ k i. same_flags i k) moved)

  -- what a list of moves leads to
  abbrev pub Lead : World C → (ℕ → List (Done (List C))) → (ℕ → Bool) → List (WorldEvent R) → Type 0
  Lead later dones flags events = AreEnabled host later events × HaveMoved (run_events host later events) dones flags

  module _ (is : IsMoveBase) (keeps : MovesKeepEpoch host) (i : ℕ) (there : i < length base.workers) where
    -- The rest of a worker's moves.
    pub one_moves : (later : World C) (dones : ℕ → List (Done (List C))) (flags : ℕ → Bool) (s : ℕ) (rest : List (Done (List C))) (stuck : Bool)
        → HaveMoved later dones flags → flags i ≡ false → s ≡ length (dones i) * length base.workers + i
        → AreMoves host base i s (last_clock (worker_at host base i).clock (dones i)) rest stuck
        → Lead later (update dones i (dones i ++ rest)) (update flags i stuck) (move_events (length base.workers) i s rest stuck)
    one_moves later dones flags s [] false moved running at told = (
      tt,
      retold later dones (update dones i (dones i ++ [])) flags (update flags i false)
          (λ j. same_list j (cases_eq j i)) (λ j. same_flag j (cases_eq j i)) moved,
    )
      where
        same_list : (j : ℕ) → (j ≡ i) ⊎ (j ≡ i → ⊥) → dones j ≡ update dones i (dones i ++ []) j
        same_list j (inl same) =
            ap dones same ∙ sym (append-nil (dones i)) ∙ sym (update-same dones i (dones i ++ []))
            ∙ ap (update dones i (dones i ++ [])) (sym same)
        same_list j (inr apart) = sym (update-other dones i (dones i ++ []) j apart)

        same_flag : (j : ℕ) → (j ≡ i) ⊎ (j ≡ i → ⊥) → flags j ≡ update flags i false j
        same_flag j (inl same) = ap flags same ∙ running ∙ sym (update-same flags i false) ∙ ap (update flags i false) (sym same)
        same_flag j (inr apart) = sym (update-other flags i false j apart)
    one_moves later dones flags s [] true moved running at told = (
      (may_move is keeps later dones flags moved i there running s told.0 at, tt),
      retold (step host later (moves i s)) dones (update dones i (dones i ++ [])) (update flags i true) (update flags i true)
          (λ j. same_list j (cases_eq j i)) (λ j. refl)
          (move_stuck is keeps later dones flags moved i there running s told.0 at told.1),
    )
      where
        same_list : (j : ℕ) → (j ≡ i) ⊎ (j ≡ i → ⊥) → dones j ≡ update dones i (dones i ++ []) j
        same_list j (inl same) =
            ap dones same ∙ sym (append-nil (dones i)) ∙ sym (update-same dones i (dones i ++ []))
            ∙ ap (update dones i (dones i ++ [])) (sym same)
        same_list j (inr apart) = sym (update-other dones i (dones i ++ []) j apart)
    one_moves later dones flags s (done ∷ rest) stuck moved running at told =
        let more = update dones i (dones i ++ done ∷ []) in
        let own : more i ≡ dones i ++ done ∷ [] = update-same dones i (dones i ++ done ∷ []) in
        let next = one_moves (step host later (moves i s)) more flags (s + length base.workers) rest stuck
        (move_made is keeps later dones flags moved i there running s told.0 at done told.1) running
        (rank_next (dones i) done s at ∙ ap (λ (zs : List (Done (List C))). length zs * length base.workers + i) (sym own))
        (subst (λ (c : Reading). AreMoves host base i (s + length base.workers) c rest stuck)
        (sym (ap (last_clock (worker_at host base i).clock) own ∙ last_clock-more (worker_at host base i).clock (dones i) done)) told.2) in (
          (may_move is keeps later dones flags moved i there running s told.0 at, next.0),
          retold _ (update more i (more i ++ rest)) (update dones i (dones i ++ done ∷ rest)) (update flags i stuck) (update flags i stuck)
              (λ j. same_list j (cases_eq j i)) (λ j. refl) next.1,
        )
      where
        rank_next : (xs : List (Done (List C))) (x : Done (List C)) (s : ℕ) → s ≡ length xs * length base.workers + i
            → s + length base.workers ≡ length (xs ++ x ∷ []) * length base.workers + i
        rank_next xs x s at =
            let longer : length (xs ++ x ∷ []) ≡ suc (length xs) = length-append xs (x ∷ []) ∙ omega arith in
            omega (arith, at, ap (λ (n : ℕ). n * length base.workers) longer)

        same_list : (j : ℕ) → (j ≡ i) ⊎ (j ≡ i → ⊥)
            → update (update dones i (dones i ++ done ∷ [])) i (update dones i (dones i ++ done ∷ []) i ++ rest) j ≡ update dones i (dones i ++ done ∷ rest) j
        same_list j (inl same) =
            ap (update (update dones i (dones i ++ done ∷ [])) i (update dones i (dones i ++ done ∷ []) i ++ rest)) same
            ∙ update-same (update dones i (dones i ++ done ∷ [])) i (update dones i (dones i ++ done ∷ []) i ++ rest)
            ∙ ap (λ (zs : List (Done (List C))). zs ++ rest) (update-same dones i (dones i ++ done ∷ []))
            ∙ append_assoc (dones i) (done ∷ []) rest
            ∙ sym (update-same dones i (dones i ++ done ∷ rest))
            ∙ ap (update dones i (dones i ++ done ∷ rest)) (sym same)
        same_list j (inr apart) =
            update-other (update dones i (dones i ++ done ∷ [])) i (update dones i (dones i ++ done ∷ []) i ++ rest) j apart
            ∙ update-other dones i (dones i ++ done ∷ []) j apart
            ∙ sym (update-other dones i (dones i ++ done ∷ rest) j apart)

  -- ---- all workers

  -- what is told of workers from one on, joined to what was told before
  abbrev pub tell : (ℕ → List (Done (List C))) → ℕ → List (Moves C) → ℕ → List (Done (List C))
  tell dones i [] = dones
  tell dones i (one ∷ close) = tell (update dones i (dones i ++ one.dones)) (suc i) close

  abbrev pub tell_stuck : (ℕ → Bool) → ℕ → List (Moves C) → ℕ → Bool
  tell_stuck flags i [] = flags
  tell_stuck flags i (one ∷ close) = tell_stuck (update flags i one.stuck) (suc i) close

  tell-below : (dones : ℕ → List (Done (List C))) (i : ℕ) (close : List (Moves C)) (j : ℕ) → j < i → tell dones i close j ≡ dones j
  tell-below dones i [] j below = refl
  tell-below dones i (one ∷ close) j below =
      tell-below (update dones i (dones i ++ one.dones)) (suc i) close j (omega (arith, below))
      ∙ update-other dones i (dones i ++ one.dones) j (λ same. omega (arith, same, below))

  tell_stuck-below : (flags : ℕ → Bool) (i : ℕ) (close : List (Moves C)) (j : ℕ) → j < i → tell_stuck flags i close j ≡ flags j
  tell_stuck-below flags i [] j below = refl
  tell_stuck-below flags i (one ∷ close) j below =
      tell_stuck-below (update flags i one.stuck) (suc i) close j (omega (arith, below))
      ∙ update-other flags i one.stuck j (λ same. omega (arith, same, below))

  pub tell-at : (dones : ℕ → List (Done (List C))) (i : ℕ) (close : List (Moves C)) (k : ℕ) → k < length close
      → ((j : ℕ) → i ≤ j → dones j ≡ []) → tell dones i close (i + k) ≡ (moves_of close k).dones
  tell-at dones i [] k within none = absurd (omega (arith, within))
  tell-at dones i (one ∷ close) zero within none =
      ap (tell (update dones i (dones i ++ one.dones)) (suc i) close) plus_zero
      ∙ tell-below (update dones i (dones i ++ one.dones)) (suc i) close i (omega arith)
      ∙ update-same dones i (dones i ++ one.dones)
      ∙ ap (λ (zs : List (Done (List C))). zs ++ one.dones) (none i (omega arith))
    where
      plus_zero : i + 0 ≡ i
      plus_zero = omega arith
  tell-at dones i (one ∷ close) (suc k) within none =
      ap (tell (update dones i (dones i ++ one.dones)) (suc i) close) plus_suc
      ∙ tell-at (update dones i (dones i ++ one.dones)) (suc i) close k (omega (arith, within))
      (λ j above. update-other dones i (dones i ++ one.dones) j (λ same. omega (arith, same, above)) ∙ none j (omega (arith, above)))
    where
      plus_suc : i + suc k ≡ suc i + k
      plus_suc = omega arith

  pub tell_stuck-at : (flags : ℕ → Bool) (i : ℕ) (close : List (Moves C)) (k : ℕ) → k < length close
      → tell_stuck flags i close (i + k) ≡ (moves_of close k).stuck
  tell_stuck-at flags i [] k within = absurd (omega (arith, within))
  tell_stuck-at flags i (one ∷ close) zero within =
      ap (tell_stuck (update flags i one.stuck) (suc i) close) plus_zero
      ∙ tell_stuck-below (update flags i one.stuck) (suc i) close i (omega arith)
      ∙ update-same flags i one.stuck
    where
      plus_zero : i + 0 ≡ i
      plus_zero = omega arith
  tell_stuck-at flags i (one ∷ close) (suc k) within =
      ap (tell_stuck (update flags i one.stuck) (suc i) close) plus_suc
      ∙ tell_stuck-at (update flags i one.stuck) (suc i) close k (omega (arith, within))
    where
      plus_suc : i + suc k ≡ suc i + k
      plus_suc = omega arith

  -- The moves of all workers, from one on.
  pub all_moves : IsMoveBase → MovesKeepEpoch host → (later : World C) (dones : ℕ → List (Done (List C))) (flags : ℕ → Bool) (i : ℕ) (close : List (Moves C))
      → i + length close ≡ length base.workers → HaveMoved later dones flags
      → ((j : ℕ) → i ≤ j → dones j ≡ []) → ((j : ℕ) → i ≤ j → flags j ≡ false)
      → ((k : ℕ) → k < length close → AreMoves host base (i + k) (i + k) (worker_at host base (i + k)).clock (moves_of close k).dones (moves_of close k).stuck)
      → Lead later (tell dones i close) (tell_stuck flags i close) (all_move_events (length base.workers) i close)
  all_moves is keeps later dones flags i [] count moved none calm told = (tt, moved)
  all_moves is keeps later dones flags i (one ∷ close) count moved none calm told =
      let there : i < length base.workers = omega (arith, count) in
      let first = one_moves is keeps i there later dones flags i one.dones one.stuck moved (calm i (omega arith))
      (sym (ap (λ (zs : List (Done (List C))). length zs * length base.workers + i) (none i (omega arith)) ∙ none_first (length base.workers)))
      (subst (λ (zs : List (Done (List C))). AreMoves host base i i (last_clock (worker_at host base i).clock zs) one.dones one.stuck) (sym (none i (omega arith)))
      (subst (λ (n : ℕ). AreMoves host base n n (worker_at host base n).clock one.dones one.stuck) plus_zero (told 0 (omega arith)))) in
      let behind = run_events host later (move_events (length base.workers) i i one.dones one.stuck) in
      let rest = all_moves is keeps behind (update dones i (dones i ++ one.dones)) (update flags i one.stuck) (suc i) close (omega (arith, count)) first.1
      (λ j above. update-other dones i (dones i ++ one.dones) j (λ same. omega (arith, same, above)) ∙ none j (omega (arith, above)))
      (λ j above. update-other flags i one.stuck j (λ same. omega (arith, same, above)) ∙ calm j (omega (arith, above)))
      (λ k within. subst (λ (n : ℕ). AreMoves host base n n (worker_at host base n).clock (moves_of close k).dones (moves_of close k).stuck) (plus_suc k) (told (suc k) (omega (arith, within)))) in (
        enabled-append host later (move_events (length base.workers) i i one.dones one.stuck) (all_move_events (length base.workers) (suc i) close) first.0 rest.0,
        subst (λ (w : World C). HaveMoved w (tell (update dones i (dones i ++ one.dones)) (suc i) close) (tell_stuck (update flags i one.stuck) (suc i) close))
            (sym (run-append host later (move_events (length base.workers) i i one.dones one.stuck) (all_move_events (length base.workers) (suc i) close)))
            rest.1,
      )
    where
      none_first : (n : ℕ) → 0 * n + i ≡ i
      none_first n = omega arith

      plus_zero : i + 0 ≡ i
      plus_zero = omega arith

      plus_suc : (k : ℕ) → i + suc k ≡ suc i + k
      plus_suc k = omega arith
