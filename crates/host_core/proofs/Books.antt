-- What the laws follow of a world: the log, the clock and the number served of each worker, the shards, the phase, and of a
-- rolling host the newest epoch and what is scanned. What an event changes of these: nothing, or what a request, a moved or
-- scanned shard, an advanced clock, an opened phase, or a raised or noted epoch does.
use Rattle.std.proofs.Common.{◌≡◌, ◌⊎◌, ℕ, zero, suc, ◌+◌, ◌<◌, ◌≤◌, ◌==◌, ◌%◌, max, Bool, true, false, List, [], ◌∷◌, ◌++◌, map, length, get_or, set, slice_get, Option, Some, None, refl, sym, ◌∙◌, ap, subst, inl, inr, if◌then◌else◌, arith}
use Rattle.std.proofs.lemmas.Bool.{cases_eq, ne_eqb}
use Rattle.std.proofs.lemmas.List.{map-set, length-map, length-set, get_or-set_same, get_or-set_other}
use Rattle.std.proofs.Math.Seq.{map-set_same}
use Rattle.lamport_clocks.specs.Reading.{Reading}
use Rattle.lamport_clocks.specs.Clock.{last_epoch}
use Rattle.log_codec.specs.declared.command.Command.{Command}
use Rattle.log_codec.specs.declared.command.Command.TheVariants.{NextEpoch}
use Rattle.soundness.specs.History.{Event}
use Rattle.soundness.specs.PathHistory.{path_histories_of}
use Rattle.host_core.specs.Host.{Host, Done, scheme, asked}
use Rattle.host_core.specs.World.{Worker, Seats, World, unmoved, fresh, worker_at, shard_at, logs_of, epoch_of}
use Rattle.host_core.specs.Deeds.{pending_of}
use Rattle.host_core.specs.WorldEvent.{WorldEvent, takes, loses, serves, gives, advances, moves, opens, raises, enters, scans, finishes, stops, with_worker, after_serve, after_move, after_scan, next_clock, logging, having_served, having_scanned, step, AreUpTo, AreFrom, AllMoved, HasAdvanced, IsNext, IsLast, IsRoundOver, IsEnabled}

-- ---- lists

module _ {X : Type 0} where
  -- what holds of each member, holds where one is replaced by another of which it holds, if there is one to replace
  pub every-set-in : (P : ℕ → X → Type 0) (xs : List X) (i : ℕ) (y d : X)
      → ((j : ℕ) → j < length xs → P j (get_or xs j d)) → (i < length xs → P i y)
      → (j : ℕ) → j < length (set xs i y) → P j (get_or (set xs i y) j d)
  every-set-in P xs i y d all new j within = go (cases_eq j i)
    where
      inside : j < length xs
      inside = subst (λ (n : ℕ). j < n) (length-set xs i y) within

      go : (j ≡ i) ⊎ (j ≡ i → ⊥) → P j (get_or (set xs i y) j d)
      go (inl same) =
          subst (λ (z : X). P j z)
          (sym (ap (λ (n : ℕ). get_or (set xs n y) j d) (sym same) ∙ get_or-set_same xs j y d inside))
          (subst (λ (n : ℕ). P n y) (sym same) (new (subst (λ (n : ℕ). n < length xs) same inside)))
      go (inr apart) = subst (λ (z : X). P j z) (sym (get_or-set_other xs i j y d apart)) (all j inside)

  pub every-set : (P : ℕ → X → Type 0) (xs : List X) (i : ℕ) (y d : X)
      → ((j : ℕ) → j < length xs → P j (get_or xs j d)) → P i y
      → (j : ℕ) → j < length (set xs i y) → P j (get_or (set xs i y) j d)
  every-set P xs i y d all new = every-set-in P xs i y d all (λ there. new)

  pub get_or-mapped : {Y : Type 0} (f : X → Y) (xs : List X) (i : ℕ) (d : X) → get_or (map f xs) i (f d) ≡ f (get_or xs i d)
  get_or-mapped f [] i d = refl
  get_or-mapped f (x ∷ xs) zero d = refl
  get_or-mapped f (x ∷ xs) (suc i) d = get_or-mapped f xs i d

-- ---- the books

-- what the laws follow of a worker
pub record Account : Type 0 where
  pub log : List Command
  pub clock : Reading
  pub served : ℕ

abbrev pub account_of : Worker → Account
account_of worker = record { log = worker.log; clock = worker.clock; served = worker.served }

-- what the laws follow of a world
pub record Books (C : Type 0) : Type 0 where
  pub accounts : List Account
  pub shards : List (Seats C)
  pub phase : ℕ
  pub closing : Bool
  pub newest : ℕ
  pub scanned : List ℕ

abbrev pub books_of : {C : Type 0} → World C → Books C
books_of world = record {
  accounts = map account_of world.workers;
  shards = world.shards;
  phase = world.phase;
  closing = world.closing;
  newest = world.newest;
  scanned = world.scanned;
}

abbrev pub seats_at : {C : Type 0} → Books C → ℕ → Seats C
seats_at books s = get_or books.shards s (unmoved [])

-- the account of a worker that has done more
abbrev pub with_more : Account → List Command → Reading → ℕ → Account
with_more account commands clock more = record { log = account.log ++ commands; clock = clock; served = account.served + more }

module _ {C R : Type 0} (host : Host C R) where
  abbrev pub account_at : Books C → ℕ → Account
  account_at books i = get_or books.accounts i (account_of (fresh host.header))

  abbrev pub epoch_in : Books C → ℕ
  epoch_in books = host.header.first + books.phase

  abbrev pub scanned_in : Books C → ℕ → ℕ
  scanned_in books i = get_or books.scanned i host.header.first

  -- the histories of all logs
  abbrev pub histories_in : List Account → List (List Event)
  histories_in accounts = path_histories_of (scheme host) host.header (map (λ account. account.log) accounts)

  -- a worker's account is that of the worker
  pub account_is : (world : World C) (i : ℕ) → account_at (books_of world) i ≡ account_of (worker_at host world i)
  account_is world i = get_or-mapped account_of world.workers i (fresh host.header)

  -- the logs are those of the accounts
  pub histories_are : (world : World C)
      → path_histories_of (scheme host) host.header (logs_of world) ≡ histories_in (map account_of world.workers)
  histories_are world = ap (path_histories_of (scheme host) host.header) (logs world.workers)
    where
      logs : (workers : List Worker) → map (λ worker. worker.log) workers ≡ map (λ account. account.log) (map account_of workers)
      logs [] = refl
      logs (worker ∷ workers) = ap (λ (rest : List (List Command)). worker.log ∷ rest) (logs workers)

  -- ---- what an event changes of them

  abbrev pub served_books : Books C → ℕ → Account → ℕ → ℕ → Done C → Books C
  served_books old i account s seat done = record old {
    accounts = set old.accounts i (with_more account done.commands done.clock 1);
    shards = set old.shards s (record (seats_at old s) { contents = set (seats_at old s).contents seat done.after });
  }

  -- a shard that is moved, or scanned
  abbrev pub moved_books : Books C → ℕ → Account → ℕ → Bool → Done (List C) → Books C
  moved_books old i account s moved done = record old {
    accounts = set old.accounts i (with_more account done.commands done.clock 0);
    shards = set old.shards s (record { contents = done.after; moved = moved });
  }

  -- a worker in the next epoch, in a close or in a round
  abbrev pub advanced_books : Books C → ℕ → Account → Bool → Books C
  advanced_books old i account closing = record old {
    accounts = set old.accounts i (with_more account (NextEpoch ∷ []) (next_clock account.clock) 0);
    closing = closing;
  }

  abbrev pub opened_books : Books C → Books C
  opened_books old = record old {
    shards = map (λ shard. unmoved shard.contents) old.shards;
    phase = suc old.phase;
    closing = false;
  }

  abbrev pub raised_books : Books C → Account → Books C
  raised_books old account = record old { newest = max old.newest (suc account.clock.at.epoch) }

  abbrev pub finished_books : Books C → ℕ → Account → Books C
  finished_books old i account = record old { scanned = set old.scanned i account.clock.at.epoch }

  -- each shard is moved
  abbrev pub AreMoved : Books C → Type 0
  AreMoved books = (s : ℕ) → s < length books.shards → (seats_at books s).moved ≡ true

  -- all that is asked is served, and all shards are scanned in the epoch of the last phase
  abbrev pub AreSettled : Books C → Type 0
  AreSettled books = (i : ℕ) → i < length books.accounts
      → (slice_get (asked host i) (account_at books i).served ≡ None) × (scanned_in books i ≡ epoch_in books)

  -- it is this worker's account
  pub record IsOwn (books : Books C) (i : ℕ) (account : Account) : Type 0 where
    pub there : i < length books.accounts
    pub is : account_at books i ≡ account

  pub record DidServe (old : Books C) (i : ℕ) (account : Account) (s seat : ℕ) (request : R) (done : Done C) : Type 0 where
    pub own : IsOwn old i account
    pub shard : s < length old.shards
    pub inside : seat < length (seats_at old s).contents
    pub phase : old.closing ≡ false
    pub asked_for : ℕ
    pub next : slice_get (asked host i) account.served ≡ Some (asked_for, request)
    pub begun : host.header.first + asked_for ≤ account.clock.at.epoch
    pub reached : AreUpTo account.clock.at.epoch (host.pending (get_or (seats_at old s).contents seat host.vacant))
    pub owns : host.owns s (seats_at old s).contents seat request ≡ true
    pub did : host.serve i account.clock (get_or (seats_at old s).contents seat host.vacant) request ≡ Some done

  -- a shard moved in a close
  pub record InClose (old : Books C) (account : Account) (s : ℕ) (moved : Bool) : Type 0 where
    pub closing : old.closing ≡ true
    pub turned : account.clock.at.epoch ≡ epoch_in old + 1
    pub still : (seats_at old s).moved ≡ false
    pub is : moved ≡ true

  -- a worker of a rolling host in its round
  pub record InRound (old : Books C) : Type 0 where
    pub phase : old.closing ≡ false
    pub rolling : host.rolling ≡ true

  -- a shard scanned in a round
  pub record InScan (old : Books C) (i : ℕ) (account : Account) (s : ℕ) (moved : Bool) : Type 0 where
    pub round : InRound old
    pub owner : s % length old.accounts ≡ i
    pub before : ℕ
    pub turned : account.clock.at.epoch ≡ suc before
    pub earlier : AreUpTo before (pending_of host (seats_at old s).contents)
    pub is : moved ≡ (seats_at old s).moved

  pub record DidMove (old : Books C) (i : ℕ) (account : Account) (s : ℕ) (moved : Bool) (done : Done (List C)) : Type 0 where
    pub own : IsOwn old i account
    pub shard : s < length old.shards
    pub when : InClose old account s moved ⊎ InScan old i account s moved
    pub did : host.move i account.clock s (seats_at old s).contents ≡ Some done

  -- a turn of a close
  pub record InTurn (old : Books C) (account : Account) (closing : Bool) : Type 0 where
    pub turns : (account.clock.at.epoch ≡ epoch_in old + 0) ⊎ ((account.clock.at.epoch ≡ epoch_in old + 1) × AreMoved old)
    pub settled : host.rolling ≡ true → AreSettled old
    pub is : closing ≡ true

  -- an epoch entered in a round
  pub record InEntry (old : Books C) (account : Account) (closing : Bool) : Type 0 where
    pub round : InRound old
    pub newer : account.clock.at.epoch < old.newest
    pub is : closing ≡ false

  pub record DidAdvance (old : Books C) (i : ℕ) (account : Account) (closing : Bool) : Type 0 where
    pub own : IsOwn old i account
    pub more : (account.clock.at.epoch == last_epoch) ≡ false
    pub when : InTurn old account closing ⊎ InEntry old account closing

  pub record DidOpen (old : Books C) : Type 0 where
    pub turned : (i : ℕ) → i < length old.accounts → (account_at old i).clock.at.epoch ≡ epoch_in old + 1
    pub moved : AreMoved old
    pub through : (i : ℕ) → i < length old.accounts → (request : R)
        → slice_get (asked host i) (account_at old i).served ≡ Some (old.phase, request) → ⊥
    pub more : length host.script ≤ suc old.phase → ⊥

  pub record DidRaise (old : Books C) (i : ℕ) (account : Account) : Type 0 where
    pub own : IsOwn old i account
    pub round : InRound old
    pub wanted : account.clock.at.epoch < epoch_in old
    pub scanned : (j : ℕ) → j < length old.accounts → account.clock.at.epoch ≤ scanned_in old j

  pub record DidFinish (old : Books C) (i : ℕ) (account : Account) : Type 0 where
    pub own : IsOwn old i account
    pub round : InRound old
    pub reached : (s : ℕ) → s < length old.shards → s % length old.accounts ≡ i
        → AreFrom account.clock.at.epoch (pending_of host (seats_at old s).contents)

  pub data Progress (old new : Books C) : Type 0 where
    stays : new ≡ old → Progress old new
    serves_one : (i : ℕ) (account : Account) (s seat : ℕ) (request : R) (done : Done C)
        → DidServe old i account s seat request done → new ≡ served_books old i account s seat done → Progress old new
    moves_one : (i : ℕ) (account : Account) (s : ℕ) (moved : Bool) (done : Done (List C))
        → DidMove old i account s moved done → new ≡ moved_books old i account s moved done → Progress old new
    advances_one : (i : ℕ) (account : Account) (closing : Bool)
        → DidAdvance old i account closing → new ≡ advanced_books old i account closing → Progress old new
    opens_next : DidOpen old → new ≡ opened_books old → Progress old new
    raises_newest : (i : ℕ) (account : Account) → DidRaise old i account → new ≡ raised_books old account → Progress old new
    finishes_one : (i : ℕ) (account : Account) → DidFinish old i account → new ≡ finished_books old i account → Progress old new

  -- ---- each event is one of these

  -- the books of a world with other workers and shards, in or behind a phase
  abbrev with_accounts : World C → List (Seats C) → Bool → List Account → Books C
  with_accounts world shards closing accounts = record {
    accounts = accounts;
    shards = shards;
    phase = world.phase;
    closing = closing;
    newest = world.newest;
    scanned = world.scanned;
  }

  -- a worker whose account is as it was
  kept : (world : World C) (i : ℕ) (worker : Worker) → account_of worker ≡ account_of (worker_at host world i)
      → books_of (with_worker world i worker) ≡ books_of world
  kept world i worker same =
      ap (with_accounts world world.shards world.closing)
      (map-set_same account_of world.workers i worker (fresh host.header) same)

  pub own_of : (world : World C) (i : ℕ) → i < length world.workers → IsOwn (books_of world) i (account_of (worker_at host world i))
  own_of world i within = record {
    there = subst (λ (n : ℕ). i < n) (sym (length-map world.workers account_of)) within;
    is = account_is world i;
  }

  -- a worker that has logged more, and its account
  grown : (world : World C) (i : ℕ) (shards : List (Seats C)) (closing : Bool) (later : Worker) (commands : List Command) (clock : Reading) (more : ℕ)
      → account_of later ≡ with_more (account_of (worker_at host world i)) commands clock more
      → with_accounts world shards closing (map account_of (set world.workers i later))
      ≡ with_accounts world shards closing (set (map account_of world.workers) i (with_more (account_of (worker_at host world i)) commands clock more))
  grown world i shards closing later commands clock more same =
      ap (with_accounts world shards closing)
      (map-set account_of world.workers i later ∙ ap (set (map account_of world.workers) i) same)

  none_more : (account : Account) (commands : List Command) (clock : Reading)
      → record { log = account.log ++ commands; clock = clock; served = account.served } ≡ with_more account commands clock 0
  none_more account commands clock =
      ap (λ (n : ℕ). record { log = account.log ++ commands; clock = clock; served = n }) (omega arith)

  one_more : (account : Account) (commands : List Command) (clock : Reading)
      → record { log = account.log ++ commands; clock = clock; served = suc account.served } ≡ with_more account commands clock 1
  one_more account commands clock =
      ap (λ (n : ℕ). record { log = account.log ++ commands; clock = clock; served = n }) (omega arith)

  there_of : (world : World C) (i : ℕ) → i < length (map account_of world.workers) → i < length world.workers
  there_of world i within = subst (λ (n : ℕ). i < n) (length-map world.workers account_of) within

  -- what is settled of the world is settled of its books
  settled_of : (world : World C) → IsRoundOver host world → AreSettled (books_of world)
  settled_of world over i within =
      let is = over i (there_of world i within) in
      (ap (λ (account : Account). slice_get (asked host i) account.served) (account_is world i) ∙ is.1, is.2)

  below_last : (epoch : ℕ) → epoch < last_epoch → (epoch == last_epoch) ≡ false
  below_last epoch below = ne_eqb epoch last_epoch (λ same. omega (arith, below, same))

  -- Each enabled event does one of these.
  pub progress : (world : World C) (event : WorldEvent R) → IsEnabled host world event
      → Progress (books_of world) (books_of (step host world event))
  progress world (takes i place) may = stays (kept world i _ refl)
  progress world (loses i place) may = stays refl
  progress world (serves i place request) may =
      go (host.serve i worker.clock (get_or shard.contents place.seat host.vacant) request) refl
    where
      worker : Worker
      worker = worker_at host world i

      shard : Seats C
      shard = shard_at world place.shard

      go : (o : Option (Done C)) → host.serve i worker.clock (get_or shard.contents place.seat host.vacant) request ≡ o
          → Progress (books_of world) (books_of (after_serve world i worker place shard o))
      go None is = stays (kept world i _ refl)
      go (Some done) is =
          serves_one i (account_of worker) place.shard place.seat request done
          (record {
            own = own_of world i may.serving.there;
            shard = may.there.0;
            inside = may.there.1;
            phase = may.serving.phase;
            asked_for = may.due.phase;
            next = may.due.next;
            begun = may.due.begun;
            reached = may.due.reached;
            owns = may.owns;
            did = is;
          })
          (grown world i (set world.shards place.shard (record shard { contents = set shard.contents place.seat done.after })) world.closing
          (having_served (logging worker done.commands done.clock) place) done.commands done.clock 1
          (one_more (account_of worker) done.commands done.clock))
  progress world (gives i place) may = stays (kept world i _ refl)
  progress world (advances i) may = go (worker.clock.at.epoch == last_epoch) refl
    where
      worker : Worker
      worker = worker_at host world i

      turns : HasAdvanced host world i 0 ⊎ (HasAdvanced host world i 1 × IsLast host world × AllMoved world)
          → (worker.clock.at.epoch ≡ epoch_of host world + 0) ⊎ ((worker.clock.at.epoch ≡ epoch_of host world + 1) × AllMoved world)
      turns (inl once) = inl once
      turns (inr twice) = inr (twice.0, twice.2)

      go : (b : Bool) → (worker.clock.at.epoch == last_epoch) ≡ b
          → Progress (books_of world) (books_of (if b then record world { over = true }
          else record (with_worker world i (logging worker (NextEpoch ∷ []) (next_clock worker.clock))) { closing = true }))
      go true is = stays refl
      go false is =
          advances_one i (account_of worker) true
          (record {
            own = own_of world i may.there;
            more = is;
            when = inl (record { turns = turns may.turns; settled = λ rolling. settled_of world (may.settled rolling); is = refl });
          })
          (grown world i world.shards true (logging worker (NextEpoch ∷ []) (next_clock worker.clock)) (NextEpoch ∷ []) (next_clock worker.clock) 0
          (none_more (account_of worker) (NextEpoch ∷ []) (next_clock worker.clock)))
  progress world (moves i s) may = go (host.move i worker.clock s (shard_at world s).contents) refl
    where
      worker : Worker
      worker = worker_at host world i

      go : (o : Option (Done (List C))) → host.move i worker.clock s (shard_at world s).contents ≡ o
          → Progress (books_of world) (books_of (after_move world i worker s o))
      go None is = stays (kept world i _ refl)
      go (Some done) is =
          moves_one i (account_of worker) s true done
          (record {
            own = own_of world i may.there;
            shard = may.shard;
            when = inl (record { closing = may.closing; turned = may.turned; still = may.still; is = refl });
            did = is;
          })
          (grown world i (set world.shards s (record { contents = done.after; moved = true })) world.closing
          (logging worker done.commands done.clock) done.commands done.clock 0 (none_more (account_of worker) done.commands done.clock))
  progress world opens may =
      opens_next
      (record {
        turned = λ i within. ap (λ (account : Account). account.clock.at.epoch) (account_is world i)
            ∙ may.turned i (there_of world i within);
        moved = may.moved;
        through = λ i within request next.
            served_through i request (may.through i (there_of world i within)).1 (there_of world i within)
            (subst (λ (account : Account). slice_get (asked host i) account.served ≡ Some (world.phase, request)) (account_is world i) next);
        more = λ last. may.more (inl last);
      }) refl
    where
      served_through : (i : ℕ) (request : R)
          → ((worker_at host world i).stopped ≡ true) ⊎ ((request : R) → IsNext host world i request → ⊥)
          → i < length world.workers → IsNext host world i request → ⊥
      served_through i request (inl stopped) within next = may.more (inr (i, within, stopped))
      served_through i request (inr through) within next = through request next
  progress world (raises i) may =
      raises_newest i (account_of (worker_at host world i))
      (record {
        own = own_of world i may.rolling.serving.there;
        round = record { phase = may.rolling.serving.phase; rolling = may.rolling.rolling };
        wanted = may.wanted;
        scanned = λ j within. may.scanned j (there_of world j within);
      }) refl
  progress world (enters i) may =
      advances_one i (account_of worker) world.closing
      (record {
        own = own_of world i may.rolling.serving.there;
        more = below_last worker.clock.at.epoch may.more;
        when = inr (record {
          round = record { phase = may.rolling.serving.phase; rolling = may.rolling.rolling };
          newer = may.newer;
          is = may.rolling.serving.phase;
        });
      })
      (grown world i world.shards world.closing (logging worker (NextEpoch ∷ []) (next_clock worker.clock)) (NextEpoch ∷ []) (next_clock worker.clock) 0
      (none_more (account_of worker) (NextEpoch ∷ []) (next_clock worker.clock)))
    where
      worker : Worker
      worker = worker_at host world i
  progress world (scans i place) may = go (host.move i worker.clock place.shard shard.contents) refl
    where
      worker : Worker
      worker = worker_at host world i

      shard : Seats C
      shard = shard_at world place.shard

      go : (o : Option (Done (List C))) → host.move i worker.clock place.shard shard.contents ≡ o
          → Progress (books_of world) (books_of (after_scan world i worker place shard o))
      go None is = stays (kept world i _ refl)
      go (Some done) is =
          moves_one i (account_of worker) place.shard shard.moved done
          (record {
            own = own_of world i may.rolling.serving.there;
            shard = may.shard;
            when = inr (record {
              round = record { phase = may.rolling.serving.phase; rolling = may.rolling.rolling };
              owner = ap (λ (n : ℕ). place.shard % n) (length-map world.workers account_of) ∙ may.own;
              before = may.before;
              turned = may.turned;
              earlier = may.earlier;
              is = refl;
            });
            did = is;
          })
          (grown world i (set world.shards place.shard (record shard { contents = done.after })) world.closing
          (having_scanned (logging worker done.commands done.clock) place)
          done.commands done.clock 0 (none_more (account_of worker) done.commands done.clock))
  progress world (finishes i) may =
      finishes_one i (account_of (worker_at host world i))
      (record {
        own = own_of world i may.rolling.serving.there;
        round = record { phase = may.rolling.serving.phase; rolling = may.rolling.rolling };
        reached = λ s within owner. may.reached s within (ap (λ (n : ℕ). s % n) (sym (length-map world.workers account_of)) ∙ owner);
      }) refl
  progress world (stops i found) may = stays (kept world i _ refl)
