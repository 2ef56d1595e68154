-- What the code writes is what the machine's step changes.
use Rattle.std.proofs.Common.{◌≡◌, ℕ, suc, ◌+◌, ◌==◌, ◌<◌, ◌≤◌, Bool, true, false, List, [], ◌∷◌, length, get_or, set, map, replicate, take, drop, ◌++◌, if◌then◌else◌, Option, Some, None, is_some, Result, Ok, Err, OnErr, refl, sym, ◌∙◌, ap, arith}
use Rattle.std.proofs.lemmas.Bool.{false≢true, eqb-true, eq-eqb}
use Rattle.std.proofs.lemmas.List.{map-set, get_or-map, set-get_or, get_or-set_same, length-set, set-set, map-append, replicate-append-replicate, take_all, drop_all, append-nil}
use Rattle.record_text.specs.declared.request.Request.{Request}
use Rattle.host_core.specs.Host.{Done, Host}
use Rattle.host_core.specs.World.{Place, Worker, Seats, World, fresh, unmoved, worker_at, shard_at}
use Rattle.lamport_clocks.specs.Clock.{last_epoch}
use Rattle.log_codec.specs.declared.command.Command.TheVariants.{NextEpoch}
use Rattle.host_core.specs.WorldEvent.{after_serve, after_move, after_scan, after_advance, with_worker, with_shard, next_clock, logging, having_served, having_scanned}
use Rattle.host_shard.specs.Content.{Content, vacant}
use Rattle.host_world.specs.declared.seats.Seats as code
use Rattle.host_world.specs.declared.worker.Worker as worker
use Rattle.host_world.specs.Shown.{contents_of, shown_seats}
use Rattle.host_world.specs.Workers.{shown_worker}
use Rattle.host_world.specs.Doing.{HasDone, HasServed, renewed}

module _ {X Y : Type 0} (shown : X → Y) where
  -- an element that was read, as it shows
  pub read_shown : (xs : List X) (i : ℕ) (x : X) (d : Y) → i < length xs → x ≡ get_or xs i x → get_or (map shown xs) i d ≡ shown x
  read_shown xs i x d there is = get_or-map shown xs i x d there ∙ ap shown (sym is)

  -- the seat of a number behind the first
  pub hot_there : (a : Y) (xs : List X) (k seat : ℕ) (c : X) (d : Y) → suc k ≡ seat → k < length xs → get_or (a ∷ map shown (set xs k c)) seat d ≡ shown c
  hot_there a xs k seat c d is there =
      ap (λ (n : ℕ). get_or (a ∷ map shown (set xs k c)) n d) (sym is)
      ∙ get_or-map shown (set xs k c) k c d (omega (arith, there, length-set xs k c)) ∙ ap shown (get_or-set_same xs k c c there)

  pub hot_read : (a : Y) (xs : List X) (k seat : ℕ) (x : X) (d : Y) → suc k ≡ seat → k < length xs → x ≡ get_or xs k x → get_or (a ∷ map shown xs) seat d ≡ shown x
  hot_read a xs k seat x d is there at = ap (λ (n : ℕ). get_or (a ∷ map shown xs) n d) (sym is) ∙ read_shown xs k x d there at

  pub hot_set : (a : Y) (xs : List X) (k seat : ℕ) (c : X) → suc k ≡ seat → a ∷ map shown (set xs k c) ≡ set (a ∷ map shown xs) seat (shown c)
  hot_set a xs k seat c is =
      ap (λ (ys : List Y). a ∷ ys) (map-set shown xs k c) ∙ ap (λ (n : ℕ). set (a ∷ map shown xs) n (shown c)) is

  -- what shows as it was leaves all as it was
  pub set_same : (xs : List X) (i : ℕ) (x c : X) → x ≡ get_or xs i x → shown c ≡ shown x → map shown (set xs i c) ≡ map shown xs
  set_same xs i x c is same =
      map-set shown xs i c ∙ ap (set (map shown xs) i) (same ∙ ap shown is) ∙ sym (map-set shown xs i (get_or xs i x)) ∙ ap (map shown) (set-get_or xs i x)

  -- an element that was changed
  pub changed : (xs : List X) (i : ℕ) (x now : X) (d : Y) (f : Y → Y) → i < length xs → x ≡ get_or xs i x → shown now ≡ f (shown x)
      → map shown (set xs i now) ≡ set (map shown xs) i (f (get_or (map shown xs) i d))
  changed xs i x now d f there is same =
      map-set shown xs i now ∙ ap (set (map shown xs) i) (same ∙ ap f (sym (read_shown xs i x d there is)))

-- a worker that joined others like it
pub joined-worker : (items new : List worker.Worker) (now : worker.Worker) (first fresh : Worker) (k n : ℕ) → new ≡ items ++ now ∷ []
    → map shown_worker items ≡ first ∷ replicate k fresh → shown_worker now ≡ fresh → n ≡ k + 1 → map shown_worker new ≡ first ∷ replicate n fresh
joined-worker items new now first fresh k n new_is were is count =
    ap (map shown_worker) new_is
    ∙ map-append shown_worker items (now ∷ [])
    ∙ ap (λ (workers : List Worker). workers ++ shown_worker now ∷ []) were
    ∙ ap (λ (w : Worker). first ∷ (replicate k fresh ++ w ∷ [])) is
    ∙ ap (λ (workers : List Worker). first ∷ workers) (replicate-append-replicate k 1 fresh)
    ∙ ap (λ (m : ℕ). first ∷ replicate m fresh) (sym count)

-- a worker that went to the next epoch, and one for which there is none
pub after_advanced : (world : World Content) (i : ℕ) (w : Worker) → (w.clock.at.epoch ≡ last_epoch → ⊥)
    → record (with_worker world i (logging w (NextEpoch ∷ []) (next_clock w.clock))) { closing = true } ≡ after_advance world i w
after_advanced world i w other = go (w.clock.at.epoch == last_epoch) refl
  where
    go : (b : Bool) → (w.clock.at.epoch == last_epoch) ≡ b
        → record (with_worker world i (logging w (NextEpoch ∷ []) (next_clock w.clock))) { closing = true }
        ≡ (if b then record world { over = true } else record (with_worker world i (logging w (NextEpoch ∷ []) (next_clock w.clock))) { closing = true })
    go true is = absurd (other (eqb-true w.clock.at.epoch last_epoch is))
    go false is = refl

pub after_last : (world : World Content) (i : ℕ) (w : Worker) → w.clock.at.epoch ≡ last_epoch → record world { over = true } ≡ after_advance world i w
after_last world i w last =
    sym (ap (λ (b : Bool). if b then record world { over = true } else record (with_worker world i (logging w (NextEpoch ∷ []) (next_clock w.clock))) { closing = true })
    (eq-eqb w.clock.at.epoch last_epoch last))

-- a request that was served
pub after_served : (world : World Content) (i : ℕ) (place : Place) (worker now : Worker) (seats new : Seats Content) (what : Option (Done Content))
    → HasServed place what worker (get_or new.contents place.seat vacant) now
    → new.contents ≡ set seats.contents place.seat (get_or new.contents place.seat vacant) → new.moved ≡ seats.moved
    → record world { shards = set world.shards place.shard new; workers = set world.workers i now } ≡ after_serve world i worker place seats what
after_served world i place worker now seats new what has alone close =
    ap (λ (w : Worker). record world { shards = set world.shards place.shard new; workers = set world.workers i w }) has.logged
    ∙ ap (λ (s : Seats Content). record world { shards = set world.shards place.shard s; workers = set world.workers i (having_served (logging worker has.done.commands has.done.clock) place) })
    (ap (λ (contents : List Content). record { contents = contents; moved = new.moved }) (alone ∙ ap (set seats.contents place.seat) has.after_it)
    ∙ ap (λ (moved : Bool). record { contents = set seats.contents place.seat has.done.after; moved = moved }) close)
    ∙ sym (ap (after_serve world i worker place seats) has.is)

-- a shard that was taken into its worker's epoch
pub renewed_so : (host : Host Content Request) (world : World Content) (i s : ℕ) (now : Worker) (contents : List Content) (what : Option (Done (List Content)))
    → HasDone what (worker_at host world i) contents now
    → record world { shards = set world.shards s (record (shard_at world s) { contents = contents }); workers = set world.workers i now } ≡ renewed host world i s what
renewed_so host world i s now contents what has =
    ap (λ (w : Worker). record world { shards = set world.shards s (record (shard_at world s) { contents = contents }); workers = set world.workers i w }) has.logged
    ∙ ap (λ (cs : List Content). record world { shards = set world.shards s (record (shard_at world s) { contents = cs }); workers = set world.workers i (logging (worker_at host world i) has.done.commands has.done.clock) }) has.after_it
    ∙ sym (ap (renewed host world i s) has.is)

-- and that is moved then
pub then_moved : (host : Host Content Request) (world : World Content) (i s : ℕ) (what : Option (Done (List Content))) → is_some what ≡ true → s < length world.shards
    → with_shard (renewed host world i s what) s (record (shard_at (renewed host world i s what) s) { moved = true }) ≡ after_move world i (worker_at host world i) s what
then_moved host world i s None some there = absurd (false≢true some)
then_moved host world i s (Some done) some there =
    let workers = set world.workers i (logging (worker_at host world i) done.commands done.clock) in
    let after : Seats Content = record (shard_at world s) { contents = done.after } in
    ap (λ (found : Seats Content). record world { shards = set (set world.shards s after) s (record found { moved = true }); workers = workers })
    (get_or-set_same world.shards s after (unmoved []) there)
    ∙ ap (λ (shards : List (Seats Content)). record world { shards = shards; workers = workers }) (set-set world.shards s after (record after { moved = true }))

-- or scanned
pub then_scanned : (host : Host Content Request) (world : World Content) (i : ℕ) (place : Place) (what : Option (Done (List Content))) → is_some what ≡ true → i < length world.workers
    → with_worker (renewed host world i place.shard what) i (having_scanned (worker_at host (renewed host world i place.shard what) i) place)
    ≡ after_scan world i (worker_at host world i) place (shard_at world place.shard) what
then_scanned host world i place None some there = absurd (false≢true some)
then_scanned host world i place (Some done) some there =
    let shards = set world.shards place.shard (record (shard_at world place.shard) { contents = done.after }) in
    let after : Worker = logging (worker_at host world i) done.commands done.clock in
    ap (λ (found : Worker). record world { shards = shards; workers = set (set world.workers i after) i (having_scanned found place) })
    (get_or-set_same world.workers i after (fresh host.header) there)
    ∙ ap (λ (workers : List Worker). record world { shards = shards; workers = workers }) (set-set world.workers i after (having_scanned after place))

-- what is none is none
pub none_of : {X : Type 0} (what : Option X) → false ≡ is_some what → what ≡ None
none_of None is = refl
none_of (Some x) is = absurd (false≢true is)

-- a worker whose clock ended in a phase
pub after_stopped : (world : World Content) (i : ℕ) (place : Place) (worker now : Worker) (seats : Seats Content) (what : Option (Done Content))
    → what ≡ None → now ≡ record worker { stopped = true }
    → record world { workers = set world.workers i now } ≡ after_serve world i worker place seats what
after_stopped world i place worker now seats what none is =
    ap (λ (w : Worker). record world { workers = set world.workers i w }) is ∙ sym (ap (after_serve world i worker place seats) none)

-- the same of a move, and of a scan
pub not_moved : (world : World Content) (i s : ℕ) (worker : Worker) (what : Option (Done (List Content))) → is_some what ≡ false
    → with_worker world i (record worker { stuck = true }) ≡ after_move world i worker s what
not_moved world i s worker None none = refl
not_moved world i s worker (Some done) none = absurd (false≢true (sym none))

pub not_scanned : (world : World Content) (i : ℕ) (place : Place) (worker : Worker) (seats : Seats Content) (what : Option (Done (List Content))) → is_some what ≡ false
    → with_worker world i (record worker { stopped = true }) ≡ after_scan world i worker place seats what
not_scanned world i place worker seats None none = refl
not_scanned world i place worker seats (Some done) none = absurd (false≢true (sym none))

-- seats that show the same
pub same_seats : (old new : code.Seats) → contents_of new ≡ contents_of old → new.moved ≡ old.moved → shown_seats new ≡ shown_seats old
same_seats old new contents moved =
    ap (λ (cs : List Content). record { contents = cs; moved = new.moved }) contents
    ∙ ap (λ (m : Bool). record { contents = contents_of old; moved = m }) moved

-- what is put back where it was read leaves all as it was
pub put_back : {X : Type 0} (xs : List X) (i : ℕ) (x c : X) → x ≡ get_or xs i x → c ≡ x → set xs i c ≡ xs
put_back xs i x c is same = ap (set xs i) (same ∙ is) ∙ set-get_or xs i x

-- what is read again where it was put
pub read_back : {X : Type 0} (xs : List X) (i : ℕ) (c x : X) → i < length xs → x ≡ get_or (set xs i c) i x → x ≡ c
read_back xs i c x there is = is ∙ get_or-set_same xs i c x there

-- what holds, holds of an error
pub on_err : {T E P : Type 0} (r : Result T E) → P → OnErr r P
on_err (Ok value) p = tt
on_err (Err fault) p = p

-- two answers of one call are the same
pub one_answer : {E : Type 0} (r : Result Bool E) (a b : Bool) → r ≡ Ok a → r ≡ Ok b → a ≡ b
one_answer {E} r a b one two = ap answer (sym one ∙ two)
  where
    answer : Result Bool E → Bool
    answer (Ok b) = b
    answer (Err e) = false

-- seats that are not moved
abbrev pub reopened : code.Seats → code.Seats
reopened seats = record seats { moved = false }

shown-reopened : (xs : List code.Seats) → map shown_seats (map reopened xs) ≡ map (λ (seats : Seats Content). unmoved seats.contents) (map shown_seats xs)
shown-reopened [] = refl
shown-reopened (seats ∷ xs) = ap (λ (more : List (Seats Content)). unmoved (contents_of seats) ∷ more) (shown-reopened xs)

-- all seats, once each was reopened
pub reopened-all : (old new : List code.Seats) (n : ℕ) → length old ≤ n → new ≡ map reopened (take n old) ++ drop n old
    → map shown_seats new ≡ map (λ (seats : Seats Content). unmoved seats.contents) (map shown_seats old)
reopened-all old new n long is =
    ap (map shown_seats) (is ∙ ap (λ (xs : List code.Seats). map reopened xs ++ drop n old) (take_all n old long) ∙ ap (λ (xs : List code.Seats). map reopened old ++ xs) (drop_all n old long) ∙ append-nil (map reopened old))
    ∙ shown-reopened old
