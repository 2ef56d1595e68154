-- What a close makes of a world with one worker: a new epoch, and behind the last one more.
use Rattle.std.proofs.Common.{◌≡◌, ℕ, zero, suc, ◌+◌, ◌%◌, ◌==◌, Bool, true, false, List, [], ◌∷◌, ◌++◌, map, length, get_or, set, Option, Some, None, is_none, if◌then◌else◌, refl, sym, ◌∙◌, ap, subst, append-nil, arith}
use Rattle.std.proofs.lemmas.Bool.{eq-eqb, cond-true}
use Rattle.std.proofs.lemmas.Option.{none-some}
use Rattle.std.proofs.lemmas.List.{length-map, length-set, map-set}
use Rattle.lamport_clocks.specs.Clock.{last_epoch}
use Rattle.log_codec.specs.declared.command.Command.TheVariants.{NextEpoch}
use Rattle.host_core.specs.Host.{Host, Done}
use Rattle.host_core.specs.World.{Worker, Seats, World, unmoved}
use Rattle.host_core.specs.WorldEvent.{WorldEvent, advances, moves, opens, MayMove, logging, after_move, next_clock, with_worker, step, run_events}
use Rattle.host_core.proofs.EventLaws.{run-append}
use Rattle.host_order.specs.Close.{MovesKeepEpoch}
use Rattle.host_world.specs.declared.fault.ClockEnd.{ClockEnd}
use Rattle.host_serving.specs.Leading.{first_end}
use Rattle.host_serving.specs.Form.{until_end, unless_ended, own_moves_from, all_advance, own_moves, all_move, events_of_shards, events_of_close}
use Rattle.one_worker.specs.Deeds.{Deed, turning, renewals, new_epoch, acts_of, IsRenewed, AreDone}
use Rattle.one_worker.proofs.EventLemmas.{Goes, goes_front, goes_behind, goes_unended, some_there, one_world, stands, seats_in, done_then, ComesTo}

-- so many shards are moved by worker 0, from one on
abbrev pub move_list : {R : Type 0} → ℕ → ℕ → List (WorldEvent R)
move_list s zero = []
move_list s (suc count) = moves 0 s ∷ move_list (suc s) count

mod_one : (s : ℕ) → s % 1 ≡ 0
mod_one s = omega arith

own_are : {R : Type 0} (count s : ℕ) → own_moves_from {R = R} 1 0 s count ≡ move_list s count
own_are zero s = refl
own_are {R} (suc count) s =
    cond-true (s % 1 == 0) (moves 0 s ∷ own_moves_from 1 0 (suc s) count) (own_moves_from 1 0 (suc s) count) (eq-eqb (s % 1) 0 (mod_one s))
    ∙ ap (λ (es : List (WorldEvent R)). moves 0 s ∷ es) (own_are count (suc s))

not_then : {X : Type 0} (b : Bool) (x : X) → ◌≡◌ {A = Option X} (if b then Some x else None) None → b ≡ false
not_then true x is = absurd (none-some x (sym is))
not_then false x is = refl

module _ {C R : Type 0} (host : Host C R) (keeps : MovesKeepEpoch host) where
  -- ---- where no clock ends

  unless_is : (world : World C) (xs : List (WorldEvent R)) (next : World C → List (WorldEvent R)) → Goes host world (unless_ended host world xs next)
      → unless_ended host world xs next ≡ xs ++ next (run_events host world xs)
  unless_is world xs next goes =
      ap (λ (e : Option ClockEnd). xs ++ (if is_none e then next (run_events host world xs) else []))
      (goes_unended host world xs (goes_front host world xs (if is_none (first_end host world xs) then next (run_events host world xs) else []) goes))

  until_is : (world : World C) (events : List (WorldEvent R)) → Goes host world (until_end host world events) → until_end host world events ≡ events
  until_is world [] goes = refl
  until_is world (event ∷ events) goes =
      ap (λ (e : Option ClockEnd). event ∷ (if is_none e then until_end host (step host world event) events else [])) goes.1
      ∙ ap (λ (es : List (WorldEvent R)). event ∷ es) (until_is (step host world event) events
      (subst (λ (e : Option ClockEnd). Goes host (step host world event) (if is_none e then until_end host (step host world event) events else [])) goes.1 goes.2))

  -- ---- one event

  module _ (base : World C) (shards : List (Seats C)) (worker : Worker) where
    abbrev pub closing_base : World C
    closing_base = record base { closing = true }

    abbrev pub advanced : Worker
    advanced = logging worker (NextEpoch ∷ []) (next_clock worker.clock)

    pub advance_is : (more : List (WorldEvent R)) → Goes host (one_world host base shards worker) (advances 0 ∷ more)
        → step host (one_world host base shards worker) (advances 0) ≡ one_world host closing_base shards advanced
    advance_is more goes =
        ap (λ (b : Bool). if b then record (one_world host base shards worker) { over = true }
        else record (with_worker (one_world host base shards worker) 0 (logging worker (NextEpoch ∷ []) (next_clock worker.clock))) { closing = true })
        (not_then (worker.clock.at.epoch == last_epoch) _ goes.1)

    -- a shard is moved
    module _ (s : ℕ) (more : List (WorldEvent R)) (goes : Goes host (one_world host base shards worker) (moves 0 s ∷ more)) where
      abbrev contents : List C
      contents = (get_or shards s (unmoved [])).contents

      found : (done : Done (List C)) × (host.move 0 worker.clock s contents ≡ Some done)
      found = some_there (host.move 0 worker.clock s contents) _ goes.1

      abbrev moved_shards : List (Seats C)
      moved_shards = set shards s (record { contents = found.0.after; moved = true })

      abbrev moved_worker : Worker
      moved_worker = logging worker found.0.commands found.0.clock

      move_is : step host (one_world host base shards worker) (moves 0 s) ≡ one_world host base moved_shards moved_worker
      move_is = ap (λ (o : Option (Done (List C))). after_move (one_world host base shards worker) 0 worker s o) found.1

      may : MayMove host (one_world host base shards worker) 0 s
      may = goes.0

      move_deed : IsRenewed (acts_of host) (stands host shards worker) s (stands host moved_shards moved_worker)
      move_deed = record {
        done = found.0;
        there = omega (arith, may.shard, length-map shards (λ (shard : Seats C). shard.contents));
        moves = ap (host.move 0 worker.clock s) (seats_in host shards s may.shard) ∙ found.1;
        is = λ k. record {
          shards = map-set (λ (shard : Seats C). shard.contents) shards s (record { contents = found.0.after; moved = true }) k;
          clock = found.0.clock;
          log = worker.log ++ found.0.commands;
        };
      }

      move_goes : Goes host (one_world host base moved_shards moved_worker) more
      move_goes = subst (λ (w : World C). Goes host w more) move_is goes.2

      move_epoch : found.0.clock.at.epoch ≡ worker.clock.at.epoch
      move_epoch = keeps 0 worker.clock s contents found.0 found.1

      move_count : length moved_shards ≡ length shards
      move_count = length-set shards s (record { contents = found.0.after; moved = true })

  -- ---- all shards

  -- A part of a close: it serves nothing, and the clock goes on by so many epochs.
  pub record CloseComesTo (base later : World C) (shards : List (Seats C)) (worker : Worker) (events : List (WorldEvent R)) (deeds : List (Deed R)) (times : ℕ) : Type 0 where
    pub comes : ComesTo host base later shards worker events deeds
    pub served : comes.worker_then.served ≡ worker.served
    pub epoch : comes.worker_then.clock.at.epoch ≡ worker.clock.at.epoch + times

  moves_come : (count s : ℕ) (base : World C) (shards : List (Seats C)) (worker : Worker) → Goes host (one_world host base shards worker) (move_list s count)
      → CloseComesTo base base shards worker (move_list s count) (renewals s count) 0
  moves_come zero s base shards worker goes = record {
    comes = record { shards_then = shards; worker_then = worker; run = refl; done = refl; count = refl; running = refl };
    served = refl;
    epoch = omega arith;
  }
  moves_come (suc count) s base shards worker goes =
      let more : List (WorldEvent R) = move_list (suc s) count in
      let rest = moves_come count (suc s) base (moved_shards base shards worker s more goes) (moved_worker base shards worker s more goes) (move_goes base shards worker s more goes) in
      record {
        comes = record {
          shards_then = rest.comes.shards_then;
          worker_then = rest.comes.worker_then;
          run = ap (λ (w : World C). run_events host w more) (move_is base shards worker s more goes) ∙ rest.comes.run;
          done = (stands host (moved_shards base shards worker s more goes) (moved_worker base shards worker s more goes), move_deed base shards worker s more goes, rest.comes.done);
          count = rest.comes.count ∙ move_count base shards worker s more goes;
          running = rest.comes.running;
        };
        served = rest.served;
        epoch = rest.epoch ∙ ap (λ (n : ℕ). n + 0) (move_epoch base shards worker s more goes);
      }

  -- ---- a close

  module _ (base : World C) (shards : List (Seats C)) (worker : Worker) (last : Bool)
      (goes : Goes host (one_world host base shards worker) (events_of_close host (one_world host base shards worker) last)) where
    abbrev world : World C
    world = one_world host base shards worker

    abbrev behind : World C → List (WorldEvent R)
    behind moved = if last then all_advance host moved else opens ∷ []

    abbrev advanced_world : World C
    advanced_world = one_world host (closing_base base shards worker) shards (advanced base shards worker)

    abbrev listed : List (WorldEvent R)
    listed = move_list 0 (length shards)

    goes_shards : Goes host world (events_of_shards host world)
    goes_shards = goes_front host world (events_of_shards host world) (if is_none (first_end host world (events_of_shards host world)) then behind (run_events host world (events_of_shards host world)) else []) goes

    goes_advance : Goes host world (all_advance host world)
    goes_advance = goes_front host world (all_advance host world) (if is_none (first_end host world (all_advance host world)) then all_move host (run_events host world (all_advance host world)) else []) goes_shards

    advance_are : all_advance host world ≡ advances 0 ∷ []
    advance_are = until_is world (advances 0 ∷ []) goes_advance

    goes_one : Goes host world (advances 0 ∷ [])
    goes_one = subst (Goes host world) advance_are goes_advance

    advance_run : run_events host world (all_advance host world) ≡ advanced_world
    advance_run = ap (run_events host world) advance_are ∙ advance_is base shards worker [] goes_one

    shards_are : events_of_shards host world ≡ advances 0 ∷ all_move host advanced_world
    shards_are = unless_is world (all_advance host world) (all_move host) goes_shards
        ∙ ap (λ (es : List (WorldEvent R)). es ++ all_move host (run_events host world (all_advance host world))) advance_are
        ∙ ap (λ (w : World C). advances 0 ∷ all_move host w) advance_run

    goes_move : Goes host advanced_world (all_move host advanced_world)
    goes_move =
        let both : Goes host world (advances 0 ∷ all_move host advanced_world) = subst (Goes host world) shards_are goes_shards in
        subst (λ (w : World C). Goes host w (all_move host advanced_world)) (advance_is base shards worker (all_move host advanced_world) both) both.2

    move_are : all_move host advanced_world ≡ listed
    move_are =
        append-nil (own_moves host advanced_world 0)
        ∙ until_is advanced_world (own_moves_from 1 0 0 (length shards)) (goes_front host advanced_world (own_moves host advanced_world 0) [] goes_move)
        ∙ own_are (length shards) 0

    shards_list : events_of_shards host world ≡ advances 0 ∷ listed
    shards_list = shards_are ∙ ap (λ (es : List (WorldEvent R)). advances 0 ∷ es) move_are

    moved : CloseComesTo (closing_base base shards worker) (closing_base base shards worker) shards (advanced base shards worker) listed (renewals 0 (length shards)) 0
    moved = moves_come (length shards) 0 (closing_base base shards worker) shards (advanced base shards worker) (subst (Goes host advanced_world) move_are goes_move)

    abbrev moved_world : World C
    moved_world = one_world host (closing_base base shards worker) moved.comes.shards_then moved.comes.worker_then

    goes_list : Goes host world (advances 0 ∷ listed)
    goes_list = subst (Goes host world) shards_list goes_shards

    shards_run : run_events host world (events_of_shards host world) ≡ moved_world
    shards_run = ap (run_events host world) shards_list
        ∙ ap (λ (w : World C). run_events host w listed) (advance_is base shards worker listed goes_list) ∙ moved.comes.run

    close_are : events_of_close host world last ≡ events_of_shards host world ++ behind (run_events host world (events_of_shards host world))
    close_are = unless_is world (events_of_shards host world) behind goes

    close_run : run_events host world (events_of_close host world last) ≡ run_events host moved_world (behind moved_world)
    close_run = ap (run_events host world) close_are
        ∙ run-append host world (events_of_shards host world) (behind (run_events host world (events_of_shards host world)))
        ∙ ap (λ (w : World C). run_events host w (behind w)) shards_run

    goes_behind_moves : Goes host moved_world (behind moved_world)
    goes_behind_moves = subst (λ (w : World C). Goes host w (behind w)) shards_run
        (goes_behind host world (events_of_shards host world) (behind (run_events host world (events_of_shards host world))) (subst (Goes host world) close_are goes))

    new_done : AreDone (acts_of host) (stands host shards worker) (new_epoch (length shards)) (stands host moved.comes.shards_then moved.comes.worker_then)
    new_done = (stands host shards (advanced base shards worker), refl, moved.comes.done)

  -- ---- the last close, and another

  module _ (base : World C) (shards : List (Seats C)) (worker : Worker) where
    -- The last close: a new epoch and one more.
    pub last_close : Goes host (one_world host base shards worker) (events_of_close host (one_world host base shards worker) true)
        → CloseComesTo base (closing_base base shards worker) shards worker (events_of_close host (one_world host base shards worker) true) (new_epoch (length shards) ++ turning ∷ []) 2
    last_close goes = record {
      comes = record {
        shards_then = parts.shards_then;
        worker_then = advanced (closing_base base shards worker) parts.shards_then parts.worker_then;
        run = close_run base shards worker true goes
            ∙ ap (run_events host (moved_world base shards worker true goes)) once_are
            ∙ advance_is (closing_base base shards worker) parts.shards_then parts.worker_then [] goes_once;
        done = done_then host (new_epoch (length shards)) (turning ∷ []) (stands host shards worker) (stands host parts.shards_then parts.worker_then)
            (stands host parts.shards_then (advanced (closing_base base shards worker) parts.shards_then parts.worker_then)) (new_done base shards worker true goes)
            (stands host parts.shards_then (advanced (closing_base base shards worker) parts.shards_then parts.worker_then), refl, refl);
        count = parts.count;
        running = parts.running;
      };
      served = (moved base shards worker true goes).served;
      epoch = let part = (moved base shards worker true goes).epoch in omega (arith, part);
    }
      where
        parts : ComesTo host (closing_base base shards worker) (closing_base base shards worker) shards (advanced base shards worker) (move_list 0 (length shards)) (renewals 0 (length shards))
        parts = (moved base shards worker true goes).comes

        once_are : all_advance host (moved_world base shards worker true goes) ≡ advances 0 ∷ []
        once_are = until_is (moved_world base shards worker true goes) (advances 0 ∷ []) (goes_behind_moves base shards worker true goes)

        goes_once : Goes host (moved_world base shards worker true goes) (advances 0 ∷ [])
        goes_once = subst (Goes host (moved_world base shards worker true goes)) once_are (goes_behind_moves base shards worker true goes)

    abbrev pub opened_base : World C
    opened_base = record base { phase = suc base.phase; closing = false }

    same_contents : (some : List (Seats C)) → map (λ (shard : Seats C). shard.contents) (map (λ (shard : Seats C). unmoved shard.contents) some) ≡ map (λ (shard : Seats C). shard.contents) some
    same_contents [] = refl
    same_contents (seats ∷ some) = ap (λ (rest : List (List C)). seats.contents ∷ rest) (same_contents some)

    -- Another close: a new epoch, and the next phase is open.
    pub other_close : Goes host (one_world host base shards worker) (events_of_close host (one_world host base shards worker) false)
        → CloseComesTo base opened_base shards worker (events_of_close host (one_world host base shards worker) false) (new_epoch (length shards)) 1
    other_close goes = record {
      comes = record {
        shards_then = map (λ (shard : Seats C). unmoved shard.contents) parts.shards_then;
        worker_then = parts.worker_then;
        run = close_run base shards worker false goes;
        done = subst (AreDone (acts_of host) (stands host shards worker) (new_epoch (length shards))) same (new_done base shards worker false goes);
        count = length-map parts.shards_then (λ (shard : Seats C). unmoved shard.contents) ∙ parts.count;
        running = parts.running;
      };
      served = (moved base shards worker false goes).served;
      epoch = let part = (moved base shards worker false goes).epoch in omega (arith, part);
    }
      where
        parts : ComesTo host (closing_base base shards worker) (closing_base base shards worker) shards (advanced base shards worker) (move_list 0 (length shards)) (renewals 0 (length shards))
        parts = (moved base shards worker false goes).comes

        same : stands host parts.shards_then parts.worker_then ≡ stands host (map (λ (shard : Seats C). unmoved shard.contents) parts.shards_then) parts.worker_then
        same = λ k. record { shards = sym (same_contents parts.shards_then) k; clock = parts.worker_then.clock; log = parts.worker_then.log }
