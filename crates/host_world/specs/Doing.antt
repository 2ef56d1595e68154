-- What a worker of the code did, in the machine's words.
use Rattle.std.specs.Prelude.{◌≡◌, ℕ, List, Option, Some, None}
use Rattle.host_core.specs.Host.{Done, Host}
use Rattle.host_core.specs.World.{Place, Worker, World, worker_at, shard_at}
use Rattle.host_core.specs.WorldEvent.{with_worker, with_shard, logging, having_served}
use Rattle.host_shard.specs.Content.{Content}

-- The worker did this: what it had is what it made of it, and its commands joined the log.
pub record HasDone {X : Type 0} (what : Option (Done X)) (old : Worker) (after : X) (new : Worker) : Type 0 where
  pub done : Done X
  pub is : what ≡ Some done
  pub after_it : after ≡ done.after
  pub logged : new ≡ logging old done.commands done.clock

-- the same of a request, which the worker then has served at the place that it holds
pub record HasServed (place : Place) (what : Option (Done Content)) (old : Worker) (after : Content) (new : Worker) : Type 0 where
  pub done : Done Content
  pub is : what ≡ Some done
  pub after_it : after ≡ done.after
  pub logged : new ≡ having_served (logging old done.commands done.clock) place

-- The world once the worker has done this for the shard: its log has it, and the shard's places have what it made of them.
abbrev pub renewed : {C R : Type 0} → Host C R → World C → ℕ → ℕ → Option (Done (List C)) → World C
renewed host world i s None = world
renewed host world i s (Some done) =
    with_shard (with_worker world i (logging (worker_at host world i) done.commands done.clock)) s
    (record (shard_at world s) { contents = done.after })
