-- What a worker's log and clock are, once it did something.
use Rattle.std.proofs.Common.{◌≡◌, ℕ, suc, true, List, ◌++◌, Some, ◌∙◌, ap}
use Rattle.lamport_clocks.specs.Reading.{Reading}
use Rattle.log_codec.specs.declared.command.Command.{Command}
use Rattle.host_core.specs.World.{Place, Worker}
use Rattle.host_core.specs.WorldEvent.{logging, having_served}

-- the worker with a deed more in its log
pub having_logged : (old : Worker) (log deed : List Command) (clock : Reading) (served : ℕ) (place : Place)
    → log ≡ old.log ++ deed → served ≡ suc old.served
    → record {
      log = log;
      clock = clock;
      served = served;
      holds = Some (record { place = place; used = true });
      stopped = old.stopped;
      stuck = old.stuck;
    } ≡ having_served (logging old deed clock) place
having_logged old log deed clock served place is counted =
    ap (λ (all : List Command). record { log = all; clock = clock; served = served; holds = Some (record { place = place; used = true }); stopped = old.stopped; stuck = old.stuck }) is
    ∙ ap (λ (n : ℕ). record { log = old.log ++ deed; clock = clock; served = n; holds = Some (record { place = place; used = true }); stopped = old.stopped; stuck = old.stuck }) counted

-- the same where it serves nothing
pub just_logged : (old : Worker) (log deed : List Command) (clock : Reading) → log ≡ old.log ++ deed
    → record {
      log = log;
      clock = clock;
      served = old.served;
      holds = old.holds;
      stopped = old.stopped;
      stuck = old.stuck;
    } ≡ logging old deed clock
just_logged old log deed clock is =
    ap (λ (all : List Command). record { log = all; clock = clock; served = old.served; holds = old.holds; stopped = old.stopped; stuck = old.stuck }) is
