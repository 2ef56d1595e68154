-- The workers of the code: what they show, and the writers of their logs.
use Rattle.std.specs.Prelude.{◌≡◌, ℕ, zero, suc, List, [], ◌∷◌, length, map}
use Rattle.std.specs.Option.{option_map}
use Rattle.lamport_clocks.specs.declared.header.Header.{Header}
use Rattle.slot_rewriting.specs.declared.writer.CommandWriter.{CommandWriter}
use Rattle.slot_rewriting.specs.Writing.{opening_writer}
use Rattle.host_core.specs.World as machine
use Rattle.host_world.specs.declared.worker.Worker.{Worker}
use Rattle.host_world.specs.Places.{shown_held}

-- the machine's worker
abbrev pub shown_worker : Worker → machine.Worker
shown_worker worker = record {
  log = worker.log.commands;
  clock = worker.clock;
  served = worker.served;
  holds = option_map shown_held worker.holds;
  stopped = worker.stopped;
  stuck = worker.stuck;
}

-- the writer of the first command of its log
abbrev pub writer_in : Worker → CommandWriter
writer_in worker = worker.log.writer

-- the writers of so many logs before their first commands, of verifiers from this number on
unfoldable pub opening_writers : Header → ℕ → ℕ → List CommandWriter
opening_writers header number zero = []
opening_writers header number (suc count) = opening_writer number header ∷ opening_writers header (suc number) count

-- each worker's log is that of the verifier of its number, from the first command on
abbrev pub AreBegun : Header → List Worker → Type 0
AreBegun header workers = map writer_in workers ≡ opening_writers header 0 (length workers)
