-- What the verifiers' runs took in a phase.
use Rattle.std.proofs.Common.{◌≡◌, ℕ, zero, suc, ◌+◌, ◌<◌, ◌≤◌, All, List, [], ◌∷◌, map, length, get_or, subst, arith}
use Rattle.std.specs.List.{AllByRecursion}
use Rattle.record_hash.specs.Functions.{DigestFunctions}
use Rattle.lamport_clocks.specs.declared.header.Header.{Header}
use Rattle.slot_rewriting.specs.declared.writer.CommandWriter.{CommandWriter}
use Rattle.slot_rewriting.specs.Writing.{text_from, written_log, logs_written_from, written_logs}
use Rattle.verifier_run.specs.Progress.{weight}
use Rattle.certified_epochs.specs.declared.fed_run.FedRun.{FedRun}
use Rattle.host_rounds.specs.Feeding.{Reads, AllRead}
use Rattle.host_world.specs.declared.worker.Worker.{Worker}
use Rattle.host_world.specs.Workers.{shown_worker, AreBegun}
use Rattle.host_world.proofs.BegunLaws.{begun-at}
use Rattle.worker_threads.specs.Participants.{HaveReadLogs}

-- the runs of all verifiers took what is in their workers' logs
pub all_take : (functions : DigestFunctions) (header : Header) (workers : List Worker) (old new : List FedRun) → AreBegun header workers
    → HaveReadLogs functions workers old new → AllRead functions (written_logs header (map (λ worker. worker.log) (map shown_worker workers))) old new
all_take functions header workers old new begun took = go 0 workers old new took.olds took.news taken
  where
    taken : (i : ℕ) (d : Worker) (run : FedRun) → i < length workers
        → Reads functions (written_log header (0 + i) (get_or workers i d).log.commands) (get_or old i run) (get_or new i run)
    taken i d run there =
        subst (λ (n : ℕ). Reads functions (written_log header n (get_or workers i d).log.commands) (get_or old i run) (get_or new i run)) (omega arith)
        (subst (λ (writer : CommandWriter). Reads functions (text_from writer (get_or workers i d).log.commands) (get_or old i run) (get_or new i run))
        (begun-at header workers begun i d there) (took.each i d run there))

    go : (first : ℕ) (workers : List Worker) (old new : List FedRun) → length old ≡ length workers → length new ≡ length workers
        → ((i : ℕ) (d : Worker) (run : FedRun) → i < length workers
        → Reads functions (written_log header (first + i) (get_or workers i d).log.commands) (get_or old i run) (get_or new i run))
        → AllRead functions (logs_written_from header first (map (λ worker. worker.log) (map shown_worker workers))) old new
    go first [] [] [] olds news each = tt
    go first [] [] (run ∷ new) olds news each = absurd (omega (arith, news))
    go first [] (run ∷ old) new olds news each = absurd (omega (arith, olds))
    go first (worker ∷ workers) [] new olds news each = absurd (omega (arith, olds))
    go first (worker ∷ workers) (before ∷ old) [] olds news each = absurd (omega (arith, news))
    go first (worker ∷ workers) (before ∷ old) (run ∷ new) olds news each = (
      subst (λ (n : ℕ). Reads functions (written_log header n worker.log.commands) before run) (omega arith) (each 0 worker run (omega arith)),
      go (suc first) workers old new (omega (arith, olds)) (omega (arith, news))
          (λ i d r there.
          subst (λ (n : ℕ). Reads functions (written_log header n (get_or workers i d).log.commands) (get_or old i r) (get_or new i r)) (omega arith)
          (each (suc i) d r (omega (arith, there)))),
    )

-- runs that were fed so many bytes at most
pub few_all : (bytes : ℕ) (runs : List FedRun) → AllByRecursion (λ fed. weight fed.run ≤ bytes) runs → All (λ fed. weight fed.run ≤ bytes) runs
few_all bytes [] few = λ i d there. absurd (omega (arith, there))
few_all bytes (run ∷ runs) few = go (few_all bytes runs few.1)
  where
    go : All (λ fed. weight fed.run ≤ bytes) runs → (i : ℕ) (d : FedRun) → i < length (run ∷ runs) → weight (get_or (run ∷ runs) i d).run ≤ bytes
    go rest zero d there = few.0
    go rest (suc i) d there = rest i d (omega (arith, there))
