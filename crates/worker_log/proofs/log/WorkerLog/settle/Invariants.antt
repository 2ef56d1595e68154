use Rattle.std.proofs.Common.{◌≡◌, ◌-◌, ◌++◌, length, drop, map}
use Rattle.worker_log.specs.Logged.{AreWritten}
use Rattle.worker_log.proofs.log.WorkerLog.settle.Given as goal

-- So many commands are written, and those that wait stand behind them.
abbrev pub invariant-loop-self : goal.invariant-loop-self
invariant-loop-self l =
    let begun = l.initial.self-inside.first.value in
    let before = l.initial.self-inside in
    let now = l.self-inside in
    record {
      first : now.first.value ≡ begun;
      waiting : now.waiting ≡ before.waiting;
      written : AreWritten begun now.writer (map (λ command. command.value) now.written.items) now.bytes now.text.items;
      commands : map (λ command. command.value) now.written.items ++ drop now.next now.waiting
          ≡ map (λ command. command.value) before.written.items ++ drop before.next before.waiting;
    }

abbrev pub decreases-loop-self : goal.decreases-loop-self
decreases-loop-self l = length l.self-inside.waiting - l.self-inside.next
