use Rattle.std.proofs.Common.{◌≡◌, ◌≤◌, ℕ, List, ◌++◌, drop}
use Rattle.report_text.specs.Page.{Passes}
use Rattle.load_summary.specs.Summary.{worker_lines}
use Rattle.load_summary.proofs.summary.write_workers.Given as goal

-- a text was added, and with the lines that are left it is that of all workers; the name stays, and the count of faults hasn't fallen
abbrev pub invariant-loop-worker : goal.invariant-loop-worker
invariant-loop-worker g l = record {
  text : List ℕ;
  passes : Passes (g.O.Sink.held l.fn.out) l.fn.page text (g.O.Sink.held l.out) l.page;
  left : text ++ worker_lines l.worker (drop l.worker l.tallies) ≡ worker_lines 0 l.tallies;
  name : g.O.Sink.name l.out ≡ g.O.Sink.name l.fn.out;
  faults : g.O.Sink.faults l.fn.out ≤ g.O.Sink.faults l.out;
}
