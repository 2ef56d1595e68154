use Rattle.std.proofs.Common.{◌≡◌, ℕ, ◌≤◌, List, ◌++◌}
use Rattle.std.specs.List.{flat_map}
use Rattle.report_text.specs.Page.{Passes}
use Rattle.follower.proofs.KeyLemmas.{entry_line}
use Rattle.follower.proofs.followed.write_entries.Given as goal

-- the lines so far were added, and with those of the entries that are left they are all
abbrev pub invariant-loop-key : goal.invariant-loop-key
invariant-loop-key g l = record {
  text : List ℕ;
  passes : Passes (g.O.Sink.held l.fn.out) l.fn.page text (g.O.Sink.held l.out) l.page;
  left : text ++ flat_map entry_line l.key-iterator ≡ flat_map entry_line l.fn.map;
  faults : g.O.Sink.faults l.fn.out ≤ g.O.Sink.faults l.out;
}
