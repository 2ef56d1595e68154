use Rattle.std.proofs.Common.{◌≡◌, ◌≤◌, ◌*◌, ℕ, List, ◌++◌, drop}
use Rattle.report_text.specs.Page.{Passes}
use Rattle.certified_epochs.specs.Pieces.{lines_of}
use Rattle.certified_epochs.proofs.lines.write_pieces.Given as goal

-- a text was added, and with the lines that are left it is that of the group; and the count of faults hasn't fallen
abbrev pub invariant-loop-piece : goal.invariant-loop-piece
invariant-loop-piece g l = record {
  text : List ℕ;
  passes : Passes (g.O.Sink.held l.fn.out) l.fn.page text (g.O.Sink.held l.out) l.page;
  left : text ++ lines_of g.D.Digests.functions l.fn.telling (drop (l.piece-index * 1024) l.fn.group)
      ≡ lines_of g.D.Digests.functions l.fn.telling l.fn.group;
  faults : g.O.Sink.faults l.fn.out ≤ g.O.Sink.faults l.out;
}
