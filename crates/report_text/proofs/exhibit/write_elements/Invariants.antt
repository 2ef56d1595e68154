use Rattle.std.proofs.Common.{◌≡◌, ◌≤◌, ℕ, List, ◌++◌, drop}
use Rattle.std.specs.List.{flat_map}
use Rattle.report_text.specs.Page.{Passes}
use Rattle.report_text.specs.Exhibit.{element_line}
use Rattle.report_text.proofs.exhibit.write_elements.Given as goal

-- a text was added, and with the lines that are left it is that of all elements; the name stays, and the count of faults hasn't fallen
abbrev pub invariant-loop-element : goal.invariant-loop-element
invariant-loop-element g l = record {
  text : List ℕ;
  passes : Passes (g.O.Sink.held l.fn.sink) l.fn.page text (g.O.Sink.held l.sink) l.page;
  left : text ++ flat_map (element_line l.word) (drop l.element-index l.elements) ≡ flat_map (element_line l.word) l.elements;
  name : g.O.Sink.name l.sink ≡ g.O.Sink.name l.fn.sink;
  faults : g.O.Sink.faults l.fn.sink ≤ g.O.Sink.faults l.sink;
}
