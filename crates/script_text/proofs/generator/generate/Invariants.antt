use Rattle.std.proofs.Common.{◌≡◌}
use Rattle.script_text.specs.Script.{phases_of}
use Rattle.script_text.specs.Generator.{lines_made, state_behind}
use Rattle.script_text.proofs.generator.generate.Given as goal

-- the phases are those of the requests made so far, and so is the number of the generator
abbrev pub invariant-loop-number : goal.invariant-loop-number
invariant-loop-number l = record {
  made : l.requests ≡ phases_of (lines_made l.x l.shape l.number);
  state : l.state ≡ state_behind l.x l.number;
}
