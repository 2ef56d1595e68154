use Rattle.std.proofs.Common.{◌≡◌, take}
use Rattle.script_text.specs.Text.{script_text}
use Rattle.script_text.proofs.writing.write_script.Given as goal

-- the phases so far were written
abbrev pub invariant-loop-number : goal.invariant-loop-number
invariant-loop-number l = l.text.items ≡ script_text (take l.number l.requests)
