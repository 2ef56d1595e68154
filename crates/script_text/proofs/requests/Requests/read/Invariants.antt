use Rattle.std.proofs.Common.{◌≤◌, ◌+◌, length}
use Rattle.script_text.proofs.ScriptLemmas.{HasRead}
use Rattle.script_text.proofs.requests.Requests.read.Given as goal

-- what is left of the bytes says the rest, and each line took a byte at least
abbrev pub invariant-loop-rest : goal.invariant-loop-rest
invariant-loop-rest l = record {
  read : HasRead l.header l.bytes l.requests l.number l.rest;
  counted : l.number + length l.rest ≤ length l.bytes;
}

abbrev pub decreases-loop-rest : goal.decreases-loop-rest
decreases-loop-rest l = length l.rest
