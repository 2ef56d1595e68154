use Rattle.std.proofs.Common.{◌≤◌, ◌+◌, length}
use Rattle.script_text.proofs.SigningLemmas.{HasSigned}
use Rattle.script_text.proofs.signing.sign_lines.Given as goal

-- what is left of the bytes asks the rest, and each line took a byte at least
abbrev pub invariant-loop-rest : goal.invariant-loop-rest
invariant-loop-rest g l = record {
  signed : HasSigned (g.D.Digests.functions l.d) l.wide l.client l.bytes l.text.items l.number l.last l.rest;
  counted : l.number + length l.rest ≤ length l.bytes;
}

abbrev pub decreases-loop-rest : goal.decreases-loop-rest
decreases-loop-rest g l = length l.rest
