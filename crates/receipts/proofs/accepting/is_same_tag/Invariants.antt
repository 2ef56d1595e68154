use Rattle.receipts.proofs.TagLemmas.{Agrees}
use Rattle.receipts.proofs.accepting.is_same_tag.Given as goal

abbrev pub invariant-loop-place : goal.invariant-loop-place
invariant-loop-place l = Agrees l.tag l.other l.place l.differing
