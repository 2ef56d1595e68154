-- Operations are counted one by one as they are counted all at once.
use Rattle.std.proofs.Common.{◌≡◌, ℕ, ◌<◌, ◌≤◌, List, [], ◌∷◌, ◌++◌, set, get_or, sym, ap, ◌∙◌, inl, inr, ◌⊎◌, append_assoc, append-nil, arith}
use Rattle.std.specs.List.{fold}
use Rattle.std.proofs.lemmas.Bool.{cases_lt}
use Rattle.std.proofs.lemmas.List.{length_push, set_past}
use Rattle.record_text.specs.declared.operation.Operation.{Operation}
use Rattle.load_summary.specs.declared.tally.Tally.{Tally}
use Rattle.load_summary.specs.Tallies.{tally_of, tallies_of}
use Rattle.load_summary.specs.Counting.{Counted, counted_of, with_one, with_operation}
use Rattle.load_summary.proofs.TallyLemmas.{length-tallies_of, get_or-tallies_of, tallies_of_own, tallies_of_other}
use Rattle.load_summary.proofs.CountedLemmas.{same_counted}

-- one operation more
pub with_operation-counted : (workers : ℕ) (before : List Operation) (op : Operation)
    → with_operation (counted_of workers before) op ≡ counted_of workers (before ++ op ∷ [])
with_operation-counted workers before op =
    same_counted _ _ _ _ (sym (length_push before op)) (go (cases_lt op.verifier workers))
  where
    go : (op.verifier < workers) ⊎ (workers ≤ op.verifier)
        → set (tallies_of workers before) op.verifier (with_one op.put op.value (get_or (tallies_of workers before) op.verifier (tally_of 0 [])))
        ≡ tallies_of workers (before ++ op ∷ [])
    go (inl below) =
        ap (λ (t : Tally). set (tallies_of workers before) op.verifier (with_one op.put op.value t)) (get_or-tallies_of workers op.verifier before (tally_of 0 []) below)
        ∙ sym (tallies_of_own workers before op below)
    go (inr past) =
        let len = length-tallies_of workers before in
        set_past (tallies_of workers before) op.verifier _ (omega (arith, past, len))
        ∙ sym (tallies_of_other workers before op past)

-- Operations behind those that are counted: one by one, or all at once.
pub fold-counted : (workers : ℕ) (before ops : List Operation) → fold with_operation (counted_of workers before) ops ≡ counted_of workers (before ++ ops)
fold-counted workers before [] = ap (counted_of workers) (sym (append-nil before))
fold-counted workers before (op ∷ ops) =
    ap (λ (counted : Counted). fold with_operation counted ops) (with_operation-counted workers before op)
    ∙ fold-counted workers (before ++ op ∷ []) ops
    ∙ ap (counted_of workers) (append_assoc before (op ∷ []) ops)
