-- Two counts that are the same, and what is counted of nothing.
use Rattle.std.proofs.Common.{◌≡◌, ℕ, zero, suc, ◌+◌, ◌-◌, List, [], ◌∷◌, ◌++◌, map, take, replicate, refl, sym, ap, ◌∙◌}
use Rattle.std.specs.List.{range_with_len}
use Rattle.std.proofs.Math.Nat.{sub-zero}
use Rattle.std.proofs.Math.Seq.{take-nil}
use Rattle.load_summary.specs.declared.tally.Tally.{Tally}
use Rattle.load_summary.specs.Tallies.{tally_of, tallies_of}
use Rattle.load_summary.specs.Counting.{Counted, counted_of}

pub same_counted : (operations operations' : ℕ) (tallies tallies' : List Tally) → operations ≡ operations' → tallies ≡ tallies'
    → let one : Counted = record { operations = operations; tallies = tallies } in let other : Counted = record { operations = operations'; tallies = tallies' } in one ≡ other
same_counted operations operations' tallies tallies' counted same =
    ap (λ (n : ℕ). let c : Counted = record { operations = n; tallies = tallies } in c) counted
    ∙ ap (λ (t : List Tally). let c : Counted = record { operations = operations'; tallies = t } in c) same

-- ---- nothing

tallies_of_none : (from count : ℕ) → map (λ worker. tally_of worker []) (range_with_len from count) ≡ replicate count (tally_of 0 [])
tallies_of_none from zero = refl
tallies_of_none from (suc count) = ap (λ (t : List Tally). tally_of 0 [] ∷ t) (tallies_of_none (from + 1) count)

-- as many tallies of nothing as there are workers
pub counted_none : (workers count len : ℕ) (before tallies : List Tally) (tally : Tally) → count ≡ workers → len ≡ 0 → before ≡ [] → tally ≡ tally_of 0 []
    → tallies ≡ take count before ++ replicate (count - len) tally → let counted : Counted = record { operations = 0; tallies = tallies } in counted ≡ counted_of workers []
counted_none workers count len before tallies tally all none empty nothing made =
    same_counted 0 0 tallies (tallies_of workers []) refl
    (made
    ∙ ap (λ (t : List Tally). take count t ++ replicate (count - len) tally) empty
    ∙ ap (λ (t : List Tally). t ++ replicate (count - len) tally) (take-nil count)
    ∙ ap (λ (n : ℕ). replicate (count - n) tally) none
    ∙ ap (λ (n : ℕ). replicate n tally) (sub-zero count ∙ all)
    ∙ ap (replicate workers) nothing
    ∙ sym (tallies_of_none 0 workers))
