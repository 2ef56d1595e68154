use Rattle.std.proofs.Common.{◌≡◌, false, List, [], ◌∷◌, length, get_or, rules, arith}
use Rattle.std.specs.List.{IsDistinct}
use Rattle.multiset_sum.specs.declared.part.Part.{Part}
use Rattle.epoch_gather.specs.Parts.{is_same_part}
use Rattle.verifier_tests.proofs.verdicts.verdict_on.Goals as goal

-- three parts of which no two are of one place
all_apart : (parts : List Part) (a b c : Part) → length parts ≡ 3 → a ≡ get_or parts 0 a → b ≡ get_or parts 1 b → c ≡ get_or parts 2 c
    → is_same_part a b ≡ false → is_same_part a c ≡ false → is_same_part b c ≡ false → IsDistinct is_same_part parts
unfolding IsDistinct
all_apart (p ∷ q ∷ r ∷ []) a b c long first second third ab ac bc =
    ((rw (← first, ← second) ab, (rw (← first, ← third) ac, tt)), ((rw (← second, ← third) bc, tt), (tt, tt)))
all_apart parts a b c long first second third ab ac bc = absurd (omega arith)

pub verdict-requires-clause-once : goal.verdict-requires-clause-once
verdict-requires-clause-once c =
    all_apart c.args.parts.now c.index-parts-0.result c.index-parts-1.result c.index-parts-2.result (search rules) c.index-parts-0.is c.index-parts-1.is c.index-parts-2.is
    (search rules) (search rules) (search rules)
