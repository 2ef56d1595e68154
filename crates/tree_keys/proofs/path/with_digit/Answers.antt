use Rattle.std.proofs.Common.{arith}
use Rattle.tree_keys.proofs.BitsLaws.{child_fits}
use Rattle.tree_keys.proofs.path.with_digit.Goals as goal
use Rattle.tree_keys.proofs.path.with_digit.Goals.{then-bit, else-bit}

pub overflow_mul-result : goal.overflow_mul-result
overflow_mul-result c = omega (arith, child_fits c.args.len c.args.bits 0 c.requires.short c.requires.small (omega arith))

pub overflow_add-result : goal.overflow_add-result
overflow_add-result c =
    elim c.if-bit.branch [
      | then-bit w ↦ omega (arith, child_fits c.args.len c.args.bits 1 c.requires.short c.requires.small (omega arith))
      | else-bit w ↦ omega (arith, child_fits c.args.len c.args.bits 0 c.requires.short c.requires.small (omega arith))
    ]
