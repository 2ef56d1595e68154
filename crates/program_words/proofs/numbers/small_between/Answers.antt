use Rattle.std.proofs.Common.{arith}
use Rattle.program_words.proofs.NumberLemmas.{between_most}
use Rattle.program_words.proofs.numbers.small_between.Goals as goal

pub overflow_cast-result : goal.overflow_cast-result
overflow_cast-result c =
    let most = between_most _ _ c.in-Some.number c.args.word.now c.in-Some.ensures.value in
    omega (arith, most, c.from-2.ensures, c.ranges.most.fits)
