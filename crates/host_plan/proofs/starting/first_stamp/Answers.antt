use Rattle.std.proofs.Common.{ℕ, ◌∙◌, ap, arith}
use Rattle.tree_keys.specs.Path.{key_bits}
use Rattle.host_plan.proofs.SetupLemmas.{few_numbers, unused_bits, number_in_word}
use Rattle.host_plan.proofs.starting.first_stamp.Goals as goal

pub overflow_sub-unused : goal.overflow_sub-unused
overflow_sub-unused c =
    let unused = unused_bits c.is_wide.result c.key_bits.result c.len.result c.key_bits.ensures.value (omega (arith, c.len.ensures.value, c.requires.below_root)) (omega (arith, c.len.ensures.value, c.requires.few)) in
    omega arith

pub overflow_cast-result : goal.overflow_cast-result
overflow_cast-result c =
    let number = number_in_word c.args.frontier.now c.word.result c.key_bits.result c.len.result c.word.ensures.value (c.key_bits.ensures.value ∙ ap key_bits c.is_wide.ensures.value) c.len.ensures.value in
    let small = few_numbers c.args.frontier.now c.requires.few in
    omega arith

pub overflow_add-result : goal.overflow_add-result
overflow_add-result c =
    let number = number_in_word c.args.frontier.now c.word.result c.key_bits.result c.len.result c.word.ensures.value (c.key_bits.ensures.value ∙ ap key_bits c.is_wide.ensures.value) c.len.ensures.value in
    let small = few_numbers c.args.frontier.now c.requires.few in
    omega arith

pub returns : goal.returns
returns c =
    let number = number_in_word c.args.frontier.now c.word.result c.key_bits.result c.len.result c.word.ensures.value (c.key_bits.ensures.value ∙ ap key_bits c.is_wide.ensures.value) c.len.ensures.value in
    record {
      value = ap (λ (counter : ℕ). record { epoch = c.args.first; counter = counter }) (omega arith);
    }
