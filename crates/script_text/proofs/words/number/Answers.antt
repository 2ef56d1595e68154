use Rattle.std.proofs.Common.{◌≡◌, ◌^◌, [], drop, get_or, sym, ◌∙◌, ap, arith}
use Rattle.std.proofs.Math.ListN.{drop_of_length-le}
use Rattle.std.specs.Str.{all_ascii_digits}
use Rattle.std.specs.Str.Parse.{digits_value_after}
use Rattle.script_text.proofs.WordLemmas.{number-none, number-other, number-large, number-found, digits-other, digits-large, digit_value-digit}
use Rattle.script_text.proofs.words.number.Goals as goal

pub returns-then-not-begins_well : goal.returns-then-not-begins_well
returns-then-not-begins_well c = record { value = sym (number-none (2 ^ 128) c.args.word.now (sym c.begins_well.ensures.value ∙ c.if-not-begins_well.true)) }

pub returns-then-not-is_ascii_digit : goal.returns-then-not-is_ascii_digit
returns-then-not-is_ascii_digit c =
    let other = digits-other c.args.word.now c.loop-byte.byte-index c.loop-byte-test.true (sym c.is_ascii_digit.ensures.value ∙ c.if-not-is_ascii_digit.true) c.loop-byte.invariant.digits in
    record { value = sym (number-other (2 ^ 128) c.args.word.now other) }

pub returns-in_err-checked_mul : goal.returns-in_err-checked_mul
returns-in_err-checked_mul c =
    let word = c.args.word.now in
    let i = c.loop-byte.byte-index in
    let large = digits-large (2 ^ 128) c.loop-byte.number word i c.loop-byte-test.true (omega (arith, c.in_err-checked_mul.ensures)) c.loop-byte.invariant.value in
    record { value = c.from_residual.ensures ∙ sym (number-large (2 ^ 128) word large) }

pub returns-in_err-number : goal.returns-in_err-number
returns-in_err-number c =
    let word = c.args.word.now in
    let i = c.loop-byte.byte-index in
    let digit = digit_value-digit (get_or word i 0) (sym c.is_ascii_digit.ensures.value ∙ c.if-not-is_ascii_digit.false) in
    let large = digits-large (2 ^ 128) c.loop-byte.number word i c.loop-byte-test.true (omega (arith, c.in_err-number.ensures, c.in_ok-checked_mul.ensures)) c.loop-byte.invariant.value in
    record { value = c.from_residual-in_err-number.ensures ∙ sym (number-large (2 ^ 128) word large) }

pub returns : goal.returns
returns c =
    let word = c.args.word.now in
    let none : drop c.loop-byte.byte-index word ≡ [] = drop_of_length-le word c.loop-byte-test.false in
    let digits = sym c.loop-byte.invariant.digits ∙ ap all_ascii_digits none in
    let value = sym c.loop-byte.invariant.value ∙ ap (digits_value_after 10 c.loop-byte.number) none in
    record { value = sym (number-found (2 ^ 128) c.loop-byte.number word (sym c.begins_well.ensures.value ∙ c.if-not-begins_well.false) digits value (omega arith)) }
