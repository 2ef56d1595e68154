use Rattle.std.proofs.Common.{◌≡◌, true, refl, sym, ◌∙◌, ap, arith}
use Rattle.program_words.specs.Numbers.{is_numeral}
use Rattle.program_words.proofs.NumberLemmas.{no_numeral, between, below, above, value_read, value_large}
use Rattle.program_words.proofs.numbers.number_between.Goals as goal

pub returns-then-not-is_numeral : goal.returns-then-not-is_numeral
returns-then-not-is_numeral c = record {
  value = no_numeral c.args.least c.args.most c.args.word.now
      (ap is_numeral (sym c.as_bytes.ensures.value) ∙ sym c.is_numeral.ensures.value ∙ c.if-not-is_numeral.true);
}

pub returns-in-Ok : goal.returns-in-Ok
returns-in-Ok c =
    let well : is_numeral c.args.word.now ≡ true = ap is_numeral (sym c.as_bytes.ensures.value) ∙ sym c.is_numeral.ensures.value ∙ c.if-not-is_numeral.false in
    let value = value_read c.parse.result c.args.word.now c.in-Ok.number c.parse.ensures.value.0 well c.in-Ok.is in
    record { value = between c.args.least c.args.most c.in-Ok.number c.args.word.now well value c.if-least-number.true c.if-number-most.true }

pub returns-in_default : goal.returns-in_default
returns-in_default c =
    let well : is_numeral c.args.word.now ≡ true = ap is_numeral (sym c.as_bytes.ensures.value) ∙ sym c.is_numeral.ensures.value ∙ c.if-not-is_numeral.false in
    let value = value_read c.parse.result c.args.word.now c.in-Ok.number c.parse.ensures.value.0 well c.in-Ok.is in
    record { value = above c.args.least c.args.most c.in-Ok.number c.args.word.now value (omega (arith, c.if-number-most.false)) }

pub returns-in_default-2 : goal.returns-in_default-2
returns-in_default-2 c =
    let well : is_numeral c.args.word.now ≡ true = ap is_numeral (sym c.as_bytes.ensures.value) ∙ sym c.is_numeral.ensures.value ∙ c.if-not-is_numeral.false in
    let value = value_read c.parse.result c.args.word.now c.in-Ok.number c.parse.ensures.value.0 well c.in-Ok.is in
    record { value = below c.args.least c.args.most c.in-Ok.number c.args.word.now value (omega (arith, c.if-least-number.false)) }

pub returns-in_default-3 : goal.returns-in_default-3
returns-in_default-3 c =
    let well : is_numeral c.args.word.now ≡ true = ap is_numeral (sym c.as_bytes.ensures.value) ∙ sym c.is_numeral.ensures.value ∙ c.if-not-is_numeral.false in
    let large = value_large c.parse.result c.in_default.field-0 c.args.word.now c.parse.ensures.value.0 well c.in_default.is in
    record { value = above c.args.least c.args.most _ c.args.word.now refl (omega (arith, large, c.ranges.most.fits)) }
