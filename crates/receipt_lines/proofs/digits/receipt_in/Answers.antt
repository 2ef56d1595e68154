use Rattle.std.proofs.Common.{◌∙◌, Some, refl, sym, ap}
use Rattle.receipt_lines.proofs.DigitLemmas.{receipt_in-missing, receipt_in-found}
use Rattle.receipt_lines.proofs.digits.receipt_in.Goals as goal

pub returns-in_err-bytes : goal.returns-in_err-bytes
returns-in_err-bytes c = record { value = c.from_residual.ensures ∙ sym (receipt_in-missing c.args.digits.now (c.in_err-bytes.ensures.missing refl)) }

pub returns-in_err-receipt : goal.returns-in_err-receipt
returns-in_err-receipt c = record {
  value = c.from_residual-in_err-receipt.ensures
      ∙ receipt_in-found c.args.digits.now c.as_slice.result.now _ (c.in_ok-bytes.ensures.found ∙ ap Some (sym c.as_slice.ensures.value)) tt tt
      c.in_err-receipt.ensures.only;
}

pub returns : goal.returns
returns c = record {
  value = receipt_in-found c.args.digits.now c.as_slice.result.now _ (c.in_ok-bytes.ensures.found ∙ ap Some (sym c.as_slice.ensures.value))
      c.in_ok-receipt.ensures.found (c.in_ok-receipt.ensures.fits, c.tags_have_their_length.ensures.len) c.in_ok-receipt.ensures.only;
}
