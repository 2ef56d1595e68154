use Rattle.std.proofs.Common.{◌∙◌, Some, refl, sym, ap}
use Rattle.receipt_lines.proofs.DigitLemmas.{certificate_in-missing, certificate_in-found}
use Rattle.receipt_lines.proofs.digits.certificate_in.Goals as goal

pub returns-in_err-bytes : goal.returns-in_err-bytes
returns-in_err-bytes c = record { value = c.from_residual.ensures ∙ sym (certificate_in-missing c.args.digits.now (c.in_err-bytes.ensures.missing refl)) }

pub returns-in_err-certificate : goal.returns-in_err-certificate
returns-in_err-certificate c = record {
  value = c.from_residual-in_err-certificate.ensures
      ∙ certificate_in-found c.args.digits.now c.as_slice.result.now _ (c.in_ok-bytes.ensures.found ∙ ap Some (sym c.as_slice.ensures.value)) tt tt
      c.in_err-certificate.ensures.only;
}

pub returns : goal.returns
returns c = record {
  value = certificate_in-found c.args.digits.now c.as_slice.result.now _ (c.in_ok-bytes.ensures.found ∙ ap Some (sym c.as_slice.ensures.value))
      c.in_ok-certificate.ensures.found (c.a_number_of_32_bits_is_below.ensures.below, c.a_number_of_32_bits_is_below-2.ensures.below, c.tags_have_their_length.ensures.len) c.in_ok-certificate.ensures.only;
}
