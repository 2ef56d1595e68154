use Rattle.std.proofs.Common.{◌∙◌, ◌++◌, ap, sym, arith}
use Rattle.receipts.specs.Receipts.{certificate_text}
use Rattle.receipts.proofs.ReceiptLemmas.{rest-is, certificate-spelled, certificate-first, certificate-len, certificate-epochs, certificate-is}
use Rattle.receipts.proofs.reading.read_certificate.Goals as goal

pub returns-then-bytes-ne-CERTIFICATE_LEN-clause-only : goal.returns-then-bytes-ne-CERTIFICATE_LEN-clause-only
returns-then-bytes-ne-CERTIFICATE_LEN-clause-only c first last tag small_first small_last len is = absurd (c.if-bytes-ne-CERTIFICATE_LEN.true (certificate-len c.args.bytes.now tag first last is len))

pub returns-then-bytes-ne-CERTIFICATE-clause-only : goal.returns-then-bytes-ne-CERTIFICATE-clause-only
returns-then-bytes-ne-CERTIFICATE-clause-only c first last tag small_first small_last len is = absurd (c.if-bytes-ne-CERTIFICATE.true (certificate-first c.args.bytes.now tag first last is))

pub returns-clause-found : goal.returns-clause-found
returns-clause-found c =
    let tag = c.tag_in-tag.ensures.value ∙ rest-is 9 c.args.bytes.now in
    certificate-spelled c.args.bytes.now c.u32_in-first.result c.u32_in-last.result c.if-bytes-ne-CERTIFICATE_LEN.false (λ i. omega (arith, c.type_inv.bytes i)) c.if-bytes-ne-CERTIFICATE.false c.u32_in-first.ensures.value c.u32_in-last.ensures.value
    ∙ ap (λ xs. certificate_text c.u32_in-first.result c.u32_in-last.result ++ xs) (sym tag)

pub returns-clause-only : goal.returns-clause-only
returns-clause-only c first last tag small_first small_last len is =
    let epochs = certificate-epochs c.args.bytes.now tag first last is small_first small_last in
    certificate-is _ _ _ _ _ _ (c.u32_in-first.ensures.value ∙ epochs.0) (c.u32_in-last.ensures.value ∙ epochs.1) (c.tag_in-tag.ensures.value ∙ rest-is 9 c.args.bytes.now ∙ epochs.2)
