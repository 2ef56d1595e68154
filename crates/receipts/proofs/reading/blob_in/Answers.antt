use Rattle.std.proofs.Common.{◌∙◌, Some, sym, ap, length, true≢false, eq-eqb, arith}
use Rattle.record_text.specs.Texts.{blob_text}
use Rattle.record_text.proofs.FieldLaws.{Ok-is}
use Rattle.receipts.proofs.ReceiptLemmas.{at_end, blob-taken, blob-spelled}
use Rattle.receipts.proofs.reading.blob_in.Goals as goal

pub returns-in_default-clause-only : goal.returns-in_default-clause-only
returns-in_default-clause-only c blob is spelled =
    absurd (c.in_default.not-Ok _ (blob-taken c.args.bytes.now _ _ _ blob c.new-reader.ensures.all c.blob.ensures.takes is spelled).0)

pub returns-then-not-is_at_end-clause-only : goal.returns-then-not-is_at_end-clause-only
returns-then-not-is_at_end-clause-only c blob is spelled =
    let none = (blob-taken c.args.bytes.now _ _ _ blob c.new-reader.ensures.all c.blob.ensures.takes is spelled).1 in
    absurd (true≢false (sym (eq-eqb _ 0 (ap length none)) ∙ (sym c.is_at_end.ensures.value ∙ c.if-not-is_at_end.true)))

pub returns-clause-found : goal.returns-clause-found
returns-clause-found c =
    blob-spelled c.args.bytes.now _ _ _ _ (λ i. omega (arith, c.type_inv.bytes i)) c.new-reader.ensures.all c.blob.ensures.takes c.in-Ok.is
    (at_end _ (sym c.is_at_end.ensures.value ∙ c.if-not-is_at_end.false))
    ∙ ap blob_text (sym c.to_blob.ensures.value)

pub returns-clause-only : goal.returns-clause-only
returns-clause-only c blob is spelled =
    let read = (blob-taken c.args.bytes.now _ _ _ blob c.new-reader.ensures.all c.blob.ensures.takes is spelled).0 in
    ap Some (c.to_blob.ensures.value ∙ Ok-is _ _ (sym c.in-Ok.is ∙ read))
