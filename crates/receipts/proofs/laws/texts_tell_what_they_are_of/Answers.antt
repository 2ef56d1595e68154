use Rattle.receipts.proofs.ReceiptLemmas.{receipts-one, certificates-one, kinds-apart}
use Rattle.receipts.proofs.laws.texts_tell_what_they_are_of.Goals as goal

pub returns : goal.returns
returns c = record { receipts = receipts-one; certificates = certificates-one; apart = kinds-apart }
