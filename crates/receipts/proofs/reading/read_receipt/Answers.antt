use Rattle.std.proofs.Common.{ap, length, arith, length-append}
use Rattle.receipts.specs.Receipts.{receipt_text}
use Rattle.receipts.proofs.ReceiptLemmas.{text-len}
use Rattle.receipts.proofs.reading.read_receipt.Goals as goal

pub returns-then-bytes-clause-only : goal.returns-then-bytes-clause-only
returns-then-bytes-clause-only c operation tag fits len is = absurd (omega (arith, text-len operation, ap length is, length-append (receipt_text operation) tag))
