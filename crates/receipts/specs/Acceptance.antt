-- When a receipt is accepted.
use Rattle.std.specs.Prelude.{◌≡◌, ◌≤◌}
use Rattle.record_hash.specs.Functions.{DigestFunctions}
use Rattle.receipts.specs.declared.tagged_texts.Receipt.{Receipt}
use Rattle.receipts.specs.declared.tagged_texts.Certificate.{Certificate}
use Rattle.receipts.specs.declared.accepting.Acceptance.{Acceptance}
use Rattle.receipts.specs.declared.accepting.Acceptance.TheVariants.{Accepted, NotTagged, NotCertified}
use Rattle.receipts.specs.Receipts.{receipt_text, certificate_text}

-- both tags are those of their texts
abbrev pub AreTagged : DigestFunctions → Receipt → Certificate → Type 0
AreTagged functions receipt certificate =
    (functions.tag (receipt_text receipt.operation) ≡ receipt.tag) × (functions.tag (certificate_text certificate.first certificate.last) ≡ certificate.tag)

-- the operation's epoch is one of those that are certified
abbrev pub IsWithin : Receipt → Certificate → Type 0
IsWithin receipt certificate = (certificate.first ≤ receipt.operation.stamp.epoch) × (receipt.operation.stamp.epoch ≤ certificate.last)

-- The three answers exclude one another, so each comes exactly where it says.
abbrev pub IsAnswer : DigestFunctions → Receipt → Certificate → Acceptance → Type 0
IsAnswer functions receipt certificate (Accepted operation) = (operation ≡ receipt.operation) × AreTagged functions receipt certificate × IsWithin receipt certificate
IsAnswer functions receipt certificate NotTagged = ¬ (AreTagged functions receipt certificate)
IsAnswer functions receipt certificate NotCertified = AreTagged functions receipt certificate × ¬ (IsWithin receipt certificate)
