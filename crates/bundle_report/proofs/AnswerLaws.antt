-- What the verdict of a bundle is, by its header.
use Rattle.std.proofs.Common.{◌≡◌, ℕ, Bool, List, map, Option, Some, sym, ap}
use Rattle.lamport_clocks.specs.declared.header.Header.{Header}
use Rattle.record_hash.specs.Functions.{DigestFunctions}
use Rattle.record_text.specs.Format.{format_of}
use Rattle.log_codec.specs.Log.{read_log}
use Rattle.merkle_records.specs.Scheme.{scheme_of}
use Rattle.bundle_report.specs.Report.{told_by}
use Rattle.bundle_report.specs.Answer.{answer_on, answer_at}

pub with_header : (receipts : Bool) (functions : DigestFunctions) (found : Option Header) (header : Header) (logs : List (List ℕ)) (bad : Option ℕ)
    → found ≡ Some header
    → answer_on (told_by receipts functions header) (scheme_of functions header) header (map (read_log (format_of header)) logs) bad
    ≡ answer_at receipts functions found logs bad
with_header receipts functions found header logs bad is = sym (ap (λ (o : Option Header). answer_at receipts functions o logs bad) is)
