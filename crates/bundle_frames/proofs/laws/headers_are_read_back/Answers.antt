use Rattle.bundle_frames.proofs.SpelledLaws.{header_spelled}
use Rattle.bundle_frames.proofs.FindsLaws.{IsHeader-from_header_in}
use Rattle.bundle_frames.proofs.TextLaws.{header_in-text}
use Rattle.bundle_frames.proofs.laws.headers_are_read_back.Goals as goal

pub returns-clause-read : goal.returns-clause-read
returns-clause-read c = header_in-text

pub returns-clause-spelled : goal.returns-clause-spelled
returns-clause-spelled c = header_spelled

pub returns-clause-ranges : goal.returns-clause-ranges
returns-clause-ranges c = IsHeader-from_header_in
