use Rattle.bundle_frames.proofs.SpelledLaws.{frame_spelled}
use Rattle.bundle_frames.proofs.FindsLaws.{IsFrame-from_frame_in}
use Rattle.bundle_frames.proofs.TextLaws.{frame_in-text}
use Rattle.bundle_frames.proofs.laws.frames_are_read_back.Goals as goal

pub returns-clause-read : goal.returns-clause-read
returns-clause-read c = frame_in-text

pub returns-clause-spelled : goal.returns-clause-spelled
returns-clause-spelled c = frame_spelled

pub returns-clause-ranges : goal.returns-clause-ranges
returns-clause-ranges c = IsFrame-from_frame_in
