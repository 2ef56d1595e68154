-- What a bundle with its bytes is.
use Rattle.std.specs.Prelude.{List, map}
use Rattle.bundle_frames.specs.declared.whole.WholeBundle.{WholeBundle}
use Rattle.bundle_frames.specs.declared.whole.WholeFrame.{WholeFrame}
use Rattle.bundle_frames.specs.Bundle.{Bundle, Frame}

-- a frame with its bytes, as a frame
abbrev pub frame_in : WholeFrame → Frame
frame_in frame = record { verifier = frame.verifier; body = frame.body.items }

-- its frames
abbrev pub frames_in : WholeBundle → List Frame
frames_in bundle = map frame_in bundle.frames.items

-- a bundle with its bytes, as a bundle
abbrev pub bundle_in : WholeBundle → Bundle
bundle_in bundle = record { header = bundle.header; frames = frames_in bundle; bad = bundle.bad }
