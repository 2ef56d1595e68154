-- The frames in which the bytes of a log are written.
use Rattle.std.specs.Prelude.{ℕ, zero, suc, List, [], ◌∷◌, length, take, drop, map}
use Rattle.std.specs.List.{flat_map}
use Rattle.bundle_frames.specs.Bundle.{Frame, longest_body, frame_text}

-- Bytes in bodies of the longest kind, and a last one of what is left. The count bounds how many they are: each has a
-- byte at least, so the number of bytes is enough.
unfoldable pub bodies_up_to : ℕ → List ℕ → List (List ℕ)
bodies_up_to zero bytes = []
bodies_up_to (suc count) [] = []
bodies_up_to (suc count) (byte ∷ bytes) = take longest_body (byte ∷ bytes) ∷ bodies_up_to count (drop longest_body (byte ∷ bytes))

-- the bodies of these bytes
abbrev pub bodies_of : List ℕ → List (List ℕ)
bodies_of bytes = bodies_up_to (length bytes) bytes

-- a frame of a verifier with this body
abbrev pub frame_with : ℕ → List ℕ → Frame
frame_with verifier body = record { verifier = verifier; body = body }

-- the frames in which bytes of a verifier's log are written
unfoldable pub frames_of : ℕ → List ℕ → List Frame
frames_of verifier bytes = map (frame_with verifier) (bodies_of bytes)

-- the texts of frames, joined
abbrev pub texts_of : List Frame → List ℕ
texts_of frames = flat_map (λ frame. frame_text frame.verifier frame.body) frames

-- the text of these frames
abbrev pub frames_text : ℕ → List ℕ → List ℕ
frames_text verifier bytes = texts_of (frames_of verifier bytes)

-- the frames of pieces of logs, which may have any length
abbrev pub frames_of_pieces : List Frame → List Frame
frames_of_pieces pieces = flat_map (λ piece. frames_of piece.verifier piece.body) pieces

-- and their text
abbrev pub pieces_text : List Frame → List ℕ
pieces_text pieces = flat_map (λ piece. frames_text piece.verifier piece.body) pieces
