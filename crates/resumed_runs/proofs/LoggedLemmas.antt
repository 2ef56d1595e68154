-- The logs of a bundle are made of its bytes, and the first epoch of its header has 32 bits.
use Rattle.std.proofs.Common.{◌≡◌, ℕ, zero, suc, ◌+◌, ◌^◌, ◌<◌, ◌≤◌, ◌==◌, Bool, true, false, cond, List, [], ◌∷◌, ◌++◌, length, take, drop, length-append, length-drop, Option, Some, None, refl, ap, subst, arith}
use Rattle.std.specs.Prelude.{slice_range}
use Rattle.std.specs.List.{AllByRecursion}
use Rattle.std.proofs.lemmas.List.{length-take}
use Rattle.lamport_clocks.specs.declared.header.Header.{Header}
use Rattle.record_text.proofs.FieldLaws.{AreBytes, AreBytes-drop, AreBytes-take, AreBytes-rest, wide32}
use Rattle.bundle_frames.specs.Bundle.{head_bytes, head_length, header_bytes, header_in, Frame, Frames, frame_bytes, frame_in, frames_behind, frames_up_to, bundle_behind, bundle_of, body_for, log_of}
use Rattle.bundle_frames.proofs.HeaderLaws.{IsHeaderOf-from_header_in}
use Rattle.bundle_frames.proofs.FindsLaws.{IsFrameOf-from_frame_in}
use Rattle.bundle_report.specs.Logs.{log_count, empty_logs, joined_from, logs_so_far}
use Rattle.bundle_report.specs.Logged.{logged_of}

-- a log has at most so many bytes, and each is one
pub record IsLogWithin (most : ℕ) (log : List ℕ) : Type 0 where
  pub few : length log ≤ most
  pub bytes : AreBytes log

none_within : (most : ℕ) → IsLogWithin most []
none_within most = record { few = omega arith; bytes = λ i. omega arith }

-- one behind another
bytes-append : (xs ys : List ℕ) → AreBytes xs → AreBytes ys → AreBytes (xs ++ ys)
bytes-append [] ys some others i = others i
bytes-append (x ∷ xs) ys some others zero = some 0
bytes-append (x ∷ xs) ys some others (suc i) = bytes-append xs ys (AreBytes-rest x xs some) others i

within-append : (low high most : ℕ) (xs ys : List ℕ) → IsLogWithin low xs → IsLogWithin high ys → low + high ≤ most → IsLogWithin most (xs ++ ys)
within-append low high most xs ys some others fits =
    record { few = omega (arith, some.few, others.few, fits, length-append xs ys); bytes = bytes-append xs ys some.bytes others.bytes }

within-more : (low high : ℕ) (xs : List ℕ) → low ≤ high → IsLogWithin low xs → IsLogWithin high xs
within-more low high xs fits is = record { few = omega (arith, is.few, fits); bytes = is.bytes }

-- ---- frames

-- what a frame adds to a log is its body, or nothing
body_within : (verifier : ℕ) (frame : Frame) → AreBytes frame.body → IsLogWithin (length frame.body) (body_for verifier frame)
body_within verifier frame bytes = go (frame.verifier == verifier)
  where
    go : (b : Bool) → IsLogWithin (length frame.body) (cond b frame.body [])
    go true = record { few = omega arith; bytes = bytes }
    go false = none_within (length frame.body)

-- a frame is made of the bytes at whose front it stands
pub record IsMadeOf (bytes : List ℕ) (frame : Frame) : Type 0 where
  pub few : frame_bytes frame ≤ length bytes
  pub body : AreBytes frame.body

frame_made : (verifiers : ℕ) (bytes : List ℕ) (frame : Frame) → AreBytes bytes → frame_in verifiers bytes ≡ Some frame → IsMadeOf bytes frame
frame_made verifiers bytes frame fits is =
    let found = IsFrameOf-from_frame_in verifiers bytes frame is in
    let size : length (take (head_length bytes) (drop head_bytes bytes)) ≡ length frame.body = ap (λ (xs : List ℕ). length xs) found.body in
    record {
      few = omega (arith, size, length-take (head_length bytes) (drop head_bytes bytes), length-drop head_bytes bytes, found.there);
      body = subst AreBytes found.body (AreBytes-take (head_length bytes) (drop head_bytes bytes) (AreBytes-drop head_bytes bytes fits));
    }

-- the log of a verifier is made of the bytes of frames
frames_within : (verifier count verifiers offset : ℕ) (bytes : List ℕ) → AreBytes bytes → IsLogWithin (length bytes) (log_of verifier (frames_up_to count verifiers offset bytes).frames)
unfolding frames_up_to
frames_within verifier zero verifiers offset bytes fits = none_within (length bytes)
frames_within verifier (suc count) verifiers offset [] fits = none_within 0
frames_within verifier (suc count) verifiers offset (byte ∷ bytes) fits =
    go (frame_in verifiers (byte ∷ bytes)) refl
    (λ frame. frames_within verifier count verifiers (offset + frame_bytes frame) (drop (frame_bytes frame) (byte ∷ bytes)) (AreBytes-drop (frame_bytes frame) (byte ∷ bytes) fits))
  where
    rest : Frame → Frames
    rest frame = frames_up_to count verifiers (offset + frame_bytes frame) (drop (frame_bytes frame) (byte ∷ bytes))

    go : (found : Option Frame) → frame_in verifiers (byte ∷ bytes) ≡ found
        → ((frame : Frame) → IsLogWithin (length (drop (frame_bytes frame) (byte ∷ bytes))) (log_of verifier (rest frame).frames))
        → IsLogWithin (suc (length bytes)) (log_of verifier (frames_behind offset found rest).frames)
    go None is further = none_within (suc (length bytes))
    go (Some frame) is further =
        let made = frame_made verifiers (byte ∷ bytes) frame fits is in
        within-append (length frame.body) (length (drop (frame_bytes frame) (byte ∷ bytes))) (suc (length bytes)) (body_for verifier frame) (log_of verifier (rest frame).frames)
        (body_within verifier frame made.body) (further frame) (omega (arith, made.few, length-drop (frame_bytes frame) (byte ∷ bytes)))

-- ---- a bundle

bundle_within : (verifier : ℕ) (bytes : List ℕ) (header : Option Header) → AreBytes bytes → IsLogWithin (length bytes) (log_of verifier (bundle_behind header bytes).frames)
bundle_within verifier bytes None fits = none_within (length bytes)
bundle_within verifier bytes (Some header) fits =
    let size = header_bytes header.version in
    let rest = drop size bytes in
    within-more (length rest) (length bytes) _ (omega (arith, length-drop size bytes)) (frames_within verifier (length rest) header.verifiers size rest (AreBytes-drop size bytes fits))

joined_within : (most number count : ℕ) (frames : List Frame) → ((verifier : ℕ) → IsLogWithin most (log_of verifier frames)) → AllByRecursion (IsLogWithin most) (joined_from number (empty_logs count) frames)
joined_within most number zero frames each = tt
joined_within most number (suc count) frames each = (each number, joined_within most (suc number) count frames each)

-- The logs of a bundle are made of its bytes.
pub logs_within : (bytes : List ℕ) → AreBytes bytes → AllByRecursion (IsLogWithin (length bytes)) (logged_of bytes).logs
logs_within bytes fits = go (bundle_of bytes).header
  where
    go : (header : Option Header) → AllByRecursion (IsLogWithin (length bytes)) (joined_from 0 (logs_so_far None [] header) (bundle_of bytes).frames)
    go header = joined_within (length bytes) 0 (log_count header) (bundle_of bytes).frames (λ verifier. bundle_within verifier bytes (header_in bytes) fits)

-- ---- its header

header_behind : (found : Option Header) (bytes : List ℕ) (header : Header) → (bundle_behind found bytes).header ≡ Some header → found ≡ Some header
header_behind None bytes header is = is
header_behind (Some other) bytes header is = is

-- The first epoch of its header has 32 bits.
pub header_first : (bytes : List ℕ) (header : Header) → AreBytes bytes → (logged_of bytes).header ≡ Some header → header.first < 2 ^ 32
header_first bytes header fits is =
    let numbers = (IsHeaderOf-from_header_in bytes header (header_behind (header_in bytes) bytes header is)).numbers in
    subst (λ (h : Header). h.first < 2 ^ 32) numbers (wide32.below (slice_range bytes 10 14) (AreBytes-take 4 (drop 10 bytes) (AreBytes-drop 10 bytes fits)))
