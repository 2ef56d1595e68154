-- Laws of the grammar of bundles.
use Rattle.std.proofs.Common.{◌≡◌, ℕ, zero, suc, ◌+◌, ◌≤◌, ◌<◌, List, [], ◌∷◌, ◌++◌, length, drop, Option, Some, None, ap, refl, arith, length-drop}
use Rattle.std.proofs.lemmas.List.{append_assoc}
use Rattle.bundle_frames.specs.Bundle.{Frame, Frames, Bundle, with_frames, frame_in, frame_bytes, frames_behind, with_frame, frames_up_to, frames_from}

-- what follows where a frame should begin is the same by two readers that agree
frames_behind-same : (offset : ℕ) (frame : Option Frame) (a b : Frame → Frames) → ((f : Frame) → a f ≡ b f)
    → frames_behind offset frame a ≡ frames_behind offset frame b
frames_behind-same offset None a b same = refl
frames_behind-same offset (Some frame) a b same = ap (with_frame frame) (same frame)

-- any two counts that are enough give the same frames
pub frames_up_to-same : (c d verifiers offset : ℕ) (bytes : List ℕ) → length bytes ≤ c → length bytes ≤ d
    → frames_up_to c verifiers offset bytes ≡ frames_up_to d verifiers offset bytes
unfolding frames_up_to
frames_up_to-same zero zero v o bytes p q = refl
frames_up_to-same zero (suc d) v o [] p q = refl
frames_up_to-same zero (suc d) v o (x ∷ xs) p q = absurd (omega arith)
frames_up_to-same (suc c) zero v o [] p q = refl
frames_up_to-same (suc c) zero v o (x ∷ xs) p q = absurd (omega arith)
frames_up_to-same (suc c) (suc d) v o [] p q = refl
frames_up_to-same (suc c) (suc d) v o (x ∷ xs) p q =
    frames_behind-same o (frame_in v (x ∷ xs)) _ _
    (λ f. frames_up_to-same c d v (o + frame_bytes f) (drop (frame_bytes f) (x ∷ xs))
    (omega (arith, length-drop (frame_bytes f) (x ∷ xs))) (omega (arith, length-drop (frame_bytes f) (x ∷ xs))))

-- any count from the number of bytes on gives the frames
pub frames_up_to-enough : (count verifiers offset : ℕ) (bytes : List ℕ) → length bytes ≤ count
    → frames_up_to count verifiers offset bytes ≡ frames_from verifiers offset bytes
frames_up_to-enough count v o bytes enough = frames_up_to-same count (length bytes) v o bytes enough (omega arith)

pub frames_from-empty : (verifiers offset : ℕ) → frames_from verifiers offset [] ≡ record { frames = []; bad = None }
unfolding frames_up_to
frames_from-empty v o = refl

-- the frames are the first and those behind it
pub frames_from-first : (verifiers offset : ℕ) (bytes : List ℕ) → 0 < length bytes
    → frames_from verifiers offset bytes ≡ frames_behind offset (frame_in verifiers bytes)
    (λ frame. frames_from verifiers (offset + frame_bytes frame) (drop (frame_bytes frame) bytes))
unfolding frames_up_to
frames_from-first v o [] some = absurd (omega arith)
frames_from-first v o (x ∷ xs) some =
    frames_behind-same o (frame_in v (x ∷ xs)) _ _
    (λ f. frames_up_to-enough (length xs) v (o + frame_bytes f) (drop (frame_bytes f) (x ∷ xs))
    (omega (arith, length-drop (frame_bytes f) (x ∷ xs))))

-- what was found last stands behind what was found before it
pub with_frames-push : (frames : List Frame) (frame : Frame) (bundle : Bundle)
    → with_frames (frames ++ frame ∷ []) bundle ≡ with_frames frames (with_frames (frame ∷ []) bundle)
with_frames-push frames frame bundle =
    ap (λ (fs : List Frame). let b : Bundle = record bundle { frames = fs } in b) (append_assoc frames (frame ∷ []) bundle.frames)
