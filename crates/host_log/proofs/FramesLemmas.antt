-- Frames of bytes, one by one.
use Rattle.std.proofs.Common.{◌≡◌, ◌≢◌, ℕ, zero, suc, ◌+◌, ◌<◌, ◌≤◌, ◌==◌, min, Bool, true, false, if◌then◌else◌, Option, inl, inr, List, [], ◌∷◌, ◌++◌, length, take, drop, map, append_assoc, length-append, length-drop, length-take, take-append-drop, eq-eqb, refl, ap, sym, subst, ◌∙◌, arith}
use Rattle.std.specs.List.{flat_map, AllByRecursion}
use Rattle.std.proofs.Math.ListN.{drop_of_length-le}
use Rattle.std.proofs.Math.Seq.{take-append_seam, drop-append_seam}
use Rattle.std.proofs.lemmas.Bool.{cases_lt, eqb-true, ne_eqb}
use Rattle.std.proofs.lemmas.List.{append-nil, take_all}
use Rattle.std.proofs.lemmas.List.Concat.{flat_map-append}
use Rattle.fv_outside.specs.Written.{Grows, GrowsByFront}
use Rattle.fv_outside.proofs.WrittenLaws.{Grows-nil, Grows-then, GrowsByFront-more, GrowsByFront-then}
use Rattle.bundle_frames.specs.Bundle.{Frame, IsFrame, frame_text, longest_body, body_for, log_of}
use Rattle.host_log.specs.Frames.{bodies_up_to, bodies_of, frame_with, frames_of, texts_of, frames_text, frames_of_pieces, pieces_text}

-- a body from the front of some bytes, of as many as it may have, is in its range, and leaves fewer
front-range : (most byte : ℕ) (bytes : List ℕ) → 1 ≤ most → (1 ≤ length (take most (byte ∷ bytes))) × (length (take most (byte ∷ bytes)) ≤ most)
front-range most byte bytes some =
    let size = length-take most (byte ∷ bytes) in
    (omega arith, omega arith)

rest-shorter : (most byte : ℕ) (bytes : List ℕ) → 1 ≤ most → length (drop most (byte ∷ bytes)) ≤ length bytes
rest-shorter most byte bytes some = omega (arith, length-drop most (byte ∷ bytes))

-- more steps cut no further
bodies-enough : (count more : ℕ) (bytes : List ℕ) → length bytes ≤ count → length bytes ≤ more → bodies_up_to count bytes ≡ bodies_up_to more bytes
unfolding bodies_up_to
bodies-enough zero zero [] few some = refl
bodies-enough zero (suc more) [] few some = refl
bodies-enough (suc count) zero [] few some = refl
bodies-enough (suc count) (suc more) [] few some = refl
bodies-enough zero more (byte ∷ bytes) few some = absurd (omega arith)
bodies-enough (suc count) zero (byte ∷ bytes) few some = absurd (omega arith)
bodies-enough (suc count) (suc more) (byte ∷ bytes) few some =
    let rest = drop longest_body (byte ∷ bytes) in
    let shorter : length rest ≤ length bytes = rest-shorter longest_body byte bytes (omega arith) in
    ap (λ bodies. take longest_body (byte ∷ bytes) ∷ bodies) (bodies-enough count more rest (omega arith) (omega arith))

-- one body and the rest
pub bodies-step : (byte : ℕ) (bytes : List ℕ) → bodies_of (byte ∷ bytes) ≡ take longest_body (byte ∷ bytes) ∷ bodies_of (drop longest_body (byte ∷ bytes))
unfolding bodies_up_to
bodies-step byte bytes =
    let rest = drop longest_body (byte ∷ bytes) in
    let shorter : length rest ≤ length bytes = rest-shorter longest_body byte bytes (omega arith) in
    ap (λ bodies. take longest_body (byte ∷ bytes) ∷ bodies) (bodies-enough (length bytes) (length rest) rest shorter (omega arith))

-- the front of bytes that fill a body, or are all
cut : (body behind : List ℕ) → length body ≡ min longest_body (length (body ++ behind)) → (take longest_body (body ++ behind) ≡ body) × (drop longest_body (body ++ behind) ≡ behind)
cut body behind size =
    let sum : length (body ++ behind) ≡ length body + length behind = length-append body behind in
    elim (cases_lt (length (body ++ behind)) longest_body) [
      | inl short ↦
          let none : behind ≡ [] = length-zero behind (omega arith) in
          let whole : body ++ behind ≡ body = ap (λ rest. body ++ rest) none ∙ append-nil body in
          (take_all longest_body (body ++ behind) (omega arith) ∙ whole, drop_of_length-le (body ++ behind) {i = longest_body} (omega arith) ∙ sym none)
      | inr long ↦
          let full : longest_body ≡ length body = omega arith in
          (ap (λ n. take n (body ++ behind)) full ∙ take-append_seam body behind, ap (λ n. drop n (body ++ behind)) full ∙ drop-append_seam body behind)
    ]
  where
    length-zero : (bytes : List ℕ) → length bytes ≡ 0 → bytes ≡ []
    length-zero [] none = refl
    length-zero (byte ∷ bytes) none = absurd (omega arith)

-- one frame and the rest
pub frames_text-step : (verifier : ℕ) (bytes body behind : List ℕ) → bytes ≡ body ++ behind → length body ≡ min longest_body (length bytes) → 0 < length bytes
    → frames_text verifier bytes ≡ frame_text verifier body ++ frames_text verifier behind
unfolding frames_of
frames_text-step verifier [] body behind is size some = absurd (omega arith)
frames_text-step verifier (byte ∷ bytes) body behind is size some =
    let parts = cut body behind (size ∙ ap (λ all. min longest_body (length all)) is) in
    ap (λ bodies. texts_of (map (frame_with verifier) bodies)) (bodies-step byte bytes)
    ∙ ap (λ front. frame_text verifier front ++ texts_of (map (frame_with verifier) (bodies_of (drop longest_body (byte ∷ bytes))))) (ap (take longest_body) is ∙ parts.0)
    ∙ ap (λ rest. frame_text verifier body ++ texts_of (map (frame_with verifier) (bodies_of rest))) (ap (drop longest_body) is ∙ parts.1)

pub frames_text-none : (verifier : ℕ) (bytes : List ℕ) → length bytes ≡ 0 → frames_text verifier bytes ≡ []
unfolding frames_of bodies_up_to
frames_text-none verifier [] none = refl
frames_text-none verifier (byte ∷ bytes) none = absurd (omega arith)

-- ---- the laws

-- each body has some bytes, and no more than it may
bodies-range : (count : ℕ) (bytes : List ℕ) → AllByRecursion (λ body. (1 ≤ length body) × (length body ≤ longest_body)) (bodies_up_to count bytes)
unfolding bodies_up_to
bodies-range zero bytes = tt
bodies-range (suc count) [] = tt
bodies-range (suc count) (byte ∷ bytes) = (front-range longest_body byte bytes (omega arith), bodies-range count (drop longest_body (byte ∷ bytes)))

frames-range : (verifiers verifier : ℕ) (bodies : List (List ℕ)) → verifier < verifiers
    → AllByRecursion (λ body. (1 ≤ length body) × (length body ≤ longest_body)) bodies → AllByRecursion (IsFrame verifiers) (map (frame_with verifier) bodies)
frames-range verifiers verifier [] one are = tt
frames-range verifiers verifier (body ∷ bodies) one are =
    (record { verifier = one; some = are.0.0; bounded = are.0.1 }, frames-range verifiers verifier bodies one are.1)

pub frames_of-range : (verifiers verifier : ℕ) (bytes : List ℕ) → verifier < verifiers → AllByRecursion (IsFrame verifiers) (frames_of verifier bytes)
unfolding frames_of
frames_of-range verifiers verifier bytes one = frames-range verifiers verifier (bodies_of bytes) one (bodies-range (length bytes) bytes)

-- the bodies join to the bytes
bodies-joined : (count : ℕ) (bytes : List ℕ) → length bytes ≤ count → flat_map (λ body. body) (bodies_up_to count bytes) ≡ bytes
unfolding bodies_up_to
bodies-joined zero [] enough = refl
bodies-joined zero (byte ∷ bytes) enough = absurd (omega arith)
bodies-joined (suc count) [] enough = refl
bodies-joined (suc count) (byte ∷ bytes) enough =
    let rest = drop longest_body (byte ∷ bytes) in
    let shorter : length rest ≤ length bytes = rest-shorter longest_body byte bytes (omega arith) in
    ap (λ more. take longest_body (byte ∷ bytes) ++ more) (bodies-joined count rest (omega arith)) ∙ take-append-drop longest_body (byte ∷ bytes)

log-own : (verifier : ℕ) (bodies : List (List ℕ)) → log_of verifier (map (frame_with verifier) bodies) ≡ flat_map (λ body. body) bodies
log-own verifier [] = refl
log-own verifier (body ∷ bodies) =
    let same : (verifier == verifier) ≡ true = eq-eqb verifier verifier refl in
    rw same (ap (λ more. body ++ more) (log-own verifier bodies))

log-other : (verifier other : ℕ) (bodies : List (List ℕ)) → (verifier == other) ≡ false → log_of other (map (frame_with verifier) bodies) ≡ []
log-other verifier other [] apart = refl
log-other verifier other (body ∷ bodies) apart = rw apart (log-other verifier other bodies apart)

pub frames_of-joined : (verifier : ℕ) (bytes : List ℕ) → log_of verifier (frames_of verifier bytes) ≡ bytes
unfolding frames_of
frames_of-joined verifier bytes = log-own verifier (bodies_of bytes) ∙ bodies-joined (length bytes) bytes (omega arith)

frames_of-other : (verifier other : ℕ) (bytes : List ℕ) → (verifier == other) ≡ false → log_of other (frames_of verifier bytes) ≡ []
unfolding frames_of
frames_of-other verifier other bytes apart = log-other verifier other (bodies_of bytes) apart

pub frames_of-apart : (verifier other : ℕ) (bytes : List ℕ) → verifier ≢ other → log_of other (frames_of verifier bytes) ≡ []
frames_of-apart verifier other bytes apart = frames_of-other verifier other bytes (ne_eqb verifier other apart)

-- a piece adds to a log what it has of it
frames_of-piece : (verifier : ℕ) (piece : Frame) → log_of verifier (frames_of piece.verifier piece.body) ≡ body_for verifier piece
frames_of-piece verifier piece = go (piece.verifier == verifier) refl where
  go : (same : Bool) → (piece.verifier == verifier) ≡ same → log_of verifier (frames_of piece.verifier piece.body) ≡ (if same then piece.body else [])
  go true is =
      let own = eqb-true piece.verifier verifier is in
      ap (λ v. log_of v (frames_of piece.verifier piece.body)) (sym own) ∙ frames_of-joined piece.verifier piece.body
  go false is = frames_of-other piece.verifier verifier piece.body is

pub pieces-logs : (verifier : ℕ) (pieces : List Frame) → log_of verifier (frames_of_pieces pieces) ≡ log_of verifier pieces
pieces-logs verifier [] = refl
pieces-logs verifier (piece ∷ pieces) =
    flat_map-append (body_for verifier) (frames_of piece.verifier piece.body) (frames_of_pieces pieces)
    ∙ ap (λ front. front ++ log_of verifier (frames_of_pieces pieces)) (frames_of-piece verifier piece)
    ∙ ap (λ more. body_for verifier piece ++ more) (pieces-logs verifier pieces)

-- the text of the pieces is that of their frames
pub pieces-text : (pieces : List Frame) → pieces_text pieces ≡ texts_of (frames_of_pieces pieces)
pieces-text [] = refl
pieces-text (piece ∷ pieces) =
    ap (λ more. frames_text piece.verifier piece.body ++ more) (pieces-text pieces)
    ∙ sym (flat_map-append (λ frame. frame_text frame.verifier frame.body) (frames_of piece.verifier piece.body) (frames_of_pieces pieces))

pub pieces-range : (verifiers : ℕ) (pieces : List Frame) → AllByRecursion (λ piece. piece.verifier < verifiers) pieces → AllByRecursion (IsFrame verifiers) (frames_of_pieces pieces)
pieces-range verifiers [] are = tt
pieces-range verifiers (piece ∷ pieces) are =
    both (frames_of piece.verifier piece.body) (frames_of_pieces pieces) (frames_of-range verifiers piece.verifier piece.body are.0) (pieces-range verifiers pieces are.1)
  where
    both : (front back : List Frame) → AllByRecursion (IsFrame verifiers) front → AllByRecursion (IsFrame verifiers) back → AllByRecursion (IsFrame verifiers) (front ++ back)
    both [] back fs bs = bs
    both (frame ∷ front) back fs bs = (fs.0, both front back fs.1 bs)

-- ---- writing

-- a front of a text was written, and this rest of it was not
pub record Wrote (old new : Option (List ℕ)) (text rest : List ℕ) : Type 0 where
  pub front : List ℕ
  pub parts : text ≡ front ++ rest
  pub grown : Grows old new front

-- nothing of it
pub wrote-nothing : (held : Option (List ℕ)) (text : List ℕ) → Wrote held held text text
wrote-nothing held text = record { front = []; parts = refl; grown = Grows-nil held }

-- one part more
pub wrote-part : (old now new : Option (List ℕ)) (text rest part more : List ℕ) → Wrote old now text rest → rest ≡ part ++ more → Grows now new part → Wrote old new text more
wrote-part old now new text rest part more before is grown = record {
  front = before.front ++ part;
  parts = before.parts ∙ ap (λ rest. before.front ++ rest) is ∙ sym (append_assoc before.front part more);
  grown = Grows-then old now new before.front part before.grown grown;
}

-- a front of one part more
pub wrote-front : (old now new : Option (List ℕ)) (text rest part more : List ℕ) → Wrote old now text rest → rest ≡ part ++ more → GrowsByFront now new part → GrowsByFront old new text
wrote-front old now new text rest part more before is grown =
    let P : List ℕ → Type 0 = GrowsByFront old new in
    subst P (sym (before.parts ∙ ap (λ rest. before.front ++ rest) is))
    (GrowsByFront-then old now new before.front (part ++ more) before.grown (GrowsByFront-more now new part more grown))

-- all of it
pub wrote-all : (old new : Option (List ℕ)) (text rest : List ℕ) → rest ≡ [] → Wrote old new text rest → Grows old new text
wrote-all old new text rest none before =
    let P : List ℕ → Type 0 = Grows old new in
    subst P (sym (before.parts ∙ ap (λ rest. before.front ++ rest) none ∙ append-nil before.front)) before.grown
