use Rattle.std.proofs.Common.{◌≡◌, ℕ, List, [], ◌∷◌, ◌++◌, length, drop, map, sym, ◌∙◌, ap, append_assoc}
use Rattle.std.proofs.lemmas.List.{map-append}
use Rattle.bundle_frames.specs.declared.found.Found.{Found}
use Rattle.bundle_frames.specs.declared.whole.WholeFrame.{WholeFrame}
use Rattle.bundle_frames.specs.Bundle.{Bundle, Frame, with_frames}
use Rattle.bundle_frames.specs.Progress.{Progress, rest_of}
use Rattle.bundle_frames.specs.Finds.{found_then}
use Rattle.bundle_frames.specs.WholeBundle.{frame_in, frames_in}
use Rattle.bundle_frames.proofs.whole.collect_one.Goals as goal

pub returns-in-Bad-clause-rest : goal.returns-in-Bad-clause-rest
returns-in-Bad-clause-rest c = λ more.
    let fed = c.feed-fed in
    let piece = c.args.piece.now in
    let p : Progress = fed.new.self in
    let left = rest_of p (drop fed.result.taken piece ++ more) in
    ap (with_frames (frames_in c.args.bundle.now))
    (fed.ensures.rest more ∙ ap (λ (found : Found). found_then found p.body left) c.in-Bad.is
    ∙ fed.ensures.last _ c.in-Bad.is (drop fed.result.taken piece ++ more) ∙ sym (fed.ensures.last _ c.in-Bad.is (drop (length piece) piece ++ more)))

pub returns-in-Head-clause-rest : goal.returns-in-Head-clause-rest
returns-in-Head-clause-rest c = λ more.
    let fed = c.feed-fed in
    let piece = c.args.piece.now in
    let p : Progress = fed.new.self in
    let left = rest_of p (drop fed.result.taken piece ++ more) in
    ap (with_frames (frames_in c.args.bundle.now)) (fed.ensures.rest more ∙ ap (λ (found : Found). found_then found p.body left) c.in-Head.is)

-- a frame in front of what is left, or behind those that were collected
frame-collected : (old new : List WholeFrame) (one : WholeFrame) (frame : Frame) (left : Bundle) → new ≡ old ++ (one ∷ []) → frame_in one ≡ frame
    → with_frames (map frame_in old) (with_frames (frame ∷ []) left) ≡ with_frames (map frame_in new) left
frame-collected old new one frame left more same =
    let With : List Frame → Bundle = λ frames. record left { frames = frames } in
    ap With (ap (λ (f : Frame). map frame_in old ++ (f ∷ left.frames)) (sym same) ∙ sym (append_assoc (map frame_in old) (frame_in one ∷ []) left.frames)
    ∙ ap (λ (front : List Frame). front ++ left.frames) (sym (map-append frame_in old (one ∷ [])) ∙ ap (map frame_in) (sym more)))

pub returns-in_ok-push-in-Frame-clause-rest : goal.returns-in_ok-push-in-Frame-clause-rest
returns-in_ok-push-in-Frame-clause-rest c = λ more.
    let fed = c.feed-fed in
    let p : Progress = fed.new.self in
    let left = rest_of p (drop fed.result.taken c.args.piece.now ++ more) in
    let With : List ℕ → Frame = λ body. record { verifier = c.in-Frame.verifier; body = body } in
    ap (with_frames (frames_in c.args.bundle.now)) (fed.ensures.rest more ∙ ap (λ (found : Found). found_then found p.body left) c.in-Frame.is)
    ∙ frame-collected _ _ _ _ left c.in_ok-push-in-Frame.ensures.items (ap With (c.in_ok-body-in-Frame.ensures.items ∙ c.body.ensures.value))
