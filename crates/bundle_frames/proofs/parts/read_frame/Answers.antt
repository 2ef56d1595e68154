use Rattle.std.proofs.Common.{ℕ, subst, ◌≤◌, ◌+◌, ◌++◌, length, take, drop, sym, ap, ◌∙◌, refl, arith}
use Rattle.std.proofs.lemmas.Slice.{between_to_end}
use Rattle.bundle_frames.specs.Bundle.{head_bytes, head_length, head_verifier}
use Rattle.bundle_frames.specs.Finds.{FindsFrame}
use Rattle.bundle_frames.proofs.PartLaws.{is_head-from, finds_bad_frame, finds_part, finds_frame, held-twice}
use Rattle.bundle_frames.proofs.parts.read_frame.Goals as goal

pub returns-then-not-is_head_in_range-clause-finds :
    goal.returns-then-not-is_head_in_range-clause-finds
returns-then-not-is_head_in_range-clause-finds c =
    let held = c.args.buffer.now.items in
    let piece = c.args.piece.now in
    let n = c.fill-head.result in
    let bytes = c.fill-head.ensures.bytes in
    let shown = c.deref.ensures.value ∙ bytes in
    let long : head_bytes ≤ length (held ++ take n piece) = omega (arith, ap length bytes) in
    let bad = is_head-from c.args.header.now.verifiers _ _ (held ++ take n piece) _ (c.head_at-verifier.ensures.verifier ∙ ap head_verifier shown)
    (c.head_at-verifier.ensures.length ∙ ap head_length shown) c.is_head_in_range.ensures.value ∙ c.if-not-is_head_in_range.true in
    (refl, finds_bad_frame c.args.header.now held piece n (c.requires.unfinished.short_frame _ refl) c.fill-head.ensures.count long bad)

pub returns-then-len-length-clause-finds : goal.returns-then-len-length-clause-finds
returns-then-len-length-clause-finds c =
    let held = c.args.buffer.now.items in
    let piece = c.args.piece.now in
    let n = c.fill-head.result in
    let bytes = c.fill-head.ensures.bytes in
    let shown = c.deref.ensures.value ∙ bytes in
    let long : head_bytes ≤ length (held ++ take n piece) = omega (arith, ap length bytes) in
    let size = c.head_at-verifier.ensures.length ∙ ap head_length shown in
    let good = is_head-from c.args.header.now.verifiers _ _ (held ++ take n piece) _ (c.head_at-verifier.ensures.verifier ∙ ap head_verifier shown)
    size c.is_head_in_range.ensures.value ∙ c.if-not-is_head_in_range.false in
    let rest = between_to_end piece n (length piece) (omega arith) in
    let both = c.fill.ensures.bytes ∙ ap (λ xs. c.fill-head.new.buffer.items ++ take c.fill.result xs) rest ∙ ap (λ xs. xs ++ take c.fill.result (drop n piece)) bytes ∙ held-twice held piece n c.fill.result in
    finds_part c.args.header.now held piece n c.fill.result (omega arith) long good
    (omega (arith, ap length bytes, ap length rest, size)) (omega (arith, ap length both, size))

pub returns-clause-finds : goal.returns-clause-finds
returns-clause-finds c =
    let held = c.args.buffer.now.items in
    let piece = c.args.piece.now in
    let n = c.fill-head.result in
    let bytes = c.fill-head.ensures.bytes in
    let shown = c.deref.ensures.value ∙ bytes in
    let long : head_bytes ≤ length (held ++ take n piece) = omega (arith, ap length bytes) in
    let verifier = c.head_at-verifier.ensures.verifier ∙ ap head_verifier shown in
    let size = c.head_at-verifier.ensures.length ∙ ap head_length shown in
    let good = is_head-from c.args.header.now.verifiers _ _ (held ++ take n piece) _ verifier size c.is_head_in_range.ensures.value ∙ c.if-not-is_head_in_range.false in
    let rest = between_to_end piece n (length piece) (omega arith) in
    let both = c.fill.ensures.bytes ∙ ap (λ xs. c.fill-head.new.buffer.items ++ take c.fill.result xs) rest ∙ ap (λ xs. xs ++ take c.fill.result (drop n piece)) bytes ∙ held-twice held piece n c.fill.result in
    let found = finds_frame c.args.header.now held piece n c.fill.result (c.requires.unfinished.short_frame _ refl) (omega arith) long good
    (omega (arith, ap length bytes, ap length rest, size)) (omega (arith, ap length both, size)) c.fill-head.ensures.count in
    let Finds : ℕ → Type 0 = λ v. FindsFrame c.args.header.now held piece (n + c.fill.result) v in
    subst Finds (sym verifier) found

pub returns-clause-bytes : goal.returns-clause-bytes
returns-clause-bytes c =
    let held = c.args.buffer.now.items in
    let piece = c.args.piece.now in
    let n = c.fill-head.result in
    let rest = between_to_end piece n (length piece) (omega arith) in
    c.fill.ensures.bytes ∙ ap (λ xs. c.fill-head.new.buffer.items ++ take c.fill.result xs) rest ∙ ap (λ xs. xs ++ take c.fill.result (drop n piece)) c.fill-head.ensures.bytes ∙ held-twice held piece n c.fill.result
