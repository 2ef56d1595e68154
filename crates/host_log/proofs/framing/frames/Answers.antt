use Rattle.std.proofs.Common.{length, min, ◌∙◌, ap, arith}
use Rattle.std.specs.Slice.Iter.{chunks_rest}
use Rattle.std.proofs.lemmas.Result.{err_from_is_err_and}
use Rattle.host_log.proofs.FramesLemmas.{frames_text-step, frames_text-none, wrote-part, wrote-front, wrote-all}
use Rattle.host_log.proofs.framing.frames.Goals as goal

pub loop-body-preserved : goal.loop-body-preserved
loop-body-preserved g c =
    let rest = chunks_rest c.loop-body.body-iterator in
    let part = c.in-Some.ensures.steps.1 in
    let size = part.1 ∙ ap (λ n. min n (length rest)) c.loop-body.invariant.size in
    let is = frames_text-step c.args.verifier rest c.in-Some.body.now (chunks_rest c.next.new.self) part.0 size part.2 in
    record {
      wrote = wrote-part _ _ _ _ _ _ _ c.loop-body.invariant.wrote is c.in_ok-write_frame.ensures.whole;
      size = c.in-Some.ensures.steps.0 ∙ c.loop-body.invariant.size;
      name = c.in_ok-write_frame.ensures.name ∙ c.loop-body.invariant.name;
      counted = omega (arith, c.in_ok-write_frame.ensures.counts.never_falls);
    }

pub returns-in_err-write_frame-clause-front : goal.returns-in_err-write_frame-clause-front
returns-in_err-write_frame-clause-front g c =
    let p = err_from_is_err_and c.from_residual.result c.from_residual.ensures.1 in
    let rest = chunks_rest c.loop-body.body-iterator in
    let part = c.in-Some.ensures.steps.1 in
    let size = part.1 ∙ ap (λ n. min n (length rest)) c.loop-body.invariant.size in
    let is = frames_text-step c.args.verifier rest c.in-Some.body.now (chunks_rest c.next.new.self) part.0 size part.2 in
    rw p.1 (wrote-front _ _ _ _ _ _ _ c.loop-body.invariant.wrote is c.in_err-write_frame.ensures.front)

pub returns-clause-whole : goal.returns-clause-whole
returns-clause-whole g c =
    let none = frames_text-none c.args.verifier (chunks_rest c.loop-body.body-iterator) c.in-None.ensures.steps.1.0 in
    wrote-all _ _ _ _ none c.loop-body.invariant.wrote
