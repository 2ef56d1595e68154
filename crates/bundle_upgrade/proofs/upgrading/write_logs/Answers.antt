use Rattle.std.proofs.Common.{◌≡◌, ℕ, suc, ◌+◌, [], List, map, subst, arith}
use Rattle.std.proofs.lemmas.List.{length-map}
use Rattle.std.proofs.lemmas.Result.{err_from_is_err_and}
use Rattle.fv_outside.specs.Written.{Grows, GrowsByFront}
use Rattle.host_log.specs.Frames.{frames_text}
use Rattle.host_rounds.proofs.FramingLaws.{text-step, wrote-part, wrote-front}
use Rattle.bundle_upgrade.proofs.RewritingLemmas.{log_text}
use Rattle.bundle_upgrade.proofs.upgrading.write_logs.Goals as goal

pub loop-number-preserved : goal.loop-number-preserved
loop-number-preserved g c =
    let number = c.loop-number.number in
    let logs = map (λ log. log.items) c.args.logs.now in
    let next : number + 1 ≡ suc number = omega arith in
    let is = text-step number (number + 1) logs [] next (omega (arith, c.loop-number-test.true, length-map c.args.logs.now (λ log. log.items))) in
    record {
      wrote =
          wrote-part _ _ _ _ _ _ _ c.loop-number.invariant.wrote is
          (subst (λ (bytes : List ℕ). Grows (g.O.Sink.held c.loop-number.out) (g.O.Sink.held c.frames.new.sink) (frames_text number bytes))
          (log_text (λ log. log.items) c.args.logs.now number c.index-logs-number.result _ c.deref.result.now c.loop-number-test.true c.index-logs-number.is c.deref.ensures.value)
          c.in_ok-frames.ensures.whole);
      counted = omega (arith, c.loop-number.invariant.counted, c.in_ok-frames.ensures.counts.never_falls);
    }

pub returns-in_err-frames-clause-front : goal.returns-in_err-frames-clause-front
returns-in_err-frames-clause-front g c =
    let number = c.loop-number.number in
    let logs = map (λ log. log.items) c.args.logs.now in
    let next : number + 1 ≡ suc number = omega arith in
    let is = text-step number (number + 1) logs [] next (omega (arith, c.loop-number-test.true, length-map c.args.logs.now (λ log. log.items))) in
    let p = err_from_is_err_and c.from_residual.result c.from_residual.ensures.1 in
    rw p.1
    (wrote-front _ _ _ _ _ _ _ c.loop-number.invariant.wrote is
    (subst (λ (bytes : List ℕ). GrowsByFront (g.O.Sink.held c.loop-number.out) (g.O.Sink.held c.frames.new.sink) (frames_text number bytes))
    (log_text (λ log. log.items) c.args.logs.now number c.index-logs-number.result _ c.deref.result.now c.loop-number-test.true c.index-logs-number.is c.deref.ensures.value)
    c.in_err-frames.ensures.front))
