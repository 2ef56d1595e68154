use Rattle.std.proofs.Common.{◌≡◌, ℕ, ◌≤◌, List, length, take, map, Result, Ok, Err, refl, sym, ap, subst, ◌∙◌, arith}
use Rattle.std.specs.Prelude.{IsErrAnd}
use Rattle.std.specs.List.{AllByRecursion}
use Rattle.std.proofs.lemmas.List.{length-take-le}
use Rattle.fv_outside.specs.declared.failure.Failure.{Failure}
use Rattle.fv_outside.specs.declared.failure.Failure.TheVariants as failures
use Rattle.record_hash.specs.Functions.{DigestFunctions}
use Rattle.report_text.specs.declared.ending.BundleEnd.{BundleEnd}
use Rattle.seals.specs.Kept.{kept_in, seal_in}
use Rattle.seals.specs.Answer.{IsWhole}
use Rattle.bundle_frames.specs.Reading.{Reading}
use Rattle.verifier_run.specs.Progress.{weight}
use Rattle.check_core.specs.declared.seal_reading.FoundSeal.{FoundSeal}
use Rattle.check_core.proofs.GoingFromLemmas.{AreKept}
use Rattle.check_core.proofs.FoundLemmas.{memory_from, goes_on}
use Rattle.check_core.proofs.SealedRunsLemmas.{sealed_headers, sealed_weights, sealed_certify}
use Rattle.check_core.proofs.resuming.go_on_from.Goals as goal

-- the seal has no more bytes than were read
few : (functions : DigestFunctions) (found : FoundSeal) → found.until ≤ length found.buffer.items → IsWhole functions (take found.until found.buffer.items) found.state found.count
    → found.count ≤ found.until
few functions found there whole = let size = length-take-le found.until found.buffer.items there in omega (arith, whole.counted, size)

-- the error that a call hands on
handed_on : (r : Result BundleEnd Failure) (stop : Failure) → IsErrAnd r (λ error. error ≡ stop) → r ≡ Err stop
handed_on (Ok end) stop is = absurd is
handed_on (Err error) stop is = ap Err is

pub resumed_runs-requires : goal.resumed_runs-requires
resumed_runs-requires g c = record { good = c.is_good.ensures.good }

pub overflow_sub-most : goal.overflow_sub-most
overflow_sub-most g c =
    let before = few (g.D.Digests.functions c.args.d.now) c.args.found (omega (arith, c.requires.until, c.args.found.buffer.ok)) c.requires.whole in
    omega (arith, before, c.requires.within)

pub overflow_add-most : goal.overflow_add-most
overflow_add-most g c = omega (arith, c.is_good.ensures.good.taken, c.requires.limit)

pub resume-requires-clause-room : goal.resume-requires-clause-room
resume-requires-clause-room g c = c.requires.room

pub resume-requires-clause-from : goal.resume-requires-clause-from
resume-requires-clause-from g c = few (g.D.Digests.functions c.args.d.now) c.args.found (omega (arith, c.requires.until, c.args.found.buffer.ok)) c.requires.whole

pub resume-requires-clause-until : goal.resume-requires-clause-until
resume-requires-clause-until g c = c.requires.until

pub resume-requires-clause-within : goal.resume-requires-clause-within
resume-requires-clause-within g c =
    let before = few (g.D.Digests.functions c.args.d.now) c.args.found (omega (arith, c.requires.until, c.args.found.buffer.ok)) c.requires.whole in
    omega (arith, before, c.requires.within)

pub resume-requires-clause-limit : goal.resume-requires-clause-limit
resume-requires-clause-limit g c = omega (arith, c.is_good.ensures.good.taken, c.requires.limit)

pub go_on-requires-clause-header : goal.go_on-requires-clause-header
go_on-requires-clause-header g c κs within = c.is_good.ensures.good.header

pub go_on-requires-clause-few : goal.go_on-requires-clause-few
go_on-requires-clause-few g c κs within = omega (arith, c.is_good.ensures.good.header.verifiers, c.in_ok-runs.ensures.len, c.deref_mut.ensures.len)

pub go_on-requires-clause-headers : goal.go_on-requires-clause-headers
go_on-requires-clause-headers g c κs within =
    let state = c.args.found.state in
    sealed_headers state.header state.certified state.taken (map kept_in state.runs.items) c.deref_mut.result.now
    (ap (map (λ fed. fed.run)) c.deref_mut.ensures.value ∙ c.in_ok-runs.ensures.runs)

pub go_on-requires-clause-weights : goal.go_on-requires-clause-weights
go_on-requires-clause-weights g c κs within =
    let state = c.args.found.state in
    subst (λ (n : ℕ). AllByRecursion (λ fed. weight fed.run ≤ n) c.deref_mut.result.now) (sym (ap (λ (r : Reading). r.progress.offset) c.in_ok-reader.ensures.resumed))
    (sealed_weights state.header state.certified state.taken (map kept_in state.runs.items) c.deref_mut.result.now
    (ap (map (λ fed. fed.run)) c.deref_mut.ensures.value ∙ c.in_ok-runs.ensures.runs) c.bounds_say_more.ensures.clock c.is_good.ensures.good.runs)

pub go_on-requires-clause-can : goal.go_on-requires-clause-can
go_on-requires-clause-can g c κs within =
    let state = c.args.found.state in
    sealed_certify state.header state.certified state.taken (map kept_in state.runs.items) c.deref_mut.result.now
    (ap (map (λ fed. fed.run)) c.deref_mut.ensures.value ∙ c.in_ok-runs.ensures.runs) c.resume-certifier.result c.resume-certifier.ensures.counted
    (c.seals_can_be_certified.ensures.certified (seal_in state) c.is_good.ensures.good)

pub returns-in_err-runs-clause-from : goal.returns-in_err-runs-clause-from
returns-in_err-runs-clause-from g c =
    let functions = g.D.Digests.functions c.args.d.now in
    let kept : AreKept functions = record {
      whole = c.seals_keep_what_was_read.ensures.whole functions;
      judged = c.seals_keep_what_was_read.ensures.judged functions;
      read = c.seals_keep_what_was_read.ensures.read functions;
    } in
    memory_from functions kept c.args.found c.args.limit c.requires.whole (omega (arith, c.requires.until, c.args.found.buffer.ok)) c.requires.within
    _ _ _ _ _ _ _ (handed_on _ failures.Memory c.from_residual.ensures.1)

pub returns-in_err-reader-clause-from : goal.returns-in_err-reader-clause-from
returns-in_err-reader-clause-from g c =
    let functions = g.D.Digests.functions c.args.d.now in
    let kept : AreKept functions = record {
      whole = c.seals_keep_what_was_read.ensures.whole functions;
      judged = c.seals_keep_what_was_read.ensures.judged functions;
      read = c.seals_keep_what_was_read.ensures.read functions;
    } in
    memory_from functions kept c.args.found c.args.limit c.requires.whole (omega (arith, c.requires.until, c.args.found.buffer.ok)) c.requires.within
    _ _ _ _ _ _ _ (handed_on _ failures.Memory c.from_residual-in_err-reader.ensures.1)

pub returns-clause-from : goal.returns-clause-from
returns-clause-from g c =
    let functions = g.D.Digests.functions c.args.d.now in
    let kept : AreKept functions = record {
      whole = c.seals_keep_what_was_read.ensures.whole functions;
      judged = c.seals_keep_what_was_read.ensures.judged functions;
      read = c.seals_keep_what_was_read.ensures.read functions;
    } in
    goes_on functions kept c.args.found c.args.limit c.requires.whole (omega (arith, c.requires.until, c.args.found.buffer.ok)) c.requires.within
    c.in_ok-reader.reader c.in_ok-reader.ensures.resumed c.resume-certifier.result c.resume-certifier.ensures.counted c.deref_mut.result.now
    (ap (map (λ fed. fed.run)) c.deref_mut.ensures.value ∙ c.in_ok-runs.ensures.runs) _ _ _ _ _ c.go_on.result c.go_on.ensures.vault c.go_on.ensures.reads
    (λ all logs come checked. c.go_on.ensures.answers all (g.S.Source.faults c.args.source.now) c.args.found.count logs (record {}) come checked refl)
