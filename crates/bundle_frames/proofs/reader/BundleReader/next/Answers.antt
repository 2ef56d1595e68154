use Rattle.std.proofs.Common.{◌≡◌, ◌<◌, ℕ, Option, Some, Err, Ok, is_ok, true≢false, sym, ap, subst, ◌∙◌, refl, arith}
use Rattle.std.specs.Prelude.{IsSomeAnd}
use Rattle.lamport_clocks.specs.declared.header.Header.{Header}
use Rattle.bundle_frames.specs.declared.coming.Next.TheVariants.{Frame, End}
use Rattle.fv_outside.specs.declared.failure.Failure.TheVariants.{InputLimit}
use Rattle.bundle_frames.specs.Bundle.{IsFrame}
use Rattle.bundle_frames.specs.Progress.{Progress, position}
use Rattle.bundle_frames.specs.Extent.{IsDue}
use Rattle.bundle_frames.proofs.ReadingLaws.{HasRead-none, HasRead-then, ReadsAs-none, ReadsAs-then, ReadsAs-kept, ReadsAs-back, near-then}
use Rattle.bundle_frames.proofs.ReaderLemmas.{some_all, over_at_end, spent_due}
use Rattle.bundle_frames.proofs.reader.BundleReader.next.Goals as goal

pub pieces-init : goal.pieces-init
pieces-init g c = record {
  due = c.requires.due;
  header = refl;
  limit = refl;
  rises = omega arith;
  took = HasRead-none _ _ (omega arith);
  means = ReadsAs-none _ _ _ _ (omega arith) (λ more. refl);
  extent = ReadsAs-none _ _ _ _ (omega arith) (λ more. refl);
  near = λ less. absurd (omega arith);
  onward = omega arith;
  further = omega arith;
  faults = omega arith;
}

pub pieces-preserved : goal.pieces-preserved
pieces-preserved g c =
    let last = c.pieces.invariant in
    let fill = c.fill.ensures in
    let split = c.in-None.ensures in
    record {
      due = split.due (λ is. cc);
      header = split.header ∙ ap (λ (p : Progress). p.header) fill.progress ∙ last.header;
      limit = split.limit ∙ fill.same_limit ∙ last.limit;
      rises = omega (arith, split.taken, fill.rises, last.rises);
      took = HasRead-then _ _ _ _ _ _ last.took (c.in-Ok.ensures.took (λ is. true≢false (ap is_ok is))) (omega (arith, split.taken, fill.rises, last.rises));
      means = ReadsAs-kept _ _ _ _ _ (ReadsAs-then _ _ _ _ _ _ _ _ last.took last.means fill.means (omega (arith, split.taken, fill.rises, last.rises))) split.rest;
      extent = ReadsAs-kept _ _ _ _ _ (ReadsAs-then _ _ _ _ _ _ _ _ last.took last.extent fill.extent (omega (arith, split.taken, fill.rises, last.rises))) split.extent;
      near = near-then _ _ _ _ _ _ _ _ _ last.took last.extent fill.rises split.taken last.near fill.near;
      onward = omega (arith, last.onward, ap (λ (p : Progress). p.offset) fill.progress, split.onward);
      further = omega (arith, last.further, ap position fill.progress, split.rises);
      faults = omega (arith, last.faults, fill.never_falls);
    }

pub returns-in-Err-clause-means : goal.returns-in-Err-clause-means
returns-in-Err-clause-means g c =
    let last = c.pieces.invariant in
    ReadsAs-then _ _ _ _ _ _ _ _ last.took last.means c.fill.ensures.means (omega (arith, c.fill.ensures.rises, last.rises))

pub returns-in-Err-clause-extent : goal.returns-in-Err-clause-extent
returns-in-Err-clause-extent g c =
    let last = c.pieces.invariant in
    ReadsAs-then _ _ _ _ _ _ _ _ last.took last.extent c.fill.ensures.extent (omega (arith, c.fill.ensures.rises, last.rises))

pub returns-in-Err-clause-took : goal.returns-in-Err-clause-took
returns-in-Err-clause-took g c = λ other.
    let last = c.pieces.invariant in
    HasRead-then _ _ _ _ _ _ last.took (c.in-Err.ensures.took (λ is. let same : c.in-Err.stop ≡ InputLimit = cc in other (ap Err same))) (omega (arith, c.fill.ensures.rises, last.rises))

pub returns-in-Err-clause-limit : goal.returns-in-Err-clause-limit
returns-in-Err-clause-limit g c = λ is.
    let last = c.pieces.invariant in
    let same : c.in-Err.stop ≡ InputLimit = cc in
    HasRead-then _ _ _ _ _ _ last.took (c.in-Err.ensures.limit (ap Err same)) (omega (arith, c.fill.ensures.rises, c.fill.ensures.within, last.rises))

pub returns-in-Err-clause-near : goal.returns-in-Err-clause-near
returns-in-Err-clause-near g c =
    let last = c.pieces.invariant in
    near-then _ _ _ _ _ _ _ _ _ last.took last.extent c.fill.ensures.rises refl last.near c.fill.ensures.near

pub returns-in-Err-clause-beyond : goal.returns-in-Err-clause-beyond
returns-in-Err-clause-beyond g c = λ is.
    let last = c.pieces.invariant in
    let same : c.in-Err.stop ≡ InputLimit = cc in
    ReadsAs-back (λ (end : ℕ). c.fill.new.self.limit < end) _ _ _ _ _ last.took last.extent (c.in-Err.ensures.beyond (ap Err same))

pub returns-in-Err-clause-stopped : goal.returns-in-Err-clause-stopped
returns-in-Err-clause-stopped g c =
    spent_due c.fill.new.self (subst IsDue (sym c.fill.ensures.progress) c.pieces.invariant.due) c.in-Err.ensures.stopped

pub returns-then-not-more-clause-means : goal.returns-then-not-more-clause-means
returns-then-not-more-clause-means g c =
    let last = c.pieces.invariant in
    ReadsAs-then _ _ _ _ _ _ _ _ last.took last.means c.fill.ensures.means (omega (arith, c.fill.ensures.rises, last.rises))

pub returns-then-not-more-clause-extent : goal.returns-then-not-more-clause-extent
returns-then-not-more-clause-extent g c =
    let last = c.pieces.invariant in
    ReadsAs-then _ _ _ _ _ _ _ _ last.took last.extent c.fill.ensures.extent (omega (arith, c.fill.ensures.rises, last.rises))

pub returns-then-not-more-clause-took : goal.returns-then-not-more-clause-took
returns-then-not-more-clause-took g c = λ other.
    let last = c.pieces.invariant in
    HasRead-then _ _ _ _ _ _ last.took (c.in-Ok.ensures.took (λ is. true≢false (ap is_ok is))) (omega (arith, c.fill.ensures.rises, last.rises))

pub returns-then-not-more-clause-near : goal.returns-then-not-more-clause-near
returns-then-not-more-clause-near g c =
    let last = c.pieces.invariant in
    near-then _ _ _ _ _ _ _ _ _ last.took last.extent c.fill.ensures.rises refl last.near c.fill.ensures.near

pub returns-then-not-more-clause-reached : goal.returns-then-not-more-clause-reached
returns-then-not-more-clause-reached g c = λ is.
    let none = ap Ok c.if-not-more.true in
    over_at_end c.fill.new.self.progress c.fill.new.self.taken c.fill.new.self.unread _ (c.in-Ok.ensures.end none) (c.in-Ok.ensures.ended none) c.fill.ensures.split

pub returns-then-not-more-clause-ended : goal.returns-then-not-more-clause-ended
returns-then-not-more-clause-ended g c = λ is.
    spent_due c.fill.new.self (subst IsDue (sym c.fill.ensures.progress) c.pieces.invariant.due) (c.in-Ok.ensures.ended (ap Ok c.if-not-more.true))

pub returns-in-Some-clause-means : goal.returns-in-Some-clause-means
returns-in-Some-clause-means g c =
    let last = c.pieces.invariant in
    ReadsAs-kept _ _ _ _ _ (ReadsAs-then _ _ _ _ _ _ _ _ last.took last.means c.fill.ensures.means (omega (arith, c.split.ensures.taken, c.fill.ensures.rises, last.rises))) c.in-Some.ensures.rest

pub returns-in-Some-clause-extent : goal.returns-in-Some-clause-extent
returns-in-Some-clause-extent g c =
    let last = c.pieces.invariant in
    ReadsAs-kept _ _ _ _ _ (ReadsAs-then _ _ _ _ _ _ _ _ last.took last.extent c.fill.ensures.extent (omega (arith, c.split.ensures.taken, c.fill.ensures.rises, last.rises))) c.in-Some.ensures.extent

pub returns-in-Some-clause-took : goal.returns-in-Some-clause-took
returns-in-Some-clause-took g c = λ other.
    let last = c.pieces.invariant in
    HasRead-then _ _ _ _ _ _ last.took (c.in-Ok.ensures.took (λ is. true≢false (ap is_ok is))) (omega (arith, c.split.ensures.taken, c.fill.ensures.rises, last.rises))

pub returns-in-Some-clause-near : goal.returns-in-Some-clause-near
returns-in-Some-clause-near g c =
    let last = c.pieces.invariant in
    near-then _ _ _ _ _ _ _ _ _ last.took last.extent c.fill.ensures.rises c.split.ensures.taken last.near c.fill.ensures.near

pub returns-in-Some-clause-frame : goal.returns-in-Some-clause-frame
returns-in-Some-clause-frame g c = λ verifier is.
    let same : c.in-Some.next ≡ Frame verifier = cc in
    subst (λ (known : Option Header). IsSomeAnd known (λ header. IsFrame header.verifiers (record { verifier = verifier; body = c.split.new.self.progress.body })))
    (ap (λ (p : Progress). p.header) c.fill.ensures.progress ∙ c.pieces.invariant.header)
    (c.in-Some.ensures.frame verifier (ap Some same))

pub returns-in-Some-clause-end : goal.returns-in-Some-clause-end
returns-in-Some-clause-end g c = λ is.
    let same : c.in-Some.next ≡ End = cc in
    some_all _ _ (c.in-Some.ensures.last (ap Some same))

pub returns-in-Some-clause-reached : goal.returns-in-Some-clause-reached
returns-in-Some-clause-reached g c = λ is.
    let same : c.in-Some.next ≡ End = cc in
    some_all _ _ (c.in-Some.ensures.over (ap Some same))
