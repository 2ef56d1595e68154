use Rattle.std.proofs.Common.{◌≡◌, ◌+◌, ◌-◌, ◌<◌, ◌≤◌, ℕ, List, IfSome, Result, Ok, Err, is_ok, true≢false, map, refl, sym, ap, subst, ◌∙◌, arith}
use Rattle.std.specs.Prelude.{IsErrAnd}
use Rattle.bundle_frames.specs.declared.coming.Next.TheVariants.{End}
use Rattle.fv_outside.specs.declared.failure.Failure.TheVariants as failures
use Rattle.fv_outside.specs.declared.failure.Failure.{Failure}
use Rattle.bundle_frames.specs.Progress.{position}
use Rattle.bundle_frames.specs.Extent.{reading_end}
use Rattle.bundle_frames.specs.Reading.{Reading, end_ahead, header_then}
use Rattle.bundle_frames.proofs.ReadingLaws.{HasRead-none, HasRead-then, ReadsAs-none, ReadsAs-then, ReadsAs-back, TookJust-from_read, TookAtMost-from_read, end_opening, near-then, stops_near, stops_stopped, took_to_end}
use Rattle.bundle_report.specs.Logs.{log_count, logs_then}
use Rattle.bundle_report.specs.Logged.{Logged, logged_of}
use Rattle.check_core.specs.Intake.{logs_in, behind_at}
use Rattle.check_core.proofs.MeaningLemmas.{opening_joined, verifier_there, reads_next, joined_end, logs_counted}
use Rattle.check_core.proofs.reading.read_bundle.Goals as goal

-- the failure that is handed on is the one that came, and the other way round
came_so : {A : Type 0} (r : Result A Failure) (came other : Failure) → IsErrAnd r (λ failure. failure ≡ came) → r ≡ Err other → came ≡ other
came_so (Ok value) came other is same = absurd is
came_so (Err failure) came other is same = let own : failure ≡ other = cc in sym is ∙ own

handed_on : {A : Type 0} (r : Result A Failure) (came other : Failure) → IsErrAnd r (λ failure. failure ≡ came) → came ≡ other → r ≡ Err other
handed_on (Ok value) came other is same = absurd is
handed_on (Err failure) came other is same = ap Err (is ∙ same)

pub frames-init : goal.frames-init
frames-init g c =
    let is = c.in_ok-reader.ensures.opening in
    let none = ap (λ (r : Reading). r.taken) is in
    record {
      due = c.in_ok-reader.ensures.due;
      limit = ap (λ (r : Reading). r.limit) is;
      within = omega arith;
      position = subst (λ (r : Reading). position r.progress ≤ r.taken) (sym is) (omega arith);
      header = sym (ap (λ (r : Reading). r.progress.header) is);
      having_read = HasRead-none _ _ none;
      means = ReadsAs-none _ _ _ _ none (λ more. opening_joined c.args.limit _ _ more (ap (map (λ log. log.items)) c.new-2.ensures.items) is);
      extent = ReadsAs-none _ _ _ _ none (λ more. end_opening c.args.limit more ∙ ap (λ (r : Reading). end_ahead r more) (sym is));
      near = λ some. absurd (omega arith);
      faults = omega arith;
    }

pub join-requires : goal.join-requires
join-requires g c = record {
  head = λ header is. (c.in_ok-next.ensures.head header (ap Ok is)).1;
  frame = λ verifier is. verifier_there verifier _ _ _ _ c.frames.invariant.header c.frames.intake.count (c.in_ok-next.ensures.frame verifier (ap Ok is));
}

pub frames-preserved : goal.frames-preserved
frames-preserved g c =
    let last = c.frames.invariant in
    let next = c.in_ok-next.ensures in
    let logs = c.frames.intake.logs in
    let sum : c.next.new.self.taken ≡ c.frames.reader.taken + (c.next.new.self.taken - c.frames.reader.taken) = omega (arith, next.rises) in
    record {
      due = next.due (λ is. c.in_ok-more.ensures.more (ap Ok c.if-not-more.false) (let same : c.in_ok-next.next ≡ End = cc in same));
      limit = next.same_limit ∙ last.limit;
      within = omega (arith, next.within, next.same_limit, last.limit);
      position = next.split;
      header = c.in_ok-more.ensures.header ∙ ap (header_then (Ok c.in_ok-next.next)) last.header ∙ sym next.header;
      having_read = HasRead-then _ _ _ _ _ _ last.having_read (next.took (λ is. true≢false (ap is_ok is))) sum;
      means = ReadsAs-then _ _ _ _ _ _ _ _ last.having_read last.means
          (reads_next _ _ (logs_in c.frames.intake) (logs_in c.join.new.intake) c.frames.reader c.next.new.self c.in_ok-next.next c.next.new.self.progress.body next.means next.header
          (λ header is. (next.head header (ap Ok is)).0) (λ verifier is. next.frame verifier (ap Ok is))
          (logs_counted (λ log. log.items) logs.items c.frames.reader.progress.header logs.len (omega (arith, logs.ok)) (c.frames.intake.count ∙ ap log_count last.header))
          (c.in_ok-more.ensures.logs ∙ ap (λ (body : List ℕ). logs_then c.in_ok-next.next body (logs_in c.frames.intake)) c.body.ensures.value)) sum;
      extent = ReadsAs-then _ _ _ _ _ _ _ _ last.having_read last.extent next.extent sum;
      near = near-then _ _ _ _ _ _ _ _ _ last.having_read last.extent next.rises refl last.near next.near;
      faults = omega (arith, last.faults, next.never_falls);
    }

pub returns-in_err-more-clause-within : goal.returns-in_err-more-clause-within
returns-in_err-more-clause-within g c = λ other.
    let last = c.frames.invariant in
    let next = c.in_ok-next.ensures in
    let sum : c.next.new.self.taken ≡ c.frames.reader.taken + (c.next.new.self.taken - c.frames.reader.taken) = omega (arith, next.rises) in
    TookAtMost-from_read _ _ _ _ (HasRead-then _ _ _ _ _ _ last.having_read (next.took (λ is. true≢false (ap is_ok is))) sum) (omega (arith, next.within, next.same_limit, last.limit))

pub returns-in_err-more-clause-stops : goal.returns-in_err-more-clause-stops
returns-in_err-more-clause-stops g c =
    let last = c.frames.invariant in
    let next = c.in_ok-next.ensures in
    let sum : c.next.new.self.taken ≡ c.frames.reader.taken + (c.next.new.self.taken - c.frames.reader.taken) = omega (arith, next.rises) in
    stops_near _ _ _ reading_end (HasRead-then _ _ _ _ _ _ last.having_read (next.took (λ is. true≢false (ap is_ok is))) sum)
    (near-then _ _ _ _ _ _ _ _ _ last.having_read last.extent next.rises refl last.near next.near)

pub returns-in_err-next-clause-limit : goal.returns-in_err-next-clause-limit
returns-in_err-next-clause-limit g c = λ is.
    let last = c.frames.invariant in
    let next = c.in_err-next.ensures in
    let same = came_so c.from_residual-in_err-next.result c.in_err-next.field-0.0 failures.InputLimit c.from_residual-in_err-next.ensures.1 is in
    let sum : c.args.limit + 1 ≡ c.frames.reader.taken + (c.next.new.self.limit + 1 - c.frames.reader.taken) = omega (arith, next.same_limit, last.limit, last.within) in
    TookJust-from_read _ _ _ (HasRead-then _ _ _ _ _ _ last.having_read (next.limit (ap Err same)) sum)

pub returns-in_err-next-clause-within : goal.returns-in_err-next-clause-within
returns-in_err-next-clause-within g c = λ other.
    let last = c.frames.invariant in
    let next = c.in_err-next.ensures in
    let sum : c.next.new.self.taken ≡ c.frames.reader.taken + (c.next.new.self.taken - c.frames.reader.taken) = omega (arith, next.rises) in
    let apart = λ (is : c.in_err-next.field-0.0 ≡ failures.InputLimit). other (handed_on c.from_residual-in_err-next.result c.in_err-next.field-0.0 failures.InputLimit c.from_residual-in_err-next.ensures.1 is) in
    TookAtMost-from_read _ _ _ _ (HasRead-then _ _ _ _ _ _ last.having_read (next.took (λ is. apart cc)) sum) (omega (arith, next.within, next.same_limit, last.limit))

pub returns-in_err-next-clause-stops : goal.returns-in_err-next-clause-stops
returns-in_err-next-clause-stops g c =
    let last = c.frames.invariant in
    let next = c.in_err-next.ensures in
    let sum : c.next.new.self.taken ≡ c.frames.reader.taken + (c.next.new.self.taken - c.frames.reader.taken) = omega (arith, next.rises) in
    let sum' : c.args.limit + 1 ≡ c.frames.reader.taken + (c.next.new.self.limit + 1 - c.frames.reader.taken) = omega (arith, next.same_limit, last.limit, last.within) in
    stops_stopped c.in_err-next.field-0.0 c.next.new.self.taken c.args.limit _ _ reading_end
    (λ other. HasRead-then _ _ _ _ _ _ last.having_read (next.took (λ is. other cc)) sum)
    (λ same. HasRead-then _ _ _ _ _ _ last.having_read (next.limit (ap Err same)) sum')
    (near-then _ _ _ _ _ _ _ _ _ last.having_read last.extent next.rises refl last.near next.near)
    (λ same. ReadsAs-back (λ (end : ℕ). c.args.limit < end) _ _ _ _ _ last.having_read last.extent
    (subst (λ (limit : ℕ). IfSome (g.S.Source.left c.frames.source) (λ bytes. limit < end_ahead c.frames.reader bytes)) (next.same_limit ∙ last.limit) (next.beyond (ap Err same))))

pub returns-in_err-next-clause-beyond : goal.returns-in_err-next-clause-beyond
returns-in_err-next-clause-beyond g c = λ is.
    let last = c.frames.invariant in
    let next = c.in_err-next.ensures in
    let same = came_so c.from_residual-in_err-next.result c.in_err-next.field-0.0 failures.InputLimit c.from_residual-in_err-next.ensures.1 is in
    ReadsAs-back (λ (end : ℕ). c.args.limit < end) _ _ _ _ _ last.having_read last.extent
    (subst (λ (limit : ℕ). IfSome (g.S.Source.left c.frames.source) (λ bytes. limit < end_ahead c.frames.reader bytes)) (next.same_limit ∙ last.limit) (next.beyond (ap Err same)))

pub returns-clause-bundle : goal.returns-clause-bundle
returns-clause-bundle g c =
    let last = c.frames.invariant in
    let next = c.in_ok-next.ensures in
    let end : c.in_ok-next.next ≡ End = c.in_ok-more.ensures.end (ap Ok c.if-not-more.true) in
    let had = c.frames.intake.logs in
    let logs = c.join.new.intake.logs in
    let old : Reading = c.frames.reader in
    let new : Reading = c.next.new.self in
    let sum : new.taken ≡ old.taken + (new.taken - old.taken) = omega (arith, next.rises) in
    let read = HasRead-then old.taken _ new.taken _ _ _ last.having_read (next.took (λ is. true≢false (ap is_ok is))) sum in
    let means = ReadsAs-then old.taken _ new.taken _ _ logged_of (behind_at (logs_in c.frames.intake) old) (behind_at (logs_in c.join.new.intake) new) last.having_read last.means
    (reads_next _ _ (logs_in c.frames.intake) (logs_in c.join.new.intake) old new c.in_ok-next.next new.progress.body next.means next.header
    (λ header is. (next.head header (ap Ok is)).0) (λ verifier is. next.frame verifier (ap Ok is))
    (logs_counted (λ log. log.items) had.items old.progress.header had.len (omega (arith, had.ok)) (c.frames.intake.count ∙ ap log_count last.header))
    (c.in_ok-more.ensures.logs ∙ ap (λ (body : List ℕ). logs_then c.in_ok-next.next body (logs_in c.frames.intake)) c.body.ensures.value)) sum in
    ReadsAs-back (λ (l : Logged). record { header = c.join.new.intake.header; logs = logs_in c.join.new.intake; bad = c.bad-intake.result } ≡ l) new.taken _ _ logged_of (behind_at (logs_in c.join.new.intake) new) read means
    (joined_end (logs_in c.join.new.intake) new _ c.join.new.intake.header c.bad-intake.result (next.end (ap Ok end))
    (c.in_ok-more.ensures.header ∙ ap (header_then (Ok c.in_ok-next.next)) last.header ∙ sym next.header)
    (c.bad-intake.ensures.ahead (next.ended (ap Ok end)).unread)
    (logs_counted (λ log. log.items) logs.items c.join.new.intake.header logs.len (omega (arith, logs.ok)) c.join.new.intake.count))

pub returns-clause-within : goal.returns-clause-within
returns-clause-within g c = λ other.
    let last = c.frames.invariant in
    let next = c.in_ok-next.ensures in
    let sum : c.next.new.self.taken ≡ c.frames.reader.taken + (c.next.new.self.taken - c.frames.reader.taken) = omega (arith, next.rises) in
    TookAtMost-from_read _ _ _ _ (HasRead-then _ _ _ _ _ _ last.having_read (next.took (λ is. true≢false (ap is_ok is))) sum) (omega (arith, next.within, next.same_limit, last.limit))

pub returns-clause-reached : goal.returns-clause-reached
returns-clause-reached g c =
    let last = c.frames.invariant in
    let next = c.in_ok-next.ensures in
    let sum : c.next.new.self.taken ≡ c.frames.reader.taken + (c.next.new.self.taken - c.frames.reader.taken) = omega (arith, next.rises) in
    took_to_end _ _ _ reading_end (end_ahead c.next.new.self) (HasRead-then _ _ _ _ _ _ last.having_read (next.took (λ is. true≢false (ap is_ok is))) sum)
    (ReadsAs-then _ _ _ _ _ _ _ _ last.having_read last.extent next.extent sum) (next.reached (ap Ok (c.in_ok-more.ensures.end (ap Ok c.if-not-more.true))))

pub returns-clause-stops : goal.returns-clause-stops
returns-clause-stops g c =
    let last = c.frames.invariant in
    let next = c.in_ok-next.ensures in
    let sum : c.next.new.self.taken ≡ c.frames.reader.taken + (c.next.new.self.taken - c.frames.reader.taken) = omega (arith, next.rises) in
    stops_near _ _ _ reading_end (HasRead-then _ _ _ _ _ _ last.having_read (next.took (λ is. true≢false (ap is_ok is))) sum)
    (near-then _ _ _ _ _ _ _ _ _ last.having_read last.extent next.rises refl last.near next.near)
