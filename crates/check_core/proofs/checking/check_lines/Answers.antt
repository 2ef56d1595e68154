use Rattle.std.proofs.Common.{◌≡◌, ◌+◌, ◌-◌, ℕ, Option, None, Result, Ok, Err, is_ok, true≢false, refl, sym, ◌∙◌, ap, subst, arith}
use Rattle.std.proofs.lemmas.Result.{err_from_is_err_and}
use Rattle.std.specs.Prelude.{IsSomeAnd}
use Rattle.lamport_clocks.specs.declared.header.Header.{Header}
use Rattle.bundle_frames.specs.declared.coming.Next.{Next}
use Rattle.fv_outside.specs.declared.failure.Failure.{Failure}
use Rattle.fv_outside.specs.declared.failure.Failure.TheVariants.{ReadFault, InputLimit}
use Rattle.fv_outside.proofs.WrittenLaws.{Grows-nil}
use Rattle.bundle_frames.specs.Extent.{reading_end}
use Rattle.bundle_frames.specs.Reading.{Reading, end_ahead, next_then, header_then}
use Rattle.bundle_frames.proofs.ReadingLaws.{HasRead-then, TookAtMost-from_read, TookJust-from_read, stops_near, took_to_end}
use Rattle.report_text.specs.Ending.{failure_status}
use Rattle.report_text.specs.Answer.{Reading as ReadBy, Writing, AnswersTo}
use Rattle.bundle_report.specs.Logs.{empty_logs}
use Rattle.check_core.specs.Asked.{Asked, unended, asked_answer}
use Rattle.check_core.specs.Checked.{checked_status}
use Rattle.check_core.specs.Told.{asked_for}
use Rattle.report_text.proofs.AnsweringLaws.{answers-none}
use Rattle.check_core.proofs.StreamLemmas.{extent-more, near-more, come-more}
use Rattle.check_core.proofs.BatchLemmas.{by_source}
use Rattle.check_core.proofs.EndingLemmas.{ends_behind, took_first, cut_answers}
use Rattle.check_core.proofs.HeaderLemmas.{come_none, means_header, means_none, due_none, bad_answers}
use Rattle.check_core.proofs.checking.check_lines.Goals as goal

-- no frame comes before the header
no_frame : (P : Header → Type 0) (known : Option Header) → known ≡ None → IsSomeAnd known P → ⊥
no_frame P known none frame = subst (λ (h : Option Header). IsSomeAnd h P) none frame

-- a failed read is no limit
fault_no_limit : (r : Result Next Failure) (stop : Failure) → r ≡ Err stop → stop ≡ ReadFault → r ≡ Err InputLimit → ⊥
fault_no_limit r stop is fault limit = cc

pub returns-in_err-reader-clause-answers : goal.returns-in_err-reader-clause-answers
returns-in_err-reader-clause-answers g c =
    let p = err_from_is_err_and c.from_residual.result c.from_residual.ensures.1 in
    let functions = g.D.Digests.functions c.args.d.now in
    let asked : Asked = unended (asked_for c.args.told.now functions (g.F.WrittenFold.text_behind c.args.folded.now)) in
    let left = g.S.Source.left c.args.source.now in
    let faults = g.S.Source.faults c.args.source.now in
    let held = g.O.Sink.held c.args.out.now in
    let out_faults = g.O.Sink.faults c.args.out.now in
    let read : ReadBy = record { left = left; left_after = left; faults = faults; faults_after = faults } in
    let wrote : Writing = record { held = held; held_after = held; faults = out_faults; faults_after = out_faults } in
    rw p.1
    (subst (λ (failure : Failure). AnswersTo (asked_answer asked functions) reading_end c.args.limit (failure_status c.args.limit failure) read wrote) (sym p.2)
    (answers-none (asked_answer asked functions) reading_end c.args.limit left held faults faults out_faults out_faults))

pub returns-in_err-next-clause-answers : goal.returns-in_err-next-clause-answers
returns-in_err-next-clause-answers g c =
    let p = err_from_is_err_and c.from_residual-in_err-next.result c.from_residual-in_err-next.ensures.1 in
    let functions = g.D.Digests.functions c.args.d.now in
    let asked : Asked = unended (asked_for c.args.told.now functions (g.F.WrittenFold.text_behind c.args.folded.now)) in
    let limit = c.args.limit in
    let left = g.S.Source.left c.args.source.now in
    let left_then = g.S.Source.left c.next.new.source in
    let faults = g.S.Source.faults c.args.source.now in
    let old = c.in_ok-reader.reader in
    let new = c.next.new.self in
    let next = c.in_err-next.ensures in
    let opening = c.in_ok-reader.ensures.opening in
    let come = come_none limit left faults old opening in
    let same = next.same_limit ∙ ap (λ (r : Reading). r.limit) opening in
    let read : ReadBy = record { left = left; left_after = left_then; faults = faults; faults_after = g.S.Source.faults c.next.new.source } in
    let wrote : Writing = record {
      held = g.O.Sink.held c.args.out.now;
      held_after = g.O.Sink.held c.args.out.now;
      faults = g.O.Sink.faults c.args.out.now;
      faults_after = g.O.Sink.faults c.args.out.now;
    } in
    let sum : new.taken ≡ old.taken + (new.taken - old.taken) = omega (arith, next.rises) in
    let sum' : limit + 1 ≡ old.taken + (new.limit + 1 - old.taken) = omega (arith, next.rises, next.within, same) in
    rw p.1
    (subst (λ (failure : Failure). AnswersTo (asked_answer asked functions) reading_end limit (failure_status limit failure) read wrote) (sym p.2)
    (cut_answers 0 0 asked functions limit left left_then faults (g.S.Source.faults c.next.new.source) new wrote c.in_err-next.field-0.0
    (took_first limit left left left_then faults faults 0 _ old new come next.rises same next.within next.near (Err c.in_err-next.field-0.0) c.in_err-next.field-0.0 refl next.took next.limit next.full next.beyond)
    (due_none asked functions limit left left_then faults (g.S.Source.faults c.next.new.source) new
    (means_none limit left faults old new opening next.rises (Err c.in_err-next.field-0.0) (λ rest. refl) next.means next.header)
    (next.stopped.no_header ∙ next.header ∙ ap (λ (r : Reading). r.progress.header) opening) wrote refl)
    (λ is. next.fault (ap Err is))
    (λ is. TookAtMost-from_read new.taken limit _ _ (HasRead-then _ _ _ _ _ _ come.having_read (next.took (fault_no_limit (Err c.in_err-next.field-0.0) c.in_err-next.field-0.0 refl is)) sum) (omega (arith, next.within, same)))
    (λ is. TookJust-from_read (limit + 1) _ _ (HasRead-then _ _ _ _ _ _ come.having_read (next.limit (ap Err is)) sum'))
    (λ is. ends_behind limit left left left_then faults faults 0 _ old new come next.rises same next.within next.near (next.beyond (ap Err is)))
    (by_source c.in_err-next.field-0.0 next.failure)))

pub returns-in-Head-clause-answers : goal.returns-in-Head-clause-answers
returns-in-Head-clause-answers g c =
    let functions = g.D.Digests.functions c.args.d.now in
    let asked : Asked = unended (asked_for c.args.told.now functions (g.F.WrittenFold.text_behind c.args.folded.now)) in
    let limit = c.args.limit in
    let left = g.S.Source.left c.args.source.now in
    let faults = g.S.Source.faults c.args.source.now in
    let old = c.in_ok-reader.reader in
    let new = c.next.new.self in
    let next = c.in_ok-next.ensures in
    let opening = c.in_ok-reader.ensures.opening in
    let come = come_none limit left faults old opening in
    let same = next.same_limit ∙ ap (λ (r : Reading). r.limit) opening in
    let read : ReadBy = record { left = left; left_after = g.S.Source.left c.check_frames.new.source; faults = faults; faults_after = g.S.Source.faults c.check_frames.new.source } in
    let wrote : Writing = record {
      held = g.O.Sink.held c.args.out.now;
      held_after = g.O.Sink.held c.check_frames.new.out;
      faults = g.O.Sink.faults c.args.out.now;
      faults_after = g.O.Sink.faults c.check_frames.new.out;
    } in
    subst (λ (most : ℕ). AnswersTo (asked_answer asked functions) reading_end most (checked_status most c.check_frames.result) read wrote) same
    (c.check_frames.ensures.answers left faults
    (come-more left left faults faults 0 _ old new come next.rises (empty_logs c.in-Head.header.verifiers) _ _
    (next.took (λ is. true≢false (ap is_ok is)))
    (means_header limit left faults old new opening next.rises c.in_ok-next.next c.in-Head.header c.in-Head.is next.means next.header (λ verifier is. next.frame verifier (ap Ok is)))
    next.extent next.near next.never_falls))

pub returns-in-Head-clause-done : goal.returns-in-Head-clause-done
returns-in-Head-clause-done g c = λ done is.
    let limit = c.args.limit in
    let left = g.S.Source.left c.args.source.now in
    let faults = g.S.Source.faults c.args.source.now in
    let old = c.in_ok-reader.reader in
    let new = c.next.new.self in
    let next = c.in_ok-next.ensures in
    let opening = c.in_ok-reader.ensures.opening in
    let come = come_none limit left faults old opening in
    c.check_frames.ensures.done left faults done
    (come-more left left faults faults 0 _ old new come next.rises (empty_logs c.in-Head.header.verifiers) _ _
    (next.took (λ is. true≢false (ap is_ok is)))
    (means_header limit left faults old new opening next.rises c.in_ok-next.next c.in-Head.header c.in-Head.is next.means next.header (λ verifier is. next.frame verifier (ap Ok is)))
    next.extent next.near next.never_falls) is

pub returns-in-Frame-clause-answers : goal.returns-in-Frame-clause-answers
returns-in-Frame-clause-answers g c = absurd (no_frame _ _ (ap (λ (r : Reading). r.progress.header) c.in_ok-reader.ensures.opening) (c.in_ok-next.ensures.frame _ (ap Ok c.in-Frame.is)))

pub returns-clause-answers : goal.returns-clause-answers
returns-clause-answers g c =
    let functions = g.D.Digests.functions c.args.d.now in
    let asked : Asked = unended (asked_for c.args.told.now functions (g.F.WrittenFold.text_behind c.args.folded.now)) in
    let limit = c.args.limit in
    let left = g.S.Source.left c.args.source.now in
    let left_then = g.S.Source.left c.next.new.source in
    let faults = g.S.Source.faults c.args.source.now in
    let old = c.in_ok-reader.reader in
    let new = c.next.new.self in
    let next = c.in_ok-next.ensures in
    let opening = c.in_ok-reader.ensures.opening in
    let come = come_none limit left faults old opening in
    let same = next.same_limit ∙ ap (λ (r : Reading). r.limit) opening in
    let sum : new.taken ≡ old.taken + (new.taken - old.taken) = omega (arith, next.rises) in
    let having_read = HasRead-then _ _ _ _ _ _ come.having_read (next.took (λ is. true≢false (ap is_ok is))) sum in
    let known = next.header ∙ ap (λ (n : Next). header_then (Ok n) old.progress.header) c.in-End.is in
    let ends = ap Ok c.in-End.is in
    let wrote : Writing = record {
      held = g.O.Sink.held c.args.out.now;
      held_after = g.O.Sink.held c.args.out.now;
      faults = g.O.Sink.faults c.args.out.now;
      faults_after = g.O.Sink.faults c.args.out.now;
    } in
    bad_answers asked functions limit left left_then faults (g.S.Source.faults c.next.new.source) new
    (means_none limit left faults old new opening next.rises (Ok c.in_ok-next.next) (λ rest. ap (λ (n : Next). next_then (Ok n) new.progress.body rest) c.in-End.is) next.means known)
    ((next.ended ends).no_header ∙ known ∙ ap (λ (r : Reading). r.progress.header) opening) wrote (Grows-nil (g.O.Sink.held c.args.out.now))
    having_read (omega (arith, next.within, same)) (next.end ends)
    (took_to_end new.taken left left_then reading_end (end_ahead new) having_read (extent-more left left faults faults 0 _ old new come next.rises next.extent) (next.reached ends))
    (stops_near _ _ _ reading_end having_read (near-more left left faults faults 0 _ old new come next.rises next.near))
