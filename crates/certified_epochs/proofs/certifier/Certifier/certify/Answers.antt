use Rattle.std.proofs.Common.{◌≡◌, ℕ, suc, ◌+◌, ◌-◌, ◌≤◌, ◌++◌, List, [], Option, None, Some, IfSome, Bor, slice_get, rules, refl, sym, ◌∙◌, ap, subst, append-nil, arith}
use Rattle.std.specs.List.{fold}
use Rattle.std.specs.Slice.{IsItemAt}
use Rattle.std.proofs.lemmas.Option.{slice_get-get_or}
use Rattle.std.proofs.lemmas.List.Sums.{fold-append}
use Rattle.std.proofs.lemmas.Result.{IfOk-from_err}
use Rattle.fv_outside.specs.Written.{Grows}
use Rattle.fv_outside.proofs.WrittenLaws.{Grows-nil}
use Rattle.record_text.specs.declared.operation.Operation.{Operation}
use Rattle.verifier_run.specs.Progress.{Progress}
use Rattle.report_text.proofs.PassLaws.{Passes-then, Passes-flush, Passes-front, Passes-stop, on_err}
use Rattle.epoch_gather.specs.declared.outcome.Verdict.{Verdict}
use Rattle.bundle_report.specs.declared.judged.Judged.{Judged}
use Rattle.bundle_report.specs.Report.{operations_told}
use Rattle.bundle_report.specs.RunReport.{courses_of}
use Rattle.bundle_report.specs.SoFar.{lines_from}
use Rattle.certified_epochs.specs.Telling.{text_by}
use Rattle.certified_epochs.specs.Turn.{turn, next_epoch, IsVerdictAt, CanCertify}
use Rattle.certified_epochs.proofs.TurnLemmas.{runs_of, certified-turn, done-turn, same-judged, no-lines, lines-step, turn-front, turn-alike}
use Rattle.certified_epochs.proofs.GoingOnLemmas.{AreBehind, counted-turn, stayed-turn, behind-none, behind-turn, behind-can, behind-machines, behind-held, settled-next}
use Rattle.certified_epochs.proofs.certifier.Certifier.certify.Goals as goal

pub returns-in-Some-clause-judged : goal.returns-in-Some-clause-judged
returns-in-Some-clause-judged g c = λ scheme header logs taken.
    same-judged scheme header logs c.args.self.now (runs_of c.args.runs.now) c.self.inside.judged c.in-Some.field-0 taken c.self.view_is c.in-Some.is

pub returns-in_err-certify_next-clause-front : goal.returns-in_err-certify_next-clause-front
returns-in_err-certify_next-clause-front g c = λ scheme header logs taken.
    let tell = text_by g.D.Digests.functions c.args.telling.now in
    let inv = c.epochs.invariant in
    let rest = turn-front tell scheme header logs c.epochs.self (runs_of c.epochs.runs) c.args.self.now.count inv.text (inv.taken scheme header logs taken) inv.even inv.counted
    (inv.lines scheme header logs taken) in
    on_err _ (Passes-front _ _ _ _ _ inv.text (turn tell c.epochs.self (runs_of c.epochs.runs)).text rest.0 _ inv.passes c.in_err-certify_next.ensures.front rest.1)

pub epochs-preserved : goal.epochs-preserved
epochs-preserved g c =
    let tell = text_by g.D.Digests.functions c.args.telling.now in
    let inv = c.epochs.invariant in
    let now = c.certify_next.new.self in
    let text = (turn tell c.epochs.self (runs_of c.epochs.runs)).text in
    let operations : List Operation = (turn operations_told c.epochs.self (runs_of c.epochs.runs)).text in
    let next = c.in_ok-certify_next.ensures in
    let own = counted-turn tell c.epochs.self (runs_of c.epochs.runs) c.in_ok-certify_next.field-0 now (runs_of c.certify_next.new.runs) text next.turned c.if-not-branch.false in
    let more : suc (c.epochs.self.count - c.args.self.now.count) ≡ now.count - c.args.self.now.count = omega (arith, inv.counted, own.count) in
    record {
      text = inv.text ++ text;
      passes = Passes-then _ _ _ _ _ _ _ _ inv.passes next.text;
      even = own.even ∙ inv.even;
      can = inv.can;
      behind =
          subst (λ (count : ℕ). AreBehind (inv.can.first + c.args.self.now.count) count (runs_of c.args.runs.now) (runs_of c.certify_next.new.runs)) more
          (behind-turn (inv.can.first + c.args.self.now.count) (c.epochs.self.count - c.args.self.now.count) (runs_of c.args.runs.now) (runs_of c.epochs.runs)
          c.epochs.self (record { more = c.in_ok-certify_next.field-0; judged = now; runs = runs_of c.certify_next.new.runs; text = text }) inv.behind own);
      taken = λ scheme header logs taken.
          (certified-turn tell scheme header logs c.epochs.self now (runs_of c.epochs.runs) (runs_of c.certify_next.new.runs) c.in_ok-certify_next.field-0 text
          (inv.taken scheme header logs taken) inv.even next.turned c.if-not-branch.false).taken;
      lines = λ scheme header logs taken.
          let more = certified-turn tell scheme header logs c.epochs.self now (runs_of c.epochs.runs) (runs_of c.certify_next.new.runs) c.in_ok-certify_next.field-0 text
          (inv.taken scheme header logs taken) inv.even next.turned c.if-not-branch.false in
          lines-step tell (courses_of scheme header logs) header.first c.args.self.now.count c.epochs.self.count now.count inv.text text inv.counted more.count
          (inv.lines scheme header logs taken) more.text;
      operations = inv.operations ++ operations;
      operations_are = λ scheme header logs taken.
          let more = certified-turn operations_told scheme header logs c.epochs.self now (runs_of c.epochs.runs) (runs_of c.certify_next.new.runs) c.in_ok-certify_next.field-0 operations
          (inv.taken scheme header logs taken) inv.even
          (turn-alike tell operations_told c.epochs.self (runs_of c.epochs.runs) c.in_ok-certify_next.field-0 now (runs_of c.certify_next.new.runs) text next.turned) c.if-not-branch.false in
          lines-step operations_told (courses_of scheme header logs) header.first c.args.self.now.count c.epochs.self.count now.count inv.operations operations inv.counted more.count
          (inv.operations_are scheme header logs taken) more.text;
      folded =
          next.folded ∙ ap (λ (s : g.T.OperationFold.State). fold g.T.OperationFold.step s operations) inv.folded
          ∙ sym (fold-append g.T.OperationFold.step (g.T.OperationFold.state c.args.folded.now) inv.operations operations);
      counted = omega (arith, inv.counted, own.count);
      fed_before = inv.fed_before;
      fed = next.fed inv.fed;
      few = omega (arith, inv.few, next.len);
      len = next.len ∙ inv.len;
      faults = omega (arith, inv.faults, next.never_falls);
    }

pub returns-in-Ok-clause-judged : goal.returns-in-Ok-clause-judged
returns-in-Ok-clause-judged g c = λ scheme header logs taken.
    let tell = text_by g.D.Digests.functions c.args.telling.now in
    let inv = c.epochs.invariant in
    (done-turn tell scheme header logs c.epochs.self c.certify_next.new.self (runs_of c.epochs.runs) (runs_of c.certify_next.new.runs) c.in_ok-certify_next.field-0
    (turn tell c.epochs.self (runs_of c.epochs.runs)).text (inv.taken scheme header logs taken) inv.even c.in_ok-certify_next.ensures.turned c.if-not-branch.true).all

pub returns-in-Ok-clause-taken : goal.returns-in-Ok-clause-taken
returns-in-Ok-clause-taken g c = λ scheme header logs taken.
    let tell = text_by g.D.Digests.functions c.args.telling.now in
    let inv = c.epochs.invariant in
    (done-turn tell scheme header logs c.epochs.self c.certify_next.new.self (runs_of c.epochs.runs) (runs_of c.certify_next.new.runs) c.in_ok-certify_next.field-0
    (turn tell c.epochs.self (runs_of c.epochs.runs)).text (inv.taken scheme header logs taken) inv.even c.in_ok-certify_next.ensures.turned c.if-not-branch.true).taken

pub returns-in-Ok-clause-lines : goal.returns-in-Ok-clause-lines
returns-in-Ok-clause-lines g c = λ scheme header logs taken.
    let tell = text_by g.D.Digests.functions c.args.telling.now in
    let inv = c.epochs.invariant in
    let text = (turn tell c.epochs.self (runs_of c.epochs.runs)).text in
    let done = done-turn tell scheme header logs c.epochs.self c.certify_next.new.self (runs_of c.epochs.runs) (runs_of c.certify_next.new.runs) c.in_ok-certify_next.field-0
    text (inv.taken scheme header logs taken) inv.even c.in_ok-certify_next.ensures.turned c.if-not-branch.true in
    subst (Grows (g.O.Sink.held c.args.out.now) (g.O.Sink.held c.flush.new.sink))
    (ap (λ (t : List ℕ). inv.text ++ t) done.text ∙ append-nil inv.text ∙ inv.lines scheme header logs taken
    ∙ ap (λ (n : ℕ). lines_from tell (courses_of scheme header logs) (header.first + c.args.self.now.count) (n - c.args.self.now.count)) (sym done.count))
    (Passes-flush _ _ _ [] _ (inv.text ++ text) (Passes-then _ _ _ _ _ _ _ _ inv.passes c.in_ok-certify_next.ensures.text) c.in-Ok.ensures.whole)

pub returns-in-Err-clause-front : goal.returns-in-Err-clause-front
returns-in-Err-clause-front g c = λ scheme header logs taken.
    let tell = text_by g.D.Digests.functions c.args.telling.now in
    let inv = c.epochs.invariant in
    let rest = turn-front tell scheme header logs c.epochs.self (runs_of c.epochs.runs) c.args.self.now.count inv.text (inv.taken scheme header logs taken) inv.even inv.counted
    (inv.lines scheme header logs taken) in
    Passes-stop _ _ _ [] _ (inv.text ++ (turn tell c.epochs.self (runs_of c.epochs.runs)).text) rest.0 _
    (Passes-then _ _ _ _ _ _ _ _ inv.passes c.in_ok-certify_next.ensures.text) c.in-Err.ensures.front rest.1

pub returns-in-Ok-clause-folded : goal.returns-in-Ok-clause-folded
returns-in-Ok-clause-folded g c = λ scheme header logs taken.
    let tell = text_by g.D.Digests.functions c.args.telling.now in
    let inv = c.epochs.invariant in
    let before = g.T.OperationFold.state c.args.folded.now in
    let operations : List Operation = (turn operations_told c.epochs.self (runs_of c.epochs.runs)).text in
    let done = done-turn operations_told scheme header logs c.epochs.self c.certify_next.new.self (runs_of c.epochs.runs) (runs_of c.certify_next.new.runs) c.in_ok-certify_next.field-0
    operations (inv.taken scheme header logs taken) inv.even
    (turn-alike tell operations_told c.epochs.self (runs_of c.epochs.runs) c.in_ok-certify_next.field-0 c.certify_next.new.self (runs_of c.certify_next.new.runs)
    (turn tell c.epochs.self (runs_of c.epochs.runs)).text c.in_ok-certify_next.ensures.turned) c.if-not-branch.true in
    c.in_ok-certify_next.ensures.folded
    ∙ ap (λ (s : g.T.OperationFold.State). fold g.T.OperationFold.step s operations) inv.folded
    ∙ sym (fold-append g.T.OperationFold.step before inv.operations operations)
    ∙ ap (fold g.T.OperationFold.step before)
    (ap (λ (ops : List Operation). inv.operations ++ ops) done.text ∙ append-nil inv.operations ∙ inv.operations_are scheme header logs taken
    ∙ ap (λ (n : ℕ). lines_from operations_told (courses_of scheme header logs) (header.first + c.args.self.now.count) (n - c.args.self.now.count)) (sym done.count))

-- what is known of each verdict that is there is known of one that was looked up
found_told : (P : Verdict → Type 0) (verdicts : List Verdict) (index : ℕ) (found : Option (Bor Verdict)) → IsItemAt verdicts index found
    → ((verdict : Verdict) → slice_get verdicts index ≡ Some verdict → P verdict) → IfSome found (λ v. P v.now)
found_told P verdicts index None at told = tt
found_told P verdicts index (Some v) at told = told v.now (slice_get-get_or verdicts index v.now at.3.0 ∙ ap Some (sym at.1))

pub certify_next-requires-clause-handed : goal.certify_next-requires-clause-handed
certify_next-requires-clause-handed g c κs bounds =
    let inv = c.epochs.invariant in
    let now = c.epochs.self in
    let runs = runs_of c.epochs.runs in
    let settled = c.args.settled.now in
    let first = inv.can.first + c.args.self.now.count in
    let index = c.self-in-epochs.inside.judged.count - c.self.inside.judged.count in
    let place : now.count - c.args.self.now.count ≡ index =
    omega (arith, ap (λ (j : Judged). j.count) c.self-in-epochs.view_is, ap (λ (j : Judged). j.count) c.self.view_is) in
    let behind = subst (λ (n : ℕ). AreBehind first n (runs_of c.args.runs.now) runs) place inv.behind in
    found_told (λ verdict. (epoch : ℕ) → next_epoch runs ≡ Some epoch → IsVerdictAt runs 0 epoch verdict) settled index c.get-handed.result c.get-handed.ensures.lookup
    (λ verdict there epoch next.
    settled-next first index epoch (runs_of c.args.runs.now) runs verdict behind (c.requires.settled inv.fed_before inv.can index verdict there) next)

-- the runs can be certified still, where there is no more
still_can : (first start : ℕ) (so_far now : Judged) (olds runs next : List (Progress Operation)) → start ≤ so_far.count
    → AreBehind (first + start) (so_far.count - start) olds runs → next ≡ runs → now.count ≡ so_far.count → CanCertify now next
still_can first start so_far now olds runs next within behind same count =
    subst (CanCertify now) (sym same) (behind-can first start so_far.count now olds runs count within behind)

pub certify_next-requires-clause-can : goal.certify_next-requires-clause-can
certify_next-requires-clause-can g c κs bounds =
    let inv = c.epochs.invariant in
    still_can inv.can.first c.args.self.now.count c.epochs.self c.epochs.self (runs_of c.args.runs.now) (runs_of c.epochs.runs) (runs_of c.epochs.runs) inv.counted inv.behind refl refl

pub returns-in-Ok-clause-can : goal.returns-in-Ok-clause-can
returns-in-Ok-clause-can g c =
    let tell = text_by g.D.Digests.functions c.args.telling.now in
    let inv = c.epochs.invariant in
    let stays = stayed-turn tell c.epochs.self (runs_of c.epochs.runs) c.in_ok-certify_next.field-0 c.certify_next.new.self (runs_of c.certify_next.new.runs)
    (turn tell c.epochs.self (runs_of c.epochs.runs)).text c.in_ok-certify_next.ensures.turned c.if-not-branch.true in
    still_can inv.can.first c.args.self.now.count c.epochs.self c.certify_next.new.self (runs_of c.args.runs.now) (runs_of c.epochs.runs) (runs_of c.certify_next.new.runs)
    inv.counted inv.behind stays.runs_are stays.count

pub returns-in-Ok-clause-machines : goal.returns-in-Ok-clause-machines
returns-in-Ok-clause-machines g c =
    let tell = text_by g.D.Digests.functions c.args.telling.now in
    let stays = stayed-turn tell c.epochs.self (runs_of c.epochs.runs) c.in_ok-certify_next.field-0 c.certify_next.new.self (runs_of c.certify_next.new.runs)
    (turn tell c.epochs.self (runs_of c.epochs.runs)).text c.in_ok-certify_next.ensures.turned c.if-not-branch.true in
    behind-machines _ _ c.args.runs.now c.epochs.runs c.certify_next.new.runs c.epochs.invariant.behind stays.runs_are

pub returns-in-Ok-clause-held : goal.returns-in-Ok-clause-held
returns-in-Ok-clause-held g c =
    let tell = text_by g.D.Digests.functions c.args.telling.now in
    let stays = stayed-turn tell c.epochs.self (runs_of c.epochs.runs) c.in_ok-certify_next.field-0 c.certify_next.new.self (runs_of c.certify_next.new.runs)
    (turn tell c.epochs.self (runs_of c.epochs.runs)).text c.in_ok-certify_next.ensures.turned c.if-not-branch.true in
    behind-held _ _ c.args.runs.now c.epochs.runs c.certify_next.new.runs c.epochs.invariant.behind stays.runs_are

pub returns-in_err-certify_next-clause-machines : goal.returns-in_err-certify_next-clause-machines
returns-in_err-certify_next-clause-machines g c = IfOk-from_err _ _ c.from_residual.ensures.0

pub returns-in_err-certify_next-clause-held : goal.returns-in_err-certify_next-clause-held
returns-in_err-certify_next-clause-held g c = IfOk-from_err _ _ c.from_residual.ensures.0

pub returns-in-Some-clause-can : goal.returns-in-Some-clause-can
returns-in-Some-clause-can g c = c.requires.can (c.any_starved.ensures.none c.if-any_starved.false)

pub returns-in_err-certify_next-clause-can : goal.returns-in_err-certify_next-clause-can
returns-in_err-certify_next-clause-can g c = IfOk-from_err _ _ c.from_residual.ensures.0

pub returns-in_err-certify_next-clause-judged : goal.returns-in_err-certify_next-clause-judged
returns-in_err-certify_next-clause-judged g c = λ scheme header logs taken. IfOk-from_err _ _ c.from_residual.ensures.0

pub returns-in_err-certify_next-clause-taken : goal.returns-in_err-certify_next-clause-taken
returns-in_err-certify_next-clause-taken g c = λ scheme header logs taken. IfOk-from_err _ _ c.from_residual.ensures.0

pub returns-in_err-certify_next-clause-lines : goal.returns-in_err-certify_next-clause-lines
returns-in_err-certify_next-clause-lines g c = λ scheme header logs taken. IfOk-from_err _ _ c.from_residual.ensures.0

pub returns-in_err-certify_next-clause-folded : goal.returns-in_err-certify_next-clause-folded
returns-in_err-certify_next-clause-folded g c = λ scheme header logs taken. IfOk-from_err _ _ c.from_residual.ensures.0

pub returns-in_err-certify_next-clause-fed : goal.returns-in_err-certify_next-clause-fed
returns-in_err-certify_next-clause-fed g c = IfOk-from_err _ _ c.from_residual.ensures.0

pub returns-in_err-certify_next-clause-starved : goal.returns-in_err-certify_next-clause-starved
returns-in_err-certify_next-clause-starved g c = λ starved. absurd (starved c.epochs.invariant.fed_before)

pub returns-in-Ok-clause-starved : goal.returns-in-Ok-clause-starved
returns-in-Ok-clause-starved g c = λ starved. absurd (starved c.epochs.invariant.fed_before)

pub returns-in-Err-clause-starved : goal.returns-in-Err-clause-starved
returns-in-Err-clause-starved g c = λ starved. absurd (starved c.epochs.invariant.fed_before)

pub returns-in-Some-clause-starved : goal.returns-in-Some-clause-starved
returns-in-Some-clause-starved g c = λ starved. absurd (starved (c.any_starved.ensures.none c.if-any_starved.false))

pub returns-in-Some-clause-taken : goal.returns-in-Some-clause-taken
returns-in-Some-clause-taken g c = λ scheme header logs taken. taken

pub returns-in-Some-clause-lines : goal.returns-in-Some-clause-lines
returns-in-Some-clause-lines g c = λ scheme header logs taken.
    subst (Grows (g.O.Sink.held c.args.out.now) (g.O.Sink.held c.args.out.now))
    (no-lines (text_by g.D.Digests.functions c.args.telling.now) (courses_of scheme header logs) (header.first + c.args.self.now.count) c.args.self.now.count)
    (Grows-nil (g.O.Sink.held c.args.out.now))

pub returns-in-Some-clause-folded : goal.returns-in-Some-clause-folded
returns-in-Some-clause-folded g c = λ scheme header logs taken.
    ap (fold g.T.OperationFold.step (g.T.OperationFold.state c.args.folded.now))
    (no-lines operations_told (courses_of scheme header logs) (header.first + c.args.self.now.count) c.args.self.now.count)

pub epochs-init : goal.epochs-init
epochs-init g c =
    let fed = c.any_starved.ensures.none c.if-any_starved.false in
    record {
      text = [];
      passes = search rules;
      even = search rules;
      can = c.requires.can fed;
      behind = behind-none ((c.requires.can fed).first + c.args.self.now.count) c.args.self.now.count (runs_of c.args.runs.now) (c.requires.can fed).each;
      taken = λ scheme header logs taken. taken;
      lines = λ scheme header logs taken.
          no-lines (text_by g.D.Digests.functions c.args.telling.now) (courses_of scheme header logs) (header.first + c.args.self.now.count) c.args.self.now.count;
      operations = [];
      operations_are = λ scheme header logs taken.
          no-lines operations_told (courses_of scheme header logs) (header.first + c.args.self.now.count) c.args.self.now.count;
      folded = refl;
      counted = omega arith;
      fed_before = fed;
      fed = fed;
      few = c.requires.few;
      len = refl;
      faults = omega arith;
    }
