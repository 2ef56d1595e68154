use Rattle.std.proofs.Common.{◌≡◌, ℕ, List, length, map, sym, ◌∙◌, ap, subst, refl, arith}
use Rattle.std.proofs.lemmas.Result.{err_from_is_err_and}
use Rattle.fv_outside.specs.Written.{Grows}
use Rattle.merkle_records.specs.Scheme.{scheme_of}
use Rattle.bundle_report.specs.declared.judged.Judged.{Judged}
use Rattle.load_summary.specs.Counting.{Counted}
use Rattle.certified_epochs.specs.declared.fed_run.FedRun.{FedRun}
use Rattle.certified_epochs.specs.Telling.{text_by}
use Rattle.certified_epochs.specs.Turn.{AreVerdictsOn}
use Rattle.certified_epochs.proofs.CanCertifyLaws.{can_certify-read}
use Rattle.host_rounds.specs.SoFar.{RunsSoFar, HaveRun, lines_counted}
use Rattle.host_rounds.proofs.RunLemmas.{lent_back, runs-few, front-due, certified-run, counted-due, all-due}
use Rattle.host_rounds.proofs.rounds.Rounds.certify.Goals as goal

-- the rounds so far, with the runs as they were lent
as_lent : (now : RunsSoFar) (judged : Judged) (items lent : List FedRun) (bytes : ℕ) (summary : Counted) → lent ≡ items
    → record { judged = judged; runs = items; bytes = bytes; summary = summary } ≡ now
    → now ≡ record { judged = judged; runs = lent; bytes = bytes; summary = summary }
as_lent now judged items lent bytes summary same is =
    sym is ∙ ap (λ (runs : List FedRun). let s : RunsSoFar = record { judged = judged; runs = runs; bytes = bytes; summary = summary } in s) (sym same)

pub certify-requires-clause-few : goal.certify-requires-clause-few
certify-requires-clause-few g c κs within =
    omega (arith, ap length c.as_mut_slice-runs.ensures.value, ap (λ (s : RunsSoFar). length s.runs) c.self.view_is, runs-few c.args.self.now c.requires.runs)

pub certify-requires-clause-can : goal.certify-requires-clause-can
certify-requires-clause-can g c κs within = λ fed.
    let some = c.requires.runs in
    let inside = c.self.inside in
    let is = as_lent c.args.self.now inside.certifier inside.runs.items c.as_mut_slice-runs.result.now inside.bytes inside.summary c.as_mut_slice-runs.ensures.value c.self.view_is in
    let run = subst (HaveRun some.0 some.1 some.2) is some.3 in
    can_certify-read (scheme_of some.0 some.1) some.1 some.2 inside.certifier (map (λ (f : FedRun). f.run) c.as_mut_slice-runs.result.now) run.taken

pub certify-requires-clause-settled : goal.certify-requires-clause-settled
certify-requires-clause-settled g c κs within = λ fed.
    let inside = c.self.inside in
    let is = as_lent c.args.self.now inside.certifier inside.runs.items c.as_mut_slice-runs.result.now inside.bytes inside.summary c.as_mut_slice-runs.ensures.value c.self.view_is in
    subst (λ (s : RunsSoFar). AreVerdictsOn s.judged (map (λ (f : FedRun). f.run) s.runs) c.args.settled.now) is c.requires.settled

pub returns-in_err-certify-clause-front : goal.returns-in_err-certify-clause-front
returns-in_err-certify-clause-front g c = λ functions header logs held have written.
    let p = err_from_is_err_and c.from_residual.result c.from_residual.ensures.1 in
    let inside = c.self.inside in
    let lent : RunsSoFar = record { judged = inside.certifier; runs = c.as_mut_slice-runs.result.now; bytes = inside.bytes; summary = inside.summary } in
    let is : c.args.self.now ≡ lent = as_lent c.args.self.now inside.certifier inside.runs.items c.as_mut_slice-runs.result.now inside.bytes inside.summary c.as_mut_slice-runs.ensures.value c.self.view_is in
    let before = g.O.Sink.held c.args.out.now in
    let run = subst (HaveRun functions header logs) is have in
    rw p.1
    (front-due functions header logs lent run (text_by g.D.Digests.functions c.args.telling.now) held before (g.O.Sink.held c.certify.new.out)
    (subst (λ (s : RunsSoFar). Grows held before (lines_counted (text_by g.D.Digests.functions c.args.telling.now) functions header logs s)) is written)
    (c.in_err-certify.ensures.front (scheme_of functions header) header logs run.taken))

pub returns-clause-runs : goal.returns-clause-runs
returns-clause-runs g c = λ functions header logs have.
    let inside = c.self.inside in
    let lent : RunsSoFar = record { judged = inside.certifier; runs = c.as_mut_slice-runs.result.now; bytes = inside.bytes; summary = inside.summary } in
    let is : c.args.self.now ≡ lent = as_lent c.args.self.now inside.certifier inside.runs.items c.as_mut_slice-runs.result.now inside.bytes inside.summary c.as_mut_slice-runs.ensures.value c.self.view_is in
    let run = subst (HaveRun functions header logs) is have in
    let now : RunsSoFar = record { judged = c.certify.new.self; runs = c.certify.new.runs; bytes = inside.bytes; summary = c.certify.new.folded } in
    let back = lent_back inside.runs.len c.certify.new.runs inside.runs.items inside.runs.ok.0 (c.certify.ensures.len ∙ ap length c.as_mut_slice-runs.ensures.value) in
    subst (λ (runs : List FedRun). HaveRun functions header logs (record { judged = c.certify.new.self; runs = runs; bytes = inside.bytes; summary = c.certify.new.folded })) (sym back)
    (certified-run functions header logs lent run now (c.in_ok-certify.ensures.taken (scheme_of functions header) header logs run.taken)
    c.in_ok-certify.ensures.fed.1 refl (c.in_ok-certify.ensures.judged (scheme_of functions header) header logs run.taken)
    (c.in_ok-certify.ensures.folded (scheme_of functions header) header logs run.taken))

pub returns-clause-due : goal.returns-clause-due
returns-clause-due g c = λ functions header logs held have written.
    let inside = c.self.inside in
    let lent : RunsSoFar = record { judged = inside.certifier; runs = c.as_mut_slice-runs.result.now; bytes = inside.bytes; summary = inside.summary } in
    let is : c.args.self.now ≡ lent = as_lent c.args.self.now inside.certifier inside.runs.items c.as_mut_slice-runs.result.now inside.bytes inside.summary c.as_mut_slice-runs.ensures.value c.self.view_is in
    let run = subst (HaveRun functions header logs) is have in
    let scheme = scheme_of functions header in
    let before = g.O.Sink.held c.args.out.now in
    let now : RunsSoFar = record { judged = c.certify.new.self; runs = c.certify.new.runs; bytes = inside.bytes; summary = c.certify.new.folded } in
    all-due functions header logs lent run now (c.in_ok-certify.ensures.taken scheme header logs run.taken) (text_by g.D.Digests.functions c.args.telling.now) held before (g.O.Sink.held c.certify.new.out)
    (c.in_ok-certify.ensures.judged scheme header logs run.taken)
    (subst (λ (s : RunsSoFar). Grows held before (lines_counted (text_by g.D.Digests.functions c.args.telling.now) functions header logs s)) is written)
    (c.in_ok-certify.ensures.lines scheme header logs run.taken)

pub returns-clause-counted : goal.returns-clause-counted
returns-clause-counted g c = λ tell functions header logs have.
    let inside = c.self.inside in
    let lent : RunsSoFar = record { judged = inside.certifier; runs = c.as_mut_slice-runs.result.now; bytes = inside.bytes; summary = inside.summary } in
    let is : c.args.self.now ≡ lent = as_lent c.args.self.now inside.certifier inside.runs.items c.as_mut_slice-runs.result.now inside.bytes inside.summary c.as_mut_slice-runs.ensures.value c.self.view_is in
    let run = subst (HaveRun functions header logs) is have in
    let scheme = scheme_of functions header in
    let now : RunsSoFar = record { judged = c.certify.new.self; runs = c.certify.new.runs; bytes = inside.bytes; summary = c.certify.new.folded } in
    counted-due functions header logs lent run now (c.in_ok-certify.ensures.taken scheme header logs run.taken) tell
    (c.in_ok-certify.ensures.judged scheme header logs run.taken)
