use Rattle.std.proofs.Common.{ℕ, List, Option, sym, subst}
use Rattle.bundle_report.specs.Report.{EpochText}
use Rattle.slot_rewriting.specs.Writing.{written_logs}
use Rattle.host_world.specs.Shown.{digests_of}
use Rattle.host_rounds.specs.SoFar.{lines_counted, lines_due}
use Rattle.verifier_threads.specs.Serving.{GrowsFor, told_for}
use Rattle.verifier_threads.specs.Running.{GrowsByFrontFor}
use Rattle.verifier_threads.proofs.PassingLemmas.{ok_four, err_then, runs-certified}
use Rattle.verifier_threads.proofs.CutLemmas.{runs-cut_lines}
use Rattle.verifier_threads.proofs.world_run.WorldRun.write_certified.Goals as goal

pub returns-clause-runs : goal.returns-clause-runs
returns-clause-runs g c = λ outputs past runs written.
    let old = c.args.self.now in
    let account = c.args.account.now in
    let f = g.D.Digests.functions (digests_of old.world) in
    let header = old.world.settings.header in
    let texts = written_logs header runs.running.logs in
    let have = runs.running.keeps.runs in
    let told = told_for account f header in
    let so_far = subst (λ (tell : EpochText). GrowsFor account outputs.out (g.O.Sink.held c.args.out.now) (lines_counted tell f header texts old.rounds)) (sym c.telling-telling.ensures.text)
    (subst (λ (o : Option (List ℕ)). GrowsFor account outputs.out o (lines_counted told f header texts old.rounds)) written runs.running.written) in
    let says = c.certify.ensures in
    ok_four c.certify.result (says.runs f header texts have) (says.all f header texts have) (says.counted told f header texts have) (says.due f header texts outputs.out have so_far)
    (λ have' all counted due. runs-certified account g.D.Digests.functions old past outputs runs c.certify.new.rounds (g.O.Sink.held c.certify.new.out) have' all counted
    (subst (λ (tell : EpochText). GrowsFor account outputs.out (g.O.Sink.held c.certify.new.out) (lines_due tell f header texts)) c.telling-telling.ensures.text due))

pub returns-clause-cut : goal.returns-clause-cut
returns-clause-cut g c = λ outputs past runs written.
    let old = c.args.self.now in
    let account = c.args.account.now in
    let f = g.D.Digests.functions (digests_of old.world) in
    let header = old.world.settings.header in
    let texts = written_logs header runs.running.logs in
    let have = runs.running.keeps.runs in
    let told = told_for account f header in
    let so_far = subst (λ (tell : EpochText). GrowsFor account outputs.out (g.O.Sink.held c.args.out.now) (lines_counted tell f header texts old.rounds)) (sym c.telling-telling.ensures.text)
    (subst (λ (o : Option (List ℕ)). GrowsFor account outputs.out o (lines_counted told f header texts old.rounds)) written runs.running.written) in
    err_then c.certify.result (c.certify.ensures.front f header texts outputs.out have so_far)
    (λ front.
    runs-cut_lines account g.D.Digests.functions old outputs past runs c.what_is_due_stays_due.ensures.stays c.rounds_make_a_bundle.ensures.more
    (g.O.Sink.held c.certify.new.out)
    (subst (λ (tell : EpochText). GrowsByFrontFor account outputs.out (g.O.Sink.held c.certify.new.out) (lines_due tell f header texts)) c.telling-telling.ensures.text front))
