use Rattle.std.proofs.Common.{◌≡◌, ℕ, List, Option, length, refl, sym, ◌∙◌, ap, subst}
use Rattle.fv_outside.specs.Written.{Grows, GrowsByFront}
use Rattle.report_text.specs.declared.status.Status.{Status}
use Rattle.load_summary.specs.Counting.{Counted}
use Rattle.load_summary.specs.Summary.{summary_with_end}
use Rattle.bundle_report.specs.declared.judged.Judged.{Judged}
use Rattle.host_rounds.specs.SoFar.{RunsSoFar}
use Rattle.host_world.specs.Shown.{shown_world, digests_of, requests_of}
use Rattle.verifier_threads.specs.declared.accounts.Account.{Account}
use Rattle.verifier_threads.specs.declared.accounts.Account.TheVariants as accounts
use Rattle.verifier_threads.specs.Serving.{IfDone, HoldsWhatIsCertified, status_at, end_by}
use Rattle.verifier_threads.specs.Running.{ending_for}
use Rattle.verifier_threads.proofs.PassingLemmas.{err_any}
use Rattle.verifier_threads.proofs.EndingLemmas.{ended-map, ended-served, ended-cut}
use Rattle.verifier_threads.proofs.world_run.WorldRun.end_with.Goals as goal

-- the end of what was counted, by other names
same_ending : (account : Account) (old new : RunsSoFar) (one other : Status) → new.judged ≡ old.judged → new.summary ≡ old.summary → one ≡ other
    → ending_for account new one ≡ ending_for account old other
same_ending account old new one other judged summary status =
    by_rounds account ∙ ap (ending_for account old) status
  where
    by_rounds : (a : Account) → ending_for a new one ≡ ending_for a old one
    by_rounds (accounts.Report receipts) = refl
    by_rounds (accounts.Summary load) =
        ap (λ (j : Judged). summary_with_end load.seed load.ops j.count new.summary.tallies one) judged
        ∙ ap (λ (s : Counted). summary_with_end load.seed load.ops old.judged.count s.tallies one) summary

pub returns-in_err-write_ending-clause-cut : goal.returns-in_err-write_ending-clause-cut
returns-in_err-write_ending-clause-cut g c = λ outputs whole written.
    let old = c.args.self.now in
    let f = g.D.Digests.functions (digests_of old.world) in
    let account = c.args.account.now in
    let out' = g.O.Sink.held c.write_ending.new.out in
    let says = c.conclude-end.ensures in
    let status = c.status.ensures.value ∙ ap status_at says.end in
    err_any c.from_residual.result
    (ended-cut account f old.world.settings (requests_of old.world) (shown_world old.world) old.rounds old.end whole.past outputs whole.runs.running c.requires.ended
    c.the_contents_hold_what_a_check_certifies.ensures.holds (λ text. (g.met.D.Digests.text_digest_shape old.world.d.now text).size) whole.all whole.count out'
    (subst (λ (o : Option (List ℕ)). GrowsByFront o out' (ending_for account old.rounds (status_at (end_by (length (requests_of old.world)) old.end)))) (sym written)
    (subst (GrowsByFront (g.O.Sink.held c.args.out.now) out') (same_ending account old.rounds c.conclude-end.new.self.rounds _ _ says.judged says.summary status)
    c.in_err-write_ending.ensures.front)))

pub returns-clause-served : goal.returns-clause-served
returns-clause-served g c = λ outputs whole written.
    let old = c.args.self.now in
    let f = g.D.Digests.functions (digests_of old.world) in
    let account = c.args.account.now in
    let out' = g.O.Sink.held c.write_ending.new.out in
    let result = c.conclude-end.result in
    let says = c.conclude-end.ensures in
    ended-served account f old.world.settings (requests_of old.world) (shown_world old.world) old.rounds old.end whole.past outputs whole.runs.running c.requires.ended
    c.the_contents_hold_what_a_check_certifies.ensures.holds (λ text. (g.met.D.Digests.text_digest_shape old.world.d.now text).size) whole.all whole.count out' result says.end
    (subst (λ (o : Option (List ℕ)). Grows o out' (ending_for account old.rounds (status_at result))) (sym written)
    (subst (Grows (g.O.Sink.held c.args.out.now) out') (same_ending account old.rounds c.conclude-end.new.self.rounds _ _ says.judged says.summary c.status.ensures.value)
    c.in_ok-write_ending.ensures.whole))

pub returns-clause-holds : goal.returns-clause-holds
returns-clause-holds g c = λ outputs whole.
    let old = c.args.self.now in
    let functions = g.D.Digests.functions in
    let result = c.conclude-end.result in
    subst (λ w. IfDone result (HoldsWhatIsCertified (functions (digests_of w)) w.settings (shown_world w) outputs.vault outputs.vault_after)) (sym c.conclude-end.ensures.world)
    (ended-map c.args.account.now (functions (digests_of old.world)) old.world.settings (requests_of old.world) (shown_world old.world) old.rounds old.end whole.past outputs whole.runs.running
    c.requires.ended c.the_contents_hold_what_a_check_certifies.ensures.holds (λ text. (g.met.D.Digests.text_digest_shape old.world.d.now text).size) result c.conclude-end.ensures.end)
