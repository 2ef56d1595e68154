use Rattle.std.proofs.Common.{◌<◌, ℕ, List, Ok, sym, ◌∙◌, ap, subst}
use Rattle.std.proofs.lemmas.Result.{err_from_is_err_and}
use Rattle.record_hash.specs.Functions.{DigestFunctions}
use Rattle.script_text.specs.declared.task.Task.{Task}
use Rattle.shipped_host.specs.declared.settings.Settings.{Settings}
use Rattle.host_world.specs.Shown.{digests_of, requests_of}
use Rattle.verifier_threads.specs.declared.accounts.Account.{Account}
use Rattle.verifier_threads.specs.declared.runner.NextCall.{NextCall}
use Rattle.verifier_threads.specs.declared.runner.NextCall.TheVariants as calls
use Rattle.verifier_threads.specs.declared.runner.State.{State}
use Rattle.verifier_threads.specs.declared.runner.State.TheVariants as states
use Rattle.verifier_threads.specs.Serving.{IsCutOff, IsCutInRound}
use Rattle.verifier_threads.specs.Runners.{StandsBefore, TellsLines, left_by}
use Rattle.verifier_threads.proofs.PassingLemmas.{err_any, same-fault}
use Rattle.verifier_threads.proofs.CallLemmas.{run_of-same, run_of-these, stands-of}
use Rattle.verifier_threads.proofs.runner.Runner.close_epoch.Goals as goal

pub close-requires-clause-runs : goal.close-requires-clause-runs
close-requires-clause-runs g c κs within =
    let serving = c.requires.serving in
    let stands = stands-of g.D.Digests.functions serving.1 serving.2 serving.3 serving.0 c.args.self.now serving.4 calls.Close (states.Served c.in-Served.served)
    c.requires.next c.in-Served.is serving.5 in
    (serving.0, serving.4, stands.stands.0, serving.6)

pub close-requires-clause-done : goal.close-requires-clause-done
close-requires-clause-done g c κs within =
    let serving = c.requires.serving in
    let stands = stands-of g.D.Digests.functions serving.1 serving.2 serving.3 serving.0 c.args.self.now serving.4 calls.Close (states.Served c.in-Served.served)
    c.requires.next c.in-Served.is serving.5 in
    stands.stands.1

pub unreachable-requires : goal.unreachable-requires
unreachable-requires g c =
    let serving = c.requires.serving in
    let stands = stands-of g.D.Digests.functions serving.1 serving.2 serving.3 serving.0 c.args.self.now serving.4 calls.Close
    (states.Unserved c.in-Unserved.rounds c.in-Unserved.end) c.requires.next c.in-Unserved.is serving.5 in
    let no = stands.0 in cc

pub returns-clause-stands : goal.returns-clause-stands
returns-clause-stands g c = λ account own settings script outputs stands held written.
    let functions = g.D.Digests.functions in
    let served = c.in-Served.served in
    let was = stands-of functions own settings script account c.args.self.now outputs calls.Close (states.Served served) c.requires.next c.in-Served.is stands in
    record {
      account_is = stands.account_is;
      state = record {
        is_of = run_of-same functions own settings script served c.close.new.self c.close.ensures.host was.is_of;
        stands = subst (λ (a : Account). StandsBefore c.in_ok-self-in-Served.field-0 a functions c.close.new.self
            (record outputs { vault_after = g.V.Sink.held c.close.new.vault; out_after = g.O.Sink.held c.close.new.out })) stands.account_is
            (c.in_ok-self-in-Served.ensures.stands outputs
            (subst (λ (a : Account). StandsBefore calls.Close a functions served outputs) (sym stands.account_is) was.stands) held written);
      };
    }

pub returns-clause-next : goal.returns-clause-next
returns-clause-next g c = λ is. c.close.ensures.call (c.in_ok-self-in-Served.was ∙ ap (λ (n : NextCall). Ok n) is)

pub returns-clause-fewer : goal.returns-clause-fewer
returns-clause-fewer g c =
    let old = c.args.self.now in
    subst (λ (n : ℕ). left_by c.in_ok-self-in-Served.field-0 (states.Served c.close.new.self) < n)
    (sym (ap (λ (n : NextCall). left_by n old.state) c.requires.next ∙ ap (λ (s : State _). left_by calls.Close s) c.in-Served.is))
    c.in_ok-self-in-Served.ensures.fewer

pub returns-in_err-self-in-Served-clause-cut : goal.returns-in_err-self-in-Served-clause-cut
returns-in_err-self-in-Served-clause-cut g c = λ account own settings script outputs stands held written.
    let functions = g.D.Digests.functions in
    let served = c.in-Served.served in
    let was = stands-of functions own settings script account c.args.self.now outputs calls.Close (states.Served served) c.requires.next c.in-Served.is stands in
    err_any c.from_residual.result
    (run_of-these functions own settings script served was.is_of
    (λ (f : DigestFunctions) (s : Settings) (t : List (List Task)). IsCutOff account f s t
    (record outputs { vault_after = g.V.Sink.held c.close.new.vault; out_after = g.O.Sink.held c.close.new.out }))
    (subst (λ (a : Account). IsCutOff a (functions (digests_of served.world)) served.world.settings (requests_of served.world) (record outputs { vault_after = g.V.Sink.held c.close.new.vault; out_after = g.O.Sink.held c.close.new.out })) stands.account_is
    (c.in_err-self-in-Served.ensures.cut outputs
    (subst (λ (a : Account). StandsBefore calls.Close a functions served outputs) (sym stands.account_is) was.stands) held written)))

pub returns-in_err-self-in-Served-clause-cut_round : goal.returns-in_err-self-in-Served-clause-cut_round
returns-in_err-self-in-Served-clause-cut_round g c = λ account own settings script outputs stands held written fault.
    let functions = g.D.Digests.functions in
    let served = c.in-Served.served in
    let p = err_from_is_err_and c.from_residual.result c.from_residual.ensures.1 in
    let was = stands-of functions own settings script account c.args.self.now outputs calls.Close (states.Served served) c.requires.next c.in-Served.is stands in
    run_of-these functions own settings script served was.is_of
    (λ (f : DigestFunctions) (s : Settings) (t : List (List Task)). IsCutInRound account f s t
    (record outputs { vault_after = g.V.Sink.held c.close.new.vault; out_after = g.O.Sink.held c.close.new.out }))
    (subst (λ (a : Account). IsCutInRound a (functions (digests_of served.world)) served.world.settings (requests_of served.world) (record outputs { vault_after = g.V.Sink.held c.close.new.vault; out_after = g.O.Sink.held c.close.new.out })) stands.account_is
    (c.in_err-self-in-Served.ensures.cut_round outputs
    (subst (λ (a : Account). StandsBefore calls.Close a functions served outputs) (sym stands.account_is) was.stands) held written
    (same-fault c.from_residual.result p.0 _ fault p.1 p.2)))

pub returns-in_err-self-in-Served-clause-lines : goal.returns-in_err-self-in-Served-clause-lines
returns-in_err-self-in-Served-clause-lines g c = λ account own settings script outputs stands fault.
    let p = err_from_is_err_and c.from_residual.result c.from_residual.ensures.1 in
    subst TellsLines stands.account_is (c.in_err-self-in-Served.ensures.lines (same-fault c.from_residual.result p.0 _ fault p.1 p.2))
