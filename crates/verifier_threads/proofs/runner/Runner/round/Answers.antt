use Rattle.std.proofs.Common.{◌≡◌, ◌-◌, ℕ, suc, List, length, sym, ◌∙◌, ap, subst, arith}
use Rattle.record_hash.specs.Functions.{DigestFunctions}
use Rattle.script_text.specs.declared.task.Task.{Task}
use Rattle.shipped_host.specs.declared.settings.Settings.{Settings}
use Rattle.host_world.specs.Shown.{shown_world, requests_of}
use Rattle.verifier_threads.specs.declared.runner.NextCall.{NextCall}
use Rattle.verifier_threads.specs.declared.runner.NextCall.TheVariants as calls
use Rattle.verifier_threads.specs.declared.runner.State.{State}
use Rattle.verifier_threads.specs.declared.runner.State.TheVariants as states
use Rattle.verifier_threads.specs.Serving.{IsCutOff, IsCutInRound}
use Rattle.verifier_threads.specs.Running.{RunsBehind, rounds_before}
use Rattle.verifier_threads.specs.Runners.{left_by}
use Rattle.verifier_threads.proofs.PassingLemmas.{err_any, rounds-same}
use Rattle.verifier_threads.proofs.CallLemmas.{run_of-same, run_of-these, run_of-tasks, stands-of, script-turns}
use Rattle.verifier_threads.proofs.runner.Runner.round.Goals as goal

pub round-requires-clause-runs : goal.round-requires-clause-runs
round-requires-clause-runs g c κs within =
    let serving = c.requires.serving in
    let stands = stands-of g.D.Digests.functions serving.1 serving.2 serving.3 serving.0 c.args.self.now serving.4 calls.Round (states.Served c.in-Served.served)
    c.requires.next c.in-Served.is serving.5 in
    (serving.0, serving.4, stands.stands.0, serving.6)

pub round-requires-clause-begins : goal.round-requires-clause-begins
round-requires-clause-begins g c κs within =
    let serving = c.requires.serving in
    let stands = stands-of g.D.Digests.functions serving.1 serving.2 serving.3 serving.0 c.args.self.now serving.4 calls.Round (states.Served c.in-Served.served)
    c.requires.next c.in-Served.is serving.5 in
    stands.stands.1

pub round-requires-clause-workers : goal.round-requires-clause-workers
round-requires-clause-workers g c κs within =
    let serving = c.requires.serving in
    let functions = g.D.Digests.functions in
    let served = c.in-Served.served in
    let stands = stands-of functions serving.1 serving.2 serving.3 serving.0 c.args.self.now serving.4 calls.Round (states.Served served) c.requires.next c.in-Served.is serving.5 in
    script-turns functions served (rounds_before served) (rounds_before served) (g.V.Sink.held c.args.vault.now) (run_of-tasks functions serving.1 serving.2 serving.3 served stands.is_of)
    (serving.0, serving.4, stands.stands.0, serving.6)

pub unreachable-requires : goal.unreachable-requires
unreachable-requires g c =
    let serving = c.requires.serving in
    let stands = stands-of g.D.Digests.functions serving.1 serving.2 serving.3 serving.0 c.args.self.now serving.4 calls.Round
    (states.Unserved c.in-Unserved.rounds c.in-Unserved.end) c.requires.next c.in-Unserved.is serving.5 in
    let no = stands.0 in cc

pub returns-clause-stands : goal.returns-clause-stands
returns-clause-stands g c = λ account own settings script outputs stands held.
    let functions = g.D.Digests.functions in
    let served = c.in-Served.served in
    let new = c.round.new.self in
    let vault' = g.V.Sink.held c.round.new.vault in
    let says = c.in_ok-round-in-Served.ensures in
    let was = stands-of functions own settings script account c.args.self.now outputs calls.Round (states.Served served) c.requires.next c.in-Served.is stands in
    record {
      account_is = stands.account_is;
      state = record {
        is_of = run_of-same functions own settings script served new c.round.ensures.host was.is_of;
        stands = (
          subst (λ (p : ℕ). RunsBehind account functions new (suc p) p (record outputs { vault_after = vault' })) (sym (rounds-same served new c.round.ensures.host says.same_phase))
              (says.runs account outputs was.stands.0 held),
          says.done,
        );
      };
    }

pub returns-clause-left : goal.returns-clause-left
returns-clause-left g c =
    let served = c.in-Served.served in
    let new = c.round.new.self in
    let old = c.args.self.now in
    let asked : length (requests_of new.world) ≡ length (requests_of served.world) = ap (λ (script : List (List Task)). length script) c.round.ensures.host.requests in
    let same = c.in_ok-round-in-Served.ensures.same_phase in
    let now : length (requests_of new.world) - (shown_world new.world).phase ≡ length (requests_of served.world) - (shown_world served.world).phase = omega (arith, asked, same) in
    now ∙ sym (ap (λ (n : NextCall). left_by n old.state) c.requires.next ∙ ap (λ (s : State _). left_by calls.Round s) c.in-Served.is)

pub returns-in_err-round-in-Served-clause-cut : goal.returns-in_err-round-in-Served-clause-cut
returns-in_err-round-in-Served-clause-cut g c = λ account own settings script outputs stands held.
    let functions = g.D.Digests.functions in
    let served = c.in-Served.served in
    let vault' = g.V.Sink.held c.round.new.vault in
    let was = stands-of functions own settings script account c.args.self.now outputs calls.Round (states.Served served) c.requires.next c.in-Served.is stands in
    err_any c.from_residual.result
    (run_of-these functions own settings script served was.is_of
    (λ (f : DigestFunctions) (s : Settings) (t : List (List Task)). IsCutOff account f s t (record outputs { vault_after = vault' }))
    (c.in_err-round-in-Served.ensures.cut account outputs was.stands.0 held))

pub returns-in_err-round-in-Served-clause-cut_round : goal.returns-in_err-round-in-Served-clause-cut_round
returns-in_err-round-in-Served-clause-cut_round g c = λ account own settings script outputs stands held.
    let functions = g.D.Digests.functions in
    let served = c.in-Served.served in
    let vault' = g.V.Sink.held c.round.new.vault in
    let was = stands-of functions own settings script account c.args.self.now outputs calls.Round (states.Served served) c.requires.next c.in-Served.is stands in
    err_any c.from_residual.result
    (run_of-these functions own settings script served was.is_of
    (λ (f : DigestFunctions) (s : Settings) (t : List (List Task)). IsCutInRound account f s t (record outputs { vault_after = vault' }))
    (c.in_err-round-in-Served.ensures.cut_round account outputs was.stands.0 held))
