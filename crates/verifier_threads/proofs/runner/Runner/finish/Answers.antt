use Rattle.std.proofs.Common.{◌≡◌, List, IfOk, OnErr, sym, subst}
use Rattle.record_hash.specs.Functions.{DigestFunctions}
use Rattle.script_text.specs.declared.task.Task.{Task}
use Rattle.shipped_host.specs.declared.settings.Settings.{Settings}
use Rattle.host_world.specs.Shown.{shown_world, digests_of, requests_of}
use Rattle.verifier_threads.specs.declared.accounts.Account.{Account}
use Rattle.verifier_threads.specs.declared.runner.NextCall.TheVariants as calls
use Rattle.verifier_threads.specs.declared.runner.State.TheVariants as states
use Rattle.verifier_threads.specs.declared.ending.RunEnd.TheVariants as ends
use Rattle.verifier_threads.specs.Serving.{Outputs, IfDone, HoldsWhatIsCertified, IsServed, IsCutAtEnd}
use Rattle.verifier_threads.specs.Runners.{StandsBefore}
use Rattle.verifier_threads.proofs.CallLemmas.{run_of-these, stands-of, if_ok-then}
use Rattle.verifier_threads.proofs.runner.Runner.finish.Goals as goal

pub end_with-requires : goal.end_with-requires
end_with-requires g c =
    let serving = c.requires.serving.1 in
    let functions = g.D.Digests.functions in
    let stands = stands-of functions serving.1 serving.2 serving.3 serving.0 c.args.self.now serving.4 calls.Finish (states.Served c.in-Served.served)
    c.requires.next c.in-Served.is serving.5 in
    record { runs = (serving.0, serving.4, stands.stands.0); ended = stands.stands.1 }

pub returns-in-Served-clause-served : goal.returns-in-Served-clause-served
returns-in-Served-clause-served g c = λ account own settings script outputs stands written.
    let functions = g.D.Digests.functions in
    let served = c.in-Served.served in
    let now : Outputs = record outputs { out_after = g.O.Sink.held c.end_with.new.out } in
    let was = stands-of functions own settings script account c.args.self.now outputs calls.Finish (states.Served served) c.requires.next c.in-Served.is stands in
    run_of-these functions own settings script served was.is_of
    (λ (f : DigestFunctions) (s : Settings) (t : List (List Task)). IfOk c.end_with.result (λ end. IsServed account f s t end now))
    (subst (λ (a : Account). IfOk c.end_with.result (λ end. IsServed a (functions (digests_of served.world)) served.world.settings (requests_of served.world) end now)) stands.account_is
    (c.end_with.ensures.served outputs (subst (λ (a : Account). StandsBefore calls.Finish a functions served outputs) (sym stands.account_is) was.stands).0 written))

pub returns-in-Served-clause-cut : goal.returns-in-Served-clause-cut
returns-in-Served-clause-cut g c = λ account own settings script outputs stands written.
    let functions = g.D.Digests.functions in
    let served = c.in-Served.served in
    let now : Outputs = record outputs { out_after = g.O.Sink.held c.end_with.new.out } in
    let was = stands-of functions own settings script account c.args.self.now outputs calls.Finish (states.Served served) c.requires.next c.in-Served.is stands in
    run_of-these functions own settings script served was.is_of
    (λ (f : DigestFunctions) (s : Settings) (t : List (List Task)). OnErr c.end_with.result (IsCutAtEnd account f s t now))
    (subst (λ (a : Account). OnErr c.end_with.result (IsCutAtEnd a (functions (digests_of served.world)) served.world.settings (requests_of served.world) now)) stands.account_is
    (c.end_with.ensures.cut outputs (subst (λ (a : Account). StandsBefore calls.Finish a functions served outputs) (sym stands.account_is) was.stands).0 written))

pub returns-in-Unserved-clause-served : goal.returns-in-Unserved-clause-served
returns-in-Unserved-clause-served g c = λ account own settings script outputs stands written.
    let functions = g.D.Digests.functions in
    let now : Outputs = record outputs { out_after = g.O.Sink.held c.end_unserved.new.out } in
    let was = stands-of functions own settings script account c.args.self.now outputs calls.Finish (states.Unserved c.in-Unserved.rounds c.in-Unserved.end)
    c.requires.next c.in-Unserved.is stands in
    subst (λ (a : Account). IfOk c.end_unserved.result (λ end. IsServed a own settings script end now)) stands.account_is
    (c.end_unserved.ensures.served own settings script outputs was.1 written)

pub returns-in-Unserved-clause-cut : goal.returns-in-Unserved-clause-cut
returns-in-Unserved-clause-cut g c = λ account own settings script outputs stands written.
    let functions = g.D.Digests.functions in
    let now : Outputs = record outputs { out_after = g.O.Sink.held c.end_unserved.new.out } in
    let was = stands-of functions own settings script account c.args.self.now outputs calls.Finish (states.Unserved c.in-Unserved.rounds c.in-Unserved.end)
    c.requires.next c.in-Unserved.is stands in
    subst (λ (a : Account). OnErr c.end_unserved.result (IsCutAtEnd a own settings script now)) stands.account_is
    (c.end_unserved.ensures.cut own settings script outputs was.1 written)

pub returns-in-Served-clause-holds : goal.returns-in-Served-clause-holds
returns-in-Served-clause-holds g c = λ account own settings script outputs stands.
    let functions = g.D.Digests.functions in
    let served = c.in-Served.served in
    let now = c.end_with.new.self in
    let result = c.end_with.result in
    let was = stands-of functions own settings script account c.args.self.now outputs calls.Finish (states.Served served) c.requires.next c.in-Served.is stands in
    run_of-these functions own settings script served was.is_of
    (λ (f : DigestFunctions) (s : Settings) (t : List (List Task)). IfOk result (λ end. IfDone end (HoldsWhatIsCertified f s (shown_world now.world) outputs.vault outputs.vault_after)))
    (subst (λ w. IfOk result (λ end. IfDone end (HoldsWhatIsCertified (functions (digests_of w)) w.settings (shown_world now.world) outputs.vault outputs.vault_after))) c.end_with.ensures.world
    (c.end_with.ensures.holds outputs (subst (λ (a : Account). StandsBefore calls.Finish a functions served outputs) (sym stands.account_is) was.stands).0))

pub returns-in-Unserved-clause-holds : goal.returns-in-Unserved-clause-holds
returns-in-Unserved-clause-holds g c = λ account own settings script outputs stands.
    if_ok-then (λ end. end ≡ ends.ClockEnd c.in-Unserved.end) (λ end. IfDone end ⊥) c.end_unserved.result c.end_unserved.ensures.ended
    (λ end is. subst (λ e. IfDone e ⊥) (sym is) tt)
