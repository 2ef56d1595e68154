use Rattle.std.proofs.Common.{◌≡◌, ◌<◌, ◌-◌, ℕ, suc, List, length, map, Ok, refl, sym, ◌∙◌, ap, subst, arith}
use Rattle.std.proofs.lemmas.List.{length-map}
use Rattle.std.proofs.lemmas.Result.{err_from_is_err_and}
use Rattle.script_text.specs.declared.task.Task.{Task}
use Rattle.shipped_host.specs.ShippedHost.{turn_of}
use Rattle.host_world.specs.declared.world.World as code
use Rattle.host_world.specs.Shown.{shown_world, digests_of, requests_of}
use Rattle.host_world.specs.Behind.{host_of}
use Rattle.verifier_threads.specs.declared.runner.NextCall.TheVariants as calls
use Rattle.verifier_threads.specs.declared.runner.State.TheVariants as states
use Rattle.verifier_threads.specs.Serving.{Outputs}
use Rattle.verifier_threads.specs.Running.{RunsBehind, rounds_before, IsAtEnd}
use Rattle.verifier_threads.specs.Runners.{StandsBefore, left_by}
use Rattle.verifier_threads.proofs.PassingLemmas.{err_any, whole-behind, same-fault, behind-at}
use Rattle.verifier_threads.proofs.EndingLemmas.{whole-to_end, told-to_end}
use Rattle.verifier_threads.proofs.ClosingLemmas.{next-by, at-within, moved, stopped-end, stopped-ended}
use Rattle.verifier_threads.proofs.world_run.WorldRun.close.Goals as goal

pub returns-clause-stands : goal.returns-clause-stands
returns-clause-stands g c = λ outputs stands held written.
    let functions = g.D.Digests.functions in
    let new = c.close_epoch.new.self in
    let before = rounds_before c.args.self.now in
    let says = c.in_ok-close_epoch.ensures in
    let now : Outputs = record outputs { vault_after = g.V.Sink.held c.close_epoch.new.vault; out_after = g.O.Sink.held c.close_epoch.new.out } in
    let whole = says.runs outputs stands.0 held written in
    next-by (λ call. StandsBefore call c.args.account.now functions new now) c.is_last_close-last.result new.end c.call_behind.result c.call_behind.ensures.over c.call_behind.ensures.going
    (λ over. let at = says.ended over in (whole-to_end c.args.account.now functions c.args.self.now new now c.close_epoch.ensures.host whole at.0 at.1, at.0))
    (λ going none'.
    let opened = says.opened going none' in (
      subst (λ (p : ℕ). RunsBehind c.args.account.now functions new p p now) (sym opened.2) (whole-behind c.args.account.now functions new (suc before) now whole),
      opened.0,
    ))

pub returns-clause-call : goal.returns-clause-call
returns-clause-call g c =
    next-by (λ call. Ok call ≡ Ok calls.Close → ⊥) c.is_last_close-last.result c.close_epoch.new.self.end c.call_behind.result c.call_behind.ensures.over c.call_behind.ensures.going
    (λ over is. cc) (λ going none' is. cc)

pub returns-clause-fewer : goal.returns-clause-fewer
returns-clause-fewer g c =
    let old = c.args.self.now in
    let new = c.close_epoch.new.self in
    let size = length-map (requests_of old.world) (map turn_of) in
    let within = at-within (host_of (g.D.Digests.functions (digests_of old.world)) old.world) (shown_world old.world) c.requires.done.done in
    let same : length (requests_of new.world) ≡ length (requests_of old.world) = ap (λ (script : List (List Task)). length script) c.close_epoch.ensures.host.requests in
    next-by (λ call. left_by call (states.Served new) < length (requests_of old.world) - (shown_world old.world).phase)
    c.is_last_close-last.result new.end c.call_behind.result c.call_behind.ensures.over c.call_behind.ensures.going
    (λ over. omega (arith, size, within))
    (λ going none'. let opened = c.in_ok-close_epoch.ensures.opened going none' in let later = opened.1 in omega (arith, size, within, same, later))

pub returns-in_err-close_epoch-clause-cut : goal.returns-in_err-close_epoch-clause-cut
returns-in_err-close_epoch-clause-cut g c = λ outputs stands held written.
    err_any c.from_residual-in_err-close_epoch.result (c.in_err-close_epoch.ensures.cut outputs stands.0 held written)

pub returns-in_err-close_epoch-clause-cut_round : goal.returns-in_err-close_epoch-clause-cut_round
returns-in_err-close_epoch-clause-cut_round g c = λ outputs stands held written fault.
    let p = err_from_is_err_and c.from_residual-in_err-close_epoch.result c.from_residual-in_err-close_epoch.ensures.1 in
    c.in_err-close_epoch.ensures.cut_round outputs stands.0 held written (same-fault c.from_residual-in_err-close_epoch.result p.0 _ fault p.1 p.2)

pub returns-in_err-close_epoch-clause-lines : goal.returns-in_err-close_epoch-clause-lines
returns-in_err-close_epoch-clause-lines g c = λ fault.
    let p = err_from_is_err_and c.from_residual-in_err-close_epoch.result c.from_residual-in_err-close_epoch.ensures.1 in
    c.in_err-close_epoch.ensures.lines (same-fault c.from_residual-in_err-close_epoch.result p.0 _ fault p.1 p.2)

-- ---- where no close follows

pub returns-then-is_stopped-clause-stands : goal.returns-then-is_stopped-clause-stands
returns-then-is_stopped-clause-stands g c = λ outputs stands held written.
    let functions = g.D.Digests.functions in
    let account = c.args.account.now in
    let old = c.args.self.now in
    let new = c.write_certified.new.self in
    let host = host_of (functions (digests_of old.world)) old.world in
    let stopped = c.is_stopped.ensures.stopped c.if-is_stopped.true in
    let before = rounds_before old in
    let behind = behind-at account functions old (suc before) before outputs stands.0 (g.V.Sink.held c.args.vault.now) (g.O.Sink.held c.args.out.now) held written in
    let told = c.in_ok-write_certified.ensures.runs (record outputs { vault_after = g.V.Sink.held c.args.vault.now; out_after = g.O.Sink.held c.args.out.now }) behind.past behind.runs refl in
    let world_is = c.write_certified.ensures.world in
    let end_is = c.write_certified.ensures.end in (
      told-to_end account functions new behind.past (record outputs { vault_after = g.V.Sink.held c.args.vault.now; out_after = g.O.Sink.held c.write_certified.new.out }) told
          (λ none'. stopped-ended host (shown_world old.world) old.end c.requires.done stopped (sym end_is ∙ none')),
      moved IsAtEnd host _ (shown_world old.world) (shown_world new.world) old.end new.end (ap (λ (w : code.World _). host_of (functions (digests_of w)) w) world_is)
          (ap (λ (w : code.World _). shown_world w) world_is) end_is (stopped-end host (shown_world old.world) old.end c.requires.done stopped),
    )

pub returns-in_err-write_certified-clause-cut : goal.returns-in_err-write_certified-clause-cut
returns-in_err-write_certified-clause-cut g c = λ outputs stands held written.
    let old = c.args.self.now in
    let before = rounds_before old in
    let behind = behind-at c.args.account.now g.D.Digests.functions old (suc before) before outputs stands.0 (g.V.Sink.held c.args.vault.now) (g.O.Sink.held c.args.out.now) held written in
    err_any _
    (c.in_err-write_certified.ensures.cut (record outputs { vault_after = g.V.Sink.held c.args.vault.now; out_after = g.O.Sink.held c.args.out.now }) behind.past behind.runs refl)
