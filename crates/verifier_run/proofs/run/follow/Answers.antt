use Rattle.std.proofs.Common.{◌≡◌, ℕ, ◌≤◌, List, sym, ap, subst, ◌∙◌, take, length, length-drop, arith}
use Rattle.record_hash.specs.Functions.{DigestFunctions}
use Rattle.verifier_commands.specs.Event.{Event}
use Rattle.lamport_clocks.specs.declared.header.Header.{Header}
use Rattle.record_text.specs.Format.{format_of}
use Rattle.log_codec.specs.LogCommand.{command_at, IsCommand}
use Rattle.merkle_records.specs.Scheme.{scheme_of}
use Rattle.verifier_run.specs.Course.{Course, after_command}
use Rattle.verifier_run.specs.Progress.{between_commands, progress_over}
use Rattle.verifier_run.proofs.FollowLemmas.{more_taken, window_stopped, window_behind, refused_there, malformed_there, cut_there, is_none_told, is_some_told}
use Rattle.verifier_run.proofs.run.follow.Goals as goal

pub loop-window-preserved : goal.loop-window-preserved
loop-window-preserved g c =
    let header = c.header-in-loop-window.ensures.value ∙ c.loop-window.invariant.header in
    let none = is_none_told c.loop-window.tracer.refused c.refused.result c.is_none.result c.refused.ensures.value c.is_none.ensures c.loop-window-test.true in
    let spelled = ap (take c.in-Read.len) (sym c.behind-in-loop-window.ensures.value) ∙ c.in-Read.ensures.found in
    let left = ap length c.behind-in-loop-window.ensures.value ∙ length-drop c.loop-window.taken c.args.bytes.now in
    more_taken g.T.Kept.keeps (scheme_of (g.D.Digests.functions c.args.d.now) c.args.tracer.now.machine.header) c.args.tracer.now c.args.bytes.now c.loop-window.taken c.in-Read.len c.loop-window.tracer c.apply.new.self c.in-Read.command
    c.loop-window.invariant none (subst (λ (h : Header). IsCommand (format_of h) c.in-Read.command) header c.in-Read.ensures.kind) spelled
    (omega (arith, left, c.in-Read.ensures.within, c.loop-window.invariant.within)) (c.in-Ok-apply.ensures.ok ∙ ap (λ (h : Header). after_command g.T.Kept.keeps (scheme_of (g.D.Digests.functions c.args.d.now) h) c.loop-window.tracer c.in-Read.command) c.loop-window.invariant.header)
    (omega (arith, c.in-Ok-apply.ensures.count, c.loop-window.invariant.accepted, c.in-Read.ensures.some))

pub returns-in-Malformed-clause-ok : goal.returns-in-Malformed-clause-ok
returns-in-Malformed-clause-ok g c =
    let header = c.header-in-loop-window.ensures.value ∙ c.loop-window.invariant.header in
    let none = is_none_told c.loop-window.tracer.refused c.refused.result c.is_none.result c.refused.ensures.value c.is_none.ensures c.loop-window-test.true in
    malformed_there g.T.Kept.keeps (scheme_of (g.D.Digests.functions c.args.d.now) c.args.tracer.now.machine.header) c.args.tracer.now c.args.bytes.now c.loop-window.taken c.loop-window.tracer c.refuse.new.self
    c.loop-window.invariant none (ap (command_at (format_of c.args.tracer.now.machine.header)) (sym c.behind-in-loop-window.ensures.value) ∙ (ap (λ (h : Header). command_at (format_of h) c.behind-in-loop-window.result.now) (sym header) ∙ c.in-Malformed.ensures.exact)) c.refuse.ensures.refused

pub returns-in-Truncated-clause-ok : goal.returns-in-Truncated-clause-ok
returns-in-Truncated-clause-ok g c =
    let header = c.header-in-loop-window.ensures.value ∙ c.loop-window.invariant.header in
    let none = is_none_told c.loop-window.tracer.refused c.refused.result c.is_none.result c.refused.ensures.value c.is_none.ensures c.loop-window-test.true in
    cut_there g.T.Kept.keeps (scheme_of (g.D.Digests.functions c.args.d.now) c.args.tracer.now.machine.header) c.args.tracer.now c.args.bytes.now c.loop-window.taken c.loop-window.tracer
    c.loop-window.invariant none (ap (command_at (format_of c.args.tracer.now.machine.header)) (sym c.behind-in-loop-window.ensures.value) ∙ (ap (λ (h : Header). command_at (format_of h) c.behind-in-loop-window.result.now) (sym header) ∙ c.in-Truncated.ensures.exact))

pub returns-clause-ok : goal.returns-clause-ok
returns-clause-ok g c =
    let told = is_some_told c.loop-window.tracer.refused c.refused.result c.is_none.result c.refused.ensures.value c.is_none.ensures c.loop-window-test.false in
    refused_there g.T.Kept.keeps (scheme_of (g.D.Digests.functions c.args.d.now) c.args.tracer.now.machine.header) c.args.tracer.now c.args.bytes.now c.loop-window.taken c.loop-window.tracer told.0
    c.loop-window.invariant told.1

-- what a window came to, of the bytes that were left and by the header of the run
of_run : {A : Type 0} (keeps : Event → List A) (functions : DigestFunctions) (now after : Course A) (old header : Header) (left rest : List ℕ) (more : ℕ) → old ≡ header → left ≡ rest
    → progress_over keeps (scheme_of functions old) now (take more left) ≡ between_commands after → progress_over keeps (scheme_of functions header) now (take more rest) ≡ between_commands after
of_run keeps functions now after old header left rest more same behind done =
    subst (λ (h : Header). progress_over keeps (scheme_of functions h) now (take more rest) ≡ between_commands after) same
    (subst (λ (bs : List ℕ). progress_over keeps (scheme_of functions old) now (take more bs) ≡ between_commands after) behind done)

pub returns-in-Err-clause-stop : goal.returns-in-Err-clause-stop
returns-in-Err-clause-stop g c =
    let functions = g.D.Digests.functions c.args.d.now in
    let so_far = c.loop-window.invariant in
    window_stopped g.T.Kept.keeps (scheme_of functions c.args.tracer.now.machine.header) c.args.tracer.now c.args.bytes.now c.loop-window.taken c.in-Err.stop.taken c.loop-window.tracer c.follow_window.new.tracer so_far
    (of_run g.T.Kept.keeps functions c.loop-window.tracer c.follow_window.new.tracer _ _ _ _ c.in-Err.stop.taken so_far.header c.behind-then-not-is_empty.ensures.value c.in-Err.ensures.stop)

pub loop-window-preserved-then-not-is_empty : goal.loop-window-preserved-then-not-is_empty
loop-window-preserved-then-not-is_empty g c =
    let functions = g.D.Digests.functions c.args.d.now in
    let so_far = c.loop-window.invariant in
    window_behind g.T.Kept.keeps (scheme_of functions c.args.tracer.now.machine.header) c.args.tracer.now c.args.bytes.now c.loop-window.taken c.in-Ok.more c.loop-window.tracer c.follow_window.new.tracer so_far
    (subst (λ (bs : List ℕ). c.in-Ok.more ≤ length bs) c.behind-then-not-is_empty.ensures.value c.in-Ok.ensures.within) c.in-Ok.ensures.header c.in-Ok.ensures.accepted
    (of_run g.T.Kept.keeps functions c.loop-window.tracer c.follow_window.new.tracer _ _ _ _ c.in-Ok.more so_far.header c.behind-then-not-is_empty.ensures.value c.in-Ok.ensures.ok)
