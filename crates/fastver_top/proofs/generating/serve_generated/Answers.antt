use Rattle.std.proofs.Common.{Ok, Err, List, refl, sym, subst, ap, ◌∙◌}
use Rattle.report_text.specs.declared.status.Status.{Status}
use Rattle.report_text.specs.Answer.{Writing}
use Rattle.script_text.specs.Text.{AreTasks}
use Rattle.script_text.specs.declared.task.Task.{Task}
use Rattle.script_text.specs.Generator.{generated}
use Rattle.verifier_threads.specs.Serving.{Outputs, ServesTo}
use Rattle.check_core.specs.Sealing.{Keeping}
use Rattle.fastver_top.specs.Running.{header_for, settings_for}
use Rattle.fastver_top.specs.Generating.{GensTo, account_for}
use Rattle.fastver_top.proofs.LoadLemmas.{load-asks, gens-nothing, gens-stopped, gens-served}
use Rattle.fastver_top.proofs.generating.serve_generated.Goals as goal

pub serve_named-requires-clause-tasks : goal.serve_named-requires-clause-tasks
serve_named-requires-clause-tasks g c κs within =
    let words = c.args.words.now in
    subst (AreTasks (header_for words.numbers)) (sym (c.in-Ok.ensures.generated ∙ ap (generated words.load.seed) c.shape_for-shape.ensures.value))
    (load-asks words c.requires.numbers.some_verifiers)

pub returns-in-Err-clause-generates : goal.returns-in-Err-clause-generates
returns-in-Err-clause-generates g c =
    gens-nothing (g.D.Digests.functions c.args.d.now) c.args.words.now _ _ (record { unnamed = refl; vault = refl; out = refl })

pub returns-in-Ok-serve_named-clause-generates : goal.returns-in-Ok-serve_named-clause-generates
returns-in-Ok-serve_named-clause-generates g c =
    let functions = g.D.Digests.functions c.args.d.now in
    let words = c.args.words.now in
    let wrote : Writing = record {
      held = g.O.Sink.held c.args.out.now;
      held_after = g.O.Sink.held c.serve_named.new.out;
      faults = g.O.Sink.faults c.args.out.now;
      faults_after = g.O.Sink.faults c.serve_named.new.out;
    } in
    let kept : Keeping = record {
      held = g.V.Sink.held c.args.vault.now;
      held_after = g.V.Sink.held c.serve_named.new.vault;
      name = g.V.Sink.name c.args.vault.now;
      name_after = g.V.Sink.name c.serve_named.new.vault;
      faults = g.V.Sink.faults c.args.vault.now;
      faults_after = g.V.Sink.faults c.serve_named.new.vault;
    } in
    let outputs : Outputs = record { vault = kept.held; vault_after = kept.held_after; out = wrote.held; out_after = wrote.held_after } in
    let script = c.in-Ok.ensures.generated ∙ ap (generated words.load.seed) c.shape_for-shape.ensures.value in
    subst (λ (status : Status). GensTo functions words status wrote kept) (sym c.status.ensures.value)
    (gens-served functions words wrote kept c.in-Ok-serve_named.end
    (subst (λ (asked : List (List Task)). ServesTo (account_for words.load) functions (settings_for words.numbers) asked (Ok c.in-Ok-serve_named.end) outputs) script
    c.in-Ok-serve_named.ensures.serves)
    (c.in-Ok-serve_named.ensures.named (λ is. cc)))

pub returns-clause-generates : goal.returns-clause-generates
returns-clause-generates g c =
    let functions = g.D.Digests.functions c.args.d.now in
    let words = c.args.words.now in
    let wrote : Writing = record {
      held = g.O.Sink.held c.args.out.now;
      held_after = g.O.Sink.held c.serve_named.new.out;
      faults = g.O.Sink.faults c.args.out.now;
      faults_after = g.O.Sink.faults c.serve_named.new.out;
    } in
    let kept : Keeping = record {
      held = g.V.Sink.held c.args.vault.now;
      held_after = g.V.Sink.held c.serve_named.new.vault;
      name = g.V.Sink.name c.args.vault.now;
      name_after = g.V.Sink.name c.serve_named.new.vault;
      faults = g.V.Sink.faults c.args.vault.now;
      faults_after = g.V.Sink.faults c.serve_named.new.vault;
    } in
    let outputs : Outputs = record { vault = kept.held; vault_after = kept.held_after; out = wrote.held; out_after = wrote.held_after } in
    let script = c.in-Ok.ensures.generated ∙ ap (generated words.load.seed) c.shape_for-shape.ensures.value in
    let stop = c.in-Err-serve_named.failure in
    let says = c.in-Err-serve_named.ensures in
    subst (λ (status : Status). GensTo functions words status wrote kept) (sym c.of_failure.ensures.value)
    (gens-stopped functions words wrote kept stop
    (subst (λ (asked : List (List Task)). ServesTo (account_for words.load) functions (settings_for words.numbers) asked (Err stop) outputs) script says.serves)
    (λ other. says.named (λ is. other (cc)))
    says.named_first
    (λ is. says.vault_fault (ap (λ (s : _). Err s) is))
    (λ is. says.write_fault (ap (λ (s : _). Err s) is)))
