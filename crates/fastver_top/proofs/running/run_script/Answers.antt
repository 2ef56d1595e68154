use Rattle.std.proofs.Common.{Ok, Err, refl, sym, ap, subst}
use Rattle.lamport_clocks.specs.declared.header.Header.{Header}
use Rattle.report_text.specs.declared.status.Status.{Status}
use Rattle.report_text.specs.Answer.{Reading, Writing}
use Rattle.script_text.specs.Text.{AreTasks}
use Rattle.check_core.specs.Sealing.{Keeping}
use Rattle.fastver_top.specs.Running.{ReadsScript, RunsTo, header_for, settings_for}
use Rattle.fastver_top.proofs.RunLemmas.{runs-unread, runs-stopped, runs-served}
use Rattle.fastver_top.proofs.ServedLemmas.{run-end}
use Rattle.fastver_top.proofs.SettingLemmas.{settings_in_range}
use Rattle.fastver_top.proofs.running.run_script.Goals as goal

pub serve_named-requires-clause-tasks : goal.serve_named-requires-clause-tasks
serve_named-requires-clause-tasks g c κs within =
    subst (λ (h : Header). AreTasks h c.in-Ok.requests) c.header_for-header.ensures.value c.in-Ok.ensures.tasks

pub returns-in-Err-clause-runs : goal.returns-in-Err-clause-runs
returns-in-Err-clause-runs g c =
    let functions = g.D.Digests.functions c.args.d.now in
    let read : Reading = record {
      left = g.S.Source.left c.args.source.now;
      left_after = g.S.Source.left c.read_script.new.source;
      faults = g.S.Source.faults c.args.source.now;
      faults_after = g.S.Source.faults c.read_script.new.source;
    } in
    let held = g.O.Sink.held c.args.out.now in
    let faults = g.O.Sink.faults c.args.out.now in
    let wrote : Writing = record { held = held; held_after = held; faults = faults; faults_after = faults } in
    let kept : Keeping = record {
      held = g.V.Sink.held c.args.vault.now;
      held_after = g.V.Sink.held c.args.vault.now;
      name = g.V.Sink.name c.args.vault.now;
      name_after = g.V.Sink.name c.args.vault.now;
      faults = g.V.Sink.faults c.args.vault.now;
      faults_after = g.V.Sink.faults c.args.vault.now;
    } in
    subst (λ (status : Status). RunsTo functions c.args.run.now c.args.limit status read wrote kept) (sym c.status.ensures.value)
    (runs-unread functions c.args.run.now c.args.limit read wrote kept c.in-Err.stop
    (subst (λ (h : Header). ReadsScript h c.args.limit (Err c.in-Err.stop) read) c.header_for-header.ensures.value c.in-Err.ensures.reads)
    (record { unnamed = refl; vault = refl; out = refl }))

pub returns-in-Ok-serve_named-clause-runs : goal.returns-in-Ok-serve_named-clause-runs
returns-in-Ok-serve_named-clause-runs g c =
    let functions = g.D.Digests.functions c.args.d.now in
    let read : Reading = record {
      left = g.S.Source.left c.args.source.now;
      left_after = g.S.Source.left c.read_script.new.source;
      faults = g.S.Source.faults c.args.source.now;
      faults_after = g.S.Source.faults c.read_script.new.source;
    } in
    let wrote : Writing = record {
      held = g.O.Sink.held c.args.out.now;
      held_after = g.O.Sink.held c.serve_named.new.out;
      faults = g.O.Sink.faults c.args.out.now;
      faults_after = g.O.Sink.faults c.serve_named.new.out;
    } in
    let kept : Keeping = record {
      held = g.V.Sink.held c.args.vault.now;
      held_after = g.V.Sink.held c.serve_named.new.vault;
      name = g.V.Sink.name c.args.vault.now;
      name_after = g.V.Sink.name c.serve_named.new.vault;
      faults = g.V.Sink.faults c.args.vault.now;
      faults_after = g.V.Sink.faults c.serve_named.new.vault;
    } in
    let numbers = c.args.run.now.numbers in
    subst (λ (status : Status). RunsTo functions c.args.run.now c.args.limit status read wrote kept) (sym c.status-in-Ok-serve_named.ensures.value)
    (runs-served functions c.args.run.now c.args.limit read wrote kept c.in-Ok.requests
    (subst (λ (h : Header). ReadsScript h c.args.limit (Ok c.in-Ok.requests) read) c.header_for-header.ensures.value c.in-Ok.ensures.reads)
    (λ rounds logs. run-end functions (settings_for numbers) c.in-Ok.requests rounds logs c.a_check_of_the_logs_ends_as_the_host_promises.ensures.whole
    (settings_in_range numbers c.requires.numbers) (c.scripts_ask_for_keys_in_range.ensures.keys (header_for numbers) c.in-Ok.requests
    (subst (λ (h : Header). AreTasks h c.in-Ok.requests) c.header_for-header.ensures.value c.in-Ok.ensures.tasks))
    (λ text. (c.digests_have_32_bytes.ensures.digests text).size) c.requires.numbers.first c.in-Ok.ensures.some)
    c.in-Ok-serve_named.end c.in-Ok-serve_named.ensures.serves (c.in-Ok-serve_named.ensures.named (λ is. cc)))

pub returns-clause-runs : goal.returns-clause-runs
returns-clause-runs g c =
    let functions = g.D.Digests.functions c.args.d.now in
    let run = c.args.run.now in
    let read : Reading = record {
      left = g.S.Source.left c.args.source.now;
      left_after = g.S.Source.left c.read_script.new.source;
      faults = g.S.Source.faults c.args.source.now;
      faults_after = g.S.Source.faults c.read_script.new.source;
    } in
    let wrote : Writing = record {
      held = g.O.Sink.held c.args.out.now;
      held_after = g.O.Sink.held c.serve_named.new.out;
      faults = g.O.Sink.faults c.args.out.now;
      faults_after = g.O.Sink.faults c.serve_named.new.out;
    } in
    let kept : Keeping = record {
      held = g.V.Sink.held c.args.vault.now;
      held_after = g.V.Sink.held c.serve_named.new.vault;
      name = g.V.Sink.name c.args.vault.now;
      name_after = g.V.Sink.name c.serve_named.new.vault;
      faults = g.V.Sink.faults c.args.vault.now;
      faults_after = g.V.Sink.faults c.serve_named.new.vault;
    } in
    let stop = c.in-Err-serve_named.failure in
    let says = c.in-Err-serve_named.ensures in
    subst (λ (status : Status). RunsTo functions run c.args.limit status read wrote kept) (sym c.of_failure.ensures.value)
    (runs-stopped functions run c.args.limit read wrote kept c.in-Ok.requests
    (subst (λ (h : Header). ReadsScript h c.args.limit (Ok c.in-Ok.requests) read) c.header_for-header.ensures.value c.in-Ok.ensures.reads) stop says.serves
    (λ other. says.named (λ is. other (cc)))
    says.named_first
    (λ is. says.vault_fault (ap (λ (s : _). Err s) is))
    (λ is. says.write_fault (ap (λ (s : _). Err s) is)))
