use Rattle.std.proofs.Common.{◌<◌, List, [], length, refl, sym, ◌∙◌, ap, subst, arith}
use Rattle.std.proofs.lemmas.List.{length-map}
use Rattle.log_codec.specs.declared.command.Command.{Command}
use Rattle.slot_rewriting.specs.declared.writer.CommandWriter.{CommandWriter}
use Rattle.slot_rewriting.specs.Writing.{opening_writer, text_from}
use Rattle.worker_log.specs.Logged.{Logged, AreWritable}
use Rattle.host_core.specs.World.{Worker, fresh}
use Rattle.host_world.specs.Shown.{shown_world}
use Rattle.host_world.specs.Workers.{shown_worker, writer_in}
use Rattle.host_world.proofs.BegunLaws.{begun-at, begun-set}
use Rattle.host_world.proofs.StandingLemmas.{stands_handed}
use Rattle.host_world.proofs.WorldLemmas.{read_shown, set_same, changed, on_err}
use Rattle.host_world.proofs.world.World.hand_out.Goals as goal

pub invariant_of-self : goal.invariant_of-self
invariant_of-self g c =
    let old = c.args.self.now in
    record { begun = begun-set old.settings.header old.workers.items old.begun c.args.worker c.index_mut.result.now _ c.index_mut.ensures.value c.settle.ensures.writer }

pub invariant_of-self-2 : goal.invariant_of-self-2
invariant_of-self-2 g c =
    let old = c.args.self.now in
    let i = c.args.worker in
    let x = c.index_mut.result.now in
    let header = old.settings.header in
    let own : i < length old.workers.items = omega (arith, c.requires.there, length-map old.workers.items shown_worker) in
    record {
      begun = begun-set header old.workers.items old.begun i x _ c.index_mut.ensures.value
          (ap (λ (log : Logged). log.writer) c.hand_out.ensures.begun ∙ c.in_ok-writer.ensures.value
          ∙ sym (ap writer_in c.index_mut.ensures.value ∙ begun-at header old.workers.items old.begun i x own));
    }

pub returns-in_err-settle-clause-as_before : goal.returns-in_err-settle-clause-as_before
returns-in_err-settle-clause-as_before g c =
    let old = c.args.self.now in
    let x = c.index_mut.result.now in
    on_err c.from_residual-in_err-settle.result
    (ap (λ (workers : List Worker). record (shown_world old) { workers = workers })
    (set_same shown_worker old.workers.items c.args.worker x _ c.index_mut.ensures.value
    (ap (λ (commands : List Command). record (shown_worker x) { log = commands }) c.settle.ensures.commands)))

pub returns-clause-handed : goal.returns-clause-handed
returns-clause-handed g c =
    let old = c.args.self.now in
    let i = c.args.worker in
    let x = c.index_mut.result.now in
    let header = old.settings.header in
    let own : i < length old.workers.items = omega (arith, c.requires.there, length-map old.workers.items shown_worker) in
    let worker = sym (read_shown shown_worker old.workers.items i x (fresh header) own c.index_mut.ensures.value) in
    c.hand_out.ensures.handed
    ∙ ap (λ (writer : CommandWriter). text_from writer c.settle.new.self.commands)
    (c.settle.ensures.writer ∙ ap writer_in c.index_mut.ensures.value ∙ begun-at header old.workers.items old.begun i x own)
    ∙ ap (text_from (opening_writer i header)) (c.settle.ensures.commands ∙ ap (λ (w : Worker). w.log) worker)

pub returns-clause-writable : goal.returns-clause-writable
returns-clause-writable g c =
    let old = c.args.self.now in
    let i = c.args.worker in
    let own : i < length old.workers.items = omega (arith, c.requires.there, length-map old.workers.items shown_worker) in
    let worker = sym (read_shown shown_worker old.workers.items i c.index_mut.result.now (fresh old.settings.header) own c.index_mut.ensures.value) in
    subst AreWritable (c.settle.ensures.commands ∙ ap (λ (w : Worker). w.log) worker) c.hand_out.ensures.writable

pub returns-clause-forgotten : goal.returns-clause-forgotten
returns-clause-forgotten g c =
    let old = c.args.self.now in
    let x = c.index_mut.result.now in
    let own : c.args.worker < length old.workers.items = omega (arith, c.requires.there, length-map old.workers.items shown_worker) in
    ap (λ (workers : List Worker). record (shown_world old) { workers = workers })
    (changed shown_worker old.workers.items c.args.worker x _ (fresh old.settings.header) (λ (w : Worker). record w { log = [] }) own c.index_mut.ensures.value
    (ap (λ (log : Logged). record (shown_worker x) { log = log.commands }) c.hand_out.ensures.begun))

pub returns-clause-goes_on : goal.returns-clause-goes_on
returns-clause-goes_on g c = λ logs stands.
    stands_handed g.D.Digests.functions c.args.self.now _ (record { settings = refl; requests = refl; digests = refl }) c.args.worker (returns-clause-forgotten g c) logs stands
