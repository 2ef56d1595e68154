use Rattle.std.proofs.Common.{◌≡◌, ◌<◌, List, [], ◌∷◌, Ok, true, length, set, get_or, sym, ◌∙◌, ap, arith}
use Rattle.std.proofs.lemmas.List.{length-map}
use Rattle.log_codec.specs.declared.command.Command.TheVariants.{NextEpoch}
use Rattle.host_core.specs.World.{Worker, fresh}
use Rattle.host_core.specs.WorldEvent.{logging, next_clock}
use Rattle.host_world.specs.Shown.{shown_world}
use Rattle.host_world.specs.Workers.{shown_worker}
use Rattle.host_world.proofs.BegunLaws.{begun-set}
use Rattle.host_world.proofs.WorldLemmas.{read_shown, set_same, changed, on_err}
use Rattle.host_world.proofs.world.World.enter.Goals as goal

pub invariant_of-self : goal.invariant_of-self
invariant_of-self g c =
    let old = c.args.self.now in
    record { begun = begun-set old.settings.header old.workers.items old.begun c.args.worker c.index_mut.result.now c.advance.new.self c.index_mut.ensures.value c.advance.ensures.writer }

pub invariant_of-self-2 : goal.invariant_of-self-2
invariant_of-self-2 g c =
    let old = c.args.self.now in
    record { begun = begun-set old.settings.header old.workers.items old.begun c.args.worker c.index_mut.result.now c.advance.new.self c.index_mut.ensures.value c.advance.ensures.writer }

pub returns-in_err-entered-clause-as_before : goal.returns-in_err-entered-clause-as_before
returns-in_err-entered-clause-as_before g c =
    let old = c.args.self.now in
    on_err c.from_residual.result
    (ap (λ (workers : List Worker). record (shown_world old) { workers = workers })
    (set_same shown_worker old.workers.items c.args.worker c.index_mut.result.now c.advance.new.self c.index_mut.ensures.value c.in_err-entered.ensures.as_before))

pub returns-clause-stepped : goal.returns-clause-stepped
returns-clause-stepped g c =
    let old = c.args.self.now in
    let i = c.args.worker in
    let x = c.index_mut.result.now in
    let own : i < length old.workers.items = omega (arith, c.requires.may.rolling.serving.there, length-map old.workers.items shown_worker) in
    let worker = sym (read_shown shown_worker old.workers.items i x (fresh old.settings.header) own c.index_mut.ensures.value) in
    ap (λ (workers : List Worker). record (shown_world old) { workers = workers })
    (changed shown_worker old.workers.items i x c.advance.new.self (fresh old.settings.header) (λ (w : Worker). logging w (NextEpoch ∷ []) (next_clock x.clock)) own c.index_mut.ensures.value
    (c.advance.ensures.advanced (c.in_ok-entered.was ∙ ap Ok c.if-prove.false)))
    ∙ ap (λ (w : Worker). record (shown_world old) { workers = set (shown_world old).workers i (logging (get_or (shown_world old).workers i (fresh old.settings.header)) (NextEpoch ∷ []) (next_clock w.clock)) }) worker
