use Rattle.std.proofs.Common.{◌≡◌, ◌<◌, List, [], ◌∷◌, Ok, true, length, set, sym, ◌∙◌, ap, arith}
use Rattle.std.proofs.lemmas.Bool.{false≢true}
use Rattle.std.proofs.lemmas.List.{length-map}
use Rattle.lamport_clocks.specs.Clock.{last_epoch}
use Rattle.log_codec.specs.declared.command.Command.TheVariants.{NextEpoch}
use Rattle.host_core.specs.World.{Worker, fresh}
use Rattle.host_core.specs.WorldEvent.{after_advance, logging, next_clock}
use Rattle.host_world.specs.Shown.{shown_world}
use Rattle.host_world.specs.Workers.{shown_worker}
use Rattle.host_world.proofs.BegunLaws.{begun-set}
use Rattle.host_world.proofs.WorldLemmas.{read_shown, set_same, changed, after_advanced, after_last, on_err}
use Rattle.host_world.proofs.world.World.advance.Goals as goal

pub invariant_of-self : goal.invariant_of-self
invariant_of-self g c =
    let old = c.args.self.now in
    record { begun = begun-set old.settings.header old.workers.items old.begun c.args.worker c.index_mut.result.now c.advance.new.self c.index_mut.ensures.value c.advance.ensures.writer }

pub invariant_of-self-then-branch : goal.invariant_of-self-then-branch
invariant_of-self-then-branch g c =
    let old = c.args.self.now in
    record { begun = begun-set old.settings.header old.workers.items old.begun c.args.worker c.index_mut.result.now c.advance.new.self c.index_mut.ensures.value c.advance.ensures.writer }

pub invariant_of-self-2 : goal.invariant_of-self-2
invariant_of-self-2 g c =
    let old = c.args.self.now in
    record { begun = begun-set old.settings.header old.workers.items old.begun c.args.worker c.index_mut.result.now c.advance.new.self c.index_mut.ensures.value c.advance.ensures.writer }

pub returns-in_err-advance-clause-as_before : goal.returns-in_err-advance-clause-as_before
returns-in_err-advance-clause-as_before g c =
    let old = c.args.self.now in
    on_err c.from_residual.result
    (ap (λ (workers : List Worker). record (shown_world old) { workers = workers })
    (set_same shown_worker old.workers.items c.args.worker c.index_mut.result.now c.advance.new.self c.index_mut.ensures.value c.in_err-advance.ensures.as_before))

pub returns-then-branch-clause-stepped : goal.returns-then-branch-clause-stepped
returns-then-branch-clause-stepped g c =
    let old = c.args.self.now in
    let world = shown_world old in
    let i = c.args.worker in
    let x = c.index_mut.result.now in
    let own : i < length old.workers.items = omega (arith, c.requires.may.there, length-map old.workers.items shown_worker) in
    let worker = sym (read_shown shown_worker old.workers.items i x (fresh old.settings.header) own c.index_mut.ensures.value) in
    let other = λ (last : x.clock.at.epoch ≡ last_epoch). false≢true (sym (c.in_ok-advance.ensures.last.1 last) ∙ c.if-branch.true) in
    ap (λ (workers : List Worker). record world { workers = workers; closing = true })
    (changed shown_worker old.workers.items i x c.advance.new.self (fresh old.settings.header) (λ (w : Worker). logging w (NextEpoch ∷ []) (next_clock x.clock)) own c.index_mut.ensures.value
    (c.advance.ensures.advanced (c.in_ok-advance.was ∙ ap Ok c.if-branch.true)))
    ∙ ap (λ (w : Worker). record world { workers = set world.workers i (logging w (NextEpoch ∷ []) (next_clock x.clock)); closing = true }) (sym worker)
    ∙ after_advanced world i (shown_worker x) other
    ∙ ap (after_advance world i) worker

pub returns-clause-stepped : goal.returns-clause-stepped
returns-clause-stepped g c =
    let old = c.args.self.now in
    let world = shown_world old in
    let i = c.args.worker in
    let x = c.index_mut.result.now in
    let own : i < length old.workers.items = omega (arith, c.requires.may.there, length-map old.workers.items shown_worker) in
    let worker = sym (read_shown shown_worker old.workers.items i x (fresh old.settings.header) own c.index_mut.ensures.value) in
    ap (λ (workers : List Worker). record world { workers = workers; over = true })
    (set_same shown_worker old.workers.items i x c.advance.new.self c.index_mut.ensures.value (c.advance.ensures.no_epoch (c.in_ok-advance.was ∙ ap Ok c.if-branch.false)))
    ∙ after_last world i (shown_worker x) (c.in_ok-advance.ensures.last.0 c.if-branch.false)
    ∙ ap (after_advance world i) worker
