use Rattle.std.proofs.Common.{◌<◌, List, None, length, refl, ap, arith}
use Rattle.std.proofs.lemmas.List.{length-map}
use Rattle.host_core.specs.World.{Worker, fresh}
use Rattle.host_world.specs.Shown.{shown_world}
use Rattle.host_world.specs.Workers.{shown_worker}
use Rattle.host_world.proofs.BegunLaws.{begun-set}
use Rattle.host_world.proofs.WorldLemmas.{changed}
use Rattle.host_world.proofs.world.World.give.Goals as goal

pub invariant_of-self : goal.invariant_of-self
invariant_of-self g c =
    let old = c.args.self.now in
    record { begun = begun-set old.settings.header old.workers.items old.begun c.args.worker c.index_mut.result.now _ c.index_mut.ensures.value refl }

pub returns-clause-stepped : goal.returns-clause-stepped
returns-clause-stepped g c =
    let old = c.args.self.now in
    let own : c.args.worker < length old.workers.items = omega (arith, c.requires.may.serving.there, length-map old.workers.items shown_worker) in
    ap (λ (workers : List Worker). record (shown_world old) { workers = workers })
    (changed shown_worker old.workers.items c.args.worker c.index_mut.result.now _ (fresh old.settings.header) (λ (w : Worker). record w { holds = None }) own c.index_mut.ensures.value refl)
