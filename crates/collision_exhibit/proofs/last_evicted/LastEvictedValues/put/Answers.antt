use Rattle.std.proofs.Common.{◌∙◌, ap}
use Rattle.soundness.specs.Clash.{with_last_evicted}
use Rattle.collision_exhibit.specs.LastEvicted.{last_evicted_at}
use Rattle.collision_exhibit.proofs.LastEvictedLemmas.{taken_put}
use Rattle.collision_exhibit.proofs.last_evicted.LastEvictedValues.put.Goals as goal
use Rattle.collision_exhibit.proofs.last_evicted.LastEvictedValues.put.Goals.{in-Ok, in-Err}

pub returns-clause-ok : goal.returns-clause-ok
returns-clause-ok c =
    elim c.match-insert.branch [
      | in-Ok w ↦
          rw w.result-is
          (taken_put (λ value. value.now) c.self.inside.values.entries c.insert.new.self.entries c.args.path.now c.args.value w.in-Ok.ensures.updates.0
          ∙ ap (λ entries. with_last_evicted (last_evicted_at entries) c.args.path.now c.args.value.now) c.self.view_is)
      | in-Err w ↦ rw w.result-is tt
    ]
