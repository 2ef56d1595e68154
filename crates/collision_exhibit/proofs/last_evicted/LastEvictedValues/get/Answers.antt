use Rattle.std.proofs.Common.{None, Some, ◌∙◌, ap}
use Rattle.collision_exhibit.specs.LastEvicted.{last_evicted_at}
use Rattle.collision_exhibit.proofs.LastEvictedLemmas.{taken_found}
use Rattle.collision_exhibit.proofs.last_evicted.LastEvictedValues.get.Goals as goal

pub returns-in-Some : goal.returns-in-Some
returns-in-Some c = record {
  value =
      taken_found (λ value. value.now) c.self.inside.values.entries c.args.path.now (Some c.in-Some.value.now) c.in-Some.ensures.value
      ∙ ap (λ entries. last_evicted_at entries c.args.path.now) c.self.view_is;
}

pub returns-in-None : goal.returns-in-None
returns-in-None c = record {
  value =
      taken_found (λ value. value.now) c.self.inside.values.entries c.args.path.now None c.in-None.ensures.value
      ∙ ap (λ entries. last_evicted_at entries c.args.path.now) c.self.view_is;
}
