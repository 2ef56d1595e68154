use Rattle.std.proofs.Common.{List, Bool, sym, subst}
use Rattle.host_shard.specs.declared.content.Content.{Content}
use Rattle.table_tests.specs.Ready.{AreOwners}
use Rattle.table_tests.proofs.ReadyLemmas.{owners_of}
use Rattle.table_tests.proofs.phases.compare.Goals as goal

pub replay-requires : goal.replay-requires
replay-requires g c = record {
  owners = subst (λ (t : List (List Bool) × List Content). AreOwners t.0 t.1) (λ i. (sym c.as_slice.ensures.value i, sym c.as_mut_slice.ensures.value i))
      (owners_of c.in-Ok.frontiers.items c.in-Ok.again.items c.in-Ok.ensures.ready.0);
}
