use Rattle.std.proofs.Common.{length}
use Rattle.host_core.specs.World.{World}
use Rattle.host_shard.specs.Content.{Content}
use Rattle.host_world.specs.Behind.{with_logs}
use Rattle.table_order.specs.Servings.{pasts_of}
use Rattle.worker_threads.proofs.LeadLemmas.{leads}
use Rattle.worker_threads.proofs.MakingLemmas.{five}
use Rattle.worker_threads.proofs.ServedLemmas.{served_out}
use Rattle.worker_threads.proofs.TableLemmas.{at_rest, is_table}
use Rattle.worker_threads.proofs.laws.phases_at_once_are_lists_of_events.Goals as goal

pub returns : goal.returns
returns c = record {
  leads = λ functions settings script logs world later terms after rows digests each behind plain is.
      let before : World Content = with_logs logs world in
      let standing = c.worlds_are_as_promised.ensures.standing functions settings script before digests behind in
      let epochs = (c.worlds_are_as_promised.ensures.promised functions settings script before digests behind).in_phase plain in
      let table = is_table functions settings script logs world later each terms after rows is digests behind epochs in
      leads functions settings script logs world later each _ terms after rows is
      (five functions settings script before standing)
      (pasts_of (length before.shards) is.closed.past)
      (c.the_shipped_host_is_steady.ensures.steady functions settings script)
      (at_rest functions settings script logs world is.begins epochs)
      (c.tables_tell_of_a_phase.ensures.told functions settings script before terms after rows table is.closed)
      (c.tables_tell_of_a_phase.ensures.noted functions settings script before terms after rows table is.closed)
      (c.tables_tell_of_a_phase.ensures.apart rows)
      (c.a_phase_of_a_table_has_one_order.ensures.contents functions settings script before terms after rows table is.closed);
  served = λ functions settings script world later terms after rows plain is.
      served_out functions settings script world later terms after rows is plain;
}
