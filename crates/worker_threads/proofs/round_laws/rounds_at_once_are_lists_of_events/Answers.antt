use Rattle.std.proofs.Common.{inl, map, sym, subst, arith}
use Rattle.host_core.specs.World.{World}
use Rattle.host_shard.specs.Content.{Content}
use Rattle.host_table.specs.Services.{row_of}
use Rattle.host_table.specs.Terms.{phase_of}
use Rattle.host_core.specs.Core.{IsStanding}
use Rattle.host_fits.specs.Mirroring.{PlacesMirror}
use Rattle.host_world.specs.Behind.{IsBehindSetup, with_logs}
use Rattle.host_world.proofs.FrontLaws.{length-before_each}
use Rattle.round_order.specs.Told.{IsLevel}
use Rattle.shipped_host.specs.ShippedHost.{shipped_host}
use Rattle.worker_threads.proofs.BeginLemmas.{level}
use Rattle.worker_threads.proofs.ModeLemmas.{by_mode, phase_served, leads_plain, leads_rolling, ends_rolling}
use Rattle.worker_threads.proofs.RollingLemmas.{table}
use Rattle.worker_threads.proofs.round_laws.rounds_at_once_are_lists_of_events.Goals as goal

pub returns : goal.returns
returns c = record {
  leads = λ functions settings script logs world later terms after rows digests each behind is.
      let before : World Content = with_logs logs world in
      let host = shipped_host functions settings script in
      let promised = c.worlds_are_as_promised.ensures.promised functions settings script before digests behind in
      let standing = c.worlds_are_as_promised.ensures.standing functions settings script before digests behind in
      let even = subst (IsLevel host before) (sym is.epoch)
      (level host logs world is.begins (let count = length-before_each logs world.workers in omega (arith, standing.workers, behind.settings_fit.header.some_verifiers, count))
      promised.in_phase promised.in_round) in
      by_mode settings.rolling
      (λ plain. leads_plain functions settings script logs world later each terms after rows is even plain
      (c.phases_at_once_are_lists_of_events.ensures.leads functions settings script logs world later (phase_of terms) after (map row_of rows) digests each behind plain
      (phase_served functions settings script logs world later each terms after rows is even plain)))
      (λ rolling.
      let stands : (w : World Content) → IsBehindSetup functions settings script w → IsStanding (PlacesMirror functions settings) host w = λ w. c.worlds_are_as_promised.ensures.standing functions settings script w digests in
      let of_round = table functions settings script logs world later each terms after rows is digests behind rolling stands even in
      leads_rolling functions settings script logs world later each terms after rows is even digests behind rolling stands
      (c.tables_tell_of_a_round.ensures.told functions settings script before terms after rows of_round is.closed)
      (c.a_round_of_a_table_has_one_order.ensures.order functions settings script before terms after rows of_round is.closed)
      (c.a_round_of_a_table_has_one_order.ensures.contents functions settings script before terms after rows of_round is.closed)
      (c.a_round_of_a_table_has_one_order.ensures.whole functions settings script before terms after rows of_round is.closed rolling)
      (c.a_round_of_a_table_has_one_order.ensures.order_to functions settings script before terms after rows of_round is.closed rolling)
      (c.a_round_of_a_table_has_one_order.ensures.stopped functions settings script before terms after rows of_round is.closed rolling)
      (c.tables_tell_of_a_round.ensures.flags rows));
  done = λ functions settings script logs world later terms after rows digests each behind is.
      let before : World Content = with_logs logs world in
      let host = shipped_host functions settings script in
      let promised = c.worlds_are_as_promised.ensures.promised functions settings script before digests behind in
      let standing = c.worlds_are_as_promised.ensures.standing functions settings script before digests behind in
      let even = subst (IsLevel host before) (sym is.epoch)
      (level host logs world is.begins (let count = length-before_each logs world.workers in omega (arith, standing.workers, behind.settings_fit.header.some_verifiers, count))
      promised.in_phase promised.in_round) in
      by_mode settings.rolling
      (λ plain. inl (c.phases_at_once_are_lists_of_events.ensures.served functions settings script world later (phase_of terms) after (map row_of rows) plain
      (phase_served functions settings script logs world later each terms after rows is even plain)))
      (λ rolling.
      let stands : (w : World Content) → IsBehindSetup functions settings script w → IsStanding (PlacesMirror functions settings) host w = λ w. c.worlds_are_as_promised.ensures.standing functions settings script w digests in
      let of_round = table functions settings script logs world later each terms after rows is digests behind rolling stands even in
      ends_rolling functions settings script logs world later each terms after rows is even digests behind rolling stands
      (c.tables_tell_of_a_round.ensures.told functions settings script before terms after rows of_round is.closed)
      (c.a_round_of_a_table_has_one_order.ensures.order functions settings script before terms after rows of_round is.closed)
      (c.a_round_of_a_table_has_one_order.ensures.contents functions settings script before terms after rows of_round is.closed)
      (c.a_round_of_a_table_has_one_order.ensures.whole functions settings script before terms after rows of_round is.closed rolling)
      (c.a_round_of_a_table_has_one_order.ensures.order_to functions settings script before terms after rows of_round is.closed rolling)
      (c.a_round_of_a_table_has_one_order.ensures.stopped functions settings script before terms after rows of_round is.closed rolling)
      (c.tables_tell_of_a_round.ensures.flags rows));
}
