use Rattle.std.proofs.Common.{◌≡◌, sym, ◌∙◌, ap, subst, arith}
use Rattle.lamport_clocks.specs.Reading.{Reading}
use Rattle.host_core.specs.World.{World}
use Rattle.host_epochs.specs.Terms.{IsClockOf, first_epoch}
use Rattle.host_shard.specs.Content.{Content}
use Rattle.round_fits.specs.Rounds.{HasNothingHot}
use Rattle.shipped_host.specs.ShippedHost.{shipped_host}
use Rattle.host_world.specs.Behind.{with_logs}
use Rattle.host_world.proofs.FrontLaws.{length-before_each, clock_with}
use Rattle.worker_threads.proofs.BeginLemmas.{level}
use Rattle.worker_threads.proofs.MakingLemmas.{clock_of, terms_of_world, place_is, is_cold}
use Rattle.worker_threads.proofs.round_laws.tables_are_of_their_rounds.Goals as goal

pub returns : goal.returns
returns c = record {
  clocks = λ functions settings script logs world terms digests behind begins header epoch i there.
      let before : World Content = with_logs logs world in
      let host = shipped_host functions settings script in
      let promised = c.worlds_are_as_promised.ensures.promised functions settings script before digests behind in
      let standing = c.worlds_are_as_promised.ensures.standing functions settings script before digests behind in
      let count = length-before_each logs world.workers in
      let even = level host logs world begins (omega (arith, standing.workers, behind.settings_fit.header.some_verifiers, count)) promised.in_phase promised.in_round in
      let here = even.clocks i (omega (arith, there, count)) ∙ sym epoch in
      subst (λ (clock : Reading). IsClockOf terms clock × (clock.at.epoch ≡ first_epoch terms)) (clock_with host logs world i)
      (clock_of functions settings script before standing terms header i (omega (arith, there, count)) here, here);
  of_world = λ functions settings script logs world terms digests behind lent header digest told workers final.
      let before : World Content = with_logs logs world in
      let terms_are = terms_of_world functions settings script before (c.worlds_are_as_promised.ensures.standing functions settings script before digests behind)
      terms lent header digest told (workers ∙ sym (length-before_each logs world.workers)) final in
      record { header = header; digest = digest; absent_is = told; workers = workers; places = terms_are.places; contents = terms_are.contents; final = final };
  places = λ functions settings script logs world terms digests behind lent place request small is.
      let before : World Content = with_logs logs world in
      place_is functions settings script before (c.worlds_are_as_promised.ensures.standing functions settings script before digests behind)
      terms lent place request small
      (record { there = is.there; owns = is.owns });
  further = λ functions settings script logs world terms digests behind rolling lent header epoch.
      let before : World Content = with_logs logs world in
      record {
        first = omega (arith, epoch, ap (λ h. h.first) header);
        cold = is_cold functions settings script before (c.worlds_are_as_promised.ensures.standing functions settings script before digests behind) terms lent
            (subst HasNothingHot (sym behind.is)
            (c.nothing_is_hot.ensures.vacant functions settings script behind.events (behind.settings_fit.cold rolling) behind.enabled));
      };
}
