use Rattle.std.proofs.Common.{◌≡◌, ℕ, sym, ◌∙◌, subst, arith}
use Rattle.host_core.specs.World.{World}
use Rattle.host_epochs.specs.Terms.{IsMaking, epoch_in}
use Rattle.host_shard.specs.Content.{Content}
use Rattle.host_world.specs.Behind.{with_logs}
use Rattle.host_world.proofs.FrontLaws.{length-before_each}
use Rattle.shipped_host.specs.ShippedHost.{shipped_host}
use Rattle.worker_threads.specs.Round.{begun_at}
use Rattle.worker_threads.proofs.BeginLemmas.{level}
use Rattle.worker_threads.proofs.round_laws.rounds_can_be_made.Goals as goal

pub returns : goal.returns
returns c = record {
  workers = λ functions settings script logs world digests behind.
      sym (length-before_each logs world.workers)
      ∙ (c.worlds_are_as_promised.ensures.standing functions settings script (with_logs logs world) digests behind).workers;
  making = λ functions settings script logs world contents digests behind begins lent.
      let before : World Content = with_logs logs world in
      let host = shipped_host functions settings script in
      let promised = c.worlds_are_as_promised.ensures.promised functions settings script before digests behind in
      let standing = c.worlds_are_as_promised.ensures.standing functions settings script before digests behind in
      let many = length-before_each logs world.workers in
      subst (λ (n : ℕ). IsMaking settings.header n contents × (epoch_in contents ≡ begun_at host world)) many
      (c.worlds_make_rounds.ensures.making functions settings script before (begun_at host world) contents digests behind
      (level host logs world begins (omega (arith, standing.workers, behind.settings_fit.header.some_verifiers, many)) promised.in_phase promised.in_round) lent);
}
