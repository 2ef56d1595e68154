use Rattle.std.proofs.Common.{◌≡◌, ◌+◌, ◌<◌, ℕ, suc, map, take, length, get_or, ap, sym, subst, ◌∙◌, arith}
use Rattle.std.proofs.lemmas.List.{length-map}
use Rattle.record_text.specs.declared.request.Request.{Request}
use Rattle.host_core.specs.Host.{Host}
use Rattle.host_core.specs.World.{World}
use Rattle.host_core.specs.WorldEvent.{WorldEvent, step, run_events, IsEnabled}
use Rattle.host_shard.specs.Content.{Content}
use Rattle.host_world.specs.Shown.{shown_world, shown_event, digests_of}
use Rattle.host_world.specs.Behind.{host_of}
use Rattle.host_world.proofs.StandingLemmas.{enabled_at, run-further, one_host, host_same, ok_holds}
use Rattle.host_world.proofs.WorldLemmas.{read_shown}
use Rattle.host_world.proofs.world.World.run_events.Goals as goal

pub step-requires-clause-enabled : goal.step-requires-clause-enabled
step-requires-clause-enabled g c =
    let old = c.args.self.now in
    let now = c.loop-done.self in
    let events = c.args.events.now in
    let event = shown_event c.index-events-done.result in
    let shown = map shown_event events in
    let host = host_of (g.D.Digests.functions (digests_of old)) old in
    let there : c.loop-done.done < length events = c.loop-done-test.true in
    let at : get_or shown c.loop-done.done event ≡ event = read_shown shown_event events c.loop-done.done c.index-events-done.result event there c.index-events-done.is in
    subst (λ (h : Host Content Request). IsEnabled h (shown_world now) event) (sym (host_same g.D.Digests.functions old now c.loop-done.invariant.host))
    (subst (λ (w : World Content). IsEnabled host w event) (sym c.loop-done.invariant.run)
    (subst (λ (e : WorldEvent Request). IsEnabled host (run_events host (shown_world old) (take c.loop-done.done shown)) e) at
    (enabled_at host (shown_world old) shown c.loop-done.done event c.requires.enabled (omega (arith, there, length-map events shown_event)))))

pub loop-done-preserved : goal.loop-done-preserved
loop-done-preserved g c =
    let old = c.args.self.now in
    let now = c.loop-done.self in
    let events = c.args.events.now in
    let event = shown_event c.index-events-done.result in
    let shown = map shown_event events in
    let host = host_of (g.D.Digests.functions (digests_of old)) old in
    let there : c.loop-done.done < length events = c.loop-done-test.true in
    let at : get_or shown c.loop-done.done event ≡ event = read_shown shown_event events c.loop-done.done c.index-events-done.result event there c.index-events-done.is in
    let next : suc c.loop-done.done ≡ c.loop-done.done + 1 = omega arith in
    record {
      host = one_host old now c.step.new.self c.loop-done.invariant.host c.step.ensures.host;
      behind = c.step.ensures.behind;
      run = ok_holds c.step.result (sym c.if-is_err.ensures.value) c.step.ensures.stepped
          ∙ ap (λ (h : Host Content Request). step h (shown_world now) event) (host_same g.D.Digests.functions old now c.loop-done.invariant.host)
          ∙ ap (λ (w : World Content). step host w event) c.loop-done.invariant.run
          ∙ ap (step host (run_events host (shown_world old) (take c.loop-done.done shown))) (sym at)
          ∙ sym (run-further host (shown_world old) shown c.loop-done.done event (omega (arith, there, length-map events shown_event)))
          ∙ ap (λ (n : ℕ). run_events host (shown_world old) (take n shown)) next;
    }
