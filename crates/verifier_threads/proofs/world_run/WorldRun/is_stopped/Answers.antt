use Rattle.std.proofs.Common.{◌∙◌, ap}
use Rattle.shipped_host.specs.declared.settings.Settings.{Settings}
use Rattle.host_world.specs.Shown.{shown_world, digests_of}
use Rattle.host_world.specs.Behind.{host_of}
use Rattle.verifier_threads.proofs.ClosingLemmas.{round-stopped}
use Rattle.verifier_threads.proofs.world_run.WorldRun.is_stopped.Goals as goal

pub returns : goal.returns
returns g c =
    let self = c.args.self.now in
    let host = host_of (g.D.Digests.functions (digests_of self.world)) self.world in
    let rolling = ap (λ (s : Settings). s.rolling) c.settings.ensures.value in
    let says = c.stops_round.ensures in
    let is = round-stopped host (shown_world self.world) self.end c.requires.done c.stops_round.result
    (λ is_rolling ended. says.stopped (rolling ∙ is_rolling) ended) (λ plain. says.plain (rolling ∙ plain)) says.running in
    record { stopped = is.0; served = is.1 }
