use Rattle.std.proofs.Common.{◌≡◌, ◌-◌, List, length, map, ◌∙◌, ap, arith}
use Rattle.std.proofs.lemmas.List.{length-map}
use Rattle.script_text.specs.declared.task.Task.{Task}
use Rattle.shipped_host.specs.ShippedHost.{turn_of}
use Rattle.host_world.specs.Shown.{shown_world, digests_of, requests_of}
use Rattle.host_world.specs.Behind.{host_of}
use Rattle.verifier_threads.proofs.ClosingLemmas.{closes-last, at-within}
use Rattle.verifier_threads.proofs.world_run.WorldRun.is_last_close.Goals as goal

pub returns : goal.returns
returns g c =
    let self = c.args.self.now in
    let size = length-map (requests_of self.world) (map turn_of) in
    let asked : c.len.result ≡ length (requests_of self.world) =
    c.len.ensures.value ∙ ap (λ (script : List (List Task)). length script) c.requests.ensures.value in
    let phase = c.phase.ensures.value in
    record {
      last = closes-last (host_of (g.D.Digests.functions (digests_of self.world)) self.world) (shown_world self.world) self.end (c.len.result - c.phase.result) c.closes_last.result c.requires.done
          (omega (arith, size, asked, phase, at-within (host_of (g.D.Digests.functions (digests_of self.world)) self.world) (shown_world self.world) c.requires.done.done))
          c.closes_last.ensures.at_end c.closes_last.ensures.ended c.closes_last.ensures.going;
    }
