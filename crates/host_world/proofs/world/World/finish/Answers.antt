use Rattle.std.proofs.Common.{◌≡◌, ◌<◌, length, arith}
use Rattle.std.proofs.lemmas.List.{length-map}
use Rattle.host_world.specs.Behind.{with_logs}
use Rattle.host_world.specs.Shown.{shown_world, digests_of, requests_of}
use Rattle.host_world.specs.Workers.{shown_worker}
use Rattle.host_world.proofs.BehindLaws.{behind_stands}
use Rattle.host_world.proofs.FrontLaws.{length-before_each}
use Rattle.host_world.proofs.world.World.finish.Goals as goal

-- there is a word for each worker
pub index_mut-requires : goal.index_mut-requires
index_mut-requires g c =
    let old = c.args.self.now in
    let logs = c.requires.behind.0 in
    let stands = behind_stands (g.D.Digests.functions (digests_of old)) old.settings (requests_of old) (λ text. (g.met.D.Digests.text_digest_shape old.d.now text).size)
    (with_logs logs (shown_world old)) c.requires.behind.1.behind in
    omega (arith, c.requires.may.rolling.serving.there, stands.marks, length-before_each logs (shown_world old).workers)
