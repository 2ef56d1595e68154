use Rattle.host_laws.proofs.MirrorLaws.{plan_mirrors, mirrors_serve}
use Rattle.host_laws.proofs.mirror_laws.a_plan_mirrors.Goals as goal

pub returns : goal.returns
returns c = record { mirrors = plan_mirrors; serves = mirrors_serve }
