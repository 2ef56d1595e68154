use Rattle.host_laws.proofs.MirrorLaws.{plan_typed}
use Rattle.host_laws.proofs.mirror_laws.a_plan_is_typed.Goals as goal

pub returns : goal.returns
returns c = record { typed = plan_typed }
