use Rattle.host_fits.proofs.PlanLemmas.{plan_served, plan_ended}
use Rattle.host_fits.proofs.laws.plans_are_what_the_host_does.Goals as goal

pub returns : goal.returns
returns c = record { served = plan_served; ended = plan_ended }
