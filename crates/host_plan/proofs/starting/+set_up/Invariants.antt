use Rattle.host_plan.proofs.starting.+set_up.Given as goal

abbrev pub decreases-set_up : goal.decreases-set_up
decreases-set_up l = l.levels
