use Rattle.host_tests.proofs.closes.+close.Given as goal

abbrev pub decreases-close : goal.decreases-close
decreases-close g l = l.tries
