use Rattle.one_worker.proofs.SameLemmas.{one_worker_so}
use Rattle.one_worker.proofs.laws.one_worker_logs_the_same.Goals as goal

pub returns : goal.returns
returns c = record { same = one_worker_so c.the_rolling_host_is_steady.ensures.steady c.the_shipped_host_is_steady.ensures.close }
