use Rattle.run_reports.proofs.ReportLemmas.{come_to_rest}
use Rattle.run_reports.proofs.laws.logs_come_to_rest.Goals as goal

pub returns : goal.returns
returns c = record { rests = come_to_rest c.the_shipped_host_keeps_its_promise.ensures.promised }
