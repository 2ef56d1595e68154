use Rattle.run_reports.proofs.ReportLemmas.{comes_to_end, comes_to_whole}
use Rattle.run_reports.proofs.laws.a_check_of_the_logs_ends_as_the_host_promises.Goals as goal

pub returns : goal.returns
returns c = record {
  end = comes_to_end c.the_shipped_host_keeps_its_promise.ensures.promised;
  whole = comes_to_whole c.the_shipped_host_keeps_its_promise.ensures.promised;
}
