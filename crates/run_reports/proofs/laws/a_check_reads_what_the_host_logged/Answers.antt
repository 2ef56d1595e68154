use Rattle.run_reports.proofs.ReportLemmas.{reads, refuses_none}
use Rattle.run_reports.proofs.laws.a_check_reads_what_the_host_logged.Goals as goal

pub returns : goal.returns
returns c = record {
  histories = reads c.the_shipped_host_keeps_its_promise.ensures.promised;
  none_refused = refuses_none c.the_shipped_host_keeps_its_promise.ensures.promised;
}
