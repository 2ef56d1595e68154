use Rattle.run_reports.proofs.ReportLemmas.{shows_nothing, certifies_serial}
use Rattle.run_reports.proofs.laws.a_check_finds_nothing_to_show.Goals as goal

pub returns : goal.returns
returns c = record {
  clean = shows_nothing c.the_shipped_host_keeps_its_promise.ensures.promised;
  serial = certifies_serial c.the_shipped_host_keeps_its_promise.ensures.promised;
}
