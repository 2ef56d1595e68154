use Rattle.run_reports.proofs.ReportLemmas.{holds_certified}
use Rattle.run_reports.proofs.laws.the_contents_hold_what_a_check_certifies.Goals as goal

pub returns : goal.returns
returns c = record {
  holds = holds_certified c.the_shipped_host_keeps_its_promise.ensures.promised c.the_contents_hold_the_plain_map.ensures.certified;
}
