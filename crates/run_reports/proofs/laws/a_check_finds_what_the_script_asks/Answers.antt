use Rattle.run_reports.proofs.ReportLemmas.{finds_answers, finds_answers_in_time, finds_all_answers, finds_all_in_time}
use Rattle.run_reports.proofs.laws.a_check_finds_what_the_script_asks.Goals as goal

pub returns : goal.returns
returns c = record {
  answered = finds_answers c.the_shipped_host_keeps_its_promise.ensures.promised;
  in_time = finds_answers_in_time c.the_shipped_host_keeps_its_promise.ensures.promised;
  done = finds_all_answers c.the_shipped_host_keeps_its_promise.ensures.promised;
  all_in_time = finds_all_in_time c.the_shipped_host_keeps_its_promise.ensures.promised;
}
