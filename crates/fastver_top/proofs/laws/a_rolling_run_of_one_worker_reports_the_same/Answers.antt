use Rattle.fastver_top.proofs.RollingLemmas.{reports_same}
use Rattle.fastver_top.proofs.laws.a_rolling_run_of_one_worker_reports_the_same.Goals as goal

pub returns : goal.returns
returns c = record {
  same = λ words others run rolled most next_most epochs rolled_epochs bytes reading writing keeping counting next_reading next_writing next_keeping next_counting
      accepted next_accepted alike left next_left answers next_answers.
      reports_same c.one_worker_logs_the_same.ensures.same c.scripts_ask_for_keys_in_range.ensures.keys c.scripts_are_read_back.ensures.tasks
      others run rolled most next_most epochs rolled_epochs bytes reading writing keeping next_reading next_writing next_keeping next_accepted alike left next_left answers next_answers;
}
