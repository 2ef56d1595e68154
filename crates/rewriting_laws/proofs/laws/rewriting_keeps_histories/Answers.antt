use Rattle.std.proofs.Common.{◌≤◌, arith}
use Rattle.rewriting_laws.proofs.LogLemmas.{histories_rewritten}
use Rattle.rewriting_laws.proofs.RewritingLaws.{log_can, log_events_same, log_accepted_too}
use Rattle.rewriting_laws.proofs.laws.rewriting_keeps_histories.Goals as goal

pub returns : goal.returns
returns c = record {
  can = log_can;
  events = log_events_same;
  accepted = log_accepted_too;
  histories = λ scheme header logs is kinds accepted version.
      let some : 1 ≤ header.cache = omega (arith, is.some_cache) in
      histories_rewritten scheme header 0 logs some kinds accepted
      (λ number commands. c.versions_name_paths_or_slots.ensures.slots scheme header number commands version);
}
