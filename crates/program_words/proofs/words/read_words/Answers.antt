use Rattle.program_words.proofs.WordsLemmas.{asked_where_taken, nothing_where_refused, asked_if_ok, none_if_refused, same_fault}
use Rattle.std.proofs.Common.{map}
use Rattle.program_words.proofs.AskedLaws.{result_range}
use Rattle.program_words.proofs.words.read_words.Goals as goal

pub returns-in_ok-asked_in-in-Ok-clause-asked : goal.returns-in_ok-asked_in-in-Ok-clause-asked
returns-in_ok-asked_in-in-Ok-clause-asked c = asked_if_ok _ _ _ _ c.ok_or.ensures.value
    (asked_where_taken _ _ c.in-Ok.matches c.in_ok-asked_in-in-Ok.field-0 c.in_ok-command.ensures.app c.in-Ok.ensures.kinds c.in-Ok.ensures.matches c.in_ok-asked_in-in-Ok.ensures.value)

pub returns-in_ok-asked_in-in-Ok-clause-usage : goal.returns-in_ok-asked_in-in-Ok-clause-usage
returns-in_ok-asked_in-in-Ok-clause-usage c = none_if_refused _ _ _ _ _ c.ok_or.ensures.value
    (asked_where_taken _ _ c.in-Ok.matches c.in_ok-asked_in-in-Ok.field-0 c.in_ok-command.ensures.app c.in-Ok.ensures.kinds c.in-Ok.ensures.matches c.in_ok-asked_in-in-Ok.ensures.value)

pub returns-in_ok-asked_in-in-Ok-clause-ranges : goal.returns-in_ok-asked_in-in-Ok-clause-ranges
returns-in_ok-asked_in-in-Ok-clause-ranges c = result_range c.ok_or.result (map (λ word. word.now) c.args.words.now) (asked_if_ok _ _ _ _ c.ok_or.ensures.value
    (asked_where_taken _ _ c.in-Ok.matches c.in_ok-asked_in-in-Ok.field-0 c.in_ok-command.ensures.app c.in-Ok.ensures.kinds c.in-Ok.ensures.matches c.in_ok-asked_in-in-Ok.ensures.value))

pub returns-in-Err-clause-usage : goal.returns-in-Err-clause-usage
returns-in-Err-clause-usage c = λ refused. nothing_where_refused _ _ c.in-Err.error c.in_ok-command.ensures.app c.in-Err.ensures.kinds
    (c.refusal.ensures.usage.0 (same_fault _ _ refused))
