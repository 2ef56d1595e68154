use Rattle.report_text.proofs.Pushes.{four_pushes}
use Rattle.report_text.proofs.status.push_counts.Goals as goal

pub returns-clause-appended : goal.returns-clause-appended
returns-clause-appended g c =
    four_pushes _ _ _ _ _ _ _ _ _ c.push_text.ensures.appended c.push_decimal.ensures.appended c.push_text-2.ensures.appended c.push_decimal-2.ensures.appended
