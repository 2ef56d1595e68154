use Rattle.bundle_report.proofs.HeadlineLaws.{headline}
use Rattle.bundle_report.proofs.laws.certified_answers_are_sound.Goals as goal

pub returns : goal.returns
returns c = record { sound = headline }
