use Rattle.std.proofs.Common.{Option, ◌∙◌, ap}
use Rattle.bundle_report.specs.declared.judged.Judged.{Judged}
use Rattle.bundle_report.specs.declared.refused_log.RefusedLog.{RefusedLog}
use Rattle.bundle_report.specs.Judged.{refused_log, end_by}
use Rattle.certified_epochs.proofs.TurnLemmas.{runs_of, fed_courses, finish-end}
use Rattle.certified_epochs.proofs.certifier.Certifier.end.Goals as goal

pub returns : goal.returns
returns c = record {
  ended = c.end_all.ensures.ended;
  value =
      c.end_of.ensures.value
      ∙ ap (λ (refused : Option RefusedLog). end_by c.self.inside.judged.count c.self.inside.judged.unbalanced refused c.args.bad) c.first_refused.ensures.value
      ∙ ap (λ (j : Judged). end_by j.count j.unbalanced (refused_log 0 (fed_courses c.end_all.new.runs)) c.args.bad) c.self.view_is;
  end = λ scheme header logs taken all.
      finish-end scheme header logs c.args.self.now c.self.inside.judged (runs_of c.args.runs.now) c.end_all.new.runs c.first_refused.result c.args.bad c.end_of.result
      taken all c.self.view_is c.end_all.ensures.ended c.first_refused.ensures.value c.end_of.ensures.value;
}
