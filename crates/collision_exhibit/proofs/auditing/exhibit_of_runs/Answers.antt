use Rattle.std.proofs.Common.{◌≡◌, List, map, IfOk, sym, ◌∙◌, ap, subst}
use Rattle.record_text.specs.Format.{format_of}
use Rattle.merkle_records.specs.Scheme.{scheme_of}
use Rattle.record_text.specs.declared.exhibit.Exhibit.{Exhibit}
use Rattle.soundness.specs.Sound.{commands_of, histories_read}
use Rattle.collision_exhibit.specs.declared.audit_event.AuditEvent.{AuditEvent}
use Rattle.collision_exhibit.specs.Elements.{HaveOwnStamps}
use Rattle.collision_exhibit.specs.Shown.{evicted_elements, exhibit_among}
use Rattle.collision_exhibit.proofs.AuditEventLemmas.{exhibit_audit_events}
use Rattle.collision_exhibit.proofs.OrderedLemmas.{ordered_kept}
use Rattle.collision_exhibit.proofs.OwnStampLemmas.{distinct_evicts}
use Rattle.collision_exhibit.proofs.auditing.exhibit_of_runs.Goals as goal

pub shown-requires : goal.shown-requires
shown-requires c =
    let bundle = c.requires.audited in
    record {
      own_stamps =
          subst (λ (audited : List AuditEvent). HaveOwnStamps (evicted_elements audited))
          (sym (c.deref.ensures.value
          ∙ ordered_kept bundle.0 bundle.1 bundle.2 (map (λ run. run.course) c.args.runs.items) c.in_ok-audited.audited.items bundle.3 c.in_ok-audited.ensures.ordered))
          (distinct_evicts (scheme_of bundle.0 bundle.1) bundle.1 (commands_of (format_of bundle.1) bundle.2));
    }

pub returns : goal.returns
returns c = record {
  exhibit = λ functions header logs is.
      subst (λ (shown : Exhibit). IfOk c.shown.result (λ exhibit. exhibit ≡ shown))
      (ap (exhibit_among c.args.first c.args.epochs)
      (c.deref.ensures.value ∙ ordered_kept functions header logs (map (λ run. run.course) c.args.runs.items) c.in_ok-audited.audited.items is c.in_ok-audited.ensures.ordered)
      ∙ exhibit_audit_events (histories_read (scheme_of functions header) header logs) c.args.first c.args.epochs)
      c.shown.ensures.exhibit;
}
