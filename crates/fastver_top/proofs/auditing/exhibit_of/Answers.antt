use Rattle.std.proofs.Common.{◌≡◌, map, Option, IfOk, IfSome, subst}
use Rattle.lamport_clocks.specs.declared.header.Header.{Header}
use Rattle.record_text.specs.declared.exhibit.Exhibit.{Exhibit}
use Rattle.collision_exhibit.specs.Audited.{audited_courses}
use Rattle.fastver_top.proofs.AuditLemmas.{exhibit_read}
use Rattle.fastver_top.proofs.auditing.exhibit_of.Goals as goal

pub returns-in-Some : goal.returns-in-Some
returns-in-Some c = record {
  exhibit = λ functions logs count same.
      subst (λ (shown : Exhibit). IfOk c.exhibit_of_runs.result (λ exhibit. exhibit ≡ shown))
      (exhibit_read functions c.args.header c.in-Some.header logs c.args.certified c.in-Some.is count)
      (c.exhibit_of_runs.ensures.exhibit functions c.in-Some.header logs
      (subst (λ (o : Option Header). IfSome o (λ header. map (λ run. run.course) c.args.runs.items ≡ audited_courses functions header logs))
      c.in-Some.is same));
}
