use Rattle.std.proofs.Common.{sym, ◌∙◌, ap}
use Rattle.report_text.specs.declared.ending.BundleEnd.{BundleEnd}
use Rattle.report_text.specs.Ending.{status_of}
use Rattle.report_text.specs.Status.{status_number}
use Rattle.bundle_upgrade.proofs.upgrading.upgrade_where_done.Goals as goal

pub returns-in_ok-upgrade_read-in-Done-clause-report : goal.returns-in_ok-upgrade_read-in-Done-clause-report
returns-in_ok-upgrade_read-in-Done-clause-report g c = λ functions bad is done.
    c.in_ok-upgrade_read-in-Done.ensures.report functions bad
    (ap status_number (sym is) ∙ ap (λ (end : BundleEnd). status_number (status_of end)) c.in-Done.is)
