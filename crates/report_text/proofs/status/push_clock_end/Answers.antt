use Rattle.std.proofs.Common.{ℕ, ◌≡◌, ◌++◌, ◌∙◌, ap}
use Rattle.std.specs.Fmt.{decimal}
use Rattle.report_text.proofs.Pushes.{four_pushes}
use Rattle.report_text.proofs.status.push_clock_end.Goals as goal

pub returns-clause-appended : goal.returns-clause-appended
returns-clause-appended g c =
    let worker : c.from.result ≡ c.args.worker = c.from.ensures in
    four_pushes _ _ _ _ _ _ _ _ _ c.push_text.ensures.appended (c.push_decimal.ensures.appended ∙ ap (λ (n : ℕ). c.push_text.new.line.items ++ decimal n) worker)
    c.push_text-2.ensures.appended c.push_stamp.ensures.appended
