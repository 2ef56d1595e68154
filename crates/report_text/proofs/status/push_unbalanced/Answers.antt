use Rattle.std.proofs.Common.{ℕ, ◌≡◌, ◌++◌, ◌∙◌, ap}
use Rattle.std.specs.Fmt.{decimal}
use Rattle.report_text.proofs.Pushes.{three_pushes}
use Rattle.report_text.proofs.status.push_unbalanced.Goals as goal

pub returns-clause-appended : goal.returns-clause-appended
returns-clause-appended g c =
    let epoch : c.from.result ≡ c.args.epoch = c.from.ensures in
    three_pushes _ _ _ _ _ _ _ c.push_text.ensures.appended (c.push_decimal.ensures.appended ∙ ap (λ (n : ℕ). c.push_text.new.line.items ++ decimal n) epoch) c.push_counts.ensures.appended
