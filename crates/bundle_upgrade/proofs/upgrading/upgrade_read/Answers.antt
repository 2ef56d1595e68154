use Rattle.std.proofs.Common.{◌∙◌, ◌++◌, List, ℕ, map, ap, subst, arith}
use Rattle.std.proofs.lemmas.List.{length-map}
use Rattle.fv_outside.specs.Written.{Grows}
use Rattle.lamport_clocks.specs.declared.header.Header.{Header}
use Rattle.bundle_frames.specs.Bundle.{header_text}
use Rattle.host_rounds.specs.Round.{round_text}
use Rattle.bundle_upgrade.specs.Upgraded.{upgraded_header}
use Rattle.bundle_upgrade.proofs.AnswerLemmas.{all_bytes}
use Rattle.bundle_upgrade.proofs.ReportLemmas.{keeps_report}
use Rattle.bundle_upgrade.proofs.upgrading.upgrade_read.Goals as goal

pub returns-in-Ok-clause-whole : goal.returns-in-Ok-clause-whole
returns-in-Ok-clause-whole g c =
    let before = g.O.Sink.held c.args.out.now in
    let now = g.O.Sink.held c.write_bundle.new.out in
    subst (λ (logs : List (List ℕ)). Grows before now (header_text (upgraded_header c.args.header.now) ++ round_text logs))
    (ap (map (λ log. log.items)) c.deref.ensures.value ∙ c.in_ok-upgrade_logs.ensures.logs)
    (subst (λ (header : Header). Grows before now (header_text header ++ round_text (map (λ log. log.items) c.deref.result.now))) c.upgraded_header.ensures.value
    c.in-Ok.ensures.whole)

pub returns-in-Ok-clause-report : goal.returns-in-Ok-clause-report
returns-in-Ok-clause-report g c = λ functions bad done.
    let logs = map (λ log. log.items) c.args.logs.items in
    keeps_report c.rounds_make_a_bundle.ensures.opened c.rounds_make_a_bundle.ensures.more functions c.args.header.now c.requires.header
    c.a_number_of_32_bits_is_below.ensures.below logs (omega (arith, c.args.logs.ok, c.requires.count, length-map c.args.logs.items (λ log. log.items)))
    (all_bytes logs c.in_ok-upgrade_logs.ensures.bytes) bad done
