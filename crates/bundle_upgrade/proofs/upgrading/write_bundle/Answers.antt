use Rattle.std.proofs.Common.{map}
use Rattle.std.proofs.lemmas.Result.{err_from_is_err_and}
use Rattle.fv_outside.proofs.WrittenLaws.{GrowsByFront-more, GrowsByFront-then}
use Rattle.bundle_frames.specs.Bundle.{header_text}
use Rattle.host_rounds.specs.Round.{round_text}
use Rattle.bundle_upgrade.proofs.AnswerLemmas.{on_err}
use Rattle.bundle_upgrade.proofs.upgrading.write_bundle.Goals as goal

pub returns-in_err-write_header-clause-front : goal.returns-in_err-write_header-clause-front
returns-in_err-write_header-clause-front g c =
    let p = err_from_is_err_and c.from_residual.result c.from_residual.ensures.1 in
    rw p.1
    (GrowsByFront-more (g.O.Sink.held c.args.out.now) (g.O.Sink.held c.write_header.new.sink) (header_text c.args.header.now)
    (round_text (map (λ log. log.items) c.args.logs.now)) c.in_err-write_header.ensures.front)

pub returns-clause-front : goal.returns-clause-front
returns-clause-front g c =
    on_err c.write_logs.result
    (GrowsByFront-then (g.O.Sink.held c.args.out.now) (g.O.Sink.held c.write_header.new.sink) (g.O.Sink.held c.write_logs.new.out) (header_text c.args.header.now)
    (round_text (map (λ log. log.items) c.args.logs.now)) c.in_ok-write_header.ensures.whole)
    c.write_logs.ensures.front
