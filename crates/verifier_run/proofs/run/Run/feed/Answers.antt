use Rattle.std.proofs.Common.{sym, ◌+◌, List, ℕ, ap, ◌∙◌, take, length, length-drop, arith}
use Rattle.verifier_run.specs.Progress.{Progress, fed}
use Rattle.merkle_records.specs.Scheme.{scheme_of}
use Rattle.verifier_run.proofs.PieceLemmas.{fed_both, fed_front, refused_stays, weight_all, weight_front}
use Rattle.verifier_run.proofs.FollowLemmas.{refused_told}
use Rattle.verifier_run.proofs.run.Run.feed.Goals as goal

pub returns-then-is_some-clause-ok : goal.returns-then-is_some-clause-ok
returns-then-is_some-clause-ok g c =
    let told = refused_told c.self.inside.tracer.refused c.refused.result c.is_some.result c.refused.ensures.value c.is_some.ensures c.if-is_some.true in
    sym c.self.view_is
    ∙ (refused_stays g.T.Kept.keeps (scheme_of (g.D.Digests.functions c.args.d.now) c.self.inside.tracer.machine.header) c.self.inside.tracer c.self.inside.held.items c.args.piece.now told.0 c.self.invariant told.1
    ∙ ap (λ (progress : Progress g.row.T.Denot). fed g.T.Kept.keeps (scheme_of (g.D.Digests.functions c.args.d.now) progress.course.machine.header) progress c.args.piece.now) c.self.view_is)

pub returns-in_err-from-clause-weight : goal.returns-in_err-from-clause-weight
returns-in_err-from-clause-weight g c =
    let most = weight_front g.T.Kept.keeps (scheme_of (g.D.Digests.functions c.args.d.now) c.args.self.now.course.machine.header) c.args.self.now c.complete.new.self c.args.piece.now c.in_err-from.field-0.0.taken c.in_err-from.ensures.stop in
    omega (arith, most)

pub returns-then-from-piece-clause-weight : goal.returns-then-from-piece-clause-weight
returns-then-from-piece-clause-weight g c =
    let most = weight_front g.T.Kept.keeps (scheme_of (g.D.Digests.functions c.args.d.now) c.args.self.now.course.machine.header) c.args.self.now c.complete.new.self c.args.piece.now c.in_ok-from.from c.in_ok-from.ensures.ok in
    omega (arith, most)

pub go_on-requires-clause-room : goal.go_on-requires-clause-room
go_on-requires-clause-room g c =
    let most = weight_front g.T.Kept.keeps (scheme_of (g.D.Digests.functions c.args.d.now) c.args.self.now.course.machine.header) c.args.self.now c.complete.new.self c.args.piece.now c.in_ok-from.from c.in_ok-from.ensures.ok in
    let rest = ap (λ (bytes : List ℕ). length bytes) c.behind.ensures.value ∙ length-drop c.in_ok-from.from c.args.piece.now in
    omega (arith, most, rest, c.requires.room)

pub returns-in-Ok-clause-ok : goal.returns-in-Ok-clause-ok
returns-in-Ok-clause-ok g c =
    fed_both g.T.Kept.keeps (scheme_of (g.D.Digests.functions c.args.d.now)) c.args.self.now c.complete.new.self c.go_on.new.self c.args.piece.now c.in_ok-from.from c.in_ok-from.ensures.ok
    (c.in-Ok.ensures.ok ∙ ap (fed g.T.Kept.keeps (scheme_of (g.D.Digests.functions c.args.d.now) c.complete.new.self.course.machine.header) c.complete.new.self) c.behind.ensures.value)

pub returns-in-Ok-clause-weight : goal.returns-in-Ok-clause-weight
returns-in-Ok-clause-weight g c =
    weight_all g.T.Kept.keeps (scheme_of (g.D.Digests.functions c.args.d.now) c.args.self.now.course.machine.header) c.args.self.now c.go_on.new.self c.args.piece.now
    (fed_both g.T.Kept.keeps (scheme_of (g.D.Digests.functions c.args.d.now)) c.args.self.now c.complete.new.self c.go_on.new.self c.args.piece.now c.in_ok-from.from c.in_ok-from.ensures.ok
    (c.in-Ok.ensures.ok ∙ ap (fed g.T.Kept.keeps (scheme_of (g.D.Digests.functions c.args.d.now) c.complete.new.self.course.machine.header) c.complete.new.self) c.behind.ensures.value))

pub returns-in-Err-clause-stop : goal.returns-in-Err-clause-stop
returns-in-Err-clause-stop g c =
    fed_front g.T.Kept.keeps (scheme_of (g.D.Digests.functions c.args.d.now)) c.args.self.now c.complete.new.self c.go_on.new.self c.args.piece.now c.in_ok-from.from c.in-Err.stop.taken c.in_ok-from.ensures.ok
    (c.in-Err.ensures.stop ∙ ap (λ (bytes : List ℕ). fed g.T.Kept.keeps (scheme_of (g.D.Digests.functions c.args.d.now) c.complete.new.self.course.machine.header) c.complete.new.self (take c.in-Err.stop.taken bytes)) c.behind.ensures.value)

pub returns-in-Err-clause-weight : goal.returns-in-Err-clause-weight
returns-in-Err-clause-weight g c =
    let most = weight_front g.T.Kept.keeps (scheme_of (g.D.Digests.functions c.args.d.now) c.args.self.now.course.machine.header) c.args.self.now c.go_on.new.self c.args.piece.now (c.in_ok-from.from + c.in-Err.stop.taken)
    (fed_front g.T.Kept.keeps (scheme_of (g.D.Digests.functions c.args.d.now)) c.args.self.now c.complete.new.self c.go_on.new.self c.args.piece.now c.in_ok-from.from c.in-Err.stop.taken c.in_ok-from.ensures.ok
    (c.in-Err.ensures.stop ∙ ap (λ (bytes : List ℕ). fed g.T.Kept.keeps (scheme_of (g.D.Digests.functions c.args.d.now) c.complete.new.self.course.machine.header) c.complete.new.self (take c.in-Err.stop.taken bytes)) c.behind.ensures.value)) in
    omega (arith, most)
