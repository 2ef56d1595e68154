use Rattle.std.proofs.Common.{◌≡◌, List, [], ℕ, sym, ap, subst, ◌∙◌, ◌++◌, length, drop, arith}
use Rattle.lamport_clocks.specs.declared.header.Header.{Header}
use Rattle.record_text.specs.Format.{format_of}
use Rattle.verifier_run.specs.Progress.{Progress, fed, IsBetweenPieces}
use Rattle.merkle_records.specs.Scheme.{scheme_of}
use Rattle.verifier_run.proofs.CourseLemmas.{header_in, over-header}
use Rattle.verifier_run.proofs.PieceLemmas.{between-held, gone_on, left_is_short, left_between}
use Rattle.verifier_run.proofs.run.Run.go_on.Goals as goal

pub append-requires : goal.append-requires
append-requires g c =
    let none : c.self.inside.held.items ≡ [] = ap (λ (progress : Progress g.row.T.Denot). progress.held) c.self.view_is ∙ c.requires.none_held in
    let short = left_is_short g.T.Kept.keeps (g.D.Digests.functions c.args.d.now) c.self.inside.tracer.machine.header c.self.inside.tracer c.follow.new.tracer c.args.piece.now (drop c.in_ok-taken.taken c.args.piece.now) c.in_ok-taken.ensures.ok in
    record { room = omega (arith, short, ap (λ (held : List ℕ). length held) none, ap (λ (held : List ℕ). length held) c.behind.ensures.value) }

pub invariant_of-self : goal.invariant_of-self
invariant_of-self g c =
    between-held (format_of c.follow.new.tracer.machine.header) c.follow.new.tracer c.self.inside.held.items
    (ap (λ (progress : Progress g.row.T.Denot). progress.held) c.self.view_is ∙ c.requires.none_held)

pub invariant_of-self-2 : goal.invariant_of-self-2
invariant_of-self-2 g c =
    let none : c.self.inside.held.items ≡ [] = ap (λ (progress : Progress g.row.T.Denot). progress.held) c.self.view_is ∙ c.requires.none_held in
    let held : c.append.new.held.items ≡ drop c.in_ok-taken.taken c.args.piece.now =
    c.append.ensures.items ∙ (ap (λ (held : List ℕ). held ++ c.behind.result.now) none ∙ c.behind.ensures.value) in
    let same : c.follow.new.tracer.machine.header ≡ c.self.inside.tracer.machine.header =
    sym (ap header_in c.in_ok-taken.ensures.ok) ∙ over-header g.T.Kept.keeps (scheme_of (g.D.Digests.functions c.args.d.now) c.self.inside.tracer.machine.header) c.self.inside.tracer c.args.piece.now in
    subst (λ (h : Header). IsBetweenPieces (format_of h) (record { course = c.follow.new.tracer; held = c.append.new.held.items })) (sym same)
    (subst (λ (held : List ℕ). IsBetweenPieces (format_of c.self.inside.tracer.machine.header) (record { course = c.follow.new.tracer; held = held })) (sym held)
    (left_between g.T.Kept.keeps (scheme_of (g.D.Digests.functions c.args.d.now) c.self.inside.tracer.machine.header) c.self.inside.tracer c.follow.new.tracer c.args.piece.now (drop c.in_ok-taken.taken c.args.piece.now) c.in_ok-taken.ensures.ok))

pub returns-clause-ok : goal.returns-clause-ok
returns-clause-ok g c =
    let none : c.self.inside.held.items ≡ [] = ap (λ (progress : Progress g.row.T.Denot). progress.held) c.self.view_is ∙ c.requires.none_held in
    gone_on g.T.Kept.keeps (scheme_of (g.D.Digests.functions c.args.d.now) c.self.inside.tracer.machine.header) c.self.inside.tracer c.follow.new.tracer c.self.inside.held.items c.args.piece.now
    (drop c.in_ok-taken.taken c.args.piece.now) c.append.new.held.items none c.in_ok-taken.ensures.ok
    (c.append.ensures.items ∙ ap (λ (left : List ℕ). c.self.inside.held.items ++ left) c.behind.ensures.value)
    ∙ ap (λ (progress : Progress g.row.T.Denot). fed g.T.Kept.keeps (scheme_of (g.D.Digests.functions c.args.d.now) progress.course.machine.header) progress c.args.piece.now) c.self.view_is
