use Rattle.std.proofs.Common.{◌+◌, ◌*◌, ◌^◌, sym, ◌∙◌}
use Rattle.std.proofs.lemmas.Bool.{false≢true}
use Rattle.tree_keys.proofs.PathLaws.{none_of_depths}
use Rattle.tree_keys.proofs.path.Path.is_same.Goals as goal

pub returns-then-self-other-clause-same : goal.returns-then-self-other-clause-same
returns-then-self-other-clause-same c =
    let p = c.self.inside in
    let q = c.other.inside in
    let none = none_of_depths p.wide q.wide p.len (p.high * 2 ^ 64 + p.low) q.len (q.high * 2 ^ 64 + q.low) c.if-self-other.true c.self.invariant.1 c.other.invariant.1 in
    (λ is. absurd (false≢true is), λ same. none.1 (c.self.view_is ∙ (same ∙ sym c.other.view_is)))
