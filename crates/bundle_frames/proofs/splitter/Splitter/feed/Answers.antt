use Rattle.std.proofs.Common.{◌≡◌, ◌++◌, [], Some, drop, true, sym, subst, ◌∙◌, ap}
use Rattle.std.specs.Prelude.{IsSomeAnd}
use Rattle.bundle_frames.specs.Bundle.{IsFrame}
use Rattle.bundle_frames.specs.Progress.{Progress, position, rest_of, is_bad}
use Rattle.bundle_frames.specs.Finds.{found_then}
use Rattle.bundle_frames.proofs.FindsLaws.{rest-found, position-after, found-bad, bad-after, rest-after_bad, header-found, frame-in_range}
use Rattle.bundle_frames.proofs.splitter.Splitter.feed.Goals as goal

pub returns-clause-position : goal.returns-clause-position
returns-clause-position c =
    let p : Progress = c.args.self.now in
    let fed = c.advance.result in
    ap position c.advance.ensures.after
    ∙ position-after p.header p.offset p.held p.body c.args.piece.now fed.taken fed.found c.advance.ensures.finds c.advance.ensures.taken c.advance.ensures.start

pub returns-clause-rest : goal.returns-clause-rest
returns-clause-rest c = λ more.
    let p : Progress = c.args.self.now in
    let fed = c.advance.result in
    let piece = c.args.piece.now in
    let Left : Progress → Type 0 = λ q. rest_of p (piece ++ more) ≡ found_then fed.found q.body (rest_of q (drop fed.taken piece ++ more)) in
    subst Left (sym c.advance.ensures.after)
    (rest-found p.header p.offset p.held p.body piece more fed.taken fed.found c.advance.ensures.finds c.advance.ensures.taken)

pub returns-clause-bad : goal.returns-clause-bad
returns-clause-bad c = λ bad.
    let p : Progress = c.args.self.now in
    found-bad p.header p.offset p.held c.args.piece.now _ _ c.advance.ensures.finds bad

pub returns-clause-stays : goal.returns-clause-stays
returns-clause-stays c = λ at is.
    let p : Progress = c.args.self.now in
    let IsBad : Progress → Type 0 = λ q. is_bad q.header q.held ≡ true in
    subst IsBad (sym c.advance.ensures.after)
    (bad-after p c.args.piece.now _ _ at c.advance.ensures.finds c.advance.ensures.taken is)

pub returns-clause-last : goal.returns-clause-last
returns-clause-last c = λ at is more.
    let p : Progress = c.args.self.now in
    let Last : Progress → Type 0 = λ q. rest_of q more ≡ record { header = p.header; frames = []; bad = Some at } in
    subst Last (sym c.advance.ensures.after)
    (rest-after_bad p.header p.offset p.held p.body c.args.piece.now _ _ at c.advance.ensures.finds c.advance.ensures.taken c.advance.ensures.start is more)

pub returns-clause-header : goal.returns-clause-header
returns-clause-header c = λ header is.
    let p : Progress = c.args.self.now in
    header-found p.header p.offset p.held c.args.piece.now _ _ header c.advance.ensures.finds is

pub returns-clause-frame : goal.returns-clause-frame
returns-clause-frame c = λ verifier is.
    let p : Progress = c.args.self.now in
    let InRange : Progress → Type 0 = λ q. IsSomeAnd p.header (λ header. IsFrame header.verifiers (record { verifier = verifier; body = q.body })) in
    subst InRange (sym c.advance.ensures.after)
    (frame-in_range p.header p.offset p.held p.body c.args.piece.now _ _ verifier c.advance.ensures.finds is)
