use Rattle.std.proofs.Common.{◌≡◌, ℕ, Option, [], sym, subst}
use Rattle.bundle_frames.specs.Progress.{Progress, rest_of}
use Rattle.bundle_frames.proofs.FindsLaws.{rest-end}
use Rattle.bundle_frames.proofs.splitter.Splitter.end.Goals as goal

pub returns-clause-rest : goal.returns-clause-rest
returns-clause-rest c =
    let p : Progress = c.args.self.now in
    let Left : Option ℕ → Type 0 = λ at. rest_of p [] ≡ record { header = p.header; frames = []; bad = at } in
    subst Left (sym c.cut.ensures.value) (rest-end p.header p.offset p.held c.cut.ensures.unfinished c.cut.ensures.start)
