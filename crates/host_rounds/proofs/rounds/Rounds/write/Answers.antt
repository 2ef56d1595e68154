use Rattle.std.proofs.Common.{◌≡◌, ◌++◌, length, refl, sym, ◌∙◌, ap, subst, arith}
use Rattle.std.proofs.lemmas.Result.{err_from_is_err_and}
use Rattle.fv_outside.proofs.WrittenLaws.{Grows-then, GrowsByFront-whole, GrowsByFront-then}
use Rattle.host_rounds.specs.Feeding.{AllRead}
use Rattle.host_rounds.specs.Round.{round_text}
use Rattle.host_rounds.specs.SoFar.{RunsSoFar, HaveRun, with_runs}
use Rattle.host_rounds.proofs.LendingLemmas.{round-length, takes-few}
use Rattle.host_rounds.proofs.RunLemmas.{err_holds, ok_holds, runs-length, round-run, lines-stay}
use Rattle.host_rounds.proofs.rounds.Rounds.write.Goals as goal

pub returns-then-is_err-clause-front : goal.returns-then-is_err-clause-front
returns-then-is_err-clause-front g c = λ functions header before rounds held runs keeps takes.
    let round = c.args.logs.now in
    let text = round_text round in
    let few : length round ≡ header.verifiers =
    let count = round-length functions round runs c.args.self.now.runs takes in
    omega (arith, count, runs-length functions header before (with_runs runs c.args.self.now) keeps.runs) in
    record {
      bytes = keeps.vault.bytes ++ text;
      is_bundle = c.rounds_make_a_bundle.ensures.more header before round rounds keeps.vault.bytes keeps.vault.is_bundle few;
      grown =
          GrowsByFront-then held _ _ keeps.vault.bytes text keeps.vault.grown
          (err_holds _ c.write_round.result (sym c.is_err.ensures.value ∙ c.if-is_err.true) c.write_round.ensures.front);
    }

pub returns-in_err-self-inside-clause-front : goal.returns-in_err-self-inside-clause-front
returns-in_err-self-inside-clause-front g c = λ functions header before rounds held runs keeps takes.
    let round = c.args.logs.now in
    let text = round_text round in
    let few : length round ≡ header.verifiers =
    let count = round-length functions round runs c.args.self.now.runs takes in
    omega (arith, count, runs-length functions header before (with_runs runs c.args.self.now) keeps.runs) in
    let p = err_from_is_err_and c.from_residual.result c.from_residual.ensures.1 in
    rw p.1
    (record {
      bytes = keeps.vault.bytes ++ text;
      is_bundle = c.rounds_make_a_bundle.ensures.more header before round rounds keeps.vault.bytes keeps.vault.is_bundle few;
      grown =
          GrowsByFront-whole held _ _
          (Grows-then held _ _ keeps.vault.bytes text keeps.vault.grown
          (ok_holds _ c.write_round.result (sym c.is_err.ensures.value ∙ c.if-is_err.false) c.write_round.ensures.whole));
    })

pub returns-then-is_err-clause-grown : goal.returns-then-is_err-clause-grown
returns-then-is_err-clause-grown g c =
    err_holds _ c.write_round.result (sym c.is_err.ensures.value ∙ c.if-is_err.true) c.write_round.ensures.front

pub returns-in_err-self-inside-clause-grown : goal.returns-in_err-self-inside-clause-grown
returns-in_err-self-inside-clause-grown g c =
    GrowsByFront-whole _ _ _ (ok_holds _ c.write_round.result (sym c.is_err.ensures.value ∙ c.if-is_err.false) c.write_round.ensures.whole)

pub returns-clause-grown : goal.returns-clause-grown
returns-clause-grown g c =
    GrowsByFront-whole _ _ _ (ok_holds _ c.write_round.result (sym c.is_err.ensures.value ∙ c.if-is_err.false) c.write_round.ensures.whole)

pub returns-clause-keeps : goal.returns-clause-keeps
returns-clause-keeps g c = λ functions header before rounds held runs keeps takes.
    let inside = c.self.inside in
    let round = c.args.logs.now in
    let news = inside.runs.items in
    let bytes = c.in_ok-self-inside.field-0 in
    let text = round_text round in
    let now : RunsSoFar = record { judged = inside.certifier; runs = runs; bytes = inside.bytes; summary = inside.summary } in
    let have : HaveRun functions header before now = subst (λ (s : RunsSoFar). HaveRun functions header before (with_runs runs s)) (sym c.self.view_is) keeps.runs in
    let took = subst (λ (s : RunsSoFar). AllRead functions round runs s.runs) (sym c.self.view_is) takes in
    let few : length round ≡ header.verifiers =
    let count = round-length functions round runs news took in omega (arith, count, runs-length functions header before now have) in
    let weights = takes-few c.pieces_do_not_matter.ensures.weight functions inside.bytes bytes round runs news took have.few c.in_ok-self-inside.ensures.all in
    record {
      vault = record {
        bytes = keeps.vault.bytes ++ text;
        is_bundle = c.rounds_make_a_bundle.ensures.more header before round rounds keeps.vault.bytes keeps.vault.is_bundle few;
        grown =
            Grows-then held _ _ keeps.vault.bytes text keeps.vault.grown
            (ok_holds _ c.write_round.result (sym c.is_err.ensures.value ∙ c.if-is_err.false) c.write_round.ensures.whole);
      };
      runs = round-run functions header before now have round news bytes inside.summary refl took weights;
    }

pub returns-clause-lines : goal.returns-clause-lines
returns-clause-lines g c = λ tell functions header before runs have.
    let now : RunsSoFar = record { judged = c.self.inside.certifier; runs = c.self.inside.runs.items; bytes = c.in_ok-self-inside.field-0; summary = c.self.inside.summary } in
    lines-stay functions header before (with_runs runs c.args.self.now) have tell c.args.logs.now now (ap (λ (s : RunsSoFar). s.judged) c.self.view_is)

pub returns-in_err-self-inside-clause-whole : goal.returns-in_err-self-inside-clause-whole
returns-in_err-self-inside-clause-whole g c = λ memory. ok_holds _ c.write_round.result (sym c.is_err.ensures.value ∙ c.if-is_err.false) c.write_round.ensures.whole
