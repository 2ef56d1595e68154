use Rattle.std.proofs.Common.{◌≡◌, ◌≤◌, List, ◌++◌, Vec, Global, length, get_or, refl, sym, ◌∙◌, ap, subst, arith}
use Rattle.std.specs.List.{AllByRecursion}
use Rattle.std.proofs.lemmas.Result.{err_from_is_err_and}
use Rattle.fv_outside.proofs.WrittenLaws.{Grows-then, GrowsByFront-whole, GrowsByFront-then}
use Rattle.verifier_run.specs.Progress.{weight}
use Rattle.certified_epochs.specs.declared.fed_run.FedRun.{FedRun}
use Rattle.host_rounds.specs.Round.{round_text}
use Rattle.host_rounds.specs.Feeding.{AllRead}
use Rattle.host_rounds.specs.SoFar.{RunsSoFar, HaveRun}
use Rattle.host_rounds.specs.Sealing.{SealsOwn}
use Rattle.host_rounds.proofs.SealingLemmas.{seals-own}
use Rattle.host_rounds.proofs.RunLemmas.{err_holds, ok_holds, runs-few, runs-length, length-take, round-run, lines-stay}
use Rattle.host_rounds.proofs.rounds.Rounds.seal.Goals as goal

pub write_round-requires : goal.write_round-requires
write_round-requires g c = record { numbers = omega (arith, c.requires.each, runs-few c.args.self.now (g.D.Digests.functions c.args.d.now, c.requires.runs.0, c.requires.runs.1, c.requires.runs.2)) }

pub returns-then-is_err-clause-front : goal.returns-then-is_err-clause-front
returns-then-is_err-clause-front g c = λ header before rounds held keeps.
    let functions = g.D.Digests.functions c.args.d.now in
    let round = c.args.logs.now in
    let text = round_text round in
    let few : length round ≡ header.verifiers = omega (arith, c.requires.each, runs-length functions header before c.args.self.now keeps.runs) in
    record {
      bytes = keeps.vault.bytes ++ text;
      is_bundle = c.rounds_make_a_bundle.ensures.more header before round rounds keeps.vault.bytes keeps.vault.is_bundle few;
      grown =
          GrowsByFront-then held _ _ keeps.vault.bytes text keeps.vault.grown
          (err_holds _ c.write_round.result (sym c.is_err.ensures.value ∙ c.if-is_err.true) c.write_round.ensures.front);
    }

pub returns-then-is_err-clause-grown : goal.returns-then-is_err-clause-grown
returns-then-is_err-clause-grown g c =
    err_holds _ c.write_round.result (sym c.is_err.ensures.value ∙ c.if-is_err.true) c.write_round.ensures.front

-- the runs that were there
abbrev items_in : Vec FedRun Global → List FedRun
items_in runs = runs.items

pub seal_round-requires-clause-each : goal.seal_round-requires-clause-each
seal_round-requires-clause-each g c κs within =
    omega (arith, c.requires.each, ap (λ (s : RunsSoFar). length s.runs) c.self.view_is, ap (λ (v : Vec FedRun Global). length v.items) c.replace-runs.ensures.value)

pub seal_round-requires-clause-some : goal.seal_round-requires-clause-some
seal_round-requires-clause-some g c κs within =
    let functions = g.D.Digests.functions c.args.d.now in
    let count = ap (λ (v : Vec FedRun Global). length v.items) c.replace-runs.ensures.value in
    let view = ap (λ (s : RunsSoFar). length s.runs) c.self.view_is in
    let all = runs-length functions c.requires.runs.0 c.requires.runs.1 c.args.self.now c.requires.runs.2 in
    let few = runs-few c.args.self.now (functions, c.requires.runs.0, c.requires.runs.1, c.requires.runs.2) in
    let some = c.requires.runs.2.taken.header_good.some_verifiers in
    (omega (arith, count, view, all, some), omega (arith, count, view, few))

pub seal_round-requires-clause-few : goal.seal_round-requires-clause-few
seal_round-requires-clause-few g c κs within =
    let inside = c.self.inside in
    let have = subst (HaveRun (g.D.Digests.functions c.args.d.now) c.requires.runs.0 c.requires.runs.1) (sym c.self.view_is) c.requires.runs.2 in
    subst (AllByRecursion (λ (fed : FedRun). weight fed.run ≤ inside.bytes)) (sym (ap items_in c.replace-runs.ensures.value)) have.few

pub seal_round-requires-clause-parts : goal.seal_round-requires-clause-parts
seal_round-requires-clause-parts g c κs within = λ number d there.
    let functions = g.D.Digests.functions c.args.d.now in
    let items = ap items_in c.replace-runs.ensures.value ∙ ap (λ (s : RunsSoFar). s.runs) c.self.view_is in
    subst (λ (runs : List FedRun). SealsOwn functions number c.args.logs.now (get_or runs number d)) (sym items)
    (seals-own functions c.requires.runs.0 c.requires.runs.1 c.args.self.now c.requires.runs.2 c.args.logs.now c.requires.each number d
    (omega (arith, there, ap (λ (runs : List FedRun). length runs) items)))

pub returns-in_err-runs-clause-front : goal.returns-in_err-runs-clause-front
returns-in_err-runs-clause-front g c = λ header before rounds held keeps.
    let functions = g.D.Digests.functions c.args.d.now in
    let round = c.args.logs.now in
    let text = round_text round in
    let few : length round ≡ header.verifiers = omega (arith, c.requires.each, runs-length functions header before c.args.self.now keeps.runs) in
    let p = err_from_is_err_and c.from_residual.result c.from_residual.ensures.1 in
    rw p.1
    (record {
      bytes = keeps.vault.bytes ++ text;
      is_bundle = c.rounds_make_a_bundle.ensures.more header before round rounds keeps.vault.bytes keeps.vault.is_bundle few;
      grown =
          GrowsByFront-whole held _ _
          (Grows-then held _ _ keeps.vault.bytes text keeps.vault.grown
          (ok_holds _ c.write_round.result (sym c.is_err.ensures.value ∙ c.if-is_err.false) c.write_round.ensures.whole));
    })

pub returns-in_err-runs-clause-grown : goal.returns-in_err-runs-clause-grown
returns-in_err-runs-clause-grown g c =
    GrowsByFront-whole _ _ _ (ok_holds _ c.write_round.result (sym c.is_err.ensures.value ∙ c.if-is_err.false) c.write_round.ensures.whole)

pub returns-clause-grown : goal.returns-clause-grown
returns-clause-grown g c =
    GrowsByFront-whole _ _ _ (ok_holds _ c.write_round.result (sym c.is_err.ensures.value ∙ c.if-is_err.false) c.write_round.ensures.whole)

pub returns-clause-keeps : goal.returns-clause-keeps
returns-clause-keeps g c = λ header before rounds held keeps.
    let functions = g.D.Digests.functions c.args.d.now in
    let inside = c.self.inside in
    let round = c.args.logs.now in
    let news = c.in_ok-runs.runs.items in
    let text = round_text round in
    let few : length round ≡ header.verifiers = omega (arith, c.requires.each, runs-length functions header before c.args.self.now keeps.runs) in
    let now : RunsSoFar = record { judged = inside.certifier; runs = inside.runs.items; bytes = inside.bytes; summary = inside.summary } in
    let have : HaveRun functions header before now = subst (HaveRun functions header before) (sym c.self.view_is) keeps.runs in
    let takes = subst (λ (olds : List FedRun). AllRead functions round olds news) (ap items_in c.replace-runs.ensures.value) c.in_ok-runs.ensures.taken in
    record {
      vault = record {
        bytes = keeps.vault.bytes ++ text;
        is_bundle = c.rounds_make_a_bundle.ensures.more header before round rounds keeps.vault.bytes keeps.vault.is_bundle few;
        grown =
            Grows-then held _ _ keeps.vault.bytes text keeps.vault.grown
            (ok_holds _ c.write_round.result (sym c.is_err.ensures.value ∙ c.if-is_err.false) c.write_round.ensures.whole);
      };
      runs = round-run functions header before now have round news c.seal_round.new.bytes inside.summary refl takes c.in_ok-runs.ensures.few;
    }

pub returns-clause-lines : goal.returns-clause-lines
returns-clause-lines g c = λ tell functions header before have.
    let now : RunsSoFar = record { judged = c.self.inside.certifier; runs = c.in_ok-runs.runs.items; bytes = c.seal_round.new.bytes; summary = c.self.inside.summary } in
    lines-stay functions header before c.args.self.now have tell c.args.logs.now now (ap (λ (s : RunsSoFar). s.judged) c.self.view_is)

pub returns-clause-runs : goal.returns-clause-runs
returns-clause-runs g c =
    length-take (g.D.Digests.functions c.args.d.now) c.args.logs.now c.replace-runs.result.items c.in_ok-runs.runs.items c.in_ok-runs.ensures.taken
    ∙ ap (λ (v : Vec FedRun Global). length v.items) c.replace-runs.ensures.value ∙ ap (λ (s : RunsSoFar). length s.runs) c.self.view_is

pub returns-in_err-runs-clause-whole : goal.returns-in_err-runs-clause-whole
returns-in_err-runs-clause-whole g c = λ memory. ok_holds _ c.write_round.result (sym c.is_err.ensures.value ∙ c.if-is_err.false) c.write_round.ensures.whole

pub returns-clause-settled : goal.returns-clause-settled
returns-clause-settled g c = c.in_ok-runs.ensures.settled c.self.inside.certifier
