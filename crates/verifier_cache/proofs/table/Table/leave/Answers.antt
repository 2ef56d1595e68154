use Rattle.std.proofs.Common.{ℕ, Result, refl, sym, ap, subst}
use Rattle.std.specs.Result.{IfOk}
use Rattle.path_index.specs.declared.index.Mark.{Mark}
use Rattle.path_index.specs.Index.{IsRankOf}
use Rattle.verifier_cache.specs.Table.{IsAt}
use Rattle.verifier_cache.proofs.TableLemmas.{without-at}
use Rattle.verifier_cache.proofs.IndexedLemmas.{at_rank, indexed-left}
use Rattle.verifier_cache.proofs.table.Table.leave.Goals as goal

pub returns-clause-table : goal.returns-clause-table
returns-clause-table c =
    let found : IsRankOf c.args.k.now c.args.self.now.index c.unwrap-rank.result =
    subst (λ (r : Result ℕ ℕ). IfOk r (IsRankOf c.args.k.now c.args.self.now.index)) c.unwrap-rank.ensures c.search_near.ensures.found in
    indexed-left c.args.k.now c.args.self.now.stored.items _ c.args.self.now.index _ c.unwrap-rank.result c.mark.result.now.at _ c.requires.table found.within found.path_there
    (sym (ap (λ (m : Mark). m.at) c.mark.ensures.value)) c.remove.ensures.sound c.remove.ensures.count c.remove.ensures.before c.remove.ensures.behind refl refl

pub returns-clause-entries : goal.returns-clause-entries
returns-clause-entries c =
    let found : IsRankOf c.args.k.now c.args.self.now.index c.unwrap-rank.result =
    subst (λ (r : Result ℕ ℕ). IfOk r (IsRankOf c.args.k.now c.args.self.now.index)) c.unwrap-rank.ensures c.search_near.ensures.found in
    let there : IsAt c.args.k.now c.args.self.now.stored.items c.mark.result.now.at =
    at_rank c.args.k.now c.args.self.now.stored.items c.args.self.now.index c.unwrap-rank.result c.mark.result.now c.requires.table found c.mark.ensures.value in
    without-at c.args.k.now c.args.self.now.stored.items c.mark.result.now.at _ c.requires.table.distinct there refl
