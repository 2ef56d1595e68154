use Rattle.std.proofs.Common.{ℕ, List, [], ◌∷◌, ◌++◌, true, IsNone, Result, refl, sym, ◌∙◌, ap, subst}
use Rattle.std.specs.Result.{IfErr}
use Rattle.verifier_cache.specs.declared.entry.Entry.{Entry}
use Rattle.path_index.specs.declared.index.Mark.{Mark}
use Rattle.verifier_cache.specs.declared.table.Stored.{Stored}
use Rattle.verifier_cache.specs.Cache.{entry_of}
use Rattle.path_index.specs.Index.{IsGapFor}
use Rattle.verifier_cache.specs.Table.{standing}
use Rattle.verifier_cache.proofs.TableLemmas.{standing-push}
use Rattle.verifier_cache.proofs.IndexedLemmas.{is_gap, indexed-push}
use Rattle.verifier_cache.proofs.table.Table.insert.Goals as goal

pub unwrap_err-rank-requires : goal.unwrap_err-rank-requires
unwrap_err-rank-requires c =
    let new : Stored = record { entry = c.args.entry; live = true } in
    let absent : IsNone (entry_of c.args.entry.path (standing c.close_many_gaps.new.self.stored.items)) =
    subst (λ (es : List Entry). IsNone (entry_of c.args.entry.path es)) (sym c.close_many_gaps.ensures.entries) c.requires.absent in
    is_gap c.search_near.result c.args.entry.path c.close_many_gaps.new.self.stored.items c.close_many_gaps.new.self.index new c.close_many_gaps.ensures.table c.search_near.ensures.found absent

pub returns-clause-table : goal.returns-clause-table
returns-clause-table c =
    let new : Stored = record { entry = c.args.entry; live = true } in
    let gap : IsGapFor c.args.entry.path c.close_many_gaps.new.self.index c.unwrap_err-rank.result =
    subst (λ (r : Result ℕ ℕ). IfErr r (IsGapFor c.args.entry.path c.close_many_gaps.new.self.index)) c.unwrap_err-rank.ensures c.search_near.ensures.gap in
    let here = c.insert.ensures.here ∙ ap (λ (n : ℕ). let mark : Mark = record { path = c.args.entry.path; at = n } in mark) (c.len.ensures ∙ c.close_many_gaps.new.self.stored.ok.0) in
    indexed-push c.close_many_gaps.new.self.stored.items _ c.close_many_gaps.new.self.index _ c.unwrap_err-rank.result new c.close_many_gaps.ensures.table gap
    c.insert.ensures.sound c.insert.ensures.count c.insert.ensures.before here c.insert.ensures.behind refl c.push_reserved.ensures.items

pub returns-clause-entries : goal.returns-clause-entries
returns-clause-entries c =
    let new : Stored = record { entry = c.args.entry; live = true } in
    ap standing c.push_reserved.ensures.items
    ∙ (standing-push c.close_many_gaps.new.self.stored.items new refl ∙ ap (λ (es : List Entry). es ++ c.args.entry ∷ []) c.close_many_gaps.ensures.entries)
