use Rattle.std.proofs.Common.{◌≡◌, ◌∙◌, ◌+◌, ℕ, Bool, List, Some, refl, ap, sym, subst, length, arith}
use Rattle.std.specs.Prelude.{All}
use Rattle.std.proofs.lemmas.List.{length_push}
use Rattle.std.proofs.lemmas.List.Elements.{All-push}
use Rattle.path_index.specs.Index.{mark_at}
use Rattle.path_index.specs.declared.index.Mark.{Mark}
use Rattle.verifier_cache.specs.declared.entry.Entry.{Entry}
use Rattle.verifier_cache.specs.declared.listed.ListedEntry.{ListedEntry}
use Rattle.verifier_cache.specs.Cache.{entry_of}
use Rattle.verifier_cache.specs.Listed.{entries_in}
use Rattle.verifier_cache.specs.Table.{standing, IsAt}
use Rattle.verifier_cache.proofs.TableLemmas.{entry_of-read}
use Rattle.verifier_cache.proofs.IndexedLemmas.{path_read}
use Rattle.verifier_cache.proofs.ListedLemmas.{IsListedTo, IsListedTo-push, alike_listed, entries_in-push}
use Rattle.verifier_cache.proofs.table.Table.listed.Goals as goal

pub loop-rank-preserved : goal.loop-rank-preserved
loop-rank-preserved c =
    let stored = c.args.self.now.stored.items in
    let index = c.args.self.now.index in
    let rank = c.loop-rank.rank in
    let within = c.loop-rank-test.true in
    let mark = c.mark.ensures.value in
    let there : IsAt (mark_at index rank).path stored c.mark.result.now.at = subst (λ (m : Mark). IsAt (mark_at index rank).path stored m.at) (sym mark) (c.requires.table.leads rank (omega (arith, within, c.len-rank-end.ensures.value))) in
    let path = path_read (mark_at index rank).path stored c.mark.result.now.at c.index.result.now there c.index.ensures in
    let stands = entry_of-read (mark_at index rank).path stored c.mark.result.now.at c.index.result.now c.requires.table.distinct there c.index.ensures in
    let copied = c.copy-entry.ensures.value in
    let e : Entry = c.copy-entry.result in
    let same : e.path ≡ (mark_at index rank).path = ap (λ (x : Entry). x.path) copied ∙ path in
    let one : ListedEntry = record { slot = 0; entry = e } in
    let unslotted : ListedEntry → Type 0 = λ listed. listed.slot ≡ 0 in
    let pushed = c.push_reserved.ensures.items in
    record {
      listed = subst (IsListedTo stored index (rank + 1)) (sym (entries_in-push _ _ _ pushed))
          (IsListedTo-push stored index rank (entries_in c.loop-rank.listed.items) e c.requires.table (omega (arith, within, c.len-rank-end.ensures.value)) same
          (ap (λ (p : List Bool). entry_of p (standing stored)) same ∙ (stands ∙ ap (λ (x : Entry). Some x) (sym copied))) c.loop-rank.invariant.listed);
      count = omega (arith, ap length pushed, length_push c.loop-rank.listed.items, c.loop-rank.invariant.count);
      capacity = omega (arith, c.push_reserved.ensures.capacity, c.loop-rank.invariant.capacity);
      slots = subst (All unslotted) (sym pushed) (All-push unslotted c.loop-rank.listed.items one c.loop-rank.invariant.slots refl);
    }

pub returns-clause-alike : goal.returns-clause-alike
returns-clause-alike c =
    let all = c.loop-rank.invariant.listed in
    alike_listed _ _ _ c.requires.table (subst (λ (n : ℕ). IsListedTo c.args.self.now.stored.items c.args.self.now.index n (entries_in c.loop-rank.listed.items)) (omega (arith, c.loop-rank-test.false, c.len-rank-end.ensures.value, c.loop-rank.auto.rank-end)) all)
