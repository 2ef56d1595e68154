use Rattle.std.proofs.Common.{List, IsNone, length, sym, ◌∙◌, ap, subst, arith}
use Rattle.verifier_cache.specs.declared.entry.Entry.{Entry}
use Rattle.verifier_cache.specs.Entry.{linked}
use Rattle.verifier_cache.specs.Cache.{Held, entry_of, changed}
use Rattle.verifier_cache.proofs.EntriesLaws.{absent-changed, changed-there}
use Rattle.verifier_cache.proofs.IndexedLemmas.{live_read, path_read, changed_there}
use Rattle.verifier_cache.proofs.cache.Cache.link_near.Goals as goal

pub invariant_of-self : goal.invariant_of-self
invariant_of-self c =
    let there = c.at-at.ensures.at in
    let read = c.index_mut.ensures.value in
    let changed = changed_there c.args.k.now (λ entry. linked entry c.args.side c.args.pointer c.args.kid) c.self.inside.table.stored.items c.self.inside.table.index c.at-at.result c.index_mut.result.now _ c.self.invariant.0 there read
    (live_read _ _ _ _ there read) c.link.ensures.value (ap (λ (e : Entry). e.path) c.link.ensures.value ∙ path_read _ _ _ _ there read) in
    (changed.indexed, record { stored = c.self.invariant.1.stored; targets = c.self.invariant.1.targets; index = c.self.invariant.1.index }, omega (arith, c.self.invariant.2, changed.count))

pub returns-clause-entries : goal.returns-clause-entries
returns-clause-entries c =
    let there = c.at-at.ensures.at in
    let read = c.index_mut.ensures.value in
    changed-there c.args.k.now (λ entry. linked entry c.args.side c.args.pointer c.args.kid) c.args.self.now.entries _ (λ entry path. path)
    ((changed_there c.args.k.now (λ entry. linked entry c.args.side c.args.pointer c.args.kid) c.self.inside.table.stored.items c.self.inside.table.index c.at-at.result c.index_mut.result.now _ c.self.invariant.0 there read
    (live_read _ _ _ _ there read) c.link.ensures.value (ap (λ (e : Entry). e.path) c.link.ensures.value ∙ path_read _ _ _ _ there read)).entries
    ∙ ap (λ (h : Held). changed c.args.k.now (λ entry. linked entry c.args.side c.args.pointer c.args.kid) h.entries) c.self.view_is)

pub returns-clause-len : goal.returns-clause-len
returns-clause-len c =
    let there = c.at-at.ensures.at in
    let read = c.index_mut.ensures.value in
    (changed_there c.args.k.now (λ entry. linked entry c.args.side c.args.pointer c.args.kid) c.self.inside.table.stored.items c.self.inside.table.index c.at-at.result c.index_mut.result.now _ c.self.invariant.0 there read
    (live_read _ _ _ _ there read) c.link.ensures.value (ap (λ (e : Entry). e.path) c.link.ensures.value ∙ path_read _ _ _ _ there read)).count
    ∙ ap (λ (h : Held). length h.entries) c.self.view_is

pub returns-clause-absent : goal.returns-clause-absent
returns-clause-absent c =
    let there = c.at-at.ensures.at in
    let read = c.index_mut.ensures.value in
    let entries = (changed_there c.args.k.now (λ entry. linked entry c.args.side c.args.pointer c.args.kid) c.self.inside.table.stored.items c.self.inside.table.index c.at-at.result c.index_mut.result.now _ c.self.invariant.0 there read
    (live_read _ _ _ _ there read) c.link.ensures.value (ap (λ (e : Entry). e.path) c.link.ensures.value ∙ path_read _ _ _ _ there read)).entries
    ∙ ap (λ (h : Held). changed c.args.k.now (λ entry. linked entry c.args.side c.args.pointer c.args.kid) h.entries) c.self.view_is in
    λ j none. subst (λ (xs : List Entry). IsNone (entry_of j xs)) (sym entries)
    (absent-changed j c.args.k.now (λ entry. linked entry c.args.side c.args.pointer c.args.kid) c.args.self.now.entries (λ entry path. path) none)
