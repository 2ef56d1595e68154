use Rattle.std.proofs.Common.{List, IsNone, length, refl, sym, ◌∙◌, ap, subst, arith}
use Rattle.verifier_cache.specs.declared.entry.Entry.{Entry}
use Rattle.verifier_cache.specs.Cache.{Held, entry_of, replaced}
use Rattle.verifier_cache.proofs.EntriesLaws.{absent-changed, length-changed}
use Rattle.verifier_cache.proofs.IndexedLemmas.{live_read, changed_there}
use Rattle.verifier_cache.proofs.cache.Cache.replace_near.Goals as goal

pub invariant_of-self : goal.invariant_of-self
invariant_of-self c =
    let there = c.at-at.ensures.at in
    let read = c.index_mut.ensures.value in
    let changed = changed_there c.args.entry.path (λ old. c.args.entry) c.self.inside.table.stored.items c.self.inside.table.index c.at-at.result c.index_mut.result.now _ c.self.invariant.0 there read
    (live_read _ _ _ _ there read) refl refl in
    (changed.indexed, record { stored = c.self.invariant.1.stored; targets = c.self.invariant.1.targets; index = c.self.invariant.1.index }, omega (arith, c.self.invariant.2, changed.count))

pub returns-clause-entries : goal.returns-clause-entries
returns-clause-entries c =
    let there = c.at-at.ensures.at in
    let read = c.index_mut.ensures.value in
    (changed_there c.args.entry.path (λ old. c.args.entry) c.self.inside.table.stored.items c.self.inside.table.index c.at-at.result c.index_mut.result.now _ c.self.invariant.0 there read
    (live_read _ _ _ _ there read) refl refl).entries
    ∙ ap (λ (h : Held). replaced c.args.entry h.entries) c.self.view_is

pub returns-clause-len : goal.returns-clause-len
returns-clause-len c = ap length (returns-clause-entries c) ∙ length-changed c.args.entry.path (λ old. c.args.entry) c.args.self.now.entries

pub returns-clause-absent : goal.returns-clause-absent
returns-clause-absent c =
    λ k none. subst (λ (xs : List Entry). IsNone (entry_of k xs)) (sym (returns-clause-entries c))
    (absent-changed k c.args.entry.path (λ old. c.args.entry) c.args.self.now.entries (λ old is. refl) none)
