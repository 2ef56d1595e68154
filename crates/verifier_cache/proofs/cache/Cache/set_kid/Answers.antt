use Rattle.std.proofs.Common.{◌∙◌, ap, arith}
use Rattle.verifier_cache.specs.declared.entry.Entry.{Entry}
use Rattle.verifier_cache.specs.Entry.{set_kid}
use Rattle.verifier_cache.specs.Cache.{Held, changed}
use Rattle.verifier_cache.proofs.IndexedLemmas.{live_read, path_read, changed_there}
use Rattle.verifier_cache.proofs.cache.Cache.set_kid.Goals as goal

pub invariant_of-self : goal.invariant_of-self
invariant_of-self c =
    let there = c.at-at.ensures.at in
    let read = c.index_mut.ensures.value in
    let changed = changed_there c.args.k.now (λ entry. set_kid entry c.args.side c.args.on) c.self.inside.table.stored.items c.self.inside.table.index c.at-at.result c.index_mut.result.now _ c.self.invariant.0 there read
    (live_read _ _ _ _ there read) c.set_kid.ensures.value (ap (λ (e : Entry). e.path) c.set_kid.ensures.value ∙ path_read _ _ _ _ there read) in
    (changed.indexed, record { stored = c.self.invariant.1.stored; targets = c.self.invariant.1.targets; index = c.self.invariant.1.index }, omega (arith, c.self.invariant.2, changed.count))

pub returns-clause-entries : goal.returns-clause-entries
returns-clause-entries c =
    let there = c.at-at.ensures.at in
    let read = c.index_mut.ensures.value in
    (changed_there c.args.k.now (λ entry. set_kid entry c.args.side c.args.on) c.self.inside.table.stored.items c.self.inside.table.index c.at-at.result c.index_mut.result.now _ c.self.invariant.0 there read
    (live_read _ _ _ _ there read) c.set_kid.ensures.value (ap (λ (e : Entry). e.path) c.set_kid.ensures.value ∙ path_read _ _ _ _ there read)).entries
    ∙ ap (λ (h : Held). changed c.args.k.now (λ entry. set_kid entry c.args.side c.args.on) h.entries) c.self.view_is
