use Rattle.std.proofs.Common.{◌≡◌, List, refl, ◌∙◌, ap, subst, arith}
use Rattle.std.specs.Option.{IfSome}
use Rattle.verifier_cache.specs.declared.entry.Entry.{Entry}
use Rattle.verifier_cache.specs.Entry.{with_value}
use Rattle.verifier_cache.specs.Cache.{Held, entry_of}
use Rattle.verifier_cache.specs.LendsValue.{with_value_at}
use Rattle.verifier_cache.proofs.IndexedLemmas.{live_read, path_read, value_read, changed_there}
use Rattle.verifier_cache.proofs.cache.Cache.value_mut_near.Goals as goal

pub invariant_of-self-lent : goal.invariant_of-self-lent
invariant_of-self-lent c = λ w.
    let there = c.at-at.ensures.at in
    let read = c.index_mut-stored.ensures.value in
    let changed = changed_there c.args.k.now (λ entry. with_value entry w) c.self.inside.table.stored.items c.self.inside.table.index c.at-at.result c.index_mut-stored.result.now _ c.self.invariant.0 there read
    (live_read _ _ _ _ there read) refl (path_read _ _ _ _ there read) in
    (changed.indexed, record { stored = c.self.invariant.1.stored; targets = c.self.invariant.1.targets; index = c.self.invariant.1.index }, omega (arith, c.self.invariant.2, changed.count))

pub returns : goal.returns
returns c =
    let there = c.at-at.ensures.at in
    let read = c.index_mut-stored.ensures.value in (
      (
        refl,
        λ w. ap (λ (xs : List Entry). let h : Held = record { entries = xs; room = c.self.inside.room } in h)
            (changed_there c.args.k.now (λ entry. with_value entry w) c.self.inside.table.stored.items c.self.inside.table.index c.at-at.result c.index_mut-stored.result.now _ c.self.invariant.0 there read
            (live_read _ _ _ _ there read) refl (path_read _ _ _ _ there read)).entries
            ∙ ap (λ (h : Held). with_value_at h c.args.k.now w) c.self.view_is,
      ),
      record {
        writes_back = tt;
        value = subst (λ (h : Held). IfSome (entry_of c.args.k.now h.entries) (λ entry. c.index_mut-stored.result.now.entry.value ≡ entry.value)) c.self.view_is
            (value_read _ _ _ _ c.self.invariant.0.distinct there read);
      },
    )
