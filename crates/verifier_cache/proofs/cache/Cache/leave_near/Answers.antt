use Rattle.std.proofs.Common.{length, IsSome, sym, ap, subst, arith}
use Rattle.verifier_cache.specs.Cache.{Held, entry_of}
use Rattle.verifier_cache.specs.Table.{standing}
use Rattle.verifier_cache.proofs.EntriesLaws.{length-without_there}
use Rattle.verifier_cache.proofs.cache.Cache.leave_near.Goals as goal

pub invariant_of-self : goal.invariant_of-self
invariant_of-self c =
    let there : IsSome (entry_of c.args.k.now (standing c.self.inside.table.stored.items)) =
    subst (λ (h : Held). IsSome (entry_of c.args.k.now h.entries)) (sym c.self.view_is) c.requires.there in
    (c.leave.ensures.table, c.leave.ensures.fits, omega (arith, c.self.invariant.2, ap length c.leave.ensures.entries, length-without_there c.args.k.now (standing c.self.inside.table.stored.items) there))
