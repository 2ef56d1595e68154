use Rattle.std.proofs.Common.{◌<◌, Bool, false, List, length, set, arith, ◌∙◌, ap}
use Rattle.free_numbers.proofs.TreeLemmas.{length-free, view_taken}
use Rattle.free_numbers.proofs.numbers.FreeNumbers.take.Goals as goal

pub write_leaf-requires-clause-within : goal.write_leaf-requires-clause-within
write_leaf-requires-clause-within c = omega (arith, c.requires.within, ap length c.self.view_is, length-free c.self.inside.bound c.self.inside.least.items c.self.invariant)

pub returns : goal.returns
returns c =
    let within : c.args.number < c.self.inside.bound = omega (arith, c.requires.within, ap length c.self.view_is, length-free c.self.inside.bound c.self.inside.least.items c.self.invariant) in
    record {
      taken = view_taken c.self.inside.bound _ _ c.args.number within c.write_leaf.ensures.leaves
          ∙ ap (λ (free : List Bool). set free c.args.number false) c.self.view_is;
    }
