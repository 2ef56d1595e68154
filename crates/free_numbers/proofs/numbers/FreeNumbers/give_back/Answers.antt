use Rattle.std.proofs.Common.{Bool, true, List, length, set, arith, ◌∙◌, ap}
use Rattle.free_numbers.proofs.TreeLemmas.{length-free, view_given_back}
use Rattle.free_numbers.proofs.numbers.FreeNumbers.give_back.Goals as goal

pub write_leaf-requires-clause-within : goal.write_leaf-requires-clause-within
write_leaf-requires-clause-within c = omega (arith, c.requires.within, ap length c.self.view_is, length-free c.self.inside.bound c.self.inside.least.items c.self.invariant)

pub returns : goal.returns
returns c = record {
  free = view_given_back c.self.inside.bound _ _ c.args.number c.write_leaf.ensures.leaves
      ∙ ap (λ (free : List Bool). set free c.args.number true) c.self.view_is;
}
