use Rattle.std.proofs.Common.{◌≡◌, ℕ, ◌+◌, ◌*◌, ◌^◌, Bool, List, [], ◌∷◌, ◌++◌, sym, ◌∙◌, ap}
use Rattle.tree_keys.specs.Bits.{bits_of}
use Rattle.tree_keys.proofs.BitsLaws.{opened, child_bits}
use Rattle.tree_keys.proofs.path.Path.child.Goals as goal

pub returns : goal.returns
returns c =
    let p = c.self.inside in
    let is : c.args.self.now ≡ p.wide ∷ bits_of p.len c.bits.result =
    opened p.wide p.len (p.high * 2 ^ 64 + p.low) c.bits.result c.args.self.now c.self.view_is c.self.invariant.1 c.bits.ensures.value in
    record {
      appended = c.of_bits.ensures.bits ∙ (ap (λ (n : ℕ). p.wide ∷ bits_of (p.len + 1) n) c.with_digit-bits.ensures.value
          ∙ (ap (λ (bits : List Bool). p.wide ∷ bits) (child_bits p.len c.bits.result c.args.side) ∙ ap (λ (path : List Bool). path ++ c.args.side ∷ []) (sym is)));
    }
