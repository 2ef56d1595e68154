use Rattle.std.proofs.Common.{◌≡◌, ℕ, ◌+◌, ◌*◌, ◌^◌, ◌∷◌, take, sym, ◌∙◌, ap, arith}
use Rattle.tree_keys.specs.Bits.{bits_of}
use Rattle.tree_keys.proofs.BitsLaws.{opened, take-behind}
use Rattle.tree_keys.specs.BitsLaws.{length-bits_of}
use Rattle.tree_keys.specs.Path.{depth}
use Rattle.tree_keys.proofs.path.Path.front.Goals as goal

pub returns : goal.returns
returns c =
    let p = c.self.inside in
    let is : c.args.self.now ≡ p.wide ∷ bits_of p.len c.bits.result =
    opened p.wide p.len (p.high * 2 ^ 64 + p.low) c.bits.result c.args.self.now c.self.view_is c.self.invariant.1 c.bits.ensures.value in
    let count : depth c.args.self.now ≡ p.len = ap depth is ∙ length-bits_of p.len c.bits.result in
    record {
      bits = c.of_bits.ensures.bits ∙ (ap (λ (n : ℕ). p.wide ∷ bits_of c.args.len n) c.first_bits-bits.ensures.value
          ∙ (sym (take-behind p.wide p.len c.args.len c.bits.result (omega arith)) ∙ ap (take (1 + c.args.len)) (sym is)));
    }
