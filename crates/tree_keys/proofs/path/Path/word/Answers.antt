use Rattle.std.proofs.Common.{◌≡◌, ℕ, ◌+◌, ◌-◌, ◌*◌, ◌%◌, ◌^◌, ◌<◌, ◌∷◌, sym, ◌∙◌, ap, subst}
use Rattle.tree_keys.specs.Bits.{bits_of}
use Rattle.tree_keys.specs.Path.{depth, word_of}
use Rattle.tree_keys.proofs.BitsLaws.{opened}
use Rattle.tree_keys.proofs.WordLemmas.{word_is}
use Rattle.tree_keys.specs.BitsLaws.{length-bits_of}
use Rattle.tree_keys.proofs.path.Path.word.Goals as goal

pub returns : goal.returns
returns c =
    let p = c.self.inside in
    let is : c.args.self.now ≡ p.wide ∷ bits_of p.len c.bits.result =
    opened p.wide p.len (p.high * 2 ^ 64 + p.low) c.bits.result c.args.self.now c.self.view_is c.self.invariant.1 c.bits.ensures.value in
    let count : depth c.args.self.now ≡ p.len = ap depth is ∙ length-bits_of p.len c.bits.result in
    let small : c.bits.result < 2 ^ p.len = subst (λ (n : ℕ). c.bits.result < 2 ^ n) count c.bits.ensures.small in
    record {
      value = ap (λ (n : ℕ). c.bits.result * 2 ^ (n - p.len) % 2 ^ 128) c.key_bits.ensures.value ∙ (word_is p.wide p.len c.bits.result c.self.invariant.0 small ∙ ap word_of (sym is));
    }
