use Rattle.std.proofs.Common.{◌≡◌, ◌+◌, ◌*◌, ◌^◌, List, Bool, ◌∷◌, take, sym, ◌∙◌, ap}
use Rattle.tree_keys.specs.Bits.{bits_of}
use Rattle.tree_keys.specs.Path.{tree_of, common}
use Rattle.tree_keys.proofs.BitsLaws.{opened}
use Rattle.tree_keys.proofs.CommonLemmas.{common_paths}
use Rattle.tree_keys.proofs.path.Path.common.Goals as goal

pub returns : goal.returns
returns c =
    let p = c.self.inside in
    let q = c.other.inside in
    let own : c.args.self.now ≡ p.wide ∷ bits_of p.len c.bits.result =
    opened p.wide p.len (p.high * 2 ^ 64 + p.low) c.bits.result c.args.self.now c.self.view_is c.self.invariant.1 c.bits.ensures.value in
    let others : c.args.other.now ≡ q.wide ∷ bits_of q.len c.bits-2.result =
    opened q.wide q.len (q.high * 2 ^ 64 + q.low) c.bits-2.result c.args.other.now c.other.view_is c.other.invariant.1 c.bits-2.ensures.value in
    let trees : p.wide ≡ q.wide = sym (ap tree_of own) ∙ (c.requires.one_tree ∙ ap tree_of others) in
    let shared = c.shared_bits-shared in
    let front = common_paths p.wide q.wide p.len c.bits.result q.len c.bits-2.result c.min-within.result shared.result c.first_bits-own.result c.first_bits-others.result trees
    c.min-within.ensures c.first_bits-own.ensures.value c.first_bits-others.ensures.value shared.ensures.within shared.ensures.same shared.ensures.apart in
    record {
      prefix = c.front.ensures.bits ∙ (ap (take (1 + shared.result)) own
          ∙ (sym front ∙ (ap (λ (path : List Bool). common path (q.wide ∷ bits_of q.len c.bits-2.result)) (sym own) ∙ ap (common c.args.self.now) (sym others))));
    }
