use Rattle.std.proofs.Common.{◌≡◌, Bool, sym, ◌∙◌, subst, rules, arith}
use Rattle.tree_keys.specs.Path.{IsIn}
use Rattle.tree_keys.proofs.TreeLaws.{one_number}
use Rattle.path_index.proofs.OrderLemmas.{told, before_by_len, before_by_bits, before_by_tree, trees_apart, other_tree}
use Rattle.path_index.proofs.searching.order.Goals as goal

pub returns-then-len-others_len : goal.returns-then-len-others_len
returns-then-len-others_len c =
    record { order = before_by_len _ _ _ _ _ _ _ _ (told c.len-len.ensures.value c.bits-bits.ensures.value c.is_wide-wide.ensures.value) (told c.len-others_len.ensures.value c.bits-others_bits.ensures.value c.is_wide-others_wide.ensures.value) c.bits-bits.type_inv c.if-len-others_len.true }

pub returns-then-others_len-len : goal.returns-then-others_len-len
returns-then-others_len-len c =
    record { order = before_by_len _ _ _ _ _ _ _ _ (told c.len-others_len.ensures.value c.bits-others_bits.ensures.value c.is_wide-others_wide.ensures.value) (told c.len-len.ensures.value c.bits-bits.ensures.value c.is_wide-wide.ensures.value) c.bits-others_bits.type_inv c.if-others_len-len.true }

pub returns-then-bits-others_bits : goal.returns-then-bits-others_bits
returns-then-bits-others_bits c =
    let same : c.len-len.result ≡ c.len-others_len.result = omega (arith, c.if-len-others_len.false, c.if-others_len-len.false) in
    record { order = before_by_bits _ _ _ _ _ _ _ _ (told c.len-len.ensures.value c.bits-bits.ensures.value c.is_wide-wide.ensures.value) (told c.len-others_len.ensures.value c.bits-others_bits.ensures.value c.is_wide-others_wide.ensures.value) same c.if-bits-others_bits.true }

pub returns-then-others_bits-bits : goal.returns-then-others_bits-bits
returns-then-others_bits-bits c =
    let same : c.len-others_len.result ≡ c.len-len.result = omega (arith, c.if-len-others_len.false, c.if-others_len-len.false) in
    record { order = before_by_bits _ _ _ _ _ _ _ _ (told c.len-others_len.ensures.value c.bits-others_bits.ensures.value c.is_wide-others_wide.ensures.value) (told c.len-len.ensures.value c.bits-bits.ensures.value c.is_wide-wide.ensures.value) same c.if-others_bits-bits.true }

pub returns-then-wide-others_wide : goal.returns-then-wide-others_wide
returns-then-wide-others_wide c =
    let same : c.len-len.result ≡ c.len-others_len.result = omega (arith, c.if-len-others_len.false, c.if-others_len-len.false) in
    let numbers : c.bits-bits.result ≡ c.bits-others_bits.result = omega (arith, c.if-bits-others_bits.false, c.if-others_bits-bits.false) in
    let trees : c.is_wide-wide.result ≡ c.is_wide-others_wide.result = search rules in
    record {
      order = one_number c.is_wide-others_wide.result _ _ (subst (λ (b : Bool). IsIn b c.args.one.now) trees c.is_wide-wide.ensures.within) c.is_wide-others_wide.ensures.within
          (sym c.len-len.ensures.value ∙ (same ∙ c.len-others_len.ensures.value)) (sym c.bits-bits.ensures.value ∙ (numbers ∙ c.bits-others_bits.ensures.value));
    }

pub returns-then-wide : goal.returns-then-wide
returns-then-wide c =
    let same : c.len-others_len.result ≡ c.len-len.result = omega (arith, c.if-len-others_len.false, c.if-others_len-len.false) in
    let numbers : c.bits-others_bits.result ≡ c.bits-bits.result = omega (arith, c.if-bits-others_bits.false, c.if-others_bits-bits.false) in
    let apart = trees_apart c.is_wide-wide.result c.is_wide-others_wide.result c.if-wide-others_wide.false in
    record { order = before_by_tree _ _ _ _ _ _ _ _ (told c.len-others_len.ensures.value c.bits-others_bits.ensures.value c.is_wide-others_wide.ensures.value) (told c.len-len.ensures.value c.bits-bits.ensures.value c.is_wide-wide.ensures.value) same numbers (other_tree _ _ c.if-wide.true apart) (λ one. apart (sym one)) }

pub returns-else-wide : goal.returns-else-wide
returns-else-wide c =
    let same : c.len-len.result ≡ c.len-others_len.result = omega (arith, c.if-len-others_len.false, c.if-others_len-len.false) in
    let numbers : c.bits-bits.result ≡ c.bits-others_bits.result = omega (arith, c.if-bits-others_bits.false, c.if-others_bits-bits.false) in
    record { order = before_by_tree _ _ _ _ _ _ _ _ (told c.len-len.ensures.value c.bits-bits.ensures.value c.is_wide-wide.ensures.value) (told c.len-others_len.ensures.value c.bits-others_bits.ensures.value c.is_wide-others_wide.ensures.value) same numbers c.if-wide.false (trees_apart _ _ c.if-wide-others_wide.false) }
