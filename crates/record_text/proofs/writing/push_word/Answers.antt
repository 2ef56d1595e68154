use Rattle.std.proofs.Common.{ℕ, ◌^◌, ◌<◌, Bool, List, ◌++◌, sym, ◌∙◌, ap, subst, arith}
use Rattle.std.specs.Int.{w128, to_be_bytes}
use Rattle.tree_keys.specs.Path.{key_bits, word_of}
use Rattle.tree_keys.proofs.TreeLaws.{word_of-lt}
use Rattle.record_text.specs.Tree.{word_width}
use Rattle.record_text.proofs.writing.push_word.Goals as goal

pub overflow_cast-word : goal.overflow_cast-word
overflow_cast-word g c =
    let path : List Bool = c.args.path.now in
    let small : word_of path < 2 ^ 64 = subst (λ (wide : Bool). word_of path < 2 ^ key_bits wide) (sym c.if-is_wide.ensures.value) (word_of-lt c.args.path.now c.requires.fits) in
    omega (arith, small, c.word-else-is_wide.ensures.value)

pub returns-then-is_wide-clause-text : goal.returns-then-is_wide-clause-text
returns-then-is_wide-clause-text g c =
    let bytes = ap (to_be_bytes w128) c.word.ensures.value ∙ ap (λ (wide : Bool). to_be_bytes (word_width wide) (word_of c.args.path.now)) c.if-is_wide.ensures.value in
    c.push_all.ensures.text ∙ ap (λ (more : List ℕ). c.args.items.now.items ++ more) (c.to_be_bytes.ensures ∙ bytes)
