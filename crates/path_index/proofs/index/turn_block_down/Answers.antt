use Rattle.std.proofs.Common.{◌≡◌, ◌≢◌, ◌+◌, ◌-◌, ◌*◌, ◌/◌, refl, ◌∙◌, ap, inl, inr, arith}
use Rattle.std.proofs.lemmas.Bool.{cases_lt}
use Rattle.path_index.specs.Index.{seen}
use Rattle.path_index.proofs.IndexLemmas.{turned_down, turned_elsewhere, seen-at}
use Rattle.path_index.proofs.index.turn_block_down.Goals as goal

pub returns-clause-before : goal.returns-clause-before
returns-clause-before c = λ i low.
    let apart : i / 256 ≢ c.args.block = omega (arith, low) in
    seen-at _ _ _ i i (turned_elsewhere _ c.args.block _ i apart) ∙ c.write.ensures.others i (omega (arith, low))

pub returns-clause-moved : goal.returns-clause-moved
returns-clause-moved c = λ i low high. elim (cases_lt i (c.args.block * 256)) [
  | inl last ↦
      let apart : i / 256 ≢ c.args.block = omega (arith, last) in
      let here : i ≡ c.args.block * 256 - 1 = omega (arith, last, low) in
      let next : c.args.block * 256 ≡ i + 1 = omega (arith, last, low) in
      seen-at _ _ _ i i (turned_elsewhere _ c.args.block _ i apart)
      ∙ (ap (seen c.write.new.marks c.args.heads.now) here ∙ (c.write.ensures.here ∙ (c.read-first.ensures.value ∙ ap (seen c.args.marks.now c.args.heads.now) next)))
  | inr inside ↦
      seen-at _ _ _ i (i + 1) (turned_down _ c.args.block _ i c.requires.within refl inside high) ∙ c.write.ensures.others (i + 1) (omega (arith, inside))
]

pub returns-clause-behind : goal.returns-clause-behind
returns-clause-behind c = λ i high.
    let apart : i / 256 ≢ c.args.block = omega (arith, high) in
    seen-at _ _ _ i i (turned_elsewhere _ c.args.block _ i apart) ∙ c.write.ensures.others i (omega (arith, high))
