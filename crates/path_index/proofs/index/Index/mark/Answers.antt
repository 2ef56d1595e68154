use Rattle.std.proofs.Common.{ℕ, List, length, ◌∙◌, ap, arith}
use Rattle.path_index.specs.Index.{lies, mark_at}
use Rattle.path_index.proofs.IndexLemmas.{seen-read}
use Rattle.path_index.proofs.index.Index.mark.Goals as goal

pub returns : goal.returns
unfolding mark_at
returns c = record {
  value = seen-read _ _ _ _ _ (c.lies.ensures.value ∙ ap (λ (heads : List ℕ). lies heads c.args.rank) c.deref.ensures.value)
      (omega (arith, c.lies.ensures.within, ap (λ (heads : List ℕ). length heads) c.deref.ensures.value, c.requires.sound.0)) c.index.ensures;
}
