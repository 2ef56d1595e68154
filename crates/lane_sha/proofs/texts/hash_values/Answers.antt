use Rattle.std.proofs.Common.{ap₂, ◌∙◌, sym}
use Rattle.sha2.specs.Sha256.{compress, hash_after}
use Rattle.sha2.proofs.Absorbing256.{hash_after_next}
use Rattle.lane_sha.specs.Padding.{padded_behind, padded_block}
use Rattle.lane_sha.specs.Texts.{text}
use Rattle.lane_sha.proofs.TextLemmas.{each_block}
use Rattle.lane_sha.proofs.texts.hash_values.Goals as goal

pub blocks-2-init : goal.blocks-2-init
unfolding hash_after
blocks-2-init c = c.spread-state.ensures.value

pub blocks-2-preserved : goal.blocks-2-preserved
blocks-2-preserved c =
    let start = c.args.start.now in
    let texts = c.args.texts.now in
    let number = c.blocks-2.number in
    let blocks = each_block (λ j. padded_block start.taken (text j texts) number) _ _ _ _ _ _ _ _
    c.padded_block.ensures.value c.padded_block-in-blocks-2.ensures.value c.padded_block-in-blocks-2-2.ensures.value
    c.padded_block-in-blocks-2-3.ensures.value c.padded_block-in-blocks-2-4.ensures.value c.padded_block-in-blocks-2-5.ensures.value
    c.padded_block-in-blocks-2-6.ensures.value c.padded_block-in-blocks-2-7.ensures.value in
    λ j below.
    c.compress.ensures.value j below ∙ ap₂ compress (c.blocks-2.invariant j below) (blocks j below)
    ∙ sym (hash_after_next start.hash (padded_behind start.taken (text j texts)) number)
