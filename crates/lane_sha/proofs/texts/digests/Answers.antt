use Rattle.std.proofs.Common.{◌≡◌, ◌<◌, ◌++◌, List, ℕ, ap, lit<, ◌∙◌}
use Rattle.sha2.specs.Sha256.{digest_bytes, sha256}
use Rattle.lane_sha.specs.Lanes.{lane}
use Rattle.lane_sha.specs.Texts.{text}
use Rattle.lane_sha.proofs.TextLemmas.{digest_behind, each_block}
use Rattle.lane_sha.proofs.texts.digests.Goals as goal

pub returns : goal.returns
returns c = record {
  value = λ j front below behind.
      let start = c.args.start.now in
      let digest : (j : ℕ) (words : List ℕ) → words ≡ lane j c.rows_of-rows.result → j < 8
      → digest_bytes words 8 ≡ sha256 (front ++ text j c.args.texts.now) =
      λ j words is inside. digest_behind start front (text j c.args.texts.now) _ behind
      (is ∙ ap (lane j) c.rows_of-rows.ensures.value ∙ c.hash_values.ensures.value j inside) in
      each_block (λ j. sha256 (front ++ text j c.args.texts.now)) _ _ _ _ _ _ _ _
      (c.digest_of.ensures.value ∙ digest 0 _ (c.words_of_lane.ensures.value) (lit< tt))
      (c.digest_of-2.ensures.value ∙ digest 1 _ (c.words_of_lane-2.ensures.value) (lit< tt))
      (c.digest_of-3.ensures.value ∙ digest 2 _ (c.words_of_lane-3.ensures.value) (lit< tt))
      (c.digest_of-4.ensures.value ∙ digest 3 _ (c.words_of_lane-4.ensures.value) (lit< tt))
      (c.digest_of-5.ensures.value ∙ digest 4 _ (c.words_of_lane-5.ensures.value) (lit< tt))
      (c.digest_of-6.ensures.value ∙ digest 5 _ (c.words_of_lane-6.ensures.value) (lit< tt))
      (c.digest_of-7.ensures.value ∙ digest 6 _ (c.words_of_lane-7.ensures.value) (lit< tt))
      (c.digest_of-8.ensures.value ∙ digest 7 _ (c.words_of_lane-8.ensures.value) (lit< tt))
      j below;
}
