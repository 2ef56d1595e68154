use Rattle.std.proofs.Common.{arith, refl, ap, lit<, ◌∙◌}
use Rattle.sha2.specs.Sha256.{compress}
use Rattle.lane_sha.specs.Lanes.{lane}
use Rattle.lane_sha.proofs.TextLemmas.{one_more}
use Rattle.lane_sha.proofs.start.Start.after.Goals as goal

pub returns : goal.returns
returns c = record {
  behind = λ front behind.
      let hash = c.words_of_lane.ensures.value ∙ ap (lane 0) c.rows_of.ensures.value
      ∙ c.compress.ensures.value 0 (lit< tt) ∙ ap (λ h. compress h c.args.block.now) (c.spread-state.ensures.value 0 (lit< tt)) in
      one_more c.args.self.now _ front c.args.block.now behind (omega arith) hash refl;
}
