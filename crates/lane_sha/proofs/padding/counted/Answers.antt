use Rattle.std.proofs.Common.{arith, ◌∙◌}
use Rattle.lane_sha.proofs.PaddingLemmas.{count_put}
use Rattle.lane_sha.proofs.padding.counted.Goals as goal

pub returns : goal.returns
returns c = record { value = count_put c.args.block _ _ (omega arith) (c.copy_from_slice.ensures.after ∙ c.to_be_bytes.ensures) }
