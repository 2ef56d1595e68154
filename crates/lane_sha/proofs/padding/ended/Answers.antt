use Rattle.lane_sha.proofs.PaddingLemmas.{end_put}
use Rattle.lane_sha.proofs.padding.ended.Goals as goal

pub returns : goal.returns
returns c = record { value = rw c.put_front.ensures.value (end_put c.args.rest.now c.requires.fits) }
