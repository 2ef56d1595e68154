use Rattle.std.proofs.Common.{ap}
use Rattle.bundle_frames.specs.Bundle.{Bundle}
use Rattle.bundle_frames.proofs.JoinedLaws.{bundle_of-joined}
use Rattle.bundle_frames.proofs.laws.whole_bundles_go_on.Goals as goal

pub returns : goal.returns
returns c = record {
  header = λ bytes more header is good. ap (λ (b : Bundle). b.header) (bundle_of-joined bytes more header is good);
  frames = λ bytes more header is good. ap (λ (b : Bundle). b.frames) (bundle_of-joined bytes more header is good);
  bad = λ bytes more header is good. ap (λ (b : Bundle). b.bad) (bundle_of-joined bytes more header is good);
}
