use Rattle.verifier_run.proofs.LikenessLaws.{opening-like, fed-like, ended-like, items-like, parts-like, refused-like}
use Rattle.verifier_run.proofs.laws.like_runs_stay_like.Goals as goal

pub returns : goal.returns
returns g c = record {
  opening = opening-like;
  fed = fed-like g.T.Kept.keeps;
  ended = ended-like;
  items = items-like;
  parts = parts-like;
  refused = refused-like;
}
