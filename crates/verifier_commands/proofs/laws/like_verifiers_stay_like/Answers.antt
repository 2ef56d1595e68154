use Rattle.verifier_commands.proofs.LikenessLaws.{opening-alike, performed-alike, stepped-alike}
use Rattle.verifier_commands.proofs.laws.like_verifiers_stay_like.Goals as goal

pub returns : goal.returns
returns c = record { opening = opening-alike; performed = performed-alike; stepped = stepped-alike }
