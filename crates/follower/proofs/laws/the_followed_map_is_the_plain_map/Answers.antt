use Rattle.follower.proofs.MapLemmas.{followed-is_stored}
use Rattle.follower.proofs.laws.the_followed_map_is_the_plain_map.Goals as goal

pub returns : goal.returns
returns c = record { same = followed-is_stored }
