use Rattle.std.proofs.Common.{◌≡◌, Bool, true, List, sym, subst}
use Rattle.std.specs.List.{list_any}
use Rattle.tree_keys.specs.Path.{same_path}
use Rattle.host_shard.proofs.TouchedLemmas.{is_last}
use Rattle.host_shard.proofs.touched.Touched.note.Goals as goal

pub returns-in-Ok-clause-noted : goal.returns-in-Ok-clause-noted
returns-in-Ok-clause-noted c =
    λ whole. subst (λ (paths : List (List Bool)). list_any (same_path c.args.path.now) paths ≡ true) (sym c.in-Ok.ensures.items) (is_last c.args.self.now.paths.items c.args.path.now)
