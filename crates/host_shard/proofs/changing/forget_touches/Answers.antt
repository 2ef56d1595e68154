use Rattle.std.proofs.Common.{List, Option, Bor, IfSome, ◌∙◌, subst}
use Rattle.tree_keys.specs.declared.path.Path.{Path}
use Rattle.host_shard.specs.Touched.{AreAmong}
use Rattle.host_shard.proofs.TouchedLemmas.{all_untouched}
use Rattle.host_shard.proofs.changing.forget_touches.Goals as goal

pub returns-in-Some : goal.returns-in-Some
returns-in-Some c = record {
  forgotten = c.forget_each.ensures.forgotten ∙ all_untouched c.args.map.now.entries c.in-Some.paths.now
      (subst (λ (o : Option (Bor (List Path))). IfSome o (λ paths. AreAmong paths.now c.args.map.now.entries)) c.in-Some.is c.requires.all);
}
