use Rattle.std.proofs.Common.{rules, ◌≡◌, ◌<◌, ◌^◌, ◌∷◌, [], subst, sym}
use Rattle.std.specs.List.{AllByRecursion}
use Rattle.record_text.specs.declared.element.Element.{Element}
use Rattle.record_text.specs.Element.{IsStamp}
use Rattle.record_text.specs.Longest.{longest_blob}
use Rattle.log_codec.specs.Command.{IsPathCommand}
use Rattle.log_codec.specs.declared.command.Command.TheVariants.{Absent}
use Rattle.host_shard.specs.Chain.{known_links, end_path}
use Rattle.host_shard.specs.Shard.{key_path_in, Shard, tree_of, pending_shard}
use Rattle.host_shard.specs.Shown.{shown}
use Rattle.host_shard.proofs.ChainLaws.{frontier_kind}
use Rattle.host_plan.specs.Visit.{visit, between}
use Rattle.host_plan.proofs.TypedLemmas.{absent_typed}
use Rattle.host_plan.proofs.serving.miss.Goals as goal

pub returns-clause-typed : goal.returns-clause-typed
returns-clause-typed c =
    let shard : Shard = shown c.args.shard.now in
    let key = key_path_in shard c.args.key in
    let known = known_links key shard.frontier shard.value c.args.links.now in
    let commands : c.in_ok-commands.commands ≡ between (pending_shard shard) c.args.stamp (visit shard.frontier known (Absent key (end_path shard.frontier known) ∷ [])) = search rules in
    subst (AllByRecursion (IsPathCommand longest_blob)) (sym commands)
    (absent_typed longest_blob (tree_of shard) key (pending_shard shard) c.args.links.now c.args.stamp c.requires.own.1.whole c.requires.own.0.kinds
    (frontier_kind longest_blob shard c.requires.own.0.kinds) c.requires.chain
    (subst (λ (element : Element). IsStamp element.stamp) c.pending.ensures.value c.pending.ensures.stamp)
    (subst (λ (element : Element). element.verifier < 2 ^ 16) c.pending.ensures.value c.pending.ensures.verifier) c.in_ok-commands.ensures.stamp)
