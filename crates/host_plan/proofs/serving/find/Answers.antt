use Rattle.std.proofs.Common.{Bool, subst, sym}
use Rattle.std.specs.List.{AllByRecursion}
use Rattle.tree_keys.specs.Path.{key_path}
use Rattle.record_text.specs.declared.element.Element.{Element}
use Rattle.record_text.specs.declared.value.Value.{Value}
use Rattle.record_text.specs.Value.{IsOf}
use Rattle.record_text.specs.Longest.{longest_blob}
use Rattle.log_codec.specs.Command.{IsPathCommand}
use Rattle.host_shard.specs.Chain.{IsChain}
use Rattle.host_shard.specs.Shard.{key_path_in, tree_of}
use Rattle.host_shard.specs.Shown.{shown}
use Rattle.host_shard.proofs.ChainLaws.{frontier_kind, last_kind}
use Rattle.host_plan.proofs.TypedLemmas.{chain_typed}
use Rattle.host_plan.proofs.serving.find.Goals as goal

pub answer_of-answer-requires : goal.answer_of-answer-requires
answer_of-answer-requires g c =
    let key = key_path_in (shown c.args.shard.now) c.args.request.now.key in
    record {
      kind = subst (λ (wide : Bool). IsOf longest_blob (key_path wide c.args.request.now.key) c.last_value.result.now) (sym c.is_wide-wide.ensures.value)
          (subst (λ (value : Value). IsOf longest_blob key value) (sym c.last_value.ensures.value)
          (last_kind longest_blob (tree_of (shown c.args.shard.now)) key c.args.shard.now.frontier c.args.shard.now.value c.args.links.now c.requires.own.1.whole c.requires.own.0.kinds
          (frontier_kind longest_blob (shown c.args.shard.now) c.requires.own.0.kinds) c.requires.chain));
    }

pub returns-clause-typed : goal.returns-clause-typed
returns-clause-typed g c =
    let tree = tree_of (shown c.args.shard.now) in
    let key = key_path_in (shown c.args.shard.now) c.args.request.now.key in
    let kind = subst (λ (element : Element). IsOf longest_blob element.path element.value) (sym c.pending.ensures.value)
    (frontier_kind longest_blob (shown c.args.shard.now) c.requires.own.0.kinds) in
    let chain = subst (λ (element : Element). IsChain tree key element.path element.value c.args.links.now) (sym c.pending.ensures.value) c.requires.chain in
    subst (AllByRecursion (IsPathCommand longest_blob)) (sym c.in_ok-commands.ensures.commands)
    (chain_typed longest_blob tree key c.pending.result c.args.links.now c.command_of-command.result c.args.stamp c.requires.own.1.whole c.requires.own.0.kinds kind chain
    c.pending.ensures.stamp c.pending.ensures.verifier c.in_ok-commands.ensures.stamp c.command_of-command.ensures.typed)
