use Rattle.std.proofs.Common.{subst}
use Rattle.tree_keys.specs.Path.{key_path}
use Rattle.tree_keys.proofs.TreeLaws.{data-no_node, key_path-data}
use Rattle.record_text.specs.declared.value.Value.{Value}
use Rattle.record_text.specs.Value.{IsOf}
use Rattle.record_text.specs.Longest.{longest_blob}
use Rattle.host_plan.proofs.serving.answer_of.Goals as goal

pub unreachable-requires : goal.unreachable-requires
unreachable-requires c =
    let kind = subst (λ (value : Value). IsOf longest_blob (key_path c.args.wide c.args.request.now.key) value) c.in-Node.is c.requires.kind in
    absurd (data-no_node (key_path c.args.wide c.args.request.now.key) (key_path-data c.args.wide c.args.request.now.key) kind.0)
