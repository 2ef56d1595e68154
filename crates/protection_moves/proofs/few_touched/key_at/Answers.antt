use Rattle.std.proofs.Common.{map, ◌∙◌}
use Rattle.host_shard.specs.Shown.{shown_content}
use Rattle.protection_moves.proofs.LowestLemmas.{key_own, key_there, key_nowhere}
use Rattle.protection_moves.proofs.few_touched.key_at.Goals as goal

pub returns-in-Some-clause-promotable : goal.returns-in-Some-clause-promotable
returns-in-Some-clause-promotable c =
    key_own c.args.least c.args.shard.now.frontier (map shown_content c.args.places.now) c.args.shard.now.records c.args.path.now c.in-Some.kept.now c.promotable_key.result
    c.requires.some c.in-Some.ensures.value c.promotable_key.ensures.value

pub returns-in-Some-clause-its_key : goal.returns-in-Some-clause-its_key
returns-in-Some-clause-its_key c key among same =
    c.promotable_key.ensures.value
    ∙ key_there c.args.least c.args.shard.now.frontier (map shown_content c.args.places.now) c.args.shard.now.records c.args.path.now c.in-Some.kept.now key
    c.requires.in_order c.in-Some.ensures.value among same

pub returns-in-None-clause-its_key : goal.returns-in-None-clause-its_key
returns-in-None-clause-its_key c key among same =
    absurd (key_nowhere c.args.least c.args.shard.now.frontier (map shown_content c.args.places.now) c.args.shard.now.records c.args.path.now key
    c.requires.some c.requires.in_order c.in-None.ensures.value among same)
