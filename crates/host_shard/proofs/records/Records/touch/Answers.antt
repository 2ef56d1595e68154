use Rattle.host_shard.proofs.TouchedLemmas.{noted_same, noted_more}
use Rattle.host_shard.proofs.records.Records.touch.Goals as goal

pub invariant_of-self : goal.invariant_of-self
invariant_of-self c =
    noted_more c.self.inside.touched c.note.new.self c.self.inside.map.entries c.touch_at.new.map.entries c.args.path.now _ c.self.invariant c.touch_at.ensures.touched
    c.note.ensures.noted c.note.ensures.others

pub invariant_of-self-else-touch_at : goal.invariant_of-self-else-touch_at
invariant_of-self-else-touch_at c =
    noted_same c.self.inside.touched c.self.inside.map.entries c.touch_at.new.map.entries c.args.path.now _ c.self.invariant c.touch_at.ensures.touched
    (c.touch_at.ensures.first c.if-touch_at.false)
