use Rattle.std.proofs.Common.{◌≡◌, ◌+◌, ◌<◌, ◌≤◌, refl, ap, arith, rules}
use Rattle.host_shard.specs.Shown.{shown_content}
use Rattle.host_epochs.specs.Hands.{entered}
use Rattle.host_epochs.specs.Table.{table, terms}
use Rattle.host_epochs.specs.Terms.{Terms, epoch_of}
use Rattle.table_tests.proofs.RoundLemmas.{ended_on, reached_now, taken_back, then_on, waits_so}
use Rattle.table_tests.proofs.round_workers.RoundWorker.scan_place.Goals as goal

pub returns-in_default-pending-clause-goes : goal.returns-in_default-pending-clause-goes
returns-in_default-pending-clause-goes g c =
    taken_back (terms g.D.Digests.functions c.args.epochs.now) (table c.args.epochs.now) c.args.place c.in-Some.content c.args.self.now c.take.new.self _ c.in-Some.ensures.taken c.give.ensures.free
    c.give.ensures.gives refl refl

pub returns-then-element-at-clause-goes : goal.returns-then-element-at-clause-goes
returns-then-element-at-clause-goes g c =
    taken_back (terms g.D.Digests.functions c.args.epochs.now) (table c.args.epochs.now) c.args.place c.in-Some.content c.args.self.now c.take.new.self _ c.in-Some.ensures.taken
    c.give-then-element-at.ensures.free c.give-then-element-at.ensures.gives refl refl

pub returns-then-element-at-clause-scanned : goal.returns-then-element-at-clause-scanned
returns-then-element-at-clause-scanned g c = λ _.
    let t : Terms = terms g.D.Digests.functions c.args.epochs.now in
    let taken = c.in-Some.ensures.taken in
    let mid = c.take.new.self in
    let new = c.give-then-element-at.new.hand in
    let after = c.give-then-element-at.ensures.gives in
    let same : entered new ≡ entered mid.hand = ap (λ r. r.entered) after.row in
    let behind = (taken.of.going taken.going).behind.epoch in
    let waits : epoch_of (shown_content c.in-Some.content) ≡ c.in-Some-pending.element.stamp.epoch = waits_so (shown_content c.in-Some.content) c.in-Some-pending.element (search rules) in
    let at = ap (λ s. s.epoch) c.at.ensures.value in
    let up : c.at.result.epoch ≤ c.in-Some-pending.element.stamp.epoch = search rules in
    record {
      going = taken.going;
      reached = reached_now t (table c.args.epochs.now) c.args.place c.in-Some.content mid.hand new _ after (omega (arith, same, behind, waits, at, up));
    }
