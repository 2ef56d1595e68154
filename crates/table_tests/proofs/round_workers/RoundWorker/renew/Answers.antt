use Rattle.std.proofs.Common.{◌≡◌, ◌<◌, ◌≤◌, refl, sym, ap, ◌∙◌, subst, Some, arith, rules}
use Rattle.host_shard.specs.declared.content.Content as code
use Rattle.host_shard.specs.Content.{Content}
use Rattle.host_shard.specs.Shown.{shown_content}
use Rattle.host_plan.specs.Plan.{IsPastEnd}
use Rattle.host_epochs.specs.Hands.{entered, row_of}
use Rattle.host_epochs.specs.Plays.{row_with_stop}
use Rattle.host_epochs.specs.Scan.{scanned}
use Rattle.host_epochs.specs.Table.{table, terms}
use Rattle.host_epochs.specs.Terms.{Terms, epoch_of, first_epoch}
use Rattle.host_epochs.proofs.HandLaws.{holds_still}
use Rattle.host_epochs.proofs.ScanLaws.{scanned_epoch}
use Rattle.table_tests.proofs.RoundLemmas.{after_then, ended_on, no_stopped, reached_now, renewed_on, renews, some_waits}
use Rattle.table_tests.proofs.round_workers.RoundWorker.renew.Goals as goal

pub give-requires-clause-may : goal.give-requires-clause-may
give-requires-clause-may g c =
    let self = c.args.self.now in
    let has = c.requires.holds in
    let makes : shown_content c.scan.new.content ≡ scanned self.hand.number (shown_content c.args.content) self.clock =
    c.in-Some.ensures.content ∙ ap (λ n. scanned n (shown_content c.args.content) self.clock) c.worker.ensures.worker in
    let later = ap (λ r. r.at.counter) c.in-Some.ensures.clock in
    let within = c.in-Some.ensures.within in
    renews (terms g.D.Digests.functions c.args.epochs.now) (table c.args.epochs.now) c.args.place c.args.content c.scan.new.content self c.args.element.now c.at-at.result has c.requires.place
    c.requires.own c.requires.element c.requires.stale c.at-at.ensures.value makes (λ past. absurd (omega (arith, past, later, within)))

pub give-requires-in-None-clause-holds : goal.give-requires-in-None-clause-holds
give-requires-in-None-clause-holds g c =
    (holds_still (table c.args.epochs.now) c.args.self.now.hand c.stop.new.hand c.args.place c.stop.ensures.keeps c.requires.holds.holds).holds

pub give-requires-in-None-clause-may : goal.give-requires-in-None-clause-may
give-requires-in-None-clause-may g c =
    let still = holds_still (table c.args.epochs.now) c.args.self.now.hand c.stop.new.hand c.args.place c.stop.ensures.keeps c.requires.holds.holds in
    c.in-None.ensures.as_before.0 ∙ ap (λ (x : code.Content). shown_content x) (sym (still.content_is ∙ c.requires.holds.content_is))

pub returns-in-Some-clause-goes : goal.returns-in-Some-clause-goes
returns-in-Some-clause-goes g c =
    renewed_on (terms g.D.Digests.functions c.args.epochs.now) (table c.args.epochs.now) c.args.place c.args.content c.scan.new.content c.args.self.now _ c.at-at.result c.requires.holds
    c.at-at.ensures.value c.give.ensures.free c.give.ensures.gives refl c.in-Some.ensures.clock

pub returns-in-Some-clause-scanned : goal.returns-in-Some-clause-scanned
returns-in-Some-clause-scanned g c = λ _.
    let t : Terms = terms g.D.Digests.functions c.args.epochs.now in
    let self = c.args.self.now in
    let has = c.requires.holds in
    let going = has.of.going has.going in
    let notes = c.give.ensures.gives in
    let new = c.give.new.hand in
    let same : entered new ≡ entered self.hand = ap (λ r. r.entered) notes.after.row in
    let epoch : epoch_of (shown_content c.scan.new.content) ≡ self.clock.at.epoch =
    ap (λ (x : Content). epoch_of x) c.in-Some.ensures.content ∙ scanned_epoch c.worker.result (shown_content c.args.content) self.clock (some_waits (shown_content c.args.content) c.args.element.now c.requires.element) in
    let behind = going.behind.epoch in
    record {
      going = has.going;
      reached = reached_now t (table c.args.epochs.now) c.args.place c.scan.new.content self.hand new _ notes.after (omega (arith, same, epoch, behind));
    }

pub returns-in-None-clause-goes : goal.returns-in-None-clause-goes
returns-in-None-clause-goes g c =
    let self = c.args.self.now in
    let has = c.requires.holds in
    ended_on (terms g.D.Digests.functions c.args.epochs.now) (table c.args.epochs.now) self _ _ _ c.give-in-None.ensures.free
    (after_then self.hand c.stop.new.hand c.give-in-None.new.hand _ _ c.stop.ensures.after c.give-in-None.ensures.gives) refl refl refl no_stopped has.of
