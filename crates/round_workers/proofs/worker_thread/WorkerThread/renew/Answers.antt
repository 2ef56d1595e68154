use Rattle.std.proofs.Common.{◌≡◌, ℕ, suc, ◌+◌, ◌/◌, ◌≤◌, List, [], ◌++◌, Option, None, refl, sym, ◌∙◌, ap, subst, arith, rules, inr}
use Rattle.lamport_clocks.specs.Reading.{Reading}
use Rattle.lamport_clocks.specs.declared.stamp.Stamp.{Stamp}
use Rattle.record_text.specs.declared.request.Request.{Request}
use Rattle.log_codec.specs.declared.command.Command.{Command}
use Rattle.host_shard.specs.declared.content.Content as code
use Rattle.host_shard.specs.Content.{Content}
use Rattle.host_shard.specs.Shown.{shown_content}
use Rattle.host_plan.specs.Plan.{IsPastEnd, clock_after}
use Rattle.host_plan.specs.Visit.{between}
use Rattle.round_order.specs.Turn.{served_more}
use Rattle.host_epochs.specs.declared.hand.Hand.{Hand}
use Rattle.host_epochs.specs.declared.told.Reached.{Reached}
use Rattle.host_epochs.specs.Calls.{MayNote, HasReached}
use Rattle.host_epochs.specs.Hands.{entered, entries, done, left, row_of, content, history}
use Rattle.host_epochs.specs.Plays.{given_back}
use Rattle.host_epochs.specs.Scan.{IsStale, scan_commands, scanned}
use Rattle.host_epochs.specs.Table.{making, table, terms}
use Rattle.host_epochs.specs.Terms.{Terms, clock_at, epoch_of, first_epoch}
use Rattle.host_epochs.proofs.HandLaws.{holds_still}
use Rattle.host_epochs.proofs.ScanLaws.{may_scan, near_open, reached_last, scanned_epoch}
use Rattle.host_epochs.specs.declared.views.Row.{Row}
use Rattle.table_order.specs.Rounds.{turn_of, turns_of}
use Rattle.round_workers.specs.declared.worker_thread.WorkerThread.{WorkerThread}
use Rattle.round_workers.specs.Order.{IsFresh, NoneMay}
use Rattle.round_workers.specs.Placed.{ScansAt, ScansFrom}
use Rattle.round_workers.specs.Parts.{IsNext}
use Rattle.round_workers.proofs.ColdLemmas.{element_kind, scan_between, stale_some}
use Rattle.round_workers.proofs.HandLemmas.{clock_told, stale_waits, stands-after}
use Rattle.round_workers.proofs.OrderLemmas.{scan_in_order, scans-scanned, IsInOrderBehind}
use Rattle.round_workers.proofs.PartLemmas.{worked-come, worked-running}
use Rattle.round_workers.proofs.SendLemmas.{log-grown}
use Rattle.round_workers.proofs.WorkLemmas.{clock_later, entered_within, noted_scan}
use Rattle.round_workers.proofs.worker_thread.WorkerThread.renew.Goals as goal

pub scan-requires-clause-waits : goal.scan-requires-clause-waits
scan-requires-clause-waits g c = stale_some c.args.self.now.worker.clock.at.epoch (shown_content c.args.content) c.requires.stale

pub scan-requires-clause-open : goal.scan-requires-clause-open
scan-requires-clause-open g c =
    let t : Terms = terms g.D.Digests.functions c.args.shared.now.epochs.now in
    let hand : Hand = c.args.self.now.hand in
    let behind = c.requires.going.behind in
    near_open t (entered hand) (done hand) c.args.content c.args.self.now.worker.clock behind.epoch
    (clock_later t c.args.self.now.worker.clock (entered hand) behind.is behind.epoch c.requires.shared.further)
    (stale_waits (first_epoch t + entered hand) (shown_content c.args.content) (subst (λ (n : ℕ). IsStale n (shown_content c.args.content)) behind.epoch c.requires.stale))
    c.requires.taken.near

pub give-requires-clause-holds : goal.give-requires-clause-holds
give-requires-clause-holds g c =
    (holds_still (table c.args.shared.now.epochs.now) c.args.self.now.hand c.stop.new.hand c.args.place c.stop.ensures.keeps c.requires.taken.holds).holds

pub give-requires-clause-may : goal.give-requires-clause-may
give-requires-clause-may g c =
    let still = holds_still (table c.args.shared.now.epochs.now) c.args.self.now.hand c.stop.new.hand c.args.place c.stop.ensures.keeps c.requires.taken.holds in
    let before : shown_content c.scan.new.content ≡ shown_content c.args.content = search rules in
    before ∙ ap (λ (x : code.Content). shown_content x) (sym (still.content_is ∙ c.requires.taken.content_is))

pub give-requires-2-clause-may : goal.give-requires-2-clause-may
give-requires-2-clause-may g c =
    let t : Terms = terms g.D.Digests.functions c.args.shared.now.epochs.now in
    let hand : Hand = c.args.self.now.hand in
    let clock : Reading = c.args.self.now.worker.clock in
    let same : clock_at t c.at-before.result ≡ clock = clock_told t clock c.at-before.result c.requires.going.behind.is c.at-before.ensures.value in
    let found : shown_content (content hand) ≡ shown_content c.args.content = ap (λ (x : code.Content). shown_content x) c.requires.taken.content_is in
    let after : shown_content c.scan.new.content ≡ scanned c.worker.result (shown_content c.args.content) clock = search rules in
    let within : IsPastEnd (shown_content c.args.content) clock → ⊥ = search (rules, arith) in
    subst (λ (at : Reading). MayNote t hand c.args.place at None c.scan.new.content) (sym same)
    (may_scan t hand c.args.place clock c.scan.new.content c.requires.going.going c.requires.going.behind c.requires.taken.there c.requires.own c.requires.going.known
    (subst (IsStale clock.at.epoch) (sym found) c.requires.stale)
    (after ∙ (λ i. scanned (c.worker.ensures.worker i) (sym found i) clock))
    (λ past. within (subst (λ (x : Content). IsPastEnd x clock) found past)))

pub renewing-requires-clause-kind : goal.renewing-requires-clause-kind
renewing-requires-clause-kind g c =
    let t : Terms = terms g.D.Digests.functions c.args.shared.now.epochs.now in
    let hand : Hand = c.args.self.now.hand in
    let behind = c.requires.going.behind in
    let within = entered_within t c.args.self.now.worker.clock (entered hand) behind.is behind.epoch in
    let further = c.requires.shared.further (let later = c.requires.later in omega (arith, later, within)) in
    element_kind t (λ text. (g.met.D.Digests.text_digest_shape (making c.args.shared.now.epochs.now).digests.value text).size) c.args.place (history hand) c.args.content
    c.in-Some.element c.requires.taken.leads (further.cold c.args.place c.requires.taken.there) c.in-Some.ensures.element

pub returns-clause-sends : goal.returns-clause-sends
returns-clause-sends g c = record {
  front = log-grown c.args.self.now.outbox c.args.self.now.worker.log c.push.new.self c.renewing.result c.push.ensures.writer c.push.ensures.commands c.requires.sends.front;
  place = c.requires.sends.place;
}

pub returns-clause-going : goal.returns-clause-going
returns-clause-going g c = λ _.
    let t : Terms = terms g.D.Digests.functions c.args.shared.now.epochs.now in
    let old : WorkerThread = c.args.self.now in
    let new : WorkerThread = record old { worker = record (old.worker) { log = c.push.new.self; clock = c.scan.new.clock }; hand = c.give-2.new.hand } in
    let same : clock_at t c.at-before.result ≡ old.worker.clock = clock_told t old.worker.clock c.at-before.result c.requires.going.behind.is c.at-before.ensures.value in
    let found : shown_content (content old.hand) ≡ shown_content c.args.content = ap (λ (x : code.Content). shown_content x) c.requires.taken.content_is in
    let notes = c.give-2.ensures.gives in
    let noted = noted_scan t old.hand c.give-2.new.hand c.args.place (clock_at t c.at-before.result) c.scan.new.content notes in
    let clock : c.scan.new.clock ≡ notes.entry.later = c.in-Some.ensures.clock ∙ (λ i. clock_after (sym found i) (sym same i)) ∙ sym noted.1 in
    worked-running t old new notes.entry notes.after.worker notes.after.row refl (notes.is.clock_is ∙ same) clock notes.done.asked c.requires.going

pub returns-clause-stands : goal.returns-clause-stands
returns-clause-stands g c = λ _.
    let notes = c.give-2.ensures.gives in
    stands-after c.args.self.now.hand c.give-2.new.hand _ [] _ [] notes.after refl refl

pub returns-clause-scans : goal.returns-clause-scans
returns-clause-scans g c = λ _.
    let t : Terms = terms g.D.Digests.functions c.args.shared.now.epochs.now in
    let notes = c.give-2.ensures.gives in
    subst (λ (at : Row × ℕ). ScansFrom t at.0 (suc (at.1 / 5))) (λ i. (sym notes.after.row i, notes.is.place_is i))
    (scans-scanned t (row_of c.args.self.now.hand) notes.entry notes.is.request_is)

pub returns-clause-renewed : goal.returns-clause-renewed
returns-clause-renewed g c = λ _.
    let t : Terms = terms g.D.Digests.functions c.args.shared.now.epochs.now in
    let old : WorkerThread = c.args.self.now in
    let hand : Hand = old.hand in
    let notes = c.give-2.ensures.gives in
    let least : ℕ = first_epoch t + entered c.give-2.new.hand in
    let given : Reached = given_back c.args.place c.scan.new.content in
    let some = stale_some old.worker.clock.at.epoch (shown_content c.args.content) c.requires.stale in
    let epoch : epoch_of (shown_content c.scan.new.content) ≡ old.worker.clock.at.epoch =
    ap epoch_of c.in-Some.ensures.content ∙ scanned_epoch c.worker.result (shown_content c.args.content) old.worker.clock some in
    let stands = stands-after hand c.give-2.new.hand _ [] _ [] notes.after refl refl in
    let here = c.requires.going.behind.epoch in
    let far : least ≤ given.least = (let same = stands.entered in omega (arith, same, epoch, here)) in
    inr (subst (λ (noted : List Reached). HasReached noted c.args.place least) (sym notes.after.left) (reached_last (left hand) given c.args.place least refl far))

pub returns-clause-keeps : goal.returns-clause-keeps
returns-clause-keeps g c = λ asked rest start come.
    let t : Terms = terms g.D.Digests.functions c.args.shared.now.epochs.now in
    let old : WorkerThread = c.args.self.now in
    let new : WorkerThread = record old { worker = record (old.worker) { log = c.push.new.self; clock = c.scan.new.clock }; hand = c.give-2.new.hand } in
    let same : clock_at t c.at-before.result ≡ old.worker.clock = clock_told t old.worker.clock c.at-before.result c.requires.going.behind.is c.at-before.ensures.value in
    let found : shown_content (content old.hand) ≡ shown_content c.args.content = ap (λ (x : code.Content). shown_content x) c.requires.taken.content_is in
    let notes = c.give-2.ensures.gives in
    let noted = noted_scan t old.hand c.give-2.new.hand c.args.place (clock_at t c.at-before.result) c.scan.new.content notes in
    let clock : c.scan.new.clock ≡ notes.entry.later = c.in-Some.ensures.clock ∙ (λ i. clock_after (sym found i) (sym same i)) ∙ sym noted.1 in
    let commands : c.renewing.result ≡ notes.entry.plan.commands =
    c.renewing.ensures.commands ∙ ap (λ (stamp : Stamp). between c.in-Some.element stamp []) (c.at-after.ensures.value ∙ ap (λ (r : Reading). r.at) c.in-Some.ensures.clock)
    ∙ sym (scan_between (shown_content c.args.content) old.worker.clock c.in-Some.element c.in-Some.ensures.element)
    ∙ (λ i. scan_commands (sym found i) (sym same i)) ∙ sym noted.0 in
    let next : IsNext (first_epoch t) rest notes.entry notes.entry.request rest =
    subst (λ (r : Option Request). IsNext (first_epoch t) rest notes.entry r rest) (sym notes.is.request_is) refl in
    let fresh : IsFresh t.workers (turn_of notes.entry) notes.entry.request = subst (IsFresh t.workers (turn_of notes.entry)) (sym notes.is.request_is) tt in
    let here : notes.entry.clock.at.epoch ≡ first_epoch t + entered old.hand = ap (λ (r : Reading). r.at.epoch) (notes.is.clock_is ∙ same) ∙ c.requires.going.behind.epoch in
    let order : IsInOrderBehind (first_epoch t) NoneMay (turns_of (entries old.hand)) (turn_of notes.entry) notes.entry.request =
    subst (IsInOrderBehind (first_epoch t) NoneMay (turns_of (entries old.hand)) (turn_of notes.entry)) (sym notes.is.request_is)
    (scan_in_order t (row_of old.hand) notes.entry here (subst (ScansAt t (row_of old.hand)) (sym notes.is.place_is) c.requires.scans)) in
    worked-come t asked rest rest start old new notes.entry notes.after.row (notes.is.clock_is ∙ same) notes.done.asked next fresh order
    (c.push.ensures.commands ∙ ap (λ (more : List Command). old.worker.log.commands ++ more) commands)
    clock (ap (served_more old.worker.served) (sym notes.is.request_is)) refl refl refl c.requires.going come
