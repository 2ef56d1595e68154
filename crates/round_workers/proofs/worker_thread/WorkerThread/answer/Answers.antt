use Rattle.std.proofs.Common.{◌≡◌, ℕ, suc, ◌+◌, true, Bool, [], ◌∷◌, ◌++◌, Option, Some, refl, sym, ◌∙◌, ap, subst, arith, rules}
use Rattle.std.specs.Option.{option_map}
use Rattle.lamport_clocks.specs.Reading.{Reading}
use Rattle.record_text.specs.declared.request.Request.{Request}
use Rattle.merkle_records.specs.Merkle.{Digest}
use Rattle.host_shard.specs.declared.content.Content as code
use Rattle.host_shard.specs.Shown.{shown_content}
use Rattle.host_plan.specs.declared.plans.Plan.{Plan}
use Rattle.host_plan.specs.Plan.{IsPastEnd, IsPlan}
use Rattle.host_world.specs.Places.{shown_held}
use Rattle.round_order.specs.Turn.{served_more}
use Rattle.host_epochs.specs.declared.hand.Hand.{Hand}
use Rattle.host_epochs.specs.declared.told.Stop.{Stop}
use Rattle.host_epochs.specs.Calls.{MayNote, stop_by}
use Rattle.host_epochs.specs.Hands.{entered, entries, done, history, row_of}
use Rattle.host_epochs.specs.Table.{making, table, terms}
use Rattle.host_epochs.specs.Terms.{Terms, clock_at, first_epoch}
use Rattle.host_epochs.proofs.HandLaws.{holds_still}
use Rattle.host_epochs.proofs.HistoryLaws.{leads_owns}
use Rattle.host_epochs.proofs.ScanLaws.{near_open}
use Rattle.host_epochs.specs.declared.views.Row.{Row}
use Rattle.table_order.specs.Rounds.{turn_of, turns_of}
use Rattle.round_workers.specs.declared.worker_thread.WorkerThread.{WorkerThread}
use Rattle.round_workers.specs.Order.{NoneMay}
use Rattle.round_workers.specs.Parts.{IsNext}
use Rattle.round_workers.specs.Placed.{ScansFrom}
use Rattle.round_workers.proofs.HandLemmas.{clock_told, stands-after}
use Rattle.round_workers.proofs.OrderLemmas.{order-request, scans-served, IsInOrderBehind}
use Rattle.round_workers.proofs.PartLemmas.{stopped-come, worked-come, worked-running}
use Rattle.round_workers.proofs.SendLemmas.{log-grown}
use Rattle.round_workers.proofs.WorkLemmas.{clock_later, may_serve, noted_fresh, noted_plan}
use Rattle.round_workers.proofs.worker_thread.WorkerThread.answer.Goals as goal

pub plan-requires-clause-own : goal.plan-requires-clause-own
plan-requires-clause-own g c =
    let t : Terms = terms g.D.Digests.functions c.args.shared.now.epochs.now in
    leads_owns t (λ text. (g.met.D.Digests.text_digest_shape (making c.args.shared.now.epochs.now).digests.value text).size) c.args.place
    (history c.args.self.now.hand) c.args.content c.requires.taken.leads c.args.request.now.key c.requires.place.owns

pub plan-requires-clause-open : goal.plan-requires-clause-open
plan-requires-clause-open g c =
    let t : Terms = terms g.D.Digests.functions c.args.shared.now.epochs.now in
    let hand : Hand = c.args.self.now.hand in
    let behind = c.requires.going.behind in
    near_open t (entered hand) (done hand) c.args.content c.args.self.now.worker.clock behind.epoch
    (clock_later t c.args.self.now.worker.clock (entered hand) behind.is behind.epoch c.requires.shared.further)
    c.requires.not_newer c.requires.taken.near

pub give-requires-clause-may : goal.give-requires-clause-may
give-requires-clause-may g c =
    let t : Terms = terms g.D.Digests.functions c.args.shared.now.epochs.now in
    let hand : Hand = c.args.self.now.hand in
    let clock : Reading = c.args.self.now.worker.clock in
    let request : Request = c.args.request.now in
    let same : clock_at t c.at-before.result ≡ clock = clock_told t clock c.at-before.result c.requires.going.behind.is c.at-before.ensures.value in
    let within : IsPastEnd (shown_content c.args.content) clock → ⊥ = search rules in
    subst (λ (at : Reading). MayNote t hand c.args.place at (Some request) c.plan.new.content) (sym same)
    (may_serve t hand c.args.place clock request c.in-Ok.plan c.args.content c.plan.new.content c.plan.new.clock c.requires.going.going c.requires.going.behind
    c.requires.going.known c.requires.taken.content_is c.requires.not_newer c.requires.place c.a_blob_has_at_most_255_bytes.ensures.fits
    (subst (λ (a : Bool × Digest × ℕ). IsPlan a.0 a.1 a.2 (shown_content c.args.content) request clock c.in-Ok.plan (shown_content c.plan.new.content) c.plan.new.clock)
    (λ i. (c.requires.shared.absent i, c.requires.shared.digests i, c.worker-number.ensures.worker i)) c.in-Ok.ensures.planned)
    within)

pub give-requires-in-Err-ClockEnd-clause-holds : goal.give-requires-in-Err-ClockEnd-clause-holds
give-requires-in-Err-ClockEnd-clause-holds g c =
    (holds_still (table c.args.shared.now.epochs.now) c.args.self.now.hand c.stop_at.new.hand c.args.place c.stop_at.ensures.keeps c.requires.taken.holds).holds

pub give-requires-in-Err-ClockEnd-clause-may : goal.give-requires-in-Err-ClockEnd-clause-may
give-requires-in-Err-ClockEnd-clause-may g c =
    let still = holds_still (table c.args.shared.now.epochs.now) c.args.self.now.hand c.stop_at.new.hand c.args.place c.stop_at.ensures.keeps c.requires.taken.holds in
    let before : shown_content c.plan.new.content ≡ shown_content c.args.content = search rules in
    before ∙ ap (λ (x : code.Content). shown_content x) (sym (still.content_is ∙ c.requires.taken.content_is))

pub returns-in-Ok-clause-sends : goal.returns-in-Ok-clause-sends
returns-in-Ok-clause-sends g c = record {
  front = log-grown c.args.self.now.outbox c.args.self.now.worker.log c.push.new.self c.in-Ok.plan.commands c.push.ensures.writer c.push.ensures.commands c.requires.sends.front;
  place = c.requires.sends.place;
}

pub returns-in-Ok-clause-going : goal.returns-in-Ok-clause-going
returns-in-Ok-clause-going g c = λ _.
    let t : Terms = terms g.D.Digests.functions c.args.shared.now.epochs.now in
    let old : WorkerThread = c.args.self.now in
    let new : WorkerThread = record old {
      worker = record (old.worker) { log = c.push.new.self; clock = c.plan.new.clock; served = old.worker.served + 1 };
      hand = c.give.new.hand;
    } in
    let same : clock_at t c.at-before.result ≡ old.worker.clock = clock_told t old.worker.clock c.at-before.result c.requires.going.behind.is c.at-before.ensures.value in
    let notes = c.give.ensures.gives in
    let planned = noted_plan t old.hand c.give.new.hand c.args.place (clock_at t c.at-before.result) c.args.request.now c.in-Ok.plan c.args.content c.plan.new.content c.plan.new.clock
    c.requires.taken.content_is
    (subst (λ (a : Bool × Digest × ℕ × Reading). IsPlan a.0 a.1 a.2 (shown_content c.args.content) c.args.request.now a.3 c.in-Ok.plan (shown_content c.plan.new.content) c.plan.new.clock)
    (λ i. (c.requires.shared.absent i, c.requires.shared.digests i, c.worker-number.ensures.worker i, sym same i)) c.in-Ok.ensures.planned) notes in
    worked-running t old new notes.entry notes.after.worker notes.after.row refl (notes.is.clock_is ∙ same) (sym planned.1) notes.done.asked c.requires.going

pub returns-in-Ok-clause-stands : goal.returns-in-Ok-clause-stands
returns-in-Ok-clause-stands g c = λ _.
    let notes = c.give.ensures.gives in
    stands-after c.args.self.now.hand c.give.new.hand _ [] _ [] notes.after refl refl

pub returns-in-Ok-clause-scans : goal.returns-in-Ok-clause-scans
returns-in-Ok-clause-scans g c = λ _ opened.
    let t : Terms = terms g.D.Digests.functions c.args.shared.now.epochs.now in
    let old : WorkerThread = c.args.self.now in
    let same : clock_at t c.at-before.result ≡ old.worker.clock = clock_told t old.worker.clock c.at-before.result c.requires.going.behind.is c.at-before.ensures.value in
    let notes = c.give.ensures.gives in
    let here : notes.entry.clock.at.epoch ≡ first_epoch t + entered old.hand = ap (λ (r : Reading). r.at.epoch) (notes.is.clock_is ∙ same) ∙ c.requires.going.behind.epoch in
    subst (λ (r : Row). ScansFrom t r 0) (sym notes.after.row) (scans-served t (row_of old.hand) notes.entry c.args.request.now notes.is.request_is here opened)

pub returns-in-Ok-clause-serves : goal.returns-in-Ok-clause-serves
returns-in-Ok-clause-serves g c = λ _ phase begun asked rest start come.
    let t : Terms = terms g.D.Digests.functions c.args.shared.now.epochs.now in
    let old : WorkerThread = c.args.self.now in
    let request : Request = c.args.request.now in
    let new : WorkerThread = record old {
      worker = record (old.worker) { log = c.push.new.self; clock = c.plan.new.clock; served = old.worker.served + 1 };
      hand = c.give.new.hand;
    } in
    let same : clock_at t c.at-before.result ≡ old.worker.clock = clock_told t old.worker.clock c.at-before.result c.requires.going.behind.is c.at-before.ensures.value in
    let notes = c.give.ensures.gives in
    let planned = noted_plan t old.hand c.give.new.hand c.args.place (clock_at t c.at-before.result) request c.in-Ok.plan c.args.content c.plan.new.content c.plan.new.clock
    c.requires.taken.content_is
    (subst (λ (a : Bool × Digest × ℕ × Reading). IsPlan a.0 a.1 a.2 (shown_content c.args.content) request a.3 c.in-Ok.plan (shown_content c.plan.new.content) c.plan.new.clock)
    (λ i. (c.requires.shared.absent i, c.requires.shared.digests i, c.worker-number.ensures.worker i, sym same i)) c.in-Ok.ensures.planned) notes in
    let from : notes.entry.clock ≡ old.worker.clock = notes.is.clock_is ∙ same in
    let here : notes.entry.clock.at.epoch ≡ first_epoch t + entered old.hand = ap (λ (r : Reading). r.at.epoch) from ∙ c.requires.going.behind.epoch in
    let next : IsNext (first_epoch t) ((phase, request) ∷ rest) notes.entry notes.entry.request rest =
    subst (λ (r : Option Request). IsNext (first_epoch t) ((phase, request) ∷ rest) notes.entry r rest) (sym notes.is.request_is) (phase, refl, omega (arith, begun, here)) in
    let fresh = noted_fresh t old.hand c.give.new.hand c.args.place (clock_at t c.at-before.result) (Some request) c.args.content c.plan.new.content
    c.requires.taken.content_is (ap (λ (r : Reading). r.at.epoch) same ∙ c.requires.going.behind.epoch) c.requires.fresh c.requires.not_newer notes in
    let order : IsInOrderBehind (first_epoch t) NoneMay (turns_of (entries old.hand)) (turn_of notes.entry) notes.entry.request =
    subst (IsInOrderBehind (first_epoch t) NoneMay (turns_of (entries old.hand)) (turn_of notes.entry)) (sym notes.is.request_is)
    (order-request (first_epoch t) NoneMay (turns_of (entries old.hand)) (turn_of notes.entry) request) in
    let one : old.worker.served + 1 ≡ suc old.worker.served = omega arith in
    worked-come t asked ((phase, request) ∷ rest) rest start old new notes.entry notes.after.row from notes.done.asked next fresh order
    (c.push.ensures.commands ∙ ap (λ (p : Plan). old.worker.log.commands ++ p.commands) (sym planned.0))
    (sym planned.1) (one ∙ ap (served_more old.worker.served) (sym notes.is.request_is)) refl refl refl c.requires.going come

pub returns-in-Err-ClockEnd-clause-ends : goal.returns-in-Err-ClockEnd-clause-ends
returns-in-Err-ClockEnd-clause-ends g c = λ _ phase asked rest start come.
    let t : Terms = terms g.D.Digests.functions c.args.shared.now.epochs.now in
    let old : WorkerThread = c.args.self.now in
    let request : Request = c.args.request.now in
    let new : WorkerThread = record old { worker = record (old.worker) { clock = c.plan.new.clock; stopped = true }; hand = c.give-in-Err-ClockEnd.new.hand } in
    let stop : Stop = stop_by t old.hand c.at-before.result true (Some request) in
    let clock : c.plan.new.clock ≡ old.worker.clock = search rules in (
      (phase, request) ∷ rest,
      stopped-come t asked ((phase, request) ∷ rest) start old new stop (c.give-in-Err-ClockEnd.ensures.gives.row ∙ c.stop_at.ensures.after.row)
          (λ i. record {
            log = old.worker.log.commands;
            clock = clock i;
            served = old.worker.served;
            holds = option_map shown_held old.worker.holds;
            stopped = true;
            stuck = old.worker.stuck;
          })
          (clock_told t old.worker.clock c.at-before.result c.requires.going.behind.is c.at-before.ensures.value)
          (phase, rest, refl) come,
    )
