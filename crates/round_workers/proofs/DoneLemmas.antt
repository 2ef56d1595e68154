-- What a worker has done of its part, with one step more.
use Rattle.std.proofs.Common.{◌≡◌, ℕ, suc, ◌+◌, ◌-◌, ◌<◌, ◌≤◌, true, false, true≢false, List, [], ◌∷◌, ◌++◌, replicate, None, refl, sym, ◌∙◌, ap, subst, append_assoc, append-nil, arith}
use Rattle.std.proofs.lemmas.List.{map_push}
use Rattle.std.proofs.lemmas.Option.{none-some, same_Some}
use Rattle.lamport_clocks.specs.Reading.{Reading}
use Rattle.record_text.specs.declared.request.Request.{Request}
use Rattle.log_codec.specs.declared.command.Command.{Command}
use Rattle.log_codec.specs.declared.command.Command.TheVariants.{NextEpoch}
use Rattle.host_core.specs.World.{Worker}
use Rattle.host_core.specs.WorldEvent.{logging, next_clock}
use Rattle.round_order.specs.Turn.{on_to, clock_behind, logged, served_behind, served_more}
use Rattle.round_order.proofs.GoingLaws.{on_to-there}
use Rattle.host_epochs.specs.declared.told.Entry.{Entry}
use Rattle.host_epochs.specs.declared.told.Stop.{Stop}
use Rattle.host_epochs.specs.declared.views.Row.{Row}
use Rattle.host_epochs.specs.Plays.{new_row, row_with_done, row_with_entry, row_with_epoch, row_with_stop, row_with_warning}
use Rattle.host_epochs.specs.Terms.{Terms, first_epoch, final_epoch}
use Rattle.table_order.specs.Rounds.{turn_of, turns_of, BeginsAt}
use Rattle.round_workers.specs.Order.{AreFresh, AreInOrder, CallsFor, IsFresh, NoneMay}
use Rattle.round_workers.specs.Parts.{request_at, AreDone, HasDoneUpTo, IsEnd, IsNext, IsNextOf}
use Rattle.round_workers.proofs.OrderLemmas.{called-later, called-more, called-nothing, fresh-more, order-more, IsInOrderBehind}
use Rattle.round_workers.proofs.TurnLemmas.{clock-turn, logged-epoch, logged-turn, on_to-below, on_to-next, on_to-own, served-turn}

-- ---- what is asked

done-entry : (first : ℕ) (asked before rest : List (ℕ × Request)) (entries : List Entry) (entry : Entry) → AreDone first asked entries before
    → IsNext first before entry entry.request rest → AreDone first asked (entries ++ entry ∷ []) rest
done-entry first asked before rest [] entry done next = (rest, subst (λ (left : List (ℕ × Request)). IsNext first left entry entry.request rest) (sym done) next, refl)
done-entry first asked before rest (one ∷ entries) entry done next = (done.0, done.1, done-entry first done.0 before rest entries entry done.2 next)

begins-entry : (clock : Reading) (entries : List Entry) (entry : Entry) → (entries ≡ [] → (entry.clock ≡ on_to entry.clock.at.epoch clock) × (clock.at.epoch ≤ entry.clock.at.epoch))
    → BeginsAt clock entries → BeginsAt clock (entries ++ entry ∷ [])
begins-entry clock [] entry at begins = at refl
begins-entry clock (one ∷ entries) entry at begins = begins

-- ---- one step more

module _ (terms : Terms) (asked : List (ℕ × Request)) (row : Row) (start now : Worker) where
  abbrev first : ℕ
  first = first_epoch terms

  -- an epoch is entered
  pub done-epoch : (rest : List (ℕ × Request)) → now.clock.at.epoch ≡ first + row.entered → suc row.entered ≤ terms.more
      → (terms.workers ≡ 1 → CallsFor rest (suc row.entered)) → row.stop ≡ None → HasDoneUpTo terms asked rest row start now
      → HasDoneUpTo terms asked rest (row_with_epoch row) start (logging now (NextEpoch ∷ []) (next_clock now.clock))
  done-epoch rest here within calls going has =
      let final : ℕ = first + row.entered in
      let next : final + 1 ≡ first + suc row.entered = omega arith in
      let below = on_to-below final (clock_behind start.clock (turns_of row.list)) (ap (λ (c : Reading). c.at.epoch) (sym has.clock) ∙ here) in
      record {
        done = has.done;
        begins = has.begins;
        fresh = has.fresh;
        order = has.order;
        called = λ alone. called-later first (final_epoch terms) first final (suc row.entered) asked rest row.list has.done (omega (arith, within)) (calls alone) (has.called alone);
        log =
            ap (λ (log : List Command). log ++ NextEpoch ∷ []) has.log
            ∙ append_assoc start.log (logged final start.clock (turns_of row.list)) (NextEpoch ∷ [])
            ∙ ap (λ (commands : List Command). start.log ++ commands)
            (sym (logged-epoch final start.clock (turns_of row.list) below) ∙ ap (λ (n : ℕ). logged n start.clock (turns_of row.list)) next);
        clock = on_to-next final (clock_behind start.clock (turns_of row.list)) now.clock has.clock here
            ∙ ap (λ (n : ℕ). on_to n (clock_behind start.clock (turns_of row.list))) next;
        served = has.served;
        stopped = has.stopped;
        ended = λ stop is. absurd (none-some stop (sym going ∙ is));
        heard = has.heard;
        holds = has.holds;
        stuck = has.stuck;
      }

  -- a place is scanned, or a request served
  pub done-work : (before rest : List (ℕ × Request)) (entry : Entry) (later : Worker) → now.clock.at.epoch ≡ first + row.entered → row.entered ≤ terms.more → row.stop ≡ None
      → entry.clock ≡ now.clock → entry.later.at.epoch ≡ entry.clock.at.epoch → IsNext first before entry entry.request rest
      → IsFresh terms.workers (turn_of entry) entry.request → IsInOrderBehind first NoneMay (turns_of row.list) (turn_of entry) entry.request
      → later.log ≡ now.log ++ entry.plan.commands → later.clock ≡ entry.later → later.served ≡ served_more now.served entry.request
      → later.stopped ≡ now.stopped → later.holds ≡ now.holds → later.stuck ≡ now.stuck
      → HasDoneUpTo terms asked before row start now → HasDoneUpTo terms asked rest (row_with_entry row entry) start later
  done-work before rest entry later here within going from stays next fresh order log clock served stopped holds stuck has =
      let final : ℕ = first + row.entered in
      let at : entry.clock.at.epoch ≡ final = ap (λ (c : Reading). c.at.epoch) from ∙ here in
      let turns : turns_of (row.list ++ entry ∷ []) ≡ turns_of row.list ++ turn_of entry ∷ [] = map_push turn_of row.list entry in
      record {
        done = done-entry first asked before rest row.list entry has.done next;
        begins = begins-entry start.clock row.list entry (λ none'. (
          from ∙ on_to-own final start.clock now.clock (has.clock ∙ ap (λ (entries : List Entry). on_to final (clock_behind start.clock (turns_of entries))) none') here
              ∙ ap (λ (c : Reading). on_to c.at.epoch start.clock) (sym from),
          (let below = on_to-below final (clock_behind start.clock (turns_of row.list)) (ap (λ (c : Reading). c.at.epoch) (sym has.clock) ∙ here) in
              let same : start.clock.at.epoch ≡ (clock_behind start.clock (turns_of row.list)).at.epoch =
              ap (λ (entries : List Entry). (clock_behind start.clock (turns_of entries)).at.epoch) (sym none') in
              omega (arith, below, same, at)),
        )) has.begins;
        fresh = subst (AreFresh terms.workers) (sym turns) (fresh-more terms.workers (turns_of row.list) (turn_of entry) fresh has.fresh);
        order = subst (AreInOrder first NoneMay) (sym turns) (order-more first NoneMay (turns_of row.list) (turn_of entry) order has.order);
        called = λ alone. called-more first (final_epoch terms) first final asked before row.list entry has.done at (omega (arith, within)) (has.called alone);
        log =
            log ∙ ap (λ (commands : List Command). commands ++ entry.plan.commands) has.log
            ∙ append_assoc start.log (logged final start.clock (turns_of row.list)) entry.plan.commands
            ∙ ap (λ (commands : List Command). start.log ++ commands)
            (sym (logged-turn final start.clock (turns_of row.list) (turn_of entry) at (stays ∙ at)) ∙ ap (logged final start.clock) (sym turns));
        clock =
            clock ∙ sym (on_to-there final entry.later (let e : entry.later.at.epoch ≡ final = stays ∙ at in omega (arith, e)))
            ∙ ap (on_to final) (sym (clock-turn start.clock (turns_of row.list) (turn_of entry)))
            ∙ ap (λ (ts : List (Rattle.round_order.specs.Turn.Turn Rattle.host_shard.specs.Content.Content Request)). on_to final (clock_behind start.clock ts)) (sym turns);
        served =
            served ∙ ap (λ (n : ℕ). served_more n entry.request) has.served ∙ sym (served-turn start.served (turns_of row.list) (turn_of entry))
            ∙ ap (served_behind start.served) (sym turns);
        stopped = stopped ∙ has.stopped;
        ended = λ stop is. absurd (none-some stop (sym going ∙ is));
        heard = has.heard;
        holds = holds ∙ has.holds;
        stuck = stuck ∙ has.stuck;
      }

  -- it stops
  pub done-stop : (rest : List (ℕ × Request)) (stop : Stop) → stop.clock ≡ now.clock → IsNextOf terms.more rest (request_at stop.met)
      → HasDoneUpTo terms asked rest row start now → HasDoneUpTo terms asked rest (row_with_stop stop row) start (record now { stopped = true })
  done-stop rest stop clock next has = record {
    done = has.done;
    begins = has.begins;
    fresh = has.fresh;
    order = has.order;
    called = has.called;
    log = has.log;
    clock = has.clock;
    served = has.served;
    stopped = refl;
    ended = λ other is. subst (IsEnd terms.more rest now.clock) (same_Some stop other is) record { clock_is = clock; next = next };
    heard = has.heard;
    holds = has.holds;
    stuck = has.stuck;
  }

  -- it reads that another worker stopped
  pub done-warned : (rest : List (ℕ × Request)) → 0 < terms.more → HasDoneUpTo terms asked rest row start now → HasDoneUpTo terms asked rest (row_with_warning row) start now
  done-warned rest further has = record {
    done = has.done;
    begins = has.begins;
    fresh = has.fresh;
    order = has.order;
    called = has.called;
    log = has.log;
    clock = has.clock;
    served = has.served;
    stopped = has.stopped;
    ended = has.ended;
    heard = λ _. further;
    holds = has.holds;
    stuck = has.stuck;
  }

  -- it is through with its epoch
  pub done-through : (rest : List (ℕ × Request)) → HasDoneUpTo terms asked rest row start now → HasDoneUpTo terms asked rest (row_with_done row) start now
  done-through rest has = record {
    done = has.done;
    begins = has.begins;
    fresh = has.fresh;
    order = has.order;
    called = has.called;
    log = has.log;
    clock = has.clock;
    served = has.served;
    stopped = has.stopped;
    ended = has.ended;
    heard = has.heard;
    holds = has.holds;
    stuck = has.stuck;
  }

-- A worker that did nothing yet has all left to do.
pub done-nothing : (terms : Terms) (asked : List (ℕ × Request)) (start : Worker) → start.stopped ≡ false → start.clock.at.epoch ≡ first_epoch terms
    → HasDoneUpTo terms asked asked new_row start start
done-nothing terms asked start running here = record {
  done = refl;
  begins = tt;
  fresh = tt;
  order = tt;
  called = λ _. called-nothing (first_epoch terms) (final_epoch terms) asked (omega arith);
  log = sym (append-nil start.log) ∙ ap (λ (n : ℕ). start.log ++ replicate n NextEpoch) (let zero : 0 ≡ (first_epoch terms + 0) - start.clock.at.epoch = omega (arith, here) in zero);
  clock = sym (on_to-there (first_epoch terms + 0) start.clock (omega (arith, here)));
  served = refl;
  stopped = running;
  ended = λ stop is. absurd (none-some stop is);
  heard = λ is. absurd (true≢false (sym is));
  holds = refl;
  stuck = refl;
}
