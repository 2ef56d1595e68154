-- A worker in its thread, over calls that change its hand or its log alone, and one that entered an epoch.
use Rattle.std.proofs.Common.{◌≡◌, ◌↔◌, ℕ, zero, suc, ◌+◌, ◌<◌, ◌≤◌, Bool, true, false, true≢false, List, [], ◌∷◌, ◌++◌, drop, map, length, get_or, None, Result, Ok, Err, IfOk, OnOk, refl, sym, ◌∙◌, ap, subst, arith}
use Rattle.std.proofs.lemmas.List.{get_or-map}
use Rattle.lamport_clocks.specs.Clock.{last_epoch}
use Rattle.lamport_clocks.specs.Reading.{Reading}
use Rattle.record_text.specs.declared.request.Request.{Request}
use Rattle.log_codec.specs.declared.command.Command.TheVariants.{NextEpoch}
use Rattle.atomic_table.specs.Seated.{TableId}
use Rattle.host_core.specs.World as machine
use Rattle.host_core.specs.WorldEvent.{logging, next_clock}
use Rattle.round_order.specs.Turn.{served_more}
use Rattle.host_epochs.specs.declared.hand.Hand.{Hand}
use Rattle.host_epochs.specs.declared.told.Entry.{Entry}
use Rattle.host_epochs.specs.declared.told.Stop.{Stop}
use Rattle.host_epochs.specs.declared.views.Row.{Row}
use Rattle.host_epochs.specs.Hands.{worker_of, row_of, entries, entered, stop, warned}
use Rattle.host_epochs.specs.Plays.{new_row, row_with_done, row_with_entry, row_with_epoch, row_with_stop, row_with_warning}
use Rattle.host_epochs.specs.Terms.{Terms, IsClockOf, first_epoch}
use Rattle.host_epochs.specs.Told.{IsAsked, IsClockBehind}
use Rattle.host_epochs.proofs.ClockLaws.{behind_entered, behind_more}
use Rattle.host_epochs.proofs.WorkLaws.{later_epoch}
use Rattle.host_world.specs.Workers.{shown_worker}
use Rattle.table_order.specs.Rounds.{turn_of, turns_of}
use Rattle.round_workers.specs.declared.turn.Turn.{Turn}
use Rattle.round_workers.specs.declared.worker_thread.WorkerThread.{WorkerThread}
use Rattle.round_workers.specs.Order.{CallsFor, IsFresh, NoneMay}
use Rattle.round_workers.specs.Parts.{request_at, HasDoneUpTo, IsNext, IsNextOf, IsWhole}
use Rattle.round_workers.specs.Working.{HasCome, HasEnded, IsOn, IsReady, IsRunning, Keeps, KeepsUpTo}
use Rattle.round_workers.proofs.DoneLemmas.{done-epoch, done-nothing, done-stop, done-through, done-warned, done-work}
use Rattle.round_workers.proofs.OrderLemmas.{calls-less, IsInOrderBehind}
use Rattle.round_workers.proofs.WorkLemmas.{entered_within}

-- ---- what stays

pub running-as : (terms : Terms) (old new : WorkerThread) → worker_of new.hand ≡ worker_of old.hand → row_of new.hand ≡ row_of old.hand → new.entered ≡ old.entered
    → new.worker.clock ≡ old.worker.clock → IsRunning terms old → IsRunning terms new
running-as terms old new worker row counted clock is = record {
  known = subst (λ (n : ℕ). n < terms.workers) (sym worker) is.known;
  counted = counted ∙ is.counted ∙ ap (λ (r : Row). r.entered) (sym row);
  behind = subst (λ (at : Row × Reading). IsClockBehind terms at.0.list at.0.entered at.1) (λ i. (sym row i, sym clock i)) is.behind;
  going = ap (λ (r : Row). r.stop) row ∙ is.going;
}

pub come-as : (terms : Terms) (asked rest : List (ℕ × Request)) (start : machine.Worker) (old new : WorkerThread) → row_of new.hand ≡ row_of old.hand
    → shown_worker new.worker ≡ shown_worker old.worker → HasCome terms asked rest start old → HasCome terms asked rest start new
come-as terms asked rest start old new row worker come =
    subst (λ (at : Row × machine.Worker). HasDoneUpTo terms asked rest at.0 start at.1) (λ i. (sym row i, sym worker i)) come

pub keeps-as : (terms : Terms) (old new : WorkerThread) → row_of new.hand ≡ row_of old.hand → shown_worker new.worker ≡ shown_worker old.worker → Keeps terms old new
keeps-as terms old new row worker asked rest start come = come-as terms asked rest start old new row worker come

pub keeps-then : (terms : Terms) (one two three : WorkerThread) → Keeps terms one two → Keeps terms two three → Keeps terms one three
keeps-then terms one two three first second asked rest start come = second asked rest start (first asked rest start come)

-- where an epoch is called for, those before it are
pub calls-up : (terms : Terms) (rest : List (ℕ × Request)) (epochs less : ℕ) → less ≤ epochs → (terms.workers ≡ 1 → CallsFor rest epochs) → terms.workers ≡ 1 → CallsFor rest less
calls-up terms rest epochs less below calls alone = calls-less (first_epoch terms) terms.more rest epochs less below (calls alone)

pub keeps-up-to : (epochs : ℕ) (terms : Terms) (old new : WorkerThread) → Keeps terms old new → KeepsUpTo epochs terms old new
keeps-up-to epochs terms old new keeps asked rest start calls come = keeps asked rest start come

-- one after another, up to the later one of the epochs
pub keeps-up-then : (epochs one-to two-to : ℕ) (terms : Terms) (one two three : WorkerThread) → one-to ≤ epochs → two-to ≤ epochs → KeepsUpTo one-to terms one two
    → KeepsUpTo two-to terms two three → KeepsUpTo epochs terms one three
keeps-up-then epochs one-to two-to terms one two three first-up second-up first second asked rest start calls come =
    second asked rest start (calls-up terms rest epochs two-to second-up calls) (first asked rest start (calls-up terms rest epochs one-to first-up calls) come)

-- a worker that waits enters the next epoch, or none
pub waited-then : (terms : Terms) (old now looked new : WorkerThread) → entered looked.hand ≡ entered old.hand → KeepsUpTo (suc (entered old.hand)) terms old now
    → Keeps terms now looked → KeepsUpTo (suc (entered looked.hand)) terms looked new → KeepsUpTo (suc (entered old.hand)) terms old new
waited-then terms old now looked new here first same second asked rest start calls come =
    second asked rest start (calls-up terms rest (suc (entered old.hand)) (suc (entered looked.hand)) (omega (arith, here)) calls) (same asked rest start (first asked rest start calls come))

-- where there are other workers, nothing needs to be called for
pub keeps-beside : (epochs : ℕ) (terms : Terms) (old new : WorkerThread) → (terms.workers ≡ 1 → ⊥) → KeepsUpTo epochs terms old new → Keeps terms old new
keeps-beside epochs terms old new beside keeps asked rest start come = keeps asked rest start (λ alone. absurd (beside alone)) come

-- ---- what is done

-- a place is scanned, or a request served
pub worked-running : (terms : Terms) (old new : WorkerThread) (entry : Entry) → worker_of new.hand ≡ worker_of old.hand → row_of new.hand ≡ row_with_entry (row_of old.hand) entry
    → new.entered ≡ old.entered → entry.clock ≡ old.worker.clock → new.worker.clock ≡ entry.later → IsAsked terms entry → IsRunning terms old → IsRunning terms new
worked-running terms old new entry worker row counted from clock asked is = record {
  known = subst (λ (n : ℕ). n < terms.workers) (sym worker) is.known;
  counted = counted ∙ is.counted ∙ ap (λ (r : Row). r.entered) (sym row);
  behind = subst (λ (at : Row × Reading). IsClockBehind terms at.0.list at.0.entered at.1) (λ i. (sym row i, sym clock i))
      (behind_more terms (entries old.hand) (entered old.hand) entry asked (subst (IsClockBehind terms (entries old.hand) (entered old.hand)) (sym from) is.behind));
  going = ap (λ (r : Row). r.stop) row ∙ is.going;
}

pub worked-come : (terms : Terms) (asked before rest : List (ℕ × Request)) (start : machine.Worker) (old new : WorkerThread) (entry : Entry)
    → row_of new.hand ≡ row_with_entry (row_of old.hand) entry → entry.clock ≡ old.worker.clock → IsAsked terms entry
    → IsNext (first_epoch terms) before entry entry.request rest → IsFresh terms.workers (turn_of entry) entry.request
    → IsInOrderBehind (first_epoch terms) NoneMay (turns_of (entries old.hand)) (turn_of entry) entry.request → (shown_worker new.worker).log ≡ (shown_worker old.worker).log ++ entry.plan.commands
    → new.worker.clock ≡ entry.later → new.worker.served ≡ served_more old.worker.served entry.request → new.worker.stopped ≡ old.worker.stopped
    → (shown_worker new.worker).holds ≡ (shown_worker old.worker).holds → new.worker.stuck ≡ old.worker.stuck → IsRunning terms old
    → HasCome terms asked before start old → HasCome terms asked rest start new
worked-come terms asked before rest start old new entry row from work next fresh order log clock served stopped holds stuck is come =
    subst (λ (r : Row). HasDoneUpTo terms asked rest r start (shown_worker new.worker)) (sym row)
    (done-work terms asked (row_of old.hand) start (shown_worker old.worker) before rest entry (shown_worker new.worker)
    is.behind.epoch (entered_within terms old.worker.clock (entered old.hand) is.behind.is is.behind.epoch) is.going from (later_epoch terms entry work) next fresh order log clock served stopped holds stuck come)

-- an epoch is entered
pub entered-running : (terms : Terms) (old new : WorkerThread) → worker_of new.hand ≡ worker_of old.hand → row_of new.hand ≡ row_with_epoch (row_of old.hand)
    → new.entered ≡ old.entered + 1 → new.worker.clock ≡ next_clock old.worker.clock → suc (entered old.hand) ≤ terms.more → IsRunning terms old → IsRunning terms new
entered-running terms old new worker row counted clock more is = record {
  known = subst (λ (n : ℕ). n < terms.workers) (sym worker) is.known;
  counted = let one : old.entered + 1 ≡ suc (entered old.hand) = (let c = is.counted in omega (arith, c)) in counted ∙ one ∙ ap (λ (r : Row). r.entered) (sym row);
  behind = subst (λ (at : Row × Reading). IsClockBehind terms at.0.list at.0.entered at.1) (λ i. (sym row i, sym clock i))
      (behind_entered terms (entries old.hand) (entered old.hand) old.worker.clock more is.behind);
  going = ap (λ (r : Row). r.stop) row ∙ is.going;
}

pub entered-keeps : (terms : Terms) (old new : WorkerThread) → row_of new.hand ≡ row_with_epoch (row_of old.hand)
    → shown_worker new.worker ≡ logging (shown_worker old.worker) (NextEpoch ∷ []) (next_clock old.worker.clock) → suc (entered old.hand) ≤ terms.more → IsRunning terms old
    → KeepsUpTo (suc (entered old.hand)) terms old new
entered-keeps terms old new row worker within is asked rest start calls come =
    subst (λ (at : Row × machine.Worker). HasDoneUpTo terms asked rest at.0 start at.1) (λ i. (sym row i, sym worker i))
    (done-epoch terms asked (row_of old.hand) start (shown_worker old.worker) rest is.behind.epoch within calls is.going come)

-- it stops
pub stopped-come : (terms : Terms) (asked rest : List (ℕ × Request)) (start : machine.Worker) (old new : WorkerThread) (stop : Stop)
    → row_of new.hand ≡ row_with_stop stop (row_of old.hand) → shown_worker new.worker ≡ record (shown_worker old.worker) { stopped = true }
    → stop.clock ≡ old.worker.clock → IsNextOf terms.more rest (request_at stop.met) → HasCome terms asked rest start old → HasCome terms asked rest start new
stopped-come terms asked rest start old new stop row worker clock next come =
    subst (λ (at : Row × machine.Worker). HasDoneUpTo terms asked rest at.0 start at.1) (λ i. (sym row i, sym worker i))
    (done-stop terms asked (row_of old.hand) start (shown_worker old.worker) rest stop clock next come)

-- it reads that another worker stopped
pub warned-come : (terms : Terms) (asked rest : List (ℕ × Request)) (start : machine.Worker) (old new : WorkerThread)
    → row_of new.hand ≡ row_with_warning (row_of old.hand) → shown_worker new.worker ≡ shown_worker old.worker → 0 < terms.more
    → HasCome terms asked rest start old → HasCome terms asked rest start new
warned-come terms asked rest start old new row worker further come =
    subst (λ (at : Row × machine.Worker). HasDoneUpTo terms asked rest at.0 start at.1) (λ i. (sym row i, sym worker i))
    (done-warned terms asked (row_of old.hand) start (shown_worker old.worker) rest further come)

pub through-keeps : (terms : Terms) (old new : WorkerThread) → row_of new.hand ≡ row_with_done (row_of old.hand) → shown_worker new.worker ≡ shown_worker old.worker → Keeps terms old new
through-keeps terms old new row worker asked rest start come =
    subst (λ (at : Row × machine.Worker). HasDoneUpTo terms asked rest at.0 start at.1) (λ i. (sym row i, sym worker i))
    (done-through terms asked (row_of old.hand) start (shown_worker old.worker) rest come)

-- ---- answers

-- a worker that goes to the next epoch, if there is one, goes there where there is one
pub advanced-true : (advanced : Bool) (epoch : ℕ) → (advanced ≡ false) ↔ (epoch ≡ last_epoch) → epoch < last_epoch → advanced ≡ true
advanced-true true epoch last less = refl
advanced-true false epoch last less = absurd (let at = last.0 refl in omega (arith, at, less))

pub ok_then : {X E P Q : Type 0} (answer : Result X E) → (P → Q) → OnOk answer P → OnOk answer Q
ok_then (Ok x) then holds = then holds
ok_then (Err e) then holds = tt

pub if_ok : {X E P : Type 0} (R : X → Type 0) (answer : Result X E) → (P → (x : X) → R x) → OnOk answer P → IfOk answer R
if_ok R (Ok x) then holds = then holds x
if_ok R (Err e) then holds = tt

-- ---- the whole part

-- Before its part a worker is in the epoch of the making, and is through with that.
pub ready-on : (terms : Terms) (table : TableId) (old new : WorkerThread) → IsReady terms table old → new.hand ≡ old.hand → new.entered ≡ old.entered
    → new.worker.clock ≡ old.worker.clock → IsOn terms new
ready-on terms table old new ready hand counted clock =
    let row : row_of new.hand ≡ new_row = ap row_of hand ∙ ready.new.row in
    let epoch : new.worker.clock.at.epoch ≡ first_epoch terms = ap (λ (r : Reading). r.at.epoch) clock ∙ ready.epoch in
    record {
      going = record {
        known = subst (λ (h : Hand). worker_of h < terms.workers) (sym hand) ready.number;
        counted = counted ∙ ready.begun ∙ ap (λ (r : Row). r.entered) (sym row);
        behind = subst (λ (r : Row). IsClockBehind terms r.list r.entered new.worker.clock) (sym row) record {
          is = subst (IsClockOf terms) (sym clock) ready.clock;
          epoch = let none' : first_epoch terms ≡ first_epoch terms + 0 = omega arith in epoch ∙ none';
          chained = λ later. absurd (omega (arith, later, epoch));
        };
        going = ap (λ (r : Row). r.stop) row;
      };
      settled = ap (λ (r : Row). r.done) row ∙ ap (λ (r : Row). r.entered) (sym row);
    }

-- It has all left to do.
pub ready-come : (terms : Terms) (table : TableId) (asked : List (ℕ × Request)) (old new : WorkerThread) → IsReady terms table old → new.hand ≡ old.hand
    → shown_worker new.worker ≡ shown_worker old.worker → HasCome terms asked asked (shown_worker new.worker) new
ready-come terms table asked old new ready hand worker =
    let stopped : (shown_worker new.worker).stopped ≡ false = ap (λ (w : machine.Worker). w.stopped) worker ∙ ready.running in
    let epoch : (shown_worker new.worker).clock.at.epoch ≡ first_epoch terms = ap (λ (w : machine.Worker). w.clock.at.epoch) worker ∙ ready.epoch in
    subst (λ (r : Row). HasDoneUpTo terms asked asked r (shown_worker new.worker) (shown_worker new.worker)) (sym (ap row_of hand ∙ ready.new.row))
    (done-nothing terms asked (shown_worker new.worker) stopped epoch)

-- Once it came to the last epoch with nothing left, it did all.
pub whole-part : (terms : Terms) (on : Bool) (rest : List (ℕ × Request)) (thread : WorkerThread) → rest ≡ [] → (on ≡ true → IsOn terms thread)
    → (on ≡ true → terms.more ≤ entered thread.hand) → (on ≡ false → HasEnded thread.hand) → stop thread.hand ≡ None → warned thread.hand ≡ false
    → IsWhole terms.more rest (row_of thread.hand)
whole-part terms true rest thread none' is reached ended stopped unwarned =
    let settled = is refl in
    let behind = settled.going.behind in
    let to = behind.is.to in
    let here = behind.epoch in
    let last = reached refl in
    let all : entered thread.hand ≡ terms.more = omega (arith, to, here, last) in
    record { served = none'; entered = all; done = settled.settled ∙ all }
whole-part terms false rest thread none' is reached ended stopped unwarned = absurd (true≢false (sym (ended refl stopped) ∙ unwarned))

-- ---- turns, one after another

pub drop-turn : (turns : List Turn) (k : ℕ) (turn : Turn) → k < length turns → turn ≡ get_or turns k turn → drop k turns ≡ turn ∷ drop (k + 1) turns
drop-turn [] k turn there is = absurd (omega (arith, there))
drop-turn (first ∷ turns) zero turn there is = ap (λ (t : Turn). t ∷ turns) (sym is)
drop-turn (first ∷ turns) (suc k) turn there is =
    let next : suc k + 1 ≡ suc (k + 1) = omega arith in
    drop-turn turns k turn (omega (arith, there)) is ∙ ap (λ (n : ℕ). turn ∷ drop n (first ∷ turns)) (sym next)

pub drop-all : (turns : List Turn) (k : ℕ) → k ≡ length turns → drop k turns ≡ []
drop-all [] zero all = refl
drop-all [] (suc k) all = refl
drop-all (first ∷ turns) zero all = absurd (omega (arith, all))
drop-all (first ∷ turns) (suc k) all = drop-all turns k (omega (arith, all))

-- those of one worker, of lists as they stand in the code
pub own-turns : {V : Type 0} (items : V → List Turn) (turns : List V) (own : V) (n number : ℕ) → n ≡ number → number < length turns
    → items (get_or turns n own) ≡ get_or (map items turns) number []
own-turns items turns own n number same within =
    ap (λ (k : ℕ). items (get_or turns k own)) same ∙ sym (get_or-map items turns number own [] within)
