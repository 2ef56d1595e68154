-- Pairs, their workers, their hands and their verifiers' runs.
use Rattle.std.proofs.Common.{◌≡◌, ℕ, suc, ◌<◌, ◌≤◌, false, Result, Ok, Err, IfOk, OnOk, List, [], ◌∷◌, ◌++◌, map, length, get_or, refl, sym, ◌∙◌, ap, subst, append-nil, append_assoc, length-append, All, arith}
use Rattle.std.proofs.Math.ListN.{get_or-map}
use Rattle.std.proofs.lemmas.List as lists
use Rattle.std.proofs.lemmas.List.{length-map, map_push, get_or_default, same_lists}
use Rattle.std.proofs.lemmas.List.Elements.{All-push, All-get_or, All-from_get_or}
use Rattle.record_hash.specs.Functions.{DigestFunctions}
use Rattle.slot_rewriting.specs.declared.writer.CommandWriter.{CommandWriter}
use Rattle.worker_log.specs.Logged.{text_of}
use Rattle.verifier_run.specs.Progress.{weight}
use Rattle.certified_epochs.specs.declared.fed_run.FedRun.{FedRun}
use Rattle.host_rounds.specs.Feeding.{Reads}
use Rattle.atomic_table.specs.Seated.{TableId}
use Rattle.host_epochs.specs.declared.hand.Hand.{Hand}
use Rattle.host_epochs.specs.declared.views.Row.{Row}
use Rattle.host_epochs.specs.Calls.{IsNew}
use Rattle.host_epochs.specs.Hands.{row_of, worker_of, IsFree}
use Rattle.host_epochs.specs.Plays.{new_row}
use Rattle.host_epochs.specs.Round.{row_at}
use Rattle.host_epochs.specs.Terms.{Terms, IsClockOf, first_epoch}
use Rattle.host_world.specs.declared.worker.Worker.{Worker}
use Rattle.host_world.specs.Workers.{shown_worker, writer_in}
use Rattle.round_workers.specs.declared.turn.Turn.{Turn}
use Rattle.round_workers.specs.Parts.{asked_in, HasDone}
use Rattle.round_workers.specs.Working.{IsThrough}
use Rattle.worker_threads.specs.declared.worker_pair.WorkerPair.{WorkerPair}
use Rattle.worker_threads.specs.Pairs.{HasFed, IsPairReady, IsOpened, parcels_in, run_in}
use Rattle.worker_threads.specs.Participants.{worker_in, hand_in, AreToServe, HaveAll, HaveServed, HaveReadLogs}

-- ---- threads that are ready

-- One worker more has its thread,
pub worker_ready : (threads after : List WorkerPair) (yielded : List Worker) (thread : WorkerPair) (worker : Worker) → map worker_in threads ≡ yielded → worker_in thread ≡ worker
    → after ≡ threads ++ thread ∷ [] → map worker_in after ≡ yielded ++ worker ∷ []
worker_ready threads after yielded thread worker so_far same pushed =
    ap (map worker_in) pushed ∙ map_push worker_in threads thread
    ∙ ap (λ (ws : List Worker). ws ++ worker_in thread ∷ []) so_far
    ∙ ap (λ (w : Worker). yielded ++ w ∷ []) same

-- and one hand or run more is there, of those that were left.
pub part_ready : {X : Type 0} (part : WorkerPair → X) (threads after : List WorkerPair) (all rest left : List X) (thread : WorkerPair) (x : X) → map part threads ++ rest ≡ all
    → rest ≡ x ∷ left → part thread ≡ x → after ≡ threads ++ thread ∷ [] → map part after ++ left ≡ all
part_ready {X} part threads after all rest left thread x so_far is same pushed =
    ap (λ (ps : List WorkerPair). map part ps ++ left) pushed
    ∙ ap (λ (xs : List X). xs ++ left) (map_push part threads thread)
    ∙ append_assoc (map part threads) (part thread ∷ []) left
    ∙ ap (λ (y : X). map part threads ++ y ∷ left) same
    ∙ ap (λ (xs : List X). map part threads ++ xs) (sym is)
    ∙ so_far

-- Once all workers are, none is left.
pub all_ready : {X : Type 0} (part : WorkerPair → X) (threads : List WorkerPair) (workers : List Worker) (all rest : List X) → map worker_in threads ≡ workers
    → length all ≡ length workers → map part threads ++ rest ≡ all → map part threads ≡ all
all_ready part threads workers all [] workers_are many so_far = sym (append-nil (map part threads)) ∙ so_far
all_ready {X} part threads workers all (x ∷ rest) workers_are many so_far =
    let there = ap (λ (ws : List Worker). length ws) (sym workers_are) ∙ length-map threads worker_in in
    let parts = sym (length-append (map part threads) (x ∷ rest)) ∙ ap (λ (xs : List X). length xs) so_far in
    absurd (omega (arith, there, many, length-map threads part, parts))

-- As long as a worker is left, so is its hand, its run and its turns.
pub some_left : {X : Type 0} (part : WorkerPair → X) (threads : List WorkerPair) (yielded workers : List Worker) (all rest : List X) → map worker_in threads ≡ yielded
    → length yielded < length workers → length all ≡ length workers → map part threads ++ rest ≡ all → length rest ≡ 0 → ⊥
some_left {X} part threads yielded workers all rest workers_are more many so_far none =
    let there = ap (λ (ws : List Worker). length ws) (sym workers_are) ∙ length-map threads worker_in in
    let parts = sym (length-append (map part threads) rest) ∙ ap (λ (xs : List X). length xs) so_far in
    omega (arith, there, more, many, none, length-map threads part, parts)

-- of runs that were fed so many bytes at most
pub few_left : (bytes : ℕ) (runs left : List FedRun) (run : FedRun) → All (λ fed. weight fed.run ≤ bytes) runs → runs ≡ run ∷ left
    → All (λ fed. weight fed.run ≤ bytes) left
few_left bytes runs left run few is = λ i d there. subst (λ (rs : List FedRun). All (λ fed. weight fed.run ≤ bytes) rs) is few (suc i) d (omega (arith, there))

pub few_first : (bytes : ℕ) (runs left : List FedRun) (run : FedRun) → All (λ fed. weight fed.run ≤ bytes) runs → runs ≡ run ∷ left → weight run.run ≤ bytes
few_first bytes runs left run few is = subst (λ (rs : List FedRun). All (λ fed. weight fed.run ≤ bytes) rs) is few 0 run (omega arith)

pub opened_all : (threads after : List WorkerPair) (thread : WorkerPair) → All IsOpened threads → IsOpened thread
    → after ≡ threads ++ thread ∷ [] → All IsOpened after
opened_all threads after thread all one pushed = subst (All IsOpened) (sym pushed) (All-push IsOpened threads thread all one)

-- ---- before they serve

-- of a list that has a member
first_of : {X : Type 0} (xs : List X) (i : ℕ) → i < length xs → X
first_of [] i there = absurd (omega (arith, there))
first_of (x ∷ xs) i there = x

module _ (terms : Terms) (table : TableId) (threads : List WorkerPair) (workers : List Worker) (hands : List Hand)
    (workers_are : map worker_in threads ≡ workers) (hands_are : map hand_in threads ≡ hands) where
  worker_at : (i : ℕ) (d : WorkerPair) → get_or workers i d.thread.worker ≡ (get_or threads i d).thread.worker
  worker_at i d = ap (λ (ws : List Worker). get_or ws i d.thread.worker) (sym workers_are) ∙ get_or-map worker_in threads i d

  hand_at : (i : ℕ) (d : WorkerPair) → get_or hands i d.thread.hand ≡ (get_or threads i d).thread.hand
  hand_at i d = ap (λ (hs : List Hand). get_or hs i d.thread.hand) (sym hands_are) ∙ get_or-map hand_in threads i d

  threads_are : (length workers ≡ length threads) × (length hands ≡ length threads)
  threads_are = (
    ap (λ (ws : List Worker). length ws) (sym workers_are) ∙ length-map threads worker_in,
    ap (λ (hs : List Hand). length hs) (sym hands_are) ∙ length-map threads hand_in,
  )

  -- the hand at a thread is that of its number
  number_at : AreToServe terms table workers hands → (i : ℕ) (d : WorkerPair) → i < length threads → worker_of (get_or threads i d).thread.hand ≡ i
  number_at ready i d there =
      ap worker_of (sym (hand_at i d)) ∙ ready.all.numbers i d.thread.hand (let counts = threads_are in omega (arith, there, counts.1))

  -- Workers that are to serve are at their threads.
  pub are_ready : AreToServe terms table workers hands → All IsOpened threads → All (IsPairReady terms table) threads
  are_ready ready opened = go threads refl
    where
      one : (d : WorkerPair) (i : ℕ) → i < length threads → IsPairReady terms table (get_or threads i d)
      one d i there =
          let counts = threads_are in
          let in_workers : i < length workers = omega (arith, there, counts.0) in
          let in_hands : i < length hands = omega (arith, there, counts.1) in
          let feed = All-get_or IsOpened threads i d there opened in
          record {
            ready = record {
              free = subst (IsFree table) (hand_at i d) (All-get_or (IsFree table) hands i d.thread.hand in_hands ready.all.free);
              new = subst IsNew (hand_at i d) (All-get_or IsNew hands i d.thread.hand in_hands ready.new);
              begun = feed.begun;
              running = subst (λ (w : Worker). w.stopped ≡ false) (worker_at i d) (All-get_or (λ w. w.stopped ≡ false) workers i d.thread.worker in_workers ready.running);
              clock = subst (λ (w : Worker). IsClockOf terms w.clock) (worker_at i d) (All-get_or (λ w. IsClockOf terms w.clock) workers i d.thread.worker in_workers ready.clocks);
              epoch = subst (λ (w : Worker). w.clock.at.epoch ≡ first_epoch terms) (worker_at i d)
                  (All-get_or (λ w. w.clock.at.epoch ≡ first_epoch terms) workers i d.thread.worker in_workers ready.epochs);
              empty = feed.empty;
              place = feed.place;
              number = let at = number_at ready i d there in let count = ready.count in omega (arith, in_workers, at, count);
            };
            ends = feed.ends;
            fresh = feed.fresh;
            room = feed.room;
          }

      go : (ps : List WorkerPair) → threads ≡ ps → All (IsPairReady terms table) threads
      go [] is = subst (All (IsPairReady terms table)) (sym is) (λ k d there. absurd (omega (arith, there)))
      go (p ∷ ps) is = All-from_get_or (IsPairReady terms table) threads p (one p)

  -- ---- behind it

  module _ (later : List WorkerPair) (new : List Worker) (left : List Hand) (turns : List (List Turn)) (new_are : new ≡ map worker_in later) (left_are : left ≡ map hand_in later)
      (none : All HaveAll later) (many : length later ≡ length threads)
      (through : (i : ℕ) (d : WorkerPair) → i < length threads → IsThrough terms table turns (get_or threads i d).thread (get_or later i d).thread) (ready : AreToServe terms table workers hands) where
    new_at : (i : ℕ) (d : WorkerPair) → get_or new i d.thread.worker ≡ (get_or later i d).thread.worker
    new_at i d = ap (λ (ws : List Worker). get_or ws i d.thread.worker) new_are ∙ get_or-map worker_in later i d

    left_at : (i : ℕ) (d : WorkerPair) → get_or left i d.thread.hand ≡ (get_or later i d).thread.hand
    left_at i d = ap (λ (hs : List Hand). get_or hs i d.thread.hand) left_are ∙ get_or-map hand_in later i d

    new_count : length new ≡ length threads
    new_count = ap (λ (ws : List Worker). length ws) new_are ∙ length-map later worker_in ∙ many

    left_count : length left ≡ length threads
    left_count = ap (λ (hs : List Hand). length hs) left_are ∙ length-map later hand_in ∙ many

    numbers : (i : ℕ) (e : Hand) → i < length left → worker_of (get_or left i e) ≡ i
    numbers i e within =
        let there : i < length threads = omega (arith, within, left_count) in
        let d = first_of threads i there in
        ap worker_of (get_or_default left i e d.thread.hand within ∙ left_at i d) ∙ (through i d there).number ∙ number_at ready i d there

    free : All (IsFree table) left
    free i e within =
        let there : i < length threads = omega (arith, within, left_count) in
        let d = first_of threads i there in
        subst (IsFree table) (sym (get_or_default left i e d.thread.hand within ∙ left_at i d)) (through i d there).free

    writers : map writer_in new ≡ map writer_in workers
    writers = same_lists (map writer_in new) (map writer_in workers) (length-map new writer_in ∙ new_count ∙ sym threads_are.0 ∙ sym (length-map workers writer_in)) one
      where
        one : (i : ℕ) (w : CommandWriter) → i < length (map writer_in new) → get_or (map writer_in new) i w ≡ get_or (map writer_in workers) i w
        one i w within =
            let counts = threads_are in
            let in_new : i < length new = omega (arith, within, length-map new writer_in) in
            let there : i < length threads = omega (arith, in_new, new_count) in
            let in_workers : i < length workers = omega (arith, there, counts.0) in
            let d = first_of threads i there in
            lists.get_or-map writer_in new i d.thread.worker w in_new
            ∙ ap writer_in (new_at i d)
            ∙ (through i d there).writer
            ∙ ap writer_in (sym (worker_at i d))
            ∙ sym (lists.get_or-map writer_in workers i d.thread.worker w in_workers)

    parts : (i : ℕ) (e : Worker) → i < length workers
        → HasDone terms (asked_in (get_or turns i [])) (row_at (map row_of left) i) (shown_worker (get_or workers i e)) (shown_worker (get_or new i e))
    parts i e within =
        let counts = threads_are in
        let there : i < length threads = omega (arith, within, counts.0) in
        let d = first_of threads i there in
        let old_is : get_or workers i e ≡ (get_or threads i d).thread.worker = get_or_default workers i e d.thread.worker within ∙ worker_at i d in
        let new_is : get_or new i e ≡ (get_or later i d).thread.worker = get_or_default new i e d.thread.worker (omega (arith, there, new_count)) ∙ new_at i d in
        let row : row_at (map row_of left) i ≡ row_of (get_or later i d).thread.hand =
        lists.get_or-map row_of left i d.thread.hand new_row (omega (arith, there, left_count)) ∙ ap row_of (left_at i d) in
        let done = (through i d there).part (All-get_or HaveAll later i d (omega (arith, there, many)) none).worker in
        subst (λ (w : Worker). HasDone terms (asked_in (get_or turns i [])) (row_at (map row_of left) i) (shown_worker w) (shown_worker (get_or new i e))) (sym old_is)
        (subst (λ (w : Worker). HasDone terms (asked_in (get_or turns i [])) (row_at (map row_of left) i) (shown_worker (get_or threads i d).thread.worker) (shown_worker w)) (sym new_is)
        (subst (λ (r : Row). HasDone terms (asked_in (get_or turns i [])) r (shown_worker (get_or threads i d).thread.worker) (shown_worker (get_or later i d).thread.worker)) (sym row)
        (subst (λ (n : ℕ). HasDone terms (asked_in (get_or turns n [])) (row_of (get_or later i d).thread.hand) (shown_worker (get_or threads i d).thread.worker)
        (shown_worker (get_or later i d).thread.worker)) (number_at ready i d there) done)))

    -- They have served.
    pub have_served : HaveServed terms table turns workers new left
    have_served =
        let counts = threads_are in
        record {
          all = record { count = left_count ∙ sym counts.1 ∙ ready.all.count; numbers = numbers; free = free };
          count = new_count ∙ sym counts.0;
          writers = writers;
          parts = parts;
        }

  -- The same where the pairs were left well.
  pub served_well : {X E : Type 0} (r : Result X E) (new_in : X → List Worker) (left_in : X → List Hand) (turns : List (List Turn)) (later : List WorkerPair)
      → IfOk r (λ x. new_in x ≡ map worker_in later) → IfOk r (λ x. left_in x ≡ map hand_in later)
      → OnOk r (All HaveAll later) → length later ≡ length threads
      → ((i : ℕ) (d : WorkerPair) → i < length threads → IsThrough terms table turns (get_or threads i d).thread (get_or later i d).thread) → AreToServe terms table workers hands
      → IfOk r (λ x. HaveServed terms table turns workers (new_in x) (left_in x))
  served_well (Ok x) new_in left_in turns later new_are left_are none many through ready =
      have_served later (new_in x) (left_in x) turns new_are left_are none many through ready
  served_well (Err fault) new_in left_in turns later new_are left_are none many through ready = tt

-- ---- what the runs took

module _ (functions : DigestFunctions) (threads later : List WorkerPair) (workers : List Worker) (old new : List FedRun) (olds_are : map run_in threads ≡ old)
    (workers_are : workers ≡ map worker_in later) (news_are : new ≡ map run_in later) (none : All HaveAll later) (many : length later ≡ length threads)
    (fed : (i : ℕ) (d : WorkerPair) → i < length threads → HasFed functions (get_or threads i d) (get_or later i d)) where
  counts : (length old ≡ length threads) × (length workers ≡ length threads) × (length new ≡ length threads)
  counts = (
    ap (λ (rs : List FedRun). length rs) (sym olds_are) ∙ length-map threads run_in,
    ap (λ (ws : List Worker). length ws) workers_are ∙ length-map later worker_in ∙ many,
    ap (λ (rs : List FedRun). length rs) news_are ∙ length-map later run_in ∙ many,
  )

  each_took : (i : ℕ) (e : Worker) (run : FedRun) → i < length workers → Reads functions (text_of (get_or workers i e).log) (get_or old i run) (get_or new i run)
  each_took i e run within =
      let there : i < length threads = omega (arith, within, counts.1) in
      let d = first_of threads i there in
      let all = All-get_or HaveAll later i d (omega (arith, there, many)) none in
      let worker : get_or workers i e ≡ (get_or later i d).thread.worker =
      get_or_default workers i e d.thread.worker within ∙ ap (λ (ws : List Worker). get_or ws i d.thread.worker) workers_are ∙ get_or-map worker_in later i d in
      let before : get_or old i run ≡ run_in (get_or threads i d) =
      get_or_default old i run (run_in d) (omega (arith, there, counts.0)) ∙ ap (λ (rs : List FedRun). get_or rs i (run_in d)) (sym olds_are) ∙ get_or-map run_in threads i d in
      let after : get_or new i run ≡ run_in (get_or later i d) =
      get_or_default new i run (run_in d) (omega (arith, there, counts.2)) ∙ ap (λ (rs : List FedRun). get_or rs i (run_in d)) news_are ∙ get_or-map run_in later i d in
      let text = text_of (get_or later i d).thread.worker.log in
      subst (λ (w : Worker). Reads functions (text_of w.log) (get_or old i run) (get_or new i run)) (sym worker)
      (subst (λ (r : FedRun). Reads functions text r (get_or new i run)) (sym before)
      (subst (λ (r : FedRun). Reads functions text (run_in (get_or threads i d)) r) (sym after)
      (fed i d there all.worker all.verifier)))

  -- Each took what is in its worker's log.
  pub have_taken : HaveReadLogs functions workers old new
  have_taken = record {
    olds = counts.0 ∙ sym counts.1;
    news = counts.2 ∙ sym counts.1;
    each = each_took;
  }

-- The same where the pairs were left well.
pub taken_well : {X E : Type 0} (functions : DigestFunctions) (threads : List WorkerPair) (old : List FedRun) (r : Result X E) (workers_in : X → List Worker) (runs_in : X → List FedRun)
    (later : List WorkerPair) → map run_in threads ≡ old → IfOk r (λ x. workers_in x ≡ map worker_in later) → IfOk r (λ x. runs_in x ≡ map run_in later)
    → OnOk r (All HaveAll later) → length later ≡ length threads
    → ((i : ℕ) (d : WorkerPair) → i < length threads → HasFed functions (get_or threads i d) (get_or later i d))
    → IfOk r (λ x. HaveReadLogs functions (workers_in x) old (runs_in x))
taken_well functions threads old (Ok x) workers_in runs_in later olds workers_are news_are none many fed =
    have_taken functions threads later (workers_in x) old (runs_in x) olds workers_are news_are none many fed
taken_well functions threads old (Err fault) workers_in runs_in later olds workers_are news_are none many fed = tt

-- ---- how many parcels were taken

-- There is a count for each verifier again.
pub counted_well : {X E : Type 0} (threads : List WorkerPair) (old : List ℕ) (r : Result X E) (parcels : X → List ℕ) (later : List WorkerPair)
    → map parcels_in threads ≡ old → IfOk r (λ x. parcels x ≡ map parcels_in later) → length later ≡ length threads
    → IfOk r (λ x. length (parcels x) ≡ length old)
counted_well threads old (Ok x) parcels later olds news many =
    ap (λ (ns : List ℕ). length ns) news ∙ length-map later parcels_in ∙ many
    ∙ sym (length-map threads parcels_in) ∙ ap (λ (ns : List ℕ). length ns) olds
counted_well threads old (Err fault) parcels later olds news many = tt
