-- The workers of a round at its start, and their hands at its end.
use Rattle.std.proofs.Common.{◌≡◌, ℕ, zero, suc, ◌+◌, ◌<◌, ◌≤◌, List, [], ◌∷◌, length, get_or, map, All, refl, sym, ap, ◌∙◌, subst, arith}
use Rattle.lamport_clocks.specs.Clock.{opening_reading}
use Rattle.lamport_clocks.specs.Reading.{Reading}
use Rattle.atomic_table.specs.Seated.{TableId}
use Rattle.host_epochs.specs.declared.hand.Hand.{Hand}
use Rattle.host_epochs.specs.declared.views.Row.{Row}
use Rattle.host_epochs.specs.Calls.{AreAll, IsNew}
use Rattle.host_epochs.specs.Hands.{worker_of, done, entered, IsFree}
use Rattle.host_epochs.specs.Terms.{Terms, first_epoch}
use Rattle.host_epochs.specs.Told.{IsClockBehind}
use Rattle.table_tests.specs.declared.round_workers.RoundWorker.{RoundWorker}
use Rattle.table_tests.specs.Rounds.{AreAtStart, AreRoundWorkers, IsGoing, IsNewWorker, IsReadyWorker, hand_in}

hand_at : (workers : List RoundWorker) (i : ℕ) (d : RoundWorker) → get_or (map hand_in workers) i (hand_in d) ≡ hand_in (get_or workers i d)
hand_at [] i d = refl
hand_at (worker ∷ workers) zero d = refl
hand_at (worker ∷ workers) (suc i) d = hand_at workers i d

found : (workers : List RoundWorker) (i : ℕ) (d : Hand) → i < length workers → (e : RoundWorker) × (get_or (map hand_in workers) i d ≡ hand_in (get_or workers i e))
found [] i d below = absurd (omega arith)
found (worker ∷ workers) zero d below = (worker, refl)
found (worker ∷ workers) (suc i) d below = let f = found workers i d (omega arith) in (f.0, f.1)

as_many : (workers : List RoundWorker) → length (map hand_in workers) ≡ length workers
as_many [] = refl
as_many (worker ∷ workers) = ap suc (as_many workers)

module _ (terms : Terms) (table : TableId) (workers : List RoundWorker) where
  -- a worker before its first epoch
  ready_one : (end : ℕ) (worker : RoundWorker) → IsFree table worker.hand → IsNew worker.hand → worker_of worker.hand < terms.workers → IsNewWorker (opening_reading 1 end) worker
      → terms.header.first ≡ 1 → terms.header.end ≡ end → first_epoch terms ≡ 1 → IsReadyWorker terms table worker
  ready_one end worker free new known start first ends epoch =
      let none : entered worker.hand ≡ 0 = ap (λ (row : Row). row.entered) new.row in
      let behind : IsClockBehind terms [] 0 (opening_reading 1 end) = record {
        is = record { first = sym first; end = sym ends; from = omega (arith, epoch); to = omega (arith, epoch) };
        epoch = omega (arith, epoch);
        chained = λ _. refl;
      } in
      record {
        is = record {
          free = free;
          of = record {
            counted = start.counted ∙ sym none;
            known = known;
            started = omega (arith, first, epoch);
            going = λ _. record {
              going = ap (λ (row : Row). row.stop) new.row;
              behind = subst (λ (t : Row × Reading). IsClockBehind terms t.0.list t.0.entered t.1) (λ i. (sym new.row i, sym start.at i)) behind;
            };
          };
        };
        going = start.going;
        through = ap (λ (row : Row). row.done) new.row ∙ sym none;
      }

  -- hands that were dealt just now
  pub workers_from : (end : ℕ) (hands : List Hand) → map hand_in workers ≡ hands → AreAll table terms.workers hands → All IsNew hands → All (IsNewWorker (opening_reading 1 end)) workers
      → terms.header.first ≡ 1 → terms.header.end ≡ end → first_epoch terms ≡ 1 → AreAtStart terms table workers
  workers_from end hands same all new start first ends epoch =
      let count : length hands ≡ length workers = ap (λ (hs : List Hand). length hs) (sym same) ∙ as_many workers in
      let at : (i : ℕ) (d : RoundWorker) → get_or hands i (hand_in d) ≡ hand_in (get_or workers i d) = λ i d. ap (λ (hs : List Hand). get_or hs i (hand_in d)) (sym same) ∙ hand_at workers i d in
      let numbers : (i : ℕ) (d : RoundWorker) → i < length workers → worker_of (get_or workers i d).hand ≡ i = λ i d below.
      ap worker_of (sym (at i d)) ∙ all.numbers i (hand_in d) (omega (arith, below, count)) in
      let many = all.count in
      record {
        each = λ i d below.
            let inside : i < length hands = omega (arith, below, count) in
            let number = numbers i d below in
            ready_one end (get_or workers i d) (subst (IsFree table) (at i d) (all.free i (hand_in d) inside)) (subst IsNew (at i d) (new i (hand_in d) inside))
            (omega (arith, number, inside, many)) (start i d below) first ends epoch;
        numbers = numbers;
        count = sym count ∙ many;
      }

  -- all hands again
  pub hands_from : (hands : List Hand) → hands ≡ map hand_in workers → AreRoundWorkers terms table workers → length workers ≡ terms.workers → AreAll table terms.workers hands
  hands_from hands same is count =
      let many : length hands ≡ length workers = ap (λ (hs : List Hand). length hs) same ∙ as_many workers in
      record {
        count = many ∙ count;
        numbers = λ i d below.
            let inside : i < length workers = omega (arith, below, many) in
            let f = found workers i d inside in
            ap worker_of (ap (λ (hs : List Hand). get_or hs i d) same ∙ f.1) ∙ is.numbers i f.0 inside;
        free = λ i d below.
            let inside : i < length workers = omega (arith, below, many) in
            let f = found workers i d inside in
            subst (IsFree table) (sym (ap (λ (hs : List Hand). get_or hs i d) same ∙ f.1)) (is.each i f.0 inside).free;
      }
