-- The stops of a round's rows, and the stopped workers: the first of the ones is the first of the others.
use Rattle.std.proofs.Common.{◌≡◌, ◌⊎◌, inl, inr, ℕ, zero, suc, ◌+◌, ◌<◌, ◌≤◌, Bool, true, false, List, [], ◌∷◌, ◌++◌, length, get_or, Option, Some, None, is_some, if◌then◌else◌, refl, ◌∙◌, ap, arith}
use Rattle.host_core.specs.World.{Worker}
use Rattle.round_order.specs.Told.{RoundStop}
use Rattle.host_epochs.specs.declared.told.Stop.{Stop}
use Rattle.host_epochs.specs.declared.views.Row.{Row}
use Rattle.host_epochs.specs.Round.{row_at}
use Rattle.host_world.specs.declared.fault.ClockEnd.{ClockEnd}
use Rattle.host_serving.specs.Form.{AreByWorker}
use Rattle.table_order.specs.Rounds.{stop_of, stops_from}
use Rattle.worker_threads.specs.Phase.{first_stopped}

-- The stops of workers from one on are by worker, whatever lower number they are counted from.
pub by_worker_from : (i n : ℕ) (rows : List Row) → i ≤ n → AreByWorker i (stops_from n rows)
by_worker_from i n [] least = tt
by_worker_from i n (row ∷ rows) least =
    go row.stop (by_worker_from i (suc n) rows (omega (arith, least))) (by_worker_from (suc n) (suc n) rows (omega arith))
  where
    go : (stop : Option Stop) → AreByWorker i (stops_from (suc n) rows) → AreByWorker (suc n) (stops_from (suc n) rows)
        → AreByWorker i (stop_of n stop ++ stops_from (suc n) rows)
    go None rest behind = rest
    go (Some stop) rest behind = (least, behind)

-- nothing has stopped
pub record NoneFirst (n : ℕ) (rows : List Row) (workers : List Worker) : Type 0 where
  pub stops : ◌≡◌ {A = List RoundStop} (stops_from n rows) []
  pub ended : first_stopped n workers ≡ None
  pub each : (k : ℕ) → k < length workers → (row_at rows k).stop ≡ None

-- this worker's is the first stop, and it is the first stopped worker
pub record SomeFirst (d : Worker) (n : ℕ) (rows : List Row) (workers : List Worker) : Type 0 where
  pub k : ℕ
  pub there : k < length workers
  pub stop : RoundStop
  pub own : stop.worker ≡ n + k
  pub others : List RoundStop
  pub stops : stops_from n rows ≡ stop ∷ others
  pub ended : first_stopped n workers ≡ Some (record { worker = n + k; at = (get_or workers k d).clock.at })
  pub stopped : (get_or workers k d).stopped ≡ true

pub first_stop : (d : Worker) (n : ℕ) (rows : List Row) (workers : List Worker) → length rows ≡ length workers
    → ((k : ℕ) → k < length workers → (get_or workers k d).stopped ≡ is_some (row_at rows k).stop)
    → NoneFirst n rows workers ⊎ SomeFirst d n rows workers
first_stop d n [] [] many same = inl (record { stops = refl; ended = refl; each = λ k there. absurd (omega (arith, there)) })
first_stop d n [] (worker ∷ workers) many same = absurd (omega (arith, many))
first_stop d n (row ∷ rows) [] many same = absurd (omega (arith, many))
first_stop d n (row ∷ rows) (worker ∷ workers) many same =
    go row.stop refl (same 0 (omega arith)) (first_stop d (suc n) rows workers (omega (arith, many)) (λ k there. same (suc k) (omega (arith, there))))
  where
    passed : worker.stopped ≡ false → (o : Option ClockEnd) → first_stopped (suc n) workers ≡ o → first_stopped n (worker ∷ workers) ≡ o
    passed running o is =
        ap (λ (b : Bool). if b then Some (record { worker = n; at = worker.clock.at }) else first_stopped (suc n) workers) running ∙ is

    stops_are : (stop : Option Stop) → row.stop ≡ stop → stops_from n (row ∷ rows) ≡ stop_of n stop ++ stops_from (suc n) rows
    stops_are stop is = ap (λ (o : Option Stop). stop_of n o ++ stops_from (suc n) rows) is

    each : row.stop ≡ None → ((k : ℕ) → k < length workers → (row_at rows k).stop ≡ None) → (k : ℕ) → k < suc (length workers) → (row_at (row ∷ rows) k).stop ≡ None
    each own rest zero there = own
    each own rest (suc k) there = rest k (omega (arith, there))

    go : (stop : Option Stop) → row.stop ≡ stop → worker.stopped ≡ is_some row.stop → NoneFirst (suc n) rows workers ⊎ SomeFirst d (suc n) rows workers
        → NoneFirst n (row ∷ rows) (worker ∷ workers) ⊎ SomeFirst d n (row ∷ rows) (worker ∷ workers)
    go None is flag (inl none) = inl (record {
      stops = stops_are None is ∙ none.stops;
      ended = passed (flag ∙ ap (λ (o : Option Stop). is_some o) is) None none.ended;
      each = each is none.each;
    })
    go None is flag (inr some) =
        let number : suc n + some.k ≡ n + suc some.k = omega arith in
        inr (record {
          k = suc some.k;
          there = omega (arith, some.there);
          stop = some.stop;
          own = some.own ∙ number;
          others = some.others;
          stops = stops_are None is ∙ some.stops;
          ended = passed (flag ∙ ap (λ (o : Option Stop). is_some o) is) _ some.ended
              ∙ ap (λ (m : ℕ). Some (record { worker = m; at = (get_or workers some.k d).clock.at })) number;
          stopped = some.stopped;
        })
    go (Some stop) is flag rest =
        let number : n ≡ n + 0 = omega arith in
        let stopped : worker.stopped ≡ true = flag ∙ ap (λ (o : Option Stop). is_some o) is in
        inr (record {
          k = 0;
          there = omega arith;
          stop = _;
          own = number;
          others = stops_from (suc n) rows;
          stops = stops_are (Some stop) is;
          ended =
              ap (λ (b : Bool). if b then Some (record { worker = n; at = worker.clock.at }) else first_stopped (suc n) workers) stopped
              ∙ ap (λ (m : ℕ). Some (record { worker = m; at = worker.clock.at })) number;
          stopped = stopped;
        })
