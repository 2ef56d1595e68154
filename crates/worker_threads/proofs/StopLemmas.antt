-- The stops of a table's rows, and the stopped workers: the first of the ones is the first of the others.
use Rattle.std.proofs.Common.{◌≡◌, ◌⊎◌, inl, inr, ℕ, zero, suc, ◌+◌, ◌<◌, ◌≤◌, ◌||◌, Bool, false, List, [], ◌∷◌, ◌++◌, length, get_or, Option, Some, None, is_some, if◌then◌else◌, refl, ◌∙◌, ap, arith}
use Rattle.std.proofs.lemmas.Bool.{eq-eqb, ne_eqb}
use Rattle.lamport_clocks.specs.Reading.{Reading}
use Rattle.log_codec.specs.declared.command.Command.{Command}
use Rattle.record_text.specs.declared.request.Request.{Request}
use Rattle.host_core.specs.World.{Worker}
use Rattle.host_order.specs.Serving.{clock_behind, commands_in}
use Rattle.host_order.specs.Told as order
use Rattle.host_order.specs.Told.{stops_by}
use Rattle.host_table.specs.declared.told.Service.{Service}
use Rattle.host_table.specs.declared.told.Stop.{Stop}
use Rattle.host_table.specs.declared.views.Row.{Row}
use Rattle.host_table.specs.Phase.{row_at}
use Rattle.host_world.specs.declared.fault.ClockEnd.{ClockEnd}
use Rattle.table_order.specs.Servings.{servings_of, stop_of, stops_from}
use Rattle.host_serving.specs.Form.{AreRising}
use Rattle.worker_threads.specs.Parts.{commands_of, last_clock}
use Rattle.worker_threads.specs.Phase.{first_stopped}

-- ---- what services come to

pub commands_told : (services : List Service) → commands_in (servings_of services) ≡ commands_of services
commands_told [] = refl
commands_told (service ∷ services) = ap (λ (rest : List Command). service.plan.commands ++ rest) (commands_told services)

pub clock_told : (clock : Reading) (services : List Service) → clock_behind clock (servings_of services) ≡ last_clock clock services
clock_told clock [] = refl
clock_told clock (service ∷ services) = clock_told service.later services

-- ---- who is stopped

-- no stop of later workers is of one before
none_before : (i n : ℕ) (rows : List Row) → i < n → stops_by i (stops_from n rows) ≡ false
none_before i n [] before = refl
none_before i n (row ∷ rows) before = go row.stop (none_before i (suc n) rows (omega (arith, before)))
  where
    go : (stop : Option Stop) → stops_by i (stops_from (suc n) rows) ≡ false → stops_by i (stop_of n stop ++ stops_from (suc n) rows) ≡ false
    go None rest = rest
    go (Some stop) rest = ap (λ (b : Bool). b || stops_by i (stops_from (suc n) rows)) (ne_eqb n i (λ same. absurd (omega (arith, before, same)))) ∙ rest

-- A worker has a stop where its row has one.
pub stopped_by_row : (n k i : ℕ) (rows : List Row) → i ≡ n + k → k < length rows → stops_by i (stops_from n rows) ≡ is_some (row_at rows k).stop
stopped_by_row n k i [] is there = absurd (omega (arith, there))
stopped_by_row n zero i (row ∷ rows) is there = go row.stop
  where
    go : (stop : Option Stop) → stops_by i (stop_of n stop ++ stops_from (suc n) rows) ≡ is_some stop
    go None = none_before i (suc n) rows (omega (arith, is))
    go (Some stop) = ap (λ (b : Bool). b || stops_by i (stops_from (suc n) rows)) (eq-eqb n i (omega (arith, is)))
stopped_by_row n (suc k) i (row ∷ rows) is there = go row.stop (stopped_by_row (suc n) k i rows (omega (arith, is)) (omega (arith, there)))
  where
    go : (stop : Option Stop) → stops_by i (stops_from (suc n) rows) ≡ is_some (row_at rows k).stop
        → stops_by i (stop_of n stop ++ stops_from (suc n) rows) ≡ is_some (row_at rows k).stop
    go None rest = rest
    go (Some stop) rest = ap (λ (b : Bool). b || stops_by i (stops_from (suc n) rows)) (ne_eqb n i (λ same. absurd (omega (arith, is, same)))) ∙ rest

-- ---- in which order

-- The stops of workers from one on are in rising order, whatever lower number they are counted from.
pub rising_from : (i n : ℕ) (rows : List Row) → i ≤ n → AreRising i (stops_from n rows)
rising_from i n [] least = tt
rising_from i n (row ∷ rows) least = go row.stop (rising_from i (suc n) rows (omega (arith, least))) (rising_from (suc n) (suc n) rows (omega arith))
  where
    go : (stop : Option Stop) → AreRising i (stops_from (suc n) rows) → AreRising (suc n) (stops_from (suc n) rows) → AreRising i (stop_of n stop ++ stops_from (suc n) rows)
    go None rest behind = rest
    go (Some stop) rest behind = (least, behind)

-- ---- the first

-- nothing has stopped
pub record NoneFirst (n : ℕ) (rows : List Row) (workers : List Worker) : Type 0 where
  pub stops : ◌≡◌ {A = List (order.Stop Request)} (stops_from n rows) []
  pub ended : first_stopped n workers ≡ None

-- this worker's is the first stop, and it is the first stopped worker
pub record SomeFirst (d : Worker) (n : ℕ) (rows : List Row) (workers : List Worker) : Type 0 where
  pub k : ℕ
  pub there : k < length workers
  pub stop : order.Stop Request
  pub own : stop.worker ≡ n + k
  pub others : List (order.Stop Request)
  pub stops : stops_from n rows ≡ stop ∷ others
  pub ended : first_stopped n workers ≡ Some (record { worker = n + k; at = (get_or workers k d).clock.at })

pub first_stop : (d : Worker) (n : ℕ) (rows : List Row) (workers : List Worker) → length rows ≡ length workers
    → ((k : ℕ) → k < length workers → (get_or workers k d).stopped ≡ is_some (row_at rows k).stop)
    → NoneFirst n rows workers ⊎ SomeFirst d n rows workers
first_stop d n [] [] many same = inl (record { stops = refl; ended = refl })
first_stop d n [] (worker ∷ workers) many same = absurd (omega (arith, many))
first_stop d n (row ∷ rows) [] many same = absurd (omega (arith, many))
first_stop d n (row ∷ rows) (worker ∷ workers) many same =
    go row.stop (same 0 (omega arith)) (first_stop d (suc n) rows workers (omega (arith, many)) (λ k there. same (suc k) (omega (arith, there))))
  where
    Result : Option Stop → Type 0
    Result stop = NoneFirst n (record { list = row.list; stop = stop } ∷ rows) (worker ∷ workers)
        ⊎ SomeFirst d n (record { list = row.list; stop = stop } ∷ rows) (worker ∷ workers)

    passed : worker.stopped ≡ false → (o : Option ClockEnd) → first_stopped (suc n) workers ≡ o → first_stopped n (worker ∷ workers) ≡ o
    passed running o is =
        ap (λ (b : Bool). if b then Some (record { worker = n; at = worker.clock.at }) else first_stopped (suc n) workers) running ∙ is

    go : (stop : Option Stop) → worker.stopped ≡ is_some stop → NoneFirst (suc n) rows workers ⊎ SomeFirst d (suc n) rows workers → Result stop
    go None running (inl none) = inl (record { stops = none.stops; ended = passed running None none.ended })
    go None running (inr some) =
        let number : suc n + some.k ≡ n + suc some.k = omega arith in
        inr (record {
          k = suc some.k;
          there = omega (arith, some.there);
          stop = some.stop;
          own = some.own ∙ number;
          others = some.others;
          stops = some.stops;
          ended = passed running _ some.ended ∙ ap (λ (m : ℕ). Some (record { worker = m; at = (get_or workers some.k d).clock.at })) number;
        })
    go (Some stop) stopped rest =
        let number : n ≡ n + 0 = omega arith in
        inr (record {
          k = 0;
          there = omega arith;
          stop = _;
          own = number;
          others = stops_from (suc n) rows;
          stops = refl;
          ended =
              ap (λ (b : Bool). if b then Some (record { worker = n; at = worker.clock.at }) else first_stopped (suc n) workers) stopped
              ∙ ap (λ (m : ℕ). Some (record { worker = m; at = worker.clock.at })) number;
        })
