-- The turns of a worker: its list is a chain from its clock, and its stop stands behind it.
use Rattle.std.proofs.Common.{◌≡◌, ◌≢◌, ℕ, suc, ◌+◌, ◌^◌, ◌<◌, List, [], ◌∷◌, ◌++◌, length, slice_get, Option, Some, None, refl, sym, subst, arith}
use Rattle.std.specs.List.{AllByRecursion}
use Rattle.std.specs.Option.{ForSome}
use Rattle.tree_keys.specs.Path.{key_bits}
use Rattle.stamp_order.proofs.InOrderLaws.{every-append}
use Rattle.lamport_clocks.specs.Reading.{Reading}
use Rattle.record_hash.specs.Functions.{DigestFunctions}
use Rattle.record_text.specs.declared.request.Request.{Request}
use Rattle.record_text.specs.Value.{IsBlob}
use Rattle.record_text.specs.Longest.{longest_of}
use Rattle.record_text.specs.Tree.{wide_of}
use Rattle.script_text.specs.declared.task.Task.{Task}
use Rattle.host_core.specs.Host.{Host, asked}
use Rattle.host_shard.specs.Content.{Content}
use Rattle.host_order.specs.Serving.{IsWorkerChain, clock_behind}
use Rattle.host_order.specs.Told as order
use Rattle.host_table.specs.declared.told.Service.{Service}
use Rattle.host_table.specs.declared.told.Stop.{Stop}
use Rattle.host_table.specs.declared.views.Row.{Row}
use Rattle.host_table.specs.Phase.{row_at}
use Rattle.host_table.specs.Told.{Continues, TakesUp}
use Rattle.shipped_host.specs.declared.settings.Settings.{Settings}
use Rattle.shipped_host.specs.Ranges.{AreInRange, HaveShortValues}
use Rattle.shipped_host.specs.ShippedHost.{shipped_host}
use Rattle.shipped_host.proofs.RangeLaws.{in_phases}
use Rattle.table_order.specs.Servings.{servings_of, stop_of, stops_from}
use Rattle.table_order.specs.Phases.{first_clock, AreNext}
use Rattle.table_order.proofs.ListLemmas.{all-got}
use Rattle.table_order.proofs.PastLemmas.{IsSmall}

-- ---- a list

module _ (host : Host Content Request) (phase worker : ℕ) where
  continues_chain : (clock later : Reading) (served : ℕ) (services : List Service) → Continues clock services later → AreNext host phase worker served services
      → IsWorkerChain host phase worker clock served (servings_of services)
  continues_chain clock later served [] goes next = tt
  continues_chain clock later served (service ∷ services) goes next =
      (goes.0, next.0, continues_chain service.later later (suc served) services goes.1 next.1)

  -- A worker's list is a chain from the clock at which it begins.
  pub worker_chain : (clock later : Reading) (served : ℕ) (services : List Service) (stop : Option Stop) → TakesUp services later
      → ForSome (first_clock services stop) (λ first. first ≡ clock) → AreNext host phase worker served services
      → IsWorkerChain host phase worker clock served (servings_of services)
  worker_chain clock later served [] stop takes begins next = tt
  worker_chain clock later served (service ∷ services) stop takes begins next =
      (begins service.clock refl, next.0, continues_chain service.later later (suc served) services takes next.1)

continues_behind : (clock later : Reading) (services : List Service) → Continues clock services later → clock_behind clock (servings_of services) ≡ later
continues_behind clock later [] goes = sym goes
continues_behind clock later (service ∷ services) goes = continues_behind service.later later services goes.1

-- Behind it the worker's clock is that of its stop.
pub stop_clock : (clock : Reading) (services : List Service) (stop : Stop) → TakesUp services stop.clock
    → ForSome (first_clock services (Some stop)) (λ first. first ≡ clock) → clock_behind clock (servings_of services) ≡ stop.clock
stop_clock clock [] stop takes begins = sym (begins stop.clock refl)
stop_clock clock (service ∷ services) stop takes begins = continues_behind service.later stop.clock services takes

-- ---- keys and values

-- What the script asks next has a short value.
pub next_value : (functions : DigestFunctions) (settings : Settings) (script : List (List Task)) → HaveShortValues settings.header script → (phase worker served : ℕ) (request : Request)
    → slice_get (asked (shipped_host functions settings script) worker) served ≡ Some (phase, request) → IsBlob (longest_of settings.header) request.value
next_value functions settings script values phase worker served request next =
    all-got (λ (ask : ℕ × Request). IsBlob (longest_of settings.header) ask.1.value) (asked (shipped_host functions settings script) worker) served (phase, request)
    (in_phases (λ request. IsBlob (longest_of settings.header) request.value) worker 0 script values) next

-- Of what the script asks each key is in range, and each value is short.
pub next_small : (functions : DigestFunctions) (settings : Settings) (script : List (List Task)) → AreInRange settings.header script → HaveShortValues settings.header script → (phase worker served : ℕ) (services : List Service)
    → AreNext (shipped_host functions settings script) phase worker served services → AllByRecursion (IsSmall settings.header) services
next_small functions settings script keys values phase worker served [] next = tt
next_small functions settings script keys values phase worker served (service ∷ services) next = (
  record {
    key = all-got (λ (ask : ℕ × Request). ask.1.key < 2 ^ key_bits (wide_of settings.header)) (asked (shipped_host functions settings script) worker) served (phase, service.request)
        (in_phases (λ request. request.key < 2 ^ key_bits (wide_of settings.header)) worker 0 script keys) next.0;
    value = next_value functions settings script values phase worker served service.request next.0;
  },
  next_small functions settings script keys values phase worker (suc served) services next.1,
)

-- ---- stops

-- What holds of each worker's stop holds of all.
pub all-stops : (P : order.Stop Request → Type 0) (number : ℕ) (rows : List Row)
    → ((i : ℕ) → i < length rows → AllByRecursion P (stop_of (number + i) (row_at rows i).stop)) → AllByRecursion P (stops_from number rows)
all-stops P number [] all = tt
all-stops P number (row ∷ rows) all =
    every-append P (stop_of number row.stop) (stops_from (suc number) rows)
    (subst (λ (n : ℕ). AllByRecursion P (stop_of n row.stop)) (omega arith) (all 0 (omega arith)))
    (all-stops P (suc number) rows
    (λ i there. subst (λ (n : ℕ). AllByRecursion P (stop_of n (row_at rows i).stop)) (omega arith) (all (suc i) (omega (arith, there)))))

-- the stops of later workers are of others
later_stops : (worker number : ℕ) (rows : List Row) → worker < number → AllByRecursion (λ other. worker ≢ other.worker) (stops_from number rows)
later_stops worker number rows before = all-stops (λ other. worker ≢ other.worker) number rows (λ i there. one (number + i) (row_at rows i).stop (omega (arith, before)))
  where
    one : (other : ℕ) (stop : Option Stop) → worker < other → AllByRecursion (λ (s : order.Stop Request). worker ≢ s.worker) (stop_of other stop)
    one other None less = tt
    one other (Some stop) less = (λ same. absurd (omega (arith, less, same)), tt)

-- Each stop is of another worker.
pub stops_apart : (number : ℕ) (rows : List Row) → order.AreOfOthers (stops_from number rows)
stops_apart number [] = tt
stops_apart number (row ∷ rows) = go row.stop (stops_apart (suc number) rows)
  where
    go : (stop : Option Stop) → order.AreOfOthers (stops_from (suc number) rows) → order.AreOfOthers (stop_of number stop ++ stops_from (suc number) rows)
    go None rest = rest
    go (Some stop) rest = (later_stops number (suc number) rows (omega arith), rest)
