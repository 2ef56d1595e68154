-- What a phase asks of a worker, as the script has it: what was done of it was next, and then nothing is left.
use Rattle.std.proofs.Common.{◌≡◌, ℕ, zero, suc, ◌+◌, ◌<◌, ◌==◌, Bool, true, false, List, [], ◌∷◌, ◌++◌, map, filter, length, take, drop, get_or, slice_get, Option, Some, None, if◌then◌else◌, refl, sym, ◌∙◌, ap, subst, take_all, arith}
use Rattle.std.specs.Option.{ForSome}
use Rattle.std.proofs.Math.ListN.{get_or-map}
use Rattle.std.proofs.lemmas.List.{length-map}
use Rattle.std.proofs.lemmas.Option.{none-some, same_Some}
use Rattle.record_hash.specs.Functions.{DigestFunctions}
use Rattle.record_text.specs.declared.request.Request.{Request}
use Rattle.script_text.specs.declared.task.Task.{Task}
use Rattle.host_core.specs.Host.{Host, asked_in, asked_from, asked}
use Rattle.host_shard.specs.Content.{Content}
use Rattle.host_table.specs.declared.told.Service.{Service}
use Rattle.host_table.specs.declared.told.Stop.{Stop}
use Rattle.shipped_host.specs.declared.settings.Settings.{Settings}
use Rattle.shipped_host.specs.ShippedHost.{turn_of, shipped_host}
use Rattle.host_serving.specs.Standing.{turns_of, asked_by}
use Rattle.host_serving.proofs.TurnLaws.{slice_get-behind, asked-around}
use Rattle.table_order.specs.Phases.{AreNext}
use Rattle.worker_threads.specs.Parts.{asked_of, AreDone}
use Rattle.worker_threads.specs.Phase.{numbered}

-- what is found in the front of a list
slice_get-front : {X : Type 0} (xs ys : List X) (k : ℕ) (x : X) → slice_get xs k ≡ Some x → slice_get (xs ++ ys) k ≡ Some x
slice_get-front [] ys k x is = absurd (none-some x is)
slice_get-front (first ∷ xs) ys zero x is = is
slice_get-front (first ∷ xs) ys (suc k) x is = slice_get-front xs ys k x is

slice_get-map : {X Y : Type 0} (f : X → Y) (xs : List X) (k : ℕ) (x : X) → slice_get xs k ≡ Some x → slice_get (map f xs) k ≡ Some (f x)
slice_get-map f [] k x is = absurd (none-some x is)
slice_get-map f (first ∷ xs) zero x is = ap (λ y. Some (f y)) (same_Some first x is)
slice_get-map f (first ∷ xs) (suc k) x is = slice_get-map f xs k x is

-- what a phase asks of a worker, with the phase's number
asked_pairs : (i phase : ℕ) (tasks : List Task) → asked_in i phase (map turn_of tasks) ≡ numbered phase (asked_of i tasks)
asked_pairs i phase [] = refl
asked_pairs i phase (task ∷ tasks) = go (task.worker == i) (asked_pairs i phase tasks)
  where
    more : List (ℕ × Request)
    more = filter (λ turn. turn.0 == i) (map turn_of tasks)

    go : (b : Bool) → map (λ (turn : ℕ × Request). (phase, turn.1)) more ≡ numbered phase (asked_of i tasks)
        → map (λ (turn : ℕ × Request). (phase, turn.1)) (if b then turn_of task ∷ more else more)
        ≡ numbered phase (if b then task.request ∷ asked_of i tasks else asked_of i tasks)
    go true rest = ap (λ (asks : List (ℕ × Request)). (phase, task.request) ∷ asks) rest
    go false rest = rest

-- ---- what was done

-- As many are done as were asked, where no clock ended.
pub all_done : (asks : List Request) (services : List Service) → AreDone asks services None → length services ≡ length asks
all_done asks [] done = ap (λ (xs : List Request). length xs) (sym done)
all_done asks (service ∷ services) done =
    ap suc (all_done done.0 services done.2) ∙ ap (λ (xs : List Request). length xs) (sym done.1)

module _ (functions : DigestFunctions) (settings : Settings) (script : List (List Task)) (phase i : ℕ) (there : phase < length script) where
  abbrev host : Host Content Request
  host = shipped_host functions settings script

  abbrev tasks : List Task
  tasks = get_or script phase []

  there_still : phase < length host.script
  there_still = let same = length-map script (map turn_of) in omega (arith, there, same)

  phase_turns : turns_of host phase ≡ map turn_of tasks
  phase_turns = get_or-map (λ (some : List Task). map turn_of some) script phase []

  pub inside : asked_in i phase (turns_of host phase) ≡ numbered phase (asked_of i tasks)
  inside = ap (λ (turns : List (ℕ × Request)). asked_in i phase turns) phase_turns ∙ asked_pairs i phase tasks

  -- what is asked in the phase stands behind what was asked before
  asked_there : (k : ℕ) (request : Request) → slice_get (asked_of i tasks) k ≡ Some request
      → slice_get (asked host i) (asked_by host i phase 0 + k) ≡ Some (phase, request)
  asked_there k request is =
      let front = asked_from i 0 (take phase host.script) in
      let within = asked_in i phase (turns_of host phase) in
      let more = asked_from i (suc phase) (drop (suc phase) host.script) in
      ap (λ (asks : List (ℕ × Request)). slice_get asks (asked_by host i phase 0 + k)) (asked-around i 0 phase phase host.script (omega arith) there_still)
      ∙ slice_get-behind front (within ++ more) k (asked_by host i phase 0 + k) (omega arith)
      ∙ slice_get-front within more k (phase, request)
      (ap (λ (asks : List (ℕ × Request)). slice_get asks k) inside ∙ slice_get-map (λ (asks : Request). (phase, asks)) (asked_of i tasks) k request is)

  -- In the whole phase that much is asked.
  pub asked_count : asked_by host i phase (length (turns_of host phase)) ≡ asked_by host i phase 0 + length (asked_of i tasks)
  asked_count =
      let turns = turns_of host phase in
      let all : take (length turns) turns ≡ turns = take_all (length turns) turns (omega arith) in
      let many : length (asked_in i phase (take (length turns) turns)) ≡ length (asked_of i tasks) =
      ap (λ (some : List (ℕ × Request)). length (asked_in i phase some)) all ∙ ap (λ (asks : List (ℕ × Request)). length asks) inside
      ∙ length-map (asked_of i tasks) (λ (asks : Request). (phase, asks)) in
      omega (arith, many)

  -- from some request on, what is left to be asked
  abbrev Left : ℕ → List Request → Type 0
  Left served asks = (k : ℕ) (request : Request) → slice_get asks k ≡ Some request → slice_get (asked host i) (served + k) ≡ Some (phase, request)

  -- one less
  left_behind : (served : ℕ) (asks more : List Request) (request : Request) → asks ≡ request ∷ more → Left served asks → Left (suc served) more
  left_behind served asks more request is left k next found =
      let one : served + suc k ≡ suc served + k = omega arith in
      ap (slice_get (asked host i)) (sym one) ∙ left (suc k) next (ap (λ (xs : List Request). slice_get xs (suc k)) is ∙ found)

  left_now : (served : ℕ) (asks more : List Request) (request : Request) → asks ≡ request ∷ more → Left served asks
      → slice_get (asked host i) served ≡ Some (phase, request)
  left_now served asks more request is left =
      let here : served + 0 ≡ served = omega arith in
      ap (slice_get (asked host i)) (sym here) ∙ left 0 request (ap (λ (xs : List Request). slice_get xs 0) is)

  next_from : (served : ℕ) (asks : List Request) (services : List Service) (stop : Option Stop) → AreDone asks services stop → Left served asks
      → AreNext host phase i served services
  next_from served asks [] stop done left = tt
  next_from served asks (service ∷ services) stop done left = (
    left_now served asks done.0 service.request done.1 left,
    next_from (suc served) done.0 services stop done.2 (left_behind served asks done.0 service.request done.1 left),
  )

  last_from : (served : ℕ) (asks : List Request) (services : List Service) (stop : Stop) → AreDone asks services (Some stop) → Left served asks
      → slice_get (asked host i) (served + length services) ≡ Some (phase, stop.request)
  last_from served asks [] stop done left =
      let here : served + 0 ≡ served = omega arith in
      ap (slice_get (asked host i)) here ∙ left_now served asks done.0 stop.request done.1 left
  last_from served asks (service ∷ services) stop done left =
      let one : served + suc (length services) ≡ suc served + length services = omega arith in
      ap (slice_get (asked host i)) one
      ∙ last_from (suc served) done.0 services stop done.2 (left_behind served asks done.0 service.request done.1 left)

  module _ (served : ℕ) (services : List Service) (stop : Option Stop) (begins : served ≡ asked_by host i phase 0) (done : AreDone (asked_of i tasks) services stop) where
    left_all : Left served (asked_of i tasks)
    left_all = λ k request is. ap (λ (n : ℕ). slice_get (asked host i) (n + k)) begins ∙ asked_there k request is

    -- Each service is of the worker's next request,
    pub are_next : AreNext host phase i served services
    are_next = next_from served (asked_of i tasks) services stop done left_all

    -- and so is the stop.
    pub last_next : ForSome stop (λ s. slice_get (asked host i) (served + length services) ≡ Some (phase, s.request))
    last_next s is = last_from served (asked_of i tasks) services s (subst (AreDone (asked_of i tasks) services) is done) left_all
