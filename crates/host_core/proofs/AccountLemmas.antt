-- A worker's log, accepted and at rest behind it, answering what the script asks; and what more commands make of it.
use Rattle.std.proofs.Common.{◌≡◌, ℕ, ◌+◌, ◌-◌, ◌<◌, ◌≤◌, ◌==◌, nat_lt, Bool, true, false, List, [], ◌∷◌, ◌++◌, map, length, take, slice_get, Option, Some, None, Ok, refl, sym, ◌∙◌, ap, subst, if◌then◌else◌, append-nil, length-append, arith}
use Rattle.std.specs.List.{flat_map, AllByRecursion}
use Rattle.std.proofs.lemmas.Grind.{flat_map-append}
use Rattle.std.proofs.lemmas.List.{map-append, take_more}
use Rattle.std.proofs.lemmas.Option.{slice_get_within, get_or_from_slice_get}
use Rattle.std.proofs.lemmas.Bool.Decides.{nat_tests}
use Rattle.lamport_clocks.specs.Reading.{Reading}
use Rattle.lamport_clocks.specs.Clock.{last_epoch, sealed_by_advancing}
use Rattle.lamport_clocks.specs.declared.clock.ClockFault.TheVariants as faults
use Rattle.record_text.specs.Tree.{wide_of}
use Rattle.record_text.specs.Longest.{longest_of}
use Rattle.base_words.specs.Steps.{test}
use Rattle.record_text.specs.declared.request.Request.{Request}
use Rattle.log_codec.specs.declared.command.Command.{Command}
use Rattle.log_codec.specs.declared.command.Command.TheVariants.{NextEpoch}
use Rattle.stamp_order.proofs.InOrderLaws.{every-append}
use Rattle.verifier_commands.specs.declared.state.State.{State}
use Rattle.verifier_commands.specs.State.{opening}
use Rattle.verifier_commands.specs.Change.{Change, did_next_epoch}
use Rattle.verifier_commands.specs.Transition.{Step, timed}
use Rattle.soundness.specs.History.{Event}
use Rattle.soundness.specs.PathHistory.{path_log_events}
use Rattle.soundness.specs.StateHistory.{events_behind, events_from, refusal_behind, refusal_from}
use Rattle.soundness.specs.Certified.{operations_in, operations_by, sealed_by, sealed_count, epochs_in}
use Rattle.soundness.specs.Timed.{added_among, evicted_among}
use Rattle.soundness.specs.Typed.{IsPathTypedIn}
use Rattle.host_core.specs.Accepted.{state_behind, state_from, IsAccepted}
use Rattle.host_core.specs.Host.{Host, scheme, machinery, resting, asked}
use Rattle.host_core.specs.WorldEvent.{next_clock}
use Rattle.host_core.specs.Deeds.{request_of, answers_in, IsInTime, IsAnswering, IsClock, IsDeed}
use Rattle.host_core.proofs.RunLemmas.{accepted-append, state-append, events-append}
use Rattle.host_core.proofs.Books.{Account, with_more}

-- ---- what events behind events tell

pub answers-append : (xs ys : List Event) → answers_in (xs ++ ys) ≡ answers_in xs ++ answers_in ys
answers-append xs ys =
    ap (map (λ operation. (operation.stamp.epoch, request_of operation)))
    (flat_map-append (λ (event : Event). operations_by event event.change) xs ys)
    ∙ map-append (λ operation. (operation.stamp.epoch, request_of operation)) (operations_in xs) (operations_in ys)

pub sealed-append : (xs ys : List Event) → sealed_count (xs ++ ys) ≡ sealed_count xs + sealed_count ys
sealed-append xs ys =
    ap length (flat_map-append (λ (event : Event). sealed_by event.change) xs ys)
    ∙ length-append (flat_map (λ event. sealed_by event.change) xs) (flat_map (λ event. sealed_by event.change) ys)

-- answers behind answers are to requests behind requests
answering-append : {C R : Type 0} (host : Host C R) (xs ys : List (ℕ × Request)) (asks more : List (ℕ × R))
    → IsAnswering host xs asks → IsAnswering host ys more → IsAnswering host (xs ++ ys) (asks ++ more)
answering-append host [] ys [] more first next = next
answering-append host [] ys (ask ∷ asks) more first next = absurd first
answering-append host (x ∷ xs) ys [] more first next = absurd first
answering-append host (x ∷ xs) ys (ask ∷ asks) more first next = (first.0, first.1, answering-append host xs ys asks more first.2 next)

-- in a host that is not rolling, answers in time are those of the script
pub answering-plain : {C R : Type 0} (host : Host C R) (answers : List (ℕ × Request)) (asks : List (ℕ × R)) → host.rolling ≡ false
    → IsAnswering host answers asks → answers ≡ map (λ ask. (host.header.first + ask.0, host.telling ask.1)) asks
answering-plain host [] [] plain all = refl
answering-plain host [] (ask ∷ asks) plain all = absurd all
answering-plain host (answer ∷ answers) [] plain all = absurd all
answering-plain host (answer ∷ answers) (ask ∷ asks) plain all =
    ap (λ (n : ℕ). (n, answer.1) ∷ answers) (all.1.1 plain)
    ∙ ap (λ (request : Request). (host.header.first + ask.0, request) ∷ answers) all.0
    ∙ ap (λ (rest : List (ℕ × Request)). (host.header.first + ask.0, host.telling ask.1) ∷ rest) (answering-plain host answers asks plain all.2)

module _ {C R : Type 0} (host : Host C R) (i : ℕ) where
  -- the events of commands from a verifier at rest
  abbrev pub events_at : ℕ → Reading → List Command → List Event
  events_at index clock commands = events_from (machinery host i) i index (resting host i clock) commands

  -- The log is accepted, and the verifier rests behind it; it answers what the script asks first, and seals the epochs
  -- before its clock's.
  pub record IsRightAccount (account : Account) : Type 0 where
    pub typed : AllByRecursion (IsPathTypedIn (wide_of host.header) (longest_of host.header)) account.log
    pub accepted : IsAccepted (machinery host i) (opening i host.header) account.log
    pub rests : state_from (machinery host i) (opening i host.header) account.log ≡ resting host i account.clock
    pub is_clock : IsClock host account.clock
    pub answered : IsAnswering host (answers_in (path_log_events (scheme host) host.header i account.log)) (take account.served (asked host i))
    pub sealed : sealed_count (path_log_events (scheme host) host.header i account.log) ≡ account.clock.at.epoch - (host.header.first + 1)

  -- commands that a verifier at rest accepts, and what it answers and seals
  pub record IsMore (clock : Reading) (commands : List Command) (next : Reading) (answers : List (ℕ × Request)) : Type 0 where
    pub typed : AllByRecursion (IsPathTypedIn (wide_of host.header) (longest_of host.header)) commands
    pub accepted : IsAccepted (machinery host i) (resting host i clock) commands
    pub rests : state_from (machinery host i) (resting host i clock) commands ≡ resting host i next
    pub is_clock : IsClock host next
    pub answered : (index : ℕ) → answers_in (events_at index clock commands) ≡ answers
    pub sealed : (index : ℕ) → sealed_count (events_at index clock commands) + (clock.at.epoch - (host.header.first + 1))
        ≡ next.at.epoch - (host.header.first + 1)

  -- a deed is more
  pub deed_more : (clock : Reading) (commands : List Command) (next : Reading) (old new : List C) (answers : List (ℕ × Request))
      → IsDeed host i (resting host i clock) commands next old new answers → IsMore clock commands next answers
  deed_more clock commands next old new answers deed = record {
    typed = deed.typed;
    accepted = deed.accepted;
    rests = deed.rests;
    is_clock = deed.is_clock;
    answered = deed.answered;
    sealed = λ index. omega (arith, deed.unsealed index, deed.epoch);
  }

  -- what is answered further is what is asked next
  abbrev pub IsAskedNext : ℕ → ℕ → List (ℕ × Request) → Type 0
  IsAskedNext served more answers = (before : List (ℕ × Request)) → IsAnswering host before (take served (asked host i))
      → IsAnswering host (before ++ answers) (take (served + more) (asked host i))

  -- the events of a log are told from the opening state
  pub told : (commands : List Command)
      → path_log_events (scheme host) host.header i commands ≡ events_from (machinery host i) i 0 (opening i host.header) commands
  told commands = refl

  -- the events of a log with more commands
  pub log-grown : (account : Account) → IsRightAccount account → (commands : List Command)
      → path_log_events (scheme host) host.header i (account.log ++ commands)
      ≡ path_log_events (scheme host) host.header i account.log ++ events_at (0 + length account.log) account.clock commands
  log-grown account right commands =
      told (account.log ++ commands)
      ∙ events-append (machinery host i) i 0 (opening i host.header) account.log commands right.accepted
      ∙ ap (λ (events : List Event). events ++ events_from (machinery host i) i (0 + length account.log) (state_from (machinery host i) (opening i host.header) account.log) commands)
      (sym (told account.log))
      ∙ ap (λ (state : State). path_log_events (scheme host) host.header i account.log ++ events_from (machinery host i) i (0 + length account.log) state commands)
      right.rests

  -- More commands leave it right.
  pub more_right : (account : Account) (commands : List Command) (next : Reading) (answers : List (ℕ × Request)) (more : ℕ)
      → IsRightAccount account → IsMore account.clock commands next answers
      → IsAskedNext account.served more answers
      → IsRightAccount (with_more account commands next more)
  more_right account commands next answers more right new asks = record {
    typed = every-append (IsPathTypedIn (wide_of host.header) (longest_of host.header)) account.log commands right.typed new.typed;
    accepted = accepted-append (machinery host i) (opening i host.header) account.log commands right.accepted
        (subst (λ (state : State). IsAccepted (machinery host i) state commands) (sym right.rests) new.accepted);
    rests = state-append (machinery host i) (opening i host.header) account.log commands right.accepted
        ∙ ap (λ (state : State). state_from (machinery host i) state commands) right.rests ∙ new.rests;
    is_clock = new.is_clock;
    answered = subst (λ (zs : List (ℕ × Request)). IsAnswering host zs (take (account.served + more) (asked host i)))
        (sym (ap answers_in grown
        ∙ answers-append events (events_at (0 + length account.log) account.clock commands)
        ∙ ap (λ (zs : List (ℕ × Request)). answers_in events ++ zs) (new.answered (0 + length account.log))))
        (asks (answers_in events) right.answered);
    sealed = ap sealed_count grown
        ∙ sealed-append events (events_at (0 + length account.log) account.clock commands)
        ∙ counted (sealed_count events) (sealed_count (events_at (0 + length account.log) account.clock commands)) right.sealed (new.sealed (0 + length account.log));
  }
    where
      events : List Event
      events = path_log_events (scheme host) host.header i account.log

      grown : path_log_events (scheme host) host.header i (account.log ++ commands)
          ≡ events ++ events_at (0 + length account.log) account.clock commands
      grown = log-grown account right commands

      counted : (a b : ℕ) → a ≡ account.clock.at.epoch - (host.header.first + 1)
          → b + (account.clock.at.epoch - (host.header.first + 1)) ≡ next.at.epoch - (host.header.first + 1)
          → a + b ≡ next.at.epoch - (host.header.first + 1)
      counted a b is more = omega (arith, is, more)

  -- ---- what a worker is asked next

  -- a served request is the next of what the script asks
  pub asks_next : (served phase epoch : ℕ) (request : R) → slice_get (asked host i) served ≡ Some (phase, request)
      → IsInTime host epoch phase → IsAskedNext served 1 ((epoch, host.telling request) ∷ [])
  asks_next served phase epoch request next in_time before answered =
      subst (IsAnswering host (before ++ (epoch, host.telling request) ∷ [])) (sym more)
      (answering-append host before ((epoch, host.telling request) ∷ []) (take served (asked host i)) ((phase, request) ∷ []) answered (refl, in_time, tt))
    where
      more : take (served + 1) (asked host i) ≡ take served (asked host i) ++ (phase, request) ∷ []
      more = take_more (asked host i) served (phase, request) (slice_get_within (asked host i) served (phase, request) next)
          ∙ ap (λ (ask : ℕ × R). take served (asked host i) ++ ask ∷ [])
          (get_or_from_slice_get (asked host i) served (phase, request) (phase, request) next)

  -- nothing more is asked of one that answers nothing
  pub asks_none : (served : ℕ) → IsAskedNext served 0 []
  asks_none served before answered =
      subst (λ (zs : List (ℕ × Request)). IsAnswering host zs (take (served + 0) (asked host i))) (sym (append-nil before))
      (subst (λ (n : ℕ). IsAnswering host before (take n (asked host i))) {x = served} (omega arith) answered)

  -- ---- advancing

  -- what turning to the next epoch is
  abbrev turned : Reading → Change × State
  turned clock = (did_next_epoch (sealed_by_advancing clock), resting host i (next_clock clock))

  advance_step : (clock : Reading) → (clock.at.epoch == last_epoch) ≡ false
      → (machinery host i).step (resting host i clock) NextEpoch ≡ Ok (turned clock)
  advance_step clock more =
      ap (λ (b : Bool). timed {A = Option ℕ × Reading} (test b faults.ClockEnd (Ok (sealed_by_advancing clock, next_clock clock)))
      (λ turn. Ok (did_next_epoch turn.0, record { cache = host.cache i; clock = turn.1 }))) more

  pub advance_events : (index : ℕ) (clock : Reading) → (clock.at.epoch == last_epoch) ≡ false
      → events_at index clock (NextEpoch ∷ [])
      ≡ record { verifier = i; index = index; at = (next_clock clock).at; change = did_next_epoch (sealed_by_advancing clock) } ∷ []
  unfolding events_from
  advance_events index clock more =
      ap (λ (step : Step). events_behind (machinery host i) i index step (λ after. [])) (advance_step clock more)

  -- an advance adds and evicts nothing
  pub advance_added : (index : ℕ) (clock : Reading) → (clock.at.epoch == last_epoch) ≡ false
      → added_among (events_at index clock (NextEpoch ∷ [])) ≡ []
  advance_added index clock more = ap added_among (advance_events index clock more)

  pub advance_evicted : (index : ℕ) (clock : Reading) → (clock.at.epoch == last_epoch) ≡ false
      → evicted_among (events_at index clock (NextEpoch ∷ [])) ≡ []
  advance_evicted index clock more = ap evicted_among (advance_events index clock more)

  -- An advance is more.
  pub advance_more : (clock : Reading) → IsClock host clock → (clock.at.epoch == last_epoch) ≡ false
      → IsMore clock (NextEpoch ∷ []) (next_clock clock) []
  unfolding state_from refusal_from
  advance_more clock is more = record {
    typed = ((tt, tt), tt);
    accepted = ap (λ (step : Step). refusal_behind step (λ after. None)) (advance_step clock more);
    rests = ap (λ (step : Step). state_behind (resting host i clock) step (λ after. after)) (advance_step clock more);
    is_clock = record {
      first = is.first;
      end = is.end;
      reading = record { within = omega arith; from_first = omega (arith, is.reading.from_first) };
    };
    answered = λ index. ap answers_in (advance_events index clock more);
    sealed = λ index. ap (λ (n : ℕ). n + (clock.at.epoch - (host.header.first + 1))) (ap sealed_count (advance_events index clock more))
        ∙ counted (nat_lt clock.first clock.at.epoch) refl;
  }
    where
      counted : (b : Bool) → nat_lt clock.first clock.at.epoch ≡ b
          → length (epochs_in (if b then Some (clock.at.epoch - 1) else None) ++ []) + (clock.at.epoch - (host.header.first + 1))
          ≡ (clock.at.epoch + 1) - (host.header.first + 1)
      counted true later = let past : clock.first < clock.at.epoch = grind (arith, nat_tests) in omega (arith, past, is.first)
      counted false not_later =
          let at_first : clock.at.epoch ≤ clock.first = grind (arith, nat_tests) in
          omega (arith, at_first, is.first, is.reading.from_first)
