-- A run that takes in what waited and hands out what then waits is a deed.
use Rattle.std.proofs.Common.{◌≡◌, ℕ, List, map, Ok, ◌∙◌, ap}
use Rattle.std.specs.List.{AllByRecursion}
use Rattle.soundness.specs.Typed.{IsPathTypedIn}
use Rattle.lamport_clocks.specs.Reading.{Reading}
use Rattle.record_text.specs.declared.element.Element.{Element}
use Rattle.record_text.specs.declared.request.Request.{Request}
use Rattle.record_text.specs.Longest.{longest_of}
use Rattle.record_text.specs.Tree.{wide_of}
use Rattle.log_codec.specs.declared.command.Command.{Command}
use Rattle.verifier_commands.specs.declared.state.State.{State}
use Rattle.soundness.specs.History.{Event}
use Rattle.soundness.specs.StateHistory.{rules_under}
use Rattle.soundness.specs.Certified.{sealed_count}
use Rattle.soundness.specs.Timed.{added_among, evicted_among}
use Rattle.soundness.specs.Permutation.{count_of}
use Rattle.host_core.specs.Host.{Host, scheme, resting}
use Rattle.host_core.specs.Deeds.{pending_of, answers_in, AreStamped, IsClock, IsDeed}
use Rattle.host_laws.specs.Running.{Told, run, added_told, evicted_told, accesses_told, IsHistory}
use Rattle.host_laws.proofs.RunLaws.{run-history}
use Rattle.host_fits.proofs.EventLemmas.{run-state, IsOfEpoch, run-steady, added-events, evicted-events, sealed-events, ask_of, answers-events}

pub is_deed : {C R : Type 0} (host : Host C R) (i : ℕ) (from : State) (commands : List Command) (told : Told) (clock : Reading) (old new : List C) (answers : List (ℕ × Request))
    → run (rules_under (scheme host) host.header i) from commands ≡ Ok (told, resting host i clock)
    → AllByRecursion (IsPathTypedIn (wide_of host.header) (longest_of host.header)) commands → IsClock host clock → clock.at.epoch ≡ from.clock.at.epoch
    → AreStamped host clock.at.epoch new → added_told told ≡ pending_of host old → evicted_told told ≡ pending_of host new
    → map (ask_of from.clock.at.epoch) (accesses_told told) ≡ answers
    → IsDeed host i from commands clock old new answers
is_deed host i from commands told clock old new answers runs typed is_clock epoch stamped added evicted asks = record {
  typed = typed;
  accepted = history.accepted;
  rests = run-state (rules_under (scheme host) host.header i) from (resting host i clock) commands told runs;
  is_clock = is_clock;
  epoch = epoch;
  stamped = stamped;
  added = λ index x. ap (λ (xs : List Element). count_of x xs)
      (ap (λ (events : List Event). added_among events) (history.events i index) ∙ (added-events i index told ∙ added));
  evicted = λ index x. ap (λ (xs : List Element). count_of x xs)
      (ap (λ (events : List Event). evicted_among events) (history.events i index) ∙ (evicted-events i index told ∙ evicted));
  answered = λ index. ap (λ (events : List Event). answers_in events) (history.events i index) ∙ (answers-events from.clock.at.epoch i index told steady ∙ asks);
  unsealed = λ index. ap (λ (events : List Event). sealed_count events) (history.events i index) ∙ sealed-events from.clock.at.epoch i index told steady;
}
  where
    history : IsHistory (rules_under (scheme host) host.header i) from commands told
    history = run-history (rules_under (scheme host) host.header i) from (resting host i clock) commands told runs

    steady : IsOfEpoch from.clock.at.epoch told
    steady = run-steady (rules_under (scheme host) host.header i) from (resting host i clock) commands told runs epoch
