-- What the calls on a table with epochs do to a hand, as the calls of a phase tell it.
use Rattle.std.proofs.Common.{◌≡◌, ℕ, ◌+◌, ◌<◌, List, [], ◌∷◌, ◌++◌, length, All, Option, Some, None, refl, sym, ap, ◌∙◌, subst, arith}
use Rattle.std.proofs.lemmas.List.{append-nil, map-append}
use Rattle.std.proofs.lemmas.Option.{none-some}
use Rattle.lamport_clocks.specs.declared.stamp.Stamp.{Stamp}
use Rattle.lamport_clocks.specs.Reading.{Reading}
use Rattle.record_text.specs.declared.request.Request.{Request}
use Rattle.atomic_table.specs.Seated.{TableId}
use Rattle.host_shard.specs.declared.content.Content.{Content}
use Rattle.host_epochs.specs.declared.answers.Taking.{Taking}
use Rattle.host_epochs.specs.declared.answers.Taking.TheVariants as taking
use Rattle.host_epochs.specs.declared.hand.Hand.{Hand}
use Rattle.host_epochs.specs.declared.told.Entry.{Entry}
use Rattle.host_epochs.specs.declared.told.Loss.{Loss}
use Rattle.host_epochs.specs.declared.told.Meeting.{Meeting}
use Rattle.host_epochs.specs.declared.told.Reached.{Reached}
use Rattle.host_epochs.specs.declared.told.Stop as rounds
use Rattle.host_epochs.specs.declared.views.Held.{Held}
use Rattle.host_epochs.specs.declared.views.Held.TheVariants.{Idle}
use Rattle.host_epochs.specs.declared.views.Row as round_rows
use Rattle.host_epochs.specs.Calls as calls
use Rattle.host_epochs.specs.Hands as hands
use Rattle.host_epochs.specs.Plays.{row_with_stop}
use Rattle.host_epochs.specs.Terms as epochs
use Rattle.host_epochs.specs.Told as told
use Rattle.host_table.specs.declared.told.Service.{Service}
use Rattle.host_table.specs.declared.told.Stop.{Stop}
use Rattle.host_table.specs.Calls.{AreAll, IsNew, IsAfter, IsServiceOf, Loses, Tries, clock_at}
use Rattle.host_table.specs.Hands.{IsAtRequest, IsEnd, IsFree, Holds, Sits, services, stop}
use Rattle.host_table.specs.Services.{end_at, end_of, request_in, service_of, services_of, stop_of}
use Rattle.host_table.specs.Terms.{Terms, IsClockOf, phase_of}
use Rattle.host_table.specs.Told.{IsServed, TakesUp}
use Rattle.host_table.proofs.PhaseLaws.{clock_back, done_served, leads_phase, takes_back}

-- ---- all hands

free_phase : (table : TableId) (hand : Hand) → hands.IsFree table hand → calls.IsNew hand → IsFree table hand
free_phase table hand free new = record {
  sits = free;
  first = ap (λ (row : round_rows.Row). row.entered) new.row;
  ended = subst IsEnd (sym (ap (λ (row : round_rows.Row). row.stop) new.row)) tt;
}

pub all_phase : (table : TableId) (workers : ℕ) (hs : List Hand) → calls.AreAll table workers hs → All calls.IsNew hs → AreAll table workers hs
all_phase table workers hs all new = record {
  count = all.count;
  numbers = all.numbers;
  free = λ k d below. free_phase table _ (all.free k d below) (new k d below);
}

pub new_phase : (hs : List Hand) → All calls.IsNew hs → All IsNew hs
new_phase hs new k d below =
    let is = new k d below in record {
      services = ap (λ (row : round_rows.Row). services_of row.list) is.row;
      losses = is.losses;
      stop = ap (λ (row : round_rows.Row). stop_of row.stop) is.row;
    }

-- ---- a call that changes neither the epoch nor the stop

pub sits_phase : (table : TableId) (old new : Hand) (was has : Held) (before out : List (ℕ × Content)) → Sits table old was before → hands.Sits table new has out
    → hands.entered new ≡ hands.entered old → hands.stop new ≡ hands.stop old → Sits table new has out
sits_phase table old new was has before out sat sits entered stopped = record { sits = sits; first = entered ∙ sat.first; ended = subst IsEnd (sym stopped) sat.ended }

-- it tells what it told, and noted more
pub after_phase : (old new : Hand) (found : List Loss) (given looked : List Reached) → calls.IsAfter old new (hands.row_of old) found given looked → IsAfter old new [] found (stop old)
after_phase old new found given looked after = record {
  worker = after.worker;
  services = ap (λ (row : round_rows.Row). services_of row.list) after.row ∙ sym (append-nil (services old));
  losses = after.losses;
  stop = ap (λ (row : round_rows.Row). stop_of row.stop) after.row;
}

-- it tells a stop
pub stopped_phase : (old new : Hand) (ended : rounds.Stop) → calls.IsAfter old new (row_with_stop ended (hands.row_of old)) [] [] [] → IsAfter old new [] [] (stop_of (Some ended))
stopped_phase old new ended after = record {
  worker = after.worker;
  services = ap (λ (row : round_rows.Row). services_of row.list) after.row ∙ sym (append-nil (services old));
  losses = after.losses;
  stop = ap (λ (row : round_rows.Row). stop_of row.stop) after.row;
}

pub loses_phase : (old new : Hand) (place : ℕ) → calls.Loses old new place → Loses old new place
loses_phase old new place loses = record {
  found = loses.found;
  held = loses.held;
  other = loses.other;
  after = after_phase old new (record { place = place; found = loses.found } ∷ []) [] [] loses.after;
}

-- where nothing is told of a stop there is none
pub no_stop : (from : Option rounds.Stop) → IsEnd from → stop_of from ≡ None → from ≡ None
no_stop None is none = refl
no_stop (Some ended) is none = go ended.met is none
  where
    at_request : (met : Meeting) (request : Option Request) (asked : Request) → request ≡ Some asked → end_at ended.clock met request ≡ None → Some ended ≡ None
    at_request met (Some request) asked same none' = absurd (none-some _ (sym none'))
    at_request met None asked same none' = absurd (none-some asked same)

    go : (met : Option Meeting) → IsAtRequest met → end_of ended.clock met ≡ None → Some ended ≡ None
    go None at none' = absurd at
    go (Some met) at none' = at_request met met.request at.0 at.1 none'

-- a service as an entry
abbrev pub entry_of : Service → Entry
entry_of service = record {
  place = service.place;
  worker = service.worker;
  clock = service.clock;
  before = service.before;
  request = Some service.request;
  plan = service.plan;
  after = service.after;
  later = service.later;
}

module _ (t : epochs.Terms) (one : t.more ≡ 0) (table : TableId) where
  pub tries_phase : (old : Hand) (place : ℕ) (found : Taking) (new : Hand) → IsFree table old → calls.Tries t table old place found new → Tries (phase_of t) table old place found new
  tries_phase old place (taking.Taken x) new free takes = (
    after_phase old new [] [] [] takes.after,
    sits_phase table old new Idle _ [] _ free takes.holds (ap (λ (row : round_rows.Row). row.entered) takes.after.row) (ap (λ (row : round_rows.Row). row.stop) takes.after.row),
    takes.content_is,
    leads_phase t one place (epochs.first_at t place) (hands.history new) x takes.leads,
    takes.known,
  )
  tries_phase old place taking.Busy new free loses = (
    loses_phase old new place loses.0,
    sits_phase table old new Idle Idle [] [] free loses.1 (ap (λ (row : round_rows.Row). row.entered) loses.0.after.row) (ap (λ (row : round_rows.Row). row.stop) loses.0.after.row),
  )

  -- the clock that a worker of the phase has
  pub behind_phase : (hand : Hand) (clock : Reading) → hands.entered hand ≡ 0 → IsClockOf (phase_of t) clock → TakesUp (services hand) clock
      → told.IsClockBehind t (hands.entries hand) (hands.entered hand) clock
  behind_phase hand clock first is chained = record {
    is = clock_back t one clock is;
    epoch = let epoch = is.epoch in omega (arith, epoch, first);
    chained = takes_back t one (hands.entries hand) clock is chained;
  }

  -- a service may be noted as an entry
  pub note_phase : (old : Hand) (place : ℕ) (clock : Reading) (request : Request) (given : Content) (service : Service)
      → Holds table old place → stop old ≡ None → IsClockOf (phase_of t) clock → TakesUp (services old) clock
      → IsServiceOf (phase_of t) old place clock request given service → calls.MayNote t old place clock (Some request) given
  note_phase old place clock request given service holds going is_clock chained is = record {
    going = no_stop (hands.stop old) holds.ended going;
    behind = behind_phase old clock holds.first is_clock chained;
    reached = λ more. absurd (let first = holds.first in omega (arith, more, first, one));
    entry = entry_of service;
    is = record {
      place_is = is.place_is;
      worker_is = is.worker_is;
      before_is = is.before_is;
      clock_is = is.clock_is;
      request_is = ap (λ (r : Request). Some r) is.request_is;
      after_is = is.after_is;
    };
    asked = record {
      by = is.served.by;
      clock = clock_back t one service.clock is.served.clock;
      work = record { at = is.served.at; value = is.served.value; plan = is.served.plan };
      within = is.served.within;
    };
  }

  -- what was noted is a service
  pub noted_service : (old : Hand) (place : ℕ) (clock : Reading) (request : Request) (given : Content) (new : Hand) → calls.Notes t old place clock (Some request) given new
      → (service : Service) × IsServiceOf (phase_of t) old place clock request given service × IsAfter old new (service ∷ []) [] (stop old)
  noted_service old place clock request given new notes = (
    service_of notes.entry,
    record {
      place_is = notes.is.place_is;
      worker_is = notes.is.worker_is;
      before_is = notes.is.before_is;
      clock_is = notes.is.clock_is;
      request_is = ap request_in notes.is.request_is;
      after_is = notes.is.after_is;
      served = done_served t one notes.entry notes.done;
    },
    record {
      worker = notes.after.worker;
      services = ap (λ (row : round_rows.Row). services_of row.list) notes.after.row ∙ map-append service_of (hands.entries old) (notes.entry ∷ []);
      losses = notes.after.losses;
      stop = ap (λ (row : round_rows.Row). stop_of row.stop) notes.after.row;
    },
  )

  pub noted_free : (old : Hand) (place : ℕ) (clock : Reading) (request : Option Request) (given : Content) (new : Hand) → Holds table old place → hands.IsFree table new
      → calls.Notes t old place clock request given new → IsFree table new
  noted_free old place clock request given new holds free notes =
      sits_phase table old new _ Idle _ [] holds free (ap (λ (row : round_rows.Row). row.entered) notes.after.row) (ap (λ (row : round_rows.Row). row.stop) notes.after.row)

  pub given_free : (old : Hand) (place : ℕ) (given : List Reached) (new : Hand) → Holds table old place → hands.IsFree table new
      → calls.IsAfter old new (hands.row_of old) [] given [] → IsFree table new
  given_free old place given new holds free after =
      sits_phase table old new _ Idle _ [] holds free (ap (λ (row : round_rows.Row). row.entered) after.row) (ap (λ (row : round_rows.Row). row.stop) after.row)
