-- A log that is accepted by path is accepted by slot, with the same events.
use Rattle.std.proofs.Common.{◌≡◌, ℕ, zero, suc, ◌-◌, ◌==◌, ◌≤◌, Bool, true, false, List, [], ◌∷◌, length, map, replicate, Some, None, Ok, Err, if◌then◌else◌, refl, sym, ◌∙◌, ap, subst, arith}
use Rattle.std.specs.List.{AllByRecursion}
use Rattle.std.proofs.lemmas.Option.{none-some}
use Rattle.tree_keys.specs.Path.{root_of}
use Rattle.lamport_clocks.specs.declared.header.Header.{Header}
use Rattle.lamport_clocks.specs.Reading.{Reading}
use Rattle.record_text.specs.declared.value.Value.TheVariants as values
use Rattle.record_text.specs.Tree.{wide_of}
use Rattle.log_codec.specs.declared.command.Command.{Command}
use Rattle.log_codec.specs.declared.command.Command.TheVariants.{AddM, EvictM, AddB, EvictB, EvictBM, Get, Put, NextEpoch, Absent}
use Rattle.log_codec.specs.declared.slot_command.SlotCommand.{SlotCommand}
use Rattle.log_codec.specs.declared.log_command.LogCommand.TheVariants.{BySlot}
use Rattle.merkle_records.specs.Scheme.{Scheme}
use Rattle.slot_rewriting.specs.Rewriting.{SlotPaths, rewritten, paths_after, opening_paths, rewritten_from, CanRewriteFrom}
use Rattle.slot_rewriting.specs.Indexed.{taken}
use Rattle.slot_rewriting.proofs.SlotPathLaws.{taken-none}
use Rattle.verifier_cache.specs.declared.entry.Entry.{Entry}
use Rattle.verifier_cache.specs.Cache.{entry_of, AreDistinct}
use Rattle.verifier_cache.specs.Slots.{empty_slots}
use Rattle.verifier_commands.specs.declared.state.State.{State}
use Rattle.verifier_commands.specs.declared.slot_state.SlotState.{SlotState}
use Rattle.verifier_commands.specs.State.{opening, root_entry}
use Rattle.verifier_commands.specs.Change.{Change}
use Rattle.verifier_commands.specs.Transition.{Rules, Step, transition}
use Rattle.verifier_commands.specs.SlotTransition.{SlotStep, slot_opening}
use Rattle.soundness.specs.History.{Event, log_events, histories_from}
use Rattle.soundness.specs.StateHistory.{events_behind, events_from, refusal_behind, refusal_from, rules_under}
use Rattle.soundness.specs.PathHistory.{path_machinery_under, path_log_events, path_log_refusal, path_histories_from}
use Rattle.soundness.specs.SlotHistory.{standing_in, shown_in, slot_machinery_under, slot_log_events}
use Rattle.soundness.specs.Showing.{shown_by}
use Rattle.soundness.specs.Typed.{IsPathTyped, IsSlotTyped}
use Rattle.soundness.proofs.StepShownLaws.{path_leaves, slot_leaves, same_after, fresh_in_both}
use Rattle.rewriting_laws.specs.Alike.{paths_in, AreAlike}
use Rattle.rewriting_laws.specs.RewrittenLog.{IsOfKind, rewritten_log, rewritten_logs, AreAccepted}
use Rattle.rewriting_laws.proofs.FollowedLemmas.{IsFollowed, followed}

-- ---- one command

-- what it brings in is of its path's kind, by path and by slot
path_typed : (longest : ℕ) (command : Command) → IsOfKind longest command → IsPathTyped longest command
path_typed longest (AddM path value parent) kind = kind
path_typed longest (EvictM path parent) kind = tt
path_typed longest (AddB path value stamp verifier) kind = kind
path_typed longest (EvictB path stamp) kind = tt
path_typed longest (EvictBM path parent stamp) kind = tt
path_typed longest (Get path value) kind = tt
path_typed longest (Put path value) kind = kind
path_typed longest NextEpoch kind = tt
path_typed longest (Absent path parent) kind = tt

slot_typed : (longest : ℕ) (paths : SlotPaths) (command : Command) → IsOfKind longest command → IsSlotTyped longest (rewritten paths command)
slot_typed longest paths (AddM path value parent) kind = kind
slot_typed longest paths (EvictM path parent) kind = tt
slot_typed longest paths (AddB path value stamp verifier) kind = kind
slot_typed longest paths (EvictB path stamp) kind = tt
slot_typed longest paths (EvictBM path parent stamp) kind = tt
slot_typed longest paths (Get path value) kind = tt
slot_typed longest paths (Put path (values.Blob blob)) kind = kind.1
slot_typed longest paths (Put path (values.Node node)) kind = tt
slot_typed longest paths NextEpoch kind = tt
slot_typed longest paths (Absent path parent) kind = tt

-- the states are alike behind it
pub alike_after : (rules : Rules) (state : State) (slotted : SlotState) (command : Command) (done : Change × State) → IsOfKind rules.scheme.format.longest command → AreAlike state slotted
    → transition rules state command ≡ Ok done → (step : IsFollowed rules slotted state command done) → AreAlike done.1 step.next
alike_after rules state slotted command done kind alike is step =
    let longest = rules.scheme.format.longest in
    let left = path_leaves rules state command done (path_typed longest command kind) alike.distinct is step.fresh in
    let left_in = slot_leaves rules slotted (rewritten (paths_in slotted.slots) command) (done.0, step.next) (slot_typed longest (paths_in slotted.slots) command kind) alike.once step.step
    (fresh_in_both (shown_by state) (shown_in slotted) alike.shown done.0 step.fresh) in
    record {
      clock = step.clock;
      shown = λ path. left.0 path ∙ (same_after (shown_by state) (shown_in slotted) alike.shown done.0 path ∙ sym (left_in.0 path));
      distinct = left.1;
      once = left_in.1;
      room = step.room;
      count = step.count;
    }

-- ---- a log

-- a log that is accepted by path is accepted by slot, with the same events
pub record IsFollowedLog (rules : Rules) (number index : ℕ) (state : State) (slotted : SlotState) (paths : SlotPaths) (commands : List Command) : Type 0 where
  pub can : CanRewriteFrom paths commands
  pub events : events_from (slot_machinery_under rules) number index slotted (rewritten_from paths commands) ≡ events_from (path_machinery_under rules) number index state commands
  pub refusal : refusal_from (slot_machinery_under rules) slotted (rewritten_from paths commands) ≡ None

-- one command more, by what its step was
followed_more : (rules : Rules) (number index : ℕ) (state : State) (slotted : SlotState) (command : Command) (commands : List Command) (step : Step)
    → IsOfKind rules.scheme.format.longest command → AreAlike state slotted → transition rules state command ≡ step
    → ((after : State) (next : SlotState) → AreAlike after next → refusal_from (path_machinery_under rules) after commands ≡ None
    → IsFollowedLog rules number (suc index) after next (paths_in next.slots) commands)
    → refusal_behind step (λ after. refusal_from (path_machinery_under rules) after commands) ≡ None
    → IsFollowedLog rules number index state slotted (paths_in slotted.slots) (command ∷ commands)
unfolding events_from refusal_from
followed_more rules number index state slotted command commands (Err refusal) kind alike is further none = absurd (none-some refusal (sym none))
followed_more rules number index state slotted command commands (Ok done) kind alike is further none =
    let step = followed rules state slotted command done kind alike is in
    let rest = subst (λ (paths : SlotPaths). IsFollowedLog rules number (suc index) done.1 step.next paths commands) step.paths
    (further done.1 step.next (alike_after rules state slotted command done kind alike is step) none) in
    let after = paths_after (paths_in slotted.slots) command in
    record {
      can = (step.can, rest.can);
      events =
          ap (λ (answer : SlotStep). events_behind (slot_machinery_under rules) number index answer
          (λ next. events_from (slot_machinery_under rules) number (suc index) next (rewritten_from after commands))) step.step
          ∙ (ap (λ (events : List Event). record { verifier = number; index = index; at = step.next.clock.at; change = done.0 } ∷ events) rest.events
          ∙ (ap (λ (clock : Reading). record { verifier = number; index = index; at = clock.at; change = done.0 }
          ∷ events_from (path_machinery_under rules) number (suc index) done.1 commands) step.clock
          ∙ sym (ap (λ (answer : Step). events_behind (path_machinery_under rules) number index answer
          (λ next. events_from (path_machinery_under rules) number (suc index) next commands)) is)));
      refusal =
          ap (λ (answer : SlotStep). refusal_behind answer (λ next. refusal_from (slot_machinery_under rules) next (rewritten_from after commands))) step.step
          ∙ rest.refusal;
    }

followed_log : (rules : Rules) (number index : ℕ) (state : State) (slotted : SlotState) (commands : List Command)
    → AllByRecursion (IsOfKind rules.scheme.format.longest) commands → AreAlike state slotted
    → refusal_from (path_machinery_under rules) state commands ≡ None
    → IsFollowedLog rules number index state slotted (paths_in slotted.slots) commands
unfolding events_from refusal_from
followed_log rules number index state slotted [] kinds alike none = record { can = tt; events = refl; refusal = refl }
followed_log rules number index state slotted (command ∷ commands) kinds alike none =
    followed_more rules number index state slotted command commands (transition rules state command) kinds.0 alike refl
    (λ after next same accepted. followed_log rules number (suc index) after next commands kinds.1 same accepted) none

-- ---- the start

none_standing : (count : ℕ) → standing_in (empty_slots count) ≡ []
none_standing zero = refl
none_standing (suc count) = none_standing count

no_paths : (count : ℕ) → paths_in (empty_slots count) ≡ replicate count None
no_paths zero = refl
no_paths (suc count) = ap (λ (paths : SlotPaths). None ∷ paths) (no_paths count)

-- the paths that stand in slots at the start
pub opening_paths_in : (number : ℕ) (header : Header) → paths_in (slot_opening number header).slots ≡ opening_paths number header
opening_paths_in number header = go (number == 0)
  where
    go : (b : Bool) → paths_in (if b then Some (root_entry (wide_of header)) ∷ empty_slots (header.cache - 1) else empty_slots header.cache)
        ≡ (if b then Some (root_of (wide_of header)) ∷ replicate (header.cache - 1) None else replicate header.cache None)
    go true = ap (λ (paths : SlotPaths). Some (root_of (wide_of header)) ∷ paths) (no_paths (header.cache - 1))
    go false = no_paths header.cache

opening_standing : (number : ℕ) (header : Header) → standing_in (slot_opening number header).slots ≡ (opening number header).cache.entries
opening_standing number header = go (number == 0)
  where
    go : (b : Bool) → standing_in (if b then Some (root_entry (wide_of header)) ∷ empty_slots (header.cache - 1) else empty_slots header.cache)
        ≡ (if b then root_entry (wide_of header) ∷ [] else [])
    go true = ap (λ (more : List Entry). root_entry (wide_of header) ∷ more) (none_standing (header.cache - 1))
    go false = none_standing header.cache

opening_distinct : (number : ℕ) (header : Header) → AreDistinct (opening number header).cache.entries
opening_distinct number header = go (number == 0)
  where
    go : (b : Bool) → AreDistinct (if b then root_entry (wide_of header) ∷ [] else [])
    go true = (refl, tt)
    go false = tt

opening_room : (number : ℕ) (header : Header) → 1 ≤ header.cache → length (slot_opening number header).slots ≡ header.cache
opening_room number header some = go (number == 0)
  where
    so_many : (count : ℕ) → length (empty_slots count) ≡ count
    so_many zero = refl
    so_many (suc count) = ap (λ (n : ℕ). suc n) (so_many count)

    go : (b : Bool) → length (if b then Some (root_entry (wide_of header)) ∷ empty_slots (header.cache - 1) else empty_slots header.cache) ≡ header.cache
    go true = omega (arith, so_many (header.cache - 1), some)
    go false = so_many header.cache

pub opening_count : (number : ℕ) (header : Header) → length (opening number header).cache.entries ≡ taken (opening_paths number header)
opening_count number header = go (number == 0)
  where
    go : (b : Bool) → length (if b then root_entry (wide_of header) ∷ [] else [])
        ≡ taken (if b then Some (root_of (wide_of header)) ∷ replicate (header.cache - 1) None else replicate header.cache None)
    go true = ap (λ (n : ℕ). suc n) (sym (taken-none (header.cache - 1)))
    go false = sym (taken-none header.cache)

pub alike_at_first : (number : ℕ) (header : Header) → 1 ≤ header.cache → AreAlike (opening number header) (slot_opening number header)
alike_at_first number header some = record {
  clock = refl;
  shown = λ path. ap (entry_of path) (sym (opening_standing number header));
  distinct = opening_distinct number header;
  once = subst AreDistinct (sym (opening_standing number header)) (opening_distinct number header);
  room = opening_room number header some;
  count = opening_count number header ∙ ap taken (sym (opening_paths_in number header));
}

-- A whole log is followed.
pub whole_log : (scheme : Scheme) (header : Header) (number : ℕ) (commands : List Command) → 1 ≤ header.cache
    → AllByRecursion (IsOfKind scheme.format.longest) commands → path_log_refusal scheme header number commands ≡ None
    → IsFollowedLog (rules_under scheme header number) number 0 (opening number header) (slot_opening number header) (opening_paths number header) commands
whole_log scheme header number commands some kinds none =
    subst (λ (paths : SlotPaths). IsFollowedLog (rules_under scheme header number) number 0 (opening number header) (slot_opening number header) paths commands)
    (opening_paths_in number header)
    (followed_log (rules_under scheme header number) number 0 (opening number header) (slot_opening number header) commands kinds (alike_at_first number header some) none)

-- ---- all logs

-- a log by slots has the events of its commands by path, where the header's commands name slots
pub log_events_rewritten : (scheme : Scheme) (header : Header) (number : ℕ) (commands : List Command) → 1 ≤ header.cache
    → AllByRecursion (IsOfKind scheme.format.longest) commands → path_log_refusal scheme header number commands ≡ None
    → ((commands : List SlotCommand) → log_events scheme header number (map BySlot commands) ≡ slot_log_events scheme header number commands)
    → log_events scheme header number (map BySlot (rewritten_log header number commands)) ≡ path_log_events scheme header number commands
log_events_rewritten scheme header number commands some kinds none told =
    told (rewritten_log header number commands) ∙ (whole_log scheme header number commands some kinds none).events

-- So do all logs.
pub histories_rewritten : (scheme : Scheme) (header : Header) (number : ℕ) (logs : List (List Command)) → 1 ≤ header.cache
    → AllByRecursion (AllByRecursion (IsOfKind scheme.format.longest)) logs → AreAccepted scheme header number logs
    → ((number : ℕ) (commands : List SlotCommand) → log_events scheme header number (map BySlot commands) ≡ slot_log_events scheme header number commands)
    → histories_from scheme header number (map (λ log. map BySlot log) (rewritten_logs header number logs)) ≡ path_histories_from scheme header number logs
histories_rewritten scheme header number [] some kinds accepted told = refl
histories_rewritten scheme header number (log ∷ logs) some kinds accepted told =
    ap (λ (events : List Event). events ∷ histories_from scheme header (suc number) (map (λ log. map BySlot log) (rewritten_logs header (suc number) logs)))
    (log_events_rewritten scheme header number log some kinds.0 accepted.0 (told number))
    ∙ ap (λ (histories : List (List Event)). path_log_events scheme header number log ∷ histories)
    (histories_rewritten scheme header (suc number) logs some kinds.1 accepted.1 told)
