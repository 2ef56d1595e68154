-- What a request does at the end of its chain: it reads or writes the value of its key.
use Rattle.std.proofs.Common.{◌≡◌, ℕ, Bool, true, false, not, List, [], ◌∷◌, ◌++◌, Option, Ok, if◌then◌else◌, refl, ap}
use Rattle.tree_keys.proofs.PathLaws.{same_path-self}
use Rattle.tree_keys.proofs.SideLaws.{is_prefix-self}
use Rattle.tree_keys.proofs.TreeLaws.{data-is}
use Rattle.tree_keys.specs.Path.{IsData, is_data, key_path}
use Rattle.lamport_clocks.specs.Reading.{Reading}
use Rattle.record_text.specs.declared.request.Request.{Request}
use Rattle.record_text.specs.declared.value.Value.{Value}
use Rattle.record_text.specs.declared.value.Value.TheVariants as values
use Rattle.record_text.specs.declared.refusal.Refusal.TheVariants as refusals
use Rattle.record_text.specs.Same.{same_value}
use Rattle.record_text.proofs.SameTestLaws.{same_value-self}
use Rattle.log_codec.specs.declared.command.Command.TheVariants.{Get, Put}
use Rattle.verifier_cache.specs.declared.entry.Entry.{Entry}
use Rattle.verifier_cache.specs.declared.entry.Hold.{Hold}
use Rattle.verifier_cache.specs.Entry.{new_entry}
use Rattle.verifier_cache.specs.Cache.{entry_of}
use Rattle.verifier_commands.specs.State.{with_entries}
use Rattle.verifier_commands.specs.Change.{Change, did_get, did_put}
use Rattle.verifier_commands.specs.Transition.{Rules}
use Rattle.host_plan.specs.Request.{command_of, value_after}
use Rattle.host_laws.specs.Running.{Told, Access, added_told, evicted_told, accesses_told}
use Rattle.host_laws.specs.Carried.{carried}
use Rattle.host_laws.proofs.StepLemmas.{test-passed, need-there}
use Rattle.host_laws.proofs.RunLaws.{run-one}
use Rattle.host_laws.proofs.StandingLemmas.{entry_of-last, replaced-last}
use Rattle.host_laws.proofs.WorksLaws.{standing, Works}

-- a whole path is a data path
is_whole : (path : List Bool) → IsData path → not (is_data path) ≡ false
is_whole path whole = ap (λ (b : Bool). not b) (data-is path whole)

-- reading the value that is there
works_get : (rules : Rules) (at : List Bool) (hold : Hold) (value : Value) (clock : Reading) → IsData at
    → Works rules 0 at hold value clock (Get at value ∷ []) ((clock.at, did_get (new_entry at value hold)) ∷ []) value clock
works_get rules at hold value clock whole front room clear roomy =
    run-one rules (standing front room clock (new_entry at value hold)) (Get at value) _ _
    (need-there (entry_of at (front ++ new_entry at value hold ∷ [])) refusals.NotCached _ _ (new_entry at value hold)
    (entry_of-last front (new_entry at value hold) (clear at (is_prefix-self at)))
    (test-passed (not (is_data at)) refusals.NotData _ _ (is_whole at whole)
    (test-passed (not (same_value value value)) refusals.WrongValue _ _ (ap (λ (b : Bool). not b) (same_value-self value)) refl)))

-- writing another
works_put : (rules : Rules) (at : List Bool) (hold : Hold) (old new : Value) (clock : Reading) → IsData at
    → Works rules 0 at hold old clock (Put at new ∷ []) ((clock.at, did_put (new_entry at old hold) (new_entry at new hold)) ∷ []) new clock
works_put rules at hold old new clock whole front room clear roomy =
    run-one rules (standing front room clock (new_entry at old hold)) (Put at new) _ _
    (need-there (entry_of at (front ++ new_entry at old hold ∷ [])) refusals.NotCached _ _ (new_entry at old hold)
    (entry_of-last front (new_entry at old hold) (clear at (is_prefix-self at)))
    (test-passed (not (is_data at)) refusals.NotData _ _ (is_whole at whole)
    (ap (λ (entries : List Entry). Ok (did_put (new_entry at old hold) (new_entry at new hold), with_entries (standing front room clock (new_entry at old hold)) entries))
    (replaced-last front (new_entry at old hold) (new_entry at new hold) (clear at (is_prefix-self at)) (same_path-self at)))))

-- what a request does to its key's entry
abbrev pub change_by : Request → List Bool → Hold → Value → Change
change_by request at hold found =
    if request.put then did_put (new_entry at found hold) (new_entry at (values.Blob request.value) hold) else did_get (new_entry at found hold)

abbrev pub told_request : Request → List Bool → Hold → Value → Reading → Told
told_request request at hold found clock = (clock.at, change_by request at hold found) ∷ []

-- the access of a request for a key of a tree that finds this value
abbrev pub access_by : Bool → Request → Value → Access
access_by wide request found = record { put = request.put; path = key_path wide request.key; value = value_after request found }

-- what it is to stand at the end of a chain
pub record IsEnd (rules : Rules) (wide : Bool) (at : List Bool) (found : Value) (clock : Reading) (request : Request) (hold : Hold) : Type 0 where
  pub works : Works rules 0 at hold found clock (command_of wide request found ∷ []) (told_request request at hold found clock) (value_after request found) clock
  pub added : added_told (told_request request at hold found clock) ≡ []
  pub evicted : evicted_told (told_request request at hold found clock) ≡ []
  pub accesses : accesses_told (told_request request at hold found clock) ≡ access_by wide request found ∷ []
  pub carried_none : (path : List Bool) → carried path (told_request request at hold found clock) ≡ []

-- A request works at its key.
works_parts : (rules : Rules) (wide : Bool) (found : Value) (clock : Reading) (put : Bool) (key : ℕ) (value : Option (List ℕ)) (hold : Hold)
    → IsData (key_path wide key)
    → IsEnd rules wide (key_path wide key) found clock (record { put = put; key = key; value = value }) hold
works_parts rules wide found clock true key value hold whole = record {
  works = works_put rules (key_path wide key) hold found (values.Blob value) clock whole;
  added = refl;
  evicted = refl;
  accesses = refl;
  carried_none = λ path. refl;
}
works_parts rules wide found clock false key value hold whole = record {
  works = works_get rules (key_path wide key) hold found clock whole;
  added = refl;
  evicted = refl;
  accesses = refl;
  carried_none = λ path. refl;
}

pub works_request : (rules : Rules) (wide : Bool) (found : Value) (clock : Reading) (request : Request) (hold : Hold)
    → IsData (key_path wide request.key)
    → IsEnd rules wide (key_path wide request.key) found clock request hold
works_request rules wide found clock request hold whole = works_parts rules wide found clock request.put request.key request.value hold whole
