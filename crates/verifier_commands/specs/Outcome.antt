-- What an accepted command hands up: the part of a change that sums and answers are made from.
use Rattle.std.specs.Prelude.{ℕ, Bool, List, Option, None, Result, Ok, Err}
use Rattle.tree_keys.specs.Path.{tree_of, key_of}
use Rattle.record_text.specs.declared.value.Value.{Value}
use Rattle.record_text.specs.declared.value.Value.TheVariants as values
use Rattle.record_text.specs.declared.refusal.Refusal.{Refusal}
use Rattle.record_text.specs.declared.element.Element.{Element}
use Rattle.verifier_commands.specs.Change.{Change, did_add_m, did_evict_m, did_add_b, did_evict_b, did_evict_bm, did_get, did_put, did_next_epoch}

-- what an accepted command hands up, named after the command
pub data Outcome : Type 0 where
  -- a record came in by its digest
  AddM : Outcome
  -- a record went out into its parent
  EvictM : Outcome
  -- a record came back that had been evicted as this element
  AddB : Element → Outcome
  -- a record went out as this element, and one out of its parent
  EvictB : Element → Outcome
  EvictBM : Element → Outcome
  -- the value of a key was read, and written; before the key stands of which tree it is
  Get : Bool → ℕ → Option (List ℕ) → Outcome
  Put : Bool → ℕ → Option (List ℕ) → Outcome
  -- the clock went to the next epoch, which seals this one, if any
  NextEpoch : Option ℕ → Outcome

-- the data value that a value is
abbrev pub blob_of : Value → Option (List ℕ)
blob_of (values.Blob blob) = blob
blob_of (values.Node node) = None

-- what a change hands up
abbrev pub outcome_of : Change → Outcome
outcome_of (did_add_m parent after child) = AddM
outcome_of (did_evict_m parent after child) = EvictM
outcome_of (did_add_b child element) = AddB element
outcome_of (did_evict_b child element) = EvictB element
outcome_of (did_evict_bm parent after child element) = EvictBM element
outcome_of (did_get entry) = Get (tree_of entry.path) (key_of entry.path) (blob_of entry.value)
outcome_of (did_put before after) = Put (tree_of after.path) (key_of after.path) (blob_of after.value)
outcome_of (did_next_epoch sealed) = NextEpoch sealed

-- a step by what it hands up, whatever the state
abbrev pub told : {S : Type 0} → Result (Change × S) Refusal → Result (Outcome × S) Refusal
told (Ok done) = Ok (outcome_of done.0, done.1)
told (Err refusal) = Err refusal
