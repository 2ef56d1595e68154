-- The operations of a verifier stand by rising command, at stamps that never fall, and have texts.
use Rattle.std.proofs.Common.{◌≡◌, ℕ, suc, ◌+◌, ◌^◌, ◌<◌, ◌≤◌, Bool, true, false, cond, List, [], ◌∷◌, ◌++◌, filter, refl, sym, subst, arith}
use Rattle.std.specs.List.{AllByRecursion}
use Rattle.tree_keys.specs.Path.{key_bits, tree_of, key_of, IsData}
use Rattle.tree_keys.specs.Bits.{number_of}
use Rattle.tree_keys.proofs.BitsLaws.{number_of-lt}
use Rattle.tree_keys.proofs.TreeLaws.{tree-in}
use Rattle.lamport_clocks.specs.declared.header.Header.{Header}
use Rattle.lamport_clocks.specs.Header.{IsHeader}
use Rattle.lamport_clocks.specs.declared.stamp.Stamp.{Stamp}
use Rattle.lamport_clocks.specs.Reading.{Reading}
use Rattle.record_text.specs.declared.value.Value.{Value}
use Rattle.record_text.specs.declared.value.Value.TheVariants as values
use Rattle.record_text.specs.declared.operation.Operation.{Operation}
use Rattle.record_text.specs.Value.{IsBlob, IsOf}
use Rattle.record_text.specs.Element.{IsStamp}
use Rattle.record_text.specs.Tree.{wide_of}
use Rattle.record_text.specs.Longest.{longest_of}
use Rattle.verifier_cache.specs.declared.entry.Entry.{Entry}
use Rattle.verifier_commands.specs.Change.{Change, did_add_m, did_evict_m, did_add_b, did_evict_b, did_evict_bm, did_get, did_put, did_next_epoch}
use Rattle.verifier_commands.specs.Outcome.{blob_of}
use Rattle.verifier_commands.specs.Event.{Event, operation_at, operations_by}
use Rattle.verifier_commands.specs.Ticks.{Ticks}
use Rattle.verifier_commands.proofs.TickLaws.{up_to-trans, ticks-up_to}
use Rattle.seals.specs.State.{KeptRun}
use Rattle.seals.specs.Run.{bounds_of}
use Rattle.seals.specs.Operation.{IsGoodOperation}
use Rattle.seals.specs.Meaning.{IsNoLater, IsOpen, OperationsRise}
use Rattle.resumed_runs.proofs.EntryTextLemmas.{IsOperand}
use Rattle.resumed_runs.proofs.PathStepLemmas.{OperatesWell}
use Rattle.resumed_runs.proofs.ClockLemmas.{ClockStands, clock-stamp}

-- an operation of the verifier of this number under a header has a text, and its stamp is one that its clock could have
pub record IsOperationWell (header : Header) (number : ℕ) (one : Operation) : Type 0 where
  pub stamp : IsStamp one.stamp
  pub from_first : header.first ≤ one.stamp.epoch
  pub within : one.stamp.counter ≤ header.end
  pub verifier : one.verifier ≡ number
  pub tree : one.wide ≡ wide_of header
  pub key : one.key < 2 ^ key_bits one.wide
  pub value : IsBlob (longest_of header) one.value

-- Such operations stand by rising command, from one number on and below another, at stamps that never fall, from one on and up to another.
abbrev pub StandBetween : Header → ℕ → ℕ → Stamp → ℕ → Stamp → List Operation → Type 0
StandBetween header number low from high to [] = (low ≤ high) × IsNoLater from to
StandBetween header number low from high to (one ∷ more) =
    (low ≤ one.index) × IsNoLater from one.stamp × IsOperationWell header number one × StandBetween header number (suc one.index) one.stamp high to more

-- ---- the operation of an event

key_fits : (path : List Bool) → IsData path → key_of path < 2 ^ key_bits (tree_of path)
key_fits [] whole = absurd whole
key_fits (wide ∷ bits) whole = subst (λ (n : ℕ). number_of bits < 2 ^ n) whole (number_of-lt bits)

blob_fits : (longest : ℕ) (path : List Bool) (value : Value) → IsOf longest path value → IsBlob longest (blob_of value)
blob_fits longest path (values.Blob blob) kind = kind.1
blob_fits longest path (values.Node node) kind = tt

operation_well : (header : Header) (number index : ℕ) (clock : Reading) (change : Change) (put : Bool) (entry : Entry) → IsHeader header → ClockStands header clock → IsOperand (wide_of header) (longest_of header) entry
    → IsOperationWell header number (operation_at (record { verifier = number; index = index; at = clock.at; change = change }) put entry)
operation_well header number index clock change put entry good stands operand = record {
  stamp = clock-stamp header clock good stands;
  from_first = omega (arith, stands.first, stands.fits.from_first);
  within = omega (arith, stands.end, stands.fits.within);
  verifier = refl;
  tree = tree-in (wide_of header) entry.path operand.text.tree;
  key = key_fits entry.path operand.at_data;
  value = blob_fits (longest_of header) entry.path entry.value operand.text.kind;
}

module _ (header : Header) (number high : ℕ) (to : Stamp) where
  abbrev Stand : ℕ → Stamp → List Operation → Type 0
  Stand low from operations = StandBetween header number low from high to operations

  -- ---- where they begin and end

  -- from an earlier command and stamp on
  pub between-earlier : (low later : ℕ) (from after : Stamp) (operations : List Operation) → low ≤ later → IsNoLater from after → Stand later after operations → Stand low from operations
  between-earlier low later from after [] below early stand = (omega (arith, below, stand.0), up_to-trans from after to early stand.1)
  between-earlier low later from after (one ∷ more) below early stand = (omega (arith, below, stand.0), up_to-trans from after one.stamp early stand.1, stand.2, stand.3)

  -- their bounds
  pub between-bounds : (low : ℕ) (from : Stamp) (operations : List Operation) → Stand low from operations → (low ≤ high) × IsNoLater from to
  between-bounds low from [] stand = stand
  between-bounds low from (one ∷ more) stand =
      let further = between-bounds (suc one.index) one.stamp more stand.3 in
      (omega (arith, stand.0, further.0), up_to-trans from one.stamp to stand.1 further.1)

  -- and those that a test keeps
  pub between-filter : (test : Operation → Bool) (low : ℕ) (from : Stamp) (operations : List Operation) → Stand low from operations → Stand low from (filter test operations)
  between-filter test low from [] stand = stand
  between-filter test low from (one ∷ more) stand = go (test one) (between-filter test (suc one.index) one.stamp more stand.3)
    where
      go : (b : Bool) → Stand (suc one.index) one.stamp (filter test more) → Stand low from (cond b (one ∷ filter test more) (filter test more))
      go true further = (stand.0, stand.1, stand.2, further)
      go false further = between-earlier low (suc one.index) from one.stamp (filter test more) (omega (arith, stand.0)) stand.1 further

  -- ---- what they are

  pub between-rise : (low : ℕ) (from : Stamp) (operations : List Operation) → Stand low from operations → OperationsRise operations
  between-rise low from [] stand = tt
  between-rise low from (one ∷ []) stand = tt
  between-rise low from (one ∷ next ∷ more) stand = ((omega (arith, stand.3.0), stand.3.1), between-rise (suc one.index) one.stamp (next ∷ more) stand.3)

  pub between-good : (certified low : ℕ) (from : Stamp) (run : KeptRun) (operations : List Operation) → high ≤ run.accepted → run.accepted < 2 ^ 64 → Stand low from operations
      → AllByRecursion (IsGoodOperation (bounds_of header certified number run)) operations
  between-good certified low from run [] within few stand = tt
  between-good certified low from run (one ∷ more) within few stand =
      let further = between-bounds (suc one.index) one.stamp more stand.3 in (
        record {
          stamp = stand.2.stamp;
          verifier = stand.2.verifier;
          index = omega (arith, further.0, within, few);
          tree = stand.2.tree;
          key = stand.2.key;
          value = stand.2.value;
        },
        between-good certified (suc one.index) one.stamp run more within few stand.3,
      )

  pub between-open : (certified low : ℕ) (from : Stamp) (run : KeptRun) (operations : List Operation) → run.accepted ≡ high → run.at ≡ to → Stand low from operations
      → AllByRecursion (λ one. header.first + certified ≤ one.stamp.epoch) operations → AllByRecursion (IsOpen header certified run) operations
  between-open certified low from run [] accepted at stand each = tt
  between-open certified low from run (one ∷ more) accepted at stand each =
      let further = between-bounds (suc one.index) one.stamp more stand.3 in (
        record {
          accepted = omega (arith, further.0, accepted);
          open_epoch = each.0;
          within = stand.2.within;
          no_later = subst (IsNoLater one.stamp) (sym at) further.1;
        },
        between-open certified (suc one.index) one.stamp run more accepted at stand.3 each.1,
      )

  -- each is of an epoch from the first on
  pub between-first : (low : ℕ) (from : Stamp) (operations : List Operation) → Stand low from operations → AllByRecursion (λ one. header.first + 0 ≤ one.stamp.epoch) operations
  between-first low from [] stand = tt
  between-first low from (one ∷ more) stand = (omega (arith, stand.2.from_first), between-first (suc one.index) one.stamp more stand.3)

  -- ---- one event more

  module _ (index : ℕ) (old new : Reading) (good : IsHeader header) (stands : ClockStands header new) (more : List Operation) (further : Stand (suc index) new.at more) where
    -- what an event did, at the clock behind it
    abbrev event_of : Change → Event
    event_of change = record { verifier = number; index = index; at = new.at; change = change }

    none_done : (change : Change) → Ticks old new change → Stand index old.at more
    none_done change is = between-earlier index (suc index) old.at new.at more (omega arith) (ticks-up_to old new change is) further

    one_done : (change : Change) (put : Bool) (entry : Entry) → Ticks old new change → IsOperand (wide_of header) (longest_of header) entry
        → Stand index old.at (operation_at (event_of change) put entry ∷ more)
    one_done change put entry is operand = (omega arith, ticks-up_to old new change is, operation_well header number index new change put entry good stands operand, further)

    -- Before others its operation stands, if it is one.
    pub event_between : (change : Change) → Ticks old new change → OperatesWell (wide_of header) (longest_of header) change → Stand index old.at (operations_by (event_of change) change ++ more)
    event_between (did_add_m parent after child) is well = none_done (did_add_m parent after child) is
    event_between (did_evict_m parent after child) is well = none_done (did_evict_m parent after child) is
    event_between (did_add_b child element) is well = none_done (did_add_b child element) is
    event_between (did_evict_b child element) is well = none_done (did_evict_b child element) is
    event_between (did_evict_bm parent after child element) is well = none_done (did_evict_bm parent after child element) is
    event_between (did_get entry) is well = one_done (did_get entry) false entry is well
    event_between (did_put before after) is well = one_done (did_put before after) true after is well
    event_between (did_next_epoch sealed) is well = none_done (did_next_epoch sealed) is
