-- What a verifier does in a close's round: its run takes its log, and it hands in, by its passes, what the run has sealed.
use Rattle.std.specs.Prelude.{◌≡◌, ℕ, ◌+◌, ◌<◌, ◌≤◌, ◌^◌, false, List, [], length, get_or, slice_get, None, Some}
use Rattle.record_hash.specs.Functions.{DigestFunctions}
use Rattle.merkle_records.specs.Scheme.{scheme_of}
use Rattle.multiset_sum.specs.declared.part.Part.{Part}
use Rattle.record_text.specs.declared.operation.Operation.{Operation}
use Rattle.verifier_run.specs.Kept.{keeps_operations}
use Rattle.verifier_run.specs.Progress.{Progress, fed, weight}
use Rattle.epoch_book.specs.declared.book.EpochBook.{EpochBook}
use Rattle.epoch_book.specs.declared.pass.Pass.{Pass}
use Rattle.epoch_book.specs.Passes.{IsPassOf, number_of, part_of}
use Rattle.certified_epochs.specs.declared.fed_run.FedRun.{FedRun}
use Rattle.certified_epochs.specs.Turn.{AreFed}
use Rattle.host_rounds.specs.Feeding.{Reads}

-- what the verifier of this number logged in a round
abbrev pub log_of : ℕ → List (List ℕ) → List ℕ
log_of number round = get_or round number []

-- all parts that a run still has are of the verifier of this number, with counts that can be added up
abbrev pub HasPartsOf : ℕ → Progress Operation → Type 0
HasPartsOf number run =
    (index : ℕ) (part : Part) → slice_get run.course.parts index ≡ Some part
    → (part.verifier ≡ number) × (part.added.count < 2 ^ 25) × (part.evicted.count < 2 ^ 25)

-- so it is of the run of the verifier of this number, once it took its log of a round
abbrev pub SealsOwn : DigestFunctions → ℕ → List (List ℕ) → FedRun → Type 0
SealsOwn functions number round run =
    HasPartsOf number (fed keeps_operations (scheme_of functions run.run.course.machine.header) run.run (log_of number round))

-- The run of the verifier of this number can take its log of a round, and what it then has may be handed in.
pub record CanTake (functions : DigestFunctions) (number : ℕ) (round : List (List ℕ)) (run : FedRun) : Type 0 where
  pub there : number < length round
  pub room : weight run.run + length (log_of number round) < 2 ^ 63
  pub parts : SealsOwn functions number round run

-- It took it, unless memory was wanting.
pub record HasRead (functions : DigestFunctions) (number : ℕ) (round : List (List ℕ)) (old new : FedRun) : Type 0 where
  pub takes : new.is_starved ≡ false → Reads functions (log_of number round) old new
  pub weight_is : weight new.run ≤ weight old.run + length (log_of number round)

-- All runs took a round, and memory was wanting for none.
pub record HaveAllTaken (functions : DigestFunctions) (round : List (List ℕ)) (olds news : List FedRun) : Type 0 where
  pub count : length news ≡ length olds
  pub each : (number : ℕ) (default : FedRun) → number < length olds → HasRead functions number round (get_or olds number default) (get_or news number default)
  pub are_fed : AreFed news

-- the pass of the verifier of this number, by which nothing was handed in
pub record IsNewPass (book : EpochBook) (number : ℕ) (pass : Pass) : Type 0 where
  pub of_book : IsPassOf book pass
  pub number_is : number_of pass ≡ number
  pub empty : part_of pass ≡ None

-- the passes of the verifier of this number, one of each book, by which nothing was handed in
pub record AreNewPasses (books : List EpochBook) (number : ℕ) (passes : List Pass) : Type 0 where
  pub count : length passes ≡ length books
  pub each : (index : ℕ) (book : EpochBook) (pass : Pass) → index < length books → IsNewPass (get_or books index book) number (get_or passes index pass)

-- The pass of the verifier of this number, by which it handed in what its run has of the epoch at this place, if the run has
-- sealed it and memory was not wanting.
pub record HasHandedIn (book : EpochBook) (index number : ℕ) (run : FedRun) (pass : Pass) : Type 0 where
  pub of_book : IsPassOf book pass
  pub number_is : number_of pass ≡ number
  pub part : run.is_starved ≡ false → part_of pass ≡ slice_get run.run.course.parts index

-- The passes of the verifier of this number, one of each book: by the first it handed in what its run has of the first epoch that it
-- still has parts of, by the second what it has of the next one, and so on. Of an epoch that the run has not sealed it handed in nothing.
pub record HaveHandedIn (books : List EpochBook) (number : ℕ) (run : FedRun) (passes : List Pass) : Type 0 where
  pub count : length passes ≡ length books
  pub each : (index : ℕ) (book : EpochBook) (pass : Pass) → index < length books
      → HasHandedIn (get_or books index book) index number run (get_or passes index pass)
