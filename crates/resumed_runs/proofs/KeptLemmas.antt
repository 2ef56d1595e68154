-- What the bounds of a seal say of a verifier is what a run goes on from, and what it needs so that it can be certified.
use Rattle.std.proofs.Common.{◌≡◌, ℕ, suc, ◌+◌, ◌-◌, ◌<◌, ◌≤◌, true, false, List, [], ◌∷◌, length, inl, inr, refl, sym, ◌∙◌, subst, arith}
use Rattle.std.specs.List.{AllByRecursion}
use Rattle.std.proofs.lemmas.Bool.{cases_lt}
use Rattle.lamport_clocks.specs.declared.header.Header.{Header}
use Rattle.lamport_clocks.specs.Header.{IsHeader, names_paths}
use Rattle.multiset_sum.specs.declared.part.Part.{Part}
use Rattle.record_text.specs.declared.operation.Operation.{Operation}
use Rattle.stamp_order.specs.Merged.{comes_before, IsMerged}
use Rattle.stamp_order.specs.Operations.{moment_of}
use Rattle.stamp_order.proofs.InOrderLaws.{every-weaker}
use Rattle.verifier_cache.specs.Cache.{AreDistinct}
use Rattle.verifier_cache.specs.Listed.{entries_in, SlotsRise}
use Rattle.seals.specs.State.{KeptRun}
use Rattle.seals.specs.Run.{bounds_of, IsGoodRun}
use Rattle.seals.specs.Sum.{IsGoodPart}
use Rattle.seals.specs.Operation.{IsGoodOperation}
use Rattle.seals.specs.Seal.{AreGoodRuns}
use Rattle.seals.specs.Meaning.{IsClock, IsNoLater, IsOpen, OperationsRise, PartsFrom, AreWithin}
use Rattle.verifier_commands.specs.Machine.{AreBounded}
use Rattle.verifier_commands.proofs.TickLaws.{up_to-trans, up_to-epoch}
use Rattle.verifier_run.specs.Order.{operation_epoch, part_epoch, NeverFalls, OneOfEach, sealed_next, StandsInOrder}
use Rattle.verifier_run.specs.Sealed.{sums_of, clock_at, run_from, CanGoOn}
use Rattle.verifier_run.proofs.RunLaws.{never_falls-from, one_of_each-never_falls}
use Rattle.resumed_runs.specs.Base.{IsOwn, IsDoneBy, CanBeCertified, AllCanBeCertified}
use Rattle.resumed_runs.specs.Kept.{runs_from_kept}
use Rattle.resumed_runs.proofs.CommandLemmas.{not_before}

-- what the bounds say, under a good header
pub record Says (header : Header) (certified taken number : ℕ) (kept : KeptRun) : Type 0 where
  pub header_good : IsHeader header
  pub good : IsGoodRun header certified taken number kept
  pub clock : IsClock header certified taken kept.at kept.accepted
  pub few_entries : length kept.entries ≤ header.cache
  pub distinct : names_paths header ≡ true → AreDistinct (entries_in kept.entries)
  pub by_slot : names_paths header ≡ false → SlotsRise 0 header.cache kept.entries
  pub sums : AreWithin header kept
  pub parts : PartsFrom (header.first + certified) kept.parts
  pub each_sealed : length kept.parts ≡ kept.at.epoch - (header.first + certified + 1)
  pub operations : AllByRecursion (IsOpen header certified kept) kept.operations
  pub rising : OperationsRise kept.operations

-- ---- parts

parts_each : (from next : ℕ) (parts : List Part) → PartsFrom from parts → next ≡ from + length parts → OneOfEach from next parts
parts_each from next [] rise count = omega (arith, count)
parts_each from next (part ∷ parts) rise count =
    let one : from + 1 ≡ suc from = omega arith in
    (rise.0, parts_each (suc from) next parts (subst (λ (n : ℕ). PartsFrom n parts) one rise.1) (omega (arith, count)))

-- ---- operations

-- from an operation on, their epochs do not fall
falls_from : (low high : ℕ) (one : Operation) (more : List Operation) → low ≤ one.stamp.epoch → OperationsRise (one ∷ more)
    → AllByRecursion (λ op. op.stamp.epoch ≤ high) (one ∷ more) → NeverFalls operation_epoch low high (one ∷ more)
falls_from low high one [] below rise within = (below, within.0)
falls_from low high one (next ∷ more) below rise within =
    (below, falls_from one.stamp.epoch high next more (up_to-epoch one.stamp next.stamp rise.0.1) rise.1 within.1)

never_fall : (high : ℕ) (ops : List Operation) → OperationsRise ops → AllByRecursion (λ op. op.stamp.epoch ≤ high) ops → NeverFalls operation_epoch 0 high ops
never_fall high [] rise within = omega arith
never_fall high (one ∷ more) rise within = falls_from 0 high one more (omega arith) rise within

-- an operation of the same verifier, in a later command, at a stamp that is no earlier
abbrev IsBehind : Operation → Operation → Type 0
IsBehind one other = (one.index < other.index) × IsNoLater one.stamp other.stamp

all_behind : (one : Operation) (more : List Operation) → OperationsRise (one ∷ more) → AllByRecursion (IsBehind one) more
all_behind one [] rise = tt
all_behind one (next ∷ more) rise = (
  (rise.0.0, rise.0.1),
  every-weaker (IsBehind next) (IsBehind one)
      (λ other behind. (omega (arith, behind.0, rise.0.0), up_to-trans one.stamp next.stamp other.stamp rise.0.1 behind.1)) more
      (all_behind next more rise.1),
)

rest_rises : (one : Operation) (more : List Operation) → OperationsRise (one ∷ more) → OperationsRise more
rest_rises one [] rise = tt
rest_rises one (next ∷ more) rise = rise.1

-- what holds of each in two ways
both : {X : Type 0} (P Q : X → Type 0) (xs : List X) → AllByRecursion P xs → AllByRecursion Q xs → AllByRecursion (λ x. P x × Q x) xs
both P Q [] ps qs = tt
both P Q (x ∷ xs) ps qs = ((ps.0, qs.0), both P Q xs ps.1 qs.1)

merged_rising : (number : ℕ) (ops : List Operation) → AllByRecursion (λ op. op.verifier ≡ number) ops → OperationsRise ops → IsMerged moment_of ops
merged_rising number [] own rise = tt
merged_rising number (one ∷ more) own rise = (
  every-weaker (λ op. (op.verifier ≡ number) × IsBehind one op) (λ op. comes_before moment_of op one ≡ false)
      (λ op is. not_before (moment_of one) (moment_of op) (is.0 ∙ sym own.0) (omega (arith, is.1.0)) is.1.1) more
      (both (λ op. op.verifier ≡ number) (IsBehind one) more own.1 (all_behind one more rise)),
  merged_rising number more own.1 (rest_rises one more rise),
)

-- ---- a verifier

module _ (header : Header) (certified taken number : ℕ) (kept : KeptRun) (says : Says header certified taken number kept) where
  next_is : sealed_next (clock_at header kept) ≡ header.first + certified + length kept.parts
  next_is =
      let from_first = says.clock.from_first in
      let count = says.each_sealed in
      elim (cases_lt 0 certified) [
        | inl some ↦ let sealed = says.clock.sealed some in omega arith
        | inr none ↦ omega arith
      ]

  each : OneOfEach (header.first + certified) (sealed_next (clock_at header kept)) kept.parts
  each = parts_each (header.first + certified) (sealed_next (clock_at header kept)) kept.parts says.parts next_is

  bounded : AreBounded (sums_of kept) (clock_at header kept)
  bounded = record {
    end = says.header_good.end;
    counter = says.clock.within;
    added = says.sums.added;
    evicted = says.sums.evicted;
    added_before = says.sums.added_before;
    evicted_before = says.sums.evicted_before;
  }

  in_order : StandsInOrder operation_epoch (clock_at header kept) kept.operations kept.parts
  in_order = record {
    items =
        never_fall kept.at.epoch kept.operations says.rising
        (every-weaker (IsOpen header certified kept) (λ op. op.stamp.epoch ≤ kept.at.epoch) (λ op is. up_to-epoch op.stamp kept.at is.no_later)
        kept.operations says.operations);
    parts =
        never_falls-from part_epoch 0 (header.first + certified) (sealed_next (clock_at header kept)) kept.parts (omega arith)
        (one_of_each-never_falls (header.first + certified) (sealed_next (clock_at header kept)) kept.parts each);
  }

  -- A run can go on from it.
  pub says-on : CanGoOn header kept
  says-on = record {
    by_path = says.distinct;
    within = λ by_path. says.few_entries;
    by_slot = says.by_slot;
    from_first = says.clock.from_first;
    bounded = bounded;
    in_order = in_order;
  }

  own_part : (part : Part) → IsGoodPart (bounds_of header certified number kept) part → IsOwn number part
  own_part part is =
      let end = says.header_good.end in
      let added = is.added.within in
      let evicted = is.evicted.within in
      record { verifier = is.verifier; added = omega arith; evicted = omega arith }

  -- And the run can be certified.
  pub says-certified : CanBeCertified (header.first + certified) number (run_from number header kept)
  says-certified = record {
    number_is = refl;
    bounded = bounded;
    each = each;
    own = every-weaker (IsGoodPart (bounds_of header certified number kept)) (IsOwn number) own_part kept.parts says.good.parts;
    done =
        every-weaker (λ op. IsGoodOperation (bounds_of header certified number kept) op × IsOpen header certified kept op)
        (IsDoneBy number (run_from number header kept).course.machine)
        (λ op is. record { verifier = is.0.verifier; accepted = is.1.accepted; no_later = is.1.no_later }) kept.operations
        (both (IsGoodOperation (bounds_of header certified number kept)) (IsOpen header certified kept) kept.operations says.good.operations says.operations);
    in_order =
        merged_rising number kept.operations
        (every-weaker (IsGoodOperation (bounds_of header certified number kept)) (λ op. op.verifier ≡ number) (λ op is. is.verifier) kept.operations says.good.operations)
        says.rising;
  }

-- ---- all verifiers

-- So it is with what is kept of verifiers one by one.
pub all-certified : (header : Header) (certified taken : ℕ)
    → ((number : ℕ) (kept : KeptRun) → IsGoodRun header certified taken number kept → CanBeCertified (header.first + certified) number (run_from number header kept))
    → (number : ℕ) (runs : List KeptRun) → AreGoodRuns header certified taken number runs
    → AllCanBeCertified (header.first + certified) number (runs_from_kept header number runs)
all-certified header certified taken one number [] good = tt
all-certified header certified taken one number (kept ∷ more) good = (one number kept good.0, all-certified header certified taken one (suc number) more good.1)
