-- What a log comes to, with the certified epochs taken out, stands well.
use Rattle.std.proofs.Common.{◌≡◌, ℕ, zero, suc, ◌+◌, ◌-◌, ◌^◌, ◌<◌, ◌≤◌, nat_lt, Bool, true, false, cond, List, [], ◌∷◌, length, drop, length-drop, filter, Ok, Err, refl, sym, ap, subst, arith}
use Rattle.std.specs.List.{AllByRecursion}
use Rattle.std.proofs.lemmas.Bool.{ltb-true}
use Rattle.lamport_clocks.specs.declared.header.Header.{Header}
use Rattle.lamport_clocks.specs.Header.{IsHeader}
use Rattle.lamport_clocks.specs.Clock.{opening_reading}
use Rattle.record_hash.specs.Functions.{DigestFunctions}
use Rattle.record_hash.specs.Digests.{AreLanes}
use Rattle.multiset_sum.specs.declared.part.Part.{Part}
use Rattle.record_text.specs.declared.operation.Operation.{Operation}
use Rattle.record_text.specs.Fields.{Parsed}
use Rattle.record_text.specs.Format.{LogFormat}
use Rattle.record_text.proofs.FieldLaws.{AreBytes}
use Rattle.log_codec.specs.declared.log_command.LogCommand.{LogCommand}
use Rattle.log_codec.specs.LogCommand.{command_at}
use Rattle.log_codec.specs.Log.{log_behind, log_up_to, read_log}
use Rattle.log_codec.proofs.LogLaws.{read_is_log}
use Rattle.merkle_records.specs.Merkle.{GivesDigests}
use Rattle.merkle_records.specs.Scheme.{Scheme, scheme_of}
use Rattle.verifier_commands.specs.Machine.{opening_machine}
use Rattle.verifier_run.specs.Kept.{keeps_operations}
use Rattle.verifier_run.specs.Course.{Course}
use Rattle.verifier_run.specs.Progress.{course_at_end}
use Rattle.verifier_run.specs.LogCourse.{log_course}
use Rattle.verifier_run.specs.Order.{OneOfEach, sealed_next, clock_of}
use Rattle.verifier_run.proofs.RunLaws.{log_is_ended}
use Rattle.bundle_report.specs.SoFar.{left_from}
use Rattle.bundle_report.proofs.LeftLaws.{run_of, each_of, left-parts}
use Rattle.seals.specs.Meaning.{PartsFrom}
use Rattle.resumed_runs.proofs.EachLemmas.{each-count}
use Rattle.resumed_runs.proofs.OperationLemmas.{StandBetween, between-filter, between-first}
use Rattle.resumed_runs.proofs.MachineLemmas.{MachineStands, IsPartWell, opening_stands, trace_stands}

-- What a verifier's commands have come to stands well: it has accepted no more than this many.
pub record CourseStands (header : Header) (number most : ℕ) (course : Course Operation) : Type 0 where
  pub machine : MachineStands header number course.machine
  pub operations : StandBetween header number 0 (opening_reading header.first header.end).at course.machine.accepted course.machine.state.clock.at course.items
  pub parts : AllByRecursion (IsPartWell header number) course.parts
  pub few : course.machine.accepted ≤ most

-- With so many epochs taken out, all of which it had sealed.
pub record LeftStands (header : Header) (certified number most : ℕ) (course : Course Operation) : Type 0 where
  pub stands : CourseStands header number most course
  pub open_epochs : AllByRecursion (λ one. header.first + certified ≤ one.stamp.epoch) course.items
  pub in_order : PartsFrom (header.first + certified) course.parts
  pub each_sealed : length course.parts ≡ course.machine.state.clock.at.epoch - (header.first + certified + 1)
  pub sealed : 0 < certified → header.first + certified + 1 ≤ course.machine.state.clock.at.epoch

-- ---- the commands of a log

-- no more commands than bytes
few_up_to : (count : ℕ) (format : LogFormat) (bytes : List ℕ) → length (log_up_to count format bytes).commands ≤ count
unfolding log_up_to
few_up_to zero format bytes = omega arith
few_up_to (suc count) format [] = omega arith
few_up_to (suc count) format (byte ∷ bytes) = go (command_at format (byte ∷ bytes)) (few_up_to count format)
  where
    go : (parsed : Parsed LogCommand) → ((rest : List ℕ) → length (log_up_to count format rest).commands ≤ count) → length (log_behind parsed (λ rest. log_up_to count format rest)).commands ≤ suc count
    go (Ok found) further = omega (arith, further found.1)
    go (Err fault) further = omega arith

few_commands : (format : LogFormat) (bytes : List ℕ) → length (read_log format bytes).commands ≤ length bytes
few_commands format bytes = few_up_to (length bytes) format bytes

-- ---- parts

parts_from : (from next : ℕ) (parts : List Part) → OneOfEach from next parts → PartsFrom from parts
parts_from from next [] each = tt
parts_from from next (part ∷ parts) each =
    let one_more : suc from ≡ from + 1 = omega arith in
    (each.0, subst (λ (n : ℕ). PartsFrom n parts) one_more (parts_from (suc from) next parts each.1))

drop_from : (from next count : ℕ) (parts : List Part) → OneOfEach from next parts → PartsFrom (from + count) (drop count parts)
drop_from from next zero parts each =
    let same : from ≡ from + 0 = omega arith in subst (λ (n : ℕ). PartsFrom n parts) same (parts_from from next parts each)
drop_from from next (suc count) [] each = tt
drop_from from next (suc count) (part ∷ parts) each =
    let same : suc from + count ≡ from + suc count = omega arith in subst (λ (n : ℕ). PartsFrom n (drop count parts)) same (drop_from (suc from) next count parts each.1)

-- what holds of each holds of each behind the first so many
every-drop : {X : Type 0} (P : X → Type 0) (count : ℕ) (xs : List X) → AllByRecursion P xs → AllByRecursion P (drop count xs)
every-drop P zero xs all = all
every-drop P (suc count) [] all = tt
every-drop P (suc count) (x ∷ xs) all = every-drop P count xs all.1

-- ---- operations

-- those that are kept are of later epochs
filter_later : (through : ℕ) (next : ℕ) (operations : List Operation) → next ≡ suc through → AllByRecursion (λ one. next ≤ one.stamp.epoch) (filter (λ one. nat_lt through one.stamp.epoch) operations)
filter_later through next [] is = tt
filter_later through next (one ∷ more) is = go (nat_lt through one.stamp.epoch) refl (filter_later through next more is)
  where
    kept : List Operation
    kept = filter (λ other. nat_lt through other.stamp.epoch) more

    go : (b : Bool) → nat_lt through one.stamp.epoch ≡ b → AllByRecursion (λ other. next ≤ other.stamp.epoch) kept → AllByRecursion (λ other. next ≤ other.stamp.epoch) (cond b (one ∷ kept) kept)
    go true later further = (omega (arith, ltb-true through one.stamp.epoch later, is), further)
    go false later further = further

-- ---- a run

module _ (functions : DigestFunctions) (header : Header) (number : ℕ) (good : IsHeader header) (small : header.first < 2 ^ 32) (digests : GivesDigests functions.digest) (lanes : (text : List ℕ) → AreLanes (functions.lanes text))
    (log : List ℕ) (bytes : AreBytes log) where
  abbrev scheme : Scheme
  scheme = scheme_of functions header

  -- what a whole log comes to
  whole_stands : CourseStands header number (length log) (log_course keeps_operations scheme (opening_machine number header) log)
  whole_stands =
      let commands = (read_log scheme.format log).commands in
      let told = trace_stands functions header number good digests lanes (opening_machine number header) commands (opening_stands header number good small) (read_is_log scheme.format log bytes).in_range in
      record {
        machine = told.machine;
        operations = told.operations;
        parts = told.parts;
        few = omega (arith, told.few, few_commands scheme.format log);
      }

  -- the end of a log changes nothing of it but the refusal
  before_end : (course : Course Operation) (held : List ℕ) → CourseStands header number (length log) (course_at_end course held) → CourseStands header number (length log) course
  before_end course [] stands = stands
  before_end course (byte ∷ held) stands = record { machine = stands.machine; operations = stands.operations; parts = stands.parts; few = stands.few }

  -- The run over a log so far.
  pub run_stands : CourseStands header number (length log) (run_of scheme header number log).course
  run_stands =
      let run = run_of scheme header number log in
      before_end run.course run.held (subst (CourseStands header number (length log)) (sym (log_is_ended scheme number header log)) whole_stands)

  -- what is taken out is operations and parts
  taken_stands : (certified : ℕ) → AllByRecursion (IsPartWell header number) (left_from header.first certified (run_of scheme header number log)).course.parts
      → CourseStands header number (length log) (left_from header.first certified (run_of scheme header number log)).course
  taken_stands zero parts = run_stands
  taken_stands (suc count) parts =
      let run = run_of scheme header number log in
      record {
        machine = run_stands.machine;
        operations = between-filter header number run.course.machine.accepted run.course.machine.state.clock.at (λ one. nat_lt (header.first + count) one.stamp.epoch) 0 (opening_reading header.first header.end).at run.course.items run_stands.operations;
        parts = parts;
        few = run_stands.few;
      }

  same_clock : (certified : ℕ) → (left_from header.first certified (run_of scheme header number log)).course.machine.state.clock.at.epoch ≡ (run_of scheme header number log).course.machine.state.clock.at.epoch
  same_clock zero = refl
  same_clock (suc count) = refl

  open_stands : (certified : ℕ) → AllByRecursion (λ one. header.first + certified ≤ one.stamp.epoch) (left_from header.first certified (run_of scheme header number log)).course.items
  open_stands zero =
      let run = run_of scheme header number log in
      between-first header number run.course.machine.accepted run.course.machine.state.clock.at 0 (opening_reading header.first header.end).at run.course.items run_stands.operations
  open_stands (suc count) = filter_later (header.first + count) (header.first + suc count) (run_of scheme header number log).course.items (omega arith)

  -- And once so many epochs are taken out of it that it had sealed.
  pub left_stands : (certified : ℕ) → header.first + certified ≤ sealed_next (clock_of (run_of scheme header number log).course)
      → LeftStands header certified number (length log) (left_from header.first certified (run_of scheme header number log)).course
  left_stands certified within =
      let run = run_of scheme header number log in
      let left = left_from header.first certified run in
      let is = left-parts scheme header number log certified in
      let each = each_of scheme header number log in
      let count = each-count header.first (sealed_next (clock_of run.course)) run.course.parts each in
      let clock = run_stands.machine.clock in
      let first = clock.first in
      let from_first = clock.fits.from_first in
      let same = same_clock certified in
      record {
        stands = taken_stands certified (subst (AllByRecursion (IsPartWell header number)) (sym is) (every-drop (IsPartWell header number) certified run.course.parts run_stands.parts));
        open_epochs = open_stands certified;
        in_order = subst (PartsFrom (header.first + certified)) (sym is) (drop_from header.first (sealed_next (clock_of run.course)) certified run.course.parts each);
        each_sealed = omega (arith, ap (λ (parts : List Part). length parts) is, length-drop certified run.course.parts, count, first, from_first, same, within);
        sealed = λ some. omega (arith, some, count, first, from_first, same, within);
      }
