-- What runs that keep operations do as they are fed: what was handed out stays, in the order of epochs, and what was taken leaves no trace.
use Rattle.std.proofs.Common.{◌≡◌, ℕ, suc, ◌+◌, ◌-◌, ◌<◌, ◌≤◌, List, [], ◌++◌, length, filter, ap, arith}
use Rattle.std.specs.Prelude.{max, nat_lt}
use Rattle.lamport_clocks.specs.declared.header.Header.{Header}
use Rattle.merkle_records.specs.Scheme.{Scheme}
use Rattle.record_text.specs.declared.operation.Operation.{Operation}
use Rattle.multiset_sum.specs.declared.part.Part.{Part}
use Rattle.verifier_commands.specs.Machine.{Machine, opening_machine}
use Rattle.verifier_run.specs.Kept.{keeps_operations}
use Rattle.verifier_run.specs.KeptLaws.{operations-of_epoch}
use Rattle.verifier_run.specs.Course.{Course, opening_course}
use Rattle.verifier_run.specs.Progress.{Progress, between_commands, opening_progress, fed, ended}
use Rattle.verifier_run.specs.LogCourse.{log_course}
use Rattle.verifier_run.specs.Order.{operation_epoch, part_epoch, NeverFalls, OneOfEach, HandsOut, clock_of, GoesOn}
use Rattle.verifier_run.specs.Taken.{left_of}
use Rattle.verifier_run.proofs.CourseLemmas as courses
use Rattle.verifier_run.proofs.TraceLemmas as traces
use Rattle.verifier_run.proofs.OrderLemmas as order
use Rattle.verifier_run.proofs.HandOutLemmas as handed
use Rattle.verifier_run.proofs.TakenLemmas as taken

-- Bytes that are fed in two pieces come to what they come to as one.
pub fed_joined : (scheme : Scheme) (progress : Progress Operation) (piece more : List ℕ)
    → fed keeps_operations scheme (fed keeps_operations scheme progress piece) more ≡ fed keeps_operations scheme progress (piece ++ more)
fed_joined scheme progress piece more = courses.fed-joined keeps_operations scheme progress piece more

-- What was handed out stays, and more comes behind it.
pub fed_goes_on : (scheme : Scheme) (progress : Progress Operation) (piece : List ℕ) → GoesOn operation_epoch progress.course (fed keeps_operations scheme progress piece).course
fed_goes_on scheme progress piece = handed.fed_goes_on keeps_operations operation_epoch operations-of_epoch scheme progress piece

-- From its start on a run hands out what its clock lets it.
pub fed_out : (scheme : Scheme) (machine : Machine) (bytes : List ℕ)
    → let course : Course Operation = (fed keeps_operations scheme (between_commands (opening_course machine)) bytes).course in
    HandsOut operation_epoch machine.state.clock (clock_of course) course.items course.parts
fed_out scheme machine bytes = handed.fed_out keeps_operations operation_epoch operations-of_epoch scheme machine bytes

-- With so many parts the clock stands two epochs behind the last of them.
pub clock_of_fed : (scheme : Scheme) (number : ℕ) (header : Header) (bytes : List ℕ)
    → let course : Course Operation = (fed keeps_operations scheme (opening_progress number header) bytes).course in
    0 < length course.parts → (clock_of course).at.epoch ≡ header.first + length course.parts + 1
clock_of_fed scheme number header bytes some = handed.clock_of_fed keeps_operations operation_epoch operations-of_epoch scheme number header bytes some

-- Without what was taken a run goes on as it would have with it.
pub fed_left : (through : ℕ) (scheme : Scheme) (progress : Progress Operation) (piece : List ℕ)
    → suc through < (clock_of progress.course).at.epoch
    → fed keeps_operations scheme (left_of through progress) piece ≡ left_of through (fed keeps_operations scheme progress piece)
fed_left through scheme progress piece past = taken.fed_left through scheme progress piece past

-- And it ends so.
pub ended_left : (through : ℕ) (progress : Progress Operation) → ended (left_of through progress) ≡ left_of through (ended progress)
ended_left through progress = taken.ended_left through progress

abbrev course_in : Progress Operation → Course Operation
course_in progress = progress.course

-- A run that has ended has come to what its whole log comes to.
pub log_is_ended : (scheme : Scheme) (number : ℕ) (header : Header) (log : List ℕ)
    → (ended (fed keeps_operations scheme (opening_progress number header) log)).course ≡ log_course keeps_operations scheme (opening_machine number header) log
log_is_ended scheme number header log = ap course_in (traces.log_comes_to_its_course keeps_operations scheme (opening_machine number header) log)

-- ---- items in the order of their epochs

-- All are behind an epoch.
pub all_after : {X : Type 0} (epoch : X → ℕ) (through low high : ℕ) (xs : List X) → through < low → NeverFalls epoch low high xs
    → filter (λ x. nat_lt through (epoch x)) xs ≡ xs
all_after epoch through low high xs past is = order.all_after epoch through low high xs past is

pub never_falls-from : {X : Type 0} (epoch : X → ℕ) (lower low high : ℕ) (xs : List X) → lower ≤ low → NeverFalls epoch low high xs → NeverFalls epoch lower high xs
never_falls-from epoch lower low high xs below is = order.never_falls-from epoch lower low high xs below is

pub one_of_each-never_falls : (from next : ℕ) (parts : List Part) → OneOfEach from next parts → NeverFalls part_epoch from next parts
one_of_each-never_falls from next parts is = order.one_of_each-never_falls from next parts is

pub first_next : (first : ℕ) → max first (first - 1) ≡ first
first_next first = omega arith

-- Nothing that is fed at the start leaves the start.
pub fed_nothing : (scheme : Scheme) (number : ℕ) (header : Header) → fed keeps_operations scheme (opening_progress number header) [] ≡ opening_progress number header
fed_nothing scheme number header = courses.over-empty keeps_operations scheme (opening_course (opening_machine number header))
