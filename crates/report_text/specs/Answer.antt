-- What a call answers that reads a source and writes to a sink: a text, what of it is due where reading stops, and the
-- status with which it ends.
use Rattle.std.specs.Prelude.{◌≡◌, ◌≢◌, ◌⊎◌, ⊤, ℕ, ◌+◌, ◌-◌, min, List, [], ◌∷◌, length, take, drop, Option, None, Some, IfSome}
use Rattle.fv_outside.specs.Consumed.{TookAtMost, TookJust, TookToEnd, EndsBehind, most_behind}
use Rattle.fv_outside.specs.Faults.{Rose}
use Rattle.fv_outside.specs.Written.{Grows, GrowsByFront}
use Rattle.report_text.specs.declared.status.Status.{Status}
use Rattle.report_text.specs.declared.status.Status.TheVariants.{Memory, ReadFault, WriteFault, InputLimit}
use Rattle.report_text.specs.Kinds.{StatusKind, IsOneOf}
use Rattle.report_text.specs.Kinds as kinds

-- The text that is written, and the status. Of the text the lines that are due are written also where no more can be
-- read: what they say stays, whatever follows the bytes that were taken.
pub record Answer : Type 0 where
  pub text : List ℕ
  pub due : List ℕ
  pub status : Status

-- the answer where so many bytes at the front of its text stand elsewhere: these are left out
abbrev pub answer_behind : ℕ → Answer → Answer
answer_behind count answer = record { text = drop count answer.text; due = drop count answer.due; status = answer.status }

-- the kinds of status that come with a whole answer: all of its text was written
abbrev pub end_kinds : List StatusKind
end_kinds = kinds.done ∷ kinds.bad_bundle ∷ kinds.refused ∷ kinds.unbalanced ∷ kinds.clock_end ∷ kinds.exhibit ∷ []

-- a status that comes with a whole answer
abbrev pub IsEnd : Status → Type 0
IsEnd = IsOneOf end_kinds

-- what a call did to a source: the bytes left, where it tells them, and its count of faults, before and after
pub record Reading : Type 0 where
  pub left : Option (List ℕ)
  pub left_after : Option (List ℕ)
  pub faults : ℕ
  pub faults_after : ℕ

-- what a call did to a sink: the bytes held, where it tells them, and its count of faults, before and after
pub record Writing : Type 0 where
  pub held : Option (List ℕ)
  pub held_after : Option (List ℕ)
  pub faults : ℕ
  pub faults_after : ℕ

-- Where a source tells its bytes, before and after: it holds of those that were taken, up to so many. What is taken past
-- a limit is not read.
abbrev pub OfTaken : ℕ → (List ℕ → Type 0) → Option (List ℕ) → Option (List ℕ) → Type 0
OfTaken most Holds None left = ⊤
OfTaken most Holds (Some bytes) None = ⊤
OfTaken most Holds (Some bytes) (Some left) = Holds (take (min most (length bytes - length left)) bytes)

-- where a source tells its bytes, of which reading ends behind so many: behind that no more were taken than the rest of one read
-- and so many more
abbrev pub StopsNear : ℕ → (List ℕ → ℕ) → Option (List ℕ) → Option (List ℕ) → Type 0
StopsNear more reading_end old new = IfSome old (λ bytes. TookAtMost (reading_end bytes + (more + most_behind)) old new)

-- A call that reads no more than so many bytes of a source and writes what it answers to them. How far it reads to know
-- its answer is a function of the bytes, and it reads on no more than the rest of one read and so many more.
pub record AnswersNear (more : ℕ) (answer : List ℕ → Answer) (reading_end : List ℕ → ℕ) (most : ℕ) (result : Status) (reading : Reading)
    (writing : Writing) : Type 0 where
  -- where it ends with an answer, that is the answer to the source's bytes: the status, and the text that was written
  pub status : IsEnd result → IfSome reading.left (λ bytes. result ≡ (answer bytes).status)
  pub report : IsEnd result → IfSome reading.left (λ bytes. Grows writing.held writing.held_after (answer bytes).text)
  -- where the sink failed it took a front of that text
  pub front : result ≡ WriteFault → IfSome reading.left (λ bytes. GrowsByFront writing.held writing.held_after (answer bytes).text)
  -- where the source failed or gave too much, all that is due by the bytes that were taken was written, and nothing else;
  -- for want of memory a front of that
  pub due : (result ≡ ReadFault) ⊎ (result ≡ InputLimit most)
      → OfTaken most (λ bytes. Grows writing.held writing.held_after (answer bytes).due) reading.left reading.left_after
  pub due_front : result ≡ Memory
      → OfTaken most (λ bytes. GrowsByFront writing.held writing.held_after (answer bytes).due) reading.left reading.left_after
  -- where it answers that the input is too long, the source gave just a byte more than the limit; else no more, but where
  -- what was due behind that byte could not be written
  pub limit : (taken : ℕ) → result ≡ InputLimit taken → (taken ≡ most) × TookJust (most + 1) reading.left reading.left_after
  pub within : result ≢ InputLimit most → result ≢ WriteFault → result ≢ Memory → TookAtMost most reading.left reading.left_after
  pub past : TookAtMost (most + 1) reading.left reading.left_after
  -- nothing is read behind where reading ends: with an answer the bytes up to there were taken, and never more than is said
  -- behind them; and the input is too long only where reading ends behind the limit
  pub reached : IsEnd result → TookToEnd reading_end reading.left reading.left_after
  pub stops : StopsNear more reading_end reading.left reading.left_after
  pub beyond : (taken : ℕ) → result ≡ InputLimit taken → EndsBehind reading_end most reading.left
  -- a fault comes only where the object's own count of faults rose
  pub read_fault : result ≡ ReadFault → Rose reading.faults reading.faults_after
  pub write_fault : result ≡ WriteFault → Rose writing.faults writing.faults_after

-- the same of a call that reads on no more than the rest of one read
abbrev pub AnswersTo : (List ℕ → Answer) → (List ℕ → ℕ) → ℕ → Status → Reading → Writing → Type 0
AnswersTo = AnswersNear 0
