-- How a check ends behind a batch.
use Rattle.std.proofs.Common.{◌≡◌, ◌⊎◌, ℕ, ◌+◌, ◌-◌, ◌<◌, ◌≤◌, min, List, [], length, take, drop, ⊎_elim, Option, None, Some, IfSome, Result, Ok, Err, inl, inr, refl, sym, ap, subst, length-drop, arith}
use Rattle.std.proofs.lemmas.Bool.{cases_lt}
use Rattle.fv_outside.specs.Consumed.{EndsBehind, TookAtMost, TookJust, TookToEnd, most_behind}
use Rattle.fv_outside.specs.Failures.{FailsByWriting}
use Rattle.fv_outside.specs.Faults.{Rose}
use Rattle.fv_outside.specs.Written.{Grows, GrowsByFront}
use Rattle.record_hash.specs.Functions.{DigestFunctions}
use Rattle.lamport_clocks.specs.declared.header.Header.{Header}
use Rattle.lamport_clocks.specs.Header.{IsHeader}
use Rattle.bundle_frames.specs.declared.coming.Next.{Next}
use Rattle.fv_outside.specs.declared.failure.Failure.{Failure}
use Rattle.fv_outside.specs.declared.failure.Failure.TheVariants as failures
use Rattle.bundle_frames.specs.Extent.{reading_end}
use Rattle.bundle_frames.specs.Reading.{Reading, ahead, end_ahead, HasRead, ReadsAs}
use Rattle.bundle_frames.proofs.ReadingLaws.{HasRead-then, ReadsAs-back, TookAtMost-from_read}
use Rattle.report_text.specs.declared.status.Status.{Status}
use Rattle.report_text.specs.declared.status.Status.TheVariants as statuses
use Rattle.report_text.specs.declared.ending.BundleEnd.{BundleEnd}
use Rattle.report_text.specs.declared.ending.BundleEnd.TheVariants as bundles
use Rattle.report_text.specs.Ending.{status_of, failure_status}
use Rattle.report_text.specs.Answer.{Answer, answer_behind, IsEnd, OfTaken, StopsNear, Writing, AnswersNear}
use Rattle.bundle_report.specs.Logs.{joined_from}
use Rattle.bundle_report.specs.Logged.{Logged, logged_of}
use Rattle.base_words.specs.declared.memory.Memory.{Memory}
use Rattle.check_core.specs.declared.batch.Filled.{Filled}
use Rattle.check_core.specs.declared.batch.Filled.TheVariants.{Whole, End, Stopped}
use Rattle.check_core.specs.Asked.{Asked, asked_by, asked_answer}
use Rattle.check_core.specs.Intake.{behind_at}
use Rattle.check_core.specs.Stream.{HasCome, lines_due}
use Rattle.report_text.proofs.AnsweringLaws.{near-end, near-read_fault, near-limit, near-memory, near-write_fault}
use Rattle.check_core.proofs.StreamLemmas.{reads_on, reads_all, reads_taken, same_left, near-more, due_spent, due_front, text_front}

-- ---- how much was taken

-- of which the first so many count
pub of_taken : (Holds : List ℕ → Type 0) (most n read : ℕ) (x y : Option (List ℕ)) → HasRead n x y → read ≡ min most n
    → IfSome x (λ bytes. Holds (take read bytes)) → OfTaken most Holds x y
of_taken Holds most n read None y having_read is holds = tt
of_taken Holds most n read (Some bytes) None having_read is holds = absurd having_read
of_taken Holds most n read (Some bytes) (Some left) having_read is holds =
    let size = ap length having_read.1 in
    let size' = length-drop n bytes in
    let same : read ≡ min most (length bytes - length left) = omega (arith, having_read.0, size, size', is) in
    subst (λ (k : ℕ). Holds (take k bytes)) same holds

-- however reading stops, no more was taken behind the end than the rest of one piece and so many more
pub stops_more : (more n : ℕ) (x y : Option (List ℕ)) (f : List ℕ → ℕ) → HasRead n x y
    → (0 < n → IfSome x (λ bytes. n ≤ f bytes + (more + most_behind))) → StopsNear more f x y
stops_more more n None y f read near = tt
stops_more more n (Some bytes) None f read near = absurd read
stops_more more n (Some bytes) (Some rest) f read near =
    let size = ap length read.1 in
    let size' = length-drop n bytes in
    ⊎_elim (λ some. omega (arith, near some, read.0, size, size')) (λ none. omega (arith, none, read.0, size, size')) (cases_lt 0 n)

near_behind : (more limit : ℕ) (x : Option (List ℕ)) (f : List ℕ → ℕ) → IfSome x (λ bytes. limit < f bytes)
    → IfSome x (λ bytes. limit + 1 ≤ f bytes + (more + most_behind))
near_behind more limit None f behind = tt
near_behind more limit (Some bytes) f behind = omega (arith, behind)

-- So much was taken of a source, of which no more than the limit was read, and no more than that and a byte.
pub record Took (limit more : ℕ) (left left_then : Option (List ℕ)) (new : Reading) : Type 0 where
  pub count : ℕ
  pub having_read : HasRead count left left_then
  pub read : new.taken ≡ min limit count
  pub most : count ≤ limit + 1
  pub stops : StopsNear more reading_end left left_then

module _ (limit : ℕ) (left left_now left_then : Option (List ℕ)) (faults faults_now more : ℕ) (logs : List (List ℕ))
    (old new : Reading) (come : HasCome left faults more logs old left_now faults_now) (rises : old.taken ≤ new.taken) (same : new.limit ≡ limit) (within : new.taken ≤ new.limit)
    (near : old.taken < new.taken → IfSome left_now (λ bytes. new.taken ≤ end_ahead old bytes + most_behind)) where
  -- no more than the limit
  pub took_within : HasRead (new.taken - old.taken) left_now left_then → Took limit more left left_then new
  took_within having_read = record {
    count = new.taken;
    having_read = HasRead-then _ _ _ _ _ _ come.having_read having_read (omega (arith, rises));
    read = omega (arith, within, same);
    most = omega (arith, within, same);
    stops =
        stops_more more _ left left_then reading_end (HasRead-then _ _ _ _ _ _ come.having_read having_read (omega (arith, rises)))
        (near-more left left_now faults faults_now more logs old new come rises near);
  }

  -- where reading ends lies behind the limit
  pub ends_behind : IfSome left_now (λ bytes. new.limit < end_ahead old bytes) → EndsBehind reading_end limit left
  ends_behind beyond =
      subst (λ (most : ℕ). EndsBehind reading_end most left) same
      (ReadsAs-back (λ (end : ℕ). new.limit < end) _ _ _ _ _ come.having_read come.extent beyond)

  -- a byte past the limit
  pub took_past : HasRead (new.limit + 1 - old.taken) left_now left_then → new.taken ≡ new.limit
      → IfSome left_now (λ bytes. new.limit < end_ahead old bytes) → Took limit more left left_then new
  took_past having_read full beyond =
      let sum : limit + 1 ≡ old.taken + (new.limit + 1 - old.taken) = omega (arith, rises, within, same) in
      let all = HasRead-then _ _ _ _ _ _ come.having_read having_read sum in
      record {
        count = limit + 1;
        having_read = all;
        read = omega (arith, full, same);
        most = omega arith;
        stops =
            stops_more more (limit + 1) left left_then reading_end all (λ _. near_behind more limit left reading_end (ends_behind beyond));
      }

  -- however a batch was read
  pub took_batch : (result : Result Filled Memory) (filled : Filled) → result ≡ Ok filled
      → ((result ≡ Ok (Stopped failures.InputLimit) → ⊥) → HasRead (new.taken - old.taken) left_now left_then)
      → (result ≡ Ok (Stopped failures.InputLimit) → HasRead (new.limit + 1 - old.taken) left_now left_then)
      → (result ≡ Ok (Stopped failures.InputLimit) → new.taken ≡ new.limit)
      → (result ≡ Ok (Stopped failures.InputLimit) → IfSome left_now (λ bytes. new.limit < end_ahead old bytes))
      → Took limit more left left_then new
  took_batch result Whole is having_read past full beyond = took_within (having_read (λ limit. cc))
  took_batch result End is having_read past full beyond = took_within (having_read (λ limit. cc))
  took_batch result (Stopped failures.Memory) is having_read past full beyond = took_within (having_read (λ limit. cc))
  took_batch result (Stopped failures.ReadFault) is having_read past full beyond = took_within (having_read (λ limit. cc))
  took_batch result (Stopped failures.InputLimit) is having_read past full beyond = took_past (past is) (full is) (beyond is)
  took_batch result (Stopped failures.VaultFault) is having_read past full beyond = took_within (having_read (λ limit. cc))
  took_batch result (Stopped failures.WriteFault) is having_read past full beyond = took_within (having_read (λ limit. cc))

  -- the same of the header
  pub took_first : (result : Result Next Failure) (stop : Failure) → result ≡ Err stop
      → ((result ≡ Err failures.InputLimit → ⊥) → HasRead (new.taken - old.taken) left_now left_then)
      → (result ≡ Err failures.InputLimit → HasRead (new.limit + 1 - old.taken) left_now left_then)
      → (result ≡ Err failures.InputLimit → new.taken ≡ new.limit)
      → (result ≡ Err failures.InputLimit → IfSome left_now (λ bytes. new.limit < end_ahead old bytes))
      → Took limit more left left_then new
  took_first result failures.Memory is having_read past full beyond = took_within (having_read (λ limit. cc))
  took_first result failures.ReadFault is having_read past full beyond = took_within (having_read (λ limit. cc))
  took_first result failures.InputLimit is having_read past full beyond = took_past (past is) (full is) (beyond is)
  took_first result failures.VaultFault is having_read past full beyond = took_within (having_read (λ limit. cc))
  took_first result failures.WriteFault is having_read past full beyond = took_within (having_read (λ limit. cc))

-- ---- where it stops

-- what is asked of bytes, without so many bytes at its front
abbrev pub answer_from : ℕ → Asked → DigestFunctions → List ℕ → Answer
answer_from count asked functions bytes = answer_behind count (asked_answer asked functions bytes)

module _ (count more : ℕ) (asked : Asked) (functions : DigestFunctions) (header : Header) (limit : ℕ) (left left_then : Option (List ℕ)) (faults faults_then : ℕ) (all : List (List ℕ))
    (new : Reading) (known : new.progress.header ≡ Some header) (means : ReadsAs new.taken left logged_of (behind_at all new)) (writing : Writing) where
  abbrev Answers : Status → Type 0
  Answers result =
      AnswersNear more (answer_from count asked functions) reading_end limit result
      (record { left = left; left_after = left_then; faults = faults; faults_after = faults_then }) writing

  -- where memory was wanting, or the sink failed
  pub stop_answers : {A : Type 0} (result : Result A Failure) (stop : Failure) → result ≡ Err stop → FailsByWriting result → Took limit more left left_then new → IsHeader header → length all ≡ header.verifiers
      → GrowsByFront writing.held writing.held_after (drop count (lines_due (asked.tell header) functions header all))
      → (stop ≡ failures.WriteFault → Rose writing.faults writing.faults_after)
      → Answers (failure_status limit stop)
  stop_answers result failures.Memory is fails having_read good whole front rose =
      near-memory more (answer_from count asked functions) reading_end limit _ writing
      (of_taken (λ bytes. GrowsByFront writing.held writing.held_after (answer_from count asked functions bytes).due) limit having_read.count new.taken left left_then having_read.having_read having_read.read
      (reads_taken (λ (logged : Logged). GrowsByFront writing.held writing.held_after (drop count (asked_by asked functions logged).due)) new.taken left logged_of (behind_at all new) means
      (due_front asked functions header all new known count writing.held writing.held_after good whole front [])))
      (TookAtMost-from_read having_read.count (limit + 1) left left_then having_read.having_read having_read.most) having_read.stops
  stop_answers result failures.ReadFault is fails having_read good whole front rose = absurd (fails.source is)
  stop_answers result failures.InputLimit is fails having_read good whole front rose = absurd (fails.limit is)
  stop_answers result failures.VaultFault is fails having_read good whole front rose = absurd (fails.vault is)
  stop_answers result failures.WriteFault is fails having_read good whole front rose =
      near-write_fault more (answer_from count asked functions) reading_end limit _ writing
      (reads_all (λ (logged : Logged). GrowsByFront writing.held writing.held_after (drop count (asked_by asked functions logged).text)) new.taken left logged_of (behind_at all new) means
      (λ rest. text_front asked functions header all new known count writing.held writing.held_after good whole front rest))
      (TookAtMost-from_read having_read.count (limit + 1) left left_then having_read.having_read having_read.most) having_read.stops (rose refl)

  -- what was due was written, by the bytes that were taken
  pub due_taken : (ahead new []).frames ≡ [] → joined_from 0 all [] ≡ all
      → Grows writing.held writing.held_after (drop count (lines_due (asked.tell header) functions header all))
      → IfSome left (λ bytes. Grows writing.held writing.held_after (answer_from count asked functions (take new.taken bytes)).due)
  due_taken none same written =
      reads_taken (λ (logged : Logged). Grows writing.held writing.held_after (drop count (asked_by asked functions logged).due)) new.taken left logged_of (behind_at all new) means
      (subst (λ (text : List ℕ). Grows writing.held writing.held_after (drop count text)) (sym (due_spent asked functions header all new known none same)) written)

  -- ---- at the end

  -- what the bundle means
  abbrev ended : Option ℕ → Logged
  ended bad = record { header = Some header; logs = all; bad = bad }

  -- with an answer
  pub end_answers : (bad : Option ℕ) (end : BundleEnd) → HasRead new.taken left left_then → new.taken ≤ limit
      → IfSome left_then (λ rest. ended bad ≡ behind_at all new rest) → TookToEnd reading_end left left_then → StopsNear more reading_end left left_then
      → status_of end ≡ (asked_by asked functions (ended bad)).status
      → Grows writing.held writing.held_after (drop count (asked_by asked functions (ended bad)).text)
      → Answers (status_of end)
  end_answers bad end having_read within is reached stops status text =
      near-end more (answer_from count asked functions) reading_end limit _ writing (status_of end) (is_end end)
      (ReadsAs-back (λ (logged : Logged). status_of end ≡ (asked_by asked functions logged).status) new.taken left left_then logged_of (behind_at all new) having_read means
      (same_left (λ (logged : Logged). status_of end ≡ (asked_by asked functions logged).status) (ended bad) left_then (behind_at all new) is status))
      (ReadsAs-back (λ (logged : Logged). Grows writing.held writing.held_after (drop count (asked_by asked functions logged).text)) new.taken left left_then logged_of (behind_at all new) having_read means
      (same_left (λ (logged : Logged). Grows writing.held writing.held_after (drop count (asked_by asked functions logged).text)) (ended bad) left_then (behind_at all new) is text))
      (TookAtMost-from_read new.taken limit left left_then having_read within) reached stops
    where
      is_end : (end : BundleEnd) → IsEnd (status_of end)
      is_end (bundles.Done epochs) = tt
      is_end (bundles.BadBundle offset) = tt
      is_end (bundles.Refused verifier index refusal) = tt
      is_end (bundles.Unbalanced epoch added evicted) = tt

  -- where the sink failed at the last line
  pub last_answers : (bad : Option ℕ) → HasRead new.taken left left_then → new.taken ≤ limit
      → IfSome left_then (λ rest. ended bad ≡ behind_at all new rest) → StopsNear more reading_end left left_then
      → GrowsByFront writing.held writing.held_after (drop count (asked_by asked functions (ended bad)).text)
      → Rose writing.faults writing.faults_after
      → Answers statuses.WriteFault
  last_answers bad having_read within is stops front rose =
      near-write_fault more (answer_from count asked functions) reading_end limit _ writing
      (ReadsAs-back (λ (logged : Logged). GrowsByFront writing.held writing.held_after (drop count (asked_by asked functions logged).text)) new.taken left left_then logged_of (behind_at all new) having_read means
      (same_left (λ (logged : Logged). GrowsByFront writing.held writing.held_after (drop count (asked_by asked functions logged).text)) (ended bad) left_then (behind_at all new) is front))
      (TookAtMost-from_read new.taken (limit + 1) left left_then having_read (omega (arith, within))) stops rose

-- ---- where reading stops

-- where the source failed, or gave too much
module _ (count more : ℕ) (asked : Asked) (functions : DigestFunctions) (limit : ℕ) (left left_then : Option (List ℕ)) (faults faults_then : ℕ) (new : Reading) (writing : Writing)
    (stop : Failure) (took : Took limit more left left_then new)
    (due : IfSome left (λ bytes. Grows writing.held writing.held_after (answer_from count asked functions (take new.taken bytes)).due)) where
  abbrev CutAnswers : Failure → Type 0
  CutAnswers failure =
      AnswersNear more (answer_from count asked functions) reading_end limit (failure_status limit failure)
      (record { left = left; left_after = left_then; faults = faults; faults_after = faults_then }) writing

  due_taken_of : OfTaken limit (λ bytes. Grows writing.held writing.held_after (answer_from count asked functions bytes).due) left left_then
  due_taken_of =
      of_taken (λ bytes. Grows writing.held writing.held_after (answer_from count asked functions bytes).due) limit took.count new.taken left left_then took.having_read took.read due

  pub cut_answers : (stop ≡ failures.ReadFault → Rose faults faults_then)
      → (stop ≡ failures.ReadFault → TookAtMost limit left left_then)
      → (stop ≡ failures.InputLimit → TookJust (limit + 1) left left_then)
      → (stop ≡ failures.InputLimit → EndsBehind reading_end limit left)
      → (stop ≡ failures.ReadFault) ⊎ (stop ≡ failures.InputLimit)
      → CutAnswers stop
  cut_answers rose within just behind (inl is) =
      subst CutAnswers (sym is)
      (near-read_fault more (answer_from count asked functions) reading_end limit _ writing due_taken_of (within is) took.stops (rose is))
  cut_answers rose within just behind (inr is) =
      subst CutAnswers (sym is)
      (near-limit more (answer_from count asked functions) reading_end limit _ writing due_taken_of (just is) took.stops (behind is))

-- ---- nothing more was read, or not to the end of a batch

-- memory was wanting where so many bytes were taken, and what was written is a front of what is due, whatever follows
pub memory_answers : (count more : ℕ) (asked : Asked) (functions : DigestFunctions) (limit meant taken : ℕ) (left left_then : Option (List ℕ)) (faults faults_then : ℕ) (logs : List (List ℕ)) (reading : Reading)
    (writing : Writing) → ReadsAs meant left logged_of (behind_at logs reading) → meant ≤ taken → HasRead taken left left_then → taken ≤ limit
    → StopsNear more reading_end left left_then
    → ((rest : List ℕ) → GrowsByFront writing.held writing.held_after (drop count (asked_by asked functions (behind_at logs reading rest)).due))
    → AnswersNear more (answer_from count asked functions) reading_end limit statuses.Memory
    (record { left = left; left_after = left_then; faults = faults; faults_after = faults_then }) writing
memory_answers count more asked functions limit meant taken left left_then faults faults_then logs reading writing means below having_read within stops front =
    near-memory more (answer_from count asked functions) reading_end limit _ writing
    (of_taken (λ bytes. GrowsByFront writing.held writing.held_after (answer_from count asked functions bytes).due) limit taken taken left left_then having_read (omega (arith, within))
    (reads_on (λ (logged : Logged). GrowsByFront writing.held writing.held_after (drop count (asked_by asked functions logged).due)) meant taken left logged_of (behind_at logs reading) means below front))
    (TookAtMost-from_read taken (limit + 1) left left_then having_read (omega (arith, within))) stops
