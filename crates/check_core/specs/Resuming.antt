-- Going on from a seal: what is refused, what goes on, and what it answers where a bundle was sealed.
use Rattle.std.specs.Prelude.{◌≡◌, ◌≢◌, ◌⊎◌, ℕ, ◌+◌, ◌-◌, ◌<◌, ◌≤◌, ◌^◌, false, List, [], ◌∷◌, ◌++◌, length, drop, Option, Some, IfSome, Err, All}
use Rattle.record_hash.specs.Functions.{DigestFunctions}
use Rattle.record_text.specs.declared.reader.TextFault.{TextFault}
use Rattle.fv_outside.specs.Consumed.{TookAtMost, TookJust}
use Rattle.fv_outside.specs.Counting.{Tells}
use Rattle.fv_outside.specs.Faults.{Rose}
use Rattle.fv_outside.specs.Written.{Grows, GrowsByFront}
use Rattle.receipts.specs.Receipts.{tagged}
use Rattle.report_text.specs.declared.status.Status.{Status}
use Rattle.report_text.specs.declared.status.Status.TheVariants as statuses
use Rattle.report_text.specs.Kinds.{StatusKind, IsOneOf}
use Rattle.report_text.specs.Kinds as kinds
use Rattle.report_text.specs.Status.{last_line}
use Rattle.report_text.specs.Answer.{Answer, answer_behind, IsEnd, Reading, Writing, AnswersNear}
use Rattle.seals.specs.declared.state.SealedState.{SealedState}
use Rattle.seals.specs.State.{Seal}
use Rattle.seals.specs.Seal.{seal_at, seal_text, tag_bytes, IsGoodSeal}
use Rattle.seals.specs.Answer.{IsWhole, IsUntagged}
use Rattle.bundle_frames.specs.Extent.{reading_end}
use Rattle.bundle_report.specs.Answer.{check_answer}
use Rattle.resumed_runs.specs.Kept.{IsSealOf}
use Rattle.check_core.specs.Outcomes.{check_kinds}
use Rattle.check_core.specs.Sealing.{Counting}

-- ---- statuses

-- the kinds of status with which a seal is refused: a line says so
abbrev pub refusal_kinds : List StatusKind
refusal_kinds = kinds.bad_seal ∷ kinds.not_tagged ∷ kinds.stale ∷ []

-- the kinds of status that going on from a seal can end with: those of a check, and where nothing goes on
abbrev pub resume_kinds : List StatusKind
resume_kinds = kinds.bad_seal ∷ kinds.not_tagged ∷ kinds.stale ∷ kinds.counter_fault ∷ check_kinds

-- those with which the counter isn't read
abbrev pub IsUnreadKind : Status → Type 0
IsUnreadKind = IsOneOf (kinds.bad_seal ∷ kinds.not_tagged ∷ [])

-- a status with which a seal is refused
abbrev pub IsRefusal : Status → Type 0
IsRefusal = IsOneOf refusal_kinds

-- a status that going on from a seal can end with
abbrev pub IsResumeStatus : Status → Type 0
IsResumeStatus = IsOneOf resume_kinds

-- ---- what the bytes of a source begin with

-- with no seal
abbrev pub HasNoSeal : List ℕ → Type 0
HasNoSeal bytes = (fault : TextFault) × (seal_at bytes ≡ Err fault)

-- with the text of a seal within its bounds and something as long as a tag, which have so many bytes
pub record SpellsSeal (count : ℕ) (bytes : List ℕ) : Type 0 where
  pub seal : Seal
  pub tag : List ℕ
  pub more : List ℕ
  pub good : IsGoodSeal seal
  pub long : length tag ≡ tag_bytes
  pub spelled : bytes ≡ seal_text seal ++ tag ++ more
  pub counted : count ≡ length (seal_text seal) + tag_bytes

-- with a seal whose tag holds, and what it keeps is of this number
pub record HasSeal (functions : DigestFunctions) (number : ℕ) (bytes : List ℕ) : Type 0 where
  pub state : SealedState
  pub count : ℕ
  pub whole : IsWhole functions bytes state count
  pub numbered : state.counter ≡ number

-- with a seal whose tag holds
abbrev pub HasAnySeal : DigestFunctions → List ℕ → Type 0
HasAnySeal functions bytes = (number : ℕ) × HasSeal functions number bytes

-- with a seal whose tag holds and whose number the counter has
abbrev pub HasCurrentSeal : DigestFunctions → Option ℕ → List ℕ → Type 0
HasCurrentSeal functions device bytes = (number : ℕ) × HasSeal functions number bytes × Tells device number

-- What a status says with which a seal is refused, where the counter has this number: there is none, or its tag is another, or its number is
-- another.
abbrev pub RefusesAs : DigestFunctions → Option ℕ → List ℕ → Status → Type 0
RefusesAs functions device bytes statuses.BadSeal = HasNoSeal bytes
RefusesAs functions device bytes statuses.NotTagged = IsUntagged functions bytes
RefusesAs functions device bytes (statuses.Stale sealed number) = HasSeal functions sealed bytes × Tells device number × (sealed ≢ number)
RefusesAs functions device bytes status = ⊥

-- a seal is refused, and a front of the line that says so was written
pub record IsRefusedInPart (functions : DigestFunctions) (device : Option ℕ) (writing : Writing) (bytes : List ℕ) : Type 0 where
  pub status : Status
  pub refused : RefusesAs functions device bytes status
  pub front : GrowsByFront writing.held writing.held_after (last_line status)

-- ---- what is answered where a bundle was sealed

-- The rest of the report of a bundle with what follows it: all but the lines that the bundle has alone.
abbrev pub rest_answer : DigestFunctions → List ℕ → List ℕ → Answer
rest_answer functions sealed more = answer_behind (length (check_answer false functions sealed).due) (check_answer false functions (sealed ++ more))

-- What is answered to bytes that begin with the seal of a bundle, which has so many of them: the rest of the report of the bundle with
-- what follows the seal.
abbrev pub resumed_answer : DigestFunctions → List ℕ → ℕ → List ℕ → Answer
resumed_answer functions sealed count bytes = rest_answer functions sealed (drop count bytes)

-- where their reading ends: behind the seal, and as far as the bundle is read on with what follows
abbrev pub resumed_end : List ℕ → ℕ → List ℕ → ℕ
resumed_end sealed count bytes = count + (reading_end (sealed ++ drop count bytes) - length sealed)

-- how many bytes the text of a seal has with its tag
abbrev pub seal_bytes : DigestFunctions → Seal → ℕ
seal_bytes functions seal = length (tagged functions (seal_text seal))

-- Bytes are the seal of a bundle, with its tag, and more behind it.
pub record IsSealThen (functions : DigestFunctions) (sealed : List ℕ) (seal : Seal) (more bytes : List ℕ) : Type 0 where
  pub of : IsSealOf functions sealed seal
  pub are_bytes : All (λ byte. byte < 256) sealed
  pub fits : seal.counter < 2 ^ 64
  pub few : length sealed ≤ 2 ^ 40
  pub bytes_are : bytes ≡ tagged functions (seal_text seal) ++ more

-- Going on from the seal of a bundle is as never having stopped.
pub record GoesOn (functions : DigestFunctions) (sealed : List ℕ) (seal : Seal) (more : List ℕ) (most : ℕ) (result : Status) (reading : Reading)
    (writing : Writing) (counting : Counting) : Type 0 where
  -- what is written, the status, what was taken of the source, and the faults: the seal may be read as far again as it is long. Or the
  -- seal is stale, and the sink failed at the line that says so
  pub answers : AnswersNear (seal_bytes functions seal) (resumed_answer functions sealed (seal_bytes functions seal))
      (resumed_end sealed (seal_bytes functions seal)) most result reading writing
      ⊎ IsRefusedInPart functions counting.number writing (tagged functions (seal_text seal) ++ more)
  -- the lines of the bundle alone and what is answered then are the report of all of it
  pub joined : (check_answer false functions sealed).due ++ (rest_answer functions sealed more).text ≡ (check_answer false functions (sealed ++ more)).text
  -- where nothing raised the counter since, the seal isn't refused
  pub unrefused : counting.number ≡ Some seal.counter → IsRefusal result → ⊥
  pub unrefused_in_part : counting.number ≡ Some seal.counter
      → IsRefusedInPart functions counting.number writing (tagged functions (seal_text seal) ++ more) → ⊥

-- ---- the whole

-- A call that reads a seal and goes on from it.
pub record ResumesTo (functions : DigestFunctions) (most : ℕ) (result : Status) (reading : Reading) (writing : Writing) (counting : Counting) : Type 0 where
  -- a seal is refused only for what the source's bytes are, and the line that says so is all that was written
  pub refused : IsRefusal result → IfSome reading.left (λ bytes. RefusesAs functions counting.number bytes result)
  pub line : IsRefusal result → Grows writing.held writing.held_after (last_line result)
  -- what goes on is a state whose tag holds and whose number is the counter's
  pub current : IsEnd result → IfSome reading.left (HasCurrentSeal functions counting.number)
  -- where the counter failed, there is a seal whose tag holds, and nothing was written
  pub counter_fault : result ≡ statuses.CounterFault → IfSome reading.left (HasAnySeal functions)
  pub unwritten : result ≡ statuses.CounterFault → writing.held_after ≡ writing.held
  -- where the sink failed, it has a front of that line, or the seal is current
  pub write_fault : result ≡ statuses.WriteFault
      → IfSome reading.left (λ bytes. IsRefusedInPart functions counting.number writing bytes ⊎ HasCurrentSeal functions counting.number bytes)
  -- where the source begins with the seal of a bundle, the report of the bundle goes on
  pub goes_on : (sealed : List ℕ) (seal : Seal) (more : List ℕ) → IfSome reading.left (λ bytes. IsSealThen functions sealed seal more bytes
      → GoesOn functions sealed seal more most result reading writing counting)
  -- the counter keeps its number
  pub number : counting.number_after ≡ counting.number
  -- where it answers that the input is too long, the source gave just a byte more than the limit; else no more, but where what was due behind
  -- that byte could not be written
  pub limit : (taken : ℕ) → result ≡ statuses.InputLimit taken → (taken ≡ most) × TookJust (most + 1) reading.left reading.left_after
  pub within : result ≢ statuses.InputLimit most → result ≢ statuses.WriteFault → result ≢ statuses.Memory → TookAtMost most reading.left reading.left_after
  pub past : TookAtMost (most + 1) reading.left reading.left_after
  -- a fault comes only where the object's own count of faults rose
  pub read_fault : result ≡ statuses.ReadFault → Rose reading.faults reading.faults_after
  pub write_rose : result ≡ statuses.WriteFault → Rose writing.faults writing.faults_after
  pub counter_rose : result ≡ statuses.CounterFault → Rose counting.faults counting.faults_after
