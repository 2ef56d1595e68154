-- What a call comes to that goes on from a seal that was found.
use Rattle.std.proofs.Common.{◌≡◌, ℕ, ◌+◌, ◌-◌, ◌≤◌, List, ◌++◌, length, take, drop, map, Option, None, Some, IfSome, Result, Ok, Err, refl, sym, ap, subst, ◌∙◌, arith, length-append}
use Rattle.std.specs.Prelude.{slice_range}
use Rattle.std.proofs.lemmas.List.{length-take-le}
use Rattle.std.proofs.Math.Seq.{take-add}
use Rattle.std.specs.Io.KnownBytes.{Consumes}
use Rattle.fv_outside.specs.Consumed.{TookAtMost, TookJust, most_behind}
use Rattle.fv_outside.specs.Faults.{Rose}
use Rattle.fv_outside.specs.Written.{Grows, GrowsByFront}
use Rattle.fv_outside.specs.declared.failure.Failure.{Failure}
use Rattle.fv_outside.specs.declared.failure.Failure.TheVariants as failures
use Rattle.fv_outside.proofs.WrittenLaws.{GrowsByFront-none}
use Rattle.record_hash.specs.Functions.{DigestFunctions}
use Rattle.seals.specs.State.{Seal}
use Rattle.seals.specs.Kept.{seal_in}
use Rattle.seals.specs.Answer.{IsWhole}
use Rattle.report_text.specs.declared.status.Status.{Status}
use Rattle.report_text.specs.declared.status.Status.TheVariants as statuses
use Rattle.report_text.specs.declared.ending.BundleEnd.{BundleEnd}
use Rattle.report_text.specs.Ending.{status_of, failure_status}
use Rattle.report_text.specs.Status.{last_line}
use Rattle.report_text.specs.Answer.{Answer, IsEnd, StopsNear, Reading as ReadBy, Writing, AnswersNear}
use Rattle.report_text.proofs.AnsweringLaws.{of_taken_any, near-memory, rose_before}
use Rattle.bundle_frames.specs.Extent.{reading_end}
use Rattle.bundle_frames.specs.Reading.{Reading, resumed_reading}
use Rattle.bundle_report.specs.declared.judged.Judged.{Judged}
use Rattle.bundle_report.specs.Logged.{logged_of}
use Rattle.merkle_records.specs.Scheme.{scheme_of}
use Rattle.bundle_report.specs.SoFar.{HaveRead}
use Rattle.resumed_runs.specs.Kept.{IsSealOf, runs_from_kept}
use Rattle.certified_epochs.specs.declared.fed_run.FedRun.{FedRun}
use Rattle.check_core.specs.declared.seal_reading.FoundSeal.{FoundSeal}
use Rattle.check_core.specs.Asked.{unended}
use Rattle.check_core.specs.Found.{unended_answer, GoesFrom, GoesFromAs}
use Rattle.check_core.specs.Outcomes.{IsCheckStatus, check_status}
use Rattle.check_core.specs.Resuming.{resumed_answer, resumed_end}
use Rattle.check_core.specs.Stream.{HasCome, AreChecked, ReadsWithin, asked_behind}
use Rattle.check_core.proofs.LastLineLemmas.{is_end, near_failed, near_ended, near_cut}
use Rattle.check_core.proofs.GoingFromLemmas.{AreKept, plain_asked, so_far, rest_longer, goes_from}

-- ---- the failure behind a status

limit_of : (most taken : ℕ) (result : Result BundleEnd Failure) → check_status most result ≡ statuses.InputLimit taken → (taken ≡ most) × (result ≡ Err failures.InputLimit)
limit_of most taken (Ok end) is = absurd (subst IsEnd is (is_end end))
limit_of most taken (Err failures.Memory) is = absurd (cc)
limit_of most taken (Err failures.ReadFault) is = absurd (cc)
limit_of most taken (Err failures.InputLimit) is = let same : taken ≡ most = cc in (same, refl)
limit_of most taken (Err failures.VaultFault) is = absurd (cc)
limit_of most taken (Err failures.WriteFault) is = absurd (cc)

read_of : (most : ℕ) (result : Result BundleEnd Failure) → check_status most result ≡ statuses.ReadFault → result ≡ Err failures.ReadFault
read_of most (Ok end) is = absurd (subst IsEnd is (is_end end))
read_of most (Err failures.Memory) is = absurd (cc)
read_of most (Err failures.ReadFault) is = refl
read_of most (Err failures.InputLimit) is = absurd (cc)
read_of most (Err failures.VaultFault) is = absurd (cc)
read_of most (Err failures.WriteFault) is = absurd (cc)

write_of : (most : ℕ) (result : Result BundleEnd Failure) → check_status most result ≡ statuses.WriteFault → result ≡ Err failures.WriteFault
write_of most (Ok end) is = absurd (subst IsEnd is (is_end end))
write_of most (Err failures.Memory) is = absurd (cc)
write_of most (Err failures.ReadFault) is = absurd (cc)
write_of most (Err failures.InputLimit) is = absurd (cc)
write_of most (Err failures.VaultFault) is = absurd (cc)
write_of most (Err failures.WriteFault) is = refl

-- a check that fails otherwise than by a vault has one of its statuses
pub failed_status : (most : ℕ) (failure : Failure) → (failure ≡ failures.VaultFault → ⊥) → IsCheckStatus (failure_status most failure)
failed_status most failures.Memory other = tt
failed_status most failures.ReadFault other = tt
failed_status most failures.InputLimit other = tt
failed_status most failures.VaultFault other = absurd (other refl)
failed_status most failures.WriteFault other = tt

-- ---- what was taken

took_none : (most : ℕ) (x : Option (List ℕ)) → TookAtMost most x x
took_none most None = tt
took_none most (Some bytes) = omega arith

took_front : (most : ℕ) (x y : Option (List ℕ)) (front : List ℕ) → Consumes x y front → length front ≤ most → TookAtMost most x y
took_front most None y front read few = tt
took_front most (Some bytes) None front read few = absurd read
took_front most (Some bytes) (Some rest) front read few = omega (arith, ap length read, length-append front rest, few)

stops_front : (more count : ℕ) (end : List ℕ → ℕ) (x y : Option (List ℕ)) (front : List ℕ) → Consumes x y front → length front ≤ count + (more + most_behind)
    → StopsNear more (λ bytes. count + end bytes) x y
stops_front more count end None y front read few = tt
stops_front more count end (Some bytes) y front read few = took_front _ (Some bytes) y front read (omega (arith, few))

module _ (functions : DigestFunctions) (kept : AreKept functions) (found : FoundSeal) (most : ℕ)
    (whole : IsWhole functions (take found.until found.buffer.items) found.state found.count)
    (there : found.until ≤ length found.buffer.items) (limited : found.until ≤ most) where
  abbrev items : List ℕ
  items = found.buffer.items

  abbrev pub unread : List ℕ
  unread = slice_range items found.count found.until

  abbrev seal : Seal
  seal = seal_in found.state

  size : length (take found.until items) ≡ found.until
  size = length-take-le found.until items there

  pub counted : found.count ≤ found.until
  counted = omega (arith, whole.counted, size)

  seal_size : length (take found.count items) ≡ found.count
  seal_size = length-take-le found.count items (omega (arith, counted, there))

  split : take found.until items ≡ take found.count items ++ unread
  split =
      let sum : found.until ≡ found.count + (found.until - found.count) = omega (arith, counted) in
      ap (λ (n : ℕ). take n items) sum ∙ take-add found.count (found.until - found.count) items

  pub unread_size : length unread ≡ found.until - found.count
  unread_size =
      let both = length-append (take found.count items) unread in
      let all = ap length split in
      omega (arith, both, all, size, seal_size)

  -- memory is wanting before more is read
  pub memory_from : (left held : Option (List ℕ)) (faults faults_after wrote wrote_after : ℕ) (result : Result BundleEnd Failure) → result ≡ Err failures.Memory
      → GoesFromAs (unended_answer functions) functions most found (check_status most result)
      (record { left = left; left_after = left; faults = faults; faults_after = faults_after })
      (record { held = held; held_after = held; faults = wrote; faults_after = wrote_after })
  memory_from left held faults faults_after wrote wrote_after result is =
      subst (λ (r : Result BundleEnd Failure). GoesFromAs (unended_answer functions) functions most found (check_status most r)
      (record { left = left; left_after = left; faults = faults; faults_after = faults_after })
      (record { held = held; held_after = held; faults = wrote; faults_after = wrote_after })) (sym is)
      (record {
        limit = λ taken is. absurd (cc);
        within = λ _ _ other. absurd (other refl);
        past = took_none (most + 1 - found.until) left;
        read_fault = λ is. absurd (cc);
        write_fault = λ is. absurd (cc);
        goes_on = λ sealed start of few read.
            near-memory found.count (unended_answer functions sealed found.count) (resumed_end sealed found.count) most _ _
            (of_taken_any _ most start left (λ bytes. GrowsByFront-none held (unended_answer functions sealed found.count bytes).due))
            (took_front (most + 1) start left _ read (omega (arith, size, limited)))
            (stops_front found.count found.count (λ bytes. reading_end (sealed ++ drop found.count bytes) - length sealed) start left _ read (omega (arith, size, few)));
      })

  -- or it goes on
  module _ (reader : Reading) (is : reader ≡ resumed_reading seal.header seal.taken (most - found.count + seal.taken) unread)
      (certifier : Judged) (certified : certifier ≡ record { count = seal.certified; unbalanced = None })
      (runs : List FedRun) (runs_are : map (λ fed. fed.run) runs ≡ runs_from_kept seal.header 0 seal.runs)
      (left after : Option (List ℕ)) (faults faults_after : ℕ) (writing : Writing) (result : Result BundleEnd Failure) (fine : result ≡ Err failures.VaultFault → ⊥)
      (reads : ReadsWithin result reader.taken reader.limit (record { left = left; left_after = after; faults = faults; faults_after = faults_after }) writing)
      (answers : (all : Option (List ℕ)) (logs : List (List ℕ)) → HasCome all faults found.count logs reader left faults → AreChecked functions seal.header logs certifier runs
      → AnswersNear found.count (asked_behind (unended (plain_asked functions)) functions seal.header logs certifier) reading_end reader.limit (check_status reader.limit result)
      (record { left = all; left_after = after; faults = faults; faults_after = faults_after }) writing) where
    abbrev Answered : Option (List ℕ) → List (List ℕ) → Judged → Reading → Type 0
    Answered all logs judged r =
        HasCome all faults found.count logs r left faults → AreChecked functions seal.header logs judged runs
        → AnswersNear found.count (asked_behind (unended (plain_asked functions)) functions seal.header logs judged) reading_end r.limit (check_status r.limit result)
        (record { left = all; left_after = after; faults = faults; faults_after = faults_after }) writing

    left_to_take : (add : ℕ) → reader.limit + add - reader.taken ≡ most + add - found.until
    left_to_take add =
        let limit = ap (λ (r : Reading). r.limit) is in
        let taken = ap (λ (r : Reading). r.taken) is in
        omega (arith, limit, taken, unread_size, counted, limited)

    pub goes_on : GoesFromAs (unended_answer functions) functions most found (check_status most result)
        (record { left = left; left_after = after; faults = faults; faults_after = faults_after }) writing
    goes_on = record {
      limit = λ taken status. let l = limit_of most taken result status in (l.0, subst (λ (n : ℕ). TookJust n left after) (left_to_take 1) (reads.limit l.1));
      within = λ a b m.
          let same : reader.limit - reader.taken ≡ most - found.until = let plain = left_to_take 0 in omega (arith, plain) in
          subst (λ (n : ℕ). TookAtMost n left after) same
          (reads.within (λ is. a (ap (check_status most) is)) (λ is. b (ap (check_status most) is)) (λ is. m (ap (check_status most) is)));
      past = subst (λ (n : ℕ). TookAtMost n left after) (left_to_take 1) reads.past;
      read_fault = λ status. reads.read_fault (read_of most result status);
      write_fault = λ status. reads.write_fault (write_of most result status);
      goes_on = λ sealed start of few read.
          let same : reader ≡ resumed_reading seal.header (length sealed) (most - found.count + length sealed) unread =
          is ∙ ap (λ (n : ℕ). resumed_reading seal.header n (most - found.count + n) unread) of.taken in
          goes_from functions kept sealed seal of (take found.count items) unread found.count most seal_size (omega (arith, counted, limited)) (omega (arith, unread_size, few))
          start left after faults faults_after writing result fine reads.least
          (λ all come.
          subst (Answered all (logged_of sealed).logs (so_far functions kept sealed seal of)) same
          (subst (λ (j : Judged). Answered all (logged_of sealed).logs j reader) certified (answers all (logged_of sealed).logs))
          come
          (subst (HaveRead (scheme_of functions seal.header) seal.header (logged_of sealed).logs (record { count = seal.certified; unbalanced = None })) (sym runs_are) (kept.read sealed seal of)))
          (subst (Consumes start left) split read);
    }

-- ---- the last line

module _ (functions : DigestFunctions) (kept : AreKept functions) (found : FoundSeal) (most : ℕ) (reading : ReadBy) (held held_now : Option (List ℕ)) (faults faults_now : ℕ) where
  -- what is written, up to the last line and with it
  abbrev wrote : Option (List ℕ) → ℕ → Writing
  wrote held_then faults_then = record { held = held; held_after = held_then; faults = faults; faults_after = faults_then }

  abbrev Before : Status → Type 0
  Before result = GoesFromAs (unended_answer functions) functions most found result reading (wrote held_now faults_now)

  -- where going on isn't carried through, there is none
  pub from_failed : (failure : Failure) → Before (failure_status most failure) → GoesFrom functions most found (failure_status most failure) reading (wrote held_now faults_now)
  from_failed failure before = record {
    limit = before.limit;
    within = before.within;
    past = before.past;
    read_fault = before.read_fault;
    write_fault = before.write_fault;
    goes_on = λ sealed start of few read.
        near_failed last_line (unended_answer functions sealed found.count) (resumed_answer functions sealed found.count)
        (rest_longer functions kept sealed (seal_in found.state) of found.count) found.count (resumed_end sealed found.count) most
        (record reading { left = start }) held held_now faults faults_now failure (before.goes_on sealed start of few read);
  }

  module _ (end : BundleEnd) (before : Before (status_of end)) (held_then : Option (List ℕ)) (faults_then : ℕ) where
    pub from_ended : Grows held_now held_then (last_line (status_of end)) → GoesFrom functions most found (status_of end) reading (wrote held_then faults_then)
    from_ended line = record {
      limit = before.limit;
      within = before.within;
      past = before.past;
      read_fault = before.read_fault;
      write_fault = λ is. absurd (subst IsEnd is (is_end end));
      goes_on = λ sealed start of few read.
          near_ended last_line (unended_answer functions sealed found.count) (resumed_answer functions sealed found.count)
          (rest_longer functions kept sealed (seal_in found.state) of found.count) found.count (resumed_end sealed found.count) most
          (record reading { left = start }) held held_now faults faults_now end (before.goes_on sealed start of few read) held_then faults_then line;
    }

    -- or a front of it
    pub from_cut : GrowsByFront held_now held_then (last_line (status_of end)) → faults ≤ faults_now → Rose faults_now faults_then
        → GoesFrom functions most found statuses.WriteFault reading (wrote held_then faults_then)
    from_cut line falls rose = record {
      limit = λ taken is. absurd (cc);
      within = λ _ other _. absurd (other refl);
      past = before.past;
      read_fault = λ is. absurd (cc);
      write_fault = λ _. rose_before faults faults_now faults_then falls rose;
      goes_on = λ sealed start of few read.
          near_cut last_line (unended_answer functions sealed found.count) (resumed_answer functions sealed found.count)
          (rest_longer functions kept sealed (seal_in found.state) of found.count) found.count (resumed_end sealed found.count) most
          (record reading { left = start }) held held_now faults faults_now end (before.goes_on sealed start of few read) held_then faults_then line falls rose;
    }
