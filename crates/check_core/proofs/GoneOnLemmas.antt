-- How going on ends: what was taken of the source, the text behind the lines, and what is left where all was read.
use Rattle.std.proofs.Common.{◌≡◌, ℕ, suc, ◌+◌, ◌-◌, ◌≤◌, List, [], ◌∷◌, ◌++◌, length, map, drop, Option, None, Some, IfSome, Result, Ok, Err, refl, sym, ◌∙◌, ap, subst, append-nil, false, arith}
use Rattle.std.proofs.lemmas.List.{drop-append-le, length-drop}
use Rattle.std.specs.List.{AllByRecursion}
use Rattle.base_words.specs.declared.memory.Memory.{Memory}
use Rattle.fv_outside.specs.Consumed.{TookAtLeast, TookAtMost, TookJust}
use Rattle.fv_outside.specs.Failures.{FailsByWriting}
use Rattle.fv_outside.specs.Faults.{Rose}
use Rattle.fv_outside.specs.Written.{Grows, GrowsByFront}
use Rattle.fv_outside.proofs.WrittenLaws.{Grows-then, GrowsByFront-then}
use Rattle.fv_outside.specs.declared.failure.Failure.{Failure}
use Rattle.fv_outside.specs.declared.failure.Failure.TheVariants as failures
use Rattle.lamport_clocks.specs.declared.header.Header.{Header}
use Rattle.record_hash.specs.Functions.{DigestFunctions}
use Rattle.record_text.specs.declared.operation.Operation.{Operation}
use Rattle.record_text.specs.declared.refusal.Refusal.{Refusal}
use Rattle.merkle_records.specs.Scheme.{Scheme}
use Rattle.bundle_frames.specs.Bundle.{bundle_of}
use Rattle.bundle_frames.specs.Extent.{end_in, reading_end}
use Rattle.bundle_frames.specs.Reading.{Reading, HasRead}
use Rattle.bundle_frames.proofs.ReadingLaws.{HasRead-then, TookAtMost-from_read, TookJust-from_read}
use Rattle.report_text.specs.declared.ending.BundleEnd.{BundleEnd}
use Rattle.report_text.specs.declared.ending.BundleEnd.TheVariants.{Done}
use Rattle.report_text.specs.declared.status.Status.TheVariants as statuses
use Rattle.report_text.specs.Answer.{Reading as ReadBy, Writing}
use Rattle.verifier_run.specs.Course.{Course}
use Rattle.verifier_run.specs.Progress.{Progress, course_at_end}
use Rattle.bundle_report.specs.declared.judged.Judged.{Judged}
use Rattle.bundle_report.specs.declared.judged.Uneven.{Uneven}
use Rattle.bundle_report.specs.declared.refused_log.RefusedLog.{RefusedLog}
use Rattle.bundle_report.specs.Logged.{Logged, logged_of}
use Rattle.bundle_report.specs.Answer.{answer_by, check_answer}
use Rattle.bundle_report.specs.Judged.{end_by, refused_log, refused_log_by}
use Rattle.bundle_report.specs.SoFar.{HaveRead, runs_ended}
use Rattle.resumed_runs.specs.Kept.{IsUnbroken}
use Rattle.certified_epochs.specs.declared.fed_run.FedRun.{FedRun}
use Rattle.check_core.specs.declared.batch.Filled.{Filled}
use Rattle.check_core.specs.declared.batch.Filled.TheVariants.{Whole, End, Stopped}
use Rattle.check_core.specs.Stream.{ReadsWithin}

-- ---- what was taken

-- where a source tells its bytes: no more than so many of them were taken, and none came back
abbrev pub TookWithin : ℕ → Option (List ℕ) → Option (List ℕ) → Type 0
TookWithin most x y = TookAtMost most x y × TookAtLeast 0 x y

took_within : (most more : ℕ) (x y : Option (List ℕ)) → TookAtMost most x y → most ≤ more → TookAtMost more x y
took_within most more None y took below = tt
took_within most more (Some bytes) None took below = absurd took
took_within most more (Some bytes) (Some left) took below = omega (arith, took, below)

took_just : (count : ℕ) (x y : Option (List ℕ)) → TookJust count x y → TookWithin count x y
took_just count None y took = (tt, tt)
took_just count (Some bytes) None took = absurd took
took_just count (Some bytes) (Some left) took = (omega (arith, took), omega (arith, took))

took_read : (count : ℕ) (x y : Option (List ℕ)) → HasRead count x y → TookAtLeast 0 x y
took_read count None y read = tt
took_read count (Some bytes) None read = absurd read
took_read count (Some bytes) (Some rest) read = omega (arith, read.0, ap length read.1, length-drop count bytes)

-- no more than the limit, so no more than a byte past it
pub took_past : (start limit : ℕ) (x y : Option (List ℕ)) → TookWithin (limit - start) x y → TookWithin (limit + 1 - start) x y
took_past start limit x y took = (took_within _ _ x y took.0 (omega arith), took.1)

-- of a source of which so many bytes had been taken, so much was taken since, and then a batch
module _ (start limit : ℕ) (left left_now left_then : Option (List ℕ)) (old new : Reading) (having_read : HasRead (old.taken - start) left left_now)
    (begun : start ≤ old.taken) (rises : old.taken ≤ new.taken) (within : new.taken ≤ new.limit) (same : new.limit ≡ limit) where
  pub took_batch_within : HasRead (new.taken - old.taken) left_now left_then → TookWithin (limit - start) left left_then
  took_batch_within more =
      let sum : new.taken - start ≡ (old.taken - start) + (new.taken - old.taken) = omega (arith, begun, rises) in
      let read = HasRead-then _ _ _ _ _ _ having_read more sum in
      (TookAtMost-from_read (new.taken - start) (limit - start) left left_then read (omega (arith, within, same)), took_read _ left left_then read)

  pub took_batch_just : HasRead (new.limit + 1 - old.taken) left_now left_then → TookJust (limit + 1 - start) left left_then
  took_batch_just more =
      let sum : limit + 1 - start ≡ (old.taken - start) + (new.limit + 1 - old.taken) = omega (arith, begun, rises, within, same) in
      TookJust-from_read (limit + 1 - start) left left_then (HasRead-then _ _ _ _ _ _ having_read more sum)

  -- however the batch was read
  pub took_batch_past : (result : Result Filled Memory) (filled : Filled) → result ≡ Ok filled
      → ((result ≡ Ok (Stopped failures.InputLimit) → ⊥) → HasRead (new.taken - old.taken) left_now left_then)
      → (result ≡ Ok (Stopped failures.InputLimit) → HasRead (new.limit + 1 - old.taken) left_now left_then)
      → TookWithin (limit + 1 - start) left left_then
  took_batch_past result Whole is more past = took_past _ _ left left_then (took_batch_within (more (λ limit. cc)))
  took_batch_past result End is more past = took_past _ _ left left_then (took_batch_within (more (λ limit. cc)))
  took_batch_past result (Stopped failures.Memory) is more past = took_past _ _ left left_then (took_batch_within (more (λ limit. cc)))
  took_batch_past result (Stopped failures.ReadFault) is more past = took_past _ _ left left_then (took_batch_within (more (λ limit. cc)))
  took_batch_past result (Stopped failures.InputLimit) is more past = took_just _ left left_then (took_batch_just (past is))
  took_batch_past result (Stopped failures.VaultFault) is more past = took_past _ _ left left_then (took_batch_within (more (λ limit. cc)))
  took_batch_past result (Stopped failures.WriteFault) is more past = took_past _ _ left left_then (took_batch_within (more (λ limit. cc)))

-- what a call takes, by how it ends
module _ (start limit : ℕ) (reading : ReadBy) (writing : Writing) where
  pub reads_ended : (end : BundleEnd) → TookWithin (limit - start) reading.left reading.left_after → ReadsWithin (Ok end) start limit reading writing
  reads_ended end took = record {
    limit = λ is. absurd (cc);
    within = λ _ _ _. took.0;
    past = (took_past start limit reading.left reading.left_after took).0;
    least = took.1;
    read_fault = λ is. absurd (cc);
    write_fault = λ is. absurd (cc);
  }

  pub reads_memory : TookWithin (limit + 1 - start) reading.left reading.left_after → ReadsWithin (Err failures.Memory) start limit reading writing
  reads_memory took = record {
    limit = λ is. absurd (cc);
    within = λ _ _ other. absurd (other refl);
    past = took.0;
    least = took.1;
    read_fault = λ is. absurd (cc);
    write_fault = λ is. absurd (cc);
  }

  pub reads_write_fault : TookWithin (limit + 1 - start) reading.left reading.left_after → Rose writing.faults writing.faults_after
      → ReadsWithin (Err failures.WriteFault) start limit reading writing
  reads_write_fault took rose = record {
    limit = λ is. absurd (cc);
    within = λ _ other _. absurd (other refl);
    past = took.0;
    least = took.1;
    read_fault = λ is. absurd (cc);
    write_fault = λ _. rose;
  }

  pub reads_read_fault : TookWithin (limit - start) reading.left reading.left_after → Rose reading.faults reading.faults_after
      → ReadsWithin (Err failures.ReadFault) start limit reading writing
  reads_read_fault took rose = record {
    limit = λ is. absurd (cc);
    within = λ _ _ _. took.0;
    past = (took_past start limit reading.left reading.left_after took).0;
    least = took.1;
    read_fault = λ _. rose;
    write_fault = λ is. absurd (cc);
  }

  pub reads_limit : TookJust (limit + 1 - start) reading.left reading.left_after → ReadsWithin (Err failures.InputLimit) start limit reading writing
  reads_limit just = record {
    limit = λ _. just;
    within = λ other _ _. absurd (other refl);
    past = (took_just _ reading.left reading.left_after just).0;
    least = (took_just _ reading.left reading.left_after just).1;
    read_fault = λ is. absurd (cc);
    write_fault = λ is. absurd (cc);
  }

  -- where certifying stopped
  pub reads_stopped : {A : Type 0} (result : Result A Failure) (stop : Failure) → result ≡ Err stop → FailsByWriting result
      → TookWithin (limit + 1 - start) reading.left reading.left_after
      → (stop ≡ failures.WriteFault → Rose writing.faults writing.faults_after) → ReadsWithin (Err stop) start limit reading writing
  reads_stopped result failures.Memory is fails took rose = reads_memory took
  reads_stopped result failures.ReadFault is fails took rose = absurd (fails.source is)
  reads_stopped result failures.InputLimit is fails took rose = absurd (fails.limit is)
  reads_stopped result failures.VaultFault is fails took rose = absurd (fails.vault is)
  reads_stopped result failures.WriteFault is fails took rose = reads_write_fault took (rose refl)

-- ---- the text behind the lines

pub text_behind : (count : ℕ) (due behind : List ℕ) (held mid after : Option (List ℕ)) → count ≤ length due → Grows held mid (drop count due)
    → Grows mid after behind → Grows held after (drop count (due ++ (behind ++ [])))
text_behind count due behind held mid after within lines more =
    subst (Grows held after) (ap (λ (text : List ℕ). drop count due ++ text) (sym (append-nil behind)) ∙ sym (drop-append-le count due (behind ++ []) within))
    (Grows-then held mid after (drop count due) behind lines more)

pub front_behind : (count : ℕ) (due behind : List ℕ) (held mid after : Option (List ℕ)) → count ≤ length due → Grows held mid (drop count due)
    → GrowsByFront mid after behind → GrowsByFront held after (drop count (due ++ (behind ++ [])))
front_behind count due behind held mid after within lines more =
    subst (GrowsByFront held after) (ap (λ (text : List ℕ). drop count due ++ text) (sym (append-nil behind)) ∙ sym (drop-append-le count due (behind ++ []) within))
    (GrowsByFront-then held mid after (drop count due) behind lines more)

-- ---- where the report ends with `done`

-- nothing is unbalanced, refused or bad
pub done_by : (count : ℕ) (uneven : Option Uneven) (refused : Option RefusedLog) (bad : Option ℕ) (epochs : ℕ)
    → end_by count uneven refused bad ≡ Done epochs → (uneven ≡ None) × (refused ≡ None) × (bad ≡ None) × (count ≡ epochs)
done_by count None None None epochs is = let same : count ≡ epochs = cc in (refl, refl, refl, same)
done_by count None None (Some offset) epochs is = absurd (cc)
done_by count None (Some log) bad epochs is = absurd (cc)
done_by count (Some uneven) refused bad epochs is = absurd (cc)

pub judged_is : (so_far : Judged) (epochs : ℕ) → so_far.count ≡ epochs → so_far.unbalanced ≡ None → so_far ≡ record { count = epochs; unbalanced = None }
judged_is so_far epochs counted even =
    ap (λ (n : ℕ). let j : Judged = record { count = n; unbalanced = so_far.unbalanced } in j) counted
    ∙ ap (λ (u : Option Uneven). let j : Judged = record { count = epochs; unbalanced = u } in j) even

none_refused_by : (number : ℕ) (refused : Option (ℕ × Refusal)) (more : Option RefusedLog) → refused_log_by number refused more ≡ None
    → (refused ≡ None) × (more ≡ None)
none_refused_by number None more is = (refl, is)
none_refused_by number (Some refused) more is = absurd (cc)

-- a run whose end is not refused holds nothing: it is as it was
ended_same : (course : Course Operation) (held : List ℕ) → (course_at_end course held).refused ≡ None
    → (let ended : Progress Operation = record { course = course_at_end course held; held = [] } in ended) ≡ record { course = course; held = held }
ended_same course [] unrefused = refl
ended_same course (byte ∷ held) unrefused = absurd (cc)

courses_mapped : (runs : List FedRun) → map (λ fed. fed.run.course) runs ≡ map (λ run. run.course) (map (λ fed. fed.run) runs)
courses_mapped [] = refl
courses_mapped (fed ∷ runs) = ap (λ (more : List (Course Operation)). fed.run.course ∷ more) (courses_mapped runs)

-- runs of which none is refused at its end are as they were, and unbroken
all_same : (number : ℕ) (runs : List (Progress Operation)) → refused_log number (map (λ run. run.course) (runs_ended runs)) ≡ None
    → (runs_ended runs ≡ runs) × AllByRecursion IsUnbroken (runs_ended runs)
all_same number [] none = (refl, tt)
all_same number (run ∷ runs) none =
    let first = none_refused_by number (course_at_end run.course run.held).refused (refused_log (suc number) (map (λ run. run.course) (runs_ended runs))) none in
    let rest = all_same (suc number) runs first.1 in (
      ap (λ (r : Progress Operation). r ∷ runs_ended runs) (ended_same run.course run.held first.0) ∙ ap (λ (more : List (Progress Operation)). run ∷ more) rest.0,
      (record { uncut = refl; unrefused = first.0 }, rest.1),
    )

module _ (olds news : List FedRun) (ended : map (λ fed. fed.run) news ≡ runs_ended (map (λ fed. fed.run) olds))
    (none : refused_log 0 (map (λ fed. fed.run.course) news) ≡ None) where
  none_refused : refused_log 0 (map (λ run. run.course) (runs_ended (map (λ fed. fed.run) olds))) ≡ None
  none_refused =
      ap (λ (runs : List (Progress Operation)). refused_log 0 (map (λ run. run.course) runs)) (sym ended) ∙ ap (refused_log 0) (sym (courses_mapped news)) ∙ none

  pub unbroken_runs : AllByRecursion IsUnbroken (map (λ fed. fed.run) news)
  unbroken_runs = subst (AllByRecursion IsUnbroken) (sym ended) (all_same 0 (map (λ fed. fed.run) olds) none_refused).1

  -- the runs have still read what they had
  pub checked_ended : (scheme : Scheme) (header : Header) (logs : List (List ℕ)) (so_far now : Judged) → so_far ≡ now
      → HaveRead scheme header logs so_far (map (λ fed. fed.run) olds) → HaveRead scheme header logs now (map (λ fed. fed.run) news)
  checked_ended scheme header logs so_far now same checked =
      subst (λ (j : Judged). HaveRead scheme header logs j (map (λ fed. fed.run) news)) same
      (subst (HaveRead scheme header logs so_far) (sym (ended ∙ (all_same 0 (map (λ fed. fed.run) olds) none_refused).0)) checked)

-- the status of a check of bytes that mean this
pub status_by : (functions : DigestFunctions) (read : Logged) (epochs : ℕ) (left : Option (List ℕ)) → IfSome left (λ bytes. logged_of bytes ≡ read)
    → (answer_by false functions read).status ≡ statuses.Done epochs → IfSome left (λ bytes. (check_answer false functions bytes).status ≡ statuses.Done epochs)
status_by functions read epochs None means is = tt
status_by functions read epochs (Some bytes) means is = ap (λ (logged : Logged). (answer_by false functions logged).status) means ∙ is

-- where nothing is bad, all was taken
pub all_taken : (count : ℕ) (left left_then : Option (List ℕ)) (header : Option Header) (logs : List (List ℕ)) → HasRead count left left_then
    → IfSome left (λ bytes. reading_end bytes ≤ count)
    → IfSome left (λ bytes. logged_of bytes ≡ record { header = header; logs = logs; bad = None }) → IfSome left (λ bytes. count ≡ length bytes)
all_taken count None left_then header logs read reached means = tt
all_taken count (Some bytes) None header logs read reached means = absurd read
all_taken count (Some bytes) (Some rest) header logs read reached means =
    let bad : (bundle_of bytes).bad ≡ None = ap (λ (logged : Logged). logged.bad) means in
    let end : reading_end bytes ≡ length bytes = ap (λ (b : Option ℕ). end_in (bundle_of bytes).header b bytes) bad in
    omega (arith, read.0, reached, end)
