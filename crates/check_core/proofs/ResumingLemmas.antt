-- What a call comes to that reads a seal and goes on from it.
use Rattle.std.proofs.Common.{◌≡◌, ◌⊎◌, ℕ, ◌+◌, ◌-◌, ◌<◌, ◌≤◌, ◌^◌, false, List, ◌++◌, length, take, Option, Some, None, IfSome, Ok, All, inl, inr, refl, sym, ap, subst, arith, length-append}
use Rattle.std.specs.Io.KnownBytes.{Consumes}
use Rattle.fv_outside.specs.Consumed.{TookAtMost, TookJust, most_behind}
use Rattle.fv_outside.specs.Counting.{Tells}
use Rattle.fv_outside.specs.Faults.{Rose}
use Rattle.record_hash.specs.Functions.{DigestFunctions}
use Rattle.report_text.specs.declared.status.Status.{Status}
use Rattle.report_text.specs.Answer.{Reading, Writing, AnswersNear}
use Rattle.seals.specs.declared.state.SealedState.{SealedState}
use Rattle.seals.specs.State.{Seal}
use Rattle.seals.specs.Seal.{seal_at, seal_text, tag_bytes, most_taken, IsGoodSeal}
use Rattle.seals.specs.Answer.{IsWhole}
use Rattle.merkle_records.specs.Scheme.{scheme_of}
use Rattle.bundle_frames.specs.Bundle.{bundle_of}
use Rattle.bundle_report.specs.Logged.{logged_of}
use Rattle.bundle_report.specs.SoFar.{HaveRead}
use Rattle.bundle_report.specs.Answer.{check_answer}
use Rattle.resumed_runs.specs.Kept.{IsSealOf, runs_from_kept}
use Rattle.check_core.specs.declared.seal_reading.FoundSeal.{FoundSeal}
use Rattle.check_core.specs.Outcomes.{IsCheckStatus}
use Rattle.check_core.specs.Sealing.{Counting}
use Rattle.check_core.specs.Found.{GoesFrom}
use Rattle.check_core.specs.Resuming.{HasCurrentSeal, IsRefusedInPart, RefusesAs, IsSealThen, GoesOn, ResumesTo, SpellsSeal, resumed_answer, resumed_end, rest_answer, seal_bytes}
use Rattle.check_core.proofs.SealReadingLemmas.{took_then}
use Rattle.check_core.proofs.RefusingLemmas.{no_refusal, whole_front, spells-seal, same-seal, same-count, not-refused}
use Rattle.check_core.proofs.RestLemmas.{rest_joins}

-- so many bytes, and then just so many
took_just_then : (count more most : ℕ) (x y z : Option (List ℕ)) (front : List ℕ) → Consumes x y front → TookJust more y z → length front ≡ count
    → most ≡ count + more → TookJust most x z
took_just_then count more most None y z front read took is sum = tt
took_just_then count more most (Some bytes) None z front read took is sum = absurd read
took_just_then count more most (Some bytes) (Some rest) None front read took is sum = absurd took
took_just_then count more most (Some bytes) (Some rest) (Some left) front read took is sum =
    omega (arith, ap length read, length-append front rest, took, is, sum)

-- the least that is known of a taking
read_no_more : (count most : ℕ) (bytes : List ℕ) (y : Option (List ℕ)) (front : List ℕ) → Consumes (Some bytes) y front → length front ≡ count
    → TookAtMost most (Some bytes) y → count ≤ most
read_no_more count most bytes None front read is took = absurd read
read_no_more count most bytes (Some rest) front read is took = omega (arith, ap length read, length-append front rest, is, took)

-- what is known of any digests, and what is written is read back
pub record AreSound (functions : DigestFunctions) : Type 0 where
  pub long : (text : List ℕ) → length (functions.tag text) ≡ tag_bytes
  pub good : (bytes : List ℕ) (seal : Seal) → All (λ byte. byte < 256) bytes → length bytes ≤ most_taken → IsSealOf functions bytes seal
      → seal.counter < 2 ^ 64 → IsGoodSeal seal
  pub read : (seal : Seal) (tag rest : List ℕ) → IsGoodSeal seal → length tag ≡ tag_bytes → seal_at (seal_text seal ++ tag ++ rest) ≡ Ok ((seal, tag), rest)
  pub keeps : (bytes more : List ℕ) (state : SealedState) (count : ℕ) → IsWhole functions bytes state count → IsWhole functions (bytes ++ more) state count
  pub unbad : (bytes : List ℕ) (seal : Seal) → IsSealOf functions bytes seal → (bundle_of bytes).bad ≡ None
  pub have_read : (bytes : List ℕ) (seal : Seal) → IsSealOf functions bytes seal
      → HaveRead (scheme_of functions seal.header) seal.header (logged_of bytes).logs (record { count = seal.certified; unbalanced = None }) (runs_from_kept seal.header 0 seal.runs)

-- the lines of a sealed bundle, and the rest with what follows it, are the report of all of it
pub sealed-joins : (functions : DigestFunctions) → AreSound functions → (sealed : List ℕ) (seal : Seal) (more : List ℕ) → IsSealOf functions sealed seal
    → (check_answer false functions sealed).due ++ (rest_answer functions sealed more).text ≡ (check_answer false functions (sealed ++ more)).text
sealed-joins functions sound sealed seal more of =
    rest_joins functions sealed seal.header of.header (sound.unbad sealed seal of) (record { count = seal.certified; unbalanced = None }) (runs_from_kept seal.header 0 seal.runs)
    (sound.have_read sealed seal of) more

module _ (functions : DigestFunctions) (sound : AreSound functions) (most : ℕ) (found : FoundSeal) (x y : Option (List ℕ))
    (read : Consumes x y (take found.until found.buffer.items)) (size : length (take found.until found.buffer.items) ≡ found.until) (limited : found.until ≤ most)
    (whole : IsWhole functions (take found.until found.buffer.items) found.state found.count)
    (near : IfSome x (λ bytes. (count : ℕ) → SpellsSeal count bytes → TookAtMost (count + (count + most_behind)) x y)) where
  abbrev front : List ℕ
  front = take found.until found.buffer.items

  pub whole-of : IfSome x (λ bytes. IsWhole functions bytes found.state found.count)
  whole-of = whole_front functions found.state found.count sound.keeps x y front read whole

  module _ (z : Option (List ℕ)) (faults faults_after : ℕ) (writing : Writing) (counting : Counting) (tells : Tells counting.number found.state.counter)
      (kept : counting.number_after ≡ counting.number) (result : Status) (check : IsCheckStatus result)
      (from : GoesFrom functions most found result (record { left = y; left_after = z; faults = faults; faults_after = faults_after }) writing) where
    abbrev reading : Reading
    reading = record { left = x; left_after = z; faults = faults; faults_after = faults_after }

    current : (x : Option (List ℕ)) → IfSome x (λ bytes. IsWhole functions bytes found.state found.count) → IfSome x (HasCurrentSeal functions counting.number)
    current None whole = tt
    current (Some bytes) whole = (found.state.counter, record { state = found.state; count = found.count; whole = whole; numbered = refl }, tells)

    or_current : (x : Option (List ℕ)) → IfSome x (HasCurrentSeal functions counting.number)
        → IfSome x (λ bytes. IsRefusedInPart functions counting.number writing bytes ⊎ HasCurrentSeal functions counting.number bytes)
    or_current None current = tt
    or_current (Some bytes) current = inr current

    goes_on : (bytes : List ℕ) → Consumes (Some bytes) y front → IsWhole functions bytes found.state found.count
        → ((count : ℕ) → SpellsSeal count bytes → TookAtMost (count + (count + most_behind)) (Some bytes) y)
        → (sealed : List ℕ) (seal : Seal) (more : List ℕ) → IsSealThen functions sealed seal more bytes
        → GoesOn functions sealed seal more most result (record { left = Some bytes; left_after = z; faults = faults; faults_after = faults_after }) writing counting
    goes_on bytes read whole near sealed seal more then =
        let good = sound.good sealed seal then.are_bytes then.few then.of then.fits in
        let same = same-seal functions seal more bytes good (sound.long (seal_text seal)) sound.read then.bytes_are found.state found.count whole in
        let count = same-count functions seal more bytes good (sound.long (seal_text seal)) sound.read then.bytes_are found.state found.count whole in
        let few : found.until ≤ seal_bytes functions seal + (seal_bytes functions seal + most_behind) = read_no_more found.until _ bytes y front read size
        (near (seal_bytes functions seal) (spells-seal functions seal more bytes good (sound.long (seal_text seal)) sound.read then.bytes_are)) in
        record {
          answers = inl (subst (λ (n : ℕ). AnswersNear n (resumed_answer functions sealed n) (resumed_end sealed n) most result
              (record { left = Some bytes; left_after = z; faults = faults; faults_after = faults_after }) writing) count
              (from.goes_on sealed (Some bytes) (subst (IsSealOf functions sealed) (sym same) then.of)
              (subst (λ (n : ℕ). found.until ≤ n + (n + most_behind)) (sym count) few) read));
          joined = sealed-joins functions sound sealed seal more then.of;
          unrefused = λ _ refused. no_refusal result check refused;
          unrefused_in_part = λ current part. not-refused functions seal more bytes good (sound.long (seal_text seal)) sound.read then.bytes_are counting.number current part.status
              (subst (λ (b : List ℕ). RefusesAs functions counting.number b part.status) (sym then.bytes_are) part.refused);
        }

    goes_on_known : (x : Option (List ℕ)) → Consumes x y front → IfSome x (λ bytes. IsWhole functions bytes found.state found.count)
        → IfSome x (λ bytes. (count : ℕ) → SpellsSeal count bytes → TookAtMost (count + (count + most_behind)) x y)
        → (sealed : List ℕ) (seal : Seal) (more : List ℕ) → IfSome x (λ bytes. IsSealThen functions sealed seal more bytes
        → GoesOn functions sealed seal more most result (record { left = x; left_after = z; faults = faults; faults_after = faults_after }) writing counting)
    goes_on_known None read whole near sealed seal more = tt
    goes_on_known (Some bytes) read whole near sealed seal more = goes_on bytes read whole near sealed seal more

    -- where the seal is current
    pub resumes_on : ResumesTo functions most result reading writing counting
    resumes_on = record {
      refused = λ r. absurd (no_refusal result check r);
      line = λ r. absurd (no_refusal result check r);
      current = λ _. current x whole-of;
      counter_fault = λ is. absurd (subst IsCheckStatus is check);
      unwritten = λ is. absurd (subst IsCheckStatus is check);
      write_fault = λ _. or_current x (current x whole-of);
      goes_on = goes_on_known x read whole-of near;
      number = kept;
      limit = λ taken is. let l = from.limit taken is in
          (l.0, took_just_then found.until (most + 1 - found.until) (most + 1) x y z front read l.1 size (omega (arith, limited)));
      within = λ a b m. took_then most x y z front (most - found.until) read (from.within a b m) (omega (arith, size, limited));
      past = took_then (most + 1) x y z front (most + 1 - found.until) read from.past (omega (arith, size, limited));
      read_fault = from.read_fault;
      write_rose = from.write_fault;
      counter_rose = λ is. absurd (subst IsCheckStatus is check);
    }

-- the same with other counts of faults, which rose where these did
pub by_faults : (functions : DigestFunctions) (most : ℕ) (found : FoundSeal) (result : Status) (y z : Option (List ℕ)) (faults faults_after before after : ℕ) (writing : Writing)
    → (Rose faults faults_after → Rose before after)
    → GoesFrom functions most found result (record { left = y; left_after = z; faults = faults; faults_after = faults_after }) writing
    → GoesFrom functions most found result (record { left = y; left_after = z; faults = before; faults_after = after }) writing
by_faults functions most found result y z faults faults_after before after writing rose from = record {
  limit = from.limit;
  within = from.within;
  past = from.past;
  read_fault = λ is. rose (from.read_fault is);
  write_fault = from.write_fault;
  goes_on = λ sealed start of few read.
      let a = from.goes_on sealed start of few read in
      record {
        status = a.status;
        report = a.report;
        front = a.front;
        due = a.due;
        due_front = a.due_front;
        limit = a.limit;
        within = a.within;
        past = a.past;
        reached = a.reached;
        stops = a.stops;
        beyond = a.beyond;
        read_fault = λ is. rose (a.read_fault is);
        write_fault = a.write_fault;
      };
}
