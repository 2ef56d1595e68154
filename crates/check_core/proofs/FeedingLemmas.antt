-- Runs that are fed frames.
use Rattle.std.proofs.Common.{◌≡◌, ℕ, zero, suc, ◌+◌, ◌<◌, ◌≤◌, false, true, Bool, List, [], ◌∷◌, ◌++◌, length, map, get_or, refl, sym, ◌∙◌, ap, subst, if◌then◌else◌, arith}
use Rattle.std.proofs.lemmas.Bool.{eq-eqb, ne_eqb}
use Rattle.std.specs.List.{AllByRecursion}
use Rattle.lamport_clocks.specs.declared.header.Header.{Header}
use Rattle.record_hash.specs.Functions.{DigestFunctions}
use Rattle.merkle_records.specs.Scheme.{Scheme, scheme_of}
use Rattle.bundle_frames.specs.Bundle.{Frame}
use Rattle.record_text.specs.declared.operation.Operation.{Operation}
use Rattle.verifier_run.specs.Kept.{keeps_operations}
use Rattle.verifier_run.specs.Progress.{Progress, fed, weight}
use Rattle.bundle_report.specs.SoFar.{having_read, having_read_one, runs_behind}
use Rattle.certified_epochs.specs.declared.fed_run.FedRun.{FedRun}
use Rattle.certified_epochs.specs.Turn.{AreFed}
use Rattle.check_core.specs.declared.batch.FrameHolder.{FrameHolder}
use Rattle.check_core.specs.Batch.{frame_in, bytes_of}
use Rattle.check_core.proofs.BatchLemmas.{bytes_append}
use Rattle.check_core.specs.Feeding.{Reads, AllRead}

-- ---- one run

-- A run that took the frames of some holders, where these are left.
pub record ReadsOn (functions : DigestFunctions) (number : ℕ) (holders left : List FrameHolder) (old new : FedRun) : Type 0 where
  pub fed : new.is_starved ≡ false → old.is_starved ≡ false
  pub taken : new.is_starved ≡ false → having_read (scheme_of functions old.run.course.machine.header) number new.run (map frame_in left)
      ≡ having_read (scheme_of functions old.run.course.machine.header) number old.run (map frame_in holders)
  pub header : new.run.course.machine.header ≡ old.run.course.machine.header
  pub weight : weight new.run + bytes_of (map frame_in left) ≤ weight old.run + bytes_of (map frame_in holders)

pub takes-first : (functions : DigestFunctions) (number : ℕ) (holders : List FrameHolder) (old : FedRun) → ReadsOn functions number holders holders old old
takes-first functions number holders old = record {
  fed = λ is. is;
  taken = λ is. refl;
  header = refl;
  weight = omega arith;
}

-- all were taken
pub takes-all : (functions : DigestFunctions) (number : ℕ) (holders left : List FrameHolder) (old new : FedRun) → left ≡ []
    → ReadsOn functions number holders left old new → Reads functions number (map frame_in holders) old new
takes-all functions number holders left old new none on =
    let weights = subst (λ (rest : List FrameHolder). weight new.run + bytes_of (map frame_in rest) ≤ weight old.run + bytes_of (map frame_in holders)) none on.weight in
    record {
      fed = on.fed;
      taken = λ is. sym (ap (λ (rest : List FrameHolder). having_read (scheme_of functions old.run.course.machine.header) number new.run (map frame_in rest)) none) ∙ on.taken is;
      header = on.header;
      weight = omega (arith, weights);
    }

-- a frame of another verifier is passed by
pub takes-other : (functions : DigestFunctions) (number : ℕ) (holders left rest : List FrameHolder) (holder : FrameHolder) (old now : FedRun) → left ≡ holder ∷ rest
    → (holder.verifier ≡ number → ⊥) → ReadsOn functions number holders left old now → ReadsOn functions number holders rest old now
takes-other functions number holders left rest holder old now is other on =
    let scheme = scheme_of functions old.run.course.machine.header in
    let weights = subst (λ (l : List FrameHolder). weight now.run + bytes_of (map frame_in l) ≤ weight old.run + bytes_of (map frame_in holders)) is on.weight in
    record {
      fed = on.fed;
      taken = λ fine. sym (ap (λ (l : List FrameHolder). having_read scheme number now.run (map frame_in l)) is
          ∙ ap (λ (t : Bool). having_read scheme number (if t then fed keeps_operations scheme now.run holder.body else now.run) (map frame_in rest)) (ne_eqb holder.verifier number other))
          ∙ on.taken fine;
      header = on.header;
      weight = omega (arith, weights);
    }

starved-back : (was is : Bool) → (was ≡ true → is ≡ true) → is ≡ false → was ≡ false
starved-back true is stays fine = sym (stays refl) ∙ fine
starved-back false is stays fine = refl

-- one of its own is taken
pub takes-own : (functions : DigestFunctions) (number : ℕ) (holders left rest : List FrameHolder) (holder : FrameHolder) (old now new : FedRun) → left ≡ holder ∷ rest
    → holder.verifier ≡ number
    → (new.is_starved ≡ false → new.run ≡ fed keeps_operations (scheme_of functions now.run.course.machine.header) now.run holder.body)
    → (now.is_starved ≡ true → new.is_starved ≡ true)
    → new.run.course.machine.header ≡ now.run.course.machine.header
    → weight new.run ≤ weight now.run + length holder.body
    → ReadsOn functions number holders left old now → ReadsOn functions number holders rest old new
takes-own functions number holders left rest holder old now new is own taken starved header heavy on =
    let scheme = scheme_of functions old.run.course.machine.header in
    let weights = subst (λ (l : List FrameHolder). weight now.run + bytes_of (map frame_in l) ≤ weight old.run + bytes_of (map frame_in holders)) is on.weight in
    record {
      fed = λ fine. on.fed (starved-back now.is_starved new.is_starved starved fine);
      taken = λ fine.
          ap (λ (run : Progress Operation). having_read scheme number run (map frame_in rest))
          (taken fine ∙ ap (λ (h : Header). fed keeps_operations (scheme_of functions h) now.run holder.body) on.header)
          ∙ sym (ap (λ (l : List FrameHolder). having_read scheme number now.run (map frame_in l)) is
          ∙ ap (λ (t : Bool). having_read scheme number (if t then fed keeps_operations scheme now.run holder.body else now.run) (map frame_in rest)) (eq-eqb holder.verifier number own))
          ∙ on.taken (starved-back now.is_starved new.is_starved starved fine);
      header = header ∙ on.header;
      weight = omega (arith, weights, heavy);
    }

-- a run may be fed what is left for it
pub room-left : (functions : DigestFunctions) (number : ℕ) (holders left rest : List FrameHolder) (holder : FrameHolder) (old now : FedRun) → left ≡ holder ∷ rest
    → ReadsOn functions number holders left old now → weight old.run + bytes_of (map frame_in holders) < 9223372036854775808
    → weight now.run + length holder.body < 9223372036854775808
room-left functions number holders left rest holder old now is on room =
    let weights = subst (λ (l : List FrameHolder). weight now.run + bytes_of (map frame_in l) ≤ weight old.run + bytes_of (map frame_in holders)) is on.weight in
    omega (arith, weights, room)

-- ---- all runs

-- what holds of all holds of each
pub all_at : {X : Type 0} (P : X → Type 0) (xs : List X) (i : ℕ) (d : X) → i < length xs → AllByRecursion P xs → P (get_or xs i d)
all_at P [] i d within all = absurd (omega (arith, within))
all_at P (x ∷ xs) zero d within all = all.0
all_at P (x ∷ xs) (suc i) d within all = all_at P xs i d (omega (arith, within)) all.1

pub all_take : (functions : DigestFunctions) (number : ℕ) (frames : List Frame) (olds news : List FedRun) → length news ≡ length olds
    → ((i : ℕ) (d : FedRun) → i < length olds → Reads functions (number + i) frames (get_or olds i d) (get_or news i d))
    → AllRead functions number frames olds news
all_take functions number frames [] [] len each = tt
all_take functions number frames [] (new ∷ news) len each = absurd (omega (arith, len))
all_take functions number frames (old ∷ olds) [] len each = absurd (omega (arith, len))
all_take functions number frames (old ∷ olds) (new ∷ news) len each =
    let first : number + 0 ≡ number = omega arith in (
      subst (λ (n : ℕ). Reads functions n frames old new) first (each 0 old (omega arith)),
      all_take functions (suc number) frames olds news (omega (arith, len))
          (λ i d within. let next : number + suc i ≡ suc number + i = omega arith in
          subst (λ (n : ℕ). Reads functions n frames (get_or olds i d) (get_or news i d)) next (each (suc i) d (omega (arith, within)))),
    )

module _ (functions : DigestFunctions) (frames : List Frame) where
  pub taken_by_all : (number : ℕ) (header : Header) (olds news : List FedRun) → AllRead functions number frames olds news
      → AllByRecursion (λ fed. fed.run.course.machine.header ≡ header) olds → AreFed news
      → AreFed olds × (map (λ fed. fed.run) news ≡ runs_behind (scheme_of functions header) number (map (λ fed. fed.run) olds) frames)
  taken_by_all number header [] [] each headers fine = (tt, refl)
  taken_by_all number header [] (new ∷ news) each headers fine = absurd each
  taken_by_all number header (old ∷ olds) [] each headers fine = absurd each
  taken_by_all number header (old ∷ olds) (new ∷ news) each headers fine =
      let rest = taken_by_all (suc number) header olds news each.1 headers.1 fine.1 in (
        (each.0.fed fine.0, rest.0),
        ap (λ (run : Progress Operation). run ∷ map (λ fed. fed.run) news) (each.0.taken fine.0 ∙ ap (λ (h : Header). having_read (scheme_of functions h) number old.run frames) headers.0)
            ∙ ap (λ (runs : List (Progress Operation)). having_read (scheme_of functions header) number old.run frames ∷ runs) rest.1,
      )

  pub weights_of_all : (number bound : ℕ) (olds news : List FedRun) → AllRead functions number frames olds news
      → AllByRecursion (λ fed. weight fed.run ≤ bound) olds → AllByRecursion (λ fed. weight fed.run ≤ bound + bytes_of frames) news
  weights_of_all number bound [] [] each weights = tt
  weights_of_all number bound [] (new ∷ news) each weights = absurd each
  weights_of_all number bound (old ∷ olds) [] each weights = absurd each
  weights_of_all number bound (old ∷ olds) (new ∷ news) each weights =
      (omega (arith, each.0.weight, weights.0), weights_of_all (suc number) bound olds news each.1 weights.1)

-- there are as many
pub length_of_all : (functions : DigestFunctions) (number : ℕ) (frames : List Frame) (olds news : List FedRun) → AllRead functions number frames olds news
    → length news ≡ length olds
length_of_all functions number frames [] [] each = refl
length_of_all functions number frames [] (new ∷ news) each = absurd each
length_of_all functions number frames (old ∷ olds) [] each = absurd each
length_of_all functions number frames (old ∷ olds) (new ∷ news) each =
    let rest = length_of_all functions (suc number) frames olds news each.1 in
    omega (arith, rest)

-- ---- frames, and then more of them

having_read-append : (scheme : Scheme) (number : ℕ) (run : Progress Operation) (frames more : List Frame)
    → having_read scheme number run (frames ++ more) ≡ having_read scheme number (having_read scheme number run frames) more
having_read-append scheme number run [] more = refl
having_read-append scheme number run (frame ∷ frames) more = having_read-append scheme number (having_read_one scheme number run frame) frames more

reads_more : (functions : DigestFunctions) (number : ℕ) (frames more : List Frame) (old now new : FedRun) → Reads functions number frames old now
    → Reads functions number more now new → Reads functions number (frames ++ more) old new
reads_more functions number frames more old now new first next =
    let scheme = scheme_of functions old.run.course.machine.header in
    let bytes = bytes_append frames more in
    record {
      fed = λ fine. first.fed (next.fed fine);
      taken = λ fine.
          next.taken fine
          ∙ ap (λ (h : Header). having_read (scheme_of functions h) number now.run more) first.header
          ∙ ap (λ (run : Progress Operation). having_read scheme number run more) (first.taken (next.fed fine))
          ∙ sym (having_read-append scheme number old.run frames more);
      header = next.header ∙ first.header;
      weight = omega (arith, bytes, first.weight, next.weight);
    }

-- all runs took these frames, and then those
pub read_more : (functions : DigestFunctions) (number : ℕ) (frames more : List Frame) (olds nows news : List FedRun) → AllRead functions number frames olds nows
    → AllRead functions number more nows news → AllRead functions number (frames ++ more) olds news
read_more functions number frames more [] [] [] first next = tt
read_more functions number frames more [] [] (new ∷ news) first next = absurd next
read_more functions number frames more [] (now ∷ nows) news first next = absurd first
read_more functions number frames more (old ∷ olds) [] news first next = absurd first
read_more functions number frames more (old ∷ olds) (now ∷ nows) [] first next = absurd next
read_more functions number frames more (old ∷ olds) (now ∷ nows) (new ∷ news) first next =
    (reads_more functions number frames more old now new first.0 next.0, read_more functions (suc number) frames more olds nows news first.1 next.1)

-- behind frames there is still room for more
pub room_of_all : (functions : DigestFunctions) (number : ℕ) (frames : List Frame) (bound : ℕ) (olds news : List FedRun) → AllRead functions number frames olds news
    → AllByRecursion (λ fed. weight fed.run + bytes_of frames ≤ bound) olds → AllByRecursion (λ fed. weight fed.run ≤ bound) news
room_of_all functions number frames bound [] [] each room = tt
room_of_all functions number frames bound [] (new ∷ news) each room = absurd each
room_of_all functions number frames bound (old ∷ olds) [] each room = absurd each
room_of_all functions number frames bound (old ∷ olds) (new ∷ news) each room =
    (omega (arith, each.0.weight, room.0), room_of_all functions (suc number) frames bound olds news each.1 room.1)

-- what is at most a bound that is below 2^63 has room
pub room_within : (runs : List FedRun) (bytes bound : ℕ) → bound < 9223372036854775808
    → AllByRecursion (λ fed. weight fed.run + bytes ≤ bound) runs → AllByRecursion (λ fed. weight fed.run + bytes < 9223372036854775808) runs
room_within [] bytes bound below room = tt
room_within (fed ∷ runs) bytes bound below room = (omega (arith, below, room.0), room_within runs bytes bound below room.1)

-- what weighed no more than was read leaves room for the frames that were read then
pub room_behind : (runs : List FedRun) (bytes bound more : ℕ) → bytes + bound ≤ more
    → AllByRecursion (λ fed. weight fed.run ≤ bound) runs → AllByRecursion (λ fed. weight fed.run + bytes ≤ more) runs
room_behind [] bytes bound more below all = tt
room_behind (fed ∷ runs) bytes bound more below all = (omega (arith, below, all.0), room_behind runs bytes bound more below all.1)
