-- What is told of runs that are like others, one by one; and that they stay so as they take frames, as epochs are taken out of them, and at
-- the ends of their logs.
use Rattle.std.proofs.Common.{◌≡◌, ℕ, zero, suc, ◌+◌, ◌==◌, Bool, true, false, List, [], ◌∷◌, ◌++◌, length, map, slice_get, Option, if◌then◌else◌, refl, sym, ◌∙◌, ap, subst}
use Rattle.std.specs.List.{AllByRecursion}
use Rattle.std.specs.Option.{option_to_list}
use Rattle.lamport_clocks.specs.declared.header.Header.{Header}
use Rattle.merkle_records.specs.Scheme.{Scheme}
use Rattle.multiset_sum.specs.declared.part.Part.{Part}
use Rattle.epoch_gather.specs.Verdict.{verdict_of}
use Rattle.record_text.specs.declared.operation.Operation.{Operation}
use Rattle.record_text.specs.declared.refusal.Refusal.{Refusal}
use Rattle.bundle_frames.specs.Bundle.{Frame}
use Rattle.verifier_commands.specs.VerifierState.{AnyCache}
use Rattle.verifier_run.specs.Kept.{keeps_operations}
use Rattle.verifier_run.specs.Progress.{Progress, opening_progress, fed}
use Rattle.verifier_run.specs.Taken.{left_of}
use Rattle.verifier_run.specs.Likeness.{run_with, IsLike, AreLike}
use Rattle.verifier_run.proofs.LikenessLaws.{opening-like, fed-like, ended-like, left-like, items-like, parts-like, refused-like}
use Rattle.bundle_report.specs.RunReport.{parts_at, operations_among}
use Rattle.bundle_report.specs.Judged.{first_parts, refused_log_by, refused_log}
use Rattle.bundle_report.specs.SoFar.{left_from, runs_from, having_read_one, having_read, runs_behind, runs_ended}

-- ---- what is told of them

-- There are as many.
pub like-length : (runs others : List (Progress Operation)) → AreLike runs others → length others ≡ length runs
like-length [] [] like = refl
like-length [] (other ∷ others) like = absurd like
like-length (run ∷ runs) [] like = absurd like
like-length (run ∷ runs) (other ∷ others) like = ap suc (like-length runs others like.1)

-- They have the parts of the first.
pub like-first_parts : (runs others : List (Progress Operation)) → AreLike runs others
    → first_parts (map (λ run. run.course) others) ≡ first_parts (map (λ run. run.course) runs)
like-first_parts [] [] like = refl
like-first_parts [] (other ∷ others) like = absurd like
like-first_parts (run ∷ runs) [] like = absurd like
like-first_parts (run ∷ runs) (other ∷ others) like = parts-like run other like.0

-- They have the parts of each epoch.
pub like-parts : (index : ℕ) (runs others : List (Progress Operation)) → AreLike runs others
    → parts_at index (map (λ run. run.course) others) ≡ parts_at index (map (λ run. run.course) runs)
like-parts index [] [] like = refl
like-parts index [] (other ∷ others) like = absurd like
like-parts index (run ∷ runs) [] like = absurd like
like-parts index (run ∷ runs) (other ∷ others) like =
    ap (λ (parts : List Part). option_to_list (slice_get parts index) ++ parts_at index (map (λ r. r.course) others)) (parts-like run other like.0)
    ∙ ap (λ (parts : List Part). option_to_list (slice_get run.course.parts index) ++ parts) (like-parts index runs others like.1)

-- So the verdict on an epoch is one.
pub like-verdict : (epoch index : ℕ) (runs others : List (Progress Operation)) → AreLike runs others
    → verdict_of (length others) epoch (parts_at index (map (λ run. run.course) others)) ≡ verdict_of (length runs) epoch (parts_at index (map (λ run. run.course) runs))
like-verdict epoch index runs others like =
    ap (λ (count : ℕ). verdict_of count epoch (parts_at index (map (λ r. r.course) others))) (like-length runs others like)
    ∙ ap (verdict_of (length runs) epoch) (like-parts index runs others like)

-- They have the operations.
pub like-operations : (runs others : List (Progress Operation)) → AreLike runs others
    → operations_among (map (λ run. run.course) others) ≡ operations_among (map (λ run. run.course) runs)
like-operations [] [] like = refl
like-operations [] (other ∷ others) like = absurd like
like-operations (run ∷ runs) [] like = absurd like
like-operations (run ∷ runs) (other ∷ others) like =
    ap (λ (operations : List Operation). operations ++ operations_among (map (λ r. r.course) others)) (items-like run other like.0)
    ∙ ap (λ (operations : List Operation). run.course.items ++ operations) (like-operations runs others like.1)

-- The first of them that is refused is so.
pub like-refused : (number : ℕ) (runs others : List (Progress Operation)) → AreLike runs others
    → refused_log number (map (λ run. run.course) others) ≡ refused_log number (map (λ run. run.course) runs)
like-refused number [] [] like = refl
like-refused number [] (other ∷ others) like = absurd like
like-refused number (run ∷ runs) [] like = absurd like
like-refused number (run ∷ runs) (other ∷ others) like =
    ap (λ (refused : Option (ℕ × Refusal)). refused_log_by number refused (refused_log (suc number) (map (λ r. r.course) others))) (refused-like run other like.0)
    ∙ ap (refused_log_by number run.course.refused) (like-refused (suc number) runs others like.1)

-- What holds of each, whatever its cache, holds of each that is like it.
pub like-all : (P : Progress Operation → Type 0) → ((run : Progress Operation) (cache : AnyCache) → P run → P (run_with run cache))
    → (runs others : List (Progress Operation)) → AreLike runs others → AllByRecursion P runs → AllByRecursion P others
like-all P keeps [] [] like all = tt
like-all P keeps [] (other ∷ others) like all = absurd like
like-all P keeps (run ∷ runs) [] like all = absurd like
like-all P keeps (run ∷ runs) (other ∷ others) like all =
    (subst P (sym like.0.same) (keeps run like.0.cache all.0), like-all P keeps runs others like.1 all.1)

-- And the other way round.
pub like-all_back : (P : Progress Operation → Type 0) → ((run : Progress Operation) (cache : AnyCache) → P (run_with run cache) → P run)
    → (runs others : List (Progress Operation)) → AreLike runs others → AllByRecursion P others → AllByRecursion P runs
like-all_back P keeps [] [] like all = tt
like-all_back P keeps [] (other ∷ others) like all = absurd like
like-all_back P keeps (run ∷ runs) [] like all = absurd like
like-all_back P keeps (run ∷ runs) (other ∷ others) like all =
    (keeps run like.0.cache (subst P like.0.same all.0), like-all_back P keeps runs others like.1 all.1)

-- ---- they stay so

-- one frame
read_one : (scheme : Scheme) (number : ℕ) (run other : Progress Operation) (frame : Frame) → IsLike run other
    → IsLike (having_read_one scheme number run frame) (having_read_one scheme number other frame)
read_one scheme number run other frame like = go (frame.verifier == number)
  where
    go : (own : Bool) → IsLike (if own then fed keeps_operations scheme run frame.body else run) (if own then fed keeps_operations scheme other frame.body else other)
    go true = fed-like keeps_operations scheme run other frame.body like
    go false = like

read_all : (scheme : Scheme) (number : ℕ) (run other : Progress Operation) (frames : List Frame) → IsLike run other
    → IsLike (having_read scheme number run frames) (having_read scheme number other frames)
read_all scheme number run other [] like = like
read_all scheme number run other (frame ∷ frames) like =
    read_all scheme number (having_read_one scheme number run frame) (having_read_one scheme number other frame) frames (read_one scheme number run other frame like)

-- Behind frames they are like each other still.
pub like-behind : (scheme : Scheme) (number : ℕ) (runs others : List (Progress Operation)) (frames : List Frame) → AreLike runs others
    → AreLike (runs_behind scheme number runs frames) (runs_behind scheme number others frames)
like-behind scheme number [] [] frames like = tt
like-behind scheme number [] (other ∷ others) frames like = absurd like
like-behind scheme number (run ∷ runs) [] frames like = absurd like
like-behind scheme number (run ∷ runs) (other ∷ others) frames like =
    (read_all scheme number run other frames like.0, like-behind scheme (suc number) runs others frames like.1)

-- Without an epoch.
pub like-left : (epoch : ℕ) (runs others : List (Progress Operation)) → AreLike runs others → AreLike (map (left_of epoch) runs) (map (left_of epoch) others)
like-left epoch [] [] like = tt
like-left epoch [] (other ∷ others) like = absurd like
like-left epoch (run ∷ runs) [] like = absurd like
like-left epoch (run ∷ runs) (other ∷ others) like = (left-like epoch run other like.0, like-left epoch runs others like.1)

-- At the ends of their logs.
pub like-ended : (runs others : List (Progress Operation)) → AreLike runs others → AreLike (runs_ended runs) (runs_ended others)
like-ended [] [] like = tt
like-ended [] (other ∷ others) like = absurd like
like-ended (run ∷ runs) [] like = absurd like
like-ended (run ∷ runs) (other ∷ others) like = (ended-like run other like.0, like-ended runs others like.1)

-- ---- the runs of logs are like themselves

left_like : (first count : ℕ) (run other : Progress Operation) → IsLike run other → IsLike (left_from first count run) (left_from first count other)
left_like first zero run other like = like
left_like first (suc count) run other like = left-like (first + count) run other like

-- So are the runs of logs, whatever epochs were taken out of them.
pub runs-like : (scheme : Scheme) (header : Header) (count number : ℕ) (logs : List (List ℕ))
    → AreLike (runs_from scheme header count number logs) (runs_from scheme header count number logs)
runs-like scheme header count number [] = tt
runs-like scheme header count number (log ∷ logs) =
    let run : Progress Operation = opening_progress number header in
    let all = fed keeps_operations scheme run log in (
      left_like header.first count all all (fed-like keeps_operations scheme run run log (opening-like number header)),
      runs-like scheme header count (suc number) logs,
    )
