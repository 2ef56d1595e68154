-- A check that goes on behind a whole bundle has of its source what it would have where it had read that bundle.
use Rattle.std.proofs.Common.{◌≡◌, ℕ, ◌+◌, ◌≤◌, List, [], ◌++◌, length, Option, Some, None, IfSome, refl, sym, ap, ◌∙◌, subst, append_assoc, length-append, arith}
use Rattle.std.specs.Option.{option_map}
use Rattle.fv_outside.specs.Consumed.{most_behind}
use Rattle.lamport_clocks.specs.declared.header.Header.{Header}
use Rattle.bundle_frames.specs.Bundle.{Frame, bundle_of}
use Rattle.bundle_frames.specs.Extent.{reading_end}
use Rattle.bundle_frames.specs.Reading.{resumed_reading, ahead, end_ahead, HasRead, ReadsAs}
use Rattle.bundle_frames.proofs.ResumedLaws.{ahead_resumed, extent_behind, end_no_sooner, HasRead-behind, ReadsAs-behind}
use Rattle.bundle_report.specs.Logs.{empty_logs, joined_from, logs_so_far}
use Rattle.bundle_report.specs.Logged.{Logged, behind, logged_of}
use Rattle.check_core.specs.Intake.{behind_at}
use Rattle.check_core.specs.Stream.{HasCome}
use Rattle.check_core.proofs.MeaningLemmas.{joined_more}

module _ (bytes : List ℕ) (header : Header) (is : (bundle_of bytes).header ≡ Some header) (good : (bundle_of bytes).bad ≡ None) where
  -- the logs of all bytes are those so far, with what the frames ahead add
  pub means_resumed : (unread more : List ℕ) (limit : ℕ)
      → logged_of (bytes ++ (unread ++ more)) ≡ behind_at (logged_of bytes).logs (resumed_reading header (length bytes) limit unread) more
  means_resumed unread more limit =
      let rest = ahead (resumed_reading header (length bytes) limit unread) more in
      let frames = (bundle_of bytes).frames in
      ap (behind None []) (ahead_resumed bytes unread more header limit is good)
      ∙ ap (λ (logs : List (List ℕ)). let l : Logged = record { header = Some header; logs = logs; bad = rest.bad } in l)
      (joined_more 0 (empty_logs header.verifiers) frames rest.frames
      ∙ ap (λ (h : Option Header). joined_from 0 (joined_from 0 (logs_so_far None [] h) frames) rest.frames) (sym is))

  near_resumed : (unread : List ℕ) (left : Option (List ℕ)) (more : ℕ) → length unread ≤ more + most_behind
      → IfSome (option_map (λ rest. (bytes ++ unread) ++ rest) left) (λ all. length bytes + length unread ≤ reading_end all + (more + most_behind))
  near_resumed unread None more few = tt
  near_resumed unread (Some rest) more few =
      let later = end_no_sooner bytes (unread ++ rest) header is good in
      let same = ap reading_end (append_assoc bytes unread rest) in
      omega (arith, later, same, few)

  -- A reader that was resumed so: of the whole source so much has come.
  pub has_come_resumed : (unread : List ℕ) (left : Option (List ℕ)) (faults now more limit : ℕ) → length unread ≤ more + most_behind → faults ≤ now
      → HasCome (option_map (λ rest. (bytes ++ unread) ++ rest) left) faults more (logged_of bytes).logs (resumed_reading header (length bytes) limit unread) left now
  has_come_resumed unread left faults now more limit few rises =
      let all : Option (List ℕ) = option_map (λ rest. (bytes ++ unread) ++ rest) left in
      let size = length-append bytes unread in
      record {
        having_read = subst (λ (n : ℕ). HasRead n all left) size (HasRead-behind (bytes ++ unread) left);
        means = subst (λ (n : ℕ). ReadsAs n all logged_of (behind_at (logged_of bytes).logs (resumed_reading header (length bytes) limit unread))) size
            (ReadsAs-behind (bytes ++ unread) left logged_of (behind_at (logged_of bytes).logs (resumed_reading header (length bytes) limit unread))
            (λ rest. ap logged_of (append_assoc bytes unread rest) ∙ means_resumed unread rest limit));
        extent = subst (λ (n : ℕ). ReadsAs n all reading_end (end_ahead (resumed_reading header (length bytes) limit unread))) size
            (extent_behind bytes unread left header limit is good);
        near = λ some. near_resumed unread left more few;
        never_falls = rises;
      }
