-- Frames that are read before they are fed, and what reading them does.
use Rattle.std.specs.Prelude.{◌≡◌, ◌≢◌, ◌⊎◌, ℕ, ◌+◌, ◌-◌, ◌*◌, ◌<◌, ◌≤◌, List, [], ◌∷◌, length, map, take, Option, Some, Result, Ok, IfOk, IfSome, OnOk, vec_len}
use Rattle.std.specs.List.{AllByRecursion}
use Rattle.base_words.specs.declared.memory.Memory.{Memory}
use Rattle.fv_outside.specs.Consumed.{most_behind}
use Rattle.fv_outside.specs.Faults.{Rose}
use Rattle.fv_outside.specs.declared.failure.Failure.{Failure}
use Rattle.fv_outside.specs.declared.failure.Failure.TheVariants.{ReadFault, InputLimit}
use Rattle.lamport_clocks.specs.declared.header.Header.{Header}
use Rattle.bundle_frames.specs.Bundle.{Frame, IsFrame, with_frames, longest_body}
use Rattle.bundle_frames.specs.Extent.{IsDue}
use Rattle.bundle_frames.specs.Progress.{position}
use Rattle.bundle_frames.specs.Reading.{Reading, ahead, end_ahead, HasRead, IsSpent, ReadsAs}
use Rattle.check_core.specs.declared.batch.Filled.{Filled}
use Rattle.check_core.specs.declared.batch.Filled.TheVariants.{Whole, End, Stopped}
use Rattle.check_core.specs.declared.batch.FrameHolder.{FrameHolder}
use Rattle.check_core.specs.declared.batch.Batch.TheInside.{Inside}

-- the frame that a holder holds
abbrev pub frame_in : FrameHolder → Frame
frame_in holder = record { verifier = holder.verifier; body = holder.body }

-- the frames that were read
abbrev pub frames_of : Inside → List Frame
frames_of b = map frame_in (take b.count b.holders.items)

-- how many bytes their bodies have
abbrev pub bytes_of : List Frame → ℕ
bytes_of [] = 0
bytes_of (frame ∷ frames) = length frame.body + bytes_of frames

-- as many frames as are counted, and as many bytes
pub record IsBatch (b : Inside) : Type 0 where
  pub count : b.count ≤ vec_len b.holders
  pub few : b.count ≤ 64
  pub bytes : b.bytes ≡ bytes_of (frames_of b)
  pub bounded : b.bytes ≤ b.count * longest_body

-- Reading went on: whatever follows the bytes that were taken, what was ahead is these frames and then what is ahead
-- now, and reading ends where it did. The frames have no more bytes than were split.
pub record GoesOnBy (frames : List Frame) (old new : Reading) (left : Option (List ℕ)) : Type 0 where
  pub means : ReadsAs (new.taken - old.taken) left (ahead old) (λ more. with_frames frames (ahead new more))
  pub extent : ReadsAs (new.taken - old.taken) left (end_ahead old) (end_ahead new)
  pub header : new.progress.header ≡ old.progress.header
  pub bytes : bytes_of frames + old.progress.offset ≤ new.progress.offset

-- So many frames were to be read, and these were: with this result, of a source that had these bytes and so many faults.
pub record HasFilled (most : ℕ) (frames : List Frame) (result : Result Filled Memory) (old new : Reading)
    (left left_now : Option (List ℕ)) (faults faults_now : ℕ) : Type 0 where
  -- What was read are these frames, whatever comes behind them.
  pub goes_on : OnOk result (GoesOnBy frames old new left)
  pub ranges : (header : Header) → old.progress.header ≡ Some header → AllByRecursion (IsFrame header.verifiers) frames
  pub whole : result ≡ Ok Whole → length frames ≡ most
  -- What was taken of the source. Past the limit it is one byte, and that is not read.
  pub having_read : result ≢ Ok (Stopped InputLimit) → HasRead (new.taken - old.taken) left left_now
  pub limit : result ≡ Ok (Stopped InputLimit) → HasRead (new.limit + 1 - old.taken) left left_now
  pub full : result ≡ Ok (Stopped InputLimit) → new.taken ≡ new.limit
  pub rises : old.taken ≤ new.taken
  pub within : new.taken ≤ new.limit
  pub same_limit : new.limit ≡ old.limit
  pub split : position new.progress ≤ new.taken
  -- A piece is read only while reading ends behind what was taken, and a byte past the limit too.
  pub near : old.taken < new.taken → IfSome left (λ bytes. new.taken ≤ end_ahead old bytes + most_behind)
  pub beyond : result ≡ Ok (Stopped InputLimit) → IfSome left (λ bytes. new.limit < end_ahead old bytes)
  -- At the end no byte that is left makes a difference, and reading ended within what was taken.
  pub end : result ≡ Ok End → IfSome left_now (λ more. ahead new more ≡ ahead new [])
  pub reached : result ≡ Ok End → IfSome left_now (λ more. end_ahead new more ≤ new.taken)
  -- There is no more of what was read, but where all frames are there.
  pub spent : IfOk result (λ filled. filled ≢ Whole → IsSpent new)
  pub due : result ≡ Ok Whole → IsDue new.progress
  pub stopped : (failure : Failure) → result ≡ Ok (Stopped failure) → (failure ≡ ReadFault) ⊎ (failure ≡ InputLimit)
  pub fault : result ≡ Ok (Stopped ReadFault) → Rose faults faults_now
  pub never_falls : faults ≤ faults_now
