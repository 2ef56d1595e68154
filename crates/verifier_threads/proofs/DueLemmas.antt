-- What the bundle of logs certifies stays due, whatever bytes follow it.
use Rattle.std.proofs.Common.{◌≡◌, Bool, ℕ, zero, suc, ◌+◌, ◌<◌, ◌≤◌, List, [], ◌∷◌, ◌++◌, length, drop, Option, Some, None, refl, sym, ◌∙◌, ap, append_assoc, length-append, arith}
use Rattle.std.proofs.Math.Seq.{drop-append_seam}
use Rattle.std.specs.List.{AllByRecursion}
use Rattle.std.proofs.lemmas.List.{length-drop}
use Rattle.std.proofs.lemmas.List.Concat.{flat_map-append}
use Rattle.record_hash.specs.Functions.{DigestFunctions}
use Rattle.lamport_clocks.specs.declared.header.Header.{Header}
use Rattle.lamport_clocks.specs.Header.{IsHeader}
use Rattle.merkle_records.specs.Scheme.{scheme_of}
use Rattle.bundle_frames.specs.Bundle.{Frame, Frames, Bundle, IsFrame, header_bytes, header_text, header_in, longest_body, frame_in, frame_text, frame_bytes, frames_behind, with_frame, frames_up_to, frames_from, bundle_of, bundle_behind, bundle_from, body_for, log_of}
use Rattle.bundle_report.specs.Logs.{empty_logs, joined_from}
use Rattle.bundle_report.specs.Logged.{behind}
use Rattle.bundle_report.specs.Report.{told_by}
use Rattle.bundle_report.specs.Answer.{answer_by, check_answer}
use Rattle.bundle_report.proofs.DueLaws.{due-stays}
use Rattle.host_log.specs.Frames.{frames_of, texts_of, frames_text, frames_of_pieces, pieces_text}
use Rattle.host_rounds.specs.Bundle.{IsBundle}
use Rattle.host_rounds.proofs.BundleLaws.{pieces_in, rounds-text, rounds-joined, rounds-numbers}
use Rattle.host_rounds.specs.SoFar.{lines_due}

-- ---- what is told of frames

abbrev pub AreReadBack : Type 0
AreReadBack = (verifiers verifier : ℕ) (body more : List ℕ) → verifier < verifiers → verifier < 65536 → 1 ≤ length body → length body ≤ longest_body
    → frame_in verifiers (frame_text verifier body ++ more) ≡ Some (record { verifier = verifier; body = body })

abbrev pub AreEnough : Type 0
AreEnough = (count verifiers offset : ℕ) (bytes : List ℕ) → length bytes ≤ count
    → frames_up_to count verifiers offset bytes ≡ frames_from verifiers offset bytes

abbrev pub HeadsAreRead : Type 0
HeadsAreRead = (header : Header) (more : List ℕ) → IsHeader header → header.first < 4294967296 → header_in (header_text header ++ more) ≡ Some header

abbrev pub HeadsAreLong : Type 0
HeadsAreLong = (header : Header) → length (header_text header) ≡ header_bytes header.version

abbrev pub AreFrames : Type 0
AreFrames = (verifiers verifier : ℕ) (bytes : List ℕ) → verifier < verifiers → AllByRecursion (IsFrame verifiers) (frames_of verifier bytes)

abbrev pub KeepLogs : Type 0
KeepLogs = (verifier : ℕ) (pieces : List Frame) → log_of verifier (frames_of_pieces pieces) ≡ log_of verifier pieces

-- ---- pieces as frames

pieces-text : (pieces : List Frame) → pieces_text pieces ≡ texts_of (frames_of_pieces pieces)
pieces-text [] = refl
pieces-text (piece ∷ pieces) =
    ap (λ (more : List ℕ). frames_text piece.verifier piece.body ++ more) (pieces-text pieces)
    ∙ sym (flat_map-append (λ frame. frame_text frame.verifier frame.body) (frames_of piece.verifier piece.body) (frames_of_pieces pieces))

both-frames : (verifiers : ℕ) (front back : List Frame) → AllByRecursion (IsFrame verifiers) front → AllByRecursion (IsFrame verifiers) back
    → AllByRecursion (IsFrame verifiers) (front ++ back)
both-frames verifiers [] back fs bs = bs
both-frames verifiers (frame ∷ front) back fs bs = (fs.0, both-frames verifiers front back fs.1 bs)

pieces-frames : AreFrames → (verifiers : ℕ) (pieces : List Frame) → AllByRecursion (λ piece. piece.verifier < verifiers) pieces
    → AllByRecursion (IsFrame verifiers) (frames_of_pieces pieces)
pieces-frames are verifiers [] numbers = tt
pieces-frames are verifiers (piece ∷ pieces) numbers =
    both-frames verifiers (frames_of piece.verifier piece.body) (frames_of_pieces pieces) (are verifiers piece.verifier piece.body numbers.0)
    (pieces-frames are verifiers pieces numbers.1)

-- ---- frames, and bytes behind them

frames_behind-same : (offset : ℕ) (frame : Option Frame) (a b : Frame → Frames) → ((f : Frame) → a f ≡ b f)
    → frames_behind offset frame a ≡ frames_behind offset frame b
frames_behind-same offset None a b same = refl
frames_behind-same offset (Some frame) a b same = ap (with_frame frame) (same frame)

frames-first : AreEnough → (verifiers offset : ℕ) (bytes : List ℕ) → 0 < length bytes
    → frames_from verifiers offset bytes ≡ frames_behind offset (frame_in verifiers bytes)
    (λ frame. frames_from verifiers (offset + frame_bytes frame) (drop (frame_bytes frame) bytes))
unfolding frames_up_to
frames-first enough v o [] some = absurd (omega arith)
frames-first enough v o (x ∷ xs) some =
    frames_behind-same o (frame_in v (x ∷ xs)) _ _
    (λ f. enough (length xs) v (o + frame_bytes f) (drop (frame_bytes f) (x ∷ xs))
    (omega (arith, length-drop (frame_bytes f) (x ∷ xs))))

-- the frames, and those of the bytes behind them
abbrev with_more : List Frame → Frames → Frames
with_more frames rest = record { frames = frames ++ rest.frames; bad = rest.bad }

frames-more : AreEnough → AreReadBack → (verifiers offset : ℕ) (frames : List Frame) (more : List ℕ) → verifiers ≤ 65536
    → AllByRecursion (IsFrame verifiers) frames
    → (rest : Frames) × (frames_from verifiers offset (texts_of frames ++ more) ≡ with_more frames rest)
frames-more enough back verifiers offset [] more fits good = (frames_from verifiers offset more, refl)
frames-more enough back verifiers offset (frame ∷ frames) more fits good =
    let text = frame_text frame.verifier frame.body in
    let others = texts_of frames ++ more in
    let below = good.0.verifier in
    let is = back verifiers frame.verifier frame.body others below (omega (arith, below, fits)) good.0.some good.0.bounded in
    let same : frame_bytes frame ≡ length text = omega arith in
    let behind : drop (frame_bytes frame) (text ++ others) ≡ others = ap (λ (k : ℕ). drop k (text ++ others)) same ∙ drop-append_seam text others in
    let size = length-append text others in
    let some : 0 < length (text ++ others) = omega (arith, size, same, good.0.some) in
    let next = frames-more enough back verifiers (offset + frame_bytes frame) frames more fits good.1 in (
      next.0,
      ap (frames_from verifiers offset) (append_assoc text (texts_of frames) more)
          ∙ frames-first enough verifiers offset (text ++ others) some
          ∙ ap (λ (o : Option Frame). frames_behind offset o (λ f. frames_from verifiers (offset + frame_bytes f) (drop (frame_bytes f) (text ++ others)))) is
          ∙ ap (λ (bytes : List ℕ). with_frame frame (frames_from verifiers (offset + frame_bytes frame) bytes)) behind
          ∙ ap (with_frame frame) next.1,
    )

-- ---- logs, and what frames add behind

joined-same : (number : ℕ) (logs : List (List ℕ)) (frames others : List Frame) → ((verifier : ℕ) → log_of verifier frames ≡ log_of verifier others)
    → joined_from number logs frames ≡ joined_from number logs others
joined-same number [] frames others same = refl
joined-same number (log ∷ logs) frames others same =
    ap (λ (bytes : List ℕ). (log ++ bytes) ∷ joined_from (suc number) logs frames) (same number)
    ∙ ap (λ (rest : List (List ℕ)). (log ++ log_of number others) ∷ rest) (joined-same (suc number) logs frames others same)

joined-more : (number : ℕ) (logs : List (List ℕ)) (frames more : List Frame)
    → joined_from number logs (frames ++ more) ≡ joined_from number (joined_from number logs frames) more
joined-more number [] frames more = refl
joined-more number (log ∷ logs) frames more =
    ap (λ (bytes : List ℕ). (log ++ bytes) ∷ joined_from (suc number) logs (frames ++ more)) (flat_map-append (body_for number) frames more)
    ∙ ap (λ (bytes : List ℕ). bytes ∷ joined_from (suc number) logs (frames ++ more)) (sym (append_assoc log (log_of number frames) (log_of number more)))
    ∙ ap (λ (rest : List (List ℕ)). ((log ++ log_of number frames) ++ log_of number more) ∷ rest) (joined-more (suc number) logs frames more)

joined-length : (number : ℕ) (logs : List (List ℕ)) (frames : List Frame) → length (joined_from number logs frames) ≡ length logs
joined-length number [] frames = refl
joined-length number (log ∷ logs) frames = ap suc (joined-length (suc number) logs frames)

empty-length : (count : ℕ) → length (empty_logs count) ≡ count
empty-length zero = refl
empty-length (suc count) = ap suc (empty-length count)

-- ---- the bundle, and bytes behind it

-- a bundle with these frames
abbrev bundle_with : Header → Frames → Bundle
bundle_with header found = record { header = Some header; frames = found.frames; bad = found.bad }

module _ (enough : AreEnough) (back : AreReadBack) (heads : HeadsAreRead) (long : HeadsAreLong) (are : AreFrames) (keep : KeepLogs) where
  pub what-stays_due : (receipts : Bool) (functions : DigestFunctions) (header : Header) (logs : List (List ℕ)) (rounds : List (List (List ℕ))) (bytes more : List ℕ) → IsBundle header logs rounds bytes
      → (rest : List ℕ) × ((check_answer receipts functions (bytes ++ more)).due ≡ lines_due (told_by receipts functions header) functions header logs ++ rest)
  what-stays_due receipts functions header logs rounds bytes more bundle =
      let pieces = pieces_in rounds in
      let frames = frames_of_pieces pieces in
      let empty = empty_logs header.verifiers in
      let behind_it = texts_of frames ++ more in
      let most = bundle.header_good.verifiers in
      let size = header_bytes header.version in
      let found = frames-more enough back header.verifiers size frames more (omega (arith, most)) (pieces-frames are header.verifiers pieces (rounds-numbers header.verifiers rounds bundle.each)) in
      let all : bytes ++ more ≡ header_text header ++ behind_it =
      ap (λ (text : List ℕ). text ++ more) (bundle.bytes_are ∙ ap (λ (text : List ℕ). header_text header ++ text) (rounds-text rounds ∙ pieces-text pieces))
      ∙ append_assoc (header_text header) (texts_of frames) more in
      let is : bundle_of (bytes ++ more) ≡ bundle_with header (with_more frames found.0) =
      ap bundle_of all
      ∙ ap (λ (o : Option Header). bundle_behind o (header_text header ++ behind_it)) (heads header behind_it bundle.header_good bundle.first)
      ∙ ap (bundle_from header size) (ap (λ (n : ℕ). drop n (header_text header ++ behind_it)) (sym (long header)) ∙ drop-append_seam (header_text header) behind_it)
      ∙ ap (bundle_with header) found.1 in
      let logs_are : joined_from 0 empty (frames ++ found.0.frames) ≡ joined_from 0 logs found.0.frames =
      joined-more 0 empty frames found.0.frames
      ∙ ap (λ (front : List (List ℕ)). joined_from 0 front found.0.frames)
      (joined-same 0 empty frames pieces (λ verifier. keep verifier pieces) ∙ sym (bundle.logs_are ∙ rounds-joined empty rounds)) in
      let whole : length logs ≡ header.verifiers = ap length (bundle.logs_are ∙ rounds-joined empty rounds) ∙ joined-length 0 empty pieces ∙ empty-length header.verifiers in
      let stays = due-stays (told_by receipts functions header) (scheme_of functions header) header logs found.0.frames bundle.header_good whole in (
        stays.0,
        ap (λ (b : Bundle). (answer_by receipts functions (behind None [] b)).due) is
            ∙ ap (lines_due (told_by receipts functions header) functions header) logs_are
            ∙ sym stays.1,
      )
