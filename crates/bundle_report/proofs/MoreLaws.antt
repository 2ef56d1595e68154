-- Runs go on with more of their logs: what is certified of them stays, and so do its lines.
use Rattle.std.proofs.Common.{◌≡◌, ℕ, zero, suc, ◌+◌, ◌<◌, ◌≤◌, ◌==◌, Bool, true, false, if◌then◌else◌, List, [], ◌∷◌, ◌++◌, length, slice_get, Option, refl, sym, ◌∙◌, ap, subst, append-nil, append_assoc, length-append, arith}
use Rattle.std.specs.Prelude.{⊤}
use Rattle.std.specs.List.{AllByRecursion}
use Rattle.std.specs.Option.{option_to_list}
use Rattle.std.proofs.lemmas.Bool.{cond-false, ne_eqb}
use Rattle.std.proofs.lemmas.List.{length-map}
use Rattle.std.proofs.lemmas.List.Elements.{filter-append}
use Rattle.lamport_clocks.specs.declared.header.Header.{Header}
use Rattle.merkle_records.specs.Scheme.{Scheme}
use Rattle.bundle_frames.specs.Bundle.{Frame, log_of}
use Rattle.multiset_sum.specs.declared.part.Part.{Part}
use Rattle.record_text.specs.declared.operation.Operation.{Operation}
use Rattle.log_codec.specs.Log.{read_log}
use Rattle.stamp_order.specs.Merged.{merged, of_epoch}
use Rattle.stamp_order.specs.Operations.{moment_of}
use Rattle.verifier_run.specs.Kept.{keeps_operations}
use Rattle.verifier_run.specs.Progress.{Progress, opening_progress, fed}
use Rattle.verifier_run.specs.Order.{operation_epoch, NeverFalls, clock_of, GoesOn}
use Rattle.verifier_run.proofs.RunLaws.{fed_joined, fed_goes_on, fed_left, clock_of_fed}
use Rattle.soundness.specs.History.{log_events}
use Rattle.soundness.specs.Certified.{sealed_count, epochs_from}
use Rattle.bundle_report.specs.Logs.{joined_from}
use Rattle.bundle_report.specs.Report.{EpochTold}
use Rattle.bundle_report.specs.RunReport.{courses_from, courses_of, parts_at, operations_among}
use Rattle.bundle_report.specs.SoFar.{lines_told, lines_from, left_from, runs_from, having_read, runs_behind}
use Rattle.bundle_report.proofs.PartLemmas.{part_of, log-parts}
use Rattle.bundle_report.proofs.RunReportLemmas.{told_from}
use Rattle.bundle_report.proofs.LeftLaws.{run_of, whole_of, whole-parts, whole-operations, get_front}

-- ---- what has sealed an epoch

epochs-length : (count epoch : ℕ) → length (epochs_from epoch count) ≡ count
epochs-length zero epoch = refl
epochs-length (suc count) epoch = ap suc (epochs-length count (suc epoch))

module _ (scheme : Scheme) (header : Header) where
  -- a log has handed in as many parts as it has sealed epochs
  parts-count : (number : ℕ) (log : List ℕ)
      → length (run_of scheme header number log).course.parts ≡ sealed_count (log_events scheme header number (read_log scheme.format log).commands)
  parts-count number log =
      let commands = (read_log scheme.format log).commands in
      let events = log_events scheme header number commands in
      ap length (sym (whole-parts scheme header number log) ∙ log-parts scheme header number commands)
      ∙ length-map (epochs_from header.first (sealed_count events)) (part_of scheme number events)
      ∙ epochs-length (sealed_count events) header.first

  -- Each of the logs, the first of which is of the verifier of this number, has handed in so many parts.
  abbrev pub AreLong : ℕ → ℕ → List (List ℕ) → Type 0
  AreLong count number [] = ⊤
  AreLong count number (log ∷ logs) = (count ≤ length (run_of scheme header number log).course.parts) × AreLong count (suc number) logs

  -- So it is where their histories have sealed so many epochs.
  pub long-sealed : (index number : ℕ) (logs : List (List ℕ))
      → AllByRecursion (λ events. index < sealed_count events) (told_from scheme header number logs)
      → AreLong (suc index) number logs
  long-sealed index number [] all = tt
  long-sealed index number (log ∷ logs) all =
      (omega (arith, parts-count number log, all.0), long-sealed index (suc number) logs all.1)

  pub long-none : (number : ℕ) (logs : List (List ℕ)) → AreLong 0 number logs
  long-none number [] = tt
  long-none number (log ∷ logs) = (omega arith, long-none (suc number) logs)

-- ---- one log more

module _ (scheme : Scheme) (header : Header) (number : ℕ) (log piece : List ℕ) where
  -- the run before and after
  abbrev old : Progress Operation
  old = run_of scheme header number log

  abbrev new : Progress Operation
  new = run_of scheme header number (log ++ piece)

  -- the run takes the piece
  new_is : fed keeps_operations scheme old piece ≡ new
  new_is = fed_joined scheme (opening_progress number header) log piece

  -- and goes on
  goes_on : GoesOn operation_epoch old.course new.course
  goes_on = subst (λ (run : Progress Operation). GoesOn operation_epoch old.course run.course) new_is (fed_goes_on scheme old piece)

  -- a part that was handed in stays
  part_stays : (index : ℕ) → index < length old.course.parts
      → slice_get (whole_of scheme header number (log ++ piece)).parts index ≡ slice_get (whole_of scheme header number log).parts index
  part_stays index below =
      ap (λ (parts : List Part). slice_get parts index) (whole-parts scheme header number (log ++ piece) ∙ goes_on.parts_behind)
      ∙ get_front index old.course.parts goes_on.parts below
      ∙ ap (λ (parts : List Part). slice_get parts index) (sym (whole-parts scheme header number log))

  -- nothing is done any more in an epoch before the clock's
  none_of : (epoch low high : ℕ) (ops : List Operation) → epoch < low → NeverFalls operation_epoch low high ops
      → of_epoch moment_of epoch ops ≡ []
  none_of epoch low high [] below is = refl
  none_of epoch low high (op ∷ ops) below is =
      cond-false (op.stamp.epoch == epoch) _ _ (ne_eqb _ _ (λ same. absurd (omega (arith, is.0, same))))
      ∙ none_of epoch op.stamp.epoch high ops (omega (arith, is.0)) is.1

  operations_stay : (epoch : ℕ) → epoch < (clock_of old.course).at.epoch
      → of_epoch moment_of epoch (whole_of scheme header number (log ++ piece)).items
      ≡ of_epoch moment_of epoch (whole_of scheme header number log).items
  operations_stay epoch below =
      ap (of_epoch moment_of epoch) (whole-operations scheme header number (log ++ piece) ∙ goes_on.items_behind)
      ∙ filter-append (λ (op : Operation). op.stamp.epoch == epoch) old.course.items goes_on.items
      ∙ ap (λ (ops : List Operation). of_epoch moment_of epoch old.course.items ++ ops)
      (none_of epoch (clock_of old.course).at.epoch (clock_of new.course).at.epoch goes_on.items below goes_on.hands_out.items)
      ∙ append-nil (of_epoch moment_of epoch old.course.items)
      ∙ ap (of_epoch moment_of epoch) (sym (whole-operations scheme header number log))

  -- the run without the first so many epochs takes the piece as the run does
  left_stays : (count : ℕ) → count ≤ length old.course.parts
      → fed keeps_operations scheme (left_from header.first count old) piece ≡ left_from header.first count new
  left_stays zero within = new_is
  left_stays (suc count) within =
      let clock = clock_of_fed scheme number header log (omega (arith, within)) in
      fed_left (header.first + count) scheme old piece (omega (arith, clock, within))
      ∙ ap (left_from header.first (suc count)) new_is

  -- no part that was handed in is lost
  long_stays : (count : ℕ) → count ≤ length old.course.parts → count ≤ length new.course.parts
  long_stays count within =
      omega (arith, within, ap length goes_on.parts_behind, length-append old.course.parts goes_on.parts)

-- A run without the first so many epochs takes frames as the run does.
having_read-left : (scheme : Scheme) (header : Header) (number count : ℕ) (log : List ℕ) (frames : List Frame)
    → count ≤ length (run_of scheme header number log).course.parts
    → having_read scheme number (left_from header.first count (run_of scheme header number log)) frames
    ≡ left_from header.first count (run_of scheme header number (log ++ log_of number frames))
having_read-left scheme header number count log [] within =
    ap (λ (bytes : List ℕ). left_from header.first count (run_of scheme header number bytes)) (sym (append-nil log))
having_read-left scheme header number count log (frame ∷ frames) within =
    go (frame.verifier == number) refl
    (having_read-left scheme header number count (log ++ frame.body) frames (long_stays scheme header number log frame.body count within))
    (having_read-left scheme header number count log frames within)
  where
    run : Progress Operation
    run = left_from header.first count (run_of scheme header number log)

    go : (b : Bool) → (frame.verifier == number) ≡ b
        → having_read scheme number (left_from header.first count (run_of scheme header number (log ++ frame.body))) frames
        ≡ left_from header.first count (run_of scheme header number ((log ++ frame.body) ++ log_of number frames))
        → having_read scheme number run frames ≡ left_from header.first count (run_of scheme header number (log ++ log_of number frames))
        → having_read scheme number (if b then fed keeps_operations scheme run frame.body else run) frames
        ≡ left_from header.first count (run_of scheme header number (log ++ ((if frame.verifier == number then frame.body else []) ++ log_of number frames)))
    go true own mine others =
        ap (λ (r : Progress Operation). having_read scheme number r frames) (left_stays scheme header number log frame.body count within)
        ∙ mine
        ∙ ap (λ (bytes : List ℕ). left_from header.first count (run_of scheme header number bytes))
        (append_assoc log frame.body (log_of number frames))
        ∙ ap (λ (b : Bool). left_from header.first count (run_of scheme header number (log ++ ((if b then frame.body else []) ++ log_of number frames))))
        (sym own)
    go false other mine others =
        others
        ∙ ap (λ (b : Bool). left_from header.first count (run_of scheme header number (log ++ ((if b then frame.body else []) ++ log_of number frames))))
        (sym other)

-- ---- all logs

module _ (scheme : Scheme) (header : Header) (frames : List Frame) where
  -- The parts of an epoch that all have sealed stay.
  pub parts-stay : (index number : ℕ) (logs : List (List ℕ)) → AreLong scheme header (suc index) number logs
      → parts_at index (courses_from scheme header number (joined_from number logs frames))
      ≡ parts_at index (courses_from scheme header number logs)
  parts-stay index number [] long = refl
  parts-stay index number (log ∷ logs) long =
      ap (λ (part : Option Part). option_to_list part
      ++ parts_at index (courses_from scheme header (suc number) (joined_from (suc number) logs frames)))
      (part_stays scheme header number log (log_of number frames) index (omega (arith, long.0)))
      ∙ ap (λ (parts : List Part). option_to_list (slice_get (whole_of scheme header number log).parts index) ++ parts)
      (parts-stay index (suc number) logs long.1)

  -- And so do its operations.
  pub operations-stay : (count epoch number : ℕ) (logs : List (List ℕ)) → AreLong scheme header (suc count) number logs
      → epoch ≤ header.first + count
      → of_epoch moment_of epoch (operations_among (courses_from scheme header number (joined_from number logs frames)))
      ≡ of_epoch moment_of epoch (operations_among (courses_from scheme header number logs))
  operations-stay count epoch number [] long within = refl
  operations-stay count epoch number (log ∷ logs) long within =
      let clock = clock_of_fed scheme number header log (omega (arith, long.0)) in
      let more = whole_of scheme header number (log ++ log_of number frames) in
      let whole = whole_of scheme header number log in
      let others = operations_among (courses_from scheme header (suc number) (joined_from (suc number) logs frames)) in
      let rest = operations_among (courses_from scheme header (suc number) logs) in
      filter-append (λ (op : Operation). op.stamp.epoch == epoch) more.items others
      ∙ ap (λ (ops : List Operation). ops ++ of_epoch moment_of epoch others)
      (operations_stay scheme header number log (log_of number frames) epoch (omega (arith, clock, long.0, within)))
      ∙ ap (λ (ops : List Operation). of_epoch moment_of epoch whole.items ++ ops) (operations-stay count epoch (suc number) logs long.1 within)
      ∙ sym (filter-append (λ (op : Operation). op.stamp.epoch == epoch) whole.items rest)

  -- Runs without the first so many epochs take frames as the runs do.
  pub runs-stay : (count number : ℕ) (logs : List (List ℕ)) → AreLong scheme header count number logs
      → runs_behind scheme number (runs_from scheme header count number logs) frames
      ≡ runs_from scheme header count number (joined_from number logs frames)
  runs-stay count number [] long = refl
  runs-stay count number (log ∷ logs) long =
      ap (λ (run : Progress Operation). run ∷ runs_behind scheme (suc number) (runs_from scheme header count (suc number) logs) frames)
      (having_read-left scheme header number count log frames long.0)
      ∙ ap (λ (runs : List (Progress Operation)). left_from header.first count (run_of scheme header number (log ++ log_of number frames)) ∷ runs)
      (runs-stay count (suc number) logs long.1)

  -- The lines of the epochs that all have sealed stay.
  lines_stay : {A : Type 0} (tell : EpochTold A) (logs : List (List ℕ)) (count epoch many : ℕ) → AreLong scheme header (suc count) 0 logs
      → epoch + many ≤ header.first + suc count
      → lines_from tell (courses_of scheme header (joined_from 0 logs frames)) epoch many ≡ lines_from tell (courses_of scheme header logs) epoch many
  lines_stay tell logs count epoch zero long within = refl
  lines_stay {A} tell logs count epoch (suc many) long within =
      let all = courses_of scheme header (joined_from 0 logs frames) in
      ap (λ (ops : List Operation). tell epoch (merged moment_of ops) ++ lines_from tell all (suc epoch) many)
      (operations-stay count epoch 0 logs long (omega (arith, within)))
      ∙ ap (λ (text : List A). lines_told tell (courses_of scheme header logs) epoch ++ text)
      (lines_stay tell logs count (suc epoch) many long (omega (arith, within)))

  pub lines-stay : {A : Type 0} (tell : EpochTold A) (logs : List (List ℕ)) (count : ℕ) → AreLong scheme header count 0 logs
      → lines_from tell (courses_of scheme header (joined_from 0 logs frames)) header.first count
      ≡ lines_from tell (courses_of scheme header logs) header.first count
  lines-stay tell logs zero long = refl
  lines-stay tell logs (suc count) long = lines_stay tell logs count header.first (suc count) long (omega arith)
