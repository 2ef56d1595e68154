-- The lines that runs tell of the certified epochs are those of the report.
use Rattle.std.proofs.Common.{◌≡◌, ℕ, zero, suc, ◌+◌, ◌<◌, ◌≤◌, ◌==◌, List, ◌++◌, map, refl, sym, ◌∙◌, ap, append-nil, append_assoc, arith, ◌∷◌, []}
use Rattle.std.specs.List.{flat_map}
use Rattle.std.proofs.lemmas.Grind.{flat_map-append}
use Rattle.lamport_clocks.specs.declared.header.Header.{Header}
use Rattle.merkle_records.specs.Scheme.{Scheme}
use Rattle.record_text.specs.declared.operation.Operation.{Operation}
use Rattle.log_codec.specs.Log.{read_log}
use Rattle.stamp_order.specs.Merged.{merged}
use Rattle.stamp_order.specs.Operations.{moment_of}
use Rattle.stamp_order.proofs.MergedLaws.{merged-filter, merged-flat_map}
use Rattle.verifier_run.specs.Course.{Course}
use Rattle.soundness.specs.History.{Event}
use Rattle.soundness.specs.Certified.{event_moment, all_events, order_of, order_within, operations_by, operations_in, operations_of, epochs_from}
use Rattle.bundle_report.specs.Report.{EpochTold}
use Rattle.bundle_report.specs.BundleReport.{epoch_lines, histories_in}
use Rattle.bundle_report.specs.RunReport.{courses_of, operations_among}
use Rattle.bundle_report.specs.SoFar.{epoch_operations, lines_told, lines_from}
use Rattle.bundle_report.proofs.EpochOperationsLemmas.{operations-within}
use Rattle.bundle_report.proofs.RunReportLemmas.{block_moment, operations-among}

module _ (scheme : Scheme) (header : Header) (logs : List (List ℕ)) where
  abbrev courses : List (Course Operation)
  courses = courses_of scheme header logs

  abbrev histories : List (List Event)
  histories = histories_in scheme header (map (read_log scheme.format) logs)

  -- the operations of the merged order are the merged operations
  all_operations : operations_in (order_of histories) ≡ merged moment_of (operations_among courses)
  all_operations =
      let block : Event → List Operation = λ (event : Event). operations_by event event.change in
      merged-flat_map event_moment moment_of block (λ event. block_moment event event.change) (all_events histories)
      ∙ ap (merged moment_of) (sym (operations-among scheme header 0 logs))

  -- the operations of an epoch within so many
  epoch_is : (count epoch : ℕ) → header.first ≤ epoch → epoch < header.first + count
      → operations_of epoch (operations_in (order_within header.first count histories)) ≡ epoch_operations epoch courses
  epoch_is count epoch above below =
      operations-within header.first count epoch histories (order_of histories) refl above below
      ∙ ap (operations_of epoch) all_operations
      ∙ merged-filter moment_of (λ (op : Operation). op.stamp.epoch == epoch) (operations_among courses)

  lines_are : {A : Type 0} (tell : EpochTold A) (count epoch many : ℕ) → header.first ≤ epoch → epoch + many ≤ header.first + count
      → lines_from tell courses epoch many
      ≡ flat_map (epoch_lines tell (operations_in (order_within header.first count histories))) (epochs_from epoch many)
  lines_are tell count epoch zero above within = refl
  lines_are {A} tell count epoch (suc many) above within =
      let ops = operations_in (order_within header.first count histories) in
      ap (λ (own : List Operation). tell epoch own ++ lines_from tell courses (suc epoch) many)
      (sym (epoch_is count epoch above (omega (arith, within))))
      ∙ ap (λ (text : List A). epoch_lines tell ops epoch ++ text)
      (lines_are tell count (suc epoch) many (omega (arith, above)) (omega (arith, within)))

  -- The lines of so many epochs are those of the operations of the merged order within them.
  pub lines-are : {A : Type 0} (tell : EpochTold A) (count : ℕ)
      → lines_from tell courses header.first count
      ≡ flat_map (epoch_lines tell (operations_in (order_within header.first count histories))) (epochs_from header.first count)
  lines-are tell count = lines_are tell count header.first count (omega arith) (omega arith)

-- ---- the lines so far

epochs-more : (epoch count : ℕ) → epochs_from epoch (suc count) ≡ epochs_from epoch count ++ (epoch + count) ∷ []
epochs-more epoch zero =
    let same : epoch ≡ epoch + 0 = omega arith in
    ap (λ (e : ℕ). e ∷ []) same
epochs-more epoch (suc count) =
    let same : suc epoch + count ≡ epoch + suc count = omega arith in
    ap (λ (es : List ℕ). epoch ∷ es) (epochs-more (suc epoch) count ∙ ap (λ (e : ℕ). epochs_from (suc epoch) count ++ e ∷ []) same)

-- the lines of one epoch more
pub lines-more : {A : Type 0} (tell : EpochTold A) (courses : List (Course Operation)) (epoch count : ℕ)
    → lines_from tell courses epoch (suc count) ≡ lines_from tell courses epoch count ++ lines_told tell courses (epoch + count)
lines-more {A} tell courses epoch count =
    ap (flat_map (lines_told tell courses)) (epochs-more epoch count)
    ∙ flat_map-append (lines_told tell courses) (epochs_from epoch count) ((epoch + count) ∷ [])
    ∙ ap (λ (text : List A). lines_from tell courses epoch count ++ text) (append-nil (lines_told tell courses (epoch + count)))

-- the lines of so many epochs, and then of those behind them
pub lines-behind : {A : Type 0} (tell : EpochTold A) (courses : List (Course Operation)) (epoch count more : ℕ)
    → lines_from tell courses epoch (count + more) ≡ lines_from tell courses epoch count ++ lines_from tell courses (epoch + count) more
lines-behind tell courses epoch zero more =
    let count : 0 + more ≡ more = omega arith in
    let same : epoch ≡ epoch + 0 = omega arith in
    ap (lines_from tell courses epoch) count ∙ ap (λ (e : ℕ). lines_from tell courses e more) same
lines-behind {A} tell courses epoch (suc count) more =
    let sum : suc count + more ≡ suc (count + more) = omega arith in
    let same : suc epoch + count ≡ epoch + suc count = omega arith in
    ap (lines_from tell courses epoch) sum
    ∙ ap (λ (text : List A). lines_told tell courses epoch ++ text) (lines-behind tell courses (suc epoch) count more)
    ∙ sym (append_assoc (lines_told tell courses epoch) (lines_from tell courses (suc epoch) count) (lines_from tell courses (suc epoch + count) more))
    ∙ ap (λ (e : ℕ). lines_from tell courses epoch (suc count) ++ lines_from tell courses e more) same
