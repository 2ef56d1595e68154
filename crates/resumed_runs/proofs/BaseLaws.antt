-- Runs that can be certified still can once they took frames, once a balanced epoch is taken out of them, and with caches that are alike; and runs of
-- logs can be.
use Rattle.std.proofs.Common.{◌≡◌, ℕ, zero, suc, ◌+◌, ◌<◌, ◌≤◌, ◌==◌, nat_lt, Bool, true, false, if◌then◌else◌, List, [], ◌∷◌, length, map, refl, sym, ◌∙◌, ap, subst, arith}
use Rattle.std.specs.List.{AllByRecursion}
use Rattle.lamport_clocks.specs.declared.header.Header.{Header}
use Rattle.lamport_clocks.specs.Header.{IsHeader}
use Rattle.merkle_records.specs.Scheme.{Scheme}
use Rattle.multiset_sum.specs.declared.part.Part.{Part}
use Rattle.record_text.specs.declared.operation.Operation.{Operation}
use Rattle.bundle_frames.specs.Bundle.{Frame}
use Rattle.epoch_gather.specs.declared.outcome.Verdict.TheVariants.{Balanced}
use Rattle.epoch_gather.specs.Verdict.{verdict_of}
use Rattle.stamp_order.specs.Merged.{comes_before}
use Rattle.stamp_order.specs.Operations.{moment_of}
use Rattle.stamp_order.proofs.InOrderLaws.{every-weaker, every-filter, IsInOrder-filter}
use Rattle.stamp_order.proofs.MomentLaws.{comes_before-order}
use Rattle.verifier_run.specs.Kept.{keeps_operations}
use Rattle.verifier_run.specs.Progress.{Progress, opening_progress, fed}
use Rattle.verifier_run.specs.Order.{OneOfEach, clock_of, sealed_next}
use Rattle.verifier_run.specs.Taken.{left_of}
use Rattle.verifier_run.specs.Likeness.{IsLike, AreLike, run_with}
use Rattle.verifier_run.proofs.RunLaws.{fed_goes_on, first_next}
use Rattle.bundle_report.specs.declared.judged.Judged.{Judged}
use Rattle.bundle_report.specs.RunReport.{parts_at}
use Rattle.bundle_report.specs.SoFar.{runs_from, having_read_one, having_read, runs_behind, verdict_at, HaveRead}
use Rattle.bundle_report.proofs.LeftLaws.{next-parts, runs-length, runs-more}
use Rattle.resumed_runs.specs.Base.{IsOwn, IsDoneBy, CanBeCertified, AllCanBeCertified}
use Rattle.resumed_runs.proofs.FedLemmas.{fed_keeps}
use Rattle.resumed_runs.proofs.CommandLemmas.{Stands, stands-refused, stands-command}
use Rattle.resumed_runs.proofs.EachLemmas.{each-append, each-left}
use Rattle.resumed_runs.proofs.PartLemmas.{courses_in}
use Rattle.resumed_runs.proofs.SealedLemmas.{balanced-sealed}

-- ---- frames

module _ (epoch : ℕ) (scheme : Scheme) where
  fed_can : (number : ℕ) (run : Progress Operation) (piece : List ℕ) → CanBeCertified epoch number run → CanBeCertified epoch number (fed keeps_operations scheme run piece)
  fed_can number run piece can =
      let on = fed_goes_on scheme run piece in
      let new = (fed keeps_operations scheme run piece).course in
      let old : Stands number run.course = record {
        number_is = can.number_is;
        bounded = can.bounded;
        own = can.own;
        done = can.done;
        in_order = can.in_order;
      } in
      let stands = fed_keeps (Stands number) scheme (stands-refused scheme number) (stands-command scheme number) run piece old in
      record {
        number_is = stands.number_is;
        bounded = stands.bounded;
        each =
            subst (OneOfEach epoch (sealed_next (clock_of new))) (sym on.parts_behind)
            (each-append epoch (sealed_next (clock_of run.course)) (sealed_next (clock_of new)) run.course.parts on.parts can.each on.hands_out.parts);
        own = stands.own;
        done = stands.done;
        in_order = stands.in_order;
      }

  read_one : (number : ℕ) (run : Progress Operation) (frame : Frame) → CanBeCertified epoch number run → CanBeCertified epoch number (having_read_one scheme number run frame)
  read_one number run frame can = go (frame.verifier == number)
    where
      go : (own : Bool) → CanBeCertified epoch number (if own then fed keeps_operations scheme run frame.body else run)
      go true = fed_can number run frame.body can
      go false = can

  read_all : (number : ℕ) (run : Progress Operation) (frames : List Frame) → CanBeCertified epoch number run → CanBeCertified epoch number (having_read scheme number run frames)
  read_all number run [] can = can
  read_all number run (frame ∷ frames) can = read_all number (having_read_one scheme number run frame) frames (read_one number run frame can)

  -- Runs that can be certified still can once they took frames.
  pub can-frames : (number : ℕ) (runs : List (Progress Operation)) (frames : List Frame) → AllCanBeCertified epoch number runs
      → AllCanBeCertified epoch number (runs_behind scheme number runs frames)
  can-frames number [] frames can = tt
  can-frames number (run ∷ runs) frames can = (read_all number run frames can.0, can-frames (suc number) runs frames can.1)

-- ---- an epoch that is taken

left_can : (epoch number : ℕ) (run : Progress Operation) → epoch < sealed_next (clock_of run.course) → CanBeCertified epoch number run
    → CanBeCertified (suc epoch) number (left_of epoch run)
left_can epoch number run sealed can = record {
  number_is = can.number_is;
  bounded = can.bounded;
  each = each-left epoch (sealed_next (clock_of run.course)) epoch run.course.parts can.each (omega arith) (omega (arith, sealed));
  own = every-filter (IsOwn number) (λ (part : Part). nat_lt epoch part.epoch) run.course.parts can.own;
  done = every-filter (IsDoneBy number run.course.machine) (λ (op : Operation). nat_lt epoch op.stamp.epoch) run.course.items can.done;
  in_order =
      IsInOrder-filter (comes_before moment_of) (comes_before-order moment_of) (λ (op : Operation). nat_lt epoch op.stamp.epoch) run.course.items can.in_order;
}

all_left : (epoch number : ℕ) (runs : List (Progress Operation)) → AllByRecursion (λ run. epoch < sealed_next (clock_of run.course)) runs
    → AllCanBeCertified epoch number runs → AllCanBeCertified (suc epoch) number (map (left_of epoch) runs)
all_left epoch number [] sealed can = tt
all_left epoch number (run ∷ runs) sealed can = (left_can epoch number run sealed.0 can.0, all_left epoch (suc number) runs sealed.1 can.1)

-- Without an epoch that is balanced they can be certified from the one behind it.
pub can-turn : (epoch : ℕ) (runs : List (Progress Operation)) → AllCanBeCertified epoch 0 runs
    → verdict_of (length runs) epoch (parts_at 0 (courses_in runs)) ≡ Balanced → AllCanBeCertified (suc epoch) 0 (map (left_of epoch) runs)
can-turn epoch runs can balanced = all_left epoch 0 runs (balanced-sealed epoch runs can balanced) can

-- ---- caches that are alike

with_can : (epoch number : ℕ) (run other : Progress Operation) → IsLike run other → CanBeCertified epoch number run → CanBeCertified epoch number other
with_can epoch number run other like can =
    subst (CanBeCertified epoch number) (sym like.same) (record {
      number_is = can.number_is;
      bounded = can.bounded;
      each = can.each;
      own = can.own;
      done = every-weaker (IsDoneBy number run.course.machine) (IsDoneBy number (run_with run like.cache).course.machine)
          (λ op was. record { verifier = was.verifier; accepted = was.accepted; no_later = was.no_later }) run.course.items can.done;
      in_order = can.in_order;
    })

-- Runs that are like runs that can be certified can be, too.
pub can-alike : (epoch number : ℕ) (runs others : List (Progress Operation)) → AreLike runs others → AllCanBeCertified epoch number runs
    → AllCanBeCertified epoch number others
can-alike epoch number [] [] like can = tt
can-alike epoch number [] (other ∷ others) like can = absurd like
can-alike epoch number (run ∷ runs) [] like can = absurd like
can-alike epoch number (run ∷ runs) (other ∷ others) like can = (with_can epoch number run other like.0 can.0, can-alike epoch (suc number) runs others like.1 can.1)

-- ---- runs of logs

module _ (scheme : Scheme) (header : Header) (good : IsHeader header) where
  -- before its first byte
  opening_can : (number : ℕ) → CanBeCertified header.first number (opening_progress number header)
  opening_can number =
      let end = good.end in
      record {
        number_is = refl;
        bounded = record {
          end = end;
          counter = omega arith;
          added = omega arith;
          evicted = omega arith;
          added_before = omega arith;
          evicted_before = omega arith;
        };
        each = sym (first_next header.first);
        own = tt;
        done = tt;
        in_order = tt;
      }

  logs_can : (number : ℕ) (logs : List (List ℕ)) → AllCanBeCertified header.first number (runs_from scheme header 0 number logs)
  logs_can number [] = tt
  logs_can number (log ∷ logs) = (fed_can header.first scheme number (opening_progress number header) log (opening_can number), logs_can (suc number) logs)

  module _ (logs : List (List ℕ)) (whole : length logs ≡ header.verifiers) (count : ℕ)
      (balanced : (index : ℕ) → index < count → verdict_at scheme header logs index ≡ Balanced) where
    counted_can : (done : ℕ) → done ≤ count → AllCanBeCertified (header.first + done) 0 (runs_from scheme header done 0 logs)
    counted_can zero within =
        let start : header.first ≡ header.first + 0 = omega arith in
        subst (λ (epoch : ℕ). AllCanBeCertified epoch 0 (runs_from scheme header 0 0 logs)) start (logs_can 0 logs)
    counted_can (suc done) within =
        let epoch = header.first + done in
        let next : suc (header.first + done) ≡ header.first + suc done = omega arith in
        let runs = runs_from scheme header done 0 logs in
        let even : verdict_of (length runs) epoch (parts_at 0 (courses_in runs)) ≡ Balanced =
        ap (λ (n : ℕ). verdict_of n epoch (parts_at 0 (courses_in runs))) (runs-length scheme header done 0 logs ∙ whole)
        ∙ ap (verdict_of header.verifiers epoch) (next-parts scheme header done 0 logs)
        ∙ balanced done (omega (arith, within)) in
        subst (λ (e : ℕ). AllCanBeCertified e 0 (runs_from scheme header (suc done) 0 logs)) next
        (subst (AllCanBeCertified (suc epoch) 0) (runs-more scheme header done 0 logs)
        (can-turn epoch runs (counted_can done (omega (arith, within))) even))

-- Runs that have read logs can be certified from the first epoch on that is not counted.
pub can-read : (scheme : Scheme) (header : Header) (logs : List (List ℕ)) (so_far : Judged) (runs : List (Progress Operation))
    → HaveRead scheme header logs so_far runs → AllCanBeCertified (header.first + so_far.count) 0 runs
can-read scheme header logs so_far runs read =
    can-alike (header.first + so_far.count) 0 (runs_from scheme header so_far.count 0 logs) runs read.runs_are
    (counted_can scheme header read.header_good logs read.whole so_far.count read.balanced so_far.count (omega arith))
