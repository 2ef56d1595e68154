-- What a round brings to the runs, and what certifying them brings to the report.
use Rattle.std.proofs.Common.{◌≡◌, ℕ, zero, suc, ◌+◌, ◌-◌, ◌<◌, ◌≤◌, Bool, false, true, List, [], ◌∷◌, ◌++◌, length, map, take, drop, Option, Result, Ok, Err, OnOk, OnErr, refl, sym, ◌∙◌, ap, subst, append-nil, eq-eqb, if◌then◌else◌, arith}
use Rattle.std.specs.List.{AllByRecursion, fold}
use Rattle.std.specs.Result.{is_err}
use Rattle.std.proofs.lemmas.Bool.{ne_eqb, false≢true}
use Rattle.std.proofs.lemmas.List.{take_all, drop_all, length-map}
use Rattle.fv_outside.specs.Written.{Grows, GrowsByFront}
use Rattle.fv_outside.proofs.WrittenLaws.{Grows-then, GrowsByFront-then}
use Rattle.record_hash.specs.Functions.{DigestFunctions}
use Rattle.lamport_clocks.specs.declared.header.Header.{Header}
use Rattle.merkle_records.specs.Scheme.{Scheme, scheme_of}
use Rattle.bundle_frames.specs.Bundle.{Frame}
use Rattle.record_text.specs.declared.operation.Operation.{Operation}
use Rattle.verifier_run.specs.Course.{Course}
use Rattle.verifier_run.specs.Kept.{keeps_operations}
use Rattle.verifier_run.specs.Progress.{Progress, fed, weight}
use Rattle.bundle_report.specs.declared.judged.Judged.{Judged}
use Rattle.bundle_report.specs.Logs.{joined_from}
use Rattle.bundle_report.specs.Report.{EpochText, EpochTold, operations_told}
use Rattle.bundle_report.specs.RunReport.{courses_of}
use Rattle.bundle_report.specs.Judged.{judged}
use Rattle.bundle_report.specs.SoFar.{lines_from, opening_runs, runs_from, having_read, runs_behind, HaveRead}
use Rattle.bundle_report.proofs.LikeRunsLaws.{like-length, like-all, like-all_back}
use Rattle.bundle_report.proofs.LinesLaws.{lines-behind}
use Rattle.bundle_report.proofs.SoFarLaws.{taken-more, lines-taken, counted-within}
use Rattle.bundle_report.proofs.DueLaws.{lines-certified, lines-due}
use Rattle.certified_epochs.specs.declared.fed_run.FedRun.{FedRun}
use Rattle.certified_epochs.specs.Turn.{AreFed}
use Rattle.certified_epochs.proofs.RunsLaws.{all_runs, all_feds, headers_from, weights_from}
use Rattle.host_rounds.specs.Round.{logs_with, pieces_of}
use Rattle.host_rounds.specs.Feeding.{AllRead}
use Rattle.load_summary.specs.Counting.{Counted, counted_of, with_operation}
use Rattle.load_summary.proofs.CountingLaws.{fold-counted}
use Rattle.host_rounds.specs.SoFar.{RunsSoFar, HaveRun, HaveRunSome, lines_counted, lines_due, operations_counted}
use Rattle.host_rounds.proofs.BundleLaws.{round-joined}

-- ---- results, and what was lent

pub err_holds : {T E : Type 0} (P : Type 0) (r : Result T E) → is_err r ≡ true → OnErr r P → P
err_holds P (Ok value) is holds = absurd (false≢true is)
err_holds P (Err error) is holds = holds

pub ok_holds : {T E : Type 0} (P : Type 0) (r : Result T E) → is_err r ≡ false → OnOk r P → P
ok_holds P (Ok value) is holds = holds
ok_holds P (Err error) is holds = absurd (false≢true (sym is))

-- a slice that a call wrote, as the vector that lent it
pub lent_back : {A : Type 0} (n : ℕ) (new old : List A) → n ≡ length old → length new ≡ length old → take n (new ++ drop (length new) old) ≡ new
lent_back n new old whole same =
    ap (λ (rest : List _). take n (new ++ rest)) (drop_all (length new) old (omega (arith, same)))
    ∙ ap (take n) (append-nil new) ∙ take_all n new (omega (arith, whole, same))

-- ---- how many runs there are

length-runs : (scheme : Scheme) (header : Header) (count number : ℕ) (logs : List (List ℕ)) → length (runs_from scheme header count number logs) ≡ length logs
length-runs scheme header count number [] = refl
length-runs scheme header count number (log ∷ logs) = ap suc (length-runs scheme header count (suc number) logs)

pub runs-length : (functions : DigestFunctions) (header : Header) (logs : List (List ℕ)) (so_far : RunsSoFar) → HaveRun functions header logs so_far
    → length so_far.runs ≡ header.verifiers
runs-length functions header logs so_far have =
    sym (length-map so_far.runs (λ fed. fed.run))
    ∙ like-length (runs_from (scheme_of functions header) header so_far.judged.count 0 logs) (map (λ fed. fed.run) so_far.runs) have.taken.runs_are
    ∙ length-runs (scheme_of functions header) header so_far.judged.count 0 logs ∙ have.taken.whole

pub runs-few : (so_far : RunsSoFar) → HaveRunSome so_far → length so_far.runs ≤ 64
runs-few so_far some = omega (arith, runs-length some.0 some.1 some.2 so_far some.3, some.3.taken.header_good.verifiers)

-- ---- what each run has

runs_headers : (functions : DigestFunctions) (header : Header) (logs : List (List ℕ)) (so_far : RunsSoFar)
    → HaveRun functions header logs so_far → AllByRecursion (λ fed. fed.run.course.machine.header ≡ header) so_far.runs
runs_headers functions header logs so_far have =
    all_runs (λ run. run.course.machine.header ≡ header) so_far.runs
    (like-all (λ run. run.course.machine.header ≡ header) (λ run cache is. is)
    (runs_from (scheme_of functions header) header so_far.judged.count 0 logs) (map (λ fed. fed.run) so_far.runs) have.taken.runs_are
    (headers_from (scheme_of functions header) header so_far.judged.count 0 logs))

runs_weights : (functions : DigestFunctions) (header : Header) (logs : List (List ℕ)) (so_far now : RunsSoFar) → HaveRun functions header logs so_far
    → HaveRead (scheme_of functions header) header logs now.judged (map (λ fed. fed.run) now.runs)
    → AllByRecursion (λ fed. weight fed.run ≤ so_far.bytes) now.runs
runs_weights functions header logs so_far now have taken =
    all_runs (λ run. weight run ≤ so_far.bytes) now.runs
    (like-all (λ run. weight run ≤ so_far.bytes) (λ run cache few. few)
    (runs_from (scheme_of functions header) header now.judged.count 0 logs) (map (λ fed. fed.run) now.runs) taken.runs_are
    (weights_from (scheme_of functions header) header so_far.judged.count now.judged.count 0 so_far.bytes logs
    (like-all_back (λ run. weight run ≤ so_far.bytes) (λ run cache few. few)
    (runs_from (scheme_of functions header) header so_far.judged.count 0 logs) (map (λ fed. fed.run) so_far.runs) have.taken.runs_are
    (all_feds (λ run. weight run ≤ so_far.bytes) so_far.runs have.few))))

-- ---- a round more

took-apart : (scheme : Scheme) (number first : ℕ) (run : Progress Operation) (round : List (List ℕ)) → number < first
    → having_read scheme number run (pieces_of first round) ≡ run
took-apart scheme number first run [] below = refl
took-apart scheme number first run (bytes ∷ round) below =
    ap (λ (own : Bool). having_read scheme number (if own then fed keeps_operations scheme run bytes else run) (pieces_of (suc first) round))
    (ne_eqb first number (λ is. omega (arith, below, is)))
    ∙ took-apart scheme number (suc first) run round (omega (arith, below))

runs-skip : (scheme : Scheme) (number : ℕ) (frame : Frame) (runs : List (Progress Operation)) (frames : List Frame) → frame.verifier < number
    → runs_behind scheme number runs (frame ∷ frames) ≡ runs_behind scheme number runs frames
runs-skip scheme number frame [] frames below = refl
runs-skip scheme number frame (run ∷ runs) frames below =
    ap (λ (own : Bool). having_read scheme number (if own then fed keeps_operations scheme run frame.body else run) frames ∷ runs_behind scheme (suc number) runs (frame ∷ frames))
    (ne_eqb frame.verifier number (λ is. omega (arith, below, is)))
    ∙ ap (λ (rest : List (Progress Operation)). having_read scheme number run frames ∷ rest) (runs-skip scheme (suc number) frame runs frames (omega (arith, below)))

-- runs that took the bytes of their verifiers took the pieces
runs-took : (functions : DigestFunctions) (header : Header) (number : ℕ) (round : List (List ℕ)) (olds news : List FedRun)
    → AllByRecursion (λ fed. fed.run.course.machine.header ≡ header) olds → AllRead functions round olds news
    → map (λ fed. fed.run) news ≡ runs_behind (scheme_of functions header) number (map (λ fed. fed.run) olds) (pieces_of number round)
runs-took functions header number [] [] [] headers takes = refl
runs-took functions header number [] [] (new ∷ news) headers takes = absurd takes
runs-took functions header number [] (old ∷ olds) news headers takes = absurd takes
runs-took functions header number (bytes ∷ round) [] news headers takes = absurd takes
runs-took functions header number (bytes ∷ round) (old ∷ olds) [] headers takes = absurd takes
runs-took functions header number (bytes ∷ round) (old ∷ olds) (new ∷ news) headers takes =
    let scheme = scheme_of functions header in
    let piece : Frame = record { verifier = number; body = bytes } in
    let rest = pieces_of (suc number) round in
    let run = fed keeps_operations scheme old.run bytes in
    let own : new.run ≡ having_read scheme number old.run (piece ∷ rest) =
    takes.0.taken
    ∙ ap (λ (h : Header). fed keeps_operations (scheme_of functions h) old.run bytes) headers.0
    ∙ sym (ap (λ (b : Bool). having_read scheme number (if b then run else old.run) rest) (eq-eqb number number refl)
    ∙ took-apart scheme number (suc number) run round (omega arith)) in
    let others : map (λ fed. fed.run) news ≡ runs_behind scheme (suc number) (map (λ fed. fed.run) olds) (piece ∷ rest) =
    runs-took functions header (suc number) round olds news headers.1 takes.1
    ∙ sym (runs-skip scheme (suc number) piece (map (λ fed. fed.run) olds) rest (omega arith)) in
    ap (λ (r : Progress Operation). r ∷ map (λ fed. fed.run) news) own
    ∙ ap (λ (rs : List (Progress Operation)). having_read scheme number old.run (piece ∷ rest) ∷ rs) others

all_fed : (functions : DigestFunctions) (round : List (List ℕ)) (olds news : List FedRun) → AllRead functions round olds news → AreFed news
all_fed functions [] [] [] takes = tt
all_fed functions [] [] (new ∷ news) takes = absurd takes
all_fed functions [] (old ∷ olds) news takes = absurd takes
all_fed functions (bytes ∷ round) [] news takes = absurd takes
all_fed functions (bytes ∷ round) (old ∷ olds) [] takes = absurd takes
all_fed functions (bytes ∷ round) (old ∷ olds) (new ∷ news) takes = (takes.0.is_fed, all_fed functions round olds news takes.1)

pub length-take : (functions : DigestFunctions) (round : List (List ℕ)) (olds news : List FedRun) → AllRead functions round olds news → length news ≡ length olds
length-take functions [] [] [] takes = refl
length-take functions [] [] (new ∷ news) takes = absurd takes
length-take functions [] (old ∷ olds) news takes = absurd takes
length-take functions (bytes ∷ round) [] news takes = absurd takes
length-take functions (bytes ∷ round) (old ∷ olds) [] takes = absurd takes
length-take functions (bytes ∷ round) (old ∷ olds) (new ∷ news) takes = ap suc (length-take functions round olds news takes.1)

module _ (functions : DigestFunctions) (header : Header) (logs : List (List ℕ)) (so_far : RunsSoFar) (have : HaveRun functions header logs so_far) where
  abbrev own_scheme : Scheme
  own_scheme = scheme_of functions header

  -- the lines that are counted stay
  pub lines-stay : {A : Type 0} (tell : EpochTold A) (round : List (List ℕ)) (now : RunsSoFar) → now.judged ≡ so_far.judged
      → lines_counted tell functions header (logs_with logs round) now ≡ lines_counted tell functions header logs so_far
  lines-stay tell round now same =
      ap (λ (j : Judged). lines_from tell (courses_of own_scheme header (logs_with logs round)) header.first j.count) same
      ∙ ap (λ (all : List (List ℕ)). lines_from tell (courses_of own_scheme header all) header.first so_far.judged.count) (sym (round-joined 0 logs round))
      ∙ lines-taken tell own_scheme header logs so_far.judged (map (λ fed. fed.run) so_far.runs) (pieces_of 0 round) have.taken

  -- runs that took a round have taken the logs with it
  pub round-taken : (round : List (List ℕ)) (news : List FedRun) → AllRead functions round so_far.runs news
      → HaveRead own_scheme header (logs_with logs round) so_far.judged (map (λ fed. fed.run) news)
  round-taken round news takes =
      subst (λ (all : List (List ℕ)). HaveRead own_scheme header all so_far.judged (map (λ fed. fed.run) news)) (round-joined 0 logs round)
      (subst (HaveRead own_scheme header (joined_from 0 logs (pieces_of 0 round)) so_far.judged)
      (sym (runs-took functions header 0 round so_far.runs news (runs_headers functions header logs so_far have) takes))
      (taken-more own_scheme header logs so_far.judged (map (λ fed. fed.run) so_far.runs) (pieces_of 0 round) have.taken))

  -- the runs took a round
  pub round-run : (round : List (List ℕ)) (news : List FedRun) (bytes : ℕ) (summary : Counted) → summary ≡ so_far.summary → AllRead functions round so_far.runs news
      → AllByRecursion (λ fed. weight fed.run ≤ bytes) news
      → HaveRun functions header (logs_with logs round) (record { judged = so_far.judged; runs = news; bytes = bytes; summary = summary })
  round-run round news bytes summary same takes few = record {
    fed = all_fed functions round so_far.runs news takes;
    taken = round-taken round news takes;
    few = few;
    summed =
        same ∙ have.summed
        ∙ ap (counted_of header.verifiers)
        (sym (lines-stay operations_told round (record { judged = so_far.judged; runs = news; bytes = bytes; summary = summary }) refl));
  }

  -- ---- certifying

  abbrev courses : List (Course Operation)
  courses = courses_of own_scheme header logs

  -- what was counted, and the lines behind it up to so many epochs
  lines_to : {A : Type 0} (tell : EpochTold A) (count : ℕ) → so_far.judged.count ≤ count
      → lines_counted tell functions header logs so_far ++ lines_from tell courses (header.first + so_far.judged.count) (count - so_far.judged.count)
      ≡ lines_from tell courses header.first count
  lines_to tell count within =
      let sum : so_far.judged.count + (count - so_far.judged.count) ≡ count = omega (arith, within) in
      sym (lines-behind tell courses header.first so_far.judged.count (count - so_far.judged.count)) ∙ ap (lines_from tell courses header.first) sum

  within_all : so_far.judged.count ≤ (judged header.verifiers courses).count
  within_all = counted-within own_scheme header logs so_far.judged (map (λ fed. fed.run) so_far.runs) have.taken

  -- a front of what is due was written
  pub front-due : (tell : EpochText) (held before after : Option (List ℕ)) → Grows held before (lines_counted tell functions header logs so_far)
      → GrowsByFront before after (lines_from tell courses (header.first + so_far.judged.count) ((judged header.verifiers courses).count - so_far.judged.count))
      → GrowsByFront held after (lines_due tell functions header logs)
  front-due tell held before after written front =
      subst (GrowsByFront held after)
      (lines_to tell (judged header.verifiers courses).count within_all ∙ lines-certified tell own_scheme header logs have.taken.header_good have.taken.whole)
      (GrowsByFront-then held before after _ _ written front)

  module _ (now : RunsSoFar) (taken : HaveRead own_scheme header logs now.judged (map (λ fed. fed.run) now.runs)) where
    pub certified-run : AreFed now.runs → now.bytes ≡ so_far.bytes → now.judged ≡ judged header.verifiers courses
        → now.summary ≡ fold with_operation so_far.summary
        (lines_from operations_told courses (header.first + so_far.judged.count) (now.judged.count - so_far.judged.count))
        → HaveRun functions header logs now
    certified-run fine same all counted = record {
      fed = fine;
      taken = taken;
      few = subst (λ (bytes : ℕ). AllByRecursion (λ fed. weight fed.run ≤ bytes) now.runs) (sym same) (runs_weights functions header logs so_far now have taken);
      summed =
          counted
          ∙ ap (λ (before : Counted). fold with_operation before (lines_from operations_told courses (header.first + so_far.judged.count) (now.judged.count - so_far.judged.count)))
          have.summed
          ∙ fold-counted header.verifiers (operations_counted functions header logs so_far) _
          ∙ ap (counted_of header.verifiers) (lines_to operations_told now.judged.count (omega (arith, within_all, ap (λ (j : Judged). j.count) all)));
    }

    pub counted-due : {A : Type 0} (tell : EpochTold A) → now.judged ≡ judged header.verifiers courses → lines_counted tell functions header logs now ≡ lines_due tell functions header logs
    counted-due tell all = lines-due tell own_scheme header logs now.judged (map (λ fed. fed.run) now.runs) taken all

    -- all that is due was written
    pub all-due : (tell : EpochText) (held before after : Option (List ℕ)) → now.judged ≡ judged header.verifiers courses
        → Grows held before (lines_counted tell functions header logs so_far)
        → Grows before after (lines_from tell courses (header.first + so_far.judged.count) (now.judged.count - so_far.judged.count))
        → Grows held after (lines_due tell functions header logs)
    all-due tell held before after all written more =
        subst (Grows held after)
        (lines_to tell now.judged.count (omega (arith, within_all, ap (λ (j : Judged). j.count) all)) ∙ counted-due tell all)
        (Grows-then held before after _ _ written more)

-- ---- the runs before the first round

-- they weigh nothing
opening_weights : (header : Header) (number count : ℕ) → AllByRecursion (λ run. weight run ≤ 0) (opening_runs header number count)
opening_weights header number zero = tt
opening_weights header number (suc count) = (omega arith, opening_weights header (suc number) count)

pub opening-few : (header : Header) (number count : ℕ) (runs : List FedRun) → map (λ fed. fed.run) runs ≡ opening_runs header number count
    → AllByRecursion (λ fed. weight fed.run ≤ 0) runs
opening-few header number count runs is =
    all_runs (λ run. weight run ≤ 0) runs (subst (AllByRecursion (λ run. weight run ≤ 0)) (sym is) (opening_weights header number count))
