-- A check in the middle of a bundle, batch after batch.
use Rattle.std.proofs.Common.{◌≡◌, ◌⊎◌, ℕ, zero, suc, ◌+◌, ◌-◌, ◌<◌, ◌≤◌, Bool, List, [], ◌∷◌, ◌++◌, length, map, take, drop, Option, Some, None, IfSome, inl, inr, ⊎_elim, true, false, true≢false, refl, sym, ◌∙◌, ap, subst, append-nil, take-append-drop, arith}
use Rattle.std.specs.List.{AllByRecursion, fold}
use Rattle.std.proofs.lemmas.List.Sums.{fold-append}
use Rattle.std.proofs.Math.Seq.{take-add}
use Rattle.std.proofs.lemmas.Bool.{cases_lt}
use Rattle.std.proofs.lemmas.List.{drop-append-le}
use Rattle.fv_outside.specs.Consumed.{most_behind}
use Rattle.fv_outside.specs.Written.{Grows, GrowsByFront}
use Rattle.fv_outside.proofs.WrittenLaws.{Grows-then, GrowsByFront-whole, GrowsByFront-more, GrowsByFront-then}
use Rattle.record_hash.specs.Functions.{DigestFunctions}
use Rattle.lamport_clocks.specs.declared.header.Header.{Header}
use Rattle.lamport_clocks.specs.Header.{IsHeader}
use Rattle.merkle_records.specs.Scheme.{Scheme, scheme_of}
use Rattle.bundle_frames.specs.Bundle.{Frame, IsFrame, with_frames}
use Rattle.bundle_frames.specs.Extent.{reading_end}
use Rattle.bundle_frames.specs.Reading.{Reading, ahead, end_ahead, HasRead, ReadsAs}
use Rattle.bundle_frames.proofs.ReadingLaws.{HasRead-then, ReadsAs-then, ReadsAs-kept, ReadsAs-map, ReadsAs-back}
use Rattle.verifier_run.specs.Course.{Course}
use Rattle.record_text.specs.declared.operation.Operation.{Operation}
use Rattle.verifier_run.specs.Progress.{fed, weight}
use Rattle.bundle_report.specs.declared.judged.Judged.{Judged}
use Rattle.bundle_report.specs.Logs.{joined_from, logs_so_far}
use Rattle.bundle_report.specs.Logged.{behind, logged_of}
use Rattle.bundle_report.specs.Report.{EpochText, EpochTold}
use Rattle.report_text.specs.Answer.{Answer}
use Rattle.bundle_report.specs.RunReport.{courses_of}
use Rattle.bundle_report.specs.Judged.{judged}
use Rattle.bundle_report.specs.SoFar.{lines_from, runs_from, runs_behind, opening_runs, HaveRead}
use Rattle.bundle_report.proofs.LikeRunsLaws.{like-all, like-all_back}
use Rattle.bundle_report.proofs.LinesLaws.{lines-behind}
use Rattle.bundle_report.proofs.SoFarLaws.{taken-more, lines-taken, counted-within}
use Rattle.bundle_report.proofs.DueLaws.{lines-certified, lines-due, lines-front, due-stays}
use Rattle.certified_epochs.specs.declared.fed_run.FedRun.{FedRun}
use Rattle.certified_epochs.specs.Turn.{AreFed}
use Rattle.certified_epochs.proofs.RunsLaws.{all_runs, all_feds, headers_from, weights_from}
use Rattle.check_core.specs.Batch.{bytes_of, GoesOnBy}
use Rattle.check_core.specs.Feeding.{AllRead}
use Rattle.check_core.specs.Asked.{Asked, asked_at, asked_by}
use Rattle.check_core.specs.Intake.{behind_at}
use Rattle.check_core.specs.Stream.{HasCome, AreChecked, lines_counted, lines_due}
use Rattle.check_core.proofs.FeedingLemmas.{taken_by_all}
use Rattle.check_core.proofs.MeaningLemmas.{ahead_header, joined_more}

-- ---- reading on

-- what holds whatever follows what was read holds of the bytes that were taken, also of some that were not counted yet
pub reads_on : {A : Type 0} (P : A → Type 0) (n m : ℕ) (x : Option (List ℕ)) (f g : List ℕ → A) → ReadsAs n x f g → n ≤ m
    → ((more : List ℕ) → P (g more)) → IfSome x (λ bytes. P (f (take m bytes)))
reads_on P n m None f g reads below holds = tt
reads_on P n m (Some bytes) f g reads below holds =
    let sum : m ≡ n + (m - n) = omega (arith, below) in
    subst P (sym (ap (λ (k : ℕ). f (take k bytes)) sum ∙ ap f (take-add n (m - n) bytes) ∙ reads (take (m - n) (drop n bytes))))
    (holds (take (m - n) (drop n bytes)))

-- and of all bytes
pub reads_all : {A : Type 0} (P : A → Type 0) (n : ℕ) (x : Option (List ℕ)) (f g : List ℕ → A) → ReadsAs n x f g
    → ((more : List ℕ) → P (g more)) → IfSome x (λ bytes. P (f bytes))
reads_all P n None f g reads holds = tt
reads_all P n (Some bytes) f g reads holds =
    subst P (sym (ap f (sym (take-append-drop n bytes)) ∙ reads (drop n bytes))) (holds (drop n bytes))

-- what holds where nothing follows holds of the bytes that were taken
pub reads_taken : {A : Type 0} (P : A → Type 0) (n : ℕ) (x : Option (List ℕ)) (f g : List ℕ → A) → ReadsAs n x f g
    → P (g []) → IfSome x (λ bytes. P (f (take n bytes)))
reads_taken P n None f g reads holds = tt
reads_taken P n (Some bytes) f g reads holds =
    subst P (sym (ap f (sym (append-nil (take n bytes))) ∙ reads [])) holds

-- what is the same, whatever is left
pub same_left : {A : Type 0} (P : A → Type 0) (a : A) (x : Option (List ℕ)) (g : List ℕ → A) → IfSome x (λ left. a ≡ g left) → P a
    → IfSome x (λ left. P (g left))
same_left P a None g same holds = tt
same_left P a (Some left) g same holds = subst P same holds

-- ---- a text without its front

-- what a longer text adds, it adds behind the front that is left out too
drop_front : (count : ℕ) (first more : List ℕ) → (rest : List ℕ) × (drop count (first ++ more) ≡ drop count first ++ rest)
drop_front zero first more = (more, refl)
drop_front (suc count) [] more = (drop (suc count) more, refl)
drop_front (suc count) (byte ∷ first) more = drop_front count first more

-- a front of a text is one of a longer text
pub front_longer : (count : ℕ) (held held_now : Option (List ℕ)) (first more all : List ℕ) → first ++ more ≡ all
    → GrowsByFront held held_now (drop count first) → GrowsByFront held held_now (drop count all)
front_longer count held held_now first more all is written =
    let rest = drop_front count first more in
    subst (λ (text : List ℕ). GrowsByFront held held_now (drop count text)) is
    (subst (GrowsByFront held held_now) (sym rest.1) (GrowsByFront-more held held_now (drop count first) rest.0 written))

-- ---- a batch more

-- the logs go on with the frames
means_more : (n : ℕ) (x : Option (List ℕ)) (logs : List (List ℕ)) (frames : List Frame) (old new : Reading) (header : Header)
    → old.progress.header ≡ Some header → new.progress.header ≡ old.progress.header
    → ReadsAs n x (ahead old) (λ more. with_frames frames (ahead new more))
    → ReadsAs n x (behind_at logs old) (behind_at (joined_from 0 logs frames) new)
means_more n x logs frames old new header known same reads =
    ReadsAs-kept n x (behind_at logs old) (λ more. behind old.progress.header logs (with_frames frames (ahead new more)))
    (behind_at (joined_from 0 logs frames) new)
    (ReadsAs-map (behind old.progress.header logs) n x (ahead old) (λ more. with_frames frames (ahead new more)) reads)
    (λ more.
    let rest = ahead new more in
    ap (λ (h : Option Header). behind h logs (with_frames frames rest)) known
    ∙ ap (λ (all : List (List ℕ)). record { header = rest.header; logs = all; bad = rest.bad }) (joined_more 0 logs frames rest.frames)
    ∙ sym (ap (λ (h : Option Header). behind h (joined_from 0 logs frames) rest) (same ∙ known)))

-- near an end, with some more between
near_some : (x : Option (List ℕ)) (f : List ℕ → ℕ) (n more : ℕ) → IfSome x (λ bytes. n ≤ f bytes + most_behind)
    → IfSome x (λ bytes. n ≤ f bytes + (more + most_behind))
near_some None f n more near = tt
near_some (Some bytes) f n more near = omega (arith, near)

module _ (left left_now : Option (List ℕ)) (faults faults_now more : ℕ) (logs : List (List ℕ)) (old new : Reading)
    (come : HasCome left faults more logs old left_now faults_now) (rises : old.taken ≤ new.taken) where
  pub sum-more : new.taken ≡ old.taken + (new.taken - old.taken)
  sum-more = omega (arith, rises)

  pub extent-more : ReadsAs (new.taken - old.taken) left_now (end_ahead old) (end_ahead new) → ReadsAs new.taken left reading_end (end_ahead new)
  extent-more extent = ReadsAs-then _ _ _ _ _ _ _ _ come.having_read come.extent extent sum-more

  pub near-more : (old.taken < new.taken → IfSome left_now (λ bytes. new.taken ≤ end_ahead old bytes + most_behind))
      → 0 < new.taken → IfSome left (λ bytes. new.taken ≤ reading_end bytes + (more + most_behind))
  near-more near some = ⊎_elim
      (λ less.
      ReadsAs-back (λ (end : ℕ). new.taken ≤ end + (more + most_behind)) _ _ _ _ _ come.having_read come.extent
      (near_some left_now (end_ahead old) new.taken more (near less)))
      (λ none. let is : old.taken ≡ new.taken = omega (arith, rises, none) in
      subst (λ (k : ℕ). IfSome left (λ bytes. k ≤ reading_end bytes + (more + most_behind))) is (come.near (omega (arith, some, is))))
      (cases_lt old.taken new.taken)

  pub come-more : (all : List (List ℕ)) (left_then : Option (List ℕ)) (faults_then : ℕ) → HasRead (new.taken - old.taken) left_now left_then
      → ReadsAs new.taken left logged_of (behind_at all new)
      → ReadsAs (new.taken - old.taken) left_now (end_ahead old) (end_ahead new)
      → (old.taken < new.taken → IfSome left_now (λ bytes. new.taken ≤ end_ahead old bytes + most_behind))
      → faults_now ≤ faults_then → HasCome left faults more all new left_then faults_then
  come-more all left_then faults_then having_read means extent near rose = record {
    having_read = HasRead-then _ _ _ _ _ _ come.having_read having_read sum-more;
    means = means;
    extent = extent-more extent;
    near = near-more near;
    never_falls = omega (arith, come.never_falls, rose);
  }

  -- frames more
  pub means-more : (header : Header) (frames : List Frame) → old.progress.header ≡ Some header → GoesOnBy frames old new left_now
      → ReadsAs new.taken left logged_of (behind_at (joined_from 0 logs frames) new)
  means-more header frames known on =
      ReadsAs-then _ _ _ _ _ _ _ _ come.having_read come.means (means_more _ _ logs frames old new header known on.header on.means) sum-more

-- ---- what is due

module _ (asked : Asked) (functions : DigestFunctions) (header : Header) (logs : List (List ℕ)) (reading : Reading)
    (known : reading.progress.header ≡ Some header) where
  -- what is written of an epoch
  abbrev tell : EpochText
  tell = asked.tell header

  -- the logs with what is ahead
  abbrev all : List ℕ → List (List ℕ)
  all more = joined_from 0 logs (ahead reading more).frames

  abbrev answered : List ℕ → Answer
  answered more = asked_at asked functions (Some header) (all more) (ahead reading more).bad

  answer_ahead : (more : List ℕ) → asked_by asked functions (behind_at logs reading more) ≡ answered more
  answer_ahead more =
      let rest = ahead reading more in
      ap (λ (h : Option Header). asked_at asked functions rest.header (joined_from 0 (logs_so_far h logs rest.header) rest.frames) rest.bad) known
      ∙ ap (λ (h : Option Header). asked_at asked functions h (all more) rest.bad) (ahead_header reading header more known)

  pub due_ahead : (more : List ℕ) → (asked_by asked functions (behind_at logs reading more)).due ≡ lines_due tell functions header (all more)
  due_ahead more = ap (λ (a : Answer). a.due) (answer_ahead more)

  -- where no frame is ahead
  pub due_spent : (ahead reading []).frames ≡ [] → joined_from 0 logs [] ≡ logs
      → (asked_by asked functions (behind_at logs reading [])).due ≡ lines_due tell functions header logs
  due_spent none same =
      due_ahead [] ∙ ap (λ (frames : List Frame). lines_due tell functions header (joined_from 0 logs frames)) none
      ∙ ap (lines_due tell functions header) same

  -- What was counted is a front of what is due, whatever follows; so many bytes are left out.
  pub counted_front : (count : ℕ) (so_far : Judged) (runs : List FedRun) (held held_now : Option (List ℕ)) → AreChecked functions header logs so_far runs
      → Grows held held_now (drop count (lines_counted tell functions header logs so_far))
      → (more : List ℕ) → GrowsByFront held held_now (drop count (asked_by asked functions (behind_at logs reading more)).due)
  counted_front count so_far runs held held_now checked written more =
      let front = lines-front tell (scheme_of functions header) header logs so_far (map (λ fed. fed.run) runs) (ahead reading more).frames checked in
      front_longer count held held_now (lines_counted tell functions header logs so_far) front.0 _ (front.1 ∙ sym (due_ahead more)) (GrowsByFront-whole _ _ _ written)

  -- So is a front of what is due by the logs so far, and of the whole text.
  pub due_front : (count : ℕ) (held held_now : Option (List ℕ)) → IsHeader header → length logs ≡ header.verifiers
      → GrowsByFront held held_now (drop count (lines_due tell functions header logs))
      → (more : List ℕ) → GrowsByFront held held_now (drop count (asked_by asked functions (behind_at logs reading more)).due)
  due_front count held held_now good whole written more =
      let front = due-stays tell (scheme_of functions header) header logs (ahead reading more).frames good whole in
      front_longer count held held_now (lines_due tell functions header logs) front.0 _ (front.1 ∙ sym (due_ahead more)) written

  pub text_front : (count : ℕ) (held held_now : Option (List ℕ)) → IsHeader header → length logs ≡ header.verifiers
      → GrowsByFront held held_now (drop count (lines_due tell functions header logs))
      → (more : List ℕ) → GrowsByFront held held_now (drop count (asked_by asked functions (behind_at logs reading more)).text)
  text_front count held held_now good whole written more =
      let front = due-stays tell (scheme_of functions header) header logs (ahead reading more).frames good whole in
      front_longer count held held_now (lines_due tell functions header (all more)) _ _ (sym (ap (λ (a : Answer). a.text) (answer_ahead more)))
      (front_longer count held held_now (lines_due tell functions header logs) front.0 _ front.1 written)

-- ---- what a batch brings

-- a fold over more
pub made_more : {S A : Type 0} (step : S → A → S) (start before now : S) (counted rest all : List A) → before ≡ fold step start counted
    → now ≡ fold step before rest → counted ++ rest ≡ all → now ≡ fold step start all
made_more {S} step start before now counted rest all so_far more is =
    more ∙ ap (λ (s : S). fold step s rest) so_far ∙ sym (fold-append step start counted rest) ∙ ap (fold step start) is

-- what holds of each run holds of it as a run that is fed, and the other way round
pub runs_headers : (functions : DigestFunctions) (header : Header) (logs : List (List ℕ)) (so_far : Judged) (runs : List FedRun)
    → AreChecked functions header logs so_far runs → AllByRecursion (λ fed. fed.run.course.machine.header ≡ header) runs
runs_headers functions header logs so_far runs checked =
    all_runs (λ run. run.course.machine.header ≡ header) runs
    (like-all (λ run. run.course.machine.header ≡ header) (λ run cache is. is)
    (runs_from (scheme_of functions header) header so_far.count 0 logs) (map (λ fed. fed.run) runs) checked.runs_are
    (headers_from (scheme_of functions header) header so_far.count 0 logs))

-- the runs took the frames
fed_checked : (functions : DigestFunctions) (header : Header) (logs : List (List ℕ)) (frames : List Frame) (so_far : Judged) (runs runs_fed : List FedRun)
    → AreChecked functions header logs so_far runs
    → map (λ fed. fed.run) runs_fed ≡ runs_behind (scheme_of functions header) 0 (map (λ fed. fed.run) runs) frames
    → AreChecked functions header (joined_from 0 logs frames) so_far runs_fed
fed_checked functions header logs frames so_far runs runs_fed checked is =
    subst (HaveRead (scheme_of functions header) header (joined_from 0 logs frames) so_far) (sym is)
    (taken-more (scheme_of functions header) header logs so_far (map (λ fed. fed.run) runs) frames checked)

-- the same of frames that each run took
pub read_checked : (functions : DigestFunctions) (header : Header) (logs : List (List ℕ)) (frames : List Frame) (so_far : Judged) (runs runs_fed : List FedRun)
    → AreChecked functions header logs so_far runs → AllRead functions 0 frames runs runs_fed → AreFed runs_fed
    → AreChecked functions header (joined_from 0 logs frames) so_far runs_fed
read_checked functions header logs frames so_far runs runs_fed checked read fine =
    let headers = runs_headers functions header logs so_far runs checked in
    fed_checked functions header logs frames so_far runs runs_fed checked (taken_by_all functions frames 0 header runs runs_fed read headers fine).1

module _ {A : Type 0} (tell : EpochTold A) (functions : DigestFunctions) (header : Header) (logs : List (List ℕ)) (frames : List Frame) (so_far : Judged) (runs : List FedRun)
    (checked : AreChecked functions header logs so_far runs) where
  abbrev more_logs : List (List ℕ)
  more_logs = joined_from 0 logs frames

  abbrev own_scheme : Scheme
  own_scheme = scheme_of functions header

  abbrev courses : List (Course Operation)
  courses = courses_of own_scheme header more_logs

  -- what was counted, and the lines behind it up to so many epochs
  lines_to : (count : ℕ) → so_far.count ≤ count
      → lines_counted tell functions header logs so_far ++ lines_from tell courses (header.first + so_far.count) (count - so_far.count)
      ≡ lines_from tell courses header.first count
  lines_to count within =
      let sum : so_far.count + (count - so_far.count) ≡ count = omega (arith, within) in
      ap (λ (text : List A). text ++ lines_from tell courses (header.first + so_far.count) (count - so_far.count))
      (sym (lines-taken tell own_scheme header logs so_far (map (λ fed. fed.run) runs) frames checked))
      ∙ sym (lines-behind tell courses header.first so_far.count (count - so_far.count))
      ∙ ap (lines_from tell courses header.first) sum

  -- of all epochs that the logs certify now
  pub told_more : (now : Judged) (runs_fed runs_now : List FedRun)
      → AreChecked functions header more_logs so_far runs_fed → AreChecked functions header more_logs now runs_now
      → now ≡ judged header.verifiers courses
      → lines_counted tell functions header logs so_far ++ lines_from tell courses (header.first + so_far.count) (now.count - so_far.count)
      ≡ lines_due tell functions header more_logs
  told_more now runs_fed runs_now checked_fed checked_now all =
      let within = counted-within own_scheme header more_logs so_far (map (λ fed. fed.run) runs_fed) checked_fed in
      lines_to now.count (omega (arith, within, ap (λ (j : Judged). j.count) all))
      ∙ lines-due tell own_scheme header more_logs now (map (λ fed. fed.run) runs_now) checked_now all

module _ (tell : EpochText) (functions : DigestFunctions) (header : Header) (logs : List (List ℕ)) (frames : List Frame) (so_far : Judged) (runs : List FedRun)
    (checked : AreChecked functions header logs so_far runs) where
  abbrev logs_now : List (List ℕ)
  logs_now = joined_from 0 logs frames

  abbrev now_courses : List (Course Operation)
  now_courses = courses_of (scheme_of functions header) header logs_now

  -- all that is due was written, but the front that is left out
  pub due_more : (count : ℕ) (now : Judged) (runs_fed runs_now : List FedRun) (held before after : Option (List ℕ))
      → count ≤ length (lines_counted tell functions header logs so_far)
      → AreChecked functions header logs_now so_far runs_fed → AreChecked functions header logs_now now runs_now
      → now ≡ judged header.verifiers now_courses
      → Grows held before (drop count (lines_counted tell functions header logs so_far))
      → Grows before after (lines_from tell now_courses (header.first + so_far.count) (now.count - so_far.count))
      → Grows held after (drop count (lines_due tell functions header logs_now))
  due_more count now runs_fed runs_now held before after within checked_fed checked_now all written more =
      subst (λ (text : List ℕ). Grows held after (drop count text)) (told_more tell functions header logs frames so_far runs checked now runs_fed runs_now checked_fed checked_now all)
      (subst (Grows held after) (sym (drop-append-le count (lines_counted tell functions header logs so_far) _ within))
      (Grows-then held before after _ _ written more))

  -- a front of it was
  pub front_more : (count : ℕ) (runs_fed : List FedRun) (held before after : Option (List ℕ))
      → count ≤ length (lines_counted tell functions header logs so_far)
      → AreChecked functions header logs_now so_far runs_fed
      → Grows held before (drop count (lines_counted tell functions header logs so_far))
      → GrowsByFront before after (lines_from tell now_courses (header.first + so_far.count) ((judged header.verifiers now_courses).count - so_far.count))
      → GrowsByFront held after (drop count (lines_due tell functions header logs_now))
  front_more count runs_fed held before after within checked_fed written front =
      let counted = counted-within (scheme_of functions header) header logs_now so_far (map (λ fed. fed.run) runs_fed) checked_fed in
      subst (λ (text : List ℕ). GrowsByFront held after (drop count text))
      (lines_to tell functions header logs frames so_far runs checked (judged header.verifiers now_courses).count counted ∙ lines-certified tell (scheme_of functions header) header logs_now checked_fed.header_good checked_fed.whole)
      (subst (GrowsByFront held after) (sym (drop-append-le count (lines_counted tell functions header logs so_far) _ within))
      (GrowsByFront-then held before after _ _ written front))

  -- or nothing more
  pub front_none : (count : ℕ) (held before after : Option (List ℕ)) → Grows held before (drop count (lines_counted tell functions header logs so_far)) → after ≡ before
      → GrowsByFront held after (drop count (lines_due tell functions header logs_now))
  front_none count held before after written same =
      let front = lines-front tell (scheme_of functions header) header logs so_far (map (λ fed. fed.run) runs) frames checked in
      subst (λ (now : Option (List ℕ)). GrowsByFront held now (drop count (lines_due tell functions header logs_now))) (sym same)
      (front_longer count held before (lines_counted tell functions header logs so_far) front.0 _ front.1 (GrowsByFront-whole _ _ _ written))

-- whether a run was starved
pub fed_or_not : (runs : List FedRun) → AreFed runs ⊎ (AreFed runs → ⊥)
fed_or_not [] = inl tt
fed_or_not (fed ∷ runs) = go fed.is_starved refl (fed_or_not runs)
  where
    go : (b : Bool) → fed.is_starved ≡ b → AreFed runs ⊎ (AreFed runs → ⊥) → AreFed (fed ∷ runs) ⊎ (AreFed (fed ∷ runs) → ⊥)
    go true is more = inr (λ all. true≢false (sym is ∙ all.0))
    go false is (inl fine) = inl (is, fine)
    go false is (inr starved) = inr (λ all. starved all.1)

-- ---- the runs

pub runs_weights : (functions : DigestFunctions) (header : Header) (logs : List (List ℕ)) (so_far now : Judged) (runs runs_now : List FedRun) (bound : ℕ)
    → AreChecked functions header logs so_far runs → AreChecked functions header logs now runs_now
    → AllByRecursion (λ fed. weight fed.run ≤ bound) runs → AllByRecursion (λ fed. weight fed.run ≤ bound) runs_now
runs_weights functions header logs so_far now runs runs_now bound checked checked_now weights =
    all_runs (λ run. weight run ≤ bound) runs_now
    (like-all (λ run. weight run ≤ bound) (λ run cache few. few)
    (runs_from (scheme_of functions header) header now.count 0 logs) (map (λ fed. fed.run) runs_now) checked_now.runs_are
    (weights_from (scheme_of functions header) header so_far.count now.count 0 bound logs
    (like-all_back (λ run. weight run ≤ bound) (λ run cache few. few)
    (runs_from (scheme_of functions header) header so_far.count 0 logs) (map (λ fed. fed.run) runs) checked.runs_are
    (all_feds (λ run. weight run ≤ bound) runs weights))))

-- a higher bound
pub weights_more : (runs : List FedRun) (bound more : ℕ) → bound ≤ more
    → AllByRecursion (λ fed. weight fed.run ≤ bound) runs → AllByRecursion (λ fed. weight fed.run ≤ more) runs
weights_more [] bound more below all = tt
weights_more (fed ∷ runs) bound more below all = (omega (arith, below, all.0), weights_more runs bound more below all.1)

weights_opening : (header : Header) (number count bound : ℕ) → AllByRecursion (λ run. weight run ≤ bound) (opening_runs header number count)
weights_opening header number zero bound = tt
weights_opening header number (suc count) bound = (omega arith, weights_opening header (suc number) count bound)

pub opening_weights : (header : Header) (bound : ℕ) (runs : List FedRun) → map (λ fed. fed.run) runs ≡ opening_runs header 0 header.verifiers
    → AllByRecursion (λ fed. weight fed.run ≤ bound) runs
opening_weights header bound runs is =
    all_runs (λ run. weight run ≤ bound) runs
    (subst (AllByRecursion (λ run. weight run ≤ bound)) (sym is) (weights_opening header 0 header.verifiers bound))

-- each frame has a byte at least
pub frames_bytes : (verifiers : ℕ) (frames : List Frame) → AllByRecursion (IsFrame verifiers) frames → length frames ≤ bytes_of frames
frames_bytes verifiers [] all = omega arith
frames_bytes verifiers (frame ∷ frames) all = omega (arith, all.0.some, frames_bytes verifiers frames all.1)
