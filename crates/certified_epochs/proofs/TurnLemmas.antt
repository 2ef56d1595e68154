-- What one turn of certifying tells of the logs that the runs have taken.
use Rattle.std.proofs.Common.{◌≡◌, ◌⊎◌, ℕ, suc, ◌+◌, ◌-◌, ◌<◌, ◌≤◌, Bool, true, false, List, [], ◌∷◌, length, map, drop, slice_get, Option, Some, None, inl, inr, refl, sym, ◌∙◌, ap, subst, arith, filter, cond, ◌++◌, append-nil}
use Rattle.std.specs.Prelude.{IfSome, nat_lt}
use Rattle.std.specs.Option.{option_map}
use Rattle.std.proofs.lemmas.Bool.Decides.{nat_tests}
use Rattle.std.proofs.lemmas.Bool.{cases_lt, cond-false}
use Rattle.lamport_clocks.specs.declared.header.Header.{Header}
use Rattle.merkle_records.specs.Scheme.{Scheme}
use Rattle.multiset_sum.specs.declared.part.Part.{Part}
use Rattle.epoch_gather.specs.declared.outcome.Verdict.{Verdict}
use Rattle.epoch_gather.specs.declared.outcome.Verdict.TheVariants.{Balanced, Unbalanced, Missing}
use Rattle.epoch_gather.specs.Verdict.{verdict_of}
use Rattle.record_text.specs.declared.operation.Operation.{Operation}
use Rattle.stamp_order.specs.Merged.{merged}
use Rattle.stamp_order.specs.Operations.{moment_of, merged_up_to}
use Rattle.verifier_run.specs.Course.{Course}
use Rattle.verifier_run.specs.Progress.{Progress}
use Rattle.verifier_run.specs.Taken.{left_of}
use Rattle.verifier_run.specs.Likeness.{AreLike}
use Rattle.bundle_report.specs.declared.judged.Judged.{Judged}
use Rattle.bundle_report.specs.declared.judged.Uneven.{Uneven}
use Rattle.bundle_report.specs.Report.{EpochTold}
use Rattle.bundle_report.specs.RunReport.{courses_of, parts_at, operations_among}
use Rattle.bundle_report.specs.Judged.{judged, judged_by, first_parts, refused_log, end_by}
use Rattle.log_codec.specs.Log.{read_log}
use Rattle.report_text.specs.declared.ending.BundleEnd.{BundleEnd}
use Rattle.bundle_report.specs.declared.refused_log.RefusedLog.{RefusedLog}
use Rattle.bundle_report.specs.BundleReport.{end_of, histories_at}
use Rattle.bundle_report.specs.SoFar.{runs_ended, lines_told, lines_from, runs_from, verdict_at, IsUneven, HaveRead}
use Rattle.bundle_report.proofs.LeftLaws.{run_of, left-parts, next-parts, next-operations, runs-length, runs-more}
use Rattle.bundle_report.proofs.LikeRunsLaws.{like-first_parts, like-verdict, like-operations, like-left}
use Rattle.bundle_report.proofs.LinesLaws.{lines-more, lines-behind}
use Rattle.bundle_report.proofs.SoFarLaws.{end-taken, counted-within, behind, next-tells, uneven-judged}
use Rattle.certified_epochs.specs.declared.fed_run.FedRun.{FedRun}
use Rattle.certified_epochs.specs.Turn.{courses_in, IsVerdictAt, next_epoch, parts_left, Turned, no_turn, turn_by, turn_at, turn}

-- ---- what a turn tells

-- the next epoch is certified: it is counted, and its lines are written
pub record IsCertified {A : Type 0} (tell : EpochTold A) (scheme : Scheme) (header : Header) (logs : List (List ℕ)) (so_far : Judged) (turned : Turned A) : Type 0 where
  pub taken : HaveRead scheme header logs turned.judged turned.runs
  pub count : turned.judged.count ≡ suc so_far.count
  pub even : turned.judged.unbalanced ≡ None
  pub text : turned.text ≡ lines_told tell (courses_of scheme header logs) (header.first + so_far.count)

-- it isn't: all that is certified is counted
pub record IsDone {A : Type 0} (scheme : Scheme) (header : Header) (logs : List (List ℕ)) (so_far : Judged) (turned : Turned A) : Type 0 where
  pub taken : HaveRead scheme header logs turned.judged turned.runs
  pub count : turned.judged.count ≡ so_far.count
  pub all : turned.judged ≡ judged header.verifiers (courses_of scheme header logs)
  pub text : turned.text ≡ []

abbrev pub TellsBy : {A : Type 0} → EpochTold A → Bool → Scheme → Header → List (List ℕ) → Judged → Turned A → Type 0
TellsBy tell true scheme header logs so_far turned = IsCertified tell scheme header logs so_far turned
TellsBy tell false scheme header logs so_far turned = IsDone scheme header logs so_far turned

abbrev pub Tells : {A : Type 0} → EpochTold A → Scheme → Header → List (List ℕ) → Judged → Turned A → Type 0
Tells tell scheme header logs so_far turned = TellsBy tell turned.more scheme header logs so_far turned

module _ (scheme : Scheme) (header : Header) (log : List ℕ) (logs : List (List ℕ)) (so_far : Judged) (runs : List (Progress Operation))
    (taken : HaveRead scheme header (log ∷ logs) so_far runs) (even : so_far.unbalanced ≡ None) where
  abbrev all : List (List ℕ)
  all = log ∷ logs

  abbrev parts : List Part
  parts = (run_of scheme header 0 log).course.parts

  abbrev courses : List (Course Operation)
  courses = courses_of scheme header all

  -- the next epoch, if there is one
  abbrev epoch : ℕ
  epoch = header.first + so_far.count

  epoch_is : next_epoch runs ≡ option_map (λ part. part.epoch) (slice_get (drop so_far.count parts) 0)
  epoch_is =
      ap (λ (ps : List Part). option_map (λ (part : Part). part.epoch) (slice_get ps 0))
      (like-first_parts (runs_from scheme header so_far.count 0 all) runs taken.runs_are ∙ left-parts scheme header 0 log so_far.count)

  -- the verdict on it
  verdict_is : verdict_of (length runs) epoch (parts_at 0 (courses_in runs)) ≡ verdict_at scheme header all so_far.count
  verdict_is =
      like-verdict epoch 0 (runs_from scheme header so_far.count 0 all) runs taken.runs_are
      ∙ ap (λ (n : ℕ). verdict_of n epoch (parts_at 0 (courses_in (runs_from scheme header so_far.count 0 all))))
      (runs-length scheme header so_far.count 0 all ∙ taken.whole)
      ∙ ap (verdict_of header.verifiers epoch) (next-parts scheme header so_far.count 0 all)

  -- its lines
  text_is : {A : Type 0} (tell : EpochTold A) → tell epoch (merged_up_to epoch (operations_among (courses_in runs))) ≡ lines_told tell courses epoch
  text_is tell =
      ap (λ (ops : List Operation). tell epoch (merged_up_to epoch ops)) (like-operations (runs_from scheme header so_far.count 0 all) runs taken.runs_are)
      ∙ ap (λ (ops : List Operation). tell epoch (merged moment_of ops)) (next-operations scheme header so_far.count 0 all)

  -- it is balanced
  certified : {A : Type 0} (tell : EpochTold A) → verdict_at scheme header all so_far.count ≡ Balanced → IsCertified tell scheme header all so_far (turn_by tell so_far runs epoch Balanced)
  certified tell is = record {
    taken = record {
      header_good = taken.header_good;
      whole = taken.whole;
      runs_are =
          subst (λ (rs : List (Progress Operation)). AreLike rs (map (left_of epoch) runs)) (runs-more scheme header so_far.count 0 all)
          (like-left epoch (runs_from scheme header so_far.count 0 all) runs taken.runs_are);
      balanced = λ index below. by index below (cases_lt index so_far.count);
      uneven = subst (λ (o : Option Uneven). IfSome o (IsUneven scheme header all (suc so_far.count))) (sym even) tt;
    };
    count = refl;
    even = even;
    text = text_is tell;
  }
    where
      by : (index : ℕ) → index < suc so_far.count → (index < so_far.count) ⊎ (so_far.count ≤ index) → verdict_at scheme header all index ≡ Balanced
      by index below (inl before) = taken.balanced index before
      by index below (inr past) =
          let same : index ≡ so_far.count = omega arith in
          ap (verdict_at scheme header all) same ∙ is

  -- a judgement that counts as many
  judgement : (count : ℕ) (unbalanced : Option Uneven) → so_far.count ≡ count → so_far.unbalanced ≡ unbalanced
      → so_far ≡ record { count = count; unbalanced = unbalanced }
  judgement count unbalanced same other =
      ap (λ (n : ℕ). record so_far { count = n }) same ∙ ap (λ (o : Option Uneven). record { count = count; unbalanced = o }) other

  -- nothing more is certified
  done : {A : Type 0} (tell : EpochTold A) → so_far ≡ judged header.verifiers courses → IsDone scheme header all so_far (turn_at tell so_far runs None)
  done tell is = record { taken = taken; count = refl; all = is; text = refl }

  -- the next epoch by its verdict
  by_verdict : {A : Type 0} (tell : EpochTold A) (more : Judged)
      → judged header.verifiers courses ≡ behind so_far.count (judged_by epoch (verdict_at scheme header all so_far.count) more)
      → (verdict : Verdict) → verdict_at scheme header all so_far.count ≡ verdict
      → Tells tell scheme header all so_far (turn_by tell so_far runs epoch verdict)
  by_verdict tell more next Balanced is = certified tell is
  by_verdict tell more next (Unbalanced added evicted) is =
      let uneven : Uneven = record { epoch = epoch; added = added; evicted = evicted } in
      let now : Judged = record so_far { unbalanced = Some uneven } in
      let still : HaveRead scheme header all now runs = record {
        header_good = taken.header_good;
        whole = taken.whole;
        runs_are = taken.runs_are;
        balanced = taken.balanced;
        uneven = (refl, is);
      } in
      record { taken = still; count = refl; all = uneven-judged scheme header all now runs uneven still refl; text = refl }
  by_verdict tell more next (Missing verifier) is =
      let same : so_far.count ≡ so_far.count + 0 = omega arith in
      record {
        taken = taken;
        count = refl;
        all =
            judgement (so_far.count + 0) None same even
            ∙ sym (next ∙ ap (λ (v : Verdict). behind so_far.count (judged_by epoch v more)) is);
        text = refl;
      }

  -- the next epoch by the parts of the first run
  by_parts : {A : Type 0} (tell : EpochTold A) (ps : List Part) → drop so_far.count parts ≡ ps
      → Tells tell scheme header all so_far (turn_at tell so_far runs (option_map (λ part. part.epoch) (slice_get ps 0)))
  by_parts tell [] is =
      done tell (judgement so_far.count None refl even ∙ sym (next-tells scheme header log logs so_far runs taken [] is))
  by_parts tell (part ∷ ps) is =
      let next = next-tells scheme header log logs so_far runs taken (part ∷ ps) is in
      subst (λ (e : ℕ). Tells tell scheme header all so_far (turn_by tell so_far runs e (verdict_of (length runs) e (parts_at 0 (courses_in runs)))))
      (sym next.0)
      (subst (λ (v : Verdict). Tells tell scheme header all so_far (turn_by tell so_far runs epoch v)) (sym verdict_is)
      (by_verdict tell next.1.0 next.1.1 (verdict_at scheme header all so_far.count) refl))

-- One turn: the next epoch is certified, or all that is certified is counted.
pub turn-tells : {A : Type 0} (tell : EpochTold A) (scheme : Scheme) (header : Header) (logs : List (List ℕ)) (so_far : Judged) (runs : List (Progress Operation))
    → HaveRead scheme header logs so_far runs → so_far.unbalanced ≡ None
    → Tells tell scheme header logs so_far (turn tell so_far runs)
turn-tells tell scheme header [] so_far runs taken even = absurd (omega (arith, taken.whole, taken.header_good.some_verifiers))
turn-tells tell scheme header (log ∷ logs) so_far runs taken even =
    subst (λ (o : Option ℕ). Tells tell scheme header (log ∷ logs) so_far (turn_at tell so_far runs o))
    (sym (epoch_is scheme header log logs so_far runs taken even))
    (by_parts scheme header log logs so_far runs taken even tell (drop so_far.count (run_of scheme header 0 log).course.parts) refl)

-- ---- the turn that the code makes

-- the courses of runs that are fed
abbrev pub fed_courses : List FedRun → List (Course Operation)
fed_courses runs = map (λ fed. fed.run.course) runs

abbrev pub runs_of : List FedRun → List (Progress Operation)
runs_of runs = map (λ fed. fed.run) runs

pub courses_same : (runs : List FedRun) → courses_in (runs_of runs) ≡ fed_courses runs
courses_same [] = refl
courses_same (fed ∷ runs) = ap (λ (courses : List (Course Operation)). fed.run.course ∷ courses) (courses_same runs)

left_same : (epoch : ℕ) (runs : List FedRun) → map (left_of epoch) (runs_of runs) ≡ map (λ fed. left_of epoch fed.run) runs
left_same epoch [] = refl
left_same epoch (fed ∷ runs) = ap (λ (rs : List (Progress Operation)). left_of epoch fed.run ∷ rs) (left_same epoch runs)

pub runs_many : (runs : List FedRun) → length (runs_of runs) ≡ length runs
runs_many [] = refl
runs_many (fed ∷ runs) = ap suc (runs_many runs)

-- The verdict on gathered parts is that of the runs.
pub gathered-verdict : (runs : List FedRun) (epoch : ℕ) (parts : List Part) (verdict : Verdict) → parts ≡ parts_at 0 (fed_courses runs)
    → verdict ≡ verdict_of (length runs) epoch parts → IsVerdictAt (runs_of runs) 0 epoch verdict
gathered-verdict runs epoch parts verdict gathered is =
    is ∙ ap (verdict_of (length runs) epoch) gathered
    ∙ ap (λ (courses : List (Course Operation)). verdict_of (length runs) epoch (parts_at 0 courses)) (sym (courses_same runs))
    ∙ ap (λ (n : ℕ). verdict_of n epoch (parts_at 0 (courses_in (runs_of runs)))) (sym (runs_many runs))

-- ---- verdicts that are handed in

-- what is known of one that is handed in for the epoch that comes
pub handed-at : {V : Type 0} (P : ℕ → V → Type 0) (e : ℕ) (found : Option ℕ) (handed : Option V) → found ≡ Some e
    → IfSome handed (λ verdict. (other : ℕ) → found ≡ Some other → P other verdict) → IfSome handed (P e)
handed-at P e found None is known = tt
handed-at P e found (Some verdict) is known = known e is

-- a turn with its text
pub with_text : {A : Type 0} (t : Turned A) (more : Bool) (now : Judged) (runs : List (Progress Operation)) (text : List A)
    → t ≡ record { more = more; judged = now; runs = runs; text = text } → t ≡ record { more = more; judged = now; runs = runs; text = t.text }
with_text {A} t more now runs text is =
    is ∙ ap (λ (line : List A). record { more = more; judged = now; runs = runs; text = line }) (sym (ap (λ (u : Turned A). u.text) is))

module _ {A : Type 0} (tell : EpochTold A) (so_far : Judged) (runs : List FedRun) (found : Option ℕ) (epoch : ℕ) (verdict : Verdict)
    (is : found ≡ Some epoch) (next : found ≡ next_epoch (runs_of runs)) (judged_is : IsVerdictAt (runs_of runs) 0 epoch verdict) where
  -- by the verdict that was found
  pub turn-is : turn tell so_far (runs_of runs) ≡ turn_by tell so_far (runs_of runs) epoch verdict
  turn-is =
      ap (turn_at tell so_far (runs_of runs)) (sym next ∙ is) ∙ ap (turn_by tell so_far (runs_of runs) epoch) (sym judged_is)

  -- another one leaves the runs
  pub turn-other : (now : Judged) (found_so : Verdict) → so_far ≡ now → verdict ≡ found_so
      → turn tell so_far (runs_of runs) ≡ turn_by tell now (runs_of runs) epoch found_so
  turn-other now found_so same is_so =
      turn-is ∙ ap (turn_by tell so_far (runs_of runs) epoch) is_so ∙ ap (λ (j : Judged). turn_by tell j (runs_of runs) epoch found_so) same

  -- a balanced one
  pub turn-balanced : (now : Judged) (count : ℕ) (left : List (Progress Operation)) (operations : List Operation) → so_far ≡ now → count ≡ suc now.count → verdict ≡ Balanced
      → left ≡ map (λ fed. left_of epoch fed.run) runs → operations ≡ merged_up_to epoch (operations_among (fed_courses runs))
      → turn tell so_far (runs_of runs)
      ≡ record { more = true; judged = record { count = count; unbalanced = now.unbalanced }; runs = left; text = tell epoch operations }
  turn-balanced now count left operations same counted balanced left_is ops_are =
      turn-is ∙ ap (turn_by tell so_far (runs_of runs) epoch) balanced
      ∙ ap (λ (rs : List (Progress Operation)). record {
        more = true;
        judged = record so_far { count = suc so_far.count };
        runs = rs;
        text = tell epoch (merged_up_to epoch (operations_among (courses_in (runs_of runs))));
      })
      (left_same epoch runs ∙ sym left_is)
      ∙ ap (λ (ops : List Operation). record {
        more = true;
        judged = record so_far { count = suc so_far.count };
        runs = left;
        text = tell epoch ops;
      })
      (ap (λ (courses : List (Course Operation)). merged_up_to epoch (operations_among courses)) (courses_same runs) ∙ sym ops_are)
      ∙ ap (λ (j : Judged). record { more = true; judged = record j { count = suc j.count }; runs = left; text = tell epoch operations }) same
      ∙ ap (λ (n : ℕ). record { more = true; judged = record now { count = n }; runs = left; text = tell epoch operations }) (sym counted)

-- where there is no next epoch
pub turn-none : {A : Type 0} (tell : EpochTold A) (so_far : Judged) (runs : List (Progress Operation)) (found : Option ℕ) → found ≡ None → found ≡ next_epoch runs
    → turn tell so_far runs ≡ no_turn so_far runs
turn-none tell so_far runs found is next = ap (turn_at tell so_far runs) (sym next ∙ is)

-- ---- what else is told of a turn

-- Turns that tell epochs otherwise do the same.
module _ {A B : Type 0} (tell : EpochTold A) (other : EpochTold B) (so_far : Judged) (runs : List (Progress Operation)) where
  -- what a turn leaves, with what another one tells
  abbrev AlikeTo : Turned A → Turned B → Type 0
  AlikeTo one two = two ≡ record { more = one.more; judged = one.judged; runs = one.runs; text = two.text }

  alike_at : (found : Option ℕ) → AlikeTo (turn_at tell so_far runs found) (turn_at other so_far runs found)
  alike_at None = refl
  alike_at (Some epoch) = go (verdict_of (length runs) epoch (parts_at 0 (courses_in runs)))
    where
      go : (verdict : Verdict) → AlikeTo (turn_by tell so_far runs epoch verdict) (turn_by other so_far runs epoch verdict)
      go Balanced = refl
      go (Unbalanced added evicted) = refl
      go (Missing verifier) = refl

  pub turn-alike : (more : Bool) (now : Judged) (next : List (Progress Operation)) (text : List A)
      → turn tell so_far runs ≡ record { more = more; judged = now; runs = next; text = text }
      → turn other so_far runs ≡ record { more = more; judged = now; runs = next; text = (turn other so_far runs).text }
  turn-alike more now next text is =
      alike_at (next_epoch runs)
      ∙ ap (λ (t : Turned A). record { more = t.more; judged = t.judged; runs = t.runs; text = (turn other so_far runs).text }) is

-- ---- an end comes

-- no more are left of what is filtered
filtered : (epoch : ℕ) (parts : List Part) → length (filter (λ part. nat_lt epoch part.epoch) parts) ≤ length parts
filtered epoch [] = omega arith
filtered epoch (part ∷ parts) = go (nat_lt epoch part.epoch) (filtered epoch parts)
  where
    go : (b : Bool) → length (filter (λ p. nat_lt epoch p.epoch) parts) ≤ length parts
        → length (cond b (part ∷ filter (λ p. nat_lt epoch p.epoch) parts) (filter (λ p. nat_lt epoch p.epoch) parts)) ≤ suc (length parts)
    go true less = omega arith
    go false less = omega arith

-- The first run has fewer parts left once the epoch of the first is taken.
pub less-left : (epoch : ℕ) (old new : List FedRun) (found : Option ℕ) → found ≡ Some epoch → found ≡ next_epoch (runs_of old)
    → runs_of new ≡ map (λ fed. left_of epoch fed.run) old → parts_left new < parts_left old
less-left epoch [] new found is next left = absurd (cc)
less-left epoch (fed ∷ old) new found is next left =
    go fed.run.course.parts refl
  where
    go : (parts : List Part) → fed.run.course.parts ≡ parts → parts_left new < length fed.run.course.parts
    go [] none =
        let absent = ap (λ (ps : List Part). option_map (λ (p : Part). p.epoch) (slice_get ps 0)) none in
        absurd (cc)
    go (part ∷ parts) some =
        let there = ap (λ (ps : List Part). option_map (λ (p : Part). p.epoch) (slice_get ps 0)) some in
        let own : part.epoch ≡ epoch = cc in
        let dropped : nat_lt epoch part.epoch ≡ false = grind (arith, nat_tests, own) in
        let rest = filtered epoch parts in
        let new_parts : parts_left new ≡ length (filter (λ (p : Part). nat_lt epoch p.epoch) (part ∷ parts)) =
        ap (λ (rs : List (Progress Operation)). length (first_parts (courses_in rs))) left
        ∙ ap (λ (ps : List Part). length (filter (λ (p : Part). nat_lt epoch p.epoch) ps)) some in
        let fewer : length (filter (λ (p : Part). nat_lt epoch p.epoch) (part ∷ parts)) ≡ length (filter (λ (p : Part). nat_lt epoch p.epoch) parts) =
        ap length (cond-false (nat_lt epoch part.epoch) _ _ dropped) in
        omega (arith, new_parts, fewer, rest, ap length some)

-- ---- turn after turn

-- a turn that certified an epoch
pub certified-turn : {A : Type 0} (tell : EpochTold A) (scheme : Scheme) (header : Header) (logs : List (List ℕ)) (so_far now : Judged) (runs next : List (Progress Operation)) (more : Bool)
    (text : List A) → HaveRead scheme header logs so_far runs → so_far.unbalanced ≡ None
    → turn tell so_far runs ≡ record { more = more; judged = now; runs = next; text = text } → more ≡ true
    → IsCertified tell scheme header logs so_far (record { more = true; judged = now; runs = next; text = text })
certified-turn tell scheme header logs so_far now runs next more text taken even is is_more =
    subst (Tells tell scheme header logs so_far)
    (is ∙ ap (λ (b : Bool). record { more = b; judged = now; runs = next; text = text }) is_more)
    (turn-tells tell scheme header logs so_far runs taken even)

-- and the last
pub done-turn : {A : Type 0} (tell : EpochTold A) (scheme : Scheme) (header : Header) (logs : List (List ℕ)) (so_far now : Judged) (runs next : List (Progress Operation)) (more : Bool)
    (text : List A) → HaveRead scheme header logs so_far runs → so_far.unbalanced ≡ None
    → turn tell so_far runs ≡ record { more = more; judged = now; runs = next; text = text } → more ≡ false
    → IsDone scheme header logs so_far (record { more = false; judged = now; runs = next; text = text })
done-turn tell scheme header logs so_far now runs next more text taken even is not_more =
    subst (Tells tell scheme header logs so_far)
    (is ∙ ap (λ (b : Bool). record { more = b; judged = now; runs = next; text = text }) not_more)
    (turn-tells tell scheme header logs so_far runs taken even)

-- where an epoch is unbalanced nothing is left to judge
pub same-judged : (scheme : Scheme) (header : Header) (logs : List (List ℕ)) (so_far : Judged) (runs : List (Progress Operation)) (now : Judged) (uneven : Uneven)
    → HaveRead scheme header logs so_far runs → now ≡ so_far → now.unbalanced ≡ Some uneven
    → so_far ≡ judged header.verifiers (courses_of scheme header logs)
same-judged scheme header logs so_far runs now uneven taken same is =
    uneven-judged scheme header logs so_far runs uneven taken (sym (ap (λ (j : Judged). j.unbalanced) same) ∙ is)

-- no lines, of no epochs
pub no-lines : {A : Type 0} (tell : EpochTold A) (courses : List (Course Operation)) (epoch count : ℕ) → [] ≡ lines_from tell courses epoch (count - count)
no-lines tell courses epoch count =
    let none : 0 ≡ count - count = omega arith in
    ap (lines_from tell courses epoch) none

-- the lines of one epoch more
pub lines-step : {A : Type 0} (tell : EpochTold A) (courses : List (Course Operation)) (first start count next : ℕ) (text line : List A) → start ≤ count → next ≡ suc count
    → text ≡ lines_from tell courses (first + start) (count - start) → line ≡ lines_told tell courses (first + count)
    → text ++ line ≡ lines_from tell courses (first + start) (next - start)
lines-step {A} tell courses first start count next text line within is so_far own =
    let at : first + count ≡ (first + start) + (count - start) = omega (arith, within) in
    let many : suc (count - start) ≡ next - start = omega (arith, within, is) in
    ap (λ (t : List A). t ++ line) so_far
    ∙ ap (λ (l : List A). lines_from tell courses (first + start) (count - start) ++ l) (own ∙ ap (lines_told tell courses) at)
    ∙ sym (lines-more tell courses (first + start) (count - start))
    ∙ ap (lines_from tell courses (first + start)) many

-- the lines of so many epochs are a front of those of more
lines_front : {A : Type 0} (tell : EpochTold A) (courses : List (Course Operation)) (epoch start count all : ℕ) → start ≤ count → count ≤ all
    → (more : List A) × (lines_from tell courses epoch (count - start) ++ more ≡ lines_from tell courses epoch (all - start))
lines_front tell courses epoch start count all within below =
    let sum : (count - start) + (all - count) ≡ all - start = omega (arith, within, below) in (
      lines_from tell courses (epoch + (count - start)) (all - count),
      sym (lines-behind tell courses epoch (count - start) (all - count)) ∙ ap (lines_from tell courses epoch) sum,
    )

-- What was written and what the turn writes are a front of all lines.
pub turn-front : {A : Type 0} (tell : EpochTold A) (scheme : Scheme) (header : Header) (logs : List (List ℕ)) (so_far : Judged) (runs : List (Progress Operation)) (start : ℕ) (text : List A)
    → HaveRead scheme header logs so_far runs → so_far.unbalanced ≡ None → start ≤ so_far.count
    → text ≡ lines_from tell (courses_of scheme header logs) (header.first + start) (so_far.count - start)
    → (more : List A) × ((text ++ (turn tell so_far runs).text) ++ more
    ≡ lines_from tell (courses_of scheme header logs) (header.first + start) ((judged header.verifiers (courses_of scheme header logs)).count - start))
turn-front {A} tell scheme header logs so_far runs start text taken even within so_far_is =
    go (turn tell so_far runs).more refl (turn-tells tell scheme header logs so_far runs taken even)
  where
    courses : List (Course Operation)
    courses = courses_of scheme header logs

    all : ℕ
    all = (judged header.verifiers courses).count

    go : (b : Bool) → (turn tell so_far runs).more ≡ b → TellsBy tell b scheme header logs so_far (turn tell so_far runs)
        → (more : List A) × ((text ++ (turn tell so_far runs).text) ++ more ≡ lines_from tell courses (header.first + start) (all - start))
    go true is tells =
        let bound = counted-within scheme header logs (turn tell so_far runs).judged (turn tell so_far runs).runs tells.taken in
        let rest = lines_front tell courses (header.first + start) start (turn tell so_far runs).judged.count all (omega (arith, within, tells.count)) bound in (
          rest.0,
          ap (λ (t : List A). t ++ rest.0)
              (lines-step tell courses header.first start so_far.count (turn tell so_far runs).judged.count text (turn tell so_far runs).text within tells.count so_far_is tells.text)
              ∙ rest.1,
        )
    go false is tells =
        let bound = counted-within scheme header logs so_far runs taken in
        let rest = lines_front tell courses (header.first + start) start so_far.count all within bound in (
          rest.0,
          ap (λ (t : List A). (text ++ t) ++ rest.0) tells.text
              ∙ ap (λ (t : List A). t ++ rest.0) (append-nil text ∙ so_far_is)
              ∙ rest.1,
        )

-- ---- the end

-- How the report ends, as the code finds it.
pub finish-end : (scheme : Scheme) (header : Header) (logs : List (List ℕ)) (so_far now : Judged) (runs : List (Progress Operation)) (fed : List FedRun)
    (refused : Option RefusedLog) (bad : Option ℕ) (end : BundleEnd) → HaveRead scheme header logs so_far runs
    → so_far ≡ judged header.verifiers (courses_of scheme header logs) → now ≡ so_far → runs_of fed ≡ runs_ended runs
    → refused ≡ refused_log 0 (fed_courses fed) → end ≡ end_by now.count now.unbalanced refused bad
    → end ≡ end_of scheme header (map (read_log scheme.format) logs) (histories_at scheme header logs) bad
finish-end scheme header logs so_far now runs fed refused bad end taken all same ended found is =
    is
    ∙ ap (λ (r : Option RefusedLog). end_by now.count now.unbalanced r bad)
    (found ∙ ap (refused_log 0) (sym (courses_same fed)) ∙ ap (λ (rs : List (Progress Operation)). refused_log 0 (courses_in rs)) ended)
    ∙ ap (λ (j : Judged). end_by j.count j.unbalanced (refused_log 0 (courses_in (runs_ended runs))) bad) same
    ∙ end-taken scheme header logs so_far runs bad taken all
