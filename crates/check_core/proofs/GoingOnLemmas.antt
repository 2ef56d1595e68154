-- Going on from where runs stand: what was told and made behind what was counted, batch after batch.
use Rattle.std.proofs.Common.{◌≡◌, ℕ, suc, ◌+◌, ◌-◌, ◌≤◌, List, [], ◌∷◌, ◌++◌, length, map, drop, Option, refl, sym, ◌∙◌, ap, subst, append-nil, append_assoc, arith}
use Rattle.std.proofs.lemmas.List.{length-append}
use Rattle.std.specs.List.{AllByRecursion, fold}
use Rattle.std.proofs.lemmas.List.Sums.{fold-append}
use Rattle.fv_outside.specs.Written.{Grows}
use Rattle.fv_outside.proofs.WrittenLaws.{Grows-nil}
use Rattle.record_hash.specs.Functions.{DigestFunctions}
use Rattle.lamport_clocks.specs.declared.header.Header.{Header}
use Rattle.merkle_records.specs.Scheme.{scheme_of}
use Rattle.bundle_frames.specs.Bundle.{Frame}
use Rattle.verifier_commands.specs.Machine.{Machine}
use Rattle.verifier_run.specs.Progress.{weight}
use Rattle.bundle_report.specs.declared.judged.Judged.{Judged}
use Rattle.bundle_report.specs.Logs.{joined_from}
use Rattle.bundle_report.specs.Report.{EpochText, EpochTold}
use Rattle.bundle_report.specs.RunReport.{courses_of}
use Rattle.bundle_report.specs.Judged.{judged}
use Rattle.bundle_report.specs.SoFar.{lines_from}
use Rattle.bundle_report.proofs.DueLaws.{lines-due}
use Rattle.certified_epochs.specs.declared.fed_run.FedRun.{FedRun}
use Rattle.check_core.specs.Feeding.{AllRead}
use Rattle.check_core.specs.Stream.{AreChecked, lines_counted, lines_due}
use Rattle.check_core.proofs.StreamLemmas.{told_more, due_more}

-- ---- what a fold made

-- So much was counted before, and so much is now; what came is added.
pub record HasMade {S A : Type 0} (step : S → A → S) (before now : S) (counted counted_now : List A) : Type 0 where
  pub rest : List A
  pub parts : counted_now ≡ counted ++ rest
  pub made : now ≡ fold step before rest

pub made_none : {S A : Type 0} (step : S → A → S) (state : S) (counted : List A) → HasMade step state state counted counted
made_none step state counted = record { rest = []; parts = sym (append-nil counted); made = refl }

pub made_then : {S A : Type 0} (step : S → A → S) (before mid now : S) (counted counted_mid more all : List A) → HasMade step before mid counted counted_mid
    → now ≡ fold step mid more → counted_mid ++ more ≡ all → HasMade step before now counted all
made_then {S} {A} step before mid now counted counted_mid more all so_far is sum = record {
  rest = so_far.rest ++ more;
  parts = sym sum ∙ ap (λ (l : List A). l ++ more) so_far.parts ∙ append_assoc counted so_far.rest more;
  made = is ∙ ap (λ (s : S). fold step s more) so_far.made ∙ sym (fold-append step before so_far.rest more);
}

-- of all that was counted, from the beginning on
pub made_from : {S A : Type 0} (step : S → A → S) (start before now : S) (counted all : List A) → HasMade step before now counted all
    → before ≡ fold step start counted → now ≡ fold step start all
made_from {S} step start before now counted all so_far is =
    so_far.made ∙ ap (λ (s : S). fold step s so_far.rest) is ∙ sym (fold-append step start counted so_far.rest) ∙ ap (fold step start) (sym so_far.parts)

-- ---- what was told

-- The runs have taken these logs now, and had taken those; the lines that are counted now are written behind those that were.
pub record HasTold (tell : EpochText) (functions : DigestFunctions) (header : Header) (logs logs_now : List (List ℕ)) (so_far now : Judged) (runs : List FedRun)
    (held held_now : Option (List ℕ)) : Type 0 where
  pub checked : AreChecked functions header logs_now now runs
  pub within : length (lines_counted tell functions header logs so_far) ≤ length (lines_counted tell functions header logs_now now)
  pub written : Grows held held_now (drop (length (lines_counted tell functions header logs so_far)) (lines_counted tell functions header logs_now now))

drop_whole : {A : Type 0} (text : List A) → drop (length text) text ≡ []
drop_whole [] = refl
drop_whole (x ∷ text) = drop_whole text

-- nothing more so far
pub told_none : (tell : EpochText) (functions : DigestFunctions) (header : Header) (logs : List (List ℕ)) (so_far : Judged) (runs : List FedRun)
    (held : Option (List ℕ)) → AreChecked functions header logs so_far runs
    → HasTold tell functions header logs logs so_far so_far runs held held
told_none tell functions header logs so_far runs held checked = record {
  checked = checked;
  within = omega arith;
  written = subst (Grows held held) (sym (drop_whole (lines_counted tell functions header logs so_far))) (Grows-nil held);
}

-- a batch more, whose frames the runs took
module _ (tell : EpochText) (functions : DigestFunctions) (header : Header) (logs logs_now : List (List ℕ)) (start so_far : Judged) (runs runs_fed : List FedRun)
    (frames : List Frame) (held before : Option (List ℕ)) (told : HasTold tell functions header logs logs_now start so_far runs held before)
    (fed : AreChecked functions header (joined_from 0 logs_now frames) so_far runs_fed) (now : Judged) (runs_now : List FedRun)
    (taken : AreChecked functions header (joined_from 0 logs_now frames) now runs_now)
    (counted : now ≡ judged header.verifiers (courses_of (scheme_of functions header) header (joined_from 0 logs_now frames))) where
  abbrev all : List (List ℕ)
  all = joined_from 0 logs_now frames

  -- all that is due is counted
  pub counted_all : {A : Type 0} (any : EpochTold A) → lines_counted any functions header all now ≡ lines_due any functions header all
  counted_all any = lines-due any (scheme_of functions header) header all now (map (λ fed. fed.run) runs_now) taken counted

  -- its lines are those that were counted, and more
  pub counted_more : {A : Type 0} (any : EpochTold A) → lines_counted any functions header logs_now so_far
      ++ lines_from any (courses_of (scheme_of functions header) header all) (header.first + so_far.count) (now.count - so_far.count)
      ≡ lines_counted any functions header all now
  counted_more any =
      told_more any functions header logs_now frames so_far runs told.checked now runs_fed runs_now fed taken counted ∙ sym (counted_all any)

  pub told_then : (after : Option (List ℕ))
      → Grows before after (lines_from tell (courses_of (scheme_of functions header) header all) (header.first + so_far.count) (now.count - so_far.count))
      → HasTold tell functions header logs all start now runs_now held after
  told_then after lines = record {
    checked = taken;
    within =
        let size = ap length (counted_more tell) in
        let sum = length-append (lines_counted tell functions header logs_now so_far)
        (lines_from tell (courses_of (scheme_of functions header) header all) (header.first + so_far.count) (now.count - so_far.count)) in
        omega (arith, told.within, size, sum);
    written =
        subst (λ (text : List ℕ). Grows held after (drop (length (lines_counted tell functions header logs start)) text)) (sym (counted_all tell))
        (due_more tell functions header logs_now frames so_far runs told.checked (length (lines_counted tell functions header logs start)) now runs_fed runs_now held before after
        told.within fed taken counted told.written lines);
  }

  -- what is written then is all that is due
  pub due_then : (after : Option (List ℕ)) → HasTold tell functions header logs all start now runs_now held after
      → Grows held after (drop (length (lines_counted tell functions header logs start)) (lines_due tell functions header all))
  due_then after next =
      subst (λ (text : List ℕ). Grows held after (drop (length (lines_counted tell functions header logs start)) text)) (counted_all tell) next.written

  pub within_then : (after : Option (List ℕ)) → HasTold tell functions header logs all start now runs_now held after
      → length (lines_counted tell functions header logs start) ≤ length (lines_due tell functions header all)
  within_then after next = omega (arith, next.within, ap length (counted_all tell))

-- ---- the runs

-- runs with the same machines have the same headers
pub headers_same : (header : Header) (olds news : List FedRun) → map (λ fed. fed.run.course.machine) news ≡ map (λ fed. fed.run.course.machine) olds
    → AllByRecursion (λ fed. fed.run.course.machine.header ≡ header) olds → AllByRecursion (λ fed. fed.run.course.machine.header ≡ header) news
headers_same header [] [] same each = tt
headers_same header [] (new ∷ news) same each = absurd (cc)
headers_same header (old ∷ olds) [] same each = tt
headers_same header (old ∷ olds) (new ∷ news) same each =
    let first : new.run.course.machine ≡ old.run.course.machine = cc in
    let rest : map (λ fed. fed.run.course.machine) news ≡ map (λ fed. fed.run.course.machine) olds = cc in
    (ap (λ (m : Machine). m.header) first ∙ each.0, headers_same header olds news rest each.1)

-- and as much behind them
pub weights_same : (bound : ℕ) (olds news : List FedRun) → map (λ fed. fed.run.course.machine) news ≡ map (λ fed. fed.run.course.machine) olds
    → map (λ fed. fed.run.held) news ≡ map (λ fed. fed.run.held) olds
    → AllByRecursion (λ fed. weight fed.run ≤ bound) olds → AllByRecursion (λ fed. weight fed.run ≤ bound) news
weights_same bound [] [] same held each = tt
weights_same bound [] (new ∷ news) same held each = absurd (cc)
weights_same bound (old ∷ olds) [] same held each = tt
weights_same bound (old ∷ olds) (new ∷ news) same held each =
    let first : new.run.course.machine ≡ old.run.course.machine = cc in
    let first_held : new.run.held ≡ old.run.held = cc in
    let rest : map (λ fed. fed.run.course.machine) news ≡ map (λ fed. fed.run.course.machine) olds = cc in
    let rest_held : map (λ fed. fed.run.held) news ≡ map (λ fed. fed.run.held) olds = cc in
    let accepted = ap (λ (m : Machine). m.accepted) first in
    let size = ap length first_held in
    (omega (arith, accepted, size, each.0), weights_same bound olds news rest rest_held each.1)

-- runs keep their headers while they take frames
pub headers_read : (functions : DigestFunctions) (header : Header) (number : ℕ) (frames : List Frame) (olds news : List FedRun) → AllRead functions number frames olds news
    → AllByRecursion (λ fed. fed.run.course.machine.header ≡ header) olds → AllByRecursion (λ fed. fed.run.course.machine.header ≡ header) news
headers_read functions header number frames [] [] read each = tt
headers_read functions header number frames [] (new ∷ news) read each = absurd read
headers_read functions header number frames (old ∷ olds) [] read each = tt
headers_read functions header number frames (old ∷ olds) (new ∷ news) read each =
    (read.0.header ∙ each.0, headers_read functions header (suc number) frames olds news read.1 each.1)
