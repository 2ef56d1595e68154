-- What is gathered of an epoch run by run, and what is judged epoch by epoch.
use Rattle.std.proofs.Common.{◌≡◌, ℕ, suc, ◌+◌, ◌<◌, ◌≤◌, List, ◌∷◌, ◌++◌, length, map, drop, Option, Some, None, get_or, slice_get, sym, ◌∙◌, ap, append_assoc, arith}
use Rattle.std.proofs.lemmas.List.{append-nil, drop_all, drop_more}
use Rattle.std.specs.Option.{option_to_list}
use Rattle.multiset_sum.specs.declared.part.Part.{Part}
use Rattle.multiset_sum.specs.declared.sum.Sum.{Sum}
use Rattle.epoch_gather.specs.declared.outcome.Verdict.{Verdict}
use Rattle.epoch_gather.specs.declared.outcome.Verdict.TheVariants.{Balanced, Unbalanced, Missing}
use Rattle.epoch_gather.specs.Verdict.{verdict_of}
use Rattle.verifier_run.specs.Progress.{Progress}
use Rattle.verifier_run.specs.Course.{Course}
use Rattle.bundle_report.specs.declared.judged.Judged.{Judged}
use Rattle.bundle_report.specs.declared.judged.Uneven.{Uneven}
use Rattle.bundle_report.specs.Judged.{judged_by, judged_from}
use Rattle.bundle_report.specs.RunReport.{parts_at}
use Rattle.bundle_report.proofs.SoFarLaws.{behind}

-- what is left of a list, where this one is next
next_left : {A : Type 0} (xs : List A) (at : ℕ) (x : A) → at < length xs → x ≡ get_or xs at x → drop at xs ≡ x ∷ drop (at + 1) xs
next_left {A} xs at x within is = drop_more xs at x within ∙ ap (λ (first : A). first ∷ drop (at + 1) xs) (sym is)

-- ---- what is gathered

-- of one run more
pub gather_more : {T : Type 0} (index : ℕ) (runs : List (Progress T)) (at : ℕ) (run : Progress T) (gathered more whole : List Part) → at < length runs → run ≡ get_or runs at run
    → more ≡ gathered ++ option_to_list (slice_get run.course.parts index) → gathered ++ parts_at index (map (λ r. r.course) (drop at runs)) ≡ whole
    → more ++ parts_at index (map (λ r. r.course) (drop (at + 1) runs)) ≡ whole
gather_more {T} index runs at run gathered more whole within is added so_far =
    let left = parts_at index (map (λ (r : Progress T). r.course) (drop (at + 1) runs)) in
    ap (λ (front : List Part). front ++ left) added
    ∙ append_assoc gathered (option_to_list (slice_get run.course.parts index)) left
    ∙ sym (ap (λ (rest : List (Progress T)). gathered ++ parts_at index (map (λ r. r.course) rest)) (next_left runs at run within is))
    ∙ so_far

-- of all runs
pub gather_all : {T : Type 0} (index : ℕ) (runs : List (Progress T)) (at : ℕ) (gathered whole : List Part) → length runs ≤ at
    → gathered ++ parts_at index (map (λ r. r.course) (drop at runs)) ≡ whole → gathered ≡ whole
gather_all {T} index runs at gathered whole none so_far =
    sym (append-nil gathered) ∙ sym (ap (λ (rest : List (Progress T)). gathered ++ parts_at index (map (λ r. r.course) rest)) (drop_all at runs none)) ∙ so_far

-- ---- what is judged

-- so many certified epochs, and how it ends
abbrev ending : Option Uneven → ℕ → Judged
ending unbalanced count = record { count = count; unbalanced = unbalanced }

-- one epoch more, by the verdict of what was gathered
judge_more : {A : Type 0} (verifiers count : ℕ) (parts : List Part) (courses : List (Course A)) (part : Part) (gathered : List Part) (found verdict : Verdict) (whole : Judged)
    → count < length parts → part ≡ get_or parts count part → gathered ≡ parts_at count courses → found ≡ verdict_of verifiers part.epoch gathered
    → whole ≡ behind count (judged_from verifiers count (drop count parts) courses) → found ≡ verdict
    → whole ≡ behind count (judged_by part.epoch verdict (judged_from verifiers (count + 1) (drop (count + 1) parts) courses))
judge_more verifiers count parts courses part gathered found verdict whole within is came by so_far found_is =
    let on : suc count ≡ count + 1 = omega arith in
    so_far
    ∙ ap (λ (left : List Part). behind count (judged_from verifiers count left courses)) (next_left parts count part within is)
    ∙ ap (λ (next : ℕ). behind count (judged_by part.epoch (verdict_of verifiers part.epoch (parts_at count courses)) (judged_from verifiers next (drop (count + 1) parts) courses))) on
    ∙ ap (λ (v : Verdict). behind count (judged_by part.epoch v (judged_from verifiers (count + 1) (drop (count + 1) parts) courses)))
    (sym (ap (verdict_of verifiers part.epoch) came) ∙ sym by ∙ found_is)

-- a balanced epoch is certified
pub judge_balanced : {A : Type 0} (verifiers count : ℕ) (parts : List Part) (courses : List (Course A)) (part : Part) (gathered : List Part) (found : Verdict) (whole : Judged)
    → count < length parts → part ≡ get_or parts count part → gathered ≡ parts_at count courses → found ≡ verdict_of verifiers part.epoch gathered
    → whole ≡ behind count (judged_from verifiers count (drop count parts) courses) → found ≡ Balanced
    → whole ≡ behind (count + 1) (judged_from verifiers (count + 1) (drop (count + 1) parts) courses)
judge_balanced verifiers count parts courses part gathered found whole within is came by so_far balanced =
    let more = judged_from verifiers (count + 1) (drop (count + 1) parts) courses in
    let on : count + suc more.count ≡ count + 1 + more.count = omega arith in
    judge_more verifiers count parts courses part gathered found Balanced whole within is came by so_far balanced ∙ ap (ending more.unbalanced) on

-- at any other it ends
pub judge_unbalanced : {A : Type 0} (verifiers count : ℕ) (parts : List Part) (courses : List (Course A)) (part : Part) (gathered : List Part) (found : Verdict) (whole : Judged) (added evicted : Sum)
    → count < length parts → part ≡ get_or parts count part → gathered ≡ parts_at count courses → found ≡ verdict_of verifiers part.epoch gathered
    → whole ≡ behind count (judged_from verifiers count (drop count parts) courses) → found ≡ Unbalanced added evicted
    → record { count = count; unbalanced = Some (record { epoch = part.epoch; added = added; evicted = evicted }) } ≡ whole
judge_unbalanced verifiers count parts courses part gathered found whole added evicted within is came by so_far unbalanced =
    let none : count ≡ count + 0 = omega arith in
    ap (ending (Some (record { epoch = part.epoch; added = added; evicted = evicted }))) none
    ∙ sym (judge_more verifiers count parts courses part gathered found (Unbalanced added evicted) whole within is came by so_far unbalanced)

pub judge_missing : {A : Type 0} (verifiers count : ℕ) (parts : List Part) (courses : List (Course A)) (part : Part) (gathered : List Part) (found : Verdict) (whole : Judged) (verifier : ℕ)
    → count < length parts → part ≡ get_or parts count part → gathered ≡ parts_at count courses → found ≡ verdict_of verifiers part.epoch gathered
    → whole ≡ behind count (judged_from verifiers count (drop count parts) courses) → found ≡ Missing verifier
    → record { count = count; unbalanced = None } ≡ whole
judge_missing verifiers count parts courses part gathered found whole verifier within is came by so_far missing =
    let none : count ≡ count + 0 = omega arith in
    ap (ending None) none ∙ sym (judge_more verifiers count parts courses part gathered found (Missing verifier) whole within is came by so_far missing)

-- or behind the last
pub judge_all : {A : Type 0} (verifiers count : ℕ) (parts : List Part) (courses : List (Course A)) (whole : Judged) → length parts ≤ count → count ≤ length parts
    → whole ≡ behind count (judged_from verifiers count (drop count parts) courses) → record { count = length parts; unbalanced = None } ≡ whole
judge_all verifiers count parts courses whole none within so_far =
    let all : length parts ≡ count + 0 = omega arith in
    ap (ending None) all ∙ sym (so_far ∙ ap (λ (left : List Part). behind count (judged_from verifiers count left courses)) (drop_all count parts none))
