-- A report ends with `done` just where no log is refused, each is whole, nothing is bad, and all sealed epochs are even.
use Rattle.std.proofs.Common.{◌≡◌, ℕ, suc, ◌+◌, nat_lt, Bool, true, false, List, [], ◌∷◌, length, Option, Some, None, if◌then◌else◌, refl, ◌∙◌, ap, arith}
use Rattle.std.specs.Option.{option_map, option_or}
use Rattle.lamport_clocks.specs.declared.header.Header.{Header}
use Rattle.record_text.specs.declared.refusal.Refusal.{Refusal}
use Rattle.log_codec.specs.Log.{LogEnd, whole, faulty, Log}
use Rattle.merkle_records.specs.Scheme.{Scheme}
use Rattle.report_text.specs.declared.ending.BundleEnd.{BundleEnd}
use Rattle.report_text.specs.declared.ending.BundleEnd.TheVariants.{Done, BadBundle, Refused, Unbalanced}
use Rattle.report_text.specs.Ending.{status_of}
use Rattle.report_text.specs.Status.{status_number}
use Rattle.verifier_run.specs.LogCourse.{refusal_by}
use Rattle.soundness.specs.History.{Event, log_events, log_refusal}
use Rattle.soundness.specs.Certified.{order_of, sealed_by_all, certified_count}
use Rattle.bundle_report.specs.BundleReport.{refused_in, refused_end, refused_among, done_or_bad, end_or, unbalanced_end, end_of}

-- no command of a log is refused, and it is whole; so of all, the first of which is of the verifier of this number
abbrev pub IsAccepted : Scheme → Header → ℕ → Log → Type 0
IsAccepted scheme header number log = (log_refusal scheme header number log.commands ≡ None) × (log.end ≡ whole)

abbrev pub AreAllAccepted : Scheme → Header → ℕ → List Log → Type 0
AreAllAccepted scheme header number [] = Unit {0}
AreAllAccepted scheme header number (log ∷ logs) = IsAccepted scheme header number log × AreAllAccepted scheme header (suc number) logs

-- ---- the refused log

by_refusal : (refusal : Option Refusal) (end : LogEnd) → refusal_by refusal end ≡ None → (refusal ≡ None) × (end ≡ whole)
by_refusal None whole is = (refl, refl)
by_refusal None (faulty fault) is = absurd (cc)
by_refusal (Some refusal) end is = absurd (cc)

no_refusal : (refusal : Option Refusal) (end : LogEnd) → refusal ≡ None → end ≡ whole → refusal_by refusal end ≡ None
no_refusal refusal end none is = ap (λ (r : Option Refusal). refusal_by r end) none ∙ ap (refusal_by None) is

unmapped : {A B : Type 0} (f : A → B) (o : Option A) → option_map f o ≡ None → o ≡ None
unmapped f None is = refl
unmapped f (Some a) is = absurd (cc)

neither : {A : Type 0} (one other : Option A) → option_or one other ≡ None → (one ≡ None) × (other ≡ None)
neither None other is = (refl, is)
neither (Some a) other is = absurd (cc)

module _ (scheme : Scheme) (header : Header) where
  pub all_accepted : (number : ℕ) (logs : List Log) → refused_among scheme header number logs ≡ None → AreAllAccepted scheme header number logs
  all_accepted number [] none = tt
  all_accepted number (log ∷ logs) none =
      let both = neither (option_map (refused_end number) (refused_in scheme header number log)) (refused_among scheme header (suc number) logs) none in (
        by_refusal (log_refusal scheme header number log.commands) log.end
            (unmapped (λ refusal. (length (log_events scheme header number log.commands), refusal)) _ (unmapped (refused_end number) _ both.0)),
        all_accepted (suc number) logs both.1,
      )

  pub none_refused : (number : ℕ) (logs : List Log) → AreAllAccepted scheme header number logs → refused_among scheme header number logs ≡ None
  none_refused number [] all = refl
  none_refused number (log ∷ logs) all =
      ap (λ (o : Option Refusal). option_or (option_map (refused_end number) (option_map (λ refusal. (length (log_events scheme header number log.commands), refusal)) o))
      (refused_among scheme header (suc number) logs))
      (no_refusal (log_refusal scheme header number log.commands) log.end all.0.0 all.0.1)
      ∙ none_refused (suc number) logs all.1

-- what is found refused is told so
told_refused : (number : ℕ) (refused : ℕ × Refusal) (end : BundleEnd) → Some (refused_end number refused) ≡ Some end → status_number (status_of end) ≡ 8
told_refused number refused (Refused verifier index refusal) is = refl
told_refused number refused (Done count) is = absurd (cc)
told_refused number refused (BadBundle offset) is = absurd (cc)
told_refused number refused (Unbalanced epoch added evicted) is = absurd (cc)

first_told : (number : ℕ) (found : Option (ℕ × Refusal)) (rest : Option BundleEnd) (end : BundleEnd)
    → option_or (option_map (refused_end number) found) rest ≡ Some end → (rest ≡ Some end → status_number (status_of end) ≡ 8) → status_number (status_of end) ≡ 8
first_told number None rest end is later = later is
first_told number (Some refused) rest end is later = told_refused number refused end is

refused_told : (scheme : Scheme) (header : Header) (number : ℕ) (logs : List Log) (end : BundleEnd) → refused_among scheme header number logs ≡ Some end
    → status_number (status_of end) ≡ 8
refused_told scheme header number [] end is = absurd (cc)
refused_told scheme header number (log ∷ logs) end is =
    first_told number (refused_in scheme header number log) (refused_among scheme header (suc number) logs) end is
    (λ later. refused_told scheme header (suc number) logs end later)

-- ---- how the report ends

-- it ends with `done` where all this holds
pub record EndsWell (scheme : Scheme) (header : Header) (logs : List Log) (histories : List (List Event)) (bad : Option ℕ) : Type 0 where
  pub even : nat_lt (certified_count scheme header.first histories) (sealed_by_all histories) ≡ false
  pub accepted : refused_among scheme header 0 logs ≡ None
  pub good : bad ≡ None

module _ (scheme : Scheme) (header : Header) (logs : List Log) (histories : List (List Event)) (bad : Option ℕ) where
  well_by : (uneven : Bool) (refused : Option BundleEnd) (bad' : Option ℕ)
      → nat_lt (certified_count scheme header.first histories) (sealed_by_all histories) ≡ uneven
      → refused_among scheme header 0 logs ≡ refused → bad ≡ bad'
      → status_number (status_of (if uneven then unbalanced_end scheme (order_of histories) (header.first + certified_count scheme header.first histories)
      else end_or refused (done_or_bad (certified_count scheme header.first histories) bad'))) ≡ 0
      → EndsWell scheme header logs histories bad
  well_by true refused bad' uneven_is refused_is bad_is done = absurd (omega (arith, done))
  well_by false (Some end) bad' uneven_is refused_is bad_is done = absurd (omega (arith, done, refused_told scheme header 0 logs end refused_is))
  well_by false None (Some offset) uneven_is refused_is bad_is done = absurd (omega (arith, done))
  well_by false None None uneven_is refused_is bad_is done = record { even = uneven_is; accepted = refused_is; good = bad_is }

  -- a report that ends with `done`
  pub ends_well : status_number (status_of (end_of scheme header logs histories bad)) ≡ 0 → EndsWell scheme header logs histories bad
  ends_well done = well_by _ _ _ refl refl refl done

  pub done_well : EndsWell scheme header logs histories bad → end_of scheme header logs histories bad ≡ Done (certified_count scheme header.first histories)
  done_well well =
      ap (λ (uneven : Bool). if uneven then unbalanced_end scheme (order_of histories) (header.first + certified_count scheme header.first histories)
      else end_or (refused_among scheme header 0 logs) (done_or_bad (certified_count scheme header.first histories) bad)) well.even
      ∙ ap (λ (refused : Option BundleEnd). end_or refused (done_or_bad (certified_count scheme header.first histories) bad)) well.accepted
      ∙ ap (done_or_bad (certified_count scheme header.first histories)) well.good
