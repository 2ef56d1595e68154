-- What was asked is what the words ask for, and the headline of whatever a source has.
use Rattle.std.proofs.Common.{◌≡◌, ℕ, List, Option, Some, None, IfSome, refl, sym, ◌∙◌, ap, subst, inl, inr, arith}
use Rattle.fv_outside.specs.Consumed.{TookAtMost}
use Rattle.record_hash.specs.ShaDigests.{sha_under}
use Rattle.program_words.specs.declared.words.Asked.TheVariants.{Check, Seal, Audit, Run, Gen, Accept, Follow, Upgrade, Resume, Sign}
use Rattle.report_text.specs.declared.status.Status.TheVariants.{Memory}
use Rattle.report_text.proofs.AnsweringLaws.{answers-none}
use Rattle.bundle_frames.specs.Extent.{reading_end}
use Rattle.bundle_report.specs.Answer.{sha_check_answer}
use Rattle.program_words.specs.declared.words.Asked.{Asked}
use Rattle.bundle_report.proofs.HeadlineLaws.{sha_headline, of_left}
use Rattle.bundle_upgrade.specs.Answer.{sha_upgrade_answer}
use Rattle.follower.specs.Answer.{sha_follow_answer}
use Rattle.fastver_top.specs.Auditing.{sha_audit_answer}
use Rattle.fastver_top.specs.Accepting.{sha_accept_answer}
use Rattle.fastver_top.specs.Signing.{sha_sign_answer}
use Rattle.fastver_top.specs.Answers.{asked_key, AnswersFor, bundle_for, IsSoundFor}
use Rattle.fv_outside.specs.declared.failure.Failure.TheVariants as failures
use Rattle.fastver_top.proofs.RunLemmas.{runs-memory}
use Rattle.fastver_top.proofs.LoadLemmas.{gens-nothing}
use Rattle.fastver_top.proofs.WholeLemmas.{answers-unread}

abbrev inside : Asked → Option Asked → Asked
inside other None = other
inside other (Some asked) = asked

-- the words ask for one thing: what was found of them is what they ask for
pub asked_is : (o : Option Asked) (asked own found : Asked) → o ≡ Some asked → o ≡ Some found → found ≡ own → own ≡ asked
asked_is o asked own found known was is = sym is ∙ ap (inside found) (sym was ∙ known)

-- it is an upgrade
abbrev pub IsUpgrade : Asked → Type 0
IsUpgrade (Check check) = ⊥
IsUpgrade (Seal seal) = ⊥
IsUpgrade (Audit key) = ⊥
IsUpgrade (Run run) = ⊥
IsUpgrade (Gen load) = ⊥
IsUpgrade (Accept key) = ⊥
IsUpgrade (Follow key) = ⊥
IsUpgrade (Upgrade key) = Unit {0}
IsUpgrade (Resume key) = ⊥
IsUpgrade (Sign sign) = ⊥

-- so where they ask for an upgrade, what was found of them is one
pub upgrade_alone : (o : Option Asked) (key : List ℕ) (own found : Asked) → o ≡ Some (Upgrade key) → o ≡ Some found → found ≡ own → IsUpgrade own
upgrade_alone o key own found known was is = subst IsUpgrade (sym (asked_is o (Upgrade key) own found known was is)) tt

-- the headline holds of the bundle that it is about, if it is told, however the program ends
pub left_is_sound : (asked : Asked) (left held : Option (List ℕ)) → IfSome (bundle_for asked left held) (IsSoundFor asked)
left_is_sound asked left held = of_left (IsSoundFor asked) (bundle_for asked left held) (sha_headline (asked_key asked))

took_none : (most : ℕ) (left : Option (List ℕ)) → TookAtMost most left left
took_none most None = tt
took_none most (Some bytes) = omega arith

-- memory was wanting before anything was read
pub answers-nothing : (asked : Asked) (most : ℕ) (left held vault : Option (List ℕ)) (name : Option (Option (List ℕ))) (number : Option ℕ)
    (r r' w w' v v' k k' : ℕ)
    → AnswersFor asked most Memory (record { left = left; left_after = left; faults = r; faults_after = r' })
    (record { held = held; held_after = held; faults = w; faults_after = w' })
    (record { held = vault; held_after = vault; name = name; name_after = name; faults = v; faults_after = v' })
    (record { number = number; number_after = number; faults = k; faults_after = k' })
answers-nothing (Check check) most left held vault name number r r' w w' v v' k k' =
    answers-none (sha_check_answer check.receipts check.key) reading_end most left held r r' w w'
answers-nothing (Seal seal) most left held vault name number r r' w w' v v' k k' = inr (record { memory = refl; unread = refl; unwritten = refl; unnamed = refl; unkept = refl; number = refl })
answers-nothing (Audit key) most left held vault name number r r' w w' v v' k k' = answers-none (sha_audit_answer key) reading_end most left held r r' w w'
answers-nothing (Run run) most left held vault name number r r' w w' v v' k k' =
    runs-memory (sha_under run.key) run most _ _ _ (took_none most left) (inl (record { unnamed = refl; vault = refl; out = refl }))
    (inr (record { unnamed = refl; vault = refl; out = refl }))
answers-nothing (Gen load) most left held vault name number r r' w w' v v' k k' =
    gens-nothing (sha_under load.key) load _ _ (record { unnamed = refl; vault = refl; out = refl })
answers-nothing (Follow key) most left held vault name number r r' w w' v v' k k' = answers-none (sha_follow_answer key) reading_end most left held r r' w w'
answers-nothing (Upgrade key) most left held vault name number r r' w w' v v' k k' = answers-none (sha_upgrade_answer key) reading_end most left held r r' w w'
answers-nothing (Resume key) most left held vault name number r r' w w' v v' k k' = inr (record { memory = refl; unread = refl; unwritten = refl; unnamed = refl; unkept = refl; number = refl })
answers-nothing (Accept key) most left held vault name number r r' w w' v v' k k' =
    answers-unread (sha_accept_answer key) most
    (record { left = left; left_after = left; faults = r; faults_after = r' }) (record { held = held; held_after = held; faults = w; faults_after = w' })
    failures.Memory (λ is. absurd (cc)) (λ is. absurd (cc)) refl (λ is. absurd (cc)) (λ is. absurd (cc)) (λ _. took_none most left)
answers-nothing (Sign sign) most left held vault name number r r' w w' v v' k k' =
    answers-unread (sha_sign_answer sign) most
    (record { left = left; left_after = left; faults = r; faults_after = r' }) (record { held = held; held_after = held; faults = w; faults_after = w' })
    failures.Memory (λ is. absurd (cc)) (λ is. absurd (cc)) refl (λ is. absurd (cc)) (λ is. absurd (cc)) (λ _. took_none most left)
