-- Where no count of faults can rise, the program comes to no fault, whatever it is asked.
use Rattle.std.proofs.Common.{◌≡◌, ℕ, ◌<◌, ◌⊎◌, List, [], ◌∷◌, Option, None, Some, inl, inr, refl, sym, subst, ⊎_elim, arith}
use Rattle.std.specs.Prelude.{◌≢◌, ◌^◌, ◌-◌}
use Rattle.fv_outside.specs.Faults.{Rose}
use Rattle.program_words.specs.declared.words.Asked.{Asked}
use Rattle.program_words.specs.declared.words.Asked.TheVariants.{Check, Seal, Audit, Run, Gen, Accept, Follow, Upgrade, Resume, Sign}
use Rattle.report_text.specs.declared.status.Status.{Status}
use Rattle.report_text.specs.declared.status.Status.TheVariants as statuses
use Rattle.report_text.specs.Kinds.{StatusKind, IsOneOf}
use Rattle.report_text.specs.Kinds as kinds
use Rattle.report_text.specs.Answer.{Reading, Writing}
use Rattle.check_core.specs.Sealing.{Keeping, Counting}
use Rattle.fastver_top.specs.Answers.{AnswersFor}
use Rattle.fastver_top.specs.Rules.{CanEndWith, IsStatusOf, rules_for}

-- a count that stays 0 didn't rise
still : (before now : ℕ) → before ≡ 0 → now ≡ 0 → Rose before now → ⊥
still before now was is = ⊎_elim (λ (more : before < now). omega (arith, more, was, is)) (λ (last : now ≡ 2 ^ 64 - 1). omega (arith, last, is))

-- a status that is equal to one of this kind is of it
apart : (kind : StatusKind) (status other : Status) → IsOneOf (kind ∷ []) status → status ≡ other → IsOneOf (kind ∷ []) other
apart kind status other is same = subst (IsOneOf (kind ∷ [])) same is

-- a read fault comes only where the source's count rose
read : (asked : Asked) (most : ℕ) (reading : Reading) (writing : Writing) (keeping : Keeping) (counting : Counting)
    → IsStatusOf asked statuses.ReadFault → AnswersFor asked most statuses.ReadFault reading writing keeping counting → Rose reading.faults reading.faults_after
read (Check check) most reading writing keeping counting of answers = answers.read_fault refl
read (Seal seal) most reading writing keeping counting of (inl (inl into)) = into.1.answers.read_fault refl
read (Seal seal) most reading writing keeping counting of (inl (inr unnamed)) = absurd (apart kinds.read_fault statuses.ReadFault statuses.VaultFault tt unnamed.status)
read (Seal seal) most reading writing keeping counting of (inr undone) = absurd (apart kinds.read_fault statuses.ReadFault statuses.Memory tt undone.memory)
read (Audit key) most reading writing keeping counting of answers = answers.read_fault refl
read (Run run) most reading writing keeping counting of answers = answers.read_fault refl
read (Gen load) most reading writing keeping counting of answers = absurd of
read (Accept key) most reading writing keeping counting of answers = answers.read_fault refl
read (Follow key) most reading writing keeping counting of answers = answers.read_fault refl
read (Upgrade key) most reading writing keeping counting of answers = answers.read_fault refl
read (Resume key) most reading writing keeping counting of (inl resumes) = resumes.read_fault refl
read (Resume key) most reading writing keeping counting of (inr undone) = absurd (apart kinds.read_fault statuses.ReadFault statuses.Memory tt undone.memory)
read (Sign sign) most reading writing keeping counting of answers = answers.read_fault refl

-- a write fault only where the sink's did
write : (asked : Asked) (most : ℕ) (reading : Reading) (writing : Writing) (keeping : Keeping) (counting : Counting)
    → IsStatusOf asked statuses.WriteFault → AnswersFor asked most statuses.WriteFault reading writing keeping counting → Rose writing.faults writing.faults_after
write (Check check) most reading writing keeping counting of answers = answers.write_fault refl
write (Seal seal) most reading writing keeping counting of (inl (inl into)) = into.1.answers.write_fault refl
write (Seal seal) most reading writing keeping counting of (inl (inr unnamed)) = absurd (apart kinds.write_fault statuses.WriteFault statuses.VaultFault tt unnamed.status)
write (Seal seal) most reading writing keeping counting of (inr undone) = absurd (apart kinds.write_fault statuses.WriteFault statuses.Memory tt undone.memory)
write (Audit key) most reading writing keeping counting of answers = answers.write_fault refl
write (Run run) most reading writing keeping counting of answers = answers.write_fault refl
write (Gen load) most reading writing keeping counting of answers = answers.write_fault refl
write (Accept key) most reading writing keeping counting of answers = answers.write_fault refl
write (Follow key) most reading writing keeping counting of answers = answers.write_fault refl
write (Upgrade key) most reading writing keeping counting of answers = answers.write_fault refl
write (Resume key) most reading writing keeping counting of (inl resumes) = resumes.write_rose refl
write (Resume key) most reading writing keeping counting of (inr undone) = absurd (apart kinds.write_fault statuses.WriteFault statuses.Memory tt undone.memory)
write (Sign sign) most reading writing keeping counting of answers = answers.write_fault refl

-- a vault fault only where the vault's did
vault : (asked : Asked) (most : ℕ) (reading : Reading) (writing : Writing) (keeping : Keeping) (counting : Counting)
    → IsStatusOf asked statuses.VaultFault → AnswersFor asked most statuses.VaultFault reading writing keeping counting → Rose keeping.faults keeping.faults_after
vault (Check check) most reading writing keeping counting of answers = absurd of
vault (Seal seal) most reading writing keeping counting of (inl (inl into)) = into.1.vault_rose refl
vault (Seal seal) most reading writing keeping counting of (inl (inr unnamed)) = unnamed.rose
vault (Seal seal) most reading writing keeping counting of (inr undone) = absurd (apart kinds.vault_fault statuses.VaultFault statuses.Memory tt undone.memory)
vault (Audit key) most reading writing keeping counting of answers = absurd of
vault (Run run) most reading writing keeping counting of answers = answers.vault_fault refl
vault (Gen load) most reading writing keeping counting of answers = answers.vault_fault refl
vault (Accept key) most reading writing keeping counting of answers = absurd of
vault (Follow key) most reading writing keeping counting of answers = absurd of
vault (Upgrade key) most reading writing keeping counting of answers = absurd of
vault (Resume key) most reading writing keeping counting of answers = absurd of
vault (Sign sign) most reading writing keeping counting of answers = absurd of

-- a counter fault only where the counter's did
counter : (asked : Asked) (most : ℕ) (reading : Reading) (writing : Writing) (keeping : Keeping) (counting : Counting)
    → IsStatusOf asked statuses.CounterFault → AnswersFor asked most statuses.CounterFault reading writing keeping counting → Rose counting.faults counting.faults_after
counter (Check check) most reading writing keeping counting of answers = absurd of
counter (Seal seal) most reading writing keeping counting of (inl (inl into)) = into.1.counter_rose refl
counter (Seal seal) most reading writing keeping counting of (inl (inr unnamed)) = absurd (apart kinds.counter_fault statuses.CounterFault statuses.VaultFault tt unnamed.status)
counter (Seal seal) most reading writing keeping counting of (inr undone) = absurd (apart kinds.counter_fault statuses.CounterFault statuses.Memory tt undone.memory)
counter (Audit key) most reading writing keeping counting of answers = absurd of
counter (Run run) most reading writing keeping counting of answers = absurd of
counter (Gen load) most reading writing keeping counting of answers = absurd of
counter (Accept key) most reading writing keeping counting of answers = absurd of
counter (Follow key) most reading writing keeping counting of answers = absurd of
counter (Upgrade key) most reading writing keeping counting of answers = absurd of
counter (Resume key) most reading writing keeping counting of (inl resumes) = resumes.counter_rose refl
counter (Resume key) most reading writing keeping counting of (inr undone) = absurd (apart kinds.counter_fault statuses.CounterFault statuses.Memory tt undone.memory)
counter (Sign sign) most reading writing keeping counting of answers = absurd of

module _ (o : Option Asked) (status : Status) (reading : Reading) (writing : Writing) (keeping : Keeping) (counting : Counting)
    (can : CanEndWith (rules_for o) status)
    (answers : (asked : Asked) → o ≡ Some asked → AnswersFor asked (2 ^ 40) status reading writing keeping counting) where
  can_fault : (found : Option Asked) (fault : Status) → o ≡ found → status ≡ fault → CanEndWith (rules_for found) fault
  can_fault found fault known is =
      subst (CanEndWith (rules_for found)) is (subst (λ (own : Option Asked). CanEndWith (rules_for own) status) known can)

  answers_fault : (asked : Asked) (fault : Status) → o ≡ Some asked → status ≡ fault → AnswersFor asked (2 ^ 40) fault reading writing keeping counting
  answers_fault asked fault known is = subst (λ (s : Status). AnswersFor asked (2 ^ 40) s reading writing keeping counting) is (answers asked known)

  -- by what the words ask for, a source whose count stays 0 is not blamed
  pub no_read_fault : (found : Option Asked) → o ≡ found → reading.faults ≡ 0 → reading.faults_after ≡ 0 → status ≡ statuses.ReadFault → ⊥
  no_read_fault None known was now is = can_fault None statuses.ReadFault known is
  no_read_fault (Some asked) known was now is =
      still reading.faults reading.faults_after was now
      (read asked (2 ^ 40) reading writing keeping counting (can_fault (Some asked) statuses.ReadFault known is) (answers_fault asked statuses.ReadFault known is))

  -- nor is a sink
  pub no_write_fault : (found : Option Asked) → o ≡ found → writing.faults ≡ 0 → writing.faults_after ≡ 0 → status ≡ statuses.WriteFault → ⊥
  no_write_fault None known was now is = can_fault None statuses.WriteFault known is
  no_write_fault (Some asked) known was now is =
      still writing.faults writing.faults_after was now
      (write asked (2 ^ 40) reading writing keeping counting (can_fault (Some asked) statuses.WriteFault known is) (answers_fault asked statuses.WriteFault known is))

  -- nor a vault
  pub no_vault_fault : (found : Option Asked) → o ≡ found → keeping.faults ≡ 0 → keeping.faults_after ≡ 0 → status ≡ statuses.VaultFault → ⊥
  no_vault_fault None known was now is = can_fault None statuses.VaultFault known is
  no_vault_fault (Some asked) known was now is =
      still keeping.faults keeping.faults_after was now
      (vault asked (2 ^ 40) reading writing keeping counting (can_fault (Some asked) statuses.VaultFault known is) (answers_fault asked statuses.VaultFault known is))

  -- nor a counter
  pub no_counter_fault : (found : Option Asked) → o ≡ found → counting.faults ≡ 0 → counting.faults_after ≡ 0 → status ≡ statuses.CounterFault → ⊥
  no_counter_fault None known was now is = can_fault None statuses.CounterFault known is
  no_counter_fault (Some asked) known was now is =
      still counting.faults counting.faults_after was now
      (counter asked (2 ^ 40) reading writing keeping counting (can_fault (Some asked) statuses.CounterFault known is) (answers_fault asked statuses.CounterFault known is))
