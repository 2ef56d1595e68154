-- What the table of rules says of words that ask for nothing, and which statuses are of an acceptance.
use Rattle.std.proofs.Common.{◌≡◌, ◌⊎◌, Option, Some, None, refl, subst, inl, inr}
use Rattle.program_words.specs.declared.words.Asked.{Asked}
use Rattle.program_words.specs.declared.words.Asked.TheVariants.{Check, Seal, Audit, Run, Gen, Accept, Follow, Upgrade, Resume, Sign}
use Rattle.report_text.specs.declared.status.Status.{Status}
use Rattle.report_text.specs.declared.status.Status.TheVariants as statuses
use Rattle.fastver_top.specs.Accepting.{IsAcceptStatus, IsAnswered}
use Rattle.fastver_top.specs.Rules.{CanEndWith, rules_for}

-- whatever is asked, the words aren't refused
not_usage : (asked : Asked) → CanEndWith (rules_for (Some asked)) statuses.Usage → ⊥
not_usage (Check check) can = can
not_usage (Seal seal) can = can
not_usage (Audit key) can = can
not_usage (Run run) can = can
not_usage (Gen load) can = can
not_usage (Accept key) can = can
not_usage (Follow key) can = can
not_usage (Upgrade key) can = can
not_usage (Resume key) can = can
not_usage (Sign sign) can = can

-- so words that are refused ask for nothing
pub usage-unasked : (asked : Option Asked) (status : Status) → CanEndWith (rules_for asked) status → status ≡ statuses.Usage → asked ≡ None
usage-unasked None status can is = refl
usage-unasked (Some asked) status can is = absurd (not_usage asked (subst (CanEndWith (rules_for (Some asked))) is can))

-- words that ask for nothing are refused, but for want of memory
pub unasked-refused : (status : Status) → CanEndWith (rules_for None) status → status ≡ statuses.Usage ⊎ status ≡ statuses.Memory
unasked-refused (statuses.Done epochs) can = absurd can
unasked-refused statuses.Usage can = inl refl
unasked-refused statuses.Memory can = inr refl
unasked-refused statuses.ReadFault can = absurd can
unasked-refused statuses.WriteFault can = absurd can
unasked-refused statuses.VaultFault can = absurd can
unasked-refused (statuses.BadScript line cause) can = absurd can
unasked-refused (statuses.BadBundle offset) can = absurd can
unasked-refused (statuses.Refused verifier index refusal) can = absurd can
unasked-refused (statuses.Unbalanced epoch added evicted) can = absurd can
unasked-refused (statuses.ClockEnd worker at) can = absurd can
unasked-refused statuses.NotTagged can = absurd can
unasked-refused statuses.NotCertified can = absurd can
unasked-refused statuses.Exhibit can = absurd can
unasked-refused (statuses.InputLimit taken) can = absurd can
unasked-refused statuses.BadSeal can = absurd can
unasked-refused (statuses.Stale sealed device) can = absurd can
unasked-refused statuses.CounterFault can = absurd can

-- what answers all that was read is a status of an acceptance
pub answered-accept : (status : Status) → IsAnswered status → IsAcceptStatus status
answered-accept (statuses.Done epochs) can = tt
answered-accept statuses.Usage can = absurd can
answered-accept statuses.Memory can = absurd can
answered-accept statuses.ReadFault can = absurd can
answered-accept statuses.WriteFault can = absurd can
answered-accept statuses.VaultFault can = absurd can
answered-accept (statuses.BadScript line cause) can = tt
answered-accept (statuses.BadBundle offset) can = absurd can
answered-accept (statuses.Refused verifier index refusal) can = absurd can
answered-accept (statuses.Unbalanced epoch added evicted) can = absurd can
answered-accept (statuses.ClockEnd worker at) can = absurd can
answered-accept statuses.NotTagged can = tt
answered-accept statuses.NotCertified can = tt
answered-accept statuses.Exhibit can = absurd can
answered-accept (statuses.InputLimit taken) can = absurd can
answered-accept statuses.BadSeal can = absurd can
answered-accept (statuses.Stale sealed device) can = absurd can
answered-accept statuses.CounterFault can = absurd can

-- what is said of words that are refused
pub ruleset refusals = (usage-unasked, unasked-refused)
