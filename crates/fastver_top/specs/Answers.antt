-- What the program answers to what it was asked.
use Rattle.std.specs.Prelude.{◌≡◌, ◌⊎◌, ℕ, List, Option, None}
use Rattle.record_hash.specs.ShaDigests.{sha_under}
use Rattle.program_words.specs.declared.words.Asked.{Asked}
use Rattle.program_words.specs.declared.words.Asked.TheVariants.{Check, Seal, Audit, Run, Gen, Accept, Follow, Upgrade, Resume, Sign}
use Rattle.report_text.specs.declared.status.Status.{Status}
use Rattle.report_text.specs.declared.status.Status.TheVariants.{Memory}
use Rattle.report_text.specs.Answer.{Reading, Writing, AnswersTo}
use Rattle.bundle_frames.specs.Extent.{reading_end}
use Rattle.bundle_report.specs.Answer.{sha_check_answer}
use Rattle.bundle_report.specs.Headline.{IsShaSound}
use Rattle.bundle_upgrade.specs.Answer.{sha_upgrade_answer}
use Rattle.follower.specs.Answer.{sha_follow_answer}
use Rattle.fastver_top.specs.Auditing.{sha_audit_answer, ExhibitCollides}
use Rattle.check_core.specs.Sealing.{Keeping, Counting, SealsTo}
use Rattle.check_core.specs.Resuming.{ResumesTo}
use Rattle.fastver_top.specs.Running.{RunsTo}
use Rattle.fastver_top.specs.Generating.{GensTo}
use Rattle.fastver_top.specs.Accepting.{sha_accept_answer, AnswersWhole}
use Rattle.fastver_top.specs.Signing.{sha_sign_answer}

-- the key that was given
abbrev pub asked_key : Asked → List ℕ
asked_key (Check check) = check.key
asked_key (Seal seal) = seal.key
asked_key (Audit key) = key
asked_key (Run run) = run.key
asked_key (Gen load) = load.key
asked_key (Accept key) = key
asked_key (Follow key) = key
asked_key (Upgrade key) = key
asked_key (Resume key) = key
asked_key (Sign sign) = sign.key

-- Memory was wanting before what was asked was begun: nothing was read or written, the vault was not named, and the counter stands.
pub record IsLeftUndone (result : Status) (reading : Reading) (writing : Writing) (keeping : Keeping) (counting : Counting) : Type 0 where
  pub memory : result ≡ Memory
  pub unread : reading.left_after ≡ reading.left
  pub unwritten : writing.held_after ≡ writing.held
  pub unnamed : keeping.name_after ≡ keeping.name
  pub unkept : keeping.held_after ≡ keeping.held
  pub number : counting.number_after ≡ counting.number

-- What the program does, by what was asked, where it reads no more than so many bytes: the text and the status that a check, an
-- audit, an acceptance, a follower, an upgrade or a signing answers to the source's bytes, how a check seals what it read and how one goes on from a
-- seal, how a run serves the bytes as a script, and how a load is served.
abbrev pub AnswersFor : Asked → ℕ → Status → Reading → Writing → Keeping → Counting → Type 0
AnswersFor (Check check) most result reading writing keeping counting =
    AnswersTo (sha_check_answer check.receipts check.key) reading_end most result reading writing
AnswersFor (Seal seal) most result reading writing keeping counting =
    SealsTo (sha_under seal.key) seal.path most result reading writing keeping counting ⊎ IsLeftUndone result reading writing keeping counting
AnswersFor (Audit key) most result reading writing keeping counting = AnswersTo (sha_audit_answer key) reading_end most result reading writing
AnswersFor (Run run) most result reading writing keeping counting = RunsTo (sha_under run.key) run most result reading writing keeping
AnswersFor (Gen load) most result reading writing keeping counting = GensTo (sha_under load.key) load result writing keeping
AnswersFor (Accept key) most result reading writing keeping counting = AnswersWhole (sha_accept_answer key) most result reading writing
AnswersFor (Follow key) most result reading writing keeping counting = AnswersTo (sha_follow_answer key) reading_end most result reading writing
AnswersFor (Upgrade key) most result reading writing keeping counting = AnswersTo (sha_upgrade_answer key) reading_end most result reading writing
AnswersFor (Resume key) most result reading writing keeping counting =
    ResumesTo (sha_under key) most result reading writing counting ⊎ IsLeftUndone result reading writing keeping counting
AnswersFor (Sign sign) most result reading writing keeping counting = AnswersWhole (sha_sign_answer sign) most result reading writing

-- the bundle that it is about: what the source has, and of a run or a load what the vault then holds; an acceptance and a signing are
-- about none, and what goes on from a seal is about one of which the source doesn't have all
abbrev pub bundle_for : Asked → Option (List ℕ) → Option (List ℕ) → Option (List ℕ)
bundle_for (Check check) left held = left
bundle_for (Seal seal) left held = left
bundle_for (Audit key) left held = left
bundle_for (Run run) left held = held
bundle_for (Gen load) left held = held
bundle_for (Accept key) left held = None
bundle_for (Follow key) left held = left
bundle_for (Upgrade key) left held = left
bundle_for (Resume key) left held = None
bundle_for (Sign sign) left held = None

-- the headline, under the key that was given
abbrev pub IsSoundFor : Asked → List ℕ → Type 0
IsSoundFor asked bytes = IsShaSound (asked_key asked) bytes

-- the exhibit of bytes is a real collision, under the key that was given
abbrev pub CollidesFor : Asked → List ℕ → Type 0
CollidesFor asked bytes = ExhibitCollides (sha_under (asked_key asked)) bytes
