use Rattle.record_hash.specs.ShaDigests.{sha_under}
use Rattle.bundle_report.specs.Answer.{sha_check_answer}
use Rattle.bundle_upgrade.specs.Answer.{sha_upgrade_answer}
use Rattle.follower.specs.Answer.{sha_follow_answer}
use Rattle.fastver_top.specs.Auditing.{sha_audit_answer}
use Rattle.fastver_top.specs.Accepting.{sha_accept_answer}
use Rattle.fastver_top.specs.Signing.{sha_sign_answer}
use Rattle.fastver_top.proofs.ResumeLemmas.{seal-answered, resume-answered, refusal-answered}
use Rattle.fastver_top.proofs.CompleteLemmas.{check-answered, audit-answered, accept-answered, sign-answered, run-answered, gen-answered}
use Rattle.fastver_top.proofs.laws.only_memory_may_be_wanting.Goals as goal

pub returns : goal.returns
returns c = record {
  check = λ check most result reading writing keeping counting bytes can answers fine had.
      check-answered most bytes reading writing keeping counting fine had (sha_check_answer check.receipts check.key) result can answers;
  seal = λ seal most result reading writing keeping counting bytes can answers fine had.
      seal-answered most bytes reading writing keeping counting fine had (sha_under seal.key) seal.path result can answers;
  resume = λ key sealed more seal most result reading writing keeping counting bytes can answers fine had begins current.
      resume-answered most bytes reading writing keeping counting fine had (sha_under key) sealed seal more begins current result can answers;
  refusal = λ key most number result due reading writing keeping counting bytes can answers fine had told refuses.
      refusal-answered most bytes reading writing keeping counting fine had (sha_under key) number told result due can answers refuses;
  audit = λ key most result reading writing keeping counting bytes can answers fine had.
      audit-answered most bytes reading writing keeping counting fine had (sha_audit_answer key) result can answers;
  run = λ run most result reading writing keeping counting bytes script can answers fine had good going.
      run-answered (sha_under run.key) run most bytes script reading writing keeping counting fine had good going result can answers;
  load = λ load most result reading writing keeping counting can answers fine going.
      gen-answered (sha_under load.key) load reading writing keeping counting fine going result can answers;
  accept = λ key most result reading writing keeping counting bytes can answers fine had.
      accept-answered most bytes reading writing keeping counting fine had (sha_accept_answer key) result can answers;
  follow = λ key most result reading writing keeping counting bytes can answers fine had.
      check-answered most bytes reading writing keeping counting fine had (sha_follow_answer key) result can answers;
  upgrade = λ key most result reading writing keeping counting bytes can answers fine had.
      check-answered most bytes reading writing keeping counting fine had (sha_upgrade_answer key) result can answers;
  sign = λ sign most result reading writing keeping counting bytes can answers fine had.
      sign-answered most bytes reading writing keeping counting fine had (sha_sign_answer sign) result can answers;
}
