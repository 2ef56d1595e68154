use Rattle.std.proofs.Common.{ap, ◌∙◌}
use Rattle.std.specs.Prelude.{ℕ, Some}
use Rattle.record_hash.specs.ShaDigests.{sha_under}
use Rattle.fastver_top.proofs.ResumeLemmas.{begun, ended-begun, begins, numbered, resume-answered, told-together}
use Rattle.fastver_top.proofs.laws.a_sealed_check_goes_on.Goals as goal

pub returns : goal.returns
returns c = record {
  together = λ seal sealed text more number epochs most next_most result reading writing keeping counting next_reading next_writing next_keeping next_counting seals placed
      resumes follows end.
      told-together (sha_under seal.key) seal.path sealed text more number epochs most reading writing keeping counting
      (begun epochs reading writing keeping counting seals) placed next_most result next_reading next_writing next_counting
      (ended-begun result next_reading next_writing next_keeping next_counting end resumes) follows end;
  only_memory = λ seal sealed text more number epochs most next_most result reading writing keeping counting next_reading next_writing next_keeping next_counting seals
      placed can resumes follows fine had.
      let did = begun epochs reading writing keeping counting seals in
      resume-answered next_most _ next_reading next_writing next_keeping next_counting fine had (sha_under seal.key) sealed _ more
      (begins (sha_under seal.key) seal.path sealed text more number epochs most reading writing keeping counting did placed)
      (follows.number_is ∙ ap Some (numbered (sha_under seal.key) seal.path sealed text more number epochs most reading writing keeping counting did placed))
      result can resumes;
}
