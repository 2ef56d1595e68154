use Rattle.std.proofs.Common.{refl}
use Rattle.run_tests.proofs.SureLemmas.{no_read_fault, no_write_fault, no_vault_fault, no_counter_fault}
use Rattle.run_tests.proofs.sure_objects.run_surely.Goals as goal

pub returns-clause-no_read_fault : goal.returns-clause-no_read_fault
returns-clause-no_read_fault g c =
    no_read_fault _ c.fastver.result _ _ _ _ c.fastver.ensures.asked c.fastver.ensures.answers _ refl refl refl

pub returns-clause-no_write_fault : goal.returns-clause-no_write_fault
returns-clause-no_write_fault g c =
    no_write_fault _ c.fastver.result _ _ _ _ c.fastver.ensures.asked c.fastver.ensures.answers _ refl refl refl

pub returns-clause-no_vault_fault : goal.returns-clause-no_vault_fault
returns-clause-no_vault_fault g c =
    no_vault_fault _ c.fastver.result _ _ _ _ c.fastver.ensures.asked c.fastver.ensures.answers _ refl refl refl

pub returns-clause-no_counter_fault : goal.returns-clause-no_counter_fault
returns-clause-no_counter_fault g c =
    no_counter_fault _ c.fastver.result _ _ _ _ c.fastver.ensures.asked c.fastver.ensures.answers _ refl refl refl
