use Rattle.std.proofs.Common.{List, ◌∷◌, subst, ◌∙◌}
use Rattle.host_shard.specs.Records.{values_of, touches_of}
use Rattle.protection_moves.specs.declared.saving.SavedRecord.{SavedRecord}
use Rattle.protection_moves.specs.Saving.{CanRestore}
use Rattle.protection_moves.proofs.SavingLemmas.{first_there, first_quiet, rest_can}
use Rattle.protection_moves.proofs.saving.+restore_each.Goals as goal

pub returns-in-Some : goal.returns-in-Some
returns-in-Some t c = record {
  restored = λ was can.
      let first = c.in-Some.first.now in
      let rest = c.in-Some.rest.now in
      let now = values_of c.args.records.now in
      let touches = touches_of c.args.records.now in
      let all : CanRestore was touches (first ∷ rest) now = subst (λ (saved : List SavedRecord). CanRestore was touches saved now) c.in-Some.ensures.cases.0 can in
      let quiet = c.restore_one.ensures.touches (first_quiet was now touches first rest all) in
      let done = c.restore_each.ensures.restored was
      (rest_can was now (values_of c.restore_one.new.records) touches (touches_of c.restore_one.new.records) first rest all
      (c.restore_one.ensures.values (first_there was now touches first rest all)) quiet) in
      (done.0, done.1 ∙ quiet);
}
