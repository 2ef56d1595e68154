use Rattle.merkle_records.specs.Scheme.{scheme_of}
use Rattle.soundness.proofs.EpochLaws.{within_by_epochs, certified_by_epochs}
use Rattle.soundness.proofs.laws.operations_come_epoch_by_epoch.Goals as goal

pub returns : goal.returns
returns c = record {
  within = within_by_epochs;
  certified = λ functions header. certified_by_epochs (scheme_of functions header) header;
}
