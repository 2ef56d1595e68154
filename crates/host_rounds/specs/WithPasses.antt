-- The two halves of what a verifier has with its passes.
use Rattle.std.specs.Prelude.{List}
use Rattle.epoch_book.specs.declared.pass.Pass.{Pass}
use Rattle.certified_epochs.specs.declared.fed_run.FedRun.{FedRun}
use Rattle.host_rounds.specs.declared.with_passes.WithPasses.{WithPasses}

abbrev pub run_in : WithPasses → FedRun
run_in with_passes = with_passes.run

abbrev pub passes_in : WithPasses → List Pass
passes_in with_passes = with_passes.passes.items
