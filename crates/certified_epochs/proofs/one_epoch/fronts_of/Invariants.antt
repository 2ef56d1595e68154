use Rattle.std.proofs.Common.{◌≡◌, map, take}
use Rattle.verifier_run.specs.Taken.{taken_by}
use Rattle.certified_epochs.proofs.one_epoch.fronts_of.Given as goal

-- the fronts of the runs so far
abbrev pub invariant-loop-fed : goal.invariant-loop-fed
invariant-loop-fed l = l.fronts.items ≡ map (λ fed. taken_by l.epoch fed.run.course) (take l.fed-index l.runs)
