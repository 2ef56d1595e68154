use Rattle.std.proofs.Common.{◌≡◌, ◌++◌, ◌-◌, map, vec_len}
use Rattle.bundle_report.specs.SoFar.{opening_runs}
use Rattle.certified_epochs.specs.Turn.{AreFed}
use Rattle.certified_epochs.proofs.opening.open_runs.Given as goal

-- the runs so far and those of the verifiers that are left are all
abbrev pub invariant-loop-number : goal.invariant-loop-number
invariant-loop-number l = record {
  len : vec_len l.runs ≡ l.number;
  fed : AreFed l.runs.items;
  runs : map (λ fed. fed.run) l.runs.items ++ opening_runs l.header l.number (l.header.verifiers - l.number) ≡ opening_runs l.header 0 l.header.verifiers;
}
