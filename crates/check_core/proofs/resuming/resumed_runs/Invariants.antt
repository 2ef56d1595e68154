use Rattle.std.proofs.Common.{◌≡◌, ◌++◌, map, drop, vec_len}
use Rattle.seals.specs.Kept.{kept_in}
use Rattle.seals.specs.Seal.{AreGoodRuns}
use Rattle.resumed_runs.specs.Kept.{runs_from_kept}
use Rattle.check_core.proofs.resuming.resumed_runs.Given as goal

-- the runs so far and those that are left are all, and what is left is good
abbrev pub invariant-loop-number : goal.invariant-loop-number
invariant-loop-number l = record {
  len : vec_len l.runs ≡ l.number;
  good : AreGoodRuns l.state.header l.state.certified l.state.taken l.number (map kept_in (drop l.number l.state.runs.items));
  runs : map (λ fed. fed.run) l.runs.items ++ runs_from_kept l.state.header l.number (map kept_in (drop l.number l.state.runs.items))
      ≡ runs_from_kept l.state.header 0 (map kept_in l.state.runs.items);
}
