use Rattle.std.proofs.Common.{◌≡◌, ◌++◌, length}
use Rattle.certified_epochs.proofs.one_epoch.take_group.Given as goal

-- the operations so far are in the group, and with those that are left they are all
abbrev pub invariant-loop : goal.invariant-loop
invariant-loop l = record {
  taken : l.fn.operations ≡ l.group.items ++ l.operations;
  count : length l.group.items ≡ l.counter;
}
