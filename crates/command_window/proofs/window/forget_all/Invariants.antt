use Rattle.std.proofs.Common.{◌≡◌, length, take}
use Rattle.command_window.specs.Window.{AreForgotten}
use Rattle.command_window.proofs.window.forget_all.Given as goal

-- each is forgotten up to here
abbrev pub invariant-loop-one : goal.invariant-loop-one
invariant-loop-one l = record {
  forgotten : AreForgotten (take l.one-index l.asked);
  len : length l.asked ≡ length l.initial.asked;
}
