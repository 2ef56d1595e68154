use Rattle.std.proofs.Common.{arith}
use Rattle.load_summary.proofs.CountedLemmas.{counted_none}
use Rattle.load_summary.proofs.summary.Summary.new.Goals as goal

pub returns : goal.returns
returns c = record {
  none =
      counted_none c.args.workers _ _ _ c.resize.new.self.items c.zero.result (omega (arith, c.from.ensures)) c.new-tallies.ensures.len
      c.new-tallies.ensures.items c.zero.ensures.none c.in_ok-resize.ensures.items;
}
