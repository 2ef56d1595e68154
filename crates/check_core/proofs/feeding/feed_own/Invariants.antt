use Rattle.std.proofs.Common.{drop}
use Rattle.check_core.proofs.FeedingLemmas.{ReadsOn}
use Rattle.check_core.proofs.feeding.feed_own.Given as goal

-- the frames before this holder were taken
abbrev pub invariant-loop-holder : goal.invariant-loop-holder
invariant-loop-holder g l = record {
  takes : ReadsOn (g.D.Digests.functions l.d) l.number l.holders (drop l.holder-index l.holders) l.fn.fed l.fed;
}
