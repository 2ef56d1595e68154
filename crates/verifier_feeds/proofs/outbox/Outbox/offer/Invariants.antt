use Rattle.std.proofs.Common.{◌-◌, length}
use Rattle.verifier_feeds.specs.Feeds.{HasSentFrontOf, KeepsPlace, SameOutbox}
use Rattle.verifier_feeds.proofs.outbox.Outbox.offer.Given as goal

-- what was sent is a front of the log, and the place is kept
abbrev pub invariant-loop-self : goal.invariant-loop-self
invariant-loop-self l = record {
  front : HasSentFrontOf l.self l.log;
  place : KeepsPlace l.self;
  lane : SameOutbox l.initial.self l.self;
}

-- less of the log waits at each turn
abbrev pub decreases-loop-self : goal.decreases-loop-self
decreases-loop-self l = length l.log - l.self.sent
