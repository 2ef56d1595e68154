use Rattle.std.proofs.Common.{◌≡◌, ◌≤◌}
use Rattle.log_rings.specs.Lanes.{received_by}
use Rattle.verifier_feeds.specs.Feeds.{HasRoom, SameInbox, ReadsOn, bytes_of, counted_on, parcels_of}
use Rattle.verifier_feeds.proofs.inbox.Inbox.watch.Given as goal

-- the run has read what came so far, and each parcel is counted
abbrev pub invariant-loop : goal.invariant-loop
invariant-loop g l = record {
  few : l.empty_polls ≤ 1024;
  room : HasRoom l.self;
  lane : SameInbox l.initial.self l.self;
  counted : parcels_of l.self ≡ counted_on (parcels_of l.initial.self) (received_by l.self.receiver);
  read : ReadsOn (g.D.Digests.functions l.d) (bytes_of (received_by l.self.receiver)) l.initial.self l.self;
}
