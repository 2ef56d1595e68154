use Rattle.std.proofs.Common.{◌≡◌, ◌++◌, List, length}
use Rattle.log_rings.specs.declared.parcel.Parcel.{Parcel}
use Rattle.log_rings.specs.Lanes.{waiting}
use Rattle.verifier_feeds.specs.Feeds.{HasRoom, ReadsOn, bytes_of, parcels_of}
use Rattle.verifier_feeds.proofs.inbox.Inbox.feed_left.Given as goal

-- so many parcels of those that waited are fed, and the others wait
abbrev pub invariant-loop : goal.invariant-loop
invariant-loop g l = record {
  room : HasRoom l.self;
  kept : parcels_of l.self ≡ parcels_of l.initial.self;
  some : List Parcel;
  count : length some ≡ l.counter;
  were : waiting l.initial.self.receiver ≡ some ++ waiting l.self.receiver;
  read : ReadsOn (g.D.Digests.functions l.d) (bytes_of some) l.initial.self l.self;
}
