use Rattle.std.proofs.Common.{◌≡◌, ◌++◌, ◌∷◌, [], List, sym, ◌∙◌, ap, subst, arith, rules}
use Rattle.log_rings.specs.declared.parcel.Parcel.{Parcel}
use Rattle.log_rings.specs.declared.lane.Receiver.{Receiver}
use Rattle.log_rings.specs.Lanes.{received_by}
use Rattle.verifier_feeds.specs.Feeds.{ReadsOn, bytes_of, counted_on, parcels_of, run_of}
use Rattle.verifier_feeds.proofs.FeedLemmas.{counted-more, none-counted, none-read, reads-none, reads-received}
use Rattle.verifier_feeds.proofs.inbox.Inbox.watch.Goals as goal

pub loop-init : goal.loop-init
loop-init g c = record {
  few = search rules;
  room = c.requires.room;
  lane = search rules;
  counted = none-counted (parcels_of c.args.self.now) (received_by c.args.self.now.receiver) c.args.self.now.fits c.requires.fresh;
  read = subst (λ (ps : List Parcel). ReadsOn (g.D.Digests.functions c.args.d.now) (bytes_of ps) c.args.self.now c.args.self.now) (sym c.requires.fresh)
      (reads-none (g.D.Digests.functions c.args.d.now) c.args.self.now);
}

pub returns-then-empty_polls-ge-MOST_EMPTY_POLLS-clause-read : goal.returns-then-empty_polls-ge-MOST_EMPTY_POLLS-clause-read
returns-then-empty_polls-ge-MOST_EMPTY_POLLS-clause-read g c =
    c.loop.invariant.read (run_of c.args.self.now) [] (λ going. none-read (g.D.Digests.functions c.args.d.now) (run_of c.args.self.now))

pub returns-then-parcel-clause-read : goal.returns-then-parcel-clause-read
returns-then-parcel-clause-read g c =
    let functions = g.D.Digests.functions c.args.d.now in
    let received : received_by c.feed.new.self.receiver ≡ received_by c.loop.self.receiver ++ c.in-Some-poll.parcel ∷ [] =
    ap (λ (r : Receiver). received_by r) c.feed.ensures.lane ∙ c.in-Some-poll.ensures.some.0 in
    reads-received functions c.pieces_do_not_matter.ensures.joined (received_by c.loop.self.receiver) (received_by c.feed.new.self.receiver) c.in-Some-poll.parcel c.bytes.result.now
    c.args.self.now _ c.feed.new.self received c.loop.invariant.read c.bytes.ensures.value c.feed.ensures.goes_on
    (run_of c.args.self.now) [] (λ going. none-read functions (run_of c.args.self.now))

pub returns-then-parcel-clause-counted : goal.returns-then-parcel-clause-counted
returns-then-parcel-clause-counted g c =
    let received : received_by c.feed.new.self.receiver ≡ received_by c.loop.self.receiver ++ c.in-Some-poll.parcel ∷ [] =
    ap (λ (r : Receiver). received_by r) c.feed.ensures.lane ∙ c.in-Some-poll.ensures.some.0 in
    counted-more (parcels_of c.args.self.now) (parcels_of c.loop.self) (parcels_of c.feed.new.self) (received_by c.loop.self.receiver) (received_by c.feed.new.self.receiver) c.in-Some-poll.parcel
    c.loop.invariant.counted (c.feed.ensures.count ∙ c.saturating_add-self.ensures) received

pub loop-preserved-in-Some-poll : goal.loop-preserved-in-Some-poll
loop-preserved-in-Some-poll g c =
    let functions = g.D.Digests.functions c.args.d.now in
    let received : received_by c.feed.new.self.receiver ≡ received_by c.loop.self.receiver ++ c.in-Some-poll.parcel ∷ [] =
    ap (λ (r : Receiver). received_by r) c.feed.ensures.lane ∙ c.in-Some-poll.ensures.some.0 in
    record {
      few = omega arith;
      room = c.feed.ensures.room;
      lane = search rules;
      counted = counted-more (parcels_of c.args.self.now) (parcels_of c.loop.self) (parcels_of c.feed.new.self) (received_by c.loop.self.receiver) (received_by c.feed.new.self.receiver) c.in-Some-poll.parcel
          c.loop.invariant.counted (c.feed.ensures.count ∙ c.saturating_add-self.ensures) received;
      read =
          reads-received functions c.pieces_do_not_matter.ensures.joined (received_by c.loop.self.receiver) (received_by c.feed.new.self.receiver) c.in-Some-poll.parcel c.bytes.result.now
          c.args.self.now _ c.feed.new.self received c.loop.invariant.read c.bytes.ensures.value c.feed.ensures.goes_on;
    }

pub loop-preserved : goal.loop-preserved
loop-preserved g c = record {
  few = omega (arith, c.if-empty_polls-ge-MOST_EMPTY_POLLS.false);
  room = c.loop.invariant.room;
  lane = search rules;
  counted = c.loop.invariant.counted ∙ ap (λ (ps : List Parcel). counted_on (parcels_of c.args.self.now) ps) (sym c.in-None-poll.ensures.none.0);
  read = subst (λ (ps : List Parcel). ReadsOn (g.D.Digests.functions c.args.d.now) (bytes_of ps) c.args.self.now c.loop.self) (sym c.in-None-poll.ensures.none.0) c.loop.invariant.read;
}
