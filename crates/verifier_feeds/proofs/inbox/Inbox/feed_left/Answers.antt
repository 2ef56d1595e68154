use Rattle.std.proofs.Common.{◌≡◌, ◌++◌, ◌∷◌, [], List, length, refl, sym, ◌∙◌, ap, subst, append_assoc, length-append, arith}
use Rattle.log_rings.specs.declared.parcel.Parcel.{Parcel}
use Rattle.log_rings.specs.Lanes.{waiting}
use Rattle.log_rings.specs.declared.lane.Receiver.{Receiver}
use Rattle.verifier_feeds.specs.Feeds.{ReadsOn, bytes_of}
use Rattle.verifier_feeds.proofs.FeedLemmas.{reads-none, reads-parcel, none-left}
use Rattle.verifier_feeds.proofs.inbox.Inbox.feed_left.Goals as goal

pub loop-init : goal.loop-init
loop-init g c = record {
  room = c.requires.room;
  kept = refl;
  some = [];
  count = refl;
  were = refl;
  read = reads-none (g.D.Digests.functions c.args.d.now) c.args.self.now;
}

pub next-parcel-requires : goal.next-parcel-requires
next-parcel-requires g c =
    let inv = c.loop.invariant in
    record { waiting = omega (arith, c.loop-test.true, inv.count, ap length inv.were, length-append inv.some (waiting c.loop.self.receiver), c.requires.left) }

pub loop-preserved : goal.loop-preserved
loop-preserved g c =
    let inv = c.loop.invariant in
    let parcel = c.next-parcel.result in
    record {
      room = c.feed.ensures.room;
      kept = c.feed.ensures.count ∙ inv.kept;
      some = inv.some ++ parcel ∷ [];
      count = omega (arith, inv.count, length-append inv.some (parcel ∷ []));
      were =
          inv.were ∙ ap (λ (ps : List Parcel). inv.some ++ ps) c.next-parcel.ensures.waiting
          ∙ sym (append_assoc inv.some (parcel ∷ []) (waiting c.next-parcel.new.self))
          ∙ ap (λ (r : Receiver). (inv.some ++ parcel ∷ []) ++ waiting r) (sym c.feed.ensures.lane);
      read =
          reads-parcel (g.D.Digests.functions c.args.d.now) c.pieces_do_not_matter.ensures.joined inv.some parcel c.bytes.result.now c.args.self.now _ c.feed.new.self
          inv.read c.bytes.ensures.value c.feed.ensures.goes_on;
    }

pub returns-clause-read : goal.returns-clause-read
returns-clause-read g c =
    let inv = c.loop.invariant in
    let rest = waiting c.loop.self.receiver in
    let all : waiting c.args.self.now.receiver ≡ inv.some =
    none-left inv.some (waiting c.args.self.now.receiver) rest inv.were
    (omega (arith, c.loop-test.false, inv.count, ap length inv.were, length-append inv.some rest, c.requires.left)) in
    subst (λ (ps : List Parcel). ReadsOn (g.D.Digests.functions c.args.d.now) (bytes_of ps) c.args.self.now c.loop.self) (sym all) inv.read
