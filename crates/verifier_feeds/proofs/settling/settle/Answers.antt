use Rattle.std.proofs.Common.{◌≡◌, ◌++◌, ℕ, List, ◌-◌, length, take, drop, sym, ◌∙◌, ap, subst}
use Rattle.std.proofs.lemmas.Grind.{flat_map-append}
use Rattle.log_rings.specs.declared.parcel.Parcel.{Parcel}
use Rattle.log_rings.specs.Lanes.{received_by, waiting, sent}
use Rattle.host_rounds.specs.Feeding.{Reads}
use Rattle.verifier_feeds.specs.Feeds.{bytes_of, run_of, sent_bytes}
use Rattle.verifier_feeds.proofs.FeedLemmas.{behind-front_slice, reads-last}
use Rattle.verifier_feeds.proofs.settling.settle.Goals as goal

pub returns-clause-all : goal.returns-clause-all
returns-clause-all g c = λ first before going.
    let functions = g.D.Digests.functions c.args.d.now in
    let outbox = c.args.outbox.now in
    let front = c.requires.front in
    let log = c.args.log.now in
    let received = received_by c.args.inbox.now.receiver in
    let left = waiting c.settle-settled.new.receiver in
    let piece = take (length log - outbox.sent) (drop outbox.sent log) in
    let bytes = bytes_of received ++ bytes_of left in
    let are : received ++ left ≡ sent outbox.sender =
    ap (λ (ps : List Parcel). ps ++ left) (sym c.settle-settled.ensures.received) ∙ c.settle-settled.ensures.all ∙ c.settle-settled.ensures.sent in
    let is : bytes ++ piece ≡ log =
    ap (λ (xs : List ℕ). xs ++ piece) (sym (flat_map-append (λ (p : Parcel). p.buffer) received left) ∙ ap bytes_of are)
    ∙ ap (λ (xs : List ℕ). sent_bytes outbox ++ xs) (behind-front_slice (sent_bytes outbox) front.rest log outbox.sent front.is outbox.counted)
    ∙ sym front.is in
    subst (λ (all : List ℕ). Reads functions all first (run_of c.feed.new.self)) is
    (reads-last functions bytes piece first c.feed_left.new.self c.feed.new.self (c.feed_left.ensures.read first (bytes_of received) before)
    (c.feed.ensures.goes_on going))
