use Rattle.std.proofs.Common.{◌+◌, ◌-◌, ◌++◌, List, ℕ, drop, ◌∙◌, sym, ap, refl}
use Rattle.log_rings.specs.Lanes.{sent}
use Rattle.verifier_feeds.specs.Feeds.{sent_bytes}
use Rattle.verifier_feeds.proofs.FeedLemmas.{bytes-more, front-longer}
use Rattle.verifier_feeds.proofs.outbox.Outbox.send_piece.Goals as goal

pub returns-clause-front : goal.returns-clause-front
returns-clause-front c =
    let old = c.args.self.now in
    let front = c.requires.front in
    let piece = c.in_ok-of.field-0 in
    let count = old.sent + c.min.result - old.sent in
    record {
      rest = drop count front.rest;
      is =
          front-longer (sent_bytes old) front.rest c.args.log.now piece old.sent count front.is old.counted c.in_ok-of.ensures.value
          ∙ ap (λ (bytes : List ℕ). bytes ++ drop count front.rest) (sym (bytes-more (sent old.sender) (sent c.send.new.self) _ piece c.send.ensures.sent refl));
    }
