-- What was sent is a front of a log, and stays one as the log grows.
use Rattle.std.proofs.Common.{ℕ, List, ◌++◌, sym, ◌∙◌, ap, append_assoc, arith}
use Rattle.certified_epochs.specs.declared.fed_run.FedRun.{FedRun}
use Rattle.verifier_feeds.specs.declared.outbox.Outbox.{Outbox}
use Rattle.verifier_feeds.specs.declared.inbox.Inbox.{Inbox}
use Rattle.verifier_feeds.specs.Feeds.{HasSentFrontOf, IsOpen, KeepsPlace}

-- the log goes on
pub front-grown : (outbox : Outbox) (log more : List ℕ) → HasSentFrontOf outbox log → HasSentFrontOf outbox (log ++ more)
front-grown outbox log more front = record {
  rest = front.rest ++ more;
  is = ap (λ (xs : List ℕ). xs ++ more) front.is ∙ append_assoc _ front.rest more;
}

-- nothing was sent yet, which is a front of every log,
pub front-open : (run : FedRun) (outbox : Outbox) (inbox : Inbox) (log : List ℕ) → IsOpen run outbox inbox → HasSentFrontOf outbox log
front-open run outbox inbox log open_now = record { rest = log; is = ap (λ (xs : List ℕ). xs ++ log) (sym open_now.empty) }

-- and there is a place for the last parcel of the round
pub place-open : (run : FedRun) (outbox : Outbox) (inbox : Inbox) → IsOpen run outbox inbox → KeepsPlace outbox
place-open run outbox inbox open_now = omega (arith, open_now.capacity)
