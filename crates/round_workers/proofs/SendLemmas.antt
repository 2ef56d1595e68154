-- What was sent of a log.
use Rattle.std.proofs.Common.{◌≡◌, ℕ, List, [], ◌++◌, sym, ◌∙◌, ap, subst}
use Rattle.log_codec.specs.declared.command.Command.{Command}
use Rattle.slot_rewriting.specs.declared.writer.CommandWriter.{CommandWriter}
use Rattle.slot_rewriting.specs.Writing.{text_from, writer_behind}
use Rattle.slot_rewriting.proofs.WritingLaws.{text_from-append}
use Rattle.worker_log.specs.Logged.{Logged, text_of}
use Rattle.verifier_feeds.specs.declared.outbox.Outbox.{Outbox}
use Rattle.verifier_feeds.specs.Feeds.{sent_bytes, HasSentFrontOf}
use Rattle.verifier_feeds.proofs.FrontLaws.{front-grown}

-- It stays a front of a log that grows, if that keeps its writer.
pub log-grown : (outbox : Outbox) (old new : Logged) (more : List Command) → new.writer ≡ old.writer → new.commands ≡ old.commands ++ more
    → HasSentFrontOf outbox (text_of old) → HasSentFrontOf outbox (text_of new)
log-grown outbox old new more writer grown front =
    subst (HasSentFrontOf outbox)
    (sym (ap (λ (w : CommandWriter). text_from w new.commands) writer ∙ ap (text_from old.writer) grown ∙ text_from-append old.writer old.commands more))
    (front-grown outbox (text_of old) (text_from (writer_behind old.writer old.commands) more) front)

-- before anything was sent of any log
pub log-unsent : (outbox : Outbox) (log : List ℕ) → sent_bytes outbox ≡ [] → HasSentFrontOf outbox log
log-unsent outbox log empty = record { rest = log; is = ap (λ (bytes : List ℕ). bytes ++ log) (sym empty) }
