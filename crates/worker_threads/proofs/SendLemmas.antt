-- A pair may go to another thread: its worker with its log, its hand, and both ends of its lane.
use denote.Param.Send.{IsSend, sendable}
use denote.Param.SendFields.{as_row_send, declared_send}
use Rattle.std.proofs.Crossing.{crosses}
use Rattle.slot_rewriting.proofs.writer.CommandWriter.TheSendSync as writer
use Rattle.host_plan.proofs.commands.Commands.TheSendSync as commands
use Rattle.worker_log.specs.contracts.log.WorkerLog as WorkerLog
use Rattle.host_world.specs.contracts.worker.Worker as Worker
use Rattle.host_epochs.specs.contracts.hand.Hand as Hand
use Rattle.host_epochs.proofs.hand.Hand.TheSendSync as hand
use Rattle.verifier_feeds.specs.contracts.inbox.Inbox as Inbox
use Rattle.verifier_feeds.proofs.inbox.Inbox.TheSendSync as inbox
use Rattle.verifier_feeds.specs.contracts.outbox.Outbox as Outbox
use Rattle.verifier_feeds.proofs.outbox.Outbox.TheSendSync as outbox
use Rattle.round_workers.specs.contracts.worker_thread.WorkerThread as WorkerThread
use Rattle.worker_threads.specs.contracts.worker_pair.WorkerPair as WorkerPair

log-send : IsSend WorkerLog.the_row
log-send = search (writer.the_field_send, commands.the_send, sendable, crosses) depth 40

worker-send : IsSend Worker.the_row
worker-send = search (log-send, sendable, crosses) depth 40

thread-send : IsSend WorkerThread.the_row
thread-send =
    declared_send WorkerThread.the_type
    (worker-send, (as_row_send Hand.the_field hand.the_field_send, (as_row_send Outbox.the_field outbox.the_field_send, (search sendable, (search sendable, tt)))))

pub pair-send : IsSend WorkerPair.the_row
pair-send = declared_send WorkerPair.the_type (thread-send, (as_row_send Inbox.the_field inbox.the_field_send, tt))
