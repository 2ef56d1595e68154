use Rattle.std.proofs.Common.{◌≡◌, ◌≤◌}
use Rattle.std.specs.Slice.Iter.{chunks_rest, chunks_size}
use Rattle.bundle_frames.specs.Bundle.{longest_body}
use Rattle.host_log.specs.Frames.{frames_text}
use Rattle.host_log.proofs.FramesLemmas.{Wrote}
use Rattle.host_log.proofs.framing.frames.Given as goal

-- a front of the frames was written, and those of the bytes that are left are the rest
abbrev pub invariant-loop-body : goal.invariant-loop-body
invariant-loop-body g l = record {
  wrote : Wrote (g.O.Sink.held l.initial.sink) (g.O.Sink.held l.sink) (frames_text l.verifier l.bytes) (frames_text l.verifier (chunks_rest l.body-iterator));
  size : chunks_size l.body-iterator ≡ longest_body;
  name : g.O.Sink.name l.sink ≡ g.O.Sink.name l.initial.sink;
  counted : g.O.Sink.faults l.initial.sink ≤ g.O.Sink.faults l.sink;
}
