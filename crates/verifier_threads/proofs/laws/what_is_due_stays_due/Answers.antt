use Rattle.verifier_threads.proofs.DueLemmas.{what-stays_due}
use Rattle.verifier_threads.proofs.laws.what_is_due_stays_due.Goals as goal

pub returns : goal.returns
returns c = record {
  stays =
      what-stays_due c.bytes_bound_the_frames.ensures.enough c.frames_are_read_back.ensures.read c.headers_are_read_back.ensures.read c.headers_are_read_back.ensures.length
      c.frames_join_to_the_bytes.ensures.frames c.bundles_hold_the_logs.ensures.logs;
}
