use Rattle.std.proofs.Common.{◌≡◌, ◌+◌, ◌-◌, ◌≤◌, ◌<◌, Some, IfSome, length}
use Rattle.std.specs.List.{AllByRecursion}
use Rattle.fv_outside.specs.Consumed.{most_behind}
use Rattle.lamport_clocks.specs.declared.header.Header.{Header}
use Rattle.bundle_frames.specs.Bundle.{IsFrame, with_frames}
use Rattle.bundle_frames.specs.Extent.{IsDue}
use Rattle.bundle_frames.specs.Progress.{position}
use Rattle.bundle_frames.specs.Reading.{ahead, end_ahead, HasRead, ReadsAs}
use Rattle.check_core.specs.Batch.{bytes_of}
use Rattle.check_core.proofs.batch.Batch.fill.Given as goal

-- what was read are the frames so far
abbrev pub invariant-frames : goal.invariant-frames
invariant-frames g l = record {
  count : length l.self ≤ l.most;
  due : IsDue l.reader.progress;
  header : l.reader.progress.header ≡ l.fn.reader.progress.header;
  limit : l.reader.limit ≡ l.fn.reader.limit;
  rises : l.fn.reader.taken ≤ l.reader.taken;
  read : 0 < length l.self → (l.reader.taken ≤ l.reader.limit) × (position l.reader.progress ≤ l.reader.taken);
  having_read : HasRead (l.reader.taken - l.fn.reader.taken) (g.S.Source.left l.fn.source) (g.S.Source.left l.source);
  means : ReadsAs (l.reader.taken - l.fn.reader.taken) (g.S.Source.left l.fn.source) (ahead l.fn.reader) (λ more. with_frames l.self (ahead l.reader more));
  extent : ReadsAs (l.reader.taken - l.fn.reader.taken) (g.S.Source.left l.fn.source) (end_ahead l.fn.reader) (end_ahead l.reader);
  near : l.fn.reader.taken < l.reader.taken → IfSome (g.S.Source.left l.fn.source) (λ bytes. l.reader.taken ≤ end_ahead l.fn.reader bytes + most_behind);
  bytes : bytes_of l.self + l.fn.reader.progress.offset ≤ l.reader.progress.offset;
  frames : (header : Header) → l.fn.reader.progress.header ≡ Some header → AllByRecursion (IsFrame header.verifiers) l.self;
  faults : g.S.Source.faults l.fn.source ≤ g.S.Source.faults l.source;
}

-- how many frames may still come
abbrev pub decreases-frames : goal.decreases-frames
decreases-frames g l = l.most - length l.self
