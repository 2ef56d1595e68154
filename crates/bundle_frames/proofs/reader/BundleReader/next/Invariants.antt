use Rattle.std.proofs.Common.{◌≡◌, ◌+◌, ◌-◌, ◌≤◌, ◌<◌, IfSome, length}
use Rattle.fv_outside.specs.Consumed.{most_behind}
use Rattle.bundle_frames.specs.Extent.{IsDue}
use Rattle.bundle_frames.specs.Progress.{position}
use Rattle.bundle_frames.specs.Reading.{ahead, end_ahead, HasRead, ReadsAs}
use Rattle.bundle_frames.proofs.reader.BundleReader.next.Given as goal

-- pieces were read in which nothing was whole
abbrev pub invariant-pieces : goal.invariant-pieces
invariant-pieces g l = record {
  due : IsDue l.self.progress;
  header : l.self.progress.header ≡ l.fn.self.progress.header;
  limit : l.self.limit ≡ l.fn.self.limit;
  rises : l.fn.self.taken ≤ l.self.taken;
  took : HasRead (l.self.taken - l.fn.self.taken) (g.S.Source.left l.fn.source) (g.S.Source.left l.source);
  means : ReadsAs (l.self.taken - l.fn.self.taken) (g.S.Source.left l.fn.source) (ahead l.fn.self) (ahead l.self);
  extent : ReadsAs (l.self.taken - l.fn.self.taken) (g.S.Source.left l.fn.source) (end_ahead l.fn.self) (end_ahead l.self);
  near : l.fn.self.taken < l.self.taken → IfSome (g.S.Source.left l.fn.source) (λ bytes. l.self.taken ≤ end_ahead l.fn.self bytes + most_behind);
  onward : l.fn.self.progress.offset ≤ l.self.progress.offset;
  further : position l.fn.self.progress ≤ position l.self.progress;
  faults : g.S.Source.faults l.fn.source ≤ g.S.Source.faults l.source;
}

-- how many bytes may still be read, and those that are unread
abbrev pub decreases-pieces : goal.decreases-pieces
decreases-pieces g l = l.self.limit - l.self.taken + length l.self.unread
