use Rattle.std.proofs.Common.{◌≡◌, ◌+◌, ◌-◌, ◌≤◌, ◌<◌, IfSome}
use Rattle.fv_outside.specs.Consumed.{most_behind}
use Rattle.bundle_frames.specs.Progress.{position}
use Rattle.bundle_frames.specs.Extent.{reading_end, IsDue}
use Rattle.bundle_frames.specs.Reading.{end_ahead, HasRead, ReadsAs}
use Rattle.bundle_report.specs.Logged.{logged_of}
use Rattle.check_core.specs.Intake.{behind_at, logs_in}
use Rattle.check_core.proofs.reading.read_bundle.Given as goal

-- what was read and joined so far
abbrev pub invariant-frames : goal.invariant-frames
invariant-frames g l = record {
  due : IsDue l.reader.progress;
  limit : l.reader.limit ≡ l.limit;
  within : l.reader.taken ≤ l.limit;
  position : position l.reader.progress ≤ l.reader.taken;
  header : l.intake.header ≡ l.reader.progress.header;
  having_read : HasRead l.reader.taken (g.S.Source.left l.fn.source) (g.S.Source.left l.source);
  means : ReadsAs l.reader.taken (g.S.Source.left l.fn.source) logged_of (behind_at (logs_in l.intake) l.reader);
  extent : ReadsAs l.reader.taken (g.S.Source.left l.fn.source) reading_end (end_ahead l.reader);
  near : 0 < l.reader.taken → IfSome (g.S.Source.left l.fn.source) (λ bytes. l.reader.taken ≤ reading_end bytes + most_behind);
  faults : g.S.Source.faults l.fn.source ≤ g.S.Source.faults l.source;
}

-- how many bytes may still come
abbrev pub decreases-frames : goal.decreases-frames
decreases-frames g l = l.limit - position l.reader.progress
