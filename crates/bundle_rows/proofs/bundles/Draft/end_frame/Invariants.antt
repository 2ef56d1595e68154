use Rattle.std.proofs.Common.{◌-◌, length}
use Rattle.bundle_rows.proofs.bundles.Draft.end_frame.Given as goal

abbrev pub decreases-loop-at : goal.decreases-loop-at
decreases-loop-at l = length l.self.body.items - l.at
