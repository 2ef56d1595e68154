-- The parts of a reader: how far they have read, and what always holds of them.
use Rattle.std.specs.Prelude.{◌≡◌, ◌+◌, ◌^◌, ◌≤◌, slice_range, vec_len}
use Rattle.bundle_frames.specs.declared.reader.BundleReader.TheInside.{Inside}
use Rattle.bundle_frames.specs.Extent.{IsDue}
use Rattle.bundle_frames.specs.Progress.{position}
use Rattle.bundle_frames.specs.Reading.{Reading}

-- how far the parts have read
abbrev pub reading_of : Inside → Reading
reading_of r = record {
  progress = r.splitter;
  unread = slice_range r.room.items r.from r.until;
  taken = r.taken;
  limit = r.limit;
}

-- The room has a piece at least, the places are in it, and no more was taken than may be. As long as reading goes on, all that
-- was taken is split or unread.
pub record IsReader (r : Inside) : Type 0 where
  pub room : 65536 ≤ vec_len r.room
  pub from : r.from ≤ r.until
  pub until : r.until ≤ vec_len r.room
  pub split : position r.splitter + r.until ≤ r.taken + r.from
  pub due : IsDue r.splitter → position r.splitter + r.until ≡ r.taken + r.from
  pub within : r.taken ≤ r.limit
  pub limit : r.limit ≤ 2 ^ 41
