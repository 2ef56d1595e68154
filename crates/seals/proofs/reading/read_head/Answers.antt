use Rattle.std.proofs.Common.{◌∙◌, ap, sym}
use Rattle.record_text.specs.Reading.{u32_at}
use Rattle.seals.proofs.HeadLemmas.{numbers_taken}
use Rattle.seals.proofs.reading.read_head.Goals as goal

pub split_at-requires : goal.split_at-requires
split_at-requires c = (numbers_taken c.args.bytes.now _ _ _ _ _ _ (ap u32_at (sym c.requires.all) ∙ c.in_ok-u32.ensures.takes) c.in_ok-counter.ensures.takes c.in_ok-taken.ensures.takes).0

pub read_header-requires : goal.read_header-requires
read_header-requires c = record {
  all = (numbers_taken c.args.bytes.now _ _ _ _ _ _ (ap u32_at (sym c.requires.all) ∙ c.in_ok-u32.ensures.takes) c.in_ok-counter.ensures.takes c.in_ok-taken.ensures.takes).1 ∙ sym c.split_at.ensures.back;
}
