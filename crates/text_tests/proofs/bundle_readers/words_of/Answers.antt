use Rattle.std.proofs.Common.{◌≡◌}
use Rattle.bundle_frames.specs.declared.coming.Next.TheVariants.{End}
use Rattle.text_tests.proofs.bundle_readers.words_of.Goals as goal

pub loop-preserved : goal.loop-preserved
loop-preserved g c =
    c.in-Ok.ensures.due (λ is. c.write_next-more.ensures.more c.if-not-more.false (let same : c.in-Ok.next ≡ End = cc in same))
