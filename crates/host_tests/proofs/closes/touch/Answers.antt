use Rattle.std.proofs.Common.{IsSome, subst, sym}
use Rattle.record_text.specs.Longest.{longest_blob}
use Rattle.host_shard.specs.Mirrors.{IsShard}
use Rattle.host_shard.specs.Shard.{key_path_in, Shard}
use Rattle.host_tests.proofs.closes.touch.Goals as goal

pub loop-preserved : goal.loop-preserved
loop-preserved g c =
    let fits = c.loop.invariant.fits in
    record {
      fits = subst (IsShard longest_blob) (sym c.touch.ensures.touched) (record { below_root = fits.below_root; no_data = fits.no_data; kinds = fits.kinds });
      there = subst (λ (shard : Shard). IsSome (shard.records (key_path_in shard c.args.key))) (sym c.touch.ensures.touched) c.loop.invariant.there;
    }
