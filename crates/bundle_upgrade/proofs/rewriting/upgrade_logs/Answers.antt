use Rattle.std.proofs.Common.{◌<◌, length, arith}
use Rattle.std.specs.List.{All}
use Rattle.bundle_upgrade.proofs.RewritingLemmas.{log-step, bytes-step}
use Rattle.bundle_upgrade.proofs.rewriting.upgrade_logs.Goals as goal

pub loop-number-preserved : goal.loop-number-preserved
loop-number-preserved c =
    let below : c.loop-number.number < length c.loop-number.logs.items = omega (arith, c.loop-number-test.true, c.requires.count, c.loop-number.invariant.count, c.loop-number.logs.ok) in
    record {
      count = c.loop-number.invariant.count;
      front =
          log-step (λ log. log.items) c.args.header.now c.loop-number.number c.from.result c.loop-number.logs.items _ c.index_mut.result.now c.upgrade_log.new.log _
          c.from.ensures below c.loop-number.invariant.front c.index_mut.ensures.value c.in_ok-upgrade_log.ensures.upgraded;
      bytes =
          bytes-step (All (λ byte. byte < 256)) (λ log. log.items) c.args.header.now c.loop-number.number c.from.result c.loop-number.logs.items _ c.index_mut.result.now _
          c.from.ensures below c.loop-number.invariant.front c.index_mut.ensures.value c.in_ok-upgrade_log.ensures.bytes c.loop-number.invariant.bytes;
    }
