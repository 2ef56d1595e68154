use Rattle.protection_moves.proofs.PromotableLemmas.{own_key}
use Rattle.protection_moves.proofs.promotable.key_in.Goals as goal

pub returns-then-is_wide-wide : goal.returns-then-is_wide-wide
returns-then-is_wide-wide c = record {
  value = own_key c.args.wide c.is_wide.result c.args.path.now c.key.result c.if-is_wide-wide.true c.is_wide.ensures.value c.key.ensures.node c.key.ensures.spelled c.key.ensures.small;
}
