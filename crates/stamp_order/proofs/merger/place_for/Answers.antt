use Rattle.std.proofs.Common.{sym, ◌∙◌, arith}
use Rattle.stamp_order.proofs.PlaceLemmas.{within-lists, has-list, later-more, sooner-more}
use Rattle.stamp_order.proofs.merger.place_for.Goals as goal

pub begins_sooner-requires : goal.begins_sooner-requires
begins_sooner-requires c = record {
  within = (
    within-lists c.args.lists.now c.args.place c.requires.some,
    has-list c.args.lists.now c.args.places.now c.args.place _ 0 (omega (arith, c.search.invariant.within, c.search-test.true)) c.requires.standing,
  );
}

pub search-preserved-then-begins_sooner : goal.search-preserved-then-begins_sooner
search-preserved-then-begins_sooner c =
    let inv = c.search.invariant in
    record {
      order = omega (arith, inv.order, c.search-test.true);
      within = inv.within;
      later =
          later-more c.args.lists.now c.args.places.now c.args.place _ 0 (omega (arith, inv.within, c.search-test.true)) c.requires.standing
          (sym c.begins_sooner.ensures.value ∙ c.if-begins_sooner.true);
      sooner = inv.sooner;
    }

pub search-preserved : goal.search-preserved
search-preserved c =
    let inv = c.search.invariant in
    record {
      order = omega (arith, c.search-test.true);
      within = omega (arith, inv.within, c.search-test.true);
      later = inv.later;
      sooner =
          sooner-more c.args.lists.now c.args.places.now c.args.place _ 0 (omega (arith, inv.within, c.search-test.true)) c.requires.standing
          c.requires.some c.requires.apart (sym c.begins_sooner.ensures.value ∙ c.if-begins_sooner.false);
    }
