use Rattle.std.proofs.Common.{[]}
use Rattle.shipped_host.specs.ShippedHost.{shipped_host}
use Rattle.round_fits.proofs.RoundLemmas.{one_round}
use Rattle.round_fits.proofs.laws.rolling_rounds_are_lists_of_events.Goals as goal

pub returns : goal.returns
returns c = record {
  rounds = λ functions settings script top finals lists pasts can rolling told.
      let promise = c.the_shipped_host_keeps_its_promise.ensures.promised functions settings script in
      one_round (shipped_host functions settings script) rolling can.in_range.header.some_verifiers ((promise [] can tt).in_round rolling)
      (c.the_rolling_host_is_steady.ensures.steady functions settings script (can.in_range.cold rolling))
      (λ events enabled. (promise events can enabled).level) top finals lists pasts told;
}
