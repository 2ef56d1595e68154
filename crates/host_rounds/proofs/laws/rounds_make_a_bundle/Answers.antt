use Rattle.host_rounds.proofs.BundleLaws.{bundle-opened, bundle-more}
use Rattle.host_rounds.proofs.laws.rounds_make_a_bundle.Goals as goal

pub returns : goal.returns
returns c = record {
  opened = bundle-opened c.bundles_hold_the_logs.ensures.bundle c.bundles_hold_the_logs.ensures.logs;
  more = bundle-more c.bundles_hold_the_logs.ensures.bundle c.bundles_hold_the_logs.ensures.logs;
}
