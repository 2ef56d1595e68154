use Rattle.command_window.proofs.GoesOnLemmas.{goes_on-then}
use Rattle.command_window.proofs.hashing.hash_all.Goals as goal

pub returns : goal.returns
returns g c =
    let functions = g.D.Digests.functions c.args.d.now in
    record {
      goes_on = goes_on-then functions _ _ _ c.hash_group.ensures.goes_on
          (goes_on-then functions _ _ _ c.hash_group-2.ensures.goes_on
          (goes_on-then functions _ _ _ c.hash_group-3.ensures.goes_on c.hash_group-4.ensures.goes_on));
    }
