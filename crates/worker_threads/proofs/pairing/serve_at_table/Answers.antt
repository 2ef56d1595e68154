use Rattle.std.proofs.Common.{◌∙◌, sym}
use Rattle.host_epochs.specs.Table.{table, terms}
use Rattle.round_workers.specs.Sharing.{turns_in}
use Rattle.worker_threads.proofs.ThreadLemmas.{are_ready, counted_well, served_well, taken_well}
use Rattle.worker_threads.proofs.pairing.serve_at_table.Goals as goal

pub pair_up-requires-clause-hands : goal.pair_up-requires-clause-hands
pair_up-requires-clause-hands g c = c.requires.ready.all.count ∙ sym c.requires.ready.count

pub pair_up-requires-clause-parcels : goal.pair_up-requires-clause-parcels
pair_up-requires-clause-parcels g c = c.requires.parcels

pub serve_all-requires-clause-ready : goal.serve_all-requires-clause-ready
serve_all-requires-clause-ready g c κs within =
    let records = c.args.shared.now.epochs.now in
    let ready = are_ready (terms g.D.Digests.functions records) (table records) c.in_ok-pairs.pairs.items c.args.participants.workers.items c.args.participants.hands.items
    c.in_ok-pairs.ensures.workers c.in_ok-pairs.ensures.hands c.requires.ready c.in_ok-pairs.ensures.opened in
    λ i d there. record { shared_is = c.requires.shared; ready = ready i d there }

pub returns : goal.returns
returns g c =
    let records = c.args.shared.now.epochs.now in
    let pairs = c.in_ok-pairs.pairs.items in
    let met = c.in_ok-met.ensures.met in
    let later = c.in_ok-met.met.items in
    record {
      served = served_well (terms g.D.Digests.functions records) (table records) pairs c.args.participants.workers.items c.args.participants.hands.items
          c.in_ok-pairs.ensures.workers c.in_ok-pairs.ensures.hands
          c.take_apart.result (λ left. left.workers.items) (λ left. left.hands.items) (turns_in c.args.shared.now) later
          c.take_apart.ensures.workers c.take_apart.ensures.hands c.take_apart.ensures.served met.count (λ i d there. (met.each i d there).through) c.requires.ready;
      taken = taken_well (g.D.Digests.functions c.args.shared.now.d.now) pairs
          c.args.participants.runs.items c.take_apart.result (λ left. left.workers.items) (λ left. left.runs.items)
          later c.in_ok-pairs.ensures.runs c.take_apart.ensures.workers c.take_apart.ensures.runs c.take_apart.ensures.served met.count (λ i d there. (met.each i d there).fed);
      parcels = counted_well pairs c.args.participants.parcels.items c.take_apart.result (λ left. left.parcels.items) later
          c.in_ok-pairs.ensures.parcels c.take_apart.ensures.parcels met.count;
    }
