use Rattle.std.proofs.Common.{◌≡◌, List, length, map, ◌∙◌}
use Rattle.host_epochs.specs.Table.{table, terms}
use Rattle.table_tests.specs.declared.round_workers.RoundWorker.{RoundWorker}
use Rattle.table_tests.specs.Rounds.{hand_in}
use Rattle.table_tests.proofs.StartLemmas.{hands_from}
use Rattle.table_tests.proofs.rounds.round.Goals as goal

pub close-requires : goal.close-requires
close-requires g c =
    let made = c.in-Ok.epochs in
    let workers : List RoundWorker = c.go_on-list.result.items in
    let same : c.tell-hands.result.1.items ≡ map hand_in workers = c.tell-hands.ensures.hands in
    let count : length workers ≡ (terms g.D.Digests.functions made).workers = c.go_on-list.ensures.count ∙ c.in-Ok.ensures.workers.count in
    record { all = hands_from (terms g.D.Digests.functions made) (table made) workers c.tell-hands.result.1.items same c.go_on-list.ensures.all count }
