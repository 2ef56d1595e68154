use Rattle.std.proofs.Common.{◌≡◌, List, length, map, rules}
use Rattle.host_table.specs.Table.{table, terms}
use Rattle.table_tests.specs.declared.turns.Turn.{Turn}
use Rattle.table_tests.specs.Turns.{hand_of}
use Rattle.table_tests.proofs.TurnLemmas.{hands_of}
use Rattle.table_tests.proofs.phases.phase.Goals as goal

pub close-closed-requires : goal.close-closed-requires
close-closed-requires g c =
    let made = c.in-Ok.records in
    let turns : List Turn = c.worked-turns.result.items in
    let same : c.tell-hands.result.1.items ≡ map hand_of turns = c.tell-hands.ensures.hands in
    let count : length turns ≡ (terms g.D.Digests.functions made).workers = search rules in
    record { all = hands_of (terms g.D.Digests.functions made) (table made) turns c.tell-hands.result.1.items same c.worked-turns.ensures.turns count }
