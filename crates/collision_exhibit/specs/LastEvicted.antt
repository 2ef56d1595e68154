-- What was last evicted, as a map over std's ordered map, in the order of the paths' type.
use Rattle.std.specs.Prelude.{Bool, List}
use Rattle.std.specs.Map.{lookup}
use Rattle.std.specs.BTreeMap.{is_at}
use Rattle.std.specs.declared.cmp.Ordering.{Ordering}
use Rattle.tree_keys.specs.contracts.path.PathOrd.TheImpl as orders
use Rattle.record_text.specs.declared.value.Value.{Value}
use Rattle.soundness.specs.Clash.{LastEvicted}

-- how one path lies to another in the order of their type
abbrev pub path_order : List Bool → List Bool → Ordering
path_order = orders.ghosts.cmp

-- what stands at paths
abbrev pub Entries : Type 0
Entries = List (List Bool × Value)

-- the entries as a function: what was last evicted of a path
abbrev pub last_evicted_at : Entries → LastEvicted
last_evicted_at entries = λ path. lookup (is_at (path_order path)) entries
