-- The state of one verifier, but for its sums: its cache and its clock.
use Rattle.std.specs.Prelude.{ℕ, ◌==◌, Bool, List, [], ◌∷◌, if◌then◌else◌}
use Rattle.tree_keys.specs.Path.{root_of}
use Rattle.lamport_clocks.specs.declared.header.Header.{Header}
use Rattle.lamport_clocks.specs.Reading.{Reading}
use Rattle.lamport_clocks.specs.Clock.{opening_reading}
use Rattle.record_text.specs.declared.value.Value.TheVariants as values
use Rattle.record_text.specs.Tree.{wide_of}
use Rattle.record_text.specs.Value.{empty_node}
use Rattle.verifier_cache.specs.declared.entry.Entry.{Entry}
use Rattle.verifier_cache.specs.declared.entry.Hold.TheVariants.{Root}
use Rattle.verifier_cache.specs.Entry.{new_entry}
use Rattle.verifier_commands.specs.declared.state.State.{State}

-- the root of a tree with its initial value, which never leaves the cache of verifier 0
abbrev pub root_entry : Bool → Entry
root_entry wide = new_entry (root_of wide) (values.Node empty_node) Root

-- At the start verifier 0 caches the root of the bundle's tree and the others nothing, and the clock is at the first epoch.
abbrev pub opening : ℕ → Header → State
opening number header = record {
  cache = record { entries = if number == 0 then root_entry (wide_of header) ∷ [] else []; room = header.cache };
  clock = opening_reading header.first header.end;
}

-- the state with other entries
abbrev pub with_entries : State → List Entry → State
with_entries state entries = record state { cache = record state.cache { entries = entries } }

-- the state with other entries and another clock reading
abbrev pub at_clock : State → List Entry → Reading → State
at_clock state entries clock = record { cache = record state.cache { entries = entries }; clock = clock }
