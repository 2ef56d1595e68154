-- What the setup's commands do to verifier 0, and what they leave.
use Rattle.std.specs.Prelude.{◌≡◌, ℕ, zero, suc, ◌^◌, ◌<◌, ◌≤◌, Bool, true, false, List, [], ◌∷◌, Some, Ok}
use Rattle.std.specs.List.{AllByRecursion, flat_map}
use Rattle.tree_keys.specs.Path.{key_bits, depth, root_of}
use Rattle.lamport_clocks.specs.declared.header.Header.{Header}
use Rattle.lamport_clocks.specs.Reading.{Reading}
use Rattle.record_text.specs.declared.value.Pointer.{Pointer}
use Rattle.record_text.specs.declared.value.Node.{Node}
use Rattle.record_text.specs.declared.value.Value.TheVariants as values
use Rattle.record_text.specs.Value.{empty_node, initial_value}
use Rattle.record_text.specs.Tree.{wide_of}
use Rattle.merkle_records.specs.Merkle.{Digest, pointer_to, deferred_pointer}
use Rattle.merkle_records.specs.Scheme.{Scheme}
use Rattle.verifier_cache.specs.declared.entry.Hold.TheVariants.{Root}
use Rattle.verifier_cache.specs.Entry.{new_entry}
use Rattle.verifier_commands.specs.declared.state.State.{State}
use Rattle.verifier_commands.specs.State.{opening}
use Rattle.verifier_commands.specs.Change.{Change, did_add_m, did_evict_m, did_add_b, did_evict_b, did_evict_bm, did_get, did_put, did_next_epoch}
use Rattle.verifier_commands.specs.Changes.{above}
use Rattle.soundness.specs.StateHistory.{rules_under}
use Rattle.soundness.specs.Clash.{is_known}
use Rattle.soundness.specs.Typed.{IsPathTypedIn}
use Rattle.host_shard.specs.Content.{pending}
use Rattle.host_plan.specs.Setup.{child, setup_commands, setup_contents}
use Rattle.host_laws.specs.Running.{Told, run, added_told, evicted_told, accesses_told}
use Rattle.host_laws.specs.Carried.{carried}
use Rattle.host_laws.specs.Served.{waiting}

-- The pointer to a path once it is set up with so many levels below it: a frontier is lent, and a path above keeps the
-- pointers to its two children.
abbrev pub set_up_pointer : Digest → ℕ → List Bool → Pointer
set_up_pointer digest zero path = deferred_pointer (pointer_to digest path (initial_value path))
set_up_pointer digest (suc levels) path =
    pointer_to digest path (values.Node (record {
      side0 = Some (set_up_pointer digest levels (child path false));
      side1 = Some (set_up_pointer digest levels (child path true));
    }))

-- The root of a tree once 2^bits shards are set up.
abbrev pub set_up_root : Digest → Bool → ℕ → Node
set_up_root digest wide zero = empty_node
set_up_root digest wide (suc levels) = record {
  side0 = Some (set_up_pointer digest levels (child (root_of wide) false));
  side1 = Some (set_up_pointer digest levels (child (root_of wide) true));
}

-- the clock of the first epoch at this counter
abbrev pub first_clock : ℕ → ℕ → ℕ → Reading
first_clock first end counter = record { first = first; end = end; at = record { epoch = first; counter = counter } }

-- the state of verifier 0 once 2^bits shards are set up
abbrev pub set_up_state : Scheme → Header → ℕ → State
set_up_state scheme header bits = record {
  cache = record { entries = new_entry (root_of (wide_of header)) (values.Node (set_up_root scheme.digest (wide_of header) bits)) Root ∷ []; room = header.cache };
  clock = first_clock header.first header.end (2 ^ bits);
}

-- a path that comes in by its digest comes where no pointer led to it
abbrev pub IsNew : Change → Type 0
IsNew (did_add_m parent after child) = is_known (above parent child.path) child.path ≡ false
IsNew (did_evict_m parent after child) = Unit {0}
IsNew (did_add_b child element) = Unit {0}
IsNew (did_evict_b child element) = Unit {0}
IsNew (did_evict_bm parent after child element) = Unit {0}
IsNew (did_get entry) = Unit {0}
IsNew (did_put before after) = Unit {0}
IsNew (did_next_epoch sealed) = Unit {0}

-- 2^bits shards can be set up: some of them, with frontiers above the keys, with room for each path above them, and with
-- a counter for each.
pub record CanSetUp (header : Header) (bits : ℕ) : Type 0 where
  pub some : 0 < bits
  pub short : bits < key_bits (wide_of header)
  pub room : bits < header.cache
  pub counters : 2 ^ bits ≤ header.end

-- The setup runs: verifier 0 accepts its commands from its opening state. They add no element, and evict those with which
-- the shards then wait, in their order. Each path comes in as a new one, and none of them lies below a frontier.
pub record SetupRuns (scheme : Scheme) (header : Header) (bits : ℕ) : Type 0 where
  pub told : Told
  pub runs : run (rules_under scheme header 0) (opening 0 header) (setup_commands (wide_of header) header.first bits) ≡ Ok (told, set_up_state scheme header bits)
  pub added : added_told told ≡ []
  pub evicted : evicted_told told ≡ flat_map (λ content. waiting (pending content)) (setup_contents (wide_of header) header.first bits)
  pub accesses : accesses_told told ≡ []
  pub new : AllByRecursion (λ one. IsNew one.1) told
  pub apart : (path : List Bool) → bits < depth path → carried path told ≡ []
  pub typed : AllByRecursion (IsPathTypedIn (wide_of header) scheme.format.longest) (setup_commands (wide_of header) header.first bits)
