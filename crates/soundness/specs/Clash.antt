-- The first record that came back by its digest with another value than the one that it was last evicted with.
use Rattle.std.specs.Prelude.{ℕ, Bool, true, false, List, [], ◌∷◌, Option, Some, None, if◌then◌else◌}
use Rattle.std.specs.Option.{option_or}
use Rattle.tree_keys.specs.Path.{same_path}
use Rattle.record_text.specs.declared.value.Value.{Value}
use Rattle.record_text.specs.Value.{node_side}
use Rattle.record_text.specs.Texts.{value_text}
use Rattle.verifier_cache.specs.declared.entry.Entry.{Entry}
use Rattle.record_text.specs.Same.{same_bytes}
use Rattle.verifier_commands.specs.Changes.{Parent, above, leads_to}
use Rattle.verifier_commands.specs.Change.{Change, did_add_m, did_evict_m, did_add_b, did_evict_b, did_evict_bm, did_get, did_put, did_next_epoch}

-- the value that the last evictM of each path took out of a cache, if there was one
abbrev pub LastEvicted : Type 0
LastEvicted = List Bool → Option Value

-- before any evictM
abbrev pub none_evicted : LastEvicted
none_evicted = λ path. None

-- what was last evicted, once an evictM took this value out of this path
abbrev pub with_last_evicted : LastEvicted → List Bool → Value → LastEvicted
with_last_evicted last path value = λ other. if same_path path other then Some value else last other

-- what was last evicted, once this was done
abbrev pub last_evicted_after : LastEvicted → Change → LastEvicted
last_evicted_after last (did_add_m parent after child) = last
last_evicted_after last (did_evict_m parent after child) = with_last_evicted last child.path child.value
last_evicted_after last (did_add_b child element) = last
last_evicted_after last (did_evict_b child element) = last
last_evicted_after last (did_evict_bm parent after child element) = last
last_evicted_after last (did_get entry) = last
last_evicted_after last (did_put before after) = last
last_evicted_after last (did_next_epoch sealed) = last

-- the parent's pointer already led to the path
abbrev pub is_known : Option Parent → List Bool → Bool
is_known None path = false
is_known (Some parent) path = leads_to (node_side parent.node parent.on) path

-- two strings that are to have one digest: what went out, and what came in for it
abbrev pub Strings : Type 0
Strings = List ℕ × List ℕ

-- the texts of what an evictM took out and what was then added, if they differ
abbrev pub differing : Option Value → Value → Option Strings
differing None added = None
differing (Some evicted) added =
    if same_bytes (value_text evicted) (value_text added)
    then None
    else Some (value_text evicted, value_text added)

-- what an addM shows: the child came in where the parent's pointer led to it, with another value than the last
-- evictM took out
abbrev pub clash_at : LastEvicted → Bool → Entry → Option Strings
clash_at last false child = None
clash_at last true child = differing (last child.path) child.value

abbrev pub clash_of : LastEvicted → Change → Option Strings
clash_of last (did_add_m parent after child) = clash_at last (is_known (above parent child.path) child.path) child
clash_of last (did_evict_m parent after child) = None
clash_of last (did_add_b child element) = None
clash_of last (did_evict_b child element) = None
clash_of last (did_evict_bm parent after child element) = None
clash_of last (did_get entry) = None
clash_of last (did_put before after) = None
clash_of last (did_next_epoch sealed) = None

-- The first clash among what was done.
abbrev pub first_clash : LastEvicted → List Change → Option Strings
first_clash last [] = None
first_clash last (change ∷ changes) =
    option_or (clash_of last change) (first_clash (last_evicted_after last change) changes)
