-- What soundness knows of a step of a verifier: what its cache shows before and after, by what was done.
use Rattle.std.specs.Prelude.{◌≡◌, ◌⊎◌, ℕ, Bool, false, List, Option, Some, None, IsNone, Ok, if◌then◌else◌}
use Rattle.tree_keys.specs.Path.{same_path, IsData}
use Rattle.lamport_clocks.specs.declared.header.Header.{Header}
use Rattle.record_text.specs.declared.value.Value.{Value}
use Rattle.record_text.specs.declared.element.Element.{Element}
use Rattle.record_text.specs.Value.{IsOf}
use Rattle.merkle_records.specs.Merkle.{Digest}
use Rattle.verifier_cache.specs.declared.entry.Entry.{Entry}
use Rattle.verifier_cache.specs.declared.entry.Hold.TheVariants.{B}
use Rattle.verifier_cache.specs.Entry.{has_kid, new_entry, with_value}
use Rattle.verifier_cache.specs.Cache.{entry_of}
use Rattle.verifier_commands.specs.declared.state.State.{State}
use Rattle.verifier_commands.specs.State.{opening}
use Rattle.verifier_commands.specs.Changes.{add_under, evict_under, defer_under, absent_under}
use Rattle.verifier_commands.specs.Change.{Change, did_add_m, did_evict_m, did_add_b, did_evict_b, did_evict_bm, did_get, did_put, did_next_epoch}

-- what a cache shows of each path
abbrev pub Shown : Type 0
Shown = List Bool → Option Entry

-- what the cache of a state shows
abbrev pub shown_by : State → Shown
shown_by state = λ path. entry_of path state.cache.entries

-- what the cache of each verifier shows at the start
abbrev pub opening_shown : Header → ℕ → Shown
opening_shown header = λ number. shown_by (opening number header)

-- with this entry of a path, or none
abbrev pub showing : Shown → List Bool → Option Entry → Shown
showing shown path entry = λ other. if same_path path other then entry else shown other

-- they show the same of each path
abbrev pub ShowSame : Shown → Shown → Type 0
ShowSame a b = (path : List Bool) → a path ≡ b path

-- with this child under this parent
abbrev pub showing_both : Shown → Entry → List Bool → Option Entry → Shown
showing_both shown parent path child = showing (showing shown parent.path (Some parent)) path child

-- a child came in under its parent, with this value
pub record DidAddM (longest : ℕ) (digest : Digest) (old new : Shown) (parent after child : Entry) : Type 0 where
  pub value : Value
  pub had_parent : old parent.path ≡ Some parent
  pub kind : IsOf longest child.path value
  pub added : add_under digest parent child.path value ≡ Ok (record { parent = after; child = child })
  pub shown : ShowSame new (showing_both old after child.path (Some child))

-- a child left into its parent
pub record DidEvictM (digest : Digest) (old new : Shown) (parent after child : Entry) : Type 0 where
  pub had_parent : old parent.path ≡ Some parent
  pub had_child : old child.path ≡ Some child
  pub evicted : evict_under digest parent child ≡ Ok after
  pub shown : ShowSame new (showing_both old after child.path None)

-- a record came in with its element
pub record DidAddB (longest : ℕ) (old new : Shown) (child : Entry) (element : Element) : Type 0 where
  pub came_as : child ≡ new_entry element.path element.value B
  pub kind : IsOf longest element.path element.value
  pub shown : ShowSame new (showing old child.path (Some child))

-- a record went out with an element
pub record DidEvictB (old new : Shown) (child : Entry) (element : Element) : Type 0 where
  pub had_child : old child.path ≡ Some child
  pub kids : has_kid child ≡ false
  pub hold : child.hold ≡ B
  pub path : element.path ≡ child.path
  pub value : element.value ≡ child.value
  pub shown : ShowSame new (showing old child.path None)

-- a child went out of its parent with an element
pub record DidEvictBM (old new : Shown) (parent after child : Entry) (element : Element) : Type 0 where
  pub had_parent : old parent.path ≡ Some parent
  pub had_child : old child.path ≡ Some child
  pub deferred : defer_under parent child ≡ Ok after
  pub path : element.path ≡ child.path
  pub value : element.value ≡ child.value
  pub shown : ShowSame new (showing_both old after child.path None)

-- an entry that a path without a record would come in with, under a parent that is shown and doesn't lead to it
pub record IsAbsent (old : Shown) (entry : Entry) : Type 0 where
  pub parent : Entry
  pub had_parent : old parent.path ≡ Some parent
  pub absent : absent_under parent entry.path ≡ Ok entry

-- a data value was read: that of an entry that is shown, or that of one that is absent
pub record DidGet (old new : Shown) (entry : Entry) : Type 0 where
  pub had : (old entry.path ≡ Some entry) ⊎ IsAbsent old entry
  pub at_data : IsData entry.path
  pub shown : ShowSame new old

-- a data value was written
pub record DidPut (longest : ℕ) (old new : Shown) (before after : Entry) : Type 0 where
  pub value : Value
  pub had : old before.path ≡ Some before
  pub at_data : IsData before.path
  pub kind : IsOf longest before.path value
  pub wrote : after ≡ with_value before value
  pub shown : ShowSame new (showing old before.path (Some after))

-- what a step did, by the change
abbrev pub HasDone : ℕ → Digest → Shown → Shown → Change → Type 0
HasDone longest digest old new (did_add_m parent after child) = DidAddM longest digest old new parent after child
HasDone longest digest old new (did_evict_m parent after child) = DidEvictM digest old new parent after child
HasDone longest digest old new (did_add_b child element) = DidAddB longest old new child element
HasDone longest digest old new (did_evict_b child element) = DidEvictB old new child element
HasDone longest digest old new (did_evict_bm parent after child element) = DidEvictBM old new parent after child element
HasDone longest digest old new (did_get entry) = DidGet old new entry
HasDone longest digest old new (did_put before after) = DidPut longest old new before after
HasDone longest digest old new (did_next_epoch sealed) = ShowSame new old

-- what a cache shows, once this was done
abbrev pub shown_after : Shown → Change → Shown
shown_after shown (did_add_m parent after child) = showing_both shown after child.path (Some child)
shown_after shown (did_evict_m parent after child) = showing_both shown after child.path None
shown_after shown (did_add_b child element) = showing shown child.path (Some child)
shown_after shown (did_evict_b child element) = showing shown child.path None
shown_after shown (did_evict_bm parent after child element) = showing_both shown after child.path None
shown_after shown (did_get entry) = shown
shown_after shown (did_put before after) = showing shown before.path (Some after)
shown_after shown (did_next_epoch sealed) = shown

-- an add is of a path that isn't shown
abbrev pub IsFresh : Shown → Change → Type 0
IsFresh shown (did_add_m parent after child) = IsNone (shown child.path)
IsFresh shown (did_evict_m parent after child) = Unit {0}
IsFresh shown (did_add_b child element) = IsNone (shown child.path)
IsFresh shown (did_evict_b child element) = Unit {0}
IsFresh shown (did_evict_bm parent after child element) = Unit {0}
IsFresh shown (did_get entry) = Unit {0}
IsFresh shown (did_put before after) = Unit {0}
IsFresh shown (did_next_epoch sealed) = Unit {0}
