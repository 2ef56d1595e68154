-- What a step does to a cache is told by its change, of any cache that shows the same.
use Rattle.std.proofs.Common.{◌≡◌, ◌⊎◌, ℕ, Bool, List, Option, Some, None, IsNone, if◌then◌else◌, refl, sym, ◌∙◌, ap, subst, inl, inr}
use Rattle.tree_keys.specs.Path.{same_path}
use Rattle.merkle_records.specs.Merkle.{Digest}
use Rattle.verifier_cache.specs.declared.entry.Entry.{Entry}
use Rattle.verifier_commands.specs.Change.{Change, did_add_m, did_evict_m, did_add_b, did_evict_b, did_evict_bm, did_get, did_put, did_next_epoch}
use Rattle.soundness.specs.Showing.{Shown, showing, ShowSame, showing_both, IsAbsent, HasDone, shown_after, IsFresh}

showing_same : (a b : Shown) (path : List Bool) (entry : Option Entry) → ShowSame a b
    → ShowSame (showing a path entry) (showing b path entry)
showing_same a b path entry same other =
    ap (λ (o : Option Entry). if same_path path other then entry else o) (same other)

both_same : (a b : Shown) (parent : Entry) (path : List Bool) (child : Option Entry) → ShowSame a b
    → ShowSame (showing_both a parent path child) (showing_both b parent path child)
both_same a b parent path child same =
    showing_same (showing a parent.path (Some parent)) (showing b parent.path (Some parent)) path child
    (showing_same a b parent.path (Some parent) same)

-- caches that show the same do so once this was done
pub told_same : (a b : Shown) → ShowSame a b → (change : Change) → ShowSame (shown_after a change) (shown_after b change)
told_same a b same (did_add_m parent after child) = both_same a b after child.path (Some child) same
told_same a b same (did_evict_m parent after child) = both_same a b after child.path None same
told_same a b same (did_add_b child element) = showing_same a b child.path (Some child) same
told_same a b same (did_evict_b child element) = showing_same a b child.path None same
told_same a b same (did_evict_bm parent after child element) = both_same a b after child.path None same
told_same a b same (did_get entry) = same
told_same a b same (did_put before after) = showing_same a b before.path (Some after) same
told_same a b same (did_next_epoch sealed) = same

-- and an add is of a path that the one doesn't show where the other doesn't
pub fresh_same : (a b : Shown) → ShowSame a b → (change : Change) → IsFresh a change → IsFresh b change
fresh_same a b same (did_add_m parent after child) fresh = subst (λ (o : Option Entry). IsNone o) (same child.path) fresh
fresh_same a b same (did_evict_m parent after child) fresh = tt
fresh_same a b same (did_add_b child element) fresh = subst (λ (o : Option Entry). IsNone o) (same child.path) fresh
fresh_same a b same (did_evict_b child element) fresh = tt
fresh_same a b same (did_evict_bm parent after child element) fresh = tt
fresh_same a b same (did_get entry) fresh = tt
fresh_same a b same (did_put before after) fresh = tt
fresh_same a b same (did_next_epoch sealed) fresh = tt

-- what a step leaves in its cache is what its change tells
pub did_shown : (longest : ℕ) (digest : Digest) (old told new : Shown) → ShowSame old told → (change : Change)
    → HasDone longest digest old new change → ShowSame new (shown_after told change)
did_shown longest digest old told new same (did_add_m parent after child) did path =
    did.shown path ∙ both_same old told after child.path (Some child) same path
did_shown longest digest old told new same (did_evict_m parent after child) did path =
    did.shown path ∙ both_same old told after child.path None same path
did_shown longest digest old told new same (did_add_b child element) did path =
    did.shown path ∙ showing_same old told child.path (Some child) same path
did_shown longest digest old told new same (did_evict_b child element) did path =
    did.shown path ∙ showing_same old told child.path None same path
did_shown longest digest old told new same (did_evict_bm parent after child element) did path =
    did.shown path ∙ both_same old told after child.path None same path
did_shown longest digest old told new same (did_get entry) did path = did.shown path ∙ same path
did_shown longest digest old told new same (did_put before after) did path =
    did.shown path ∙ showing_same old told before.path (Some after) same path
did_shown longest digest old told new same (did_next_epoch sealed) did path = did path ∙ same path

-- what was read by what one cache shows is read by what the other does
had_same : (a b : Shown) → ShowSame a b → (entry : Entry) → (a entry.path ≡ Some entry) ⊎ IsAbsent a entry
    → (b entry.path ≡ Some entry) ⊎ IsAbsent b entry
had_same a b same entry (inl had) = inl (sym (same entry.path) ∙ had)
had_same a b same entry (inr is) = inr (record {
  parent = is.parent;
  had_parent = sym (same is.parent.path) ∙ is.had_parent;
  absent = is.absent;
})

-- so it did what its change tells
pub retold : (longest : ℕ) (digest : Digest) (old told new : Shown) → ShowSame old told → (change : Change)
    → HasDone longest digest old new change → HasDone longest digest told (shown_after told change) change
retold longest digest old told new same (did_add_m parent after child) did = record {
  value = did.value;
  had_parent = sym (same parent.path) ∙ did.had_parent;
  kind = did.kind;
  added = did.added;
  shown = λ path. refl;
}
retold longest digest old told new same (did_evict_m parent after child) did = record {
  had_parent = sym (same parent.path) ∙ did.had_parent;
  had_child = sym (same child.path) ∙ did.had_child;
  evicted = did.evicted;
  shown = λ path. refl;
}
retold longest digest old told new same (did_add_b child element) did = record {
  came_as = did.came_as;
  kind = did.kind;
  shown = λ path. refl;
}
retold longest digest old told new same (did_evict_b child element) did = record {
  had_child = sym (same child.path) ∙ did.had_child;
  kids = did.kids;
  hold = did.hold;
  path = did.path;
  value = did.value;
  shown = λ path. refl;
}
retold longest digest old told new same (did_evict_bm parent after child element) did = record {
  had_parent = sym (same parent.path) ∙ did.had_parent;
  had_child = sym (same child.path) ∙ did.had_child;
  deferred = did.deferred;
  path = did.path;
  value = did.value;
  shown = λ path. refl;
}
retold longest digest old told new same (did_get entry) did = record {
  had = had_same old told same entry did.had;
  at_data = did.at_data;
  shown = λ path. refl;
}
retold longest digest old told new same (did_put before after) did = record {
  value = did.value;
  had = sym (same before.path) ∙ did.had;
  at_data = did.at_data;
  kind = did.kind;
  wrote = did.wrote;
  shown = λ path. refl;
}
retold longest digest old told new same (did_next_epoch sealed) did = λ path. refl
