-- Clashes are found path by path: where the events that touch a path show none, for each path, all events show none.
use Rattle.std.proofs.Common.{◌≡◌, Bool, true, false, cond, List, [], ◌∷◌, ◌++◌, Option, Some, None, refl, sym, ◌∙◌, ap, if◌then◌else◌}
use Rattle.std.specs.Option.{option_or}
use Rattle.std.proofs.lemmas.Bool.{cond-true, cond-false}
use Rattle.std.proofs.lemmas.Option.{none-some}
use Rattle.tree_keys.specs.Path.{same_path}
use Rattle.tree_keys.proofs.PathLaws.{same_path-self}
use Rattle.record_text.specs.declared.value.Value.{Value}
use Rattle.verifier_cache.specs.declared.entry.Entry.{Entry}
use Rattle.verifier_commands.specs.Changes.{above}
use Rattle.verifier_commands.specs.Change.{Change, did_add_m, did_evict_m, did_add_b, did_evict_b, did_evict_bm, did_get, did_put, did_next_epoch}
use Rattle.soundness.specs.History.{Event}
use Rattle.soundness.specs.Clash.{LastEvicted, last_evicted_after, with_last_evicted, is_known, Strings, differing, clash_at, clash_of, first_clash}
use Rattle.soundness.specs.World.{changes_in, last_evicted_behind}
use Rattle.host_core.specs.Clear.{touches, touching}

-- two options of which neither is there
either_none : (a b : Option Strings) → option_or a b ≡ None → (a ≡ None) × (b ≡ None)
either_none None b is = (refl, is)
either_none (Some strings) b is = absurd (none-some strings (sym is))

both_none : (a b : Option Strings) → a ≡ None → b ≡ None → option_or a b ≡ None
both_none a b a_is b_is = ap (λ (o : Option Strings). option_or o b) a_is ∙ b_is

module _ where
  -- clashes of changes behind changes
  pub clash-append : (last : LastEvicted) (xs ys : List Event) → first_clash last (changes_in xs) ≡ None
      → first_clash (last_evicted_behind last (changes_in xs)) (changes_in ys) ≡ None
      → first_clash last (changes_in (xs ++ ys)) ≡ None
  clash-append last [] ys first more = more
  clash-append last (x ∷ xs) ys first more =
      let none = either_none (clash_of last x.change) (first_clash (last_evicted_after last x.change) (changes_in xs)) first in
      both_none (clash_of last x.change) (first_clash (last_evicted_after last x.change) (changes_in (xs ++ ys))) none.0
      (clash-append (last_evicted_after last x.change) xs ys none.1 more)

  pub last-append : (last : LastEvicted) (xs ys : List Event)
      → last_evicted_behind last (changes_in (xs ++ ys)) ≡ last_evicted_behind (last_evicted_behind last (changes_in xs)) (changes_in ys)
  last-append last [] ys = refl
  last-append last (x ∷ xs) ys = last-append (last_evicted_after last x.change) xs ys

  -- a front of what shows none shows none
  pub clash-front : (last : LastEvicted) (xs ys : List Event) → first_clash last (changes_in (xs ++ ys)) ≡ None
      → first_clash last (changes_in xs) ≡ None
  clash-front last [] ys is = refl
  clash-front last (x ∷ xs) ys is =
      let none = either_none (clash_of last x.change) (first_clash (last_evicted_after last x.change) (changes_in (xs ++ ys))) is in
      both_none (clash_of last x.change) (first_clash (last_evicted_after last x.change) (changes_in xs)) none.0
      (clash-front (last_evicted_after last x.change) xs ys none.1)

  -- ---- path by path

  -- what was last evicted of each path, told of the events that touch it, is what was last evicted
  abbrev Agree : LastEvicted → (List Bool → LastEvicted) → Type 0
  Agree last lasts = (path : List Bool) → lasts path path ≡ last path

  -- the events that touch each path show none
  abbrev ShowNone : (List Bool → LastEvicted) → List Event → Type 0
  ShowNone lasts events = (path : List Bool) → first_clash (lasts path) (changes_in (touching path events)) ≡ None

  -- a clash of a child depends on its own path alone
  same_clash : (last other : LastEvicted) (known : Bool) (child : Entry) → last child.path ≡ other child.path
      → clash_at last known child ≡ clash_at other known child
  same_clash last other false child same = refl
  same_clash last other true child same = ap (λ (o : Option Value). differing o child.value) same

  -- an event that doesn't clash and evicts nothing by its digest, where those behind it show none
  pass : (event : Event) (b : Bool) (last : LastEvicted) (rest : List Event)
      → last_evicted_after last event.change ≡ last
      → first_clash last (changes_in (cond b (event ∷ rest) rest)) ≡ None
      → first_clash last (changes_in rest) ≡ None
  pass event true last rest same is =
      ap (λ (l : LastEvicted). first_clash l (changes_in rest)) (sym same)
      ∙ (either_none (clash_of last event.change) (first_clash (last_evicted_after last event.change) (changes_in rest)) is).1
  pass event false last rest same is = is

  -- Where the events that touch each path show no clash, all events show none.
  pub by_paths : (last : LastEvicted) (lasts : List Bool → LastEvicted) (events : List Event) → Agree last lasts → ShowNone lasts events
      → first_clash last (changes_in events) ≡ None
  by_paths last lasts [] agree none = refl
  by_paths last lasts (event ∷ events) agree none =
      go event.change refl (λ last lasts agree none. by_paths last lasts events agree none)
    where
      Further : Type 0
      Further = (last : LastEvicted) (lasts : List Bool → LastEvicted) → Agree last lasts → ShowNone lasts events
          → first_clash last (changes_in events) ≡ None

      Whole : Change → Type 0
      Whole change = option_or (clash_of last change) (first_clash (last_evicted_after last change) (changes_in events)) ≡ None

      -- a change that touches nothing
      skip : (change : Change) → event.change ≡ change → ((path : List Bool) → touches path change ≡ false)
          → Further → first_clash last (changes_in events) ≡ None
      skip change is apart further =
          further last lasts agree (λ path.
          ap (λ (zs : List Event). first_clash (lasts path) (changes_in zs))
          (sym (cond-false (touches path event.change) (event ∷ touching path events) (touching path events)
          (ap (touches path) is ∙ apart path)))
          ∙ none path)

      go : (change : Change) → event.change ≡ change → Further → Whole change
      go (did_add_m parent after child) is further =
          both_none (clash_at last known child) (first_clash last (changes_in events)) here
          (further last lasts agree (λ path.
          pass event (touches path event.change) (lasts path) (touching path events)
          (ap (last_evicted_after (lasts path)) is) (none path)))
        where
          known : Bool
          known = is_known (above parent child.path) child.path

          own : touches child.path event.change ≡ true
          own = ap (touches child.path) is ∙ same_path-self child.path

          at_own : first_clash (lasts child.path) (changes_in (event ∷ touching child.path events)) ≡ None
          at_own = ap (λ (zs : List Event). first_clash (lasts child.path) (changes_in zs))
              (sym (cond-true (touches child.path event.change) (event ∷ touching child.path events) (touching child.path events) own))
              ∙ none child.path

          here : clash_at last known child ≡ None
          here =
              same_clash last (lasts child.path) known child (sym (agree child.path))
              ∙ ap (clash_of (lasts child.path)) (sym is)
              ∙ (either_none (clash_of (lasts child.path) event.change)
              (first_clash (last_evicted_after (lasts child.path) event.change) (changes_in (touching child.path events))) at_own).0
      go (did_evict_m parent after child) is further =
          further (with_last_evicted last child.path child.value) next
          (λ path. agree_next path (same_path child.path path) refl)
          (λ path. none_next path (same_path child.path path) refl (none path))
        where
          next : List Bool → LastEvicted
          next path = if same_path child.path path then with_last_evicted (lasts path) child.path child.value else lasts path

          agree_next : (path : List Bool) (b : Bool) → same_path child.path path ≡ b
              → next path path ≡ with_last_evicted last child.path child.value path
          agree_next path true same =
              ap (λ (b : Bool). (if b then with_last_evicted (lasts path) child.path child.value else lasts path) path) same
              ∙ ap (λ (b : Bool). if b then Some child.value else lasts path path) same
              ∙ sym (ap (λ (b : Bool). if b then Some child.value else last path) same)
          agree_next path false apart =
              ap (λ (b : Bool). (if b then with_last_evicted (lasts path) child.path child.value else lasts path) path) apart
              ∙ agree path
              ∙ sym (ap (λ (b : Bool). if b then Some child.value else last path) apart)

          none_next : (path : List Bool) (b : Bool) → same_path child.path path ≡ b
              → first_clash (lasts path) (changes_in (cond (touches path event.change) (event ∷ touching path events) (touching path events))) ≡ None
              → first_clash (next path) (changes_in (touching path events)) ≡ None
          none_next path true same is_none =
              ap (λ (b : Bool). first_clash (if b then with_last_evicted (lasts path) child.path child.value else lasts path) (changes_in (touching path events))) same
              ∙ ap (λ (c : Change). first_clash (last_evicted_after (lasts path) c) (changes_in (touching path events))) (sym is)
              ∙ (either_none (clash_of (lasts path) event.change)
              (first_clash (last_evicted_after (lasts path) event.change) (changes_in (touching path events)))
              (ap (λ (zs : List Event). first_clash (lasts path) (changes_in zs))
              (sym (cond-true (touches path event.change) (event ∷ touching path events) (touching path events) (ap (touches path) is ∙ same)))
              ∙ is_none)).1
          none_next path false apart is_none =
              ap (λ (b : Bool). first_clash (if b then with_last_evicted (lasts path) child.path child.value else lasts path) (changes_in (touching path events))) apart
              ∙ ap (λ (zs : List Event). first_clash (lasts path) (changes_in zs))
              (sym (cond-false (touches path event.change) (event ∷ touching path events) (touching path events) (ap (touches path) is ∙ apart)))
              ∙ is_none
      go (did_add_b child element) is further = skip (did_add_b child element) is (λ path. refl) further
      go (did_evict_b child element) is further = skip (did_evict_b child element) is (λ path. refl) further
      go (did_evict_bm parent after child element) is further = skip (did_evict_bm parent after child element) is (λ path. refl) further
      go (did_get entry) is further = skip (did_get entry) is (λ path. refl) further
      go (did_put before after) is further = skip (did_put before after) is (λ path. refl) further
      go (did_next_epoch sealed) is further = skip (did_next_epoch sealed) is (λ path. refl) further
