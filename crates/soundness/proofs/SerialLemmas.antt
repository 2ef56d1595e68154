-- A run in which each element that comes was waiting is serial, or its first clash is a collision.
use Rattle.std.proofs.Common.{◌≡◌, ◌≢◌, ◌⊎◌, ℕ, zero, suc, ◌≤◌, Bool, true, false, List, [], ◌∷◌, map, Option, Some, None, is_some, IsNone, refl, sym, ◌∙◌, ap, subst, inl, inr, arith, eqb}
use Rattle.std.specs.Option.{option_or}
use Rattle.std.specs.Map.{update}
use Rattle.std.proofs.lemmas.Bool.{true≢false}
use Rattle.tree_keys.specs.Path.{key_of}
use Rattle.record_text.specs.declared.element.Element.{Element}
use Rattle.merkle_records.specs.Merkle.{Digest, GivesDigests}
use Rattle.stamp_order.specs.Serial.{IsSerialFrom}
use Rattle.verifier_cache.specs.declared.entry.Entry.{Entry}
use Rattle.verifier_commands.specs.Outcome.{blob_of}
use Rattle.verifier_commands.specs.Change.{Change, did_add_m, did_evict_m, did_add_b, did_evict_b, did_evict_bm, did_get, did_put, did_next_epoch}
use Rattle.soundness.specs.History.{Event}
use Rattle.soundness.specs.Certified.{operations_in}
use Rattle.soundness.specs.Clash.{LastEvicted, Strings, last_evicted_after, clash_of, first_clash}
use Rattle.soundness.specs.Collision.{IsCollision}
use Rattle.soundness.specs.Permutation.{same_element, count_of, without_one}
use Rattle.soundness.specs.Scheduled.{IsScheduledBy, IsScheduled}
use Rattle.soundness.specs.Showing.{Shown, DidAddM, HasDone, shown_after, IsFresh}
use Rattle.soundness.specs.Spot.{Spot, untouched, cached, merkle, waiting, Spots, IsKind}
use Rattle.soundness.specs.World.{cached_in, AllShown, with_shown, Stored, IsWorld, IsWaiting, TakesWhatIsThere}
use Rattle.soundness.proofs.PermutationLaws.{same_element-true, same_element-self, one_more, count_without}
use Rattle.soundness.proofs.MovedLemmas.{this_or_other}
use Rattle.soundness.proofs.WorldLemmas.{spot_of_shown}
use Rattle.soundness.proofs.JoinLemmas.{KeepsWaiting, KeepsElsewhere, not_waiting}
use Rattle.soundness.proofs.KnownLemmas.{HasOneText, Clashes, Passes, join_step, join_takes}
use Rattle.soundness.proofs.LeaveLemmas.{LeftAt, leave_step, defer_step}
use Rattle.soundness.proofs.SingleLemmas.{come_step, go_step, same_step, read_value, write_step}
use Rattle.soundness.proofs.RunLemmas.{IsRun}

-- ---- what waits

-- the element that waits at a spot, or this one
abbrev element_at : Element → Spot → Element
element_at other untouched = other
element_at other (cached verifier entry) = other
element_at other (merkle value) = other
element_at other (waiting held) = held

pub wait_on : (old new : Spots) (pending : List Element) → KeepsWaiting old new → KeepsWaiting new old
    → IsWaiting old pending → IsWaiting new pending
wait_on old new pending keeps since waits = record {
  each = λ x there. keeps x.path x (waits.each x there);
  once = waits.once;
  only = λ path x there. waits.only path x (since path x there);
}

-- one element more waits, where its record didn't
pub wait_more : (old new : Spots) (pending : List Element) (element : Element) → KeepsWaiting old new → new element.path ≡ waiting element
    → KeepsElsewhere element.path new old → ((x : Element) → old element.path ≡ waiting x → ⊥) → IsWaiting old pending → IsWaiting new (element ∷ pending)
wait_more old new pending element keeps at since free waits = record {
  each = λ x. each x (same_element x element) refl;
  once = λ x. once x (same_element x element) refl (count_of x pending) refl;
  only = λ path x there. only path x there (this_or_other element.path path);
}
  where
    each : (x : Element) (b : Bool) → same_element x element ≡ b → 1 ≤ count_of x (element ∷ pending) → new x.path ≡ waiting x
    each x true same there =
        let is_it : x ≡ element = same_element-true x element same in
        subst (λ (y : Element). new y.path ≡ waiting y) (sym is_it) at
    each x false apart there = keeps x.path x (waits.each x (subst (λ (b : Bool). 1 ≤ one_more b (count_of x pending)) apart there))

    once : (x : Element) (b : Bool) → same_element x element ≡ b → (n : ℕ) → count_of x pending ≡ n → count_of x (element ∷ pending) ≤ 1
    once x false apart n is = subst (λ (b : Bool). one_more b (count_of x pending) ≤ 1) (sym apart) (waits.once x)
    once x true same zero is = subst (λ (b : Bool). one_more b (count_of x pending) ≤ 1) (sym same) (omega (arith, is))
    once x true same (suc n) is =
        absurd (free x (subst (λ (y : Element). old y.path ≡ waiting x) (same_element-true x element same) (waits.each x (omega (arith, is)))))

    counted : (x : Element) (b : Bool) → 1 ≤ count_of x pending → 1 ≤ one_more b (count_of x pending)
    counted x true there = omega arith
    counted x false there = there

    only : (path : List Bool) (x : Element) → new path ≡ waiting x → (element.path ≡ path) ⊎ (element.path ≢ path) → 1 ≤ count_of x (element ∷ pending)
    only path x there (inl same) =
        let is_it : x ≡ element = ap (element_at element) (sym there ∙ ap new (sym same) ∙ at) in
        subst (λ (b : Bool). 1 ≤ one_more b (count_of x pending))
        (sym (ap (λ (y : Element). same_element y element) is_it ∙ same_element-self element)) (omega arith)
    only path x there (inr away) = counted x (same_element x element) (waits.only path x (since path x away there))

-- an element that waited came back
pub wait_less : (old new : Spots) (pending rest : List Element) (element : Element) → without_one element pending ≡ Some rest
    → KeepsElsewhere element.path old new
    → ((path : List Bool) (x : Element) → new path ≡ waiting x → (element.path ≢ path) × (old path ≡ waiting x))
    → ((path : List Bool) (x : Element) → old path ≡ waiting x → x.path ≡ path)
    → IsWaiting old pending → IsWaiting new rest
wait_less old new pending rest element out keeps since own waits = record { each = each; once = once; only = only }
  where
    counted : (x : Element) → count_of x pending ≡ one_more (same_element x element) (count_of x rest)
    counted x = count_without x element pending rest out

    fewer : (b : Bool) (n : ℕ) → n ≤ one_more b n
    fewer true n = omega arith
    fewer false n = omega arith

    here : count_of element pending ≡ suc (count_of element rest)
    here = counted element ∙ ap (λ (b : Bool). one_more b (count_of element rest)) (same_element-self element)

    each : (x : Element) → 1 ≤ count_of x rest → new x.path ≡ waiting x
    each x there = keeps x.path x apart was
      where
        was : old x.path ≡ waiting x
        was = waits.each x (subst (λ (n : ℕ). 1 ≤ n) (sym (counted x)) (omega (arith, there, fewer (same_element x element) (count_of x rest))))

        apart : element.path ≢ x.path
        apart same =
            let is_it : element ≡ x = ap (element_at element) (sym (waits.each element (omega (arith, here))) ∙ ap old same ∙ was) in
            omega (arith, waits.once element, here, subst (λ (y : Element). 1 ≤ count_of y rest) (sym is_it) there)

    once : (x : Element) → count_of x rest ≤ 1
    once x = omega (arith, waits.once x, counted x, fewer (same_element x element) (count_of x rest))

    left : (x : Element) (b : Bool) → same_element x element ≡ b → element.path ≢ x.path → 1 ≤ one_more b (count_of x rest) → 1 ≤ count_of x rest
    left x true same apart there = absurd (apart (sym (ap (λ (y : Element). y.path) (same_element-true x element same))))
    left x false other apart there = there

    only : (path : List Bool) (x : Element) → new path ≡ waiting x → 1 ≤ count_of x rest
    only path x there =
        let was = since path x there in
        left x (same_element x element) refl (λ same. was.0 (same ∙ own path x was.1))
        (subst (λ (n : ℕ). 1 ≤ n) (counted x) (waits.only path x was.1))

-- an element that can be taken out is there
pub waits_once_out : (element : Element) (pending rest : List Element) → without_one element pending ≡ Some rest → 1 ≤ count_of element pending
waits_once_out element pending rest out =
    subst (λ (n : ℕ). 1 ≤ n) (sym (count_without element element pending rest out ∙ ap (λ (b : Bool). one_more b (count_of element rest)) (same_element-self element))) (omega arith)

-- an element that waits is of its path
pub waits_own : (wide : Bool) (longest : ℕ) (digest : Digest) (shown : AllShown) (last : LastEvicted) (stored : Stored) (spots : Spots) → IsWorld wide longest digest shown last stored spots
    → (path : List Bool) (x : Element) → spots path ≡ waiting x → x.path ≡ path
waits_own wide longest digest shown last stored spots world path x there = (subst (IsKind longest path) there (world.tree.kind path)).0

-- a record that goes with an element stood in the cache, so it didn't wait
pub free_at : (wide : Bool) (longest : ℕ) (digest : Digest) (shown : AllShown) (last : LastEvicted) (stored : Stored) (spots : Spots) (home : ℕ) (child : Entry) (element : Element)
    → IsWorld wide longest digest shown last stored spots → shown home child.path ≡ Some child → element.path ≡ child.path
    → (x : Element) → spots element.path ≡ waiting x → ⊥
free_at wide longest digest shown last stored spots home child element world had path x there =
    not_waiting (spots element.path) (cached home child) x
    (ap spots path ∙ spot_of_shown home (spots child.path) child (sym (world.shows home child.path) ∙ had)) refl there

-- ---- what comes

-- What comes takes what is there, where it shows no clash.
pub takes_there : (wide : Bool) (longest : ℕ) (digest : Digest) → HasOneText longest → (home : ℕ) (shown : AllShown) (next : Shown)
    (last : LastEvicted) (stored : Stored) (spots : Spots) (pending : List Element) (behind : List Element → Type 0)
    → IsWorld wide longest digest shown last stored spots → IsWaiting spots pending
    → (change : Change) → HasDone longest digest (shown home) next change → IsScheduledBy pending change behind
    → clash_of last change ≡ None
    → TakesWhatIsThere last spots change
takes_there wide longest digest one home shown next last stored spots pending behind world waits = go
  where
    joined : (parent after child : Entry) → (spots child.path ≡ untouched) ⊎ (spots child.path ≡ merkle child.value)
        → TakesWhatIsThere last spots (did_add_m parent after child)
    joined parent after child (inl is) = inl is
    joined parent after child (inr is) = inr (is, world.was_evicted child.path child.value is)

    go : (change : Change) → HasDone longest digest (shown home) next change → IsScheduledBy pending change behind
        → clash_of last change ≡ None → TakesWhatIsThere last spots change
    go (did_add_m parent after child) did scheduled free =
        joined parent after child
        (join_takes wide longest digest shown last stored spots home next parent after child one world did free)
    go (did_evict_m parent after child) did scheduled free = tt
    go (did_add_b child element) did scheduled free =
        let there = waits.each element (waits_once_out element pending scheduled.0 scheduled.1) in
        (ap (λ (e : Entry). spots e.path) did.came_as ∙ there, ap (λ (e : Entry). e.value) did.came_as)
    go (did_evict_b child element) did scheduled free = tt
    go (did_evict_bm parent after child element) did scheduled free = tt
    go (did_get entry) did scheduled free = tt
    go (did_put before after) did scheduled free = tt
    go (did_next_epoch sealed) did scheduled free = tt

-- What takes what is there comes to a path that no cache shows.
pub fresh_there : (wide : Bool) (longest : ℕ) (digest : Digest) (shown : AllShown) (last : LastEvicted) (stored : Stored) (spots : Spots)
    (home : ℕ) → IsWorld wide longest digest shown last stored spots
    → (change : Change) → TakesWhatIsThere last spots change → IsFresh (shown home) change
fresh_there wide longest digest shown last stored spots home world = go
  where
    not_shown : (path : List Bool) (spot : Spot) → spots path ≡ spot → cached_in home spot ≡ None → IsNone (shown home path)
    not_shown path spot is none =
        ap (λ (o : Option Entry). is_some o) (world.shows home path ∙ ap (cached_in home) is ∙ none)

    go : (change : Change) → TakesWhatIsThere last spots change → IsFresh (shown home) change
    go (did_add_m parent after child) (inl is) = not_shown child.path untouched is refl
    go (did_add_m parent after child) (inr is) = not_shown child.path (merkle child.value) is.0 refl
    go (did_add_b child element) takes = not_shown child.path (waiting element) takes.0 refl
    go (did_evict_m parent after child) takes = tt
    go (did_evict_b child element) takes = tt
    go (did_evict_bm parent after child element) takes = tt
    go (did_get entry) takes = tt
    go (did_put before after) takes = tt
    go (did_next_epoch sealed) takes = tt

-- ---- the run

-- the first clash is a collision
abbrev pub Collides : Digest → LastEvicted → List Event → Type 0
Collides digest last events =
    (strings : Strings) × (first_clash last (map (λ (event : Event). event.change) events) ≡ Some strings) × IsCollision digest strings

-- there is no clash, and the operations are serial
abbrev pub IsSound : LastEvicted → Stored → List Event → Type 0
IsSound last stored events =
    (first_clash last (map (λ (event : Event). event.change) events) ≡ None) × IsSerialFrom stored (operations_in events)

-- behind a change that shows no clash
abbrev CollidesBehind : Digest → LastEvicted → Change → List Event → Type 0
CollidesBehind digest last change events =
    (strings : Strings) × (option_or (clash_of last change) (first_clash (last_evicted_after last change) (map (λ (event : Event). event.change) events)) ≡ Some strings) × IsCollision digest strings

abbrev IsFree : LastEvicted → Change → List Event → Type 0
IsFree last change events =
    option_or (clash_of last change) (first_clash (last_evicted_after last change) (map (λ (event : Event). event.change) events)) ≡ None

pub run_keeps : (wide : Bool) (longest : ℕ) (digest : Digest) → HasOneText longest → GivesDigests digest → (events : List Event) (shown : AllShown) (last : LastEvicted) (stored : Stored) (spots : Spots) (pending : List Element)
    → IsWorld wide longest digest shown last stored spots → IsWaiting spots pending → IsRun longest digest shown events → IsScheduled pending events
    → Collides digest last events ⊎ IsSound last stored events
run_keeps wide longest digest one digests [] shown last stored spots pending world waits run scheduled = inr (refl, tt)
run_keeps wide longest digest one digests (event ∷ events) shown last stored spots pending world waits run scheduled =
    go (λ last stored spots pending world waits run scheduled.
    run_keeps wide longest digest one digests events next_shown last stored spots pending world waits run scheduled)
    event.change run.1 run.0 scheduled
  where
    next : Shown
    next = shown_after (shown event.verifier) event.change

    next_shown : AllShown
    next_shown = with_shown shown event.verifier next

    Further : Type 0
    Further =
        (last : LastEvicted) (stored : Stored) (spots : Spots) (pending : List Element)
        → IsWorld wide longest digest next_shown last stored spots → IsWaiting spots pending → IsRun longest digest next_shown events → IsScheduled pending events
        → Collides digest last events ⊎ IsSound last stored events

    -- what follows is a run, where an add is of a path that isn't shown
    RunsOn : Change → Type 0
    RunsOn change = IsFresh (shown event.verifier) change → IsRun longest digest next_shown events

    Behind : Change → Type 0
    Behind change = CollidesBehind digest last change events ⊎ (IsFree last change events × IsSerialFrom stored (operations_in (record event { change = change } ∷ events)))

    -- what holds behind a change without clash and operation
    plain : (change : Change) → clash_of last change ≡ None
        → (IsSerialFrom stored (operations_in events) → IsSerialFrom stored (operations_in (record event { change = change } ∷ events)))
        → Collides digest (last_evicted_after last change) events ⊎ IsSound (last_evicted_after last change) stored events → Behind change
    plain change free same (inl collides) = inl (collides.0, first collides.1, collides.2)
      where
        first : {x : Option Strings} → first_clash (last_evicted_after last change) (map (λ (event : Event). event.change) events) ≡ x
            → option_or (clash_of last change) (first_clash (last_evicted_after last change) (map (λ (event : Event). event.change) events)) ≡ x
        first is = ap (λ (o : Option Strings). option_or o (first_clash (last_evicted_after last change) (map (λ (event : Event). event.change) events))) free ∙ is
    plain change free same (inr sound) = inr (
      ap (λ (o : Option Strings). option_or o (first_clash (last_evicted_after last change) (map (λ (event : Event). event.change) events))) free ∙ sound.0,
      same sound.1,
    )

    joined : Further → (parent after child : Entry) → RunsOn (did_add_m parent after child) → DidAddM longest digest (shown event.verifier) next parent after child → IsScheduled pending events
        → Clashes digest last (did_add_m parent after child) ⊎ Passes wide longest digest next_shown last last stored spots (did_add_m parent after child)
        → Behind (did_add_m parent after child)
    joined further parent after child on did scheduled (inl clashes) = inl (
      clashes.0,
      ap (λ (o : Option Strings). option_or o (first_clash last (map (λ (event : Event). event.change) events))) clashes.1,
      clashes.2,
    )
    joined further parent after child on did scheduled (inr passes) =
        let world_then = passes.1 in
        let takes = takes_there wide longest digest one event.verifier shown next last stored spots pending (λ after. IsScheduled after events) world waits (did_add_m parent after child) did scheduled passes.0 in
        let fresh = fresh_there wide longest digest shown last stored spots event.verifier world (did_add_m parent after child) takes in
        plain (did_add_m parent after child) passes.0 (λ serial. serial)
        (further last stored world_then.0 pending world_then.1 (wait_on spots world_then.0 pending world_then.2 world_then.3 waits) (on fresh) scheduled)

    went : Further → (change : Change) (element : Element) → IsRun longest digest next_shown events → clash_of last change ≡ None → last_evicted_after last change ≡ last
        → (IsSerialFrom stored (operations_in events) → IsSerialFrom stored (operations_in (record event { change = change } ∷ events)))
        → ((x : Element) → spots element.path ≡ waiting x → ⊥)
        → LeftAt wide longest digest next_shown last stored spots element.path (waiting element) → IsScheduled (element ∷ pending) events → Behind change
    went further change element run none same quiet free left scheduled =
        plain change none quiet
        (subst (λ (t : LastEvicted). Collides digest t events ⊎ IsSound t stored events) (sym same)
        (further last stored left.0 (element ∷ pending) left.1 (wait_more spots left.0 pending element left.2 left.3 left.4 free waits) run scheduled))

    go : Further → (change : Change) → RunsOn change → HasDone longest digest (shown event.verifier) next change → IsScheduledBy pending change (λ after. IsScheduled after events) → Behind change
    go further (did_add_m parent after child) on did scheduled =
        joined further parent after child on did scheduled (join_step wide longest digest shown last stored spots event.verifier next parent after child one digests world did)
    go further (did_evict_m parent after child) on did scheduled =
        let world_then = leave_step wide longest digest shown last stored spots event.verifier next parent after child digests world did in
        plain (did_evict_m parent after child) refl (λ serial. serial)
        (further (last_evicted_after last (did_evict_m parent after child)) stored world_then.0 pending world_then.1 (wait_on spots world_then.0 pending world_then.2 world_then.3 waits) (on tt) scheduled)
    go further (did_add_b child element) on did scheduled =
        let takes = takes_there wide longest digest one event.verifier shown next last stored spots pending (λ after. IsScheduled after events) world waits (did_add_b child element) did scheduled refl in
        let fresh = fresh_there wide longest digest shown last stored spots event.verifier world (did_add_b child element) takes in
        let back = come_step wide longest digest shown last stored spots event.verifier next child element world did (waits.each element (waits_once_out element pending scheduled.0 scheduled.1)) in
        plain (did_add_b child element) refl (λ serial. serial)
        (further last stored back.0 scheduled.0 back.1 (wait_less spots back.0 pending scheduled.0 element scheduled.1 back.2 back.3 (waits_own wide longest digest shown last stored spots world) waits) (on fresh) scheduled.2)
    go further (did_evict_b child element) on did scheduled =
        went further (did_evict_b child element) element (on tt) refl refl (λ serial. serial) (free_at wide longest digest shown last stored spots event.verifier child element world did.had_child did.path)
        (go_step wide longest digest shown last stored spots event.verifier next child element world did) scheduled
    go further (did_evict_bm parent after child element) on did scheduled =
        went further (did_evict_bm parent after child element) element (on tt) refl refl (λ serial. serial) (free_at wide longest digest shown last stored spots event.verifier child element world did.had_child did.path)
        (defer_step wide longest digest shown last stored spots event.verifier next parent after child element world did) scheduled
    go further (did_get entry) on did scheduled =
        plain (did_get entry) refl
        (λ serial. (λ get. read_value wide longest digest shown last stored spots event.verifier next entry world did, serial))
        (further last stored spots pending (same_step wide longest digest shown last stored spots event.verifier next world did.shown) waits (on tt) scheduled)
    go further (did_put before after) on did scheduled =
        let world_then = write_step wide longest digest shown last stored spots event.verifier next before after world did in
        written (further last (update eqb stored (key_of after.path) (blob_of after.value)) world_then.0 pending world_then.1 (wait_on spots world_then.0 pending world_then.2 world_then.3 waits) (on tt) scheduled)
      where
        written : Collides digest last events ⊎ IsSound last (update eqb stored (key_of after.path) (blob_of after.value)) events → Behind (did_put before after)
        written (inl collides) = inl collides
        written (inr sound) = inr (sound.0, (λ get. absurd (true≢false get), sound.1))
    go further (did_next_epoch sealed) on did scheduled =
        plain (did_next_epoch sealed) refl (λ serial. serial)
        (further last stored spots pending (same_step wide longest digest shown last stored spots event.verifier next world did) waits (on tt) scheduled)
