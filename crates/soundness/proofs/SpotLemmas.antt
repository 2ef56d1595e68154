-- Behind each front of a run that shows no clash, the spots agree with what the front left, and what comes next takes
-- what is there.
use Rattle.std.proofs.Common.{◌≡◌, ◌⊎◌, ℕ, Bool, List, [], ◌∷◌, ◌++◌, Option, Some, None, refl, sym, ◌∙◌, ap, subst, inl, inr}
use Rattle.record_hash.specs.Functions.{DigestFunctions}
use Rattle.std.specs.Option.{unwrap_or, option_or}
use Rattle.std.proofs.lemmas.Option.{none-some}
use Rattle.lamport_clocks.specs.declared.header.Header.{Header}
use Rattle.record_text.specs.declared.element.Element.{Element}
use Rattle.record_text.specs.declared.operation.Operation.{Operation}
use Rattle.record_text.specs.Tree.{wide_of}
use Rattle.record_text.specs.Longest.{longest_of}
use Rattle.merkle_records.specs.Merkle.{Digest, GivesDigests}
use Rattle.stamp_order.specs.Serial.{none_everywhere, map_after}
use Rattle.verifier_cache.specs.declared.entry.Entry.{Entry}
use Rattle.verifier_commands.specs.Change.{Change, did_add_m, did_evict_m, did_add_b, did_evict_b, did_evict_bm, did_get, did_put, did_next_epoch}
use Rattle.soundness.specs.History.{Event}
use Rattle.soundness.specs.Certified.{order_of, order_up_to, operations_by, operations_in}
use Rattle.soundness.specs.Clash.{LastEvicted, Strings, none_evicted, last_evicted_after, clash_of, first_clash}
use Rattle.soundness.specs.Scheduled.{IsScheduledBy, IsScheduled, ArePermuted}
use Rattle.soundness.specs.Showing.{Shown, opening_shown, HasDone, shown_after, IsFresh}
use Rattle.soundness.specs.IsHistory.{AreHistories}
use Rattle.soundness.specs.Spot.{waiting, Spots}
use Rattle.soundness.specs.World.{AllShown, with_shown, Stored, IsWorld, IsWaiting, shown_behind, changes_in, last_evicted_behind, pending_after, pending_behind, stored_behind, IsBehind, AreAbsent, HaveSpots, HaveAbsentKeys, TakesFromSpots}
use Rattle.soundness.proofs.KnownLemmas.{HasOneText, Clashes, Passes, join_step}
use Rattle.soundness.proofs.LeaveLemmas.{LeftAt, leave_step, defer_step}
use Rattle.soundness.proofs.SingleLemmas.{come_step, go_step, same_step, absent_keys, write_step}
use Rattle.soundness.proofs.RunLemmas.{IsRun}
use Rattle.soundness.proofs.SerialLemmas.{wait_on, wait_more, wait_less, waits_once_out, waits_own, free_at, takes_there, fresh_there}
use Rattle.soundness.proofs.OrderLemmas.{are_timely, order_run}
use Rattle.soundness.proofs.OpeningLemmas.{opening_spots, opening_world}
use Rattle.soundness.proofs.SoundLaws.{one_text, none_waiting}
use Rattle.soundness.proofs.WholeLaws.{order_scheduled}

-- ---- folds

stored_behind-append : (stored : Stored) (xs ys : List Operation)
    → stored_behind stored (xs ++ ys) ≡ stored_behind (stored_behind stored xs) ys
stored_behind-append stored [] ys = refl
stored_behind-append stored (x ∷ xs) ys = stored_behind-append (map_after x stored) xs ys

-- where neither of two clashes is there
no_first : (first later : Option Strings) → option_or first later ≡ None → (first ≡ None) × (later ≡ None)
no_first None later none = (refl, none)
no_first (Some strings) later none = absurd (none-some strings (sym none))

-- where a front and the event behind it show no clash
no_clash_front : (last : LastEvicted) (front : List Event) (event : Event)
    → first_clash last (changes_in (front ++ event ∷ [])) ≡ None
    → (first_clash last (changes_in front) ≡ None)
    × (clash_of (last_evicted_behind last (changes_in front)) event.change ≡ None)
no_clash_front last [] event free = (refl, (no_first (clash_of last event.change) None free).0)
no_clash_front last (first ∷ front) event free =
    let behind = last_evicted_after last first.change in
    let parts =
    no_first (clash_of last first.change) (first_clash behind (changes_in (front ++ event ∷ []))) free in
    let later = no_clash_front behind front event parts.1 in
    (ap (λ (o : Option Strings). option_or o (first_clash behind (changes_in front))) parts.0 ∙ later.0, later.1)

-- ---- one step

-- a world behind a step in which these wait, of whom this holds
abbrev Moved : Bool → ℕ → Digest → AllShown → LastEvicted → Stored → List Element → (List Element → Type 0) → Type 0
Moved wide longest digest shown last stored pending behind =
    (spots : Spots) × IsWorld wide longest digest shown last stored spots × IsWaiting spots pending × behind pending

module _ (wide : Bool) (longest : ℕ) (digest : Digest) (one : HasOneText longest) where
  -- A step that shows no clash keeps the world, and its change tells what was last evicted and stored, and what waits.
  moved : GivesDigests digest → (event : Event) (shown : AllShown) (next : Shown) (last : LastEvicted) (stored : Stored)
      (spots : Spots) (pending : List Element) (behind : List Element → Type 0)
      → IsWorld wide longest digest shown last stored spots → IsWaiting spots pending
      → (change : Change) → HasDone longest digest (shown event.verifier) next change
      → IsScheduledBy pending change behind → clash_of last change ≡ None
      → Moved wide longest digest (with_shown shown event.verifier next) (last_evicted_after last change)
      (stored_behind stored (operations_by event change)) (pending_after pending change) behind
  moved digests event shown next last stored spots pending behind world waits = go
    where
      home : ℕ
      home = event.verifier

      After : LastEvicted → Stored → List Element → Type 0
      After last stored pending = Moved wide longest digest (with_shown shown home next) last stored pending behind

      joined : (parent after child : Entry) → behind pending → clash_of last (did_add_m parent after child) ≡ None
          → Clashes digest last (did_add_m parent after child)
          ⊎ Passes wide longest digest (with_shown shown home next) last last stored spots (did_add_m parent after child)
          → After last stored pending
      joined parent after child scheduled free (inl clashes) = absurd (none-some clashes.0 (sym free ∙ clashes.1))
      joined parent after child scheduled free (inr passes) =
          let now = passes.1 in
          (now.0, now.1, wait_on spots now.0 pending now.2 now.3 waits, scheduled)

      went : (child : Entry) (element : Element) → shown home child.path ≡ Some child → element.path ≡ child.path
          → behind (element ∷ pending)
          → LeftAt wide longest digest (with_shown shown home next) last stored spots element.path (waiting element)
          → After last stored (element ∷ pending)
      went child element had path scheduled left =
          let free = free_at wide longest digest shown last stored spots home child element world had path in
          (left.0, left.1, wait_more spots left.0 pending element left.2 left.3 left.4 free waits, scheduled)

      go : (change : Change) → HasDone longest digest (shown home) next change → IsScheduledBy pending change behind
          → clash_of last change ≡ None
          → After (last_evicted_after last change) (stored_behind stored (operations_by event change)) (pending_after pending change)
      go (did_add_m parent after child) did scheduled free =
          joined parent after child scheduled free
          (join_step wide longest digest shown last stored spots home next parent after child one digests world did)
      go (did_evict_m parent after child) did scheduled free =
          let now = leave_step wide longest digest shown last stored spots home next parent after child digests world did in
          (now.0, now.1, wait_on spots now.0 pending now.2 now.3 waits, scheduled)
      go (did_add_b child element) did scheduled free =
          let there = waits.each element (waits_once_out element pending scheduled.0 scheduled.1) in
          let back = come_step wide longest digest shown last stored spots home next child element world did there in
          let left = wait_less spots back.0 pending scheduled.0 element scheduled.1 back.2 back.3
          (waits_own wide longest digest shown last stored spots world) waits in
          let out = ap (λ (rest : Option (List Element)). unwrap_or rest pending) scheduled.1 in
          subst (After last stored) (sym out) (back.0, back.1, left, scheduled.2)
      go (did_evict_b child element) did scheduled free =
          went child element did.had_child did.path scheduled
          (go_step wide longest digest shown last stored spots home next child element world did)
      go (did_evict_bm parent after child element) did scheduled free =
          went child element did.had_child did.path scheduled
          (defer_step wide longest digest shown last stored spots home next parent after child element world did)
      go (did_get entry) did scheduled free =
          let same = same_step wide longest digest shown last stored spots home next world did.shown in
          (spots, same, waits, scheduled)
      go (did_put before after) did scheduled free =
          let now = write_step wide longest digest shown last stored spots home next before after world did in
          (now.0, now.1, wait_on spots now.0 pending now.2 now.3 waits, scheduled)
      go (did_next_epoch sealed) did scheduled free =
          (spots, same_step wide longest digest shown last stored spots home next world did, waits, scheduled)

-- ---- a front

-- What stands behind a front: a world whose caches show what is told and in which these wait, and the events that go
-- on from there.
record Stand (wide : Bool) (longest : ℕ) (digest : Digest) (told : AllShown) (last : LastEvicted) (stored : Stored)
    (pending : List Element) (back : List Event) : Type 0 where
  spots : Spots
  world : IsWorld wide longest digest told last stored spots
  waits : IsWaiting spots pending
  run : IsRun longest digest told back
  scheduled : IsScheduled pending back

-- what the caches are told to show behind an event
abbrev pub told_behind : AllShown → Event → AllShown
told_behind told event = with_shown told event.verifier (shown_after (told event.verifier) event.change)

-- what each of these events adds isn't shown before it
abbrev pub AreFresh : AllShown → List Event → Type 0
AreFresh told [] = Unit {0}
AreFresh told (event ∷ events) = IsFresh (told event.verifier) event.change × AreFresh (told_behind told event) events

module _ (wide : Bool) (longest : ℕ) (digest : Digest) (one : HasOneText longest) (digests : GivesDigests digest) where
  -- what the next event adds isn't shown
  fresh_next : (event : Event) (back : List Event) (told : AllShown) (last : LastEvicted) (stored : Stored)
      (pending : List Element)
      → Stand wide longest digest told last stored pending (event ∷ back) → clash_of last event.change ≡ None
      → IsFresh (told event.verifier) event.change
  fresh_next event back told last stored pending stand free =
      fresh_there wide longest digest told last stored stand.spots event.verifier stand.world event.change
      (takes_there wide longest digest one event.verifier told (shown_after (told event.verifier) event.change) last stored stand.spots pending
      (λ after. IsScheduled after back) stand.world stand.waits event.change stand.run.0 stand.scheduled free)

  -- One event on.
  stand_on : (event : Event) (back : List Event) (told : AllShown) (last : LastEvicted) (stored : Stored)
      (pending : List Element)
      → Stand wide longest digest told last stored pending (event ∷ back) → clash_of last event.change ≡ None
      → Stand wide longest digest (told_behind told event) (last_evicted_after last event.change)
      (stored_behind stored (operations_by event event.change)) (pending_after pending event.change) back
  stand_on event back told last stored pending stand free = record {
    spots = now.0;
    world = now.1;
    waits = now.2;
    run = stand.run.1 (fresh_next event back told last stored pending stand free);
    scheduled = now.3;
  }
    where
      next : Shown
      next = shown_after (told event.verifier) event.change

      now : Moved wide longest digest (told_behind told event) (last_evicted_after last event.change)
          (stored_behind stored (operations_by event event.change)) (pending_after pending event.change)
          (λ after. IsScheduled after back)
      now =
          moved wide longest digest one digests event told next last stored stand.spots pending
          (λ after. IsScheduled after back) stand.world stand.waits event.change stand.run.0 stand.scheduled free

  -- A whole front on, where it shows no clash.
  stand_behind : (front back : List Event) (told : AllShown) (last : LastEvicted) (stored : Stored) (pending : List Element)
      → Stand wide longest digest told last stored pending (front ++ back) → first_clash last (changes_in front) ≡ None
      → Stand wide longest digest (shown_behind told front) (last_evicted_behind last (changes_in front))
      (stored_behind stored (operations_in front)) (pending_behind pending (changes_in front)) back
  stand_behind [] back told last stored pending stand free = stand
  stand_behind (event ∷ front) back told last stored pending stand free =
      subst (λ (s : Stored).
      Stand wide longest digest (shown_behind now front) (last_evicted_behind now_taken (changes_in front)) s
      (pending_behind now_pending (changes_in front)) back)
      (sym (stored_behind-append stored (operations_by event event.change) (operations_in front)))
      (stand_behind front back now now_taken (stored_behind stored (operations_by event event.change)) now_pending
      (stand_on event (front ++ back) told last stored pending stand parts.0) parts.1)
    where
      now : AllShown
      now = told_behind told event

      now_taken : LastEvicted
      now_taken = last_evicted_after last event.change

      now_pending : List Element
      now_pending = pending_after pending event.change

      parts : (clash_of last event.change ≡ None) × (first_clash now_taken (changes_in front) ≡ None)
      parts = no_first (clash_of last event.change) (first_clash now_taken (changes_in front)) free

  -- What the events of a front add isn't shown before them.
  fresh_behind : (front back : List Event) (told : AllShown) (last : LastEvicted) (stored : Stored) (pending : List Element)
      → Stand wide longest digest told last stored pending (front ++ back) → first_clash last (changes_in front) ≡ None
      → AreFresh told front
  fresh_behind [] back told last stored pending stand free = tt
  fresh_behind (event ∷ front) back told last stored pending stand free =
      let parts = no_first (clash_of last event.change) (first_clash (last_evicted_after last event.change) (changes_in front)) free in (
        fresh_next event (front ++ back) told last stored pending stand parts.0,
        fresh_behind front back (told_behind told event) (last_evicted_after last event.change) (stored_behind stored (operations_by event event.change))
            (pending_after pending event.change) (stand_on event (front ++ back) told last stored pending stand parts.0) parts.1,
      )

-- ---- the laws

-- what stands behind a front of the merged order
abbrev StandBehind : Digest → Header → List Event → List Event → Type 0
StandBehind digest header front back =
    Stand (wide_of header) (longest_of header) digest (shown_behind (opening_shown header) front) (last_evicted_behind none_evicted (changes_in front))
    (stored_behind none_everywhere (operations_in front)) (pending_behind [] (changes_in front)) back

-- in spots that agree with what a front left, data paths to which no pointer leads are untouched and have no value
pub absent_behind : (digest : Digest) (header : Header) (events : List Event) (spots : Spots) → IsBehind digest header events spots
    → AreAbsent (stored_behind none_everywhere (operations_in events)) spots
absent_behind digest header events spots behind =
    absent_keys (wide_of header) (longest_of header) digest (shown_behind (opening_shown header) events)
    (last_evicted_behind none_evicted (changes_in events)) (stored_behind none_everywhere (operations_in events)) spots behind.world

module _ (functions : DigestFunctions) (header : Header) (histories : List (List Event)) (last : ℕ) where
  -- at the opening
  at_opening : AreHistories (longest_of header) functions.digest header 0 histories
      → ArePermuted header.first last (order_of histories)
      → StandBehind functions.digest header [] (order_up_to last histories)
  at_opening are permuted = record {
    spots = opening_spots (wide_of header);
    world = opening_world functions.digest header;
    waits = none_waiting (wide_of header);
    run = order_run header (longest_of header) functions.digest histories last are;
    scheduled = order_scheduled header histories last (are_timely (longest_of header) functions.digest header 0 histories are)
        permuted;
  }

  -- behind a front
  stand_at : (front back : List Event) → GivesDigests functions.digest
      → AreHistories (longest_of header) functions.digest header 0 histories
      → ArePermuted header.first last (order_of histories)
      → order_up_to last histories ≡ front ++ back
      → first_clash none_evicted (changes_in front) ≡ None
      → StandBehind functions.digest header front back
  stand_at front back digests are permuted is free =
      stand_behind (wide_of header) (longest_of header) functions.digest (one_text (longest_of header)) digests front back (opening_shown header) none_evicted none_everywhere []
      (subst (λ (l : List Event). StandBehind functions.digest header [] l) is (at_opening are permuted)) free

  -- the spots of a stand agree with what the front left
  placed : (front back : List Event) (stand : StandBehind functions.digest header front back)
      → IsBehind functions.digest header front stand.spots
  placed front back stand = record { world = stand.world; waits = stand.waits }

  -- Each path has one spot.
  pub one_spot : (front back : List Event) → GivesDigests functions.digest
      → AreHistories (longest_of header) functions.digest header 0 histories
      → ArePermuted header.first last (order_of histories)
      → order_up_to last histories ≡ front ++ back
      → first_clash none_evicted (changes_in front) ≡ None
      → HaveSpots functions.digest header front
  one_spot front back digests are permuted is free =
      let stand = stand_at front back digests are permuted is free in
      (stand.spots, placed front back stand)

  -- And data paths to which no pointer leads are untouched and have no value.
  pub absent_spots : (front back : List Event) → GivesDigests functions.digest
      → AreHistories (longest_of header) functions.digest header 0 histories
      → ArePermuted header.first last (order_of histories)
      → order_up_to last histories ≡ front ++ back
      → first_clash none_evicted (changes_in front) ≡ None
      → HaveAbsentKeys functions.digest header front
  absent_spots front back digests are permuted is free =
      let placed = one_spot front back digests are permuted is free in
      (placed.0, placed.1, absent_behind functions.digest header front placed.0 placed.1)

  -- What the events of a front add isn't shown before them.
  pub all_fresh : (front back : List Event) → GivesDigests functions.digest
      → AreHistories (longest_of header) functions.digest header 0 histories
      → ArePermuted header.first last (order_of histories)
      → order_up_to last histories ≡ front ++ back
      → first_clash none_evicted (changes_in front) ≡ None
      → AreFresh (opening_shown header) front
  all_fresh front back digests are permuted is free =
      fresh_behind (wide_of header) (longest_of header) functions.digest (one_text (longest_of header)) digests front back (opening_shown header) none_evicted none_everywhere []
      (subst (λ (l : List Event). StandBehind functions.digest header [] l) is (at_opening are permuted)) free

  -- The next event takes what is there.
  pub takes_next : (front : List Event) (event : Event) (back : List Event) → GivesDigests functions.digest
      → AreHistories (longest_of header) functions.digest header 0 histories
      → ArePermuted header.first last (order_of histories)
      → order_up_to last histories ≡ front ++ event ∷ back
      → first_clash none_evicted (changes_in (front ++ event ∷ [])) ≡ None
      → TakesFromSpots functions.digest header front event.change
  takes_next front event back digests are permuted is free =
      let parts = no_clash_front none_evicted front event free in
      let stand = stand_at front (event ∷ back) digests are permuted is parts.0 in (
        stand.spots,
        placed front (event ∷ back) stand,
        takes_there (wide_of header) (longest_of header) functions.digest (one_text (longest_of header)) event.verifier (shown_behind (opening_shown header) front)
            (shown_after (shown_behind (opening_shown header) front event.verifier) event.change) _ _ stand.spots _
            (λ after. IsScheduled after back) stand.world stand.waits event.change stand.run.0 stand.scheduled
            parts.1,
      )
