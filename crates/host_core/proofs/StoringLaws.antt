-- What a storing host holds is the plain map behind all operations, and behind a whole last close behind the certified ones.
use Rattle.std.proofs.Common.{◌≡◌, ◌⊎◌, ℕ, suc, ◌+◌, ◌≤◌, Bool, true, false, List, [], ◌∷◌, ◌++◌, map, length, replicate, Option, refl, sym, ◌∙◌, ap, subst, inl, inr, if◌then◌else◌, ◌-◌, arith}
use Rattle.std.specs.Prelude.{nat_eq, nat_le}
use Rattle.std.specs.List.{AllByRecursion}
use Rattle.std.specs.Map.{update}
use Rattle.std.proofs.lemmas.Bool.Decides.{nat_tests}
use Rattle.std.proofs.lemmas.Grind.{flat_map-append}
use Rattle.tree_keys.specs.Path.{key_of}
use Rattle.lamport_clocks.specs.Reading.{Reading}
use Rattle.record_text.specs.declared.operation.Operation.{Operation}
use Rattle.record_text.specs.declared.request.Request.{Request}
use Rattle.log_codec.specs.declared.command.Command.{Command}
use Rattle.log_codec.specs.declared.command.Command.TheVariants.{NextEpoch}
use Rattle.stamp_order.specs.Merged.{comes_before, up_to}
use Rattle.stamp_order.specs.Serial.{none_everywhere, map_after}
use Rattle.stamp_order.proofs.InOrderLaws.{every-weaker, every-append, every-in_order}
use Rattle.stamp_order.proofs.MergedLaws.{merged-filter}
use Rattle.verifier_commands.specs.Change.{Change, did_add_m, did_evict_m, did_add_b, did_evict_b, did_evict_bm, did_get, did_put, did_next_epoch}
use Rattle.soundness.specs.History.{Event}
use Rattle.soundness.specs.PathHistory.{path_log_events}
use Rattle.soundness.specs.Certified.{event_moment, all_events, operations_by, operations_in, order_of, order_within, certified_operations}
use Rattle.soundness.specs.World.{Stored, stored_behind}
use Rattle.host_core.specs.Host.{Host, scheme, resting}
use Rattle.host_core.specs.World.{World, fresh, set_up}
use Rattle.host_core.specs.WorldEvent.{next_clock, run_events}
use Rattle.host_core.specs.Deeds.{request_of, answers_in, IsFit}
use Rattle.host_core.specs.Core.{histories}
use Rattle.host_core.specs.Storing.{Storing, operates, operating, IsStoringDeed, IsStoring, HoldsAnswered, HoldsCertified, HoldsWhereStoring}
use Rattle.host_core.proofs.Books.{account_of, Books, books_of, with_more, epoch_in, histories_in, histories_are, Progress, stays, serves_one, moves_one, advances_one, opens_next, raises_newest, finishes_one}
use Rattle.host_core.proofs.AccountLemmas.{told, events_at, advance_events}
use Rattle.host_core.proofs.Right.{IsRight}
use Rattle.host_core.proofs.WaitingLemmas.{every-front, every-back}
use Rattle.host_core.proofs.ReadyLemmas.{round_clock, serve_fits, move_fits}
use Rattle.host_core.proofs.BehindLemmas.{behind}
use Rattle.host_core.proofs.EvenLemmas.{all_from, none_of}
use Rattle.host_core.proofs.CoreLaws.{always_whole}
use Rattle.host_core.proofs.FollowLemmas.{IsSplit, one-split, Followed, GoesOn, AllGoOn, AreFollowed, progress_followed, setup_followed}

-- ---- operations on one key

-- the operations of a front that is there or not
front : (b : Bool) (event : Event) (rest : List Event)
    → operations_in (if b then event ∷ rest else rest) ≡ (if b then operations_by event event.change else []) ++ operations_in rest
front true event rest = refl
front false event rest = refl

-- What is stored of a key depends on the operations on it alone.
pub own_operations : (key : ℕ) (events : List Event) (s t : Stored) → s key ≡ t key
    → stored_behind s (operations_in (operating key events)) key ≡ stored_behind t (operations_in events) key
own_operations key [] s t same = same
own_operations key (event ∷ events) s t same =
    ap (λ (ops : List Operation). stored_behind s ops key) (front (operates key event.change) event (operating key events))
    ∙ go event.change (λ s t same. own_operations key events s t same)
  where
    Further : Type 0
    Further = (s t : Stored) → s key ≡ t key → stored_behind s (operations_in (operating key events)) key ≡ stored_behind t (operations_in events) key

    set_both : (k : ℕ) (value : Option (List ℕ)) → update nat_eq s k value key ≡ update nat_eq t k value key
    set_both k value = ap (λ (o : Option (List ℕ)). if nat_eq k key then value else o) same

    set_other : (k : ℕ) (value : Option (List ℕ)) → nat_eq k key ≡ false → s key ≡ update nat_eq t k value key
    set_other k value apart = same ∙ sym (ap (λ (b : Bool). if b then value else t key) apart)

    got : (b : Bool) (operation : Operation) → operation.put ≡ false → Further
        → stored_behind s ((if b then operation ∷ [] else []) ++ operations_in (operating key events)) key
        ≡ stored_behind t (operation ∷ operations_in events) key
    got true operation none further =
        further (map_after operation s) (map_after operation t)
        (ap (λ (b : Bool). (if b then update nat_eq s operation.key operation.value else s) key) none
        ∙ same ∙ sym (ap (λ (b : Bool). (if b then update nat_eq t operation.key operation.value else t) key) none))
    got false operation none further =
        further s (map_after operation t)
        (same ∙ sym (ap (λ (b : Bool). (if b then update nat_eq t operation.key operation.value else t) key) none))

    written : (b : Bool) (operation : Operation) → operation.put ≡ true → nat_eq operation.key key ≡ b → Further
        → stored_behind s ((if b then operation ∷ [] else []) ++ operations_in (operating key events)) key
        ≡ stored_behind t (operation ∷ operations_in events) key
    written true operation puts is further =
        further (map_after operation s) (map_after operation t)
        (ap (λ (b : Bool). (if b then update nat_eq s operation.key operation.value else s) key) puts
        ∙ set_both operation.key operation.value ∙ sym (ap (λ (b : Bool). (if b then update nat_eq t operation.key operation.value else t) key) puts))
    written false operation puts is further =
        further s (map_after operation t)
        (set_other operation.key operation.value is ∙ sym (ap (λ (b : Bool). (if b then update nat_eq t operation.key operation.value else t) key) puts))

    go : (change : Change) → Further
        → stored_behind s ((if operates key change then operations_by event change else []) ++ operations_in (operating key events)) key
        ≡ stored_behind t (operations_by event change ++ operations_in events) key
    go (did_add_m parent after child) further = further s t same
    go (did_evict_m parent after child) further = further s t same
    go (did_add_b child element) further = further s t same
    go (did_evict_b child element) further = further s t same
    go (did_evict_bm parent after child element) further = further s t same
    go (did_get entry) further = got (nat_eq (key_of entry.path) key) _ refl further
    go (did_put before after) further = written (nat_eq (key_of after.path) key) _ refl refl further
    go (did_next_epoch sealed) further = further s t same

stored-append : (s : Stored) (xs ys : List Operation) → stored_behind s (xs ++ ys) ≡ stored_behind (stored_behind s xs) ys
stored-append s [] ys = refl
stored-append s (x ∷ xs) ys = stored-append (map_after x s) xs ys

-- ---- operations up to an epoch

-- the event is no operation, or of this epoch or one before it
abbrev IsEarly : ℕ → Event → Type 0
IsEarly epoch event = (operations_by event event.change ≡ []) ⊎ (event.at.epoch ≤ epoch)

-- where each is, those up to the epoch have all operations
early_operations : (epoch : ℕ) (events : List Event) → AllByRecursion (IsEarly epoch) events
    → operations_in (up_to event_moment epoch events) ≡ operations_in events
early_operations epoch [] all = refl
early_operations epoch (event ∷ events) all =
    front (nat_le event.at.epoch epoch) event (up_to event_moment epoch events)
    ∙ go (nat_le event.at.epoch epoch) refl all.0 (early_operations epoch events all.1)
  where
    rest : List Operation
    rest = operations_in (up_to event_moment epoch events)

    go : (b : Bool) → nat_le event.at.epoch epoch ≡ b → IsEarly epoch event → rest ≡ operations_in events
        → (if b then operations_by event event.change else []) ++ rest ≡ operations_by event event.change ++ operations_in events
    go true within early same = ap (λ (ops : List Operation). operations_by event event.change ++ ops) same
    go false past (inl none) same = same ∙ sym (ap (λ (ops : List Operation). ops ++ operations_in events) none)
    go false past (inr early) same = absurd (grind (arith, nat_tests))

-- what operations answer
abbrev answers_of : List Operation → List (ℕ × Request)
answers_of operations = map (λ operation. (operation.stamp.epoch, request_of operation)) operations

-- what is answered in an epoch up to this one
early_answers : (epoch : ℕ) (events : List Event) → AllByRecursion (λ answer. answer.0 ≤ epoch) (answers_in events) → AllByRecursion (IsEarly epoch) events
early_answers epoch [] all = tt
early_answers epoch (event ∷ events) all = go event.change refl all (early_answers epoch events)
  where
    Whole : List Operation → Type 0
    Whole ops = AllByRecursion (λ (answer : ℕ × Request). answer.0 ≤ epoch) (answers_of (ops ++ operations_in events))

    Rest : Type 0
    Rest = AllByRecursion (λ (answer : ℕ × Request). answer.0 ≤ epoch) (answers_in events) → AllByRecursion (IsEarly epoch) events

    none : (change : Change) → event.change ≡ change → operations_by event change ≡ [] → operations_by event event.change ≡ []
    none change is empty = ap (operations_by event) is ∙ empty

    go : (change : Change) → event.change ≡ change → Whole (operations_by event event.change) → Rest → AllByRecursion (IsEarly epoch) (event ∷ events)
    go (did_add_m parent after child) is all rest = (inl (none _ is refl), rest (subst Whole (none _ is refl) all))
    go (did_evict_m parent after child) is all rest = (inl (none _ is refl), rest (subst Whole (none _ is refl) all))
    go (did_add_b child element) is all rest = (inl (none _ is refl), rest (subst Whole (none _ is refl) all))
    go (did_evict_b child element) is all rest = (inl (none _ is refl), rest (subst Whole (none _ is refl) all))
    go (did_evict_bm parent after child element) is all rest = (inl (none _ is refl), rest (subst Whole (none _ is refl) all))
    go (did_get entry) is all rest = let both = subst (λ (c : Change). Whole (operations_by event c)) is all in (inr both.0, rest both.1)
    go (did_put before after) is all rest = let both = subst (λ (c : Change). Whole (operations_by event c)) is all in (inr both.0, rest both.1)
    go (did_next_epoch sealed) is all rest = (inl (none _ is refl), rest (subst Whole (none _ is refl) all))

-- what is early stays so
early_still : (epoch : ℕ) (events : List Event) → AllByRecursion (IsEarly epoch) events → AllByRecursion (IsEarly (suc epoch)) events
early_still epoch events all = every-weaker (IsEarly epoch) (IsEarly (suc epoch)) go events all
  where
    go : (event : Event) → IsEarly epoch event → IsEarly (suc epoch) event
    go event (inl none) = inl none
    go event (inr early) = inr (omega (arith, early))

-- where nothing is answered there is no operation on a key
pub unanswered : (key : ℕ) (events : List Event) → answers_in events ≡ [] → operating key events ≡ []
unanswered key [] none = refl
unanswered key (event ∷ events) none = go event.change refl (unanswered key events)
  where
    whole : answers_of (operations_by event event.change ++ operations_in events) ≡ []
    whole = none

    Rest : Type 0
    Rest = answers_in events ≡ [] → operating key events ≡ []

    skip : (change : Change) → event.change ≡ change → operates key change ≡ false → operations_by event change ≡ [] → Rest
        → operating key (event ∷ events) ≡ []
    skip change is apart empty rest =
        ap (λ (b : Bool). if b then event ∷ operating key events else operating key events) (ap (operates key) is ∙ apart)
        ∙ rest (ap (λ (ops : List Operation). answers_of (ops ++ operations_in events)) (sym (ap (operations_by event) is ∙ empty)) ∙ whole)

    some : (ops : List Operation) (operation : Operation) → ops ≡ operation ∷ [] → answers_of (ops ++ operations_in events) ≡ [] → ⊥
    some ops operation is empty = there (ap (λ (zs : List Operation). answers_of (zs ++ operations_in events)) (sym is) ∙ empty)
      where
        there : answers_of (operation ∷ operations_in events) ≡ [] → ⊥
        there is = cc

    go : (change : Change) → event.change ≡ change → Rest → operating key (event ∷ events) ≡ []
    go (did_add_m parent after child) is rest = skip _ is refl refl rest
    go (did_evict_m parent after child) is rest = skip _ is refl refl rest
    go (did_add_b child element) is rest = skip _ is refl refl rest
    go (did_evict_b child element) is rest = skip _ is refl refl rest
    go (did_evict_bm parent after child element) is rest = skip _ is refl refl rest
    go (did_get entry) is rest = absurd (some (operations_by event event.change) _ (ap (operations_by event) is) whole)
    go (did_put before after) is rest = absurd (some (operations_by event event.change) _ (ap (operations_by event) is) whole)
    go (did_next_epoch sealed) is rest = skip _ is refl refl rest

module _ {C R : Type 0} (mirrors : ℕ → List C → Type 0) (storing : Storing C) (host : Host C R) where
  -- keys are followed
  abbrev keys : Followed ℕ C
  keys = record { about = operates; home = storing.home; since = λ key contents. storing.since contents key }

  abbrev Anything : ℕ → List Event → Type 0
  Anything key events = Unit {0}

  -- what is held of a key is what the operations on it leave
  abbrev IsHeld : ℕ → ℕ → List Event → List C → Type 0
  IsHeld key s events contents = stored_behind none_everywhere (operations_in events) key ≡ storing.held contents key

  abbrev AreHeld : Books C → Type 0
  AreHeld books = AreFollowed keys Anything IsHeld mirrors host books

  -- a storing deed goes on with each key
  storing_goes_on : (i index : ℕ) (clock : Reading) (commands : List Command) (s : ℕ) (old new : List C)
      → IsStoringDeed mirrors storing host i (resting host i clock) commands s old new
      → GoesOn keys Anything IsHeld (events_at host i index clock commands) s old new
  storing_goes_on i index clock commands s old new deed = record {
    apart = λ key apart. deed.apart index key apart;
    goes_on = λ key before home any held. (
      tt,
      ap (λ (ops : List Operation). stored_behind none_everywhere ops key)
          (flat_map-append (λ (event : Event). operations_by event event.change) before (operating key (events_at host i index clock commands)))
          ∙ ap (λ (stored : Stored). stored key)
          (stored-append none_everywhere (operations_in before) (operations_in (operating key (events_at host i index clock commands))))
          ∙ deed.stores index key (stored_behind none_everywhere (operations_in before)) home held,
    );
    behind = λ key home. deed.behind index key home;
    up_to = λ key home. deed.up_to index key home;
    rises = λ key home. deed.rises key home;
  }

  all_go_on : IsStoring mirrors storing host → AllGoOn keys Anything IsHeld mirrors host
  all_go_on is = record {
    serve = λ i index clock s seat contents request done ready within owns serves.
        storing_goes_on i index clock done.commands s contents _ (is.serve i clock s seat contents request done ready within owns serves);
    move = λ i index epoch clock s contents done ready turned moves.
        storing_goes_on i index clock done.commands s contents done.after (is.move i epoch clock s contents done ready turned moves);
    advance = λ key sealed. refl;
  }

  setup_held : IsFit mirrors host → IsStoring mirrors storing host → AreHeld (books_of (set_up host))
  setup_held fit is =
      setup_followed keys Anything IsHeld mirrors host (record {
        told_so = λ key. tt;
        apart = λ key s home. unanswered key (path_log_events (scheme host) host.header 0 host.setup.commands)
            (ap answers_in (told host 0 host.setup.commands) ∙ fit.setup.answered 0);
        kept = λ key s home. sym (is.setup_none key s home);
      })

  -- ---- all operations are of the phases' epochs

  abbrev AreEarly : Books C → Type 0
  AreEarly books = AllByRecursion (IsEarly (epoch_in host books)) (all_from host 0 books.accounts)

  grown_early : (epoch : ℕ) (old new more : List Event) → IsSplit old new more → AllByRecursion (IsEarly epoch) more
      → AllByRecursion (IsEarly epoch) old → AllByRecursion (IsEarly epoch) new
  grown_early epoch old new more split early was =
      let parts = subst (AllByRecursion (IsEarly epoch)) split.was was in
      subst (AllByRecursion (IsEarly epoch)) (sym split.is)
      (every-append (IsEarly epoch) split.front (more ++ split.back) (every-front (IsEarly epoch) split.front split.back parts)
      (every-append (IsEarly epoch) more split.back early (every-back (IsEarly epoch) split.front split.back parts)))

  module _ (fit : IsFit mirrors host) (old : Books C) (right : IsRight mirrors host old) where
    progress_early : (new : Books C) → Progress host old new → AreEarly old → AreEarly new
    progress_early new (stays is) was = subst AreEarly (sym is) was
    progress_early new (serves_one i account s seat request done did is) was =
        subst AreEarly (sym is)
        (grown_early (epoch_in host old) (all_from host 0 old.accounts) _ (events_at host i (0 + length account.log) account.clock done.commands)
        (one-split mirrors host fit old right i account did.own done.commands (with_more account done.commands done.clock 1) refl)
        (early_answers (epoch_in host old) (events_at host i (0 + length account.log) account.clock done.commands)
        (subst (AllByRecursion (λ (answer : ℕ × Request). answer.0 ≤ epoch_in host old))
        (sym ((serve_fits mirrors host fit old right i account s seat request done did).deed.answered (0 + length account.log)))
        (within, tt)))
        was)
      where
        within : account.clock.at.epoch ≤ epoch_in host old
        within =
            omega (
              arith,
              (round_clock mirrors host fit old right (right.inside did.phase) i account did.own).up_to,
              (right.inside did.phase).within,
            )
    progress_early new (moves_one i account s moved done did is) was =
        subst AreEarly (sym is)
        (grown_early (epoch_in host old) (all_from host 0 old.accounts) _ (events_at host i (0 + length account.log) account.clock done.commands)
        (one-split mirrors host fit old right i account did.own done.commands (with_more account done.commands done.clock 0) refl)
        (early_answers (epoch_in host old) (events_at host i (0 + length account.log) account.clock done.commands)
        (subst (AllByRecursion (λ (answer : ℕ × Request). answer.0 ≤ epoch_in host old))
        (sym ((move_fits mirrors host fit old right i account s moved done did).deed.answered (0 + length account.log))) tt))
        was)
    progress_early new (advances_one i account closing did is) was =
        subst AreEarly (sym is)
        (grown_early (epoch_in host old) (all_from host 0 old.accounts) _ (events_at host i (0 + length account.log) account.clock (NextEpoch ∷ []))
        (one-split mirrors host fit old right i account did.own (NextEpoch ∷ []) (with_more account (NextEpoch ∷ []) (next_clock account.clock) 0) refl)
        (subst (AllByRecursion (IsEarly (epoch_in host old))) (sym (advance_events host i (0 + length account.log) account.clock did.more)) (inl refl, tt))
        was)
    progress_early new (opens_next did is) was =
        subst AreEarly (sym is)
        (subst (λ (epoch : ℕ). AllByRecursion (IsEarly epoch) (all_from host 0 old.accounts)) {x = suc (epoch_in host old)} (omega arith)
        (early_still (epoch_in host old) (all_from host 0 old.accounts) was))
    progress_early new (raises_newest i account did is) was = subst AreEarly (sym is) was
    progress_early new (finishes_one i account did is) was = subst AreEarly (sym is) was

  setup_early : IsFit mirrors host → AreEarly (books_of (set_up host))
  setup_early fit =
      every-append (IsEarly epoch) setup (all_from host 1 (map account_of (replicate (host.header.verifiers - 1) (fresh host.header))))
      (early_answers epoch setup
      (subst (AllByRecursion (λ (answer : ℕ × Request). answer.0 ≤ epoch))
      (sym (ap answers_in (told host 0 host.setup.commands) ∙ fit.setup.answered 0)) tt))
      (subst (AllByRecursion (IsEarly epoch)) (sym (none_of host (host.header.verifiers - 1) 1)) tt)
    where
      epoch : ℕ
      epoch = epoch_in host (books_of (set_up host))

      setup : List Event
      setup = path_log_events (scheme host) host.header 0 host.setup.commands

  -- ---- the laws

  pub always_answered_held : HoldsWhereStoring mirrors storing host (HoldsAnswered host storing)
  always_answered_held fit is events enabled key s home =
      let world = run_events host (set_up host) events in
      let all = all_from host 0 (map account_of world.workers) in
      let followed = (behind mirrors host fit AreHeld (setup_held fit is)
      (λ old new right did was. progress_followed keys Anything IsHeld mirrors host fit (all_go_on is) old right new did was) events enabled).1 key in
      sym (followed.kept s home)
      ∙ ap (λ (zs : List Event). stored_behind none_everywhere (operations_in zs) key)
      (sym (merged-filter event_moment (λ event. operates key event.change) all))
      ∙ own_operations key (order_of (histories_in host (map account_of world.workers))) none_everywhere none_everywhere refl
      ∙ ap (λ (hs : List (List Event)). stored_behind none_everywhere (operations_in (order_of hs)) key) (sym (histories_are host world))

  pub always_certified_held : HoldsWhereStoring mirrors storing host (HoldsCertified host storing)
  always_certified_held fit is events enabled advanced key s home =
      always_answered_held fit is events enabled key s home
      ∙ ap (λ (ops : List Operation). stored_behind none_everywhere ops key) (sym same)
    where
      world : World C
      world = run_events host (set_up host) events

      hs : List (List Event)
      hs = histories host world

      early : AllByRecursion (IsEarly (host.header.first + world.phase)) (order_of hs)
      early =
          every-in_order (comes_before event_moment) (IsEarly (host.header.first + world.phase)) (all_events hs)
          (subst (λ (hs : List (List Event)). AllByRecursion (IsEarly (host.header.first + world.phase)) (all_events hs)) (sym (histories_are host world))
          (behind mirrors host fit AreEarly (setup_early fit) (λ old new right did was. progress_early fit old right new did was) events enabled).1)

      same : certified_operations (scheme host) host.header.first hs ≡ operations_in (order_of hs)
      same =
          ap (λ (count : ℕ). operations_in (order_within host.header.first count hs)) (always_whole mirrors host fit events enabled advanced)
          ∙ early_operations (host.header.first + world.phase) (order_of hs) early
