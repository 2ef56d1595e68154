-- The laws of the world, read off its books.
use Rattle.std.proofs.Common.{◌≡◌, ◌≢◌, ◌⊎◌, ℕ, zero, suc, ◌+◌, ◌-◌, ◌<◌, ◌≤◌, ◌==◌, ◌%◌, Bool, true, false, List, [], ◌∷◌, ◌++◌, map, length, take, get_or, Some, None, true≢false, refl, sym, ◌∙◌, ap, subst, inl, inr, if◌then◌else◌, arith}
use Rattle.std.specs.List.{AllByRecursion}
use Rattle.std.proofs.lemmas.Bool.{eqb-true, cond-true, cond-false}
use Rattle.std.proofs.lemmas.Nat.{mod_below}
use Rattle.std.proofs.lemmas.List.{length-map, take-map}
use Rattle.stamp_order.proofs.InOrderLaws.{every-weaker}
use Rattle.record_text.specs.declared.element.Element.{Element}
use Rattle.soundness.specs.History.{Event}
use Rattle.soundness.specs.PathHistory.{path_log_events, path_histories_from}
use Rattle.soundness.specs.Certified.{all_events, order_of, added_in, evicted_in, sealed_count, sealed_by_all, is_balanced, balanced_from}
use Rattle.soundness.specs.Timed.{added_among, evicted_among}
use Rattle.soundness.specs.Permutation.{count_of, is_permutation}
use Rattle.soundness.specs.Exhibit.{first_uneven}
use Rattle.host_core.specs.Host.{Host, scheme, asked}
use Rattle.host_core.specs.World.{Seats, World, unmoved, fresh, worker_at, shard_at, scanned_at, epoch_of, set_up}
use Rattle.host_core.specs.WorldEvent.{WorldEvent, AreUpTo, AreEnabled, run_events}
use Rattle.host_core.specs.Deeds.{answers_in, pending_of, IsStamped, AreStamped, IsFit}
use Rattle.host_core.specs.Core.{histories, pending_in, AreAccepted, AreAnswered, AreAnsweredInTime, IsEven, IsInPhase, IsDueInPhase, IsInRound, IsLevelBehindRound, IsBehindClose, AreSealed, SealedArePermuted, AllCertified, IsWhole}
use Rattle.host_core.proofs.CountLemmas.{count-append}
use Rattle.host_core.proofs.Books.{Account, account_of, books_of, account_at, histories_in, account_is, histories_are, AreMoved}
use Rattle.host_core.proofs.AccountLemmas.{answering-plain, IsRightAccount}
use Rattle.host_core.proofs.ScriptLemmas.{IsLeft}
use Rattle.host_core.proofs.WaitingLemmas.{waits-at}
use Rattle.host_core.proofs.Right.{epoch_at, IsRoundClock, low_in, top_in, IsWaiting, IsInside, AreNotPast, IsClosing, IsRight}
use Rattle.host_core.proofs.BehindLemmas.{behind}
use Rattle.host_core.proofs.EvenLemmas.{counts_added, counts_evicted, pending_in_all, IsCounted, progress_counted, setup_counted}
use Rattle.host_core.proofs.PermutedLemmas.{permuted, same_sum-permuted, count_epoch, count_other, sum-merged}

module _ {C R : Type 0} (mirrors : ℕ → List C → Type 0) (host : Host C R) where
  -- ---- the books behind every list of events

  -- What the laws are read off.
  pub record IsSound (world : World C) : Type 0 where
    pub right : IsRight mirrors host (books_of world)
    pub counted : IsCounted host (books_of world)

  pub sound_behind : IsFit mirrors host → (events : List (WorldEvent R)) → AreEnabled host (set_up host) events
      → IsSound (run_events host (set_up host) events)
  sound_behind fit events enabled =
      let all = behind mirrors host fit (IsCounted host) (setup_counted mirrors host fit)
      (λ old new right did counted. progress_counted mirrors host fit old right new did counted) events enabled in
      record { right = all.0; counted = all.1 }

  module _ (world : World C) (sound : IsSound world) where
    -- the account of a worker
    account_right : (i : ℕ) → i < length world.workers → IsRightAccount host i (account_of (worker_at host world i))
    account_right i within =
        subst (IsRightAccount host i) (account_is host world i)
        (sound.right.each i (subst (λ (n : ℕ). i < n) (sym (length-map world.workers account_of)) within))

    -- Each log is accepted, and its verifier rests with the worker's clock.
    pub are_accepted : AreAccepted host world
    are_accepted i within = ((account_right i within).accepted, (account_right i within).rests)

    -- Each worker answers what the script asks of it first, in time.
    pub are_answered_in_time : AreAnsweredInTime host world
    are_answered_in_time i within = (account_right i within).answered

    pub are_answered : host.rolling ≡ false → AreAnswered host world
    are_answered plain i within =
        answering-plain host (answers_in (path_log_events (scheme host) host.header i (worker_at host world i).log))
        (take (worker_at host world i).served (asked host i)) plain (account_right i within).answered
        ∙ sym (take-map (λ ask. (host.header.first + ask.0, host.telling ask.1)) (worker_at host world i).served (asked host i))

    -- Each worker has sealed the epochs before its clock's.
    pub are_sealed : AreSealed host world
    are_sealed i within = (account_right i within).sealed

    -- The elements that are evicted are those that are added, and those that wait.
    pub is_even : IsEven host world
    is_even =
        permuted (evicted_among (all_events (histories host world)))
        (added_among (all_events (histories host world)) ++ pending_in host world)
        (λ x. ap (λ (hs : List (List Event)). count_of x (evicted_among (all_events hs))) (histories_are host world)
        ∙ sound.counted x
        ∙ ap (λ (hs : List (List Event)). count_of x (added_among (all_events hs)) + count_of x (pending_in host world)) (sym (histories_are host world))
        ∙ sym (count-append x (added_among (all_events (histories host world))) (pending_in host world)))

    -- ---- epochs

    accounts_there : (i : ℕ) → i < length world.workers → i < length (map account_of world.workers)
    accounts_there i within = subst (λ (n : ℕ). i < n) (sym (length-map world.workers account_of)) within

    -- within a phase or round, a worker's clock
    clock_inside : IsInside host (books_of world) → (i : ℕ) → i < length world.workers
        → IsRoundClock host.header.first (low_in host (books_of world) i) (top_in host (books_of world)) (worker_at host world i).clock.at.epoch
    clock_inside inside i within =
        subst (λ (a : Account). IsRoundClock host.header.first (low_in host (books_of world) i) (top_in host (books_of world)) a.clock.at.epoch)
        (account_is host world i) (inside.clocks i (accounts_there i within))

    -- and what waits in a shard
    waits_inside : IsInside host (books_of world) → (s : ℕ) → s < length world.shards
        → AllByRecursion (IsWaiting host (low_in host (books_of world) (s % length world.workers)) (top_in host (books_of world))) (pending_of host (shard_at world s).contents)
    waits_inside inside s within =
        subst (λ (n : ℕ). AllByRecursion (IsWaiting host (low_in host (books_of world) (s % n)) (top_in host (books_of world))) (pending_of host (shard_at world s).contents))
        (length-map world.workers account_of) (inside.waits s within)

    -- where each worker has scanned in the last epoch, all is of it
    level : 0 < length world.workers → ((i : ℕ) → i < length world.workers → low_in host (books_of world) i ≡ epoch_of host world) → IsInPhase host world
    level some low phase = (
      λ i within. omega (arith, (clock_inside inside i within).from, (clock_inside inside i within).up_to, inside.within, low i within),
      λ s within. every-weaker
          (IsWaiting host (low_in host (books_of world) (s % length world.workers)) (top_in host (books_of world))) (IsStamped host (epoch_of host world))
          (λ x waits. (waits.0, omega (arith, waits.1, waits.2, inside.within, low (s % length world.workers) (mod_below s (length world.workers) some))))
          (pending_of host (shard_at world s).contents) (waits_inside inside s within),
      inside.still,
    )
      where
        inside : IsInside host (books_of world)
        inside = sound.right.inside phase

    -- In a phase all is of its epoch.
    pub is_in_phase : 0 < length world.workers → host.rolling ≡ false → IsInPhase host world
    is_in_phase some plain =
        level some (λ i within. cond-false host.rolling (scanned_at host world i) (epoch_of host world) plain)

    -- Where a round is over, all is of the last phase's epoch.
    pub is_level_behind_round : 0 < length world.workers → IsLevelBehindRound host world
    is_level_behind_round some over = level some (λ i within. go i within host.rolling refl)
      where
        go : (i : ℕ) → i < length world.workers → (b : Bool) → host.rolling ≡ b → low_in host (books_of world) i ≡ epoch_of host world
        go i within true rolling = cond-true host.rolling (scanned_at host world i) (epoch_of host world) rolling ∙ (over i within).2
        go i within false plain = cond-false host.rolling (scanned_at host world i) (epoch_of host world) plain

    -- In a phase what is due is the next request of the phase.
    pub is_due_in_phase : 0 < length world.workers → host.rolling ≡ false → IsDueInPhase host world
    is_due_in_phase some plain phase i place request within there = (
      λ due. due.next ∙ ap (λ (n : ℕ). Some (n, request)) (omega (
        arith,
        due.begun,
        in_phase.0 i within,
        subst (λ (a : Account). IsLeft host world.phase i a) (account_is host world i)
            (sound.right.left i (accounts_there i within)) plain (due.phase, request) due.next,
      )),
      λ next. record {
        phase = world.phase;
        next = next;
        begun = omega (arith, in_phase.0 i within);
        reached = every-weaker (IsStamped host (epoch_of host world)) (λ x. x.stamp.epoch ≤ (worker_at host world i).clock.at.epoch)
            (λ x stamped. omega (arith, stamped.1, in_phase.0 i within))
            (host.pending (get_or (shard_at world place.shard).contents place.seat host.vacant))
            (waits-at host (IsStamped host (epoch_of host world)) (shard_at world place.shard).contents place.seat host.vacant there.1
            (in_phase.1 place.shard there.0));
      },
    )
      where
        in_phase : ((i : ℕ) → i < length world.workers → (worker_at host world i).clock.at.epoch ≡ epoch_of host world)
            × ((s : ℕ) → s < length world.shards → AreStamped host (epoch_of host world) (shard_at world s).contents)
            × ((s : ℕ) → s < length world.shards → (shard_at world s).moved ≡ false)
        in_phase = is_in_phase some plain phase

    -- In a round all is of the newest epoch or of the one before.
    pub is_in_round : 0 < length world.workers → host.rolling ≡ true → IsInRound host world
    is_in_round some rolling phase = (
      record {
        from_first = omega (arith, top, (clock 0 some).from_first, (clock 0 some).from, (clock 0 some).up_to);
        within = omega (arith, top, inside.within);
        scanned = λ i within. (
          omega (arith, top, low i, (clock i within).near),
          omega (arith, low i, (clock i within).from),
          omega (arith, top, (clock i within).up_to),
        );
        waits = λ s within. (
          every-weaker (Waits s) (λ x. scanned_at host world (s % length world.workers) ≤ x.stamp.epoch)
              (λ x waits. omega (arith, waits.1, low (s % length world.workers))) (pending_of host (shard_at world s).contents) (waits_inside inside s within),
          up_to s within,
        );
      },
      record {
        clocks = λ i within. (
          omega (arith, top, (clock i within).near, (clock i within).from),
          omega (arith, top, (clock i within).up_to),
        );
        waits = λ s within. (
          every-weaker (Waits s) (λ x. world.newest - 1 ≤ x.stamp.epoch)
              (λ x waits. omega (arith, waits.1, top, (clock (s % length world.workers) (mod_below s (length world.workers) some)).near))
              (pending_of host (shard_at world s).contents) (waits_inside inside s within),
          up_to s within,
        );
      },
    )
      where
        inside : IsInside host (books_of world)
        inside = sound.right.inside phase

        clock : (i : ℕ) → i < length world.workers
            → IsRoundClock host.header.first (low_in host (books_of world) i) (top_in host (books_of world)) (worker_at host world i).clock.at.epoch
        clock i within = clock_inside inside i within

        Waits : ℕ → Element → Type 0
        Waits s x = IsWaiting host (low_in host (books_of world) (s % length world.workers)) (top_in host (books_of world)) x

        top : top_in host (books_of world) ≡ world.newest
        top = cond-true host.rolling world.newest (epoch_of host world) rolling

        low : (i : ℕ) → low_in host (books_of world) i ≡ scanned_at host world i
        low i = cond-true host.rolling (scanned_at host world i) (epoch_of host world) rolling

        up_to : (s : ℕ) → s < length world.shards → AreUpTo world.newest (pending_of host (shard_at world s).contents)
        up_to s within =
            every-weaker (Waits s) (λ x. x.stamp.epoch ≤ world.newest) (λ x waits. omega (arith, waits.2, top))
            (pending_of host (shard_at world s).contents) (waits_inside inside s within)

    -- Behind a whole close all pending elements are of the new epoch.
    pub is_behind_close : IsBehindClose host world
    is_behind_close moved s within = go world.closing refl
      where
        go : (b : Bool) → world.closing ≡ b → AreStamped host (suc (epoch_of host world)) (shard_at world s).contents
        go true closing =
            subst (λ (b : Bool). AreStamped host (epoch_at (epoch_of host world) b) (shard_at world s).contents)
            (moved s within) ((sound.right.closed closing).stamped s within)
        go false phase = absurd (true≢false (sym (moved s within) ∙ (sound.right.inside phase).still s within))

  -- ---- sealed epochs

  -- what all have sealed, each has
  each_sealed : (number : ℕ) (accounts : List Account) (i : ℕ) (d : Account) (n : ℕ) → i < length accounts
      → n < sealed_by_all (path_histories_from (scheme host) host.header number (map (λ account. account.log) accounts))
      → n < sealed_count (path_log_events (scheme host) host.header (number + i) (get_or accounts i d).log)
  each_sealed number [] i d n within below = absurd (omega (arith, within))
  each_sealed number (account ∷ []) zero d n within below =
      subst (λ (k : ℕ). n < sealed_count (path_log_events (scheme host) host.header k account.log)) {x = number} (omega arith) below
  each_sealed number (account ∷ []) (suc i) d n within below = absurd (omega (arith, within))
  each_sealed number (account ∷ other ∷ accounts) zero d n within below =
      subst (λ (k : ℕ). n < sealed_count (path_log_events (scheme host) host.header k account.log)) {x = number} (omega arith) (omega (arith, below))
  each_sealed number (account ∷ other ∷ accounts) (suc i) d n within below =
      subst (λ (k : ℕ). n < sealed_count (path_log_events (scheme host) host.header k (get_or (other ∷ accounts) i d).log)) {x = suc number + i} (omega arith)
      (each_sealed (suc number) (other ∷ accounts) i d n (omega (arith, within)) (omega (arith, below)))

  -- where each has sealed so many, all have
  all_sealed : (number : ℕ) (account : Account) (accounts : List Account) (d : Account) (n : ℕ)
      → ((i : ℕ) → i < length (account ∷ accounts)
      → sealed_count (path_log_events (scheme host) host.header (number + i) (get_or (account ∷ accounts) i d).log) ≡ n)
      → sealed_by_all (path_histories_from (scheme host) host.header number (map (λ account. account.log) (account ∷ accounts))) ≡ n
  all_sealed number account [] d n all =
      subst (λ (k : ℕ). sealed_count (path_log_events (scheme host) host.header k account.log) ≡ n) (omega arith) (all 0 (omega arith))
  all_sealed number account (other ∷ accounts) d n all =
      let here : sealed_count (path_log_events (scheme host) host.header number account.log) ≡ n =
      subst (λ (k : ℕ). sealed_count (path_log_events (scheme host) host.header k account.log) ≡ n) (omega arith) (all 0 (omega arith)) in
      omega (
        arith,
        here,
        all_sealed (suc number) other accounts d n
            (λ i within. subst (λ (k : ℕ). sealed_count (path_log_events (scheme host) host.header k (get_or (other ∷ accounts) i d).log) ≡ n)
            (omega arith) (all (suc i) (omega (arith, within)))),
      )

  -- an element of an earlier epoch than all that wait
  none_waits : (x : Element) (shards : List (Seats C))
      → ((s : ℕ) → s < length shards → AllByRecursion (λ y. x.stamp.epoch < y.stamp.epoch) (pending_of host (get_or shards s (unmoved [])).contents))
      → count_of x (pending_in_all host shards) ≡ 0
  none_waits x [] all = refl
  none_waits x (shard ∷ shards) all =
      let none = count_other x (pending_of host shard.contents)
      (every-weaker (λ y. x.stamp.epoch < y.stamp.epoch) (λ y. y.stamp.epoch ≢ x.stamp.epoch)
      (λ y later same. omega (arith, later, same)) (pending_of host shard.contents) (all 0 (omega arith))) in
      omega (
        arith,
        count-append x (pending_of host shard.contents) (pending_in_all host shards),
        none,
        none_waits x shards (λ s within. all (suc s) (omega (arith, within))),
      )

  module _ (world : World C) (sound : IsSound world) where
    -- an epoch that all have sealed is before that of each pending element
    waits_later : (epoch : ℕ) → host.header.first ≤ epoch → epoch < host.header.first + sealed_by_all (histories host world)
        → 1 ≤ length world.workers
        → (s : ℕ) → s < length world.shards → AllByRecursion (λ y. epoch < y.stamp.epoch) (pending_of host (shard_at world s).contents)
    waits_later epoch first below some s within = go world.closing refl
      where
        accounts : List Account
        accounts = map account_of world.workers

        some_there : 0 < length accounts
        some_there = subst (λ (n : ℕ). 0 < n) (sym (length-map world.workers account_of)) some

        clock : ℕ
        clock = (account_at host (books_of world) 0).clock.at.epoch

        -- the first worker is past the epoch that seals it
        sealed : (n : ℕ) → n + host.header.first ≡ epoch → n < clock - (host.header.first + 1)
        sealed n is =
            subst (λ (k : ℕ). n < k) (sound.right.each 0 some_there).sealed
            (each_sealed 0 accounts 0 (account_of (fresh host.header)) n some_there
            (subst (λ (hs : List (List Event)). n < sealed_by_all hs) (histories_are host world) (omega (arith, below, is))))

        past : epoch + 1 < clock
        past = omega (arith, sealed (epoch - host.header.first) (omega (arith, first)), first)

        closed : IsClosing host (books_of world) → (b : Bool) → (shard_at world s).moved ≡ b
            → AllByRecursion (λ y. epoch < y.stamp.epoch) (pending_of host (shard_at world s).contents)
        closed closing b is =
            every-weaker (IsStamped host (epoch_at (epoch_of host world) (shard_at world s).moved)) (λ y. epoch < y.stamp.epoch)
            (λ y stamped. later y (stamped.1 ∙ ap (epoch_at (epoch_of host world)) is) closing.past)
            (pending_of host (shard_at world s).contents) (closing.stamped s within)
          where
            later : (y : Element) → y.stamp.epoch ≡ epoch_at (epoch_of host world) b
                → AreMoved host (books_of world) ⊎ AreNotPast host (books_of world) → epoch < y.stamp.epoch
            later y stamped (inl moved) =
                omega (arith, stamped ∙ ap (epoch_at (epoch_of host world)) (sym is ∙ moved s within), past, (closing.clocks 0 some_there).1)
            later y stamped (inr not_past) = by b stamped
              where
                by : (b : Bool) → y.stamp.epoch ≡ epoch_at (epoch_of host world) b → epoch < y.stamp.epoch
                by true stamped = omega (arith, stamped, past, not_past 0 some_there)
                by false stamped = omega (arith, stamped, past, not_past 0 some_there)

        go : (b : Bool) → world.closing ≡ b → AllByRecursion (λ y. epoch < y.stamp.epoch) (pending_of host (shard_at world s).contents)
        go true closing = closed (sound.right.closed closing) (shard_at world s).moved refl
        go false phase =
            every-weaker (IsWaiting host (low_in host (books_of world) (s % length accounts)) (top_in host (books_of world))) (λ y. epoch < y.stamp.epoch)
            (λ y waits. omega (
              arith,
              waits.1,
              past,
              (inside.clocks 0 some_there).up_to,
              (inside.clocks (s % length accounts) (mod_below s (length accounts) some_there)).near,
            ))
            (pending_of host (shard_at world s).contents) (inside.waits s within)
          where
            inside : IsInside host (books_of world)
            inside = sound.right.inside phase

    -- Of each epoch that all have sealed, the added elements are a permutation of the evicted ones.
    pub sealed_permuted : 1 ≤ length world.workers → SealedArePermuted host world
    sealed_permuted some epoch from below =
        permuted (added_in epoch (order_of hs)) (evicted_in epoch (order_of hs))
        (λ x. count_epoch x epoch (added_among (order_of hs)) ∙ by x (x.stamp.epoch == epoch) refl
        ∙ sym (count_epoch x epoch (evicted_among (order_of hs))))
      where
        hs : List (List Event)
        hs = histories host world

        counts : (x : Element) → x.stamp.epoch ≡ epoch → count_of x (added_among (order_of hs)) ≡ count_of x (evicted_among (order_of hs))
        counts x own =
            let none = none_waits x world.shards
            (λ s within. subst (λ (e : ℕ). AllByRecursion (λ y. e < y.stamp.epoch) (pending_of host (shard_at world s).contents)) (sym own)
            (waits_later epoch from below some s within)) in
            let evicted : count_of x (evicted_among (all_events hs)) ≡ count_of x (added_among (all_events hs)) =
            ap (λ (hs : List (List Event)). count_of x (evicted_among (all_events hs))) (histories_are host world)
            ∙ sound.counted x
            ∙ ap (λ (n : ℕ). count_of x (added_among (all_events (histories_in host (map account_of world.workers)))) + n) none
            ∙ omega arith
            ∙ ap (λ (hs : List (List Event)). count_of x (added_among (all_events hs))) (sym (histories_are host world)) in
            sum-merged (λ events. count_of x (added_among events)) (counts_added x) (all_events hs)
            ∙ sym evicted
            ∙ sym (sum-merged (λ events. count_of x (evicted_among events)) (counts_evicted x) (all_events hs))

        by : (x : Element) (b : Bool) → (x.stamp.epoch == epoch) ≡ b
            → (if x.stamp.epoch == epoch then count_of x (added_among (order_of hs)) else 0)
            ≡ (if x.stamp.epoch == epoch then count_of x (evicted_among (order_of hs)) else 0)
        by x true own = ap (λ (n : ℕ). if x.stamp.epoch == epoch then n else 0) (counts x (eqb-true x.stamp.epoch epoch own))
        by x false other =
            ap (λ (b : Bool). if b then count_of x (added_among (order_of hs)) else 0) other
            ∙ sym (ap (λ (b : Bool). if b then count_of x (evicted_among (order_of hs)) else 0) other)

  -- ---- certified epochs

  -- where so many epochs are balanced, all of them are counted
  balanced_all : (events : List Event) (epoch count : ℕ)
      → ((e : ℕ) → epoch ≤ e → e < epoch + count → is_balanced (scheme host) events e ≡ true)
      → balanced_from (scheme host) events epoch count ≡ count
  balanced_all events epoch zero all = refl
  balanced_all events epoch (suc count) all =
      ap (λ (b : Bool). if b then suc (balanced_from (scheme host) events (suc epoch) count) else 0) (all epoch (omega arith) (omega arith))
      ∙ ap suc (balanced_all events (suc epoch) count (λ e from below. all e (omega (arith, from)) (omega (arith, below))))

  -- where none is uneven, none is found
  uneven_none : (events : List Event) (epoch count : ℕ)
      → ((e : ℕ) → epoch ≤ e → e < epoch + count → is_permutation (added_in e events) (evicted_in e events) ≡ true)
      → first_uneven events epoch count ≡ None
  uneven_none events epoch zero all = refl
  uneven_none events epoch (suc count) all =
      ap (λ (b : Bool). if b then first_uneven events (suc epoch) count else Some epoch) (all epoch (omega arith) (omega arith))
      ∙ uneven_none events (suc epoch) count (λ e from below. all e (omega (arith, from)) (omega (arith, below)))

  -- Nothing is uneven of the epochs that all have sealed.
  pub none_uneven : (world : World C) → IsSound world → 1 ≤ length world.workers
      → first_uneven (order_of (histories host world)) host.header.first (sealed_by_all (histories host world)) ≡ None
  none_uneven world sound some =
      uneven_none (order_of (histories host world)) host.header.first (sealed_by_all (histories host world)) (sealed_permuted world sound some)

  -- Each epoch that all have sealed is certified.
  pub all_certified : (world : World C) → IsSound world → 1 ≤ length world.workers → AllCertified host world
  all_certified world sound some =
      balanced_all (order_of (histories host world)) host.header.first (sealed_by_all (histories host world))
      (λ epoch from below. same_sum-permuted (scheme host) (added_in epoch (order_of (histories host world)))
      (evicted_in epoch (order_of (histories host world))) (sealed_permuted world sound some epoch from below))

  -- Behind a whole last close each phase's epoch is certified.
  pub is_whole : (world : World C) → IsSound world → 1 ≤ length world.workers → IsWhole host world
  is_whole world sound some advanced =
      all_certified world sound some ∙ ap sealed_by_all (histories_are host world)
      ∙ go (map account_of world.workers) some_there
      (λ i there. (sound.right.each i there).sealed
      ∙ ap (λ (a : Account). a.clock.at.epoch - (host.header.first + 1)) (account_is host world i)
      ∙ counted (advanced i (subst (λ (n : ℕ). i < n) (length-map world.workers account_of) there)))
    where
      some_there : 0 < length (map account_of world.workers)
      some_there = subst (λ (n : ℕ). 0 < n) (sym (length-map world.workers account_of)) some

      counted : {e : ℕ} → e ≡ epoch_of host world + 2 → e - (host.header.first + 1) ≡ suc world.phase
      counted is = omega (arith, is)

      go : (accounts : List Account) → 0 < length accounts
          → ((i : ℕ) → i < length accounts
          → sealed_count (path_log_events (scheme host) host.header i (get_or accounts i (account_of (fresh host.header))).log) ≡ suc world.phase)
          → sealed_by_all (histories_in host accounts) ≡ suc world.phase
      go [] there all = absurd (omega (arith, there))
      go (account ∷ accounts) there all =
          all_sealed 0 account accounts (account_of (fresh host.header)) (suc world.phase)
          (λ i within. subst (λ (k : ℕ). sealed_count (path_log_events (scheme host) host.header k (get_or (account ∷ accounts) i (account_of (fresh host.header))).log) ≡ suc world.phase)
          (omega arith) (all i within))

  -- there is a worker
  pub some_worker : IsFit mirrors host → (world : World C) → IsSound world → 1 ≤ length world.workers
  some_worker fit world sound =
      omega (arith, fit.some, sound.right.known, length-map world.workers account_of)
