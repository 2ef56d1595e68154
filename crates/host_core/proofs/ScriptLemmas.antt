-- What a worker has served: no request of a phase that is over is left, so at the end none is; and behind a round none is.
use Rattle.std.proofs.Common.{◌≡◌, ◌⊎◌, ℕ, zero, suc, ◌+◌, ◌-◌, ◌<◌, ◌≤◌, ◌==◌, Bool, true, false, List, [], ◌∷◌, ◌++◌, map, filter, length, take, get_or, set, slice_get, Option, Some, None, refl, sym, ◌∙◌, ap, subst, inl, inr, if◌then◌else◌, true≢false, take_all, arith}
use Rattle.std.proofs.lemmas.Bool.{cases_lt}
use Rattle.std.proofs.lemmas.List.{length-map}
use Rattle.std.proofs.lemmas.Option.{none-some, same_Some}
use Rattle.log_codec.specs.declared.command.Command.TheVariants.{NextEpoch}
use Rattle.host_core.specs.Host.{Host, scheme, asked_in, asked_from, asked, script_of}
use Rattle.host_core.specs.World.{World, fresh, worker_at, set_up}
use Rattle.host_core.specs.WorldEvent.{next_clock, IsNext}
use Rattle.soundness.specs.PathHistory.{path_log_events}
use Rattle.host_core.specs.Deeds.{answers_in, IsAnswering}
use Rattle.host_core.specs.Core.{AreAnswered, AreAnsweredInTime, IsDone, IsRoundDone}
use Rattle.host_core.proofs.Books.{every-set, Account, account_of, Books, books_of, account_at, account_is, with_more, advanced_books, IsOwn, InTurn, InEntry, Progress, stays, serves_one, moves_one, advances_one, opens_next, raises_newest, finishes_one}

-- ---- the script stands by phase

module _ {R : Type 0} where
  -- no phase is before one that stands before it, and each is below the end
  abbrev pub IsByPhase : ℕ → ℕ → List (ℕ × R) → Type 0
  IsByPhase low end [] = Unit {0}
  IsByPhase low end (ask ∷ asks) = (low ≤ ask.0) × (ask.0 < end) × IsByPhase ask.0 end asks

  by_phase-lower : (lower low end : ℕ) (asks : List (ℕ × R)) → lower ≤ low → IsByPhase low end asks → IsByPhase lower end asks
  by_phase-lower lower low end [] below by = tt
  by_phase-lower lower low end (ask ∷ asks) below by = (omega (arith, below, by.0), by.1, by.2)

  -- the requests of one phase, and then those of later ones
  by_phase-in : (i phase low end : ℕ) (turns : List (ℕ × R)) (more : List (ℕ × R)) → low ≤ phase → phase < end
      → IsByPhase phase end more → IsByPhase low end (asked_in i phase turns ++ more)
  by_phase-in i phase low end [] more below within by = by_phase-lower low phase end more below by
  by_phase-in i phase low end (turn ∷ turns) more below within by = go (turn.0 == i)
      (by_phase-in i phase phase end turns more (omega arith) within by) (by_phase-in i phase low end turns more below within by)
    where
      go : (b : Bool) → IsByPhase phase end (asked_in i phase turns ++ more) → IsByPhase low end (asked_in i phase turns ++ more)
          → IsByPhase low end (map (λ turn. (phase, turn.1)) (if b then turn ∷ filter (λ turn. turn.0 == i) turns else filter (λ turn. turn.0 == i) turns) ++ more)
      go true behind skipped = (below, within, behind)
      go false behind skipped = skipped

  by_phase-from : (i phase end : ℕ) (script : List (List (ℕ × R))) → phase + length script ≡ end → IsByPhase phase end (asked_from i phase script)
  by_phase-from i phase end [] is = tt
  by_phase-from i phase end (turns ∷ script) is =
      by_phase-in i phase phase end turns (asked_from i (suc phase) script) (omega arith) (omega (arith, is))
      (by_phase-lower phase (suc phase) end (asked_from i (suc phase) script) (omega arith)
      (by_phase-from i (suc phase) end script (omega (arith, is))))

  -- a request is of a phase below the end
  by_phase-within : (low end : ℕ) (asks : List (ℕ × R)) (k : ℕ) (ask : ℕ × R) → IsByPhase low end asks → slice_get asks k ≡ Some ask → ask.0 < end
  by_phase-within low end [] k ask by is = absurd (none-some ask is)
  by_phase-within low end (first ∷ asks) zero ask by is = subst (λ (a : ℕ × R). a.0 < end) (same_Some first ask is) by.1
  by_phase-within low end (first ∷ asks) (suc k) ask by is = by_phase-within first.0 end asks k ask by.2 is

  by_phase-first : (low end : ℕ) (asks : List (ℕ × R)) (ask : ℕ × R) → IsByPhase low end asks → slice_get asks 0 ≡ Some ask → low ≤ ask.0
  by_phase-first low end [] ask by is = absurd (none-some ask is)
  by_phase-first low end (first ∷ asks) ask by is = subst (λ (a : ℕ × R). low ≤ a.0) (same_Some first ask is) by.0

  -- and none is of a phase before that of the one in front of it
  by_phase-next : (low end : ℕ) (asks : List (ℕ × R)) (k : ℕ) (ask next : ℕ × R) → IsByPhase low end asks
      → slice_get asks k ≡ Some ask → slice_get asks (suc k) ≡ Some next → ask.0 ≤ next.0
  by_phase-next low end [] k ask next by is then_is = absurd (none-some ask is)
  by_phase-next low end (first ∷ asks) zero ask next by is then_is =
      subst (λ (a : ℕ × R). a.0 ≤ next.0) (same_Some first ask is) (by_phase-first first.0 end asks next by.2 then_is)
  by_phase-next low end (first ∷ asks) (suc k) ask next by is then_is = by_phase-next first.0 end asks k ask next by.2 is then_is

-- where nothing stands at a number, the list ends before it
past_end : {X : Type 0} (xs : List X) (k : ℕ) → slice_get xs k ≡ None → length xs ≤ k
past_end [] k none = omega arith
past_end (x ∷ xs) zero none = absurd (none-some x (sym none))
past_end (x ∷ xs) (suc k) none = omega (arith, past_end xs k none)

module _ {C R : Type 0} (host : Host C R) where
  asked_by_phase : (i : ℕ) → IsByPhase 0 (length host.script) (asked host i)
  asked_by_phase i = by_phase-from i 0 (length host.script) host.script (omega arith)

  -- ---- what is left to serve

  -- in a host that is not rolling, what a worker is asked next is of no phase before this one
  abbrev pub IsLeft : ℕ → ℕ → Account → Type 0
  IsLeft phase i account = host.rolling ≡ false → (ask : ℕ × R) → slice_get (asked host i) account.served ≡ Some ask → phase ≤ ask.0

  abbrev pub AreLeft : Books C → Type 0
  AreLeft books = (i : ℕ) → i < length books.accounts → IsLeft books.phase i (account_at host books i)

  -- more commands that serve nothing
  left-more : (old : Books C) → AreLeft old → (i : ℕ) (account : Account) → IsOwn host old i account
      → (next : Account) → next.served ≡ account.served + 0 → IsLeft old.phase i next
  left-more old left i account own next is plain ask asks =
      subst (IsLeft old.phase i) own.is (left i own.there) plain ask
      (ap (slice_get (asked host i)) (sym (is ∙ omega arith)) ∙ asks)

  -- Each event keeps it.
  pub progress_left : (old new : Books C) → Progress host old new → AreLeft old → AreLeft new
  progress_left old new (stays is) left = subst AreLeft (sym is) left
  progress_left old new (serves_one i account s seat request done did is) left =
      subst AreLeft (sym is)
      (every-set (IsLeft old.phase) old.accounts i (with_more account done.commands done.clock 1) (account_of (fresh host.header)) left
      (λ plain ask asks. omega (
        arith,
        subst (IsLeft old.phase i) did.own.is (left i did.own.there) plain (did.asked_for, request) did.next,
        by_phase-next 0 (length host.script) (asked host i) account.served (did.asked_for, request) ask (asked_by_phase i) did.next
            (ap (slice_get (asked host i)) (suc-is account.served) ∙ asks),
      )))
    where
      suc-is : (n : ℕ) → suc n ≡ n + 1
      suc-is n = omega arith
  progress_left old new (moves_one i account s moved done did is) left =
      subst AreLeft (sym is)
      (every-set (IsLeft old.phase) old.accounts i (with_more account done.commands done.clock 0) (account_of (fresh host.header)) left
      (left-more old left i account did.own (with_more account done.commands done.clock 0) refl))
  progress_left old new (advances_one i account closing did is) left =
      subst AreLeft (sym is)
      (every-set (IsLeft old.phase) old.accounts i (with_more account (NextEpoch ∷ []) (next_clock account.clock) 0) (account_of (fresh host.header)) left
      (left-more old left i account did.own (with_more account (NextEpoch ∷ []) (next_clock account.clock) 0) refl))
  progress_left old new (opens_next did is) left =
      subst AreLeft (sym is) (λ i within plain ask asks. go i within ask asks (left i within plain ask asks))
    where
      go : (i : ℕ) → i < length old.accounts → (ask : ℕ × R) → slice_get (asked host i) (account_at host old i).served ≡ Some ask
          → old.phase ≤ ask.0 → suc old.phase ≤ ask.0
      go i within ask asks from = by (cases_lt old.phase ask.0)
        where
          by : (old.phase < ask.0) ⊎ (ask.0 ≤ old.phase) → suc old.phase ≤ ask.0
          by (inl later) = omega (arith, later)
          by (inr not_later) =
              let same : ask.0 ≡ old.phase = omega (arith, from, not_later) in
              absurd (did.through i within ask.1 (asks ∙ ap (λ (n : ℕ). Some (n, ask.1)) same))
  progress_left old new (raises_newest i account did is) left = subst AreLeft (sym is) left
  progress_left old new (finishes_one i account did is) left = subst AreLeft (sym is) left

  pub setup_left : AreLeft (books_of (set_up host))
  setup_left i within plain ask asks =
      omega (arith, ap (λ (b : Bool). if b then length host.script - 1 else 0) plain)

  -- Where the last phase is over and no clock ended, all that was asked is answered.
  pub is_done : (world : World C) → host.rolling ≡ false → AreLeft (books_of world) → AreAnswered host world → IsDone host world
  is_done world plain left answered last over running i within =
      answered i within ∙ go (slice_get (asked host i) (worker_at host world i).served) refl (over i within).1
    where
      asks : List (ℕ × R)
      asks = asked host i

      served : ℕ
      served = (worker_at host world i).served

      whole : length asks ≤ served → take served (script_of host i) ≡ script_of host i
      whole past = take_all served (script_of host i)
          (subst (λ (n : ℕ). n ≤ served) (sym (length-map asks (λ ask. (host.header.first + ask.0, host.telling ask.1)))) past)

      go : (o : Option (ℕ × R)) → slice_get asks served ≡ o
          → ((worker_at host world i).stopped ≡ true) ⊎ ((request : R) → IsNext host world i request → ⊥)
          → take served (script_of host i) ≡ script_of host i
      go o is (inl stopped) = absurd (true≢false (sym stopped ∙ running i within))
      go None is (inr through) = whole (past_end asks served is)
      go (Some ask) is (inr through) =
          let within_script = by_phase-within 0 (length host.script) asks served ask (asked_by_phase i) is in
          let from : world.phase ≤ ask.0 =
          left i (subst (λ (n : ℕ). i < n) (sym (length-map world.workers account_of)) within) plain ask
          (ap (λ (a : Account). slice_get asks a.served) (account_is host world i) ∙ is) in
          let same : ask.0 ≡ world.phase = omega (arith, last, within_script, from) in
          absurd (through ask.1 (is ∙ ap (λ (n : ℕ). Some (n, ask.1)) same))

  -- ---- behind a round

  -- behind its round nothing that is asked is left in a rolling host
  abbrev pub AllServed : Books C → Type 0
  AllServed books = host.rolling ≡ true → books.closing ≡ true → (i : ℕ) → i < length books.accounts
      → slice_get (asked host i) (account_at host books i).served ≡ None

  -- one more account that has served no more, where the others have served all
  served-more : (old : Books C) (i : ℕ) (account next : Account) → IsOwn host old i account → next.served ≡ account.served + 0
      → ((j : ℕ) → j < length old.accounts → slice_get (asked host j) (account_at host old j).served ≡ None)
      → (j : ℕ) → j < length (set old.accounts i next)
      → slice_get (asked host j) (get_or (set old.accounts i next) j (account_of (fresh host.header))).served ≡ None
  served-more old i account next own is all =
      every-set (λ j a. slice_get (asked host j) a.served ≡ None) old.accounts i next (account_of (fresh host.header)) all
      (ap (slice_get (asked host i)) (is ∙ omega arith)
      ∙ subst (λ (a : Account). slice_get (asked host i) a.served ≡ None) own.is (all i own.there))

  -- Each event keeps it: none serves behind a round.
  pub progress_served : (old new : Books C) → Progress host old new → AllServed old → AllServed new
  progress_served old new (stays is) all = subst AllServed (sym is) all
  progress_served old new (serves_one i account s seat request done did is) all =
      subst AllServed (sym is) (λ rolling closing. absurd (true≢false (sym closing ∙ did.phase)))
  progress_served old new (moves_one i account s moved done did is) all =
      subst AllServed (sym is)
      (λ rolling closing. served-more old i account (with_more account done.commands done.clock 0) did.own refl (all rolling closing))
  progress_served old new (advances_one i account closing did is) all = subst AllServed (sym is) (go did.when)
    where
      next : Account
      next = with_more account (NextEpoch ∷ []) (next_clock account.clock) 0

      go : InTurn host old account closing ⊎ InEntry host old account closing → AllServed (advanced_books host old i account closing)
      go (inl turn) rolling closes = served-more old i account next did.own refl (λ j within. (turn.settled rolling j within).0)
      go (inr entry) rolling closes = absurd (true≢false (sym closes ∙ entry.is))
  progress_served old new (opens_next did is) all =
      subst AllServed (sym is) (λ rolling closing. absurd (true≢false (sym closing)))
  progress_served old new (raises_newest i account did is) all = subst AllServed (sym is) all
  progress_served old new (finishes_one i account did is) all = subst AllServed (sym is) all

  pub setup_served : AllServed (books_of (set_up host))
  setup_served rolling closing = absurd (true≢false (sym closing))

  -- Behind a round each worker has answered all that was asked.
  pub is_round_done : (world : World C) → host.rolling ≡ true → AllServed (books_of world) → AreAnsweredInTime host world → IsRoundDone host world
  is_round_done world rolling served answered closing i within =
      subst (IsAnswering host (answers_in (path_log_events (scheme host) host.header i (worker_at host world i).log))) whole (answered i within)
    where
      nothing : slice_get (asked host i) (worker_at host world i).served ≡ None
      nothing =
          ap (λ (a : Account). slice_get (asked host i) a.served) (sym (account_is host world i))
          ∙ served rolling closing i (subst (λ (n : ℕ). i < n) (sym (length-map world.workers account_of)) within)

      whole : take (worker_at host world i).served (asked host i) ≡ asked host i
      whole = take_all (worker_at host world i).served (asked host i) (past_end (asked host i) (worker_at host world i).served nothing)
