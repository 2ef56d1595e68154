-- Where a round and a close leave a run.
use Rattle.std.proofs.Common.{◌≡◌, ◌⊎◌, inl, inr, ◌↔◌, ℕ, suc, ◌+◌, ◌<◌, ◌≤◌, Bool, true, false, List, length, Option, Some, None, IfSome, if◌then◌else◌, refl, sym, ◌∙◌, ap, subst, arith}
use Rattle.std.proofs.lemmas.Bool.{false≢true, cases_lt}
use Rattle.record_hash.specs.Functions.{DigestFunctions}
use Rattle.host_core.specs.Host.{Host}
use Rattle.host_core.specs.World.{World, fresh, worker_at}
use Rattle.host_core.specs.WorldEvent.{IsLast}
use Rattle.host_world.specs.declared.fault.ClockEnd.{ClockEnd}
use Rattle.host_serving.specs.Leading.{first_of, CanDoNoMore}
use Rattle.host_serving.specs.Standing.{first_of_round, BeginsRound, IsServedOut, NoneStopped, SomeStopped, IsRoundStopped, EndsRound, NoneStuckBelow, IsLowest, IsClosed, IsAllServed}
use Rattle.host_serving.proofs.LeadingLaws.{first_of-none}
use Rattle.worker_threads.specs.Phase.{first_stopped}
use Rattle.shipped_host.specs.declared.settings.Settings.{Settings}
use Rattle.host_world.specs.Shown.{shown_world, digests_of}
use Rattle.host_world.specs.Behind.{AreOfOneHost, host_of}
use Rattle.verifier_threads.specs.declared.accounts.Account.{Account}
use Rattle.verifier_threads.specs.declared.world_run.WorldRun.{WorldRun}
use Rattle.verifier_threads.specs.declared.runner.NextCall.{NextCall}
use Rattle.verifier_threads.specs.declared.runner.NextCall.TheVariants as calls
use Rattle.verifier_threads.specs.InRounds.{Logs, IsBehindRounds}
use Rattle.verifier_threads.specs.Serving.{Outputs}
use Rattle.verifier_threads.specs.Running.{Runs, rounds_before, all_handed_out, IsAtRound, IsAtClose, IsAtEnd}
use Rattle.verifier_threads.proofs.HandingLemmas.{handed-none}
use Rattle.verifier_threads.proofs.StandingLemmas.{round_handed, close_handed, all_handed, rests_handed, lowest_handed}
use Rattle.verifier_threads.proofs.RunningLemmas.{running-last}
use Rattle.verifier_threads.proofs.LowestLemmas.{all-running, lower-running, first-stopped}

-- what holds of a host, a world and an end holds of the same under other names
pub moved : {C R : Type 0} (P : Host C R → World C → Option ClockEnd → Type 0) (h h' : Host C R) (w w' : World C) (e e' : Option ClockEnd)
    → h' ≡ h → w' ≡ w → e' ≡ e → P h w e → P h' w' e'
moved {C} {R} P h h' w w' e e' host world end holds =
    subst (λ (k : Host C R). P k w' e') (sym host) (subst (λ (v : World C). P h v e') (sym world) (subst (λ (f : Option ClockEnd). P h w f) (sym end) holds))

-- where there is no first of two ends, there is neither
pub none-first : (a b : Option ClockEnd) → first_of a b ≡ None → (a ≡ None) × (b ≡ None)
none-first None b is = (refl, is)
none-first (Some end) b is = absurd (cc)

-- whether it is over, by another name of the end
pub over_at : (last : Bool) (e e' : Option ClockEnd) → e ≡ e' → (last ≡ true) ⊎ (e ≡ None → ⊥) → (last ≡ true) ⊎ (e' ≡ None → ⊥)
over_at last e e' is (inl it) = inl it
over_at last e e' is (inr ended) = inr (λ none'. ended (is ∙ none'))

-- the close is the last of the last phase, and where a clock ended
pub closes-last : {C R : Type 0} (host : Host C R) (world : World C) (end : Option ClockEnd) (left : ℕ) (last : Bool) → IsAtClose host world end
    → left + world.phase ≡ length host.script → (left ≤ 1 → last ≡ true) → ((end ≡ None → ⊥) → last ≡ true)
    → (1 < left → end ≡ None → last ≡ false) → (last ≡ true) ↔ IsLast host world
closes-last host world end left last at size by_script by_end going = (forward, backward)
  where
    forward : last ≡ true → IsLast host world
    forward is_last = elim (cases_lt 1 left) [
      | inl more ↦ elim at.ended [
        | inl running ↦ absurd (false≢true (sym (going more running.0) ∙ is_last))
        | inr stopped ↦ inr stopped.1
      ]
      | inr few ↦ inl (omega (arith, few, size))
    ]

    backward : IsLast host world → last ≡ true
    backward (inl over) = by_script (omega (arith, over, size))
    backward (inr stopped) = elim at.ended [
      | inl running ↦ absurd (false≢true (sym (running.1 stopped.0 stopped.1) ∙ stopped.2))
      | inr ended ↦ by_end ended.0
    ]

-- what holds before the call that comes next, by whether the close was the last
pub next-by : (P : NextCall → Type 0) (last : Bool) (end : Option ClockEnd) (call : NextCall)
    → ((last ≡ true) ⊎ (end ≡ None → ⊥) → call ≡ calls.Finish) → (last ≡ false → end ≡ None → call ≡ calls.Round)
    → ((last ≡ true) ⊎ (end ≡ None → ⊥) → P calls.Finish) → (last ≡ false → end ≡ None → P calls.Round) → P call
next-by P true end call over going ends goes_on = subst P (sym (over (inl refl))) (ends (inl refl))
next-by P false None call over going ends goes_on = subst P (sym (going refl refl)) (goes_on refl refl)
next-by P false (Some end) call over going ends goes_on = subst P (sym (over (inr (λ is. cc)))) (ends (inr (λ is. cc)))

-- the end is that of the lowest worker whose clock ended with it
lowest-end : {C R : Type 0} (host : Host C R) (old now : World C) (start next : Option ClockEnd) → start ≡ first_stopped 0 old.workers
    → ((i : ℕ) → (worker_at host now i).stopped ≡ (worker_at host old i).stopped) → IfSome next (λ found. NoneStuckBelow host now found.worker)
    → IsLowest host now (first_of start next)
lowest-end host old now None None first stays below = tt
lowest-end host old now None (Some found) first stays below = λ i less. (
  stays i ∙ all-running (fresh host.header) refl 0 old.workers (sym first) i,
  λ running. below i less,
)
lowest-end host old now (Some found) next first stays below = λ i less. (
  stays i ∙ lower-running (fresh host.header) refl 0 old.workers found (sym first) i (omega (arith, less)),
  λ running.
      let own = first-stopped (fresh host.header) refl 0 old.workers found (sym first) in
      let there : found.worker ≡ own.0 = omega (arith, own.1) in
      absurd (false≢true (sym running ∙ stays found.worker ∙ ap (λ (n : ℕ). (worker_at host old n).stopped) there ∙ own.2)),
)

module _ {C R : Type 0} (host : Host C R) (world : World C) where
  -- a round that is done is one of the script's
  pub at-within : EndsRound host world → world.phase < length host.script
  at-within (inl out) = out.served.within
  at-within (inr stopped) = stopped.within

  -- where a rolling host closes its last phase alone, one that closes another is plain
  pub not-rolling : (last : Bool) → (host.rolling ≡ true → length host.script ≤ suc world.phase) → (last ≡ true) ↔ IsLast host world
      → last ≡ false → host.rolling ≡ false
  not-rolling last end is_last going = go host.rolling refl
    where
      go : (b : Bool) → host.rolling ≡ b → b ≡ false
      go true rolling = absurd (false≢true (sym going ∙ is_last.1 (inl (end rolling))))
      go false plain = refl

  module _ (end : Option ClockEnd) (at : IsAtClose host world end) where
    -- a clock ended where one of a worker did
    ended-some : SomeStopped host world → end ≡ None → ⊥
    ended-some some none' = elim at.ended [
      | inl running ↦ false≢true (sym (running.1 some.0 some.1) ∙ some.2)
      | inr ended ↦ ended.0 none'
    ]

    -- whether the round is stopped or served out, by whether the host is rolling and a clock ended
    pub round-stopped : (is : Bool) → (host.rolling ≡ true → (end ≡ None → ⊥) → is ≡ true) → (host.rolling ≡ false → is ≡ false) → (end ≡ None → is ≡ false)
        → (is ≡ true → IsRoundStopped host world) × (is ≡ false → IsServedOut host world)
    round-stopped is stops plain running = by_round at.done
      where
        rolling_is : is ≡ true → (b : Bool) → host.rolling ≡ b → host.rolling ≡ true
        rolling_is is_true true rolling = rolling
        rolling_is is_true false other = absurd (false≢true (sym (plain other) ∙ is_true))

        not_out : IsServedOut host world → is ≡ true → ⊥
        not_out out is_true = elim at.ended [
          | inl none' ↦ false≢true (sym (running none'.0) ∙ is_true)
          | inr ended ↦ false≢true (sym (out.settled (rolling_is is_true host.rolling refl) ended.1.0 ended.1.1).0 ∙ ended.1.2)
        ]

        by_round : EndsRound host world → (is ≡ true → IsRoundStopped host world) × (is ≡ false → IsServedOut host world)
        by_round (inl out) = (λ is_true. absurd (not_out out is_true), λ is_false. out)
        by_round (inr stopped) = (
          λ is_true. stopped,
          λ is_false. absurd (false≢true (sym is_false ∙ stops stopped.rolling (ended-some stopped.stopped))),
        )

    -- where the round is stopped nothing follows
    pub stopped-end : IsRoundStopped host world → IsAtEnd host world end
    stopped-end stopped = record {
      rests = inr stopped;
      handed = at.handed;
      whole = λ none'. absurd (ended-some stopped.stopped none');
      last = λ none'. absurd (ended-some stopped.stopped none');
      lowest = subst (IsLowest host world) (first_of-none end) (lowest-end host world world end None at.first (λ i. refl) tt);
    }

    pub stopped-ended : IsRoundStopped host world → end ≡ None → ⊥
    stopped-ended stopped = ended-some stopped.stopped

module _ {C R : Type 0} (host : Host C R) (old now : World C) where
  -- a round was served
  pub at-close : (end : Option ClockEnd) → EndsRound host now → NoneStopped host old
      → (end ≡ None → NoneStopped host old → NoneStopped host now) → IfSome end (λ _. SomeStopped host now)
      → end ≡ first_stopped 0 now.workers → IsAtClose host (all_handed_out now) end
  at-close None done before running stopped first = close_handed host now None done (inl (refl, running refl before)) first
  at-close (Some end) done before running stopped first = close_handed host now (Some end) done (inr (λ is. cc, stopped)) first

  -- the next phase of a plain host is its next round
  pub next-first : host.rolling ≡ false → now.phase ≡ suc old.phase → first_of_round host now ≡ suc (first_of_round host old)
  next-first plain same =
      ap (λ (b : Bool). if b then 0 else now.phase) plain ∙ same
      ∙ sym (ap (λ (b : Bool). suc (if b then 0 else old.phase)) plain)

  module _ (last : Bool) (start next : Option ClockEnd) (at : IsAtClose host old start) (is_last : (last ≡ true) ↔ IsLast host old) where
    -- where a clock ended in the round the close is the last
    stopped_last : (start ≡ None → ⊥) → last ≡ true
    stopped_last ended = elim at.ended [
      | inl running ↦ absurd (ended running.0)
      | inr stopped ↦ is_last.1 (inr stopped.1)
    ]

    -- no clock has ended, and the close was the script's last
    pub whole_close : start ≡ None → last ≡ true → IsClosed host now × (now.phase ≡ old.phase) × (NoneStopped host old → NoneStopped host now)
        → IsAllServed host now × (suc now.phase ≡ length host.script)
    whole_close none' is closed = elim at.ended [
      | inl running ↦ from_last running.1 (is_last.0 is)
      | inr stopped ↦ absurd (stopped.0 none')
    ]
      where
        from_last : NoneStopped host old → IsLast host old → IsAllServed host now × (suc now.phase ≡ length host.script)
        from_last running (inl end) = (
          record { last = omega (arith, end, closed.1); closed = closed.0; running = closed.2 running },
          omega (arith, end, closed.1, at-within host old at.done),
        )
        from_last running (inr stopped) = absurd (false≢true (sym (running stopped.0 stopped.1) ∙ stopped.2))

    pub at-end : (closed : next ≡ None → last ≡ true → IsClosed host now × (now.phase ≡ old.phase) × (NoneStopped host old → NoneStopped host now))
        → (next ≡ None → last ≡ true → CanDoNoMore host now) → IfSome next (λ _. CanDoNoMore host now)
        → ((i : ℕ) → (worker_at host now i).stopped ≡ (worker_at host old i).stopped) → IfSome next (λ found. NoneStuckBelow host now found.worker)
        → (last ≡ true) ⊎ (first_of start next ≡ None → ⊥)
        → IsAtEnd host (all_handed_out now) (first_of start next) × (first_of start next ≡ None → now.phase ≡ old.phase)
    at-end closed rests ended stays below over = (
      record {
        rests = inl (rests_handed host now (no_more start next refl refl ended over));
        handed = handed-none now.workers;
        whole = λ none'. all_handed host now (whole none').0;
        last = λ none'. (whole none').1;
        lowest = lowest_handed host now (first_of start next) (lowest-end host old now start next at.first stays below);
      },
      λ none'.
          let both = none_first start next none' in
          (closed both.1 (is_over both.1 over)).1,
    )
      where
        none_first : (a b : Option ClockEnd) → first_of a b ≡ None → (a ≡ None) × (b ≡ None)
        none_first None b is = (refl, is)
        none_first (Some end) b is = absurd (cc)

        is_over : next ≡ None → (last ≡ true) ⊎ (first_of start next ≡ None → ⊥) → last ≡ true
        is_over none' (inl is) = is
        is_over none' (inr end) = stopped_last (λ start_none. end (ap (λ (a : Option ClockEnd). first_of a next) start_none ∙ none'))

        no_more : (a b : Option ClockEnd) → start ≡ a → next ≡ b → IfSome b (λ _. CanDoNoMore host now)
            → (last ≡ true) ⊎ (first_of start next ≡ None → ⊥) → CanDoNoMore host now
        no_more a None start_is next_is stuck end = rests next_is (is_over next_is end)
        no_more a (Some e) start_is next_is stuck end = stuck

        whole : first_of start next ≡ None → IsAllServed host now × (suc now.phase ≡ length host.script)
        whole none' =
            let both = none_first start next none' in
            let is = is_over both.1 over in
            whole_close both.0 is (closed both.1 is)

    -- the close stands behind so many rounds
    pub behind-close : (last ≡ false → host.rolling ≡ false) → (closed : next ≡ None → last ≡ true → CanDoNoMore host now) → IfSome next (λ _. CanDoNoMore host now)
        → (next ≡ None → last ≡ false → BeginsRound host now × (now.phase ≡ suc old.phase) × NoneStopped host now)
        → IsBehindRounds host (suc (suc (first_of_round host old) + first_of_round host old)) now
    behind-close plain rests ended opened = go last next refl refl ended
      where
        before : ℕ
        before = first_of_round host old

        go : (b : Bool) (n : Option ClockEnd) → last ≡ b → next ≡ n → IfSome n (λ _. CanDoNoMore host now) → IsBehindRounds host (suc (suc before + before)) now
        go b (Some found) last_is next_is ended = inr (inr (suc before, omega arith, ended))
        go true None last_is next_is ended = inr (inr (suc before, omega arith, rests next_is last_is))
        go false None last_is next_is ended =
            let new = opened next_is last_is in
            let same = next-first (plain last_is) new.1 in
            inr (inl (omega (arith, same), new.0))

    -- another round begins
    pub at-round : (last ≡ false → host.rolling ≡ false) → (next ≡ None → last ≡ false → BeginsRound host now × (now.phase ≡ suc old.phase) × NoneStopped host now)
        → last ≡ false → first_of start next ≡ None
        → IsAtRound host (all_handed_out now) (first_of start next) × ((all_handed_out now).phase ≡ suc old.phase)
    at-round plain opened going none' =
        let new = opened (none_next start next none') going in
        (round_handed host now (first_of start next) (plain going) new.0 new.2 none', new.1)
      where
        none_next : (a b : Option ClockEnd) → first_of a b ≡ None → b ≡ None
        none_next None b is = is
        none_next (Some end) b is = absurd (cc)

-- ---- runs

-- in a rolling run the close is the last
pub closes-plain : (account : Account) {D : Type 0} (functions : D → DigestFunctions) (runner : WorldRun D) (past : List Logs) (outputs : Outputs)
    → Runs account functions runner past outputs → (last : Bool)
    → (last ≡ true) ↔ IsLast (host_of (functions (digests_of runner.world)) runner.world) (shown_world runner.world) → last ≡ false
    → runner.world.settings.rolling ≡ false
closes-plain account functions runner past outputs runs last is_last =
    not-rolling (host_of (functions (digests_of runner.world)) runner.world) (shown_world runner.world) last
    (running-last _ _ _ _ (shown_world runner.world) runner.rounds runner.end past outputs runs.running) is_last

-- behind another there is one round more
pub rounds-next : {D : Type 0} (old new : WorldRun D) → AreOfOneHost old.world new.world → old.world.settings.rolling ≡ false
    → (shown_world new.world).phase ≡ suc (shown_world old.world).phase → rounds_before new ≡ suc (rounds_before old)
rounds-next old new same plain next =
    ap (λ (settings : Settings). if settings.rolling then 0 else (shown_world new.world).phase) same.settings
    ∙ ap (λ (b : Bool). if b then 0 else (shown_world new.world).phase) plain
    ∙ next
    ∙ sym (ap (λ (b : Bool). suc (if b then 0 else (shown_world old.world).phase)) plain)
