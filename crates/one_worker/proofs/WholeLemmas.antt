-- A whole run of a rolling host is its round and the last close; and what logs the same deeds leave.
use Rattle.std.proofs.Common.{◌≡◌, ◌⊎◌, inl, inr, ℕ, zero, suc, ◌-◌, ◌<◌, ◌≤◌, true, false, Bool, List, [], ◌∷◌, ◌++◌, map, length, get_or, slice_get, None, if◌then◌else◌, refl, sym, ◌∙◌, ap, subst, append_assoc, arith}
use Rattle.std.proofs.lemmas.Bool.{true≢false}
use Rattle.std.proofs.lemmas.List.{get_or-replicate}
use Rattle.std.proofs.lemmas.Option.{none-some}
use Rattle.host_core.specs.Host.{Host, asked, asked_from}
use Rattle.host_core.specs.World.{Worker, World, fresh, worker_at, scanned_at, epoch_of, set_up, logs_of}
use Rattle.host_core.specs.WorldEvent.{WorldEvent, raises, IsRoundOver, IsLast, AllMoved, HasAdvanced, MayAdvance, run_events}
use Rattle.host_core.proofs.EventLaws.{run-append}
use Rattle.host_order.specs.Close.{MovesKeepEpoch}
use Rattle.round_order.specs.Turn.{Turn, in_one_order}
use Rattle.round_order.specs.Told.{AreTold, IsWholeRound, RoundStop, joined, list_of, climb, enters_from, step_up, done_events, round_events, finishes_from, stop_events, whole_events}
use Rattle.host_serving.specs.Loop.{KeepsToLoop}
use Rattle.host_serving.specs.Form.{AreRolling, rolling_events, AreOfRound, AreOfClose, events_of_close, Round, events_of, AreInForm, AreInRounds}
use Rattle.host_serving.specs.Standing.{IsAllServed}
use Rattle.host_serving.proofs.BeforeLaws.{run-count, rolling_last}
use Rattle.one_worker.specs.Deeds.{own_turns, served_in, turning, new_epoch, phases, all_deeds, acts_of, standing_in, AreDone}
use Rattle.one_worker.proofs.EventLemmas.{Goes, goes_front, goes_behind, one_world, stands, done_then}
use Rattle.one_worker.proofs.CloseLemmas.{closing_base, CloseComesTo, last_close}
use Rattle.one_worker.proofs.PlainLemmas.{first_advance}
use Rattle.one_worker.proofs.ToldLemmas.{IsSetUp, IsToldOn, workers_one, shards_count, led}
use Rattle.one_worker.proofs.RoundLemmas.{told_on, not_ended, whole}
use Rattle.one_worker.proofs.TurningLemmas.{round_done, round_shards}

pub one_of : (workers : List Worker) → length workers ≡ 1 → (worker : Worker) × (workers ≡ worker ∷ [])
one_of [] one = absurd (omega (arith, one))
one_of (worker ∷ []) one = (worker, refl)
one_of (worker ∷ other ∷ workers) one = absurd (omega (arith, one))

-- the logs of one worker
pub logs_one : {C R : Type 0} (host : Host C R) (world : World C) → length world.workers ≡ 1 → logs_of world ≡ (standing_in host world).log ∷ []
logs_one host world one =
    let only = one_of world.workers one in
    ap (λ (ws : List Worker). map (λ worker. worker.log) ws) only.1
    ∙ ap (λ (ws : List Worker). (get_or ws 0 (fresh host.header)).log ∷ []) (sym only.1)

-- ---- nothing of a round happens in a close

module _ {C R : Type 0} (host : Host C R) (world : World C) (closing : world.closing ≡ true) where
  not_open : world.closing ≡ false → ⊥
  not_open phase = true≢false (sym closing ∙ phase)

  none_both : (xs ys : List (WorldEvent R)) → (Goes host world xs → xs ≡ []) → (Goes host world ys → ys ≡ []) → Goes host world (xs ++ ys) → xs ++ ys ≡ []
  none_both xs ys first second goes =
      let none' = first (goes_front host world xs ys goes) in
      ap (λ (zs : List (WorldEvent R)). zs ++ ys) none' ∙ second (subst (λ (zs : List (WorldEvent R)). Goes host world (zs ++ ys)) none' goes)

  none_noted : (i n : ℕ) → Goes host world (finishes_from i n) → finishes_from {R = R} i n ≡ []
  none_noted i zero goes = refl
  none_noted i (suc n) goes = absurd (not_open goes.0.rolling.serving.phase)

  none_climbs : (finals : ℕ → ℕ) (workers epoch count : ℕ) → Goes host world (climb finals workers epoch count) → climb {R = R} finals workers epoch count ≡ []
  none_climbs finals workers epoch zero goes = refl
  none_climbs finals workers epoch (suc count) goes =
      none_both (step_up finals workers epoch) (climb finals workers (suc epoch) count)
      (none_both (finishes_from 0 workers) (raises 0 ∷ enters_from finals epoch 0 workers) (none_noted 0 workers)
      (λ on. absurd (not_open on.0.rolling.serving.phase)))
      (none_climbs finals workers (suc epoch) count) goes

  none_turns : (finals : ℕ → ℕ) (workers top epoch : ℕ) (turns : List (Turn C R)) → Goes host world (round_events finals workers top epoch turns)
      → round_events finals workers top epoch turns ≡ []
  none_turns finals workers top epoch [] goes = none_climbs finals workers epoch (top - epoch) goes
  none_turns finals workers top epoch (turn ∷ turns) goes =
      none_both (climb finals workers epoch (turn.clock.at.epoch - epoch)) (done_events turn ++ round_events finals workers top turn.clock.at.epoch turns)
      (none_climbs finals workers epoch (turn.clock.at.epoch - epoch)) (λ on. absurd (not_open on.0.serving.phase)) goes

  none_rolls : (finals : ℕ → ℕ) (top : ℕ) (lists : List (List (Turn C R))) (stops : List RoundStop) → Goes host world (rolling_events world finals top lists stops)
      → rolling_events world finals top lists stops ≡ []
  none_rolls finals top lists [] goes =
      none_both (round_events finals (length world.workers) top world.newest (in_one_order (joined lists))) (finishes_from 0 (length world.workers))
      (none_turns finals (length world.workers) top world.newest (in_one_order (joined lists))) (none_noted 0 (length world.workers)) goes
  none_rolls finals top lists (stop ∷ stops) goes =
      none_both (round_events finals (length world.workers) top world.newest (in_one_order (joined lists))) (stop_events (stop ∷ stops))
      (none_turns finals (length world.workers) top world.newest (in_one_order (joined lists))) (λ on. absurd (not_open on.0.rolling.serving.phase)) goes

  pub none_in_round : (events : List (WorldEvent R)) → (events ≡ []) ⊎ AreRolling host world events → Goes host world events → events ≡ []
  none_in_round events (inl none') goes = none'
  none_in_round events (inr form) goes = form.are ∙ none_rolls form.finals form.top form.lists form.stops (subst (Goes host world) form.are goes)

-- ---- the last close, behind a world with one worker

module _ {C R : Type 0} (host : Host C R) (rolling : host.rolling ≡ true) (keeps : MovesKeepEpoch host) (behind : World C) (one : length behind.workers ≡ 1)
    (end : length host.script ≤ suc behind.phase) (close more : List (WorldEvent R)) (form : AreOfClose host behind close) (goes : Goes host behind (close ++ more)) where
  goes_close : Goes host behind close
  goes_close = goes_front host behind close more goes

  only : (worker : Worker) × (behind.workers ≡ worker ∷ [])
  only = one_of behind.workers one

  behind_is : behind ≡ one_world host behind behind.shards only.0
  behind_is = ap (λ (ws : List Worker). record behind { workers = ws }) only.1

  closed : AreOfClose host (one_world host behind behind.shards only.0) close
  closed = subst (λ (w : World C). AreOfClose host w close) behind_is form

  close_are : close ≡ events_of_close host (one_world host behind behind.shards only.0) true
  close_are = closed.are ∙ ap (events_of_close host (one_world host behind behind.shards only.0)) (closed.is_last.1 (inl end))

  comes : CloseComesTo host keeps behind (closing_base host keeps behind behind.shards only.0) behind.shards only.0 close (new_epoch (length behind.shards) ++ turning ∷ []) 2
  comes =
      subst (λ (es : List (WorldEvent R)). CloseComesTo host keeps behind (closing_base host keeps behind behind.shards only.0) behind.shards only.0 es (new_epoch (length behind.shards) ++ turning ∷ []) 2)
      (sym close_are)
      (last_close host keeps behind behind.shards only.0
      (subst (Goes host (one_world host behind behind.shards only.0)) close_are (subst (λ (w : World C). Goes host w close) behind_is goes_close)))

  pub close_done : AreDone (acts_of host) (standing_in host behind) (new_epoch (length behind.shards) ++ turning ∷ []) (standing_in host (run_events host behind close))
  close_done =
      subst (λ (w : World C). AreDone (acts_of host) (standing_in host w) (new_epoch (length behind.shards) ++ turning ∷ []) (standing_in host (run_events host w close))) (sym behind_is)
      (subst (λ (w : World C). AreDone (acts_of host) (stands host behind.shards only.0) (new_epoch (length behind.shards) ++ turning ∷ []) (standing_in host w)) (sym comes.comes.run)
      comes.comes.done)

  -- ---- nothing follows

  abbrev after : World C
  after = run_events host behind close

  after_is : after ≡ one_world host (closing_base host keeps behind behind.shards only.0) comes.comes.shards_then comes.comes.worker_then
  after_is = ap (λ (w : World C). run_events host w close) behind_is ∙ comes.comes.run

  closing : after.closing ≡ true
  closing = ap (λ (w : World C). w.closing) after_is

  first_may : MayAdvance host behind 0
  first_may = first_advance host behind form.last one (subst (Goes host behind) form.are goes_close)

  least : epoch_of host behind ≤ (worker_at host behind 0).clock.at.epoch
  least = go first_may.turns
    where
      go : HasAdvanced host behind 0 0 ⊎ (HasAdvanced host behind 0 1 × IsLast host behind × AllMoved behind) → epoch_of host behind ≤ (worker_at host behind 0).clock.at.epoch
      go (inl at) = omega (arith, at)
      go (inr at) = omega (arith, at.0)

  no_advance : MayAdvance host after 0 → ⊥
  no_advance may = go may.turns
    where
      own : (worker_at host behind 0).clock.at.epoch ≡ only.0.clock.at.epoch
      own = ap (λ (ws : List Worker). (get_or ws 0 (fresh host.header)).clock.at.epoch) only.1

      then' : (worker_at host after 0).clock.at.epoch ≡ comes.comes.worker_then.clock.at.epoch
      then' = ap (λ (w : World C). (worker_at host w 0).clock.at.epoch) after_is

      phase : after.phase ≡ behind.phase
      phase = ap (λ (w : World C). w.phase) after_is

      go : HasAdvanced host after 0 0 ⊎ (HasAdvanced host after 0 1 × IsLast host after × AllMoved after) → ⊥
      go (inl at) = absurd (omega (arith, at, then', comes.epoch, own, phase, least))
      go (inr at) = absurd (omega (arith, at.0, then', comes.epoch, own, phase, least))

  pub none_follows : (rounds : List (Round R)) (served : List (WorldEvent R)) → AreInForm host after rounds → AreOfRound host (run_events host after (events_of rounds)) served
      → Goes host after (events_of rounds ++ served) → events_of rounds ++ served ≡ []
  none_follows [] served formed begun on = none_in_round host after closing served (begun.rolling rolling) on
  none_follows (round ∷ rounds) served formed begun on =
      absurd (no_advance (first_advance host after closed_then.last (run-count host behind close ∙ one) (subst (Goes host after) closed_then.are front)))
    where
      both : Goes host after (round.served ++ round.close)
      both = goes_front host after (round.served ++ round.close) (events_of rounds)
          (goes_front host after ((round.served ++ round.close) ++ events_of rounds) served on)

      empty : round.served ≡ []
      empty = none_in_round host after closing round.served (formed.0.rolling rolling) (goes_front host after round.served round.close both)

      closed_then : AreOfClose host after round.close
      closed_then = subst (λ (es : List (WorldEvent R)). AreOfClose host (run_events host after es) round.close) empty formed.1

      front : Goes host after round.close
      front = subst (λ (es : List (WorldEvent R)). Goes host (run_events host after es) round.close) empty (goes_behind host after round.served round.close both)

-- ---- a round of which nothing is asked

none_next : {X : Type 0} (xs : List X) → slice_get xs 0 ≡ None → xs ≡ []
none_next [] none' = refl
none_next (x ∷ xs) none' = absurd (none-some x (sym none'))

none_served : {R : Type 0} (own : List (ℕ × R)) → map (λ turn. (0, turn.1)) own ++ asked_from {R = R} 0 1 [] ≡ [] → served_in own ++ [] ≡ []
none_served [] is = refl
none_served (turn ∷ own) is = absurd (cc)

none_asked : {R : Type 0} (shards : ℕ) (script : List (List (ℕ × R))) → length script ≤ 1 → asked_from 0 0 script ≡ [] → phases shards script ≡ []
none_asked shards [] few is = refl
none_asked shards (turns ∷ []) few is = none_served (own_turns turns) is
none_asked shards (turns ∷ others ∷ script) few is = absurd (omega (arith, few))

-- ---- the whole run

module _ {C R : Type 0} (host : Host C R) (rolling : host.rolling ≡ true) (is : IsSetUp host) (keeps : MovesKeepEpoch host) where
  abbrev world : World C
  world = set_up host

  there : 0 < length world.workers
  there = omega (arith, workers_one host is)

  -- the first round comes to all phases
  record IsThrough (events : List (WorldEvent R)) : Type 0 where
    pub done : AreDone (acts_of host) (standing_in host world) (phases (length host.setup.after) host.script) (standing_in host (run_events host world events))
    pub shards : length (run_events host world events).shards ≡ length host.setup.after

  empty_round : IsRoundOver host world → IsThrough []
  empty_round over = record {
    done = subst (λ ds. AreDone (acts_of host) (standing_in host world) ds (standing_in host world)) (sym (none_asked (length host.setup.after) host.script few (none_next (asked host 0) (over 0 there).1))) refl;
    shards = shards_count host is;
  }
    where
      first : scanned_at host world 0 ≡ host.header.first
      first = get_or-replicate host.header.verifiers 0 host.header.first host.header.first (omega (arith, is.one))

      phase : world.phase ≡ length host.script - 1
      phase = ap (λ (b : Bool). if b then length host.script - 1 else 0) rolling

      few : length host.script ≤ 1
      few = omega (arith, first, phase, (over 0 there).2)

  -- what is told of the first round
  module _ (top : ℕ) (finals : ℕ → ℕ) (lists : List (List (Turn C R))) (pasts : List (List (List (Turn C R)))) (told : AreTold host host.rolling world top finals lists pasts)
      (loop : KeepsToLoop host 0 host.header.first (list_of lists 0)) where
    abbrev turned : List (WorldEvent R)
    turned = round_events finals (length world.workers) top host.header.first (in_one_order (joined lists))

    abbrev told_so : AreTold host true world top finals lists pasts
    told_so = subst (λ (b : Bool). AreTold host b world top finals lists pasts) rolling told

    no_end : HasAdvanced host (run_events host world (whole_events world finals top host.header.first lists)) 0 2 → Goes host world (whole_events world finals top host.header.first lists) → ⊥
    no_end twice goes = not_ended host rolling is keeps top finals lists pasts told_so loop.fresh (goes_front host world turned (finishes_from 0 (length world.workers)) goes) twice

    told_round : Goes host world (whole_events world finals top host.header.first lists) → IsRoundOver host (run_events host world (whole_events world finals top host.header.first lists))
        → IsThrough (whole_events world finals top host.header.first lists)
    told_round goes over = record {
      done = round_done host rolling is top finals lists pasts on so loop;
      shards = round_shards host rolling is top finals lists pasts on so loop;
    }
      where
        front : Goes host world turned
        front = goes_front host world turned (finishes_from 0 (length world.workers)) goes

        on : IsToldOn host top finals lists pasts
        on = told_on host rolling is keeps top finals lists pasts told_so loop.fresh front

        so : IsWholeRound host world top finals lists pasts
        so = whole host rolling is keeps top finals lists pasts told_so loop.fresh front
            (subst (λ (w : World C). Goes host w (finishes_from 0 (length world.workers))) (led host is rolling top finals lists pasts on).way.is
            (goes_behind host world turned (finishes_from 0 (length world.workers)) goes)) over

    -- where clocks ended the run does not go on
    no_stops : (stop : RoundStop) (stops : List RoundStop) → Goes host world (turned ++ stop_events (stop ∷ stops)) → ⊥
    no_stops stop stops goes = none-some _ (sym (goes_behind host world turned (stop_events (stop ∷ stops)) goes).1)

  first_round : (events : List (WorldEvent R)) → (events ≡ []) ⊎ AreRolling host world events → Goes host world events → IsRoundOver host (run_events host world events) → IsThrough events
  first_round events (inl none') goes over =
      subst IsThrough (sym none') (empty_round (subst (λ (es : List (WorldEvent R)). IsRoundOver host (run_events host world es)) none' over))
  first_round events (inr form) goes over = go form.stops form.are
    where
      go : (stops : List RoundStop) → events ≡ rolling_events world form.finals form.top form.lists stops → IsThrough events
      go [] are = subst IsThrough (sym are)
          (told_round form.top form.finals form.lists form.pasts form.told (form.loop (workers_one host is)) (subst (Goes host world) are goes)
          (subst (λ (es : List (WorldEvent R)). IsRoundOver host (run_events host world es)) are over))
      go (stop ∷ stops) are = absurd (no_stops form.top form.finals form.lists form.pasts form.told (form.loop (workers_one host is)) stop stops (subst (Goes host world) are goes))

  -- without a close the run is not whole
  no_close : (events : List (WorldEvent R)) → (events ≡ []) ⊎ AreRolling host world events → Goes host world events → HasAdvanced host (run_events host world events) 0 2 → ⊥
  no_close events (inl none') goes twice =
      let at : HasAdvanced host world 0 2 = subst (λ (es : List (WorldEvent R)). HasAdvanced host (run_events host world es) 0 2) none' twice in
      absurd (omega (arith, at, is.first))
  no_close events (inr form) goes twice = go form.stops form.are
    where
      go : (stops : List RoundStop) → events ≡ rolling_events world form.finals form.top form.lists stops → ⊥
      go [] are = no_end form.top form.finals form.lists form.pasts form.told (form.loop (workers_one host is))
          (subst (λ (es : List (WorldEvent R)). HasAdvanced host (run_events host world es) 0 2) are twice) (subst (Goes host world) are goes)
      go (stop ∷ stops) are = no_stops form.top form.finals form.lists form.pasts form.told (form.loop (workers_one host is)) stop stops (subst (Goes host world) are goes)

  abbrev DoesUpTo : World C → Type 0
  DoesUpTo later = AreDone (acts_of host) (standing_in host world) (all_deeds (length host.setup.after) host.script) (standing_in host later)

  all_rounds : (rounds : List (Round R)) (served : List (WorldEvent R)) → AreInForm host world rounds → AreOfRound host (run_events host world (events_of rounds)) served
      → Goes host world (events_of rounds ++ served) → IsAllServed host (run_events host world (events_of rounds ++ served)) → DoesUpTo (run_events host world (events_of rounds ++ served))
  all_rounds [] served form begun goes all =
      absurd (no_close served (begun.rolling rolling) goes (all.closed.advanced 0 (omega (arith, there, run-count host world served))))
  all_rounds (round ∷ rounds) served form begun goes all =
      subst DoesUpTo (sym run_is)
      (done_then host (phases (length host.setup.after) host.script) (new_epoch (length host.setup.after) ++ turning ∷ []) (standing_in host world) (standing_in host behind)
      (standing_in host (run_events host behind ys)) through.done
      (subst (λ (n : ℕ). AreDone (acts_of host) (standing_in host behind) (new_epoch n ++ turning ∷ []) (standing_in host (run_events host behind ys))) through.shards
      (close_done host rolling keeps behind one end ys zs form.1 goes_on)))
    where
      xs : List (WorldEvent R)
      xs = round.served

      ys : List (WorldEvent R)
      ys = round.close

      zs : List (WorldEvent R)
      zs = events_of rounds ++ served

      behind : World C
      behind = run_events host world xs

      are : ((xs ++ ys) ++ events_of rounds) ++ served ≡ xs ++ (ys ++ zs)
      are = append_assoc (xs ++ ys) (events_of rounds) served ∙ append_assoc xs ys zs

      goes_all : Goes host world (xs ++ (ys ++ zs))
      goes_all = subst (Goes host world) are goes

      goes_on : Goes host behind (ys ++ zs)
      goes_on = goes_behind host world xs (ys ++ zs) goes_all

      one : length behind.workers ≡ 1
      one = run-count host world xs ∙ workers_one host is

      end : length host.script ≤ suc behind.phase
      end = rolling_last host rolling xs

      through : IsThrough xs
      through = first_round xs (form.0.rolling rolling) (goes_front host world xs (ys ++ zs) goes_all)
          ((first_advance host behind form.1.last one (subst (Goes host behind) form.1.are (goes_front host behind ys zs goes_on))).settled rolling)

      none' : zs ≡ []
      none' = none_follows host rolling keeps behind one end ys zs form.1 goes_on rounds served
          (subst (λ (w : World C). AreInForm host w rounds) (run-append host world xs ys) form.2)
          (subst (λ (w : World C). AreOfRound host w served)
          (run-append host world (xs ++ ys) (events_of rounds) ∙ ap (λ (w : World C). run_events host w (events_of rounds)) (run-append host world xs ys)) begun)
          (goes_behind host behind ys zs goes_on)

      run_is : run_events host world (((xs ++ ys) ++ events_of rounds) ++ served) ≡ run_events host behind ys
      run_is = ap (run_events host world) are ∙ run-append host world xs (ys ++ zs) ∙ run-append host behind ys zs ∙ ap (run_events host (run_events host behind ys)) none'

  -- A whole run of a rolling host is what the script asks.
  pub rolling_all : (events : List (WorldEvent R)) → AreInRounds host world events → Goes host world events → IsAllServed host (run_events host world events)
      → AreDone (acts_of host) (standing_in host world) (all_deeds (length host.setup.after) host.script) (standing_in host (run_events host world events))
  rolling_all events form goes all =
      subst (λ (es : List (WorldEvent R)). DoesUpTo (run_events host world es)) (sym form.are)
      (all_rounds form.rounds form.served form.whole form.begun (subst (Goes host world) form.are goes)
      (subst (λ (es : List (WorldEvent R)). IsAllServed host (run_events host world es)) form.are all))
