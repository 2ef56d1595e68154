-- The setup of a rolling host is level, and behind a whole round its close may begin.
use Rattle.std.proofs.Common.{◌≡◌, ℕ, zero, suc, ◌+◌, ◌-◌, ◌<◌, ◌≤◌, ◌%◌, ◌==◌, true, false, List, [], ◌∷◌, length, get_or, replicate, None, refl, sym, ◌∙◌, ap, subst, arith}
use Rattle.std.specs.List.{AllByRecursion}
use Rattle.std.proofs.lemmas.List.{length-replicate}
use Rattle.lamport_clocks.specs.Clock.{last_epoch}
use Rattle.record_text.specs.declared.element.Element.{Element}
use Rattle.host_core.specs.Host.{Host}
use Rattle.host_core.specs.World.{Worker, World, fresh, worker_at, shard_at, epoch_of, set_up}
use Rattle.host_core.specs.WorldEvent.{WorldEvent, AreFrom, AreUpTo, AreEnabled, run_events}
use Rattle.host_core.specs.Core.{IsInRound, IsLevelBehindRound}
use Rattle.host_core.specs.Deeds.{pending_of}
use Rattle.host_order.specs.Close.{IsToClose}
use Rattle.round_order.specs.Turn.{Turn}
use Rattle.round_order.specs.Steady.{IsSteady}
use Rattle.round_order.specs.Told.{IsLevel, CanRoll, IsWholeRound, EndsWhole, whole_events}
use Rattle.round_order.proofs.RoundLaws.{orders_round}
use Rattle.round_order.proofs.EndLaws.{ends_rounds}
use Rattle.round_fits.specs.Rounds.{IsToldFromSetup, IsOneRound}

pub get-replicate : {A : Type 0} (count i : ℕ) (x : A) → get_or (replicate count x) i x ≡ x
get-replicate zero i x = refl
get-replicate (suc count) zero x = refl
get-replicate (suc count) (suc i) x = get-replicate count i x

module _ {C R : Type 0} (host : Host C R) (rolling : host.rolling ≡ true) (some : 1 ≤ host.header.verifiers)
    (in_round : IsInRound host (set_up host)) where
  abbrev world : World C
  world = set_up host

  abbrev first : ℕ
  first = host.header.first

  -- each worker has done nothing
  at_first : {A : Type 0} (show : Worker → A) (a : A) → show (worker_at host world 0) ≡ a → show (fresh host.header) ≡ a → (i : ℕ) → show (worker_at host world i) ≡ a
  at_first show a own others zero = own
  at_first show a own others (suc i) = ap show (get-replicate (host.header.verifiers - 1) i (fresh host.header)) ∙ others

  scanned_is : (i : ℕ) → get_or world.scanned i first ≡ first
  scanned_is i = get-replicate host.header.verifiers i first

  both_epochs : (elements : List Element) → AreFrom first elements → AreUpTo first elements → AllByRecursion (λ (element : Element). element.stamp.epoch ≡ first) elements
  both_epochs [] from up_to = tt
  both_epochs (element ∷ elements) from up_to = (omega (arith, from.0, up_to.0), both_epochs elements from.1 up_to.1)

  level : IsLevel host world first
  level = record {
    going = refl;
    phase = refl;
    idle = λ i there. at_first (λ w. w.holds) None refl refl i;
    clocks = λ i there.
        let bounds = (in_round refl).0.scanned i there in
        omega (arith, bounds.1, bounds.2, scanned_is i);
    waits = λ s there.
        let bounds = (in_round refl).0.waits s there in
        both_epochs (pending_of host (shard_at world s).contents)
        (subst (λ (n : ℕ). AreFrom n (pending_of host (shard_at world s).contents)) (scanned_is (s % length world.workers)) bounds.0) bounds.1;
  }

  can_roll : (top : ℕ) → top ≤ epoch_of host world → top ≤ last_epoch → CanRoll host world first top
  can_roll top within last = record {
    rolling = rolling;
    newest = refl;
    within = within;
    last = last;
    marks = omega (arith, length-replicate host.header.verifiers first, length-replicate (host.header.verifiers - 1) (fresh host.header), some);
    some = omega arith;
    running = λ i there. at_first (λ w. w.stopped) false refl refl i;
  }

  -- What is told from the setup on was one round.
  pub one_round : IsSteady host true → ((events : List (WorldEvent R)) → AreEnabled host world events → IsLevelBehindRound host (run_events host world events))
      → (top : ℕ) (finals : ℕ → ℕ) (lists : List (List (Turn C R))) (pasts : List (List (List (Turn C R))))
      → IsToldFromSetup host top finals lists pasts → IsOneRound host top finals lists pasts
  one_round steady behind top finals lists pasts is = record {
    order = orders_round host true world first top finals lists pasts steady level is.from roll is.told;
    whole = λ whole more. let ends = ends_whole whole in (ends, to_close whole ends more);
    stopped = (ends_rounds host true world first top finals lists pasts steady level is.from roll is.told).1;
  }
    where
      roll : first < top → CanRoll host world first top
      roll less = can_roll top is.within is.last

      ends_whole : IsWholeRound host world top finals lists pasts → EndsWhole host world first top finals lists pasts
      ends_whole = (ends_rounds host true world first top finals lists pasts steady level is.from roll is.told).0

      to_close : IsWholeRound host world top finals lists pasts → EndsWhole host world first top finals lists pasts → (top == last_epoch) ≡ false
          → IsToClose host (run_events host world (whole_events world finals top first lists))
      to_close whole ends more = record {
        some = omega (arith, ends.ends.counts.0);
        going = ends.ends.phase.2;
        phase = ends.ends.phase.1;
        through = ends.through;
        settled = λ rolling. ends.over;
        epochs = behind (whole_events world finals top first lists) ends.enabled ends.over;
        running = λ i there. ends.ends.stuck i ∙ at_first (λ w. w.stuck) false refl refl i;
        more = ap (λ (n : ℕ). (first + n) == last_epoch) ends.ends.phase.0 ∙ ap (λ (n : ℕ). n == last_epoch) (sym whole.last) ∙ more;
      }
