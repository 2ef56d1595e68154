-- Behind the setup the books are right, and so they are behind every list of enabled events.
use Rattle.std.proofs.Common.{◌≡◌, ℕ, zero, suc, ◌+◌, ◌-◌, ◌<◌, ◌%◌, Bool, true, false, List, [], ◌∷◌, map, length, get_or, replicate, refl, sym, ◌∙◌, ap, subst, true≢false, arith}
use Rattle.std.specs.List.{AllByRecursion}
use Rattle.std.proofs.lemmas.Bool.{cond-true, cond-false}
use Rattle.std.proofs.lemmas.List.{length-map, length-replicate}
use Rattle.stamp_order.proofs.InOrderLaws.{every-weaker}
use Rattle.record_text.specs.declared.request.Request.{Request}
use Rattle.soundness.specs.StateHistory.{refusal_from, events_from}
use Rattle.soundness.specs.Certified.{sealed_count}
use Rattle.host_core.specs.Accepted.{state_from}
use Rattle.host_core.specs.Host.{Host}
use Rattle.host_core.specs.World.{Worker, Seats, World, unmoved, fresh, set_up}
use Rattle.host_core.specs.WorldEvent.{WorldEvent, step, AreEnabled, run_events}
use Rattle.host_core.specs.Deeds.{answers_in, pending_of, IsAnswering, IsStamped, IsFit}
use Rattle.host_core.proofs.Books.{get_or-mapped, Account, account_of, Books, books_of, epoch_in, scanned_in, Progress, progress}
use Rattle.host_core.proofs.ScriptLemmas.{setup_left}
use Rattle.host_core.proofs.AccountLemmas.{IsRightAccount, told}
use Rattle.host_core.proofs.Right.{low_in, top_in, IsWaiting, IsRight}
use Rattle.host_core.proofs.WaitingLemmas.{stamped-part}
use Rattle.host_core.proofs.RightLemmas.{progress_right}

module _ {C R : Type 0} (mirrors : ℕ → List C → Type 0) (host : Host C R) where
  -- the accounts behind the setup
  abbrev pub opening_accounts : List Account
  opening_accounts = (books_of (set_up host)).accounts

  fresh_right : IsFit mirrors host → (i : ℕ) → IsRightAccount host (suc i) (account_of (fresh host.header))
  unfolding state_from refusal_from events_from
  fresh_right fit i = record {
    typed = tt;
    accepted = refl;
    rests = fit.others (suc i) (omega arith);
    is_clock = record { first = refl; end = refl; reading = record { within = omega arith; from_first = omega arith } };
    answered = tt;
    sealed = omega arith;
  }

  setup_right : IsFit mirrors host → IsRight mirrors host (books_of (set_up host))
  setup_right fit = record {
    known = length_is;
    marked = length-replicate host.header.verifiers host.header.first ∙ sym length_is;
    each = each;
    left = setup_left host;
    last = λ rolling. omega (arith, cond-true host.rolling (length host.script - 1) 0 rolling);
    mirrored = λ s within.
        subst (λ (z : Seats C). mirrors s z.contents) (sym (get_or-mapped unmoved host.setup.after s [])) (fit.setup_mirrored s (there s within));
    inside = λ phase. record {
      within = omega (arith, top);
      clocks = λ i within. record {
        from_first = omega (arith, low i);
        from = omega (arith, low i, clock i);
        up_to = omega (arith, top, clock i);
        near = omega (arith, top, low i);
      };
      waits = λ s within.
          subst (λ (z : Seats C). AllByRecursion (IsWaiting host (low_in host opening_books (s % length opening_accounts)) (top_in host opening_books)) (pending_of host z.contents))
          (sym (get_or-mapped unmoved host.setup.after s []))
          (every-weaker (IsStamped host host.setup.clock.at.epoch)
          (IsWaiting host (low_in host opening_books (s % length opening_accounts)) (top_in host opening_books))
          (λ x is. (is.0, omega (arith, is.1, fit.setup.epoch, low (s % length opening_accounts)), omega (arith, is.1, fit.setup.epoch, top)))
          (pending_of host (get_or host.setup.after s []))
          (stamped-part host host.setup.clock.at.epoch host.setup.after s fit.setup.stamped));
      still = λ s within. ap (λ (z : Seats C). z.moved) (get_or-mapped unmoved host.setup.after s []);
    };
    closed = λ closing. absurd (true≢false (sym closing));
  }
    where
      opening_books : Books C
      opening_books = books_of (set_up host)

      others : List Worker
      others = replicate (host.header.verifiers - 1) (fresh host.header)

      length_is : length opening_accounts ≡ host.header.verifiers
      length_is = ap suc (length-map others account_of ∙ length-replicate (host.header.verifiers - 1) (fresh host.header)) ∙ omega (arith, fit.some)

      there : (s : ℕ) → s < length (map unmoved host.setup.after) → s < length host.setup.after
      there s within = subst (λ (n : ℕ). s < n) (length-map host.setup.after unmoved) within

      -- an account of another worker than the first is fresh
      fresh_at : (n i : ℕ) → get_or (map account_of (replicate n (fresh host.header))) i (account_of (fresh host.header)) ≡ account_of (fresh host.header)
      fresh_at zero i = refl
      fresh_at (suc n) zero = refl
      fresh_at (suc n) (suc i) = fresh_at n i

      each : (i : ℕ) → i < length opening_accounts → IsRightAccount host i (get_or opening_accounts i (account_of (fresh host.header)))
      each zero within = record {
        typed = fit.setup.typed;
        accepted = fit.setup.accepted;
        rests = fit.setup.rests;
        is_clock = fit.setup.is_clock;
        answered = subst (λ (zs : List (ℕ × Request)). IsAnswering host zs []) (sym (ap answers_in (told host 0 host.setup.commands) ∙ fit.setup.answered 0)) tt;
        sealed = ap sealed_count (told host 0 host.setup.commands) ∙ fit.setup.unsealed 0 ∙ omega (arith, fit.setup.epoch);
      }
      each (suc i) within =
          subst (IsRightAccount host (suc i)) (sym (fresh_at (host.header.verifiers - 1) i)) (fresh_right fit i)

      clock : (i : ℕ) → (get_or opening_accounts i (account_of (fresh host.header))).clock.at.epoch ≡ host.header.first
      clock zero = fit.setup.epoch
      clock (suc i) = ap (λ (a : Account). a.clock.at.epoch) (fresh_at (host.header.verifiers - 1) i)

      first_at : (n i : ℕ) → get_or (replicate n host.header.first) i host.header.first ≡ host.header.first
      first_at zero i = refl
      first_at (suc n) zero = refl
      first_at (suc n) (suc i) = first_at n i

      plain_epoch : host.rolling ≡ false → epoch_in host opening_books ≡ host.header.first
      plain_epoch plain = ap (λ (n : ℕ). host.header.first + n) (cond-false host.rolling (length host.script - 1) 0 plain) ∙ omega arith

      top : top_in host opening_books ≡ host.header.first
      top = go host.rolling refl
        where
          go : (b : Bool) → host.rolling ≡ b → top_in host opening_books ≡ host.header.first
          go true rolling = cond-true host.rolling host.header.first (epoch_in host opening_books) rolling
          go false plain = cond-false host.rolling host.header.first (epoch_in host opening_books) plain ∙ plain_epoch plain

      low : (i : ℕ) → low_in host opening_books i ≡ host.header.first
      low i = go host.rolling refl
        where
          go : (b : Bool) → host.rolling ≡ b → low_in host opening_books i ≡ host.header.first
          go true rolling = cond-true host.rolling (scanned_in host opening_books i) (epoch_in host opening_books) rolling ∙ first_at host.header.verifiers i
          go false plain = cond-false host.rolling (scanned_in host opening_books i) (epoch_in host opening_books) plain ∙ plain_epoch plain

  -- ---- behind every list of enabled events

  -- Where P holds of the setup's books and each event keeps it, as long as the books are right, it holds behind all events.
  pub behind : IsFit mirrors host → (P : Books C → Type 0) → P (books_of (set_up host))
      → ((old new : Books C) → IsRight mirrors host old → Progress host old new → P old → P new)
      → (events : List (WorldEvent R)) → AreEnabled host (set_up host) events
      → IsRight mirrors host (books_of (run_events host (set_up host) events)) × P (books_of (run_events host (set_up host) events))
  behind fit P first keeps events enabled = go (set_up host) events enabled (setup_right fit) first
    where
      go : (world : World C) (events : List (WorldEvent R)) → AreEnabled host world events → IsRight mirrors host (books_of world) → P (books_of world)
          → IsRight mirrors host (books_of (run_events host world events)) × P (books_of (run_events host world events))
      go world [] enabled right holds = (right, holds)
      go world (event ∷ events) enabled right holds =
          let did = progress host world event enabled.0 in
          go (step host world event) events enabled.1
          (progress_right mirrors host fit (books_of world) right (books_of (step host world event)) did)
          (keeps (books_of world) (books_of (step host world event)) right did holds)
