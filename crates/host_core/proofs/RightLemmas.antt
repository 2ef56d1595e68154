-- Each event leaves the books right.
use Rattle.std.proofs.Common.{◌≡◌, ◌⊎◌, ℕ, suc, ◌+◌, ◌<◌, ◌≤◌, ◌%◌, max, Bool, true, false, List, [], ◌∷◌, map, length, get_or, set, refl, sym, ◌∙◌, ap, subst, inl, inr, if◌then◌else◌, true≢false, arith}
use Rattle.std.specs.List.{AllByRecursion}
use Rattle.std.proofs.lemmas.Bool.{cases_eq, cond-true, cond-false}
use Rattle.std.proofs.lemmas.List.{length-map, length-set, get_or-set_same, get_or-set_other}
use Rattle.stamp_order.proofs.InOrderLaws.{every-weaker}
use Rattle.log_codec.specs.declared.command.Command.TheVariants.{NextEpoch}
use Rattle.host_core.specs.Host.{Host, Done}
use Rattle.host_core.specs.World.{Seats, unmoved, fresh}
use Rattle.host_core.specs.WorldEvent.{next_clock}
use Rattle.host_core.specs.Deeds.{pending_of, IsStamped, AreStamped, ServeFits, MoveFits, IsFit}
use Rattle.host_core.proofs.Books.{every-set, every-set-in, get_or-mapped, Account, account_of, Books, seats_at, with_more, account_at, epoch_in, scanned_in, served_books, moved_books, advanced_books, opened_books, raised_books, finished_books, AreMoved, AreSettled, IsOwn, DidServe, InClose, InScan, DidMove, InTurn, InEntry, DidAdvance, DidOpen, DidRaise, DidFinish, Progress, stays, serves_one, moves_one, advances_one, opens_next, raises_newest, finishes_one}
use Rattle.host_core.proofs.ScriptLemmas.{IsLeft, progress_left}
use Rattle.host_core.proofs.AccountLemmas.{IsRightAccount, deed_more, more_right, asks_next, asks_none, advance_more}
use Rattle.host_core.proofs.Right.{epoch_at, IsRoundClock, low_in, top_in, IsWaiting, IsInside, AreNotPast, IsClosing, IsRight}
use Rattle.host_core.proofs.WaitingLemmas.{every-front, waits-set, both-all}
use Rattle.host_core.proofs.ReadyLemmas.{own_right, some_account, owner_there, round_clock, serves_from, serve_fits, move_fits}

module _ {C R : Type 0} (mirrors : ℕ → List C → Type 0) (host : Host C R) (fit : IsFit mirrors host) (old : Books C) (right : IsRight mirrors host old) where
  -- an account that has done more, with the others
  grown_right : (i : ℕ) (account next : Account) → IsRightAccount host i next
      → (j : ℕ) → j < length (set old.accounts i next) → IsRightAccount host j (get_or (set old.accounts i next) j (account_of (fresh host.header)))
  grown_right i account next new =
      every-set (IsRightAccount host) old.accounts i next (account_of (fresh host.header)) right.each new

  -- a shard with other contents, with the others
  grown_mirrored : (s : ℕ) (contents : List C) (moved : Bool) → mirrors s contents
      → (t : ℕ) → t < length (set old.shards s (record { contents = contents; moved = moved })) → mirrors t (get_or (set old.shards s (record { contents = contents; moved = moved })) t (unmoved [])).contents
  grown_mirrored s contents moved new =
      every-set (λ t seats. mirrors t seats.contents) old.shards s (record { contents = contents; moved = moved }) (unmoved []) right.mirrored new

  -- within a round, a worker that logged more in its epoch, at one shard of which all that waits is of that epoch or as before
  inside_after : IsInside host old → (i : ℕ) (account : Account) → IsOwn host old i account → (next : Account) → next.clock.at.epoch ≡ account.clock.at.epoch
      → (s : ℕ) (contents : List C)
      → AllByRecursion (IsWaiting host (low_in host old (s % length old.accounts)) (top_in host old)) (pending_of host contents)
      → IsInside host (record old { accounts = set old.accounts i next; shards = set old.shards s (record (seats_at old s) { contents = contents }) })
  inside_after inside i account own next same s contents waits = record {
    within = inside.within;
    clocks = every-set (λ j a. IsRoundClock host.header.first (low_in host old j) (top_in host old) a.clock.at.epoch) old.accounts i next (account_of (fresh host.header))
        inside.clocks
        (subst (IsRoundClock host.header.first (low_in host old i) (top_in host old)) (sym same) (round_clock mirrors host fit old right inside i account own));
    waits = λ t within.
        subst (λ (n : ℕ). AllByRecursion (IsWaiting host (low_in host old (t % n)) (top_in host old))
        (pending_of host (get_or (set old.shards s (record (seats_at old s) { contents = contents })) t (unmoved [])).contents)) (sym (length-set old.accounts i next))
        (every-set (λ t seats. AllByRecursion (IsWaiting host (low_in host old (t % length old.accounts)) (top_in host old)) (pending_of host seats.contents))
        old.shards s (record (seats_at old s) { contents = contents }) (unmoved []) inside.waits waits t within);
    still = every-set-in (λ t seats. seats.moved ≡ false) old.shards s (record (seats_at old s) { contents = contents }) (unmoved []) inside.still (λ there. inside.still s there);
  }

  serve_right : (i : ℕ) (account : Account) (s seat : ℕ) (request : R) (done : Done C)
      → DidServe host old i account s seat request done → IsRight mirrors host (served_books host old i account s seat done)
  serve_right i account s seat request done did = record {
    known = length-set old.accounts i next ∙ right.known;
    marked = right.marked ∙ sym (length-set old.accounts i next);
    each = grown_right i account next
        (more_right host i account done.commands done.clock ((account.clock.at.epoch, host.telling request) ∷ []) 1
        (own_right mirrors host fit old right i account did.own)
        (deed_more host i account.clock done.commands done.clock _ _ _ fits.deed)
        (asks_next host i account.served did.asked_for account.clock.at.epoch request did.next (did.begun, exact)));
    left = progress_left host old (served_books host old i account s seat done) (serves_one i account s seat request done did refl) right.left;
    last = right.last;
    mirrored = grown_mirrored s (set (seats_at old s).contents seat done.after) (seats_at old s).moved fits.mirrored;
    inside = λ phase. inside_after inside i account did.own next fits.deed.epoch s (set (seats_at old s).contents seat done.after)
        (waits-set host (IsWaiting host (low_in host old (s % length old.accounts)) (top_in host old)) (seats_at old s).contents seat done.after (inside.waits s did.shard)
        (every-weaker (IsStamped host done.clock.at.epoch) (IsWaiting host (low_in host old (s % length old.accounts)) (top_in host old))
        (λ x stamped. (stamped.0, omega (arith, stamped.1, fits.deed.epoch, from), omega (arith, stamped.1, fits.deed.epoch, clock.up_to)))
        (host.pending done.after) (every-front (IsStamped host done.clock.at.epoch) (host.pending done.after) [] fits.deed.stamped)));
    closed = λ closing. absurd (true≢false (sym closing ∙ did.phase));
  }
    where
      next : Account
      next = with_more account done.commands done.clock 1

      fits : ServeFits mirrors host i account.clock s seat (seats_at old s).contents request done
      fits = serve_fits mirrors host fit old right i account s seat request done did

      inside : IsInside host old
      inside = right.inside did.phase

      clock : IsRoundClock host.header.first (low_in host old i) (top_in host old) account.clock.at.epoch
      clock = round_clock mirrors host fit old right inside i account did.own

      from : low_in host old (s % length old.accounts) ≤ account.clock.at.epoch
      from = serves_from mirrors host fit old right i account s seat request done did

      exact : host.rolling ≡ false → account.clock.at.epoch ≡ host.header.first + did.asked_for
      exact plain =
          omega (
            arith,
            did.begun,
            clock.up_to,
            cond-false host.rolling old.newest (epoch_in host old) plain,
            subst (IsLeft host old.phase i) did.own.is (right.left i did.own.there) plain (did.asked_for, request) did.next,
          )

  -- a moved or scanned shard
  move_right : (i : ℕ) (account : Account) (s : ℕ) (moved : Bool) (done : Done (List C)) → DidMove host old i account s moved done
      → IsRight mirrors host (moved_books host old i account s moved done)
  move_right i account s moved done did = record {
    known = length-set old.accounts i next ∙ right.known;
    marked = right.marked ∙ sym (length-set old.accounts i next);
    each = grown_right i account next
        (more_right host i account done.commands done.clock [] 0 (own_right mirrors host fit old right i account did.own)
        (deed_more host i account.clock done.commands done.clock _ _ _ fits.deed) (asks_none host i account.served));
    left = progress_left host old (moved_books host old i account s moved done) (moves_one i account s moved done did refl) right.left;
    last = right.last;
    mirrored = grown_mirrored s done.after moved fits.mirrored;
    inside = inside_new did.when;
    closed = closed_new did.when;
  }
    where
      next : Account
      next = with_more account done.commands done.clock 0

      fits : MoveFits mirrors host i account.clock s (seats_at old s).contents done
      fits = move_fits mirrors host fit old right i account s moved done did

      inside_new : InClose host old account s moved ⊎ InScan host old i account s moved → old.closing ≡ false → IsInside host (moved_books host old i account s moved done)
      inside_new (inl close) phase = absurd (true≢false (sym close.closing ∙ phase))
      inside_new (inr scan) phase =
          subst (λ (b : Bool). IsInside host (moved_books host old i account s b done)) (sym scan.is)
          (inside_after inside i account did.own next fits.deed.epoch s done.after
          (every-weaker (IsStamped host done.clock.at.epoch) (IsWaiting host (low_in host old (s % length old.accounts)) (top_in host old))
          (λ x stamped. (
            stamped.0,
            omega (arith, stamped.1, fits.deed.epoch, ap (low_in host old) scan.owner, clock.from),
            omega (arith, stamped.1, fits.deed.epoch, clock.up_to),
          ))
          (pending_of host done.after) fits.deed.stamped))
        where
          inside : IsInside host old
          inside = right.inside phase

          clock : IsRoundClock host.header.first (low_in host old i) (top_in host old) account.clock.at.epoch
          clock = round_clock mirrors host fit old right inside i account did.own

      closed_new : InClose host old account s moved ⊎ InScan host old i account s moved → old.closing ≡ true → IsClosing host (moved_books host old i account s moved done)
      closed_new (inr scan) closing = absurd (true≢false (sym closing ∙ scan.round.phase))
      closed_new (inl close) closing = record {
        clocks = every-set (λ j a. (epoch_in host old ≤ a.clock.at.epoch) × (a.clock.at.epoch ≤ epoch_in host old + 2)) old.accounts i next
            (account_of (fresh host.header)) (right.closed closing).clocks
            (omega (arith, fits.deed.epoch, close.turned), omega (arith, fits.deed.epoch, close.turned));
        stamped = every-set (λ t seats. AreStamped host (epoch_at (epoch_in host old) seats.moved) seats.contents) old.shards s
            (record { contents = done.after; moved = moved }) (unmoved []) (right.closed closing).stamped
            (subst (λ (b : Bool). AreStamped host (epoch_at (epoch_in host old) b) done.after) (sym close.is)
            (subst (λ (e : ℕ). AreStamped host e done.after) (fits.deed.epoch ∙ close.turned ∙ omega arith) fits.deed.stamped));
        past = inr (every-set (λ j a. a.clock.at.epoch ≤ epoch_in host old + 1) old.accounts i next (account_of (fresh host.header))
            (still_past (right.closed closing).past) (omega (arith, fits.deed.epoch, close.turned)));
      }
        where
          -- the shard was not moved: all clocks are at most one epoch past the phase's
          still_past : AreMoved host old ⊎ AreNotPast host old → AreNotPast host old
          still_past (inl all) = absurd (true≢false (sym (all s did.shard) ∙ close.still))
          still_past (inr past) = past

  -- where a phase or round is over, all shards are scanned in its epoch
  low_at_end : (host.rolling ≡ true → AreSettled host old) → (j : ℕ) → j < length old.accounts → low_in host old j ≡ epoch_in host old
  low_at_end settled j within = go host.rolling refl
    where
      go : (b : Bool) → host.rolling ≡ b → low_in host old j ≡ epoch_in host old
      go true rolling = cond-true host.rolling (scanned_in host old j) (epoch_in host old) rolling ∙ (settled rolling j within).1
      go false plain = cond-false host.rolling (scanned_in host old j) (epoch_in host old) plain

  advance_right : (i : ℕ) (account : Account) (closing : Bool) → DidAdvance host old i account closing → IsRight mirrors host (advanced_books host old i account closing)
  advance_right i account closing did = record {
    known = length-set old.accounts i next ∙ right.known;
    marked = right.marked ∙ sym (length-set old.accounts i next);
    each = grown_right i account next
        (more_right host i account (NextEpoch ∷ []) (next_clock account.clock) [] 0 (own_right mirrors host fit old right i account did.own)
        (advance_more host i account.clock (own_right mirrors host fit old right i account did.own).is_clock did.more) (asks_none host i account.served));
    left = progress_left host old (advanced_books host old i account closing) (advances_one i account closing did refl) right.left;
    last = right.last;
    mirrored = right.mirrored;
    inside = inside_new did.when;
    closed = closed_new did.when;
  }
    where
      next : Account
      next = with_more account (NextEpoch ∷ []) (next_clock account.clock) 0

      inside_new : InTurn host old account closing ⊎ InEntry host old account closing → closing ≡ false → IsInside host (advanced_books host old i account closing)
      inside_new (inl turn) phase = absurd (true≢false (sym turn.is ∙ phase))
      inside_new (inr entry) phase = record {
        within = inside.within;
        clocks = every-set (λ j a. IsRoundClock host.header.first (low_in host old j) (top_in host old) a.clock.at.epoch) old.accounts i next (account_of (fresh host.header))
            inside.clocks
            (record {
              from_first = clock.from_first;
              from = omega (arith, clock.from);
              up_to = omega (arith, entry.newer, cond-true host.rolling old.newest (epoch_in host old) entry.round.rolling);
              near = clock.near;
            });
        waits = λ t within.
            subst (λ (n : ℕ). AllByRecursion (IsWaiting host (low_in host old (t % n)) (top_in host old)) (pending_of host (seats_at old t).contents)) (sym (length-set old.accounts i next))
            (inside.waits t within);
        still = inside.still;
      }
        where
          inside : IsInside host old
          inside = right.inside entry.round.phase

          clock : IsRoundClock host.header.first (low_in host old i) (top_in host old) account.clock.at.epoch
          clock = round_clock mirrors host fit old right inside i account did.own

      closed_new : InTurn host old account closing ⊎ InEntry host old account closing → closing ≡ true → IsClosing host (advanced_books host old i account closing)
      closed_new (inr entry) closes = absurd (true≢false (sym closes ∙ entry.is))
      closed_new (inl turn) closes = go old.closing refl
        where
          Closed : List Account → Type 0
          Closed accounts = (j : ℕ) → j < length accounts → (epoch_in host old ≤ (get_or accounts j (account_of (fresh host.header))).clock.at.epoch)
              × ((get_or accounts j (account_of (fresh host.header))).clock.at.epoch ≤ epoch_in host old + 2)

          Past : List Account → Type 0
          Past accounts = (j : ℕ) → j < length accounts → (get_or accounts j (account_of (fresh host.header))).clock.at.epoch ≤ epoch_in host old + 1

          new_clock : (account.clock.at.epoch ≡ epoch_in host old + 0) ⊎ ((account.clock.at.epoch ≡ epoch_in host old + 1) × AreMoved host old)
              → (epoch_in host old ≤ account.clock.at.epoch + 1) × (account.clock.at.epoch + 1 ≤ epoch_in host old + 2)
          new_clock (inl once) = (omega (arith, once), omega (arith, once))
          new_clock (inr twice) = (omega (arith, twice.0), omega (arith, twice.0))

          clocks : Closed old.accounts → Closed (set old.accounts i next)
          clocks all = every-set (λ j a. (epoch_in host old ≤ a.clock.at.epoch) × (a.clock.at.epoch ≤ epoch_in host old + 2)) old.accounts i next
              (account_of (fresh host.header)) all (new_clock turn.turns)

          new_past : (account.clock.at.epoch ≡ epoch_in host old + 0) ⊎ ((account.clock.at.epoch ≡ epoch_in host old + 1) × AreMoved host old)
              → AreMoved host old ⊎ Past old.accounts → AreMoved host old ⊎ Past (set old.accounts i next)
          new_past turns (inl moved) = inl moved
          new_past (inr twice) (inr past) = inl twice.1
          new_past (inl once) (inr past) =
              inr (every-set (λ j a. a.clock.at.epoch ≤ epoch_in host old + 1) old.accounts i next (account_of (fresh host.header))
              past (omega (arith, once)))

          go : (b : Bool) → old.closing ≡ b → IsClosing host (advanced_books host old i account closing)
          go true was = record {
            clocks = clocks (right.closed was).clocks;
            stamped = (right.closed was).stamped;
            past = new_past turn.turns (right.closed was).past;
          }
          go false was = record {
            clocks = clocks (λ j within. (
              omega (arith, (inside.clocks j within).from, low j within),
              omega (arith, (inside.clocks j within).up_to, inside.within),
            ));
            stamped = λ s within.
                subst (λ (b : Bool). AreStamped host (epoch_at (epoch_in host old) b) (seats_at old s).contents) (sym (inside.still s within))
                (every-weaker (IsWaiting host (low_in host old (s % length old.accounts)) (top_in host old)) (IsStamped host (epoch_in host old))
                (λ x waits. (waits.0, omega (arith, waits.1, waits.2, inside.within, low (s % length old.accounts) (owner_there mirrors host fit old right s))))
                (pending_of host (seats_at old s).contents) (inside.waits s within));
            past = new_past turn.turns (inr (λ j within. omega (arith, (inside.clocks j within).up_to, inside.within)));
          }
            where
              inside : IsInside host old
              inside = right.inside was

              low : (j : ℕ) → j < length old.accounts → low_in host old j ≡ epoch_in host old
              low = low_at_end turn.settled

  open_right : DidOpen host old → IsRight mirrors host (opened_books host old)
  open_right did = record {
    known = right.known;
    marked = right.marked;
    each = right.each;
    left = progress_left host old (opened_books host old) (opens_next did refl) right.left;
    last = λ rolling. absurd (did.more (right.last rolling));
    mirrored = λ s within.
        subst (mirrors s) (sym (ap (λ (z : Seats C). z.contents) (get_or-mapped (λ (shard : Seats C). unmoved shard.contents) old.shards s (unmoved []))))
        (right.mirrored s (there s within));
    inside = λ phase. go host.rolling refl;
    closed = λ closing. absurd (true≢false (sym closing));
  }
    where
      there : (s : ℕ) → s < length (map (λ shard. unmoved shard.contents) old.shards) → s < length old.shards
      there s within = subst (λ (n : ℕ). s < n) (length-map old.shards (λ shard. unmoved shard.contents)) within

      closing : (b : Bool) → old.closing ≡ b → IsClosing host old
      closing true is = right.closed is
      closing false is = absurd (omega (arith, did.turned 0 (some_account mirrors host fit old right), ((right.inside is).clocks 0 (some_account mirrors host fit old right)).up_to, (right.inside is).within))

      stamped : (s : ℕ) → s < length old.shards → AreStamped host (suc (epoch_in host old)) (seats_at old s).contents
      stamped s within =
          subst (λ (b : Bool). AreStamped host (epoch_at (epoch_in host old) b) (seats_at old s).contents) (did.moved s within)
          ((closing old.closing refl).stamped s within)

      go : (b : Bool) → host.rolling ≡ b → IsInside host (opened_books host old)
      go true rolling = absurd (did.more (right.last rolling))
      go false plain = record {
        within = omega (arith, top);
        clocks = λ i within. record {
          from_first = omega (arith, low i);
          from = omega (arith, low i, did.turned i within);
          up_to = omega (arith, top, did.turned i within);
          near = omega (arith, top, low i);
        };
        waits = λ s within.
            subst (λ (z : Seats C). AllByRecursion (IsWaiting host (low_in host (opened_books host old) (s % length old.accounts)) (top_in host (opened_books host old))) (pending_of host z.contents))
            (sym (get_or-mapped (λ (shard : Seats C). unmoved shard.contents) old.shards s (unmoved [])))
            (every-weaker (IsStamped host (suc (epoch_in host old)))
            (IsWaiting host (low_in host (opened_books host old) (s % length old.accounts)) (top_in host (opened_books host old)))
            (λ x is. (is.0, omega (arith, is.1, low (s % length old.accounts)), omega (arith, is.1, top)))
            (pending_of host (seats_at old s).contents) (stamped s (there s within)));
        still = λ s within. ap (λ (z : Seats C). z.moved) (get_or-mapped (λ (shard : Seats C). unmoved shard.contents) old.shards s (unmoved []));
      }
        where
          top : top_in host (opened_books host old) ≡ host.header.first + suc old.phase
          top = cond-false host.rolling old.newest (host.header.first + suc old.phase) plain

          low : (j : ℕ) → low_in host (opened_books host old) j ≡ host.header.first + suc old.phase
          low j = cond-false host.rolling (scanned_in host old j) (host.header.first + suc old.phase) plain

  raise_right : (i : ℕ) (account : Account) → DidRaise host old i account → IsRight mirrors host (raised_books host old account)
  raise_right i account did = record {
    known = right.known;
    marked = right.marked;
    each = right.each;
    left = right.left;
    last = right.last;
    mirrored = right.mirrored;
    inside = λ phase. record {
      within = omega (arith, top, top_old, inside.within, did.wanted);
      clocks = λ j within. record {
        from_first = (inside.clocks j within).from_first;
        from = (inside.clocks j within).from;
        up_to = omega (arith, top, top_old, (inside.clocks j within).up_to);
        near = omega (
          arith,
          top,
          top_old,
          (inside.clocks j within).near,
          did.scanned j within,
          cond-true host.rolling (scanned_in host old j) (epoch_in host old) did.round.rolling,
        );
      };
      waits = λ s within. every-weaker (IsWaiting host (low_in host old (s % length old.accounts)) (top_in host old))
          (IsWaiting host (low_in host old (s % length old.accounts)) (top_in host (raised_books host old account)))
          (λ x is. (is.0, is.1, omega (arith, is.2, top, top_old))) (pending_of host (seats_at old s).contents) (inside.waits s within);
      still = inside.still;
    };
    closed = λ closing. absurd (true≢false (sym closing ∙ did.round.phase));
  }
    where
      inside : IsInside host old
      inside = right.inside did.round.phase

      top_old : top_in host old ≡ old.newest
      top_old = cond-true host.rolling old.newest (epoch_in host old) did.round.rolling

      top : top_in host (raised_books host old account) ≡ max old.newest (suc account.clock.at.epoch)
      top = cond-true host.rolling (max old.newest (suc account.clock.at.epoch)) (epoch_in host old) did.round.rolling

  finish_right : (i : ℕ) (account : Account) → DidFinish host old i account → IsRight mirrors host (finished_books host old i account)
  finish_right i account did = record {
    known = right.known;
    marked = length-set old.scanned i account.clock.at.epoch ∙ right.marked;
    each = right.each;
    left = right.left;
    last = right.last;
    mirrored = right.mirrored;
    inside = λ phase. record {
      within = inside.within;
      clocks = λ j within. go_clock j within (cases_eq j i);
      waits = λ s within. go_waits s within (cases_eq (s % length old.accounts) i);
      still = inside.still;
    };
    closed = λ closing. absurd (true≢false (sym closing ∙ did.round.phase));
  }
    where
      new : Books C
      new = finished_books host old i account

      inside : IsInside host old
      inside = right.inside did.round.phase

      clock : IsRoundClock host.header.first (low_in host old i) (top_in host old) account.clock.at.epoch
      clock = round_clock mirrors host fit old right inside i account did.own

      own_low : (j : ℕ) → j ≡ i → low_in host new j ≡ account.clock.at.epoch
      own_low j same =
          cond-true host.rolling (scanned_in host new j) (epoch_in host old) did.round.rolling
          ∙ ap (λ (n : ℕ). scanned_in host new n) same
          ∙ get_or-set_same old.scanned i account.clock.at.epoch host.header.first (subst (λ (n : ℕ). i < n) (sym right.marked) did.own.there)

      other_low : (j : ℕ) → (j ≡ i → ⊥) → low_in host new j ≡ low_in host old j
      other_low j apart =
          ap (λ (n : ℕ). if host.rolling then n else epoch_in host old) (get_or-set_other old.scanned i j account.clock.at.epoch host.header.first apart)

      go_clock : (j : ℕ) → j < length old.accounts → (j ≡ i) ⊎ (j ≡ i → ⊥)
          → IsRoundClock host.header.first (low_in host new j) (top_in host old) (account_at host old j).clock.at.epoch
      go_clock j within (inl same) = record {
        from_first = omega (arith, own_low j same, clock.from, clock.from_first);
        from = omega (arith, own_low j same, ap (λ (a : Account). a.clock.at.epoch) (ap (account_at host old) same ∙ did.own.is));
        up_to = (inside.clocks j within).up_to;
        near = omega (arith, own_low j same, clock.near, clock.from);
      }
      go_clock j within (inr apart) =
          subst (λ (n : ℕ). IsRoundClock host.header.first n (top_in host old) (account_at host old j).clock.at.epoch) (sym (other_low j apart)) (inside.clocks j within)

      go_waits : (s : ℕ) → s < length old.shards → (s % length old.accounts ≡ i) ⊎ (s % length old.accounts ≡ i → ⊥)
          → AllByRecursion (IsWaiting host (low_in host new (s % length old.accounts)) (top_in host old)) (pending_of host (seats_at old s).contents)
      go_waits s within (inl own) =
          both-all (IsWaiting host (low_in host old (s % length old.accounts)) (top_in host old)) (λ x. account.clock.at.epoch ≤ x.stamp.epoch)
          (IsWaiting host (low_in host new (s % length old.accounts)) (top_in host old))
          (λ x is from. (is.0, omega (arith, own_low (s % length old.accounts) own, from), is.2)) (pending_of host (seats_at old s).contents)
          (inside.waits s within) (did.reached s within own)
      go_waits s within (inr apart) =
          subst (λ (n : ℕ). AllByRecursion (IsWaiting host n (top_in host old)) (pending_of host (seats_at old s).contents))
          (sym (other_low (s % length old.accounts) apart)) (inside.waits s within)

  -- Each event leaves the books right.
  pub progress_right : (new : Books C) → Progress host old new → IsRight mirrors host new
  progress_right new (stays is) = subst (IsRight mirrors host) (sym is) right
  progress_right new (serves_one i account s seat request done did is) =
      subst (IsRight mirrors host) (sym is) (serve_right i account s seat request done did)
  progress_right new (moves_one i account s moved done did is) = subst (IsRight mirrors host) (sym is) (move_right i account s moved done did)
  progress_right new (advances_one i account closing did is) = subst (IsRight mirrors host) (sym is) (advance_right i account closing did)
  progress_right new (opens_next did is) = subst (IsRight mirrors host) (sym is) (open_right did)
  progress_right new (raises_newest i account did is) = subst (IsRight mirrors host) (sym is) (raise_right i account did)
  progress_right new (finishes_one i account did is) = subst (IsRight mirrors host) (sym is) (finish_right i account did)
