-- Where the books are right, what the host does is ready to be done, and fits: a request that is served, and a shard that is moved
-- or scanned.
use Rattle.std.proofs.Common.{◌≡◌, ◌⊎◌, ℕ, suc, ◌<◌, ◌≤◌, ◌%◌, Bool, true, false, List, length, get_or, refl, ◌∙◌, subst, inl, inr, arith}
use Rattle.std.specs.List.{AllByRecursion}
use Rattle.std.proofs.lemmas.Bool.{cond-false}
use Rattle.std.proofs.lemmas.Nat.{mod_below}
use Rattle.stamp_order.proofs.InOrderLaws.{every-weaker}
use Rattle.record_text.specs.declared.element.Element.{Element}
use Rattle.host_core.specs.Host.{Host, Done}
use Rattle.host_core.specs.WorldEvent.{AreUpTo}
use Rattle.host_core.specs.Deeds.{pending_of, IsStamped, AreStamped, IsOpenElement, IsReady, IsReadyAt, ServeFits, MoveFits, IsFit}
use Rattle.host_core.proofs.Books.{Account, Books, seats_at, account_at, epoch_in, scanned_in, IsOwn, DidServe, InClose, InScan, DidMove}
use Rattle.host_core.proofs.AccountLemmas.{IsRightAccount}
use Rattle.host_core.proofs.Right.{epoch_at, IsRoundClock, low_in, top_in, IsWaiting, IsInside, IsRight}
use Rattle.host_core.proofs.WaitingLemmas.{waits-at, both-all, some-waits, open_near}

module _ {C R : Type 0} (mirrors : ℕ → List C → Type 0) (host : Host C R) (fit : IsFit mirrors host) (old : Books C) (right : IsRight mirrors host old) where
  -- a worker's account
  pub own_right : (i : ℕ) (account : Account) → IsOwn host old i account → IsRightAccount host i account
  own_right i account own = subst (IsRightAccount host i) own.is (right.each i own.there)

  -- there is a worker
  pub some_account : 0 < length old.accounts
  some_account = omega (arith, fit.some, right.known)

  -- a shard's owner is there
  pub owner_there : (s : ℕ) → s % length old.accounts < length old.accounts
  owner_there s = mod_below s (length old.accounts) some_account

  -- in a host that is not rolling the lowest epoch and the newest are the phase's
  pub level_low : host.rolling ≡ false → (i : ℕ) → low_in host old i ≡ epoch_in host old
  level_low plain i = cond-false host.rolling (scanned_in host old i) (epoch_in host old) plain

  pub level_top : host.rolling ≡ false → top_in host old ≡ epoch_in host old
  level_top plain = cond-false host.rolling old.newest (epoch_in host old) plain

  -- within a round, a worker's clock
  pub round_clock : IsInside host old → (i : ℕ) (account : Account) → IsOwn host old i account
      → IsRoundClock host.header.first (low_in host old i) (top_in host old) account.clock.at.epoch
  round_clock inside i account own =
      subst (λ (a : Account). IsRoundClock host.header.first (low_in host old i) (top_in host old) a.clock.at.epoch) own.is (inside.clocks i own.there)

  pub known_worker : (i : ℕ) (account : Account) → IsOwn host old i account → i < host.header.verifiers
  known_worker i account own = subst (λ (n : ℕ). i < n) right.known own.there

  -- a worker at a seat where it may serve: what waits there is of no later epoch than its own
  pub record IsAtSeat (i : ℕ) (account : Account) (s seat : ℕ) : Type 0 where
    pub own : IsOwn host old i account
    pub shard : s < length old.shards
    pub inside : seat < length (seats_at old s).contents
    pub phase : old.closing ≡ false
    pub reached : AreUpTo account.clock.at.epoch (host.pending (get_or (seats_at old s).contents seat host.vacant))

  at_seat : (i : ℕ) (account : Account) (s seat : ℕ) (request : R) (done : Done C) → DidServe host old i account s seat request done
      → IsAtSeat i account s seat
  at_seat i account s seat request done did =
      record { own = did.own; shard = did.shard; inside = did.inside; phase = did.phase; reached = did.reached }

  -- what waits there
  pub waits_there : (i : ℕ) (account : Account) (s seat : ℕ) → IsAtSeat i account s seat
      → AllByRecursion (λ x. (x.verifier < host.header.verifiers) × (low_in host old (s % length old.accounts) ≤ x.stamp.epoch) × (x.stamp.epoch ≤ account.clock.at.epoch))
      (host.pending (get_or (seats_at old s).contents seat host.vacant))
  waits_there i account s seat did =
      both-all (IsWaiting host (low_in host old (s % length old.accounts)) (top_in host old)) (λ x. x.stamp.epoch ≤ account.clock.at.epoch)
      (λ x. (x.verifier < host.header.verifiers) × (low_in host old (s % length old.accounts) ≤ x.stamp.epoch) × (x.stamp.epoch ≤ account.clock.at.epoch))
      (λ x waits up. (waits.0, waits.1, up)) (host.pending (get_or (seats_at old s).contents seat host.vacant))
      (waits-at host (IsWaiting host (low_in host old (s % length old.accounts)) (top_in host old)) (seats_at old s).contents seat host.vacant did.inside
      ((right.inside did.phase).waits s did.shard))
      did.reached

  -- so it is ready
  pub ready_at_seat : (i : ℕ) (account : Account) (s seat : ℕ) → IsAtSeat i account s seat
      → IsReadyAt mirrors host i account.clock s seat (seats_at old s).contents
  ready_at_seat i account s seat did = record {
    known = known_worker i account did.own;
    is_clock = (own_right i account did.own).is_clock;
    mirrored = right.mirrored s did.shard;
    level = λ plain. level_shard plain;
    open_epochs = every-weaker
        (λ x. (x.verifier < host.header.verifiers) × (low_in host old (s % length old.accounts) ≤ x.stamp.epoch) × (x.stamp.epoch ≤ account.clock.at.epoch))
        (IsOpenElement host account.clock)
        (λ x is. (
          is.0,
          open_near account.clock x.stamp.epoch is.2
              (omega (arith, is.1, owner.near, clock.up_to)) (omega (arith, is.1, owner.from_first, (own_right i account did.own).is_clock.first)),
        ))
        (host.pending (get_or (seats_at old s).contents seat host.vacant)) (waits_there i account s seat did);
  }
    where
      inside : IsInside host old
      inside = right.inside did.phase

      clock : IsRoundClock host.header.first (low_in host old i) (top_in host old) account.clock.at.epoch
      clock = round_clock inside i account did.own

      owner : IsRoundClock host.header.first (low_in host old (s % length old.accounts)) (top_in host old) (account_at host old (s % length old.accounts)).clock.at.epoch
      owner = inside.clocks (s % length old.accounts) (owner_there s)

      level_shard : host.rolling ≡ false → AreStamped host account.clock.at.epoch (seats_at old s).contents
      level_shard plain =
          every-weaker (IsWaiting host (low_in host old (s % length old.accounts)) (top_in host old)) (IsStamped host account.clock.at.epoch)
          (λ x waits. (waits.0, omega (arith, waits.1, waits.2, clock.from, clock.up_to, level_low plain i, level_low plain (s % length old.accounts), level_top plain)))
          (pending_of host (seats_at old s).contents) (inside.waits s did.shard)

  pub serve_ready : (i : ℕ) (account : Account) (s seat : ℕ) (request : R) (done : Done C)
      → DidServe host old i account s seat request done
      → IsReadyAt mirrors host i account.clock s seat (seats_at old s).contents
  serve_ready i account s seat request done did = ready_at_seat i account s seat (at_seat i account s seat request done did)

  pub serve_fits : (i : ℕ) (account : Account) (s seat : ℕ) (request : R) (done : Done C)
      → DidServe host old i account s seat request done
      → ServeFits mirrors host i account.clock s seat (seats_at old s).contents request done
  serve_fits i account s seat request done did =
      fit.serve i account.clock s seat (seats_at old s).contents request done
      (serve_ready i account s seat request done did) did.inside did.owns did.did

  -- a worker that serves is in no earlier epoch than the shard's owner has scanned
  pub serves_from : (i : ℕ) (account : Account) (s seat : ℕ) (request : R) (done : Done C) → DidServe host old i account s seat request done
      → low_in host old (s % length old.accounts) ≤ account.clock.at.epoch
  serves_from i account s seat request done did = go host.rolling refl
    where
      go : (b : Bool) → host.rolling ≡ b → low_in host old (s % length old.accounts) ≤ account.clock.at.epoch
      go false plain =
          omega (
            arith,
            (round_clock (right.inside did.phase) i account did.own).from,
            level_low plain i,
            level_low plain (s % length old.accounts),
          )
      go true rolling = omega (arith, some.1.1, some.1.2)
        where
          some : (x : Element) × ((x.verifier < host.header.verifiers) × (low_in host old (s % length old.accounts) ≤ x.stamp.epoch) × (x.stamp.epoch ≤ account.clock.at.epoch))
          some = some-waits
              (λ x. (x.verifier < host.header.verifiers) × (low_in host old (s % length old.accounts) ≤ x.stamp.epoch) × (x.stamp.epoch ≤ account.clock.at.epoch))
              (host.pending (get_or (seats_at old s).contents seat host.vacant))
              (fit.waits rolling s seat (seats_at old s).contents request did.owns)
              (waits_there i account s seat (at_seat i account s seat request done did))

  -- a worker at a shard that it moves or scans, where all waits in the epoch before its own
  pub record IsMoveReady (i : ℕ) (account : Account) (s : ℕ) : Type 0 where
    pub epoch : ℕ
    pub ready : IsReady mirrors host i account.clock epoch s (seats_at old s).contents
    pub turned : account.clock.at.epoch ≡ suc epoch

  pub ready_at_shard : (i : ℕ) (account : Account) (s : ℕ) (moved : Bool) → IsOwn host old i account → s < length old.shards
      → InClose host old account s moved ⊎ InScan host old i account s moved → IsMoveReady i account s
  ready_at_shard i account s moved own there = go
    where
      ready : (epoch : ℕ) → account.clock.at.epoch ≡ suc epoch → AreStamped host epoch (seats_at old s).contents → IsMoveReady i account s
      ready epoch turned stamped = record {
        epoch = epoch;
        ready = record {
          known = known_worker i account own;
          is_clock = (own_right i account own).is_clock;
          mirrored = right.mirrored s there;
          stamped = stamped;
        };
        turned = turned;
      }

      go : InClose host old account s moved ⊎ InScan host old i account s moved → IsMoveReady i account s
      go (inl close) =
          ready (epoch_in host old) (close.turned ∙ omega arith)
          (subst (λ (b : Bool). AreStamped host (epoch_at (epoch_in host old) b) (seats_at old s).contents) close.still
          ((right.closed close.closing).stamped s there))
      go (inr scan) =
          ready scan.before scan.turned
          (both-all (IsWaiting host (low_in host old (s % length old.accounts)) (top_in host old)) (λ x. x.stamp.epoch ≤ scan.before) (IsStamped host scan.before)
          (λ x waits up. (waits.0, omega (arith, waits.1, up, owner.near, clock.up_to, scan.turned))) (pending_of host (seats_at old s).contents)
          (inside.waits s there) scan.earlier)
        where
          inside : IsInside host old
          inside = right.inside scan.round.phase

          clock : IsRoundClock host.header.first (low_in host old i) (top_in host old) account.clock.at.epoch
          clock = round_clock inside i account own

          owner : IsRoundClock host.header.first (low_in host old (s % length old.accounts)) (top_in host old) (account_at host old (s % length old.accounts)).clock.at.epoch
          owner = inside.clocks (s % length old.accounts) (owner_there s)

  pub move_ready : (i : ℕ) (account : Account) (s : ℕ) (moved : Bool) (done : Done (List C)) → DidMove host old i account s moved done
      → IsMoveReady i account s
  move_ready i account s moved done did = ready_at_shard i account s moved did.own did.shard did.when

  pub move_fits : (i : ℕ) (account : Account) (s : ℕ) (moved : Bool) (done : Done (List C)) → DidMove host old i account s moved done
      → MoveFits mirrors host i account.clock s (seats_at old s).contents done
  move_fits i account s moved done did =
      let is = move_ready i account s moved done did in
      fit.move i is.epoch account.clock s (seats_at old s).contents done is.ready is.turned did.did
