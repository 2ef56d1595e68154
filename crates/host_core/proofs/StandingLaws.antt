-- Behind every list of events each shard mirrors, and what is enabled is ready.
use Rattle.std.proofs.Common.{◌≡◌, ℕ, ◌+◌, ◌<◌, ◌≤◌, ◌%◌, Bool, true, List, length, inl, inr, refl, sym, ◌∙◌, ap, subst, arith}
use Rattle.std.proofs.lemmas.List.{length-map, length-set}
use Rattle.host_core.specs.Host.{Host}
use Rattle.host_core.specs.World.{Seats, World, unmoved, worker_at, set_up}
use Rattle.host_core.specs.WorldEvent.{WorldEvent, takes, loses, serves, gives, advances, moves, opens, raises, enters, scans, finishes, stops, MayServe, MayMove, MayScan, IsEnabled, AreEnabled, run_events}
use Rattle.host_core.specs.Deeds.{IsClock, IsFit}
use Rattle.host_core.specs.Core.{HoldsBehind, IsReadyToMove, IsReadyFor, IsStanding}
use Rattle.host_core.proofs.Books.{Account, account_of, Books, books_of, account_is, own_of, Progress, stays, serves_one, moves_one, advances_one, opens_next, raises_newest, finishes_one}
use Rattle.host_core.proofs.AccountLemmas.{IsRightAccount}
use Rattle.host_core.proofs.Right.{IsRight}
use Rattle.host_core.proofs.ReadyLemmas.{IsMoveReady, ready_at_seat, ready_at_shard}
use Rattle.host_core.proofs.BehindLemmas.{behind}

module _ {C R : Type 0} (mirrors : ℕ → List C → Type 0) (host : Host C R) (fit : IsFit mirrors host) (world : World C) (right : IsRight mirrors host (books_of world)) where
  to_move : (i s : ℕ) → IsMoveReady mirrors host fit (books_of world) right i (account_of (worker_at host world i)) s → IsReadyToMove mirrors host world i s
  to_move i s is = record { epoch = is.epoch; ready = is.ready; turned = is.turned }

  ready_for : (event : WorldEvent R) → IsEnabled host world event → IsReadyFor mirrors host world event
  ready_for (takes i place) may = tt
  ready_for (loses i place) may = tt
  ready_for (serves i place request) may =
      ready_at_seat mirrors host fit (books_of world) right i (account_of (worker_at host world i)) place.shard place.seat
      (record {
        own = own_of host world i may.serving.there;
        shard = may.there.0;
        inside = may.there.1;
        phase = may.serving.phase;
        reached = may.due.reached;
      })
  ready_for (gives i place) may = tt
  ready_for (advances i) may = tt
  ready_for (moves i s) may =
      to_move i s
      (ready_at_shard mirrors host fit (books_of world) right i (account_of (worker_at host world i)) s true (own_of host world i may.there) may.shard
      (inl (record { closing = may.closing; turned = may.turned; still = may.still; is = refl })))
  ready_for opens may = tt
  ready_for (raises i) may = tt
  ready_for (enters i) may = tt
  ready_for (scans i place) may =
      to_move i place.shard
      (ready_at_shard mirrors host fit (books_of world) right i (account_of (worker_at host world i)) place.shard _ (own_of host world i may.rolling.serving.there) may.shard
      (inr (record {
        round = record { phase = may.rolling.serving.phase; rolling = may.rolling.rolling };
        owner = ap (λ (n : ℕ). place.shard % n) (length-map world.workers account_of) ∙ may.own;
        before = may.before;
        turned = may.turned;
        earlier = may.earlier;
        is = refl;
      })))
  ready_for (finishes i) may = tt
  ready_for (stops i found) may = tt

  are_clocks : (i : ℕ) → i < length world.workers → IsClock host (worker_at host world i).clock
  are_clocks i there =
      (subst (IsRightAccount host i) (account_is host world i)
      (right.each i (subst (λ (n : ℕ). i < n) (sym (length-map world.workers account_of)) there))).is_clock

  stands : length world.shards ≡ length host.setup.after → IsStanding mirrors host world
  stands shards = record {
    workers = sym (length-map world.workers account_of) ∙ right.known;
    marks = right.marked ∙ length-map world.workers account_of;
    shards = shards;
    clocks = are_clocks;
    mirrored = right.mirrored;
    ready = ready_for;
  }

-- how many shards there are, stays
as_many_shards : {C R : Type 0} (host : Host C R) (count : ℕ) (old new : Books C) → Progress host old new → length old.shards ≡ count → length new.shards ≡ count
as_many_shards {C} host count old new (stays is) same = ap (λ (b : Books C). length b.shards) is ∙ same
as_many_shards {C} host count old new (serves_one i account s seat request done did is) same =
    ap (λ (b : Books C). length b.shards) is ∙ length-set old.shards s _ ∙ same
as_many_shards {C} host count old new (moves_one i account s moved done did is) same =
    ap (λ (b : Books C). length b.shards) is ∙ length-set old.shards s _ ∙ same
as_many_shards {C} host count old new (advances_one i account closing did is) same = ap (λ (b : Books C). length b.shards) is ∙ same
as_many_shards {C} host count old new (opens_next did is) same =
    ap (λ (b : Books C). length b.shards) is ∙ length-map old.shards (λ (shard : Seats C). unmoved shard.contents) ∙ same
as_many_shards {C} host count old new (raises_newest i account did is) same = ap (λ (b : Books C). length b.shards) is ∙ same
as_many_shards {C} host count old new (finishes_one i account did is) same = ap (λ (b : Books C). length b.shards) is ∙ same

pub always_standing : {C R : Type 0} (mirrors : ℕ → List C → Type 0) (host : Host C R) → HoldsBehind mirrors host (IsStanding mirrors host)
always_standing mirrors host fit events enabled =
    let all = behind mirrors host fit (λ books. length books.shards ≡ length host.setup.after) (length-map host.setup.after unmoved)
    (λ old new right did same. as_many_shards host (length host.setup.after) old new did same) events enabled in
    stands mirrors host fit (run_events host (set_up host) events) all.0 all.1
