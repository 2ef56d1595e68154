-- What one call and then another do to a worker of a round.
use Rattle.std.proofs.Common.{◌≡◌, ◌≢◌, ℕ, suc, ◌+◌, ◌<◌, ◌≤◌, List, [], ◌∷◌, ◌++◌, Option, Some, None, refl, sym, ap, ◌∙◌, subst, arith}
use Rattle.std.proofs.lemmas.List.{append-nil}
use Rattle.std.proofs.lemmas.Option.{none-some, same_Some}
use Rattle.lamport_clocks.specs.declared.stamp.Stamp.{Stamp}
use Rattle.lamport_clocks.specs.Reading.{Reading}
use Rattle.record_text.specs.declared.element.Element.{Element}
use Rattle.atomic_table.specs.Seated.{TableId}
use Rattle.host_shard.specs.declared.content.Content as code
use Rattle.host_shard.specs.Content.{Content, cold, hot, vacant, pending}
use Rattle.host_shard.specs.Shown.{shown_content}
use Rattle.host_plan.specs.Plan.{IsOpenAt, IsPastEnd, clock_after}
use Rattle.host_epochs.specs.declared.hand.Hand.{Hand}
use Rattle.host_epochs.specs.declared.told.Loss.{Loss}
use Rattle.host_epochs.specs.declared.told.Reached.{Reached}
use Rattle.host_epochs.specs.declared.views.Held.TheVariants.{Idle}
use Rattle.host_epochs.specs.declared.views.Row.{Row}
use Rattle.host_epochs.specs.Calls.{HasReached, IsAfter, MayNote, Notes, Takes}
use Rattle.host_epochs.specs.Hands.{content, entered, entries, done, left, row_of, seen, stop, worker_of, IsFree, IsSeated, KeepsSeat}
use Rattle.host_epochs.specs.Plays.{given_back, row_with_done, row_with_entry, row_with_epoch}
use Rattle.host_epochs.specs.Scan.{IsStale, scanned}
use Rattle.host_epochs.specs.Terms.{Terms, IsNear, Waits, clock_at, epoch_of, first_epoch, owner, place_count}
use Rattle.host_epochs.specs.Told.{IsClockBehind}
use Rattle.host_epochs.proofs.ClockLaws.{behind_entered, behind_more}
use Rattle.host_epochs.proofs.WorkLaws.{later_is}
use Rattle.host_epochs.proofs.ScanLaws.{may_scan, near_open, near_to, reached_last, reached_more, scanned_epoch}
use Rattle.table_tests.specs.declared.round_workers.RoundEnd.TheVariants.{Going, Stopped, Stuck, Warned}
use Rattle.table_tests.specs.declared.round_workers.RoundWorker.{RoundWorker}
use Rattle.table_tests.specs.Rounds.{GoesOn, Has, HasTaken, IsGoing, IsOf, IsWorkerOf, Stays, Works}

-- ---- the same row

pub going_same : (terms : Terms) (old new : Hand) (clock : Reading) → row_of new ≡ row_of old → IsGoing terms old clock → IsGoing terms new clock
going_same terms old new clock same is = record {
  going = ap (λ (row : Row). row.stop) same ∙ is.going;
  behind = subst (λ (row : Row). IsClockBehind terms row.list row.entered clock) (sym same) is.behind;
}

-- A worker whose hand tells what it told, with the same clock.
pub of_same : (terms : Terms) (old new : RoundWorker) → new.entered ≡ old.entered → new.clock ≡ old.clock → (new.end ≡ Going → old.end ≡ Going)
    → worker_of new.hand ≡ worker_of old.hand → row_of new.hand ≡ row_of old.hand → IsOf terms old → IsOf terms new
of_same terms old new counted clock end worker row is = record {
  counted = counted ∙ (is.counted ∙ ap (λ (r : Row). r.entered) (sym row));
  known = subst (λ (n : ℕ). n < terms.workers) (sym worker) is.known;
  started = is.started;
  going = λ goes. subst (IsGoing terms new.hand) (sym clock) (going_same terms old.hand new.hand old.clock row (is.going (end goes)));
}

-- ---- what stays

pub stays_after : (old new : RoundWorker) (row : Row) (found : List Loss) (given looked : List Reached) → IsAfter old.hand new.hand row found given looked
    → row.entered ≡ entered old.hand → row.done ≡ done old.hand → Stays old new
stays_after old new row found given looked after entered_is done_is = record {
  worker = after.worker;
  entered_is = ap (λ (r : Row). r.entered) after.row ∙ entered_is;
  done_is = ap (λ (r : Row). r.done) after.row ∙ done_is;
  left_more = λ place least has. subst (λ (xs : List Reached). HasReached xs place least) (sym after.left) (reached_more (left old.hand) given place least has);
  seen_more = λ worker least has. subst (λ (xs : List Reached). HasReached xs worker least) (sym after.seen) (reached_more (seen old.hand) looked worker least has);
}

pub stays_then : (a b c : RoundWorker) → Stays a b → Stays b c → Stays a c
stays_then a b c one two = record {
  worker = two.worker ∙ one.worker;
  entered_is = two.entered_is ∙ one.entered_is;
  done_is = two.done_is ∙ one.done_is;
  left_more = λ place least has. two.left_more place least (one.left_more place least has);
  seen_more = λ worker least has. two.seen_more worker least (one.seen_more worker least has);
}

pub stays_here : (a : RoundWorker) → Stays a a
stays_here a = record { worker = refl; entered_is = refl; done_is = refl; left_more = λ place least has. has; seen_more = λ worker least has. has }

-- ---- contents

-- a content that waits with an element waits with one of that epoch
pub waits_so : (found : Content) (element : Element) → pending found ≡ Some element → epoch_of found ≡ element.stamp.epoch
waits_so (cold shard) element is = ap (λ (e : Element). e.stamp.epoch) (same_Some _ element is)
waits_so (hot record') element is = ap (λ (e : Element). e.stamp.epoch) (same_Some _ element is)
waits_so vacant element is = absurd (none-some element is)

pub stale_so : (found : Content) (element : Element) (epoch : ℕ) → pending found ≡ Some element → element.stamp.epoch < epoch → IsStale epoch found
stale_so (cold shard) element epoch is before = omega (arith, before, ap (λ (e : Element). e.stamp.epoch) (same_Some _ element is))
stale_so (hot record') element epoch is before = omega (arith, before, ap (λ (e : Element). e.stamp.epoch) (same_Some _ element is))
stale_so vacant element epoch is before = absurd (none-some element is)

pub some_waits : (found : Content) (element : Element) → pending found ≡ Some element → found ≢ vacant
some_waits found element is none = none-some element (sym (ap pending none) ∙ is)

-- a clock of the table is told by its stamp
pub clock_told : (terms : Terms) (clock : Reading) (stamp : Stamp) (entries' : List _) (n : ℕ) → IsClockBehind terms entries' n clock → stamp ≡ clock.at → clock_at terms stamp ≡ clock
clock_told terms clock stamp entries' n behind at = λ i. record { first = sym behind.is.first i; end = sym behind.is.end i; at = at i }

-- ---- a place taken and given back

module _ (terms : Terms) (table : TableId) (place : ℕ) where
  pub has_taken : (x : code.Content) (old new : RoundWorker) → Takes terms table old.hand place x new.hand → new.entered ≡ old.entered → new.clock ≡ old.clock → new.end ≡ old.end
      → old.end ≡ Going → IsOf terms old → HasTaken terms table place x old new
  has_taken x old new takes counted clock end going of = record {
    holds = takes.holds;
    content_is = takes.content_is;
    near = takes.near;
    of = of_same terms old new counted clock (λ goes. going) takes.after.worker takes.after.row of;
    going = end ∙ going;
    stays = stays_after old new (row_of old.hand) [] [] [] takes.after refl refl;
  }

  pub taken_then : (x : code.Content) (a b c : RoundWorker) → Stays a b → HasTaken terms table place x b c → HasTaken terms table place x a c
  taken_then x a b c stays taken = record {
    holds = taken.holds;
    content_is = taken.content_is;
    near = taken.near;
    of = taken.of;
    going = taken.going;
    stays = stays_then a b c stays taken.stays;
  }

  pub gave_back : (given : code.Content) (old new : RoundWorker) → IsFree table new.hand → IsAfter old.hand new.hand (row_of old.hand) [] (given_back place given ∷ []) []
      → new.entered ≡ old.entered → new.clock ≡ old.clock → old.end ≡ Going → IsOf terms old → GoesOn terms table old new
  gave_back given old new free after counted clock going of = record {
    is = record { free = free; of = of_same terms old new counted clock (λ goes. going) after.worker after.row of };
    stays = stays_after old new (row_of old.hand) [] (given_back place given ∷ []) [] after refl refl;
  }

  -- the element of a place that is given back so is of the worker's epoch
  pub reached_now : (given : code.Content) (old new : Hand) (row : Row) → IsAfter old new row [] (given_back place given ∷ []) [] → first_epoch terms + entered new ≤ epoch_of (shown_content given)
      → HasReached (left new) place (first_epoch terms + entered new)
  reached_now given old new row after far =
      subst (λ (xs : List Reached). HasReached xs place (first_epoch terms + entered new)) (sym after.left) (reached_last (left old) (given_back place given) place (first_epoch terms + entered new) refl far)

-- a worker that is scanning may renew what it holds
pub has_open : (terms : Terms) (table : TableId) (place : ℕ) (x : code.Content) (worker : RoundWorker) → Has terms table place x worker → IsOpenAt worker.clock (shown_content x)
has_open terms table place x worker has =
    let behind = (has.of.going has.going).behind in
    let here = behind.epoch in
    let first = behind.is.first in
    near_open terms (entered worker.hand) (done worker.hand) x worker.clock here
    (λ later. let started = has.of.started in omega (arith, later, here, first, started))
    (near_to terms (entered worker.hand) (done worker.hand) x has.scanning has.near) has.near

-- ---- calls at no place

module _ (terms : Terms) (table : TableId) where
  pub looked_on : (a b new : RoundWorker) (looked : List Reached) → GoesOn terms table a b → KeepsSeat table b.hand new.hand → IsAfter b.hand new.hand (row_of b.hand) [] [] looked
      → new.entered ≡ b.entered → new.clock ≡ b.clock → (new.end ≡ Going → b.end ≡ Going) → GoesOn terms table a new
  looked_on a b new looked goes keeps after counted clock end = record {
    is = record { free = keeps Idle [] goes.is.free; of = of_same terms b new counted clock end after.worker after.row goes.is.of };
    stays = stays_then a b new goes.stays (stays_after b new (row_of b.hand) [] [] looked after refl refl);
  }

  -- one worker more was seen to be so far
  pub seen_one : (old new : Hand) (row : Row) (worker found : ℕ) → IsAfter old new row [] [] (record { of = worker; least = found } ∷ []) → entered new ≤ found
      → HasReached (seen new) worker (entered new)
  seen_one old new row worker found after far =
      subst (λ (xs : List Reached). HasReached xs worker (entered new)) (sym after.seen) (reached_last (seen old) (record { of = worker; least = found }) worker (entered new) refl far)

  -- ---- a scan

  -- what a scan makes of what is held may be noted
  pub renews : (place : ℕ) (x given : code.Content) (worker : RoundWorker) (element : Element) (at : Stamp) → Has terms table place x worker → place < place_count terms
      → owner terms place ≡ worker_of worker.hand → pending (shown_content x) ≡ Some element → element.stamp.epoch < worker.clock.at.epoch → at ≡ worker.clock.at
      → shown_content given ≡ scanned (worker_of worker.hand) (shown_content x) worker.clock → (IsPastEnd (shown_content x) worker.clock → ⊥)
      → MayNote terms worker.hand place (clock_at terms at) None given
  renews place x given worker element at has there own is before same_at makes within =
      let going = has.of.going has.going in
      let told : clock_at terms at ≡ worker.clock = clock_told terms worker.clock at (entries worker.hand) (entered worker.hand) going.behind same_at in
      let found : shown_content (content worker.hand) ≡ shown_content x = ap (λ (c : code.Content). shown_content c) has.content_is in
      may_scan terms worker.hand place (clock_at terms at) given going.going
      (subst (IsClockBehind terms (entries worker.hand) (entered worker.hand)) (sym told) going.behind) there own has.of.known
      (subst (λ (t : ℕ × Content). IsStale t.0 t.1) (λ i. ((sym told i).at.epoch, sym found i)) (stale_so (shown_content x) element worker.clock.at.epoch is before))
      (makes ∙ (λ i. scanned (worker_of worker.hand) (sym found i) (sym told i)))
      (λ past. within (subst (λ (t : Content × Reading). IsPastEnd t.0 t.1) (λ i. (found i, told i)) past))

  -- and then the worker goes on from the clock behind it
  pub renewed_on : (place : ℕ) (x given : code.Content) (old new : RoundWorker) (at : Stamp) → Has terms table place x old → at ≡ old.clock.at
      → IsFree table new.hand → Notes terms old.hand place (clock_at terms at) None given new.hand → new.entered ≡ old.entered → new.clock ≡ clock_after (shown_content x) old.clock
      → GoesOn terms table old new
  renewed_on place x given old new at has same_at free notes counted clock =
      let going = has.of.going has.going in
      let told : clock_at terms at ≡ old.clock = clock_told terms old.clock at (entries old.hand) (entered old.hand) going.behind same_at in
      let found : shown_content notes.entry.before ≡ shown_content x = ap (λ (c : code.Content). shown_content c) (notes.is.before_is ∙ has.content_is) in
      let from : notes.entry.clock ≡ old.clock = notes.is.clock_is ∙ told in
      let behind : IsClockBehind terms (entries old.hand ++ notes.entry ∷ []) (entered old.hand) notes.entry.later =
      behind_more terms (entries old.hand) (entered old.hand) notes.entry notes.done.asked (subst (IsClockBehind terms (entries old.hand) (entered old.hand)) (sym from) going.behind) in
      let later : notes.entry.later ≡ new.clock =
      later_is terms notes.entry notes.entry.request notes.done.asked.work ∙ ((λ i. clock_after (found i) (from i)) ∙ sym clock) in
      record {
        is = record {
          free = free;
          of = record {
            counted = counted ∙ (has.of.counted ∙ sym (ap (λ (r : Row). r.entered) notes.after.row));
            known = subst (λ (n : ℕ). n < terms.workers) (sym notes.after.worker) has.of.known;
            started = has.of.started;
            going = λ _. record {
              going = ap (λ (r : Row). r.stop) notes.after.row ∙ going.going;
              behind = subst (λ (t : Row × Reading). IsClockBehind terms t.0.list t.0.entered t.1) (λ i. (sym notes.after.row i, later i)) behind;
            };
          };
        };
        stays = stays_after old new (row_with_entry (row_of old.hand) notes.entry) [] (given_back place given ∷ []) [] notes.after refl refl;
      }

  -- a worker that ended goes on no more
  pub ended_on : (old new : RoundWorker) (row : Row) (given : List Reached) → IsFree table new.hand → IsAfter old.hand new.hand row [] given [] → row.entered ≡ entered old.hand → row.done ≡ done old.hand
      → new.entered ≡ old.entered → (new.end ≡ Going → ⊥) → IsOf terms old → GoesOn terms table old new
  ended_on old new row given free after entered_is done_is counted end of = record {
    is = record {
      free = free;
      of = record {
        counted = counted ∙ (of.counted ∙ sym (ap (λ (r : Row). r.entered) after.row ∙ entered_is));
        known = subst (λ (n : ℕ). n < terms.workers) (sym after.worker) of.known;
        started = of.started;
        going = λ goes. absurd (end goes);
      };
    };
    stays = stays_after old new row [] given [] after entered_is done_is;
  }

-- one call and then another
pub after_then : (a b c : Hand) (row : Row) (given : List Reached) → IsAfter a b row [] [] [] → IsAfter b c (row_of b) [] given [] → IsAfter a c row [] given []
after_then a b c row given one two = record {
  worker = two.worker ∙ one.worker;
  row = two.row ∙ one.row;
  losses = two.losses ∙ (ap (λ (ls : List Loss). ls ++ []) one.losses ∙ append-nil _);
  left = two.left ∙ ap (λ (xs : List Reached). xs ++ given) (one.left ∙ append-nil _);
  seen = two.seen ∙ (ap (λ (xs : List Reached). xs ++ []) one.seen ∙ append-nil _);
}

pub no_stopped : Stopped ≡ Going → ⊥
no_stopped is = cc

pub no_warned : Warned ≡ Going → ⊥
no_warned is = cc

pub no_stuck : Stuck ≡ Going → ⊥
no_stuck is = cc

module _ (terms : Terms) (table : TableId) where
  pub then_on : (a b c : RoundWorker) → GoesOn terms table a b → GoesOn terms table b c → GoesOn terms table a c
  then_on a b c one two = record { is = two.is; stays = stays_then a b c one.stays two.stays }

  pub taken_back : (place : ℕ) (x : code.Content) (a b new : RoundWorker) → HasTaken terms table place x a b → IsFree table new.hand
      → IsAfter b.hand new.hand (row_of b.hand) [] (given_back place x ∷ []) [] → new.entered ≡ b.entered → new.clock ≡ b.clock → GoesOn terms table a new
  taken_back place x a b new taken free after counted clock = record {
    is = record { free = free; of = of_same terms b new counted clock (λ goes. taken.going) after.worker after.row taken.of };
    stays = stays_then a b new taken.stays (stays_after b new (row_of b.hand) [] (given_back place x ∷ []) [] after refl refl);
  }

  pub works_on : (a b : RoundWorker) → GoesOn terms table a b → Works terms table a b
  works_on a b goes = record { is = goes.is; worker = goes.stays.worker }

  pub free_seated : (hand : Hand) → IsFree table hand → IsSeated table hand
  free_seated hand free = record { has = Idle; out = []; sits = free }

  -- it entered an epoch more, and its clock turned
  pub entered_on : (a b : RoundWorker) (h1 h2 : Hand) (new : RoundWorker) → GoesOn terms table a b → b.end ≡ Going → KeepsSeat table b.hand h1 → IsAfter b.hand h1 (row_of b.hand) [] [] []
      → KeepsSeat table h1 h2 → IsAfter h1 h2 (row_with_epoch (row_of h1)) [] [] [] → suc (entered h1) ≤ terms.more → new.hand ≡ h2 → new.entered ≡ b.entered + 1
      → new.clock ≡ record (b.clock) { at = record { epoch = b.clock.at.epoch + 1; counter = 0 } } → Works terms table a new
  entered_on a b h1 h2 new goes still keeps1 after1 keeps2 after2 more same counted clock =
      let going = goes.is.of.going still in
      let row1 : row_of h1 ≡ row_of b.hand = after1.row in
      let row : row_of new.hand ≡ row_with_epoch (row_of b.hand) = ap (λ (h : Hand). row_of h) same ∙ (after2.row ∙ ap (λ (r : Row). row_with_epoch r) row1) in
      let worker : worker_of new.hand ≡ worker_of b.hand = ap (λ (h : Hand). worker_of h) same ∙ (after2.worker ∙ after1.worker) in
      let next : IsClockBehind terms (entries b.hand) (suc (entered b.hand)) (record (b.clock) { at = record { epoch = b.clock.at.epoch + 1; counter = 0 } }) =
      behind_entered terms (entries b.hand) (entered b.hand) b.clock (subst (λ (r : Row). suc r.entered ≤ terms.more) row1 more) going.behind in
      record {
        is = record {
          free = subst (IsFree table) (sym same) (keeps2 Idle [] (keeps1 Idle [] goes.is.free));
          of = record {
            counted = let up = ap (λ (r : Row). r.entered) row in let was = goes.is.of.counted in omega (arith, counted, up, was);
            known = subst (λ (n : ℕ). n < terms.workers) (sym worker) goes.is.of.known;
            started = goes.is.of.started;
            going = λ _. record {
              going = ap (λ (r : Row). r.stop) row ∙ going.going;
              behind = subst (λ (t : Row × Reading). IsClockBehind terms t.0.list t.0.entered t.1) (λ i. (sym row i, sym clock i)) next;
            };
          };
        };
        worker = worker ∙ goes.stays.worker;
      }

  -- it is through with its epoch
  pub finished_on : (a b new : RoundWorker) → IsWorkerOf terms table b → worker_of b.hand ≡ worker_of a.hand → KeepsSeat table b.hand new.hand
      → IsAfter b.hand new.hand (row_with_done (row_of b.hand)) [] [] [] → new.entered ≡ b.entered → new.clock ≡ b.clock → new.end ≡ b.end → Works terms table a new
  finished_on a b new is worker keeps after counted clock end = record {
    is = record {
      free = keeps Idle [] is.free;
      of = record {
        counted = counted ∙ (is.of.counted ∙ sym (ap (λ (r : Row). r.entered) after.row));
        known = subst (λ (n : ℕ). n < terms.workers) (sym after.worker) is.of.known;
        started = is.of.started;
        going = λ goes. let was = is.of.going (sym end ∙ goes) in record {
          going = ap (λ (r : Row). r.stop) after.row ∙ was.going;
          behind = subst (λ (t : Row × Reading). IsClockBehind terms t.0.list t.0.entered t.1) (λ i. (sym after.row i, sym clock i)) was.behind;
        };
      };
    };
    worker = after.worker ∙ worker;
  }
