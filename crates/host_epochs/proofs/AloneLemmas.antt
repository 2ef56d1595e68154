-- What a worker finds at a place of its own, and what one finds that is alone at the table.
use Rattle.std.proofs.Common.{◌≡◌, ℕ, zero, suc, ◌+◌, ◌<◌, ◌≤◌, List, [], ◌∷◌, ◌++◌, ap, sym, subst, arith, All}
use Rattle.std.specs.List.{AllByRecursion}
use Rattle.std.proofs.lemmas.List.Sorted.{All-permutation}
use mathlib.Core.Logic.{dite}
use native.Mathlib.Decide.{ℕ_discrete}
use Rattle.lamport_clocks.specs.Reading.{Reading}
use Rattle.atomic_table.specs.Table.{State}
use Rattle.host_shard.specs.declared.content.Content.{Content}
use Rattle.host_shard.specs.Shown.{shown_content}
use Rattle.host_epochs.specs.declared.told.Entry.{Entry}
use Rattle.host_epochs.specs.declared.views.View.{View}
use Rattle.host_epochs.specs.Rule.{IsKept}
use Rattle.host_epochs.specs.Terms.{Terms, IsMaking, IsUpToDate, Waits, first_at, first_epoch, owner, place_count}
use Rattle.host_epochs.specs.Told.{IsDone, IsListOf, Continues, Leads, joined_from}
use Rattle.host_epochs.specs.Words.{newest_in}
use Rattle.host_epochs.proofs.ClockLaws.{goes_up}
use Rattle.host_epochs.proofs.ToldLemmas.{all_map}
use Rattle.host_epochs.proofs.WaitLemmas.{stamped_waits, waits_map}
use Rattle.host_epochs.proofs.WorkLaws.{later_epoch, work_waits}

-- ---- what all entries of joined lists are

all_front : (P : Entry → Type 0) (xs ys : List Entry) → AllByRecursion P (xs ++ ys) → AllByRecursion P xs
all_front P [] ys all = tt
all_front P (x ∷ xs) ys all = (all.0, all_front P xs ys all.1)

all_back : (P : Entry → Type 0) (xs ys : List Entry) → AllByRecursion P (xs ++ ys) → AllByRecursion P ys
all_back P [] ys all = all
all_back P (x ∷ xs) ys all = all_back P xs ys all.1

all_both : (P : Entry → Type 0) (xs ys : List Entry) → AllByRecursion P xs → AllByRecursion P ys → AllByRecursion P (xs ++ ys)
all_both P [] ys front back = back
all_both P (x ∷ xs) ys front back = (front.0, all_both P xs ys front.1 back)

all_joined : (P : Entry → Type 0) (number count : ℕ) (f : ℕ → List Entry) (i : ℕ) → number ≤ i → i < number + count → AllByRecursion P (joined_from number count f)
    → AllByRecursion P (f i)
all_joined P number zero f i from below all = absurd (omega (arith, from, below))
all_joined P number (suc count) f i from below all = dite (ℕ_discrete number i)
    (λ same. subst (λ (n : ℕ). AllByRecursion P (f n)) same (all_front P (f number) (joined_from (suc number) count f) all))
    (λ other. all_joined P (suc number) count f i (omega (arith, from, other)) (omega (arith, below)) (all_back P (f number) (joined_from (suc number) count f) all))

all_at : (P : Entry → Type 0) (xs : List Entry) → AllByRecursion P xs → All P xs
all_at P [] all i d below = absurd (omega (arith, below))
all_at P (x ∷ xs) all zero d below = all.0
all_at P (x ∷ xs) all (suc i) d below = all_at P xs all.1 i d (omega (arith, below))

all_of : (P : Entry → Type 0) (xs : List Entry) → All P xs → AllByRecursion P xs
all_of P [] all = tt
all_of P (x ∷ xs) all = (all 0 x (omega arith), all_of P xs (λ i d below. all (suc i) d (omega (arith, below))))

-- ---- the epochs of a worker's list

module _ (terms : Terms) where
  -- no entry is behind the last clock
  record Rises (clock last : Reading) (entries : List Entry) : Type 0 where
    pub first : clock.at.epoch ≤ last.at.epoch
    pub each : AllByRecursion (λ entry. entry.clock.at.epoch ≤ last.at.epoch) entries

  continues_rises : (clock last : Reading) (entries : List Entry) → Continues clock entries last → AllByRecursion (IsDone terms) entries → Rises clock last entries
  continues_rises clock last [] goes done = record { first = goes_up clock last goes; each = tt }
  continues_rises clock last (entry ∷ entries) goes done =
      let rest = continues_rises entry.later last entries goes.1 done.1 in
      let to = rest.first in
      let stays = later_epoch terms entry done.0.asked in
      let up = goes_up clock entry.clock goes.0 in
      record { first = omega (arith, up, stays, to); each = (omega (arith, stays, to), rest.each) }

  list_to : (worker : ℕ) (entries : List Entry) (entered : ℕ) → IsListOf terms worker entries entered
      → AllByRecursion (λ entry. entry.clock.at.epoch ≤ first_epoch terms + entered) entries
  list_to worker [] entered list = tt
  list_to worker (entry ∷ entries) entered list =
      let rest = continues_rises entry.later list.last entries list.behind.chained list.done.1 in
      let to = rest.first in
      let stays = later_epoch terms entry list.done.0.asked in
      let here = list.behind.epoch in
      let last : ℕ = list.last.at.epoch in (
        omega (arith, stays, to, here),
        all_map (λ (e : Entry). e.clock.at.epoch ≤ last) (λ (e : Entry). e.clock.at.epoch ≤ first_epoch terms + entered) entries
            (λ e below. omega (arith, below, here)) rest.each,
      )

  -- what a history makes is of none behind, where its entries are of none and what it began with
  leads_to_epoch : (high place : ℕ) (x : Content) (entries : List Entry) (y : Content) → Waits (λ epoch. epoch ≤ high) (shown_content x)
      → AllByRecursion (λ entry. entry.clock.at.epoch ≤ high) entries → Leads terms place x entries y → Waits (λ epoch. epoch ≤ high) (shown_content y)
  leads_to_epoch high place x [] y waits each leads = subst (Waits (λ epoch. epoch ≤ high)) (sym leads) waits
  leads_to_epoch high place x (entry ∷ entries) y waits each leads =
      let low = each.0 in
      leads_to_epoch high place entry.after entries y
      (waits_map (λ epoch. epoch ≡ entry.clock.at.epoch) (λ epoch. epoch ≤ high) (shown_content entry.after) (λ epoch same. omega (arith, same, low))
      (work_waits terms entry entry.request leads.2.asked.work))
      each.1 leads.3

  module _ (making : IsMaking terms.header terms.workers terms.contents) (s : State Content View) (r : IsKept terms s) where
    -- where there is one worker, all entries are its own
    alone_to : (place : ℕ) → place < place_count terms → terms.workers ≡ 1
        → Waits (λ epoch. epoch ≤ first_epoch terms + (r.scene.row 0).entered) (shown_content (r.scene.now place))
    alone_to place there alone =
        let high : ℕ = first_epoch terms + (r.scene.row 0).entered in
        let P : Entry → Type 0 = (λ (entry : Entry). entry.clock.at.epoch ≤ high) in
        let lists : ℕ → List Entry = (λ (worker : ℕ). (r.scene.row worker).list) in
        let own : AllByRecursion P (r.scene.row 0).list = list_to 0 (r.scene.row 0).list (r.scene.row 0).entered (r.workers 0 (omega (arith, alone))).own in
        let joined : AllByRecursion P (joined_from 0 terms.workers lists) =
        subst (λ (n : ℕ). AllByRecursion P (joined_from 0 n lists)) (sym alone) (all_both P (r.scene.row 0).list [] own tt) in
        let pasts : AllByRecursion P (joined_from 0 (place_count terms) r.scene.past) =
        all_of P (joined_from 0 (place_count terms) r.scene.past)
        (All-permutation P (joined_from 0 terms.workers lists) (joined_from 0 (place_count terms) r.scene.past) r.even (all_at P (joined_from 0 terms.workers lists) joined)) in
        leads_to_epoch high place (first_at terms place) (r.scene.past place) (r.scene.now place)
        (waits_map (λ epoch. (first_epoch terms + 0 ≤ epoch) × (epoch ≤ first_epoch terms + 0)) (λ epoch. epoch ≤ high) (shown_content (first_at terms place))
        (λ epoch is. let to = is.1 in omega (arith, to))
        (stamped_waits terms.header (first_epoch terms) (shown_content (first_at terms place)) (making.stamped place there)))
        (all_joined P 0 (place_count terms) r.scene.past place (omega arith) (omega (arith, there)) pasts)
        (r.places place there).leads

    -- what a worker finds is up to date
    pub up_to_date_now : (worker place : ℕ) → worker < terms.workers → place < place_count terms
        → IsUpToDate terms place worker (r.scene.row worker).entered (r.scene.row worker).done (r.scene.now place)
    up_to_date_now worker place known there = record {
      own = λ own. waits_map
          (λ epoch. (first_epoch terms + (r.scene.row (owner terms place)).done ≤ epoch) × (epoch ≤ first_epoch terms + newest_in terms s.words))
          (λ epoch. first_epoch terms + (r.scene.row worker).done ≤ epoch)
          (shown_content (r.scene.now place))
          (λ epoch is. let from = is.0 in let same = ap (λ (x : ℕ). (r.scene.row x).done) own in omega (arith, from, same))
          (r.places place there).epochs;
      alone = λ alone.
          let first : 0 ≡ worker = omega (arith, alone, known) in
          subst (λ (x : ℕ). Waits (λ epoch. epoch ≤ first_epoch terms + (r.scene.row x).entered) (shown_content (r.scene.now place))) first (alone_to place there alone);
    }
