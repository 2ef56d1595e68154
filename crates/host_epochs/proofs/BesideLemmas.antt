-- The words beside those of the places, and the owners of places, over a step that changes no other word than a place's.
use Rattle.std.proofs.Common.{◌≡◌, ◌≢◌, ℕ, zero, suc, ◌+◌, ◌/◌, ◌<◌, ◌≤◌, List, set, slice_index, get_or-set_other, sym, subst, arith}
use Rattle.std.proofs.Math.Nat.{mod-lt}
use Rattle.lamport_clocks.specs.Clock.{last_epoch}
use Rattle.atomic_table.specs.Table.{State}
use Rattle.host_shard.specs.declared.content.Content.{Content}
use Rattle.host_shard.specs.Shown.{shown_content}
use Rattle.host_epochs.specs.declared.told.Entry.{Entry}
use Rattle.host_epochs.specs.declared.views.Row.{Row}
use Rattle.host_epochs.specs.declared.views.View.{View}
use Rattle.host_epochs.specs.Rule.{Scene, IsInEpochs, IsWorkerKept, HasStopped, IsKept}
use Rattle.host_epochs.specs.Terms.{Terms, IsNear, Waits, IsWithin, first_at, first_epoch, place_count, places_each, owner}
use Rattle.host_epochs.specs.Told.{IsHad}
use Rattle.host_epochs.specs.Words.{newest_in, stop_in, done_in, newest_at, stop_at, done_at}
use Rattle.host_epochs.proofs.StepLemmas.{worker_still}
use Rattle.host_epochs.proofs.WaitLemmas.{waits_map}

pub owner_known : (terms : Terms) (worker place : ℕ) → worker < terms.workers → owner terms place < terms.workers
owner_known terms worker place known = mod-lt (place / places_each) (let some : 0 < terms.workers = omega (arith, known) in some)

-- the words beside the places' are as before
abbrev pub IsBeside : Terms → List ℕ → List ℕ → Type 0
IsBeside terms words words' = (q : ℕ) → place_count terms ≤ q → slice_index words' q ≡ slice_index words q

pub beside_set : (terms : Terms) (words : List ℕ) (p n : ℕ) → p < place_count terms → IsBeside terms words (set words p n)
beside_set terms words p n there q from = get_or-set_other words p q n 0 (λ e. absurd (omega (arith, e, there, from)))

module _ (terms : Terms) (s : State Content View) (r : IsKept terms s) (words' : List ℕ) (beside : IsBeside terms s.words words') where
  newest_same : newest_in terms words' ≡ newest_in terms s.words
  newest_same = beside (newest_at terms) (omega arith)

  stop_same : stop_in terms words' ≡ stop_in terms s.words
  stop_same = beside (stop_at terms) (omega arith)

  done_same : (worker : ℕ) → done_in terms words' worker ≡ done_in terms s.words worker
  done_same worker = beside (done_at terms worker) (omega arith)

  -- a worker that the step leaves as it was
  pub worker_beside : (past past' : ℕ → List Entry) → ((q : ℕ) (had : Content) → IsHad (first_at terms q) (past q) had → IsHad (first_at terms q) (past' q) had)
      → (worker : ℕ) (row : Row) → IsWorkerKept terms past s.words worker row → IsWorkerKept terms past' words' worker row
  worker_beside past past' hads worker row kept =
      worker_still terms past past' hads s.words words' worker row (done_same worker) (omega (arith, newest_same)) (omega (arith, newest_same, kept.newest))
      (λ busy. subst (λ (n : ℕ). n ≢ 0) (sym stop_same) busy) kept

  -- a place that the step leaves as it was
  pub epochs_beside : (c c' : Scene) (q : ℕ) → (c'.row (owner terms q)).done ≡ (c.row (owner terms q)).done → c'.now q ≡ c.now q
      → IsInEpochs terms c s.words q → IsInEpochs terms c' words' q
  epochs_beside c c' q done now is =
      subst (λ (t : ℕ × ℕ × Content). IsWithin (first_epoch terms + t.0) (first_epoch terms + t.1) t.2)
      (λ i. (sym done i, sym newest_same i, sym now i)) is

  pub more_beside : newest_in terms words' ≤ terms.more
  more_beside = omega (arith, newest_same, r.more)

  pub room_beside : 0 < newest_in terms words' → first_epoch terms + newest_in terms words' ≤ last_epoch
  room_beside = subst (λ (n : ℕ). 0 < n → first_epoch terms + n ≤ last_epoch) (sym newest_same) r.room

  pub stopped_beside : (row' : ℕ → Row) → (HasStopped terms r.scene.row → HasStopped terms row') → stop_in terms words' ≢ 0 → HasStopped terms row'
  stopped_beside row' still busy = still (r.stopped (subst (λ (n : ℕ). n ≢ 0) stop_same busy))

-- ---- what the words say of a place's element

-- it is near the epochs of each worker
pub near_now : (terms : Terms) (s : State Content View) (r : IsKept terms s) (worker p : ℕ) → worker < terms.workers → p < place_count terms
    → IsNear terms (r.scene.row worker).entered (r.scene.row worker).done (r.scene.now p)
near_now terms s r worker p known there =
    let mine = r.workers worker known in
    let its = r.workers (owner terms p) (owner_known terms worker p known) in
    waits_map
    (λ epoch. (first_epoch terms + (r.scene.row (owner terms p)).done ≤ epoch) × (epoch ≤ first_epoch terms + newest_in terms s.words))
    (λ epoch. (first_epoch terms ≤ epoch) × (first_epoch terms + (r.scene.row worker).entered ≤ suc epoch)
    × (epoch ≤ suc (first_epoch terms + (r.scene.row worker).done)) × (epoch ≤ first_epoch terms + terms.more))
    (shown_content (r.scene.now p))
    (λ epoch is. (omega (arith, is.0), omega (arith, is.0, mine.entered, its.newest), omega (arith, is.1, mine.newest), omega (arith, is.1, r.more)))
    (r.places p there).epochs
