-- A worker that takes places, scans its own, and waits for others.
use Rattle.std.specs.Prelude.{◌≡◌, ◌⊎◌, ℕ, ◌+◌, ◌/◌, ◌%◌, ◌<◌, ◌≤◌}
use Rattle.atomic_table.specs.Seated.{TableId}
use Rattle.host_shard.specs.declared.content.Content.{Content}
use Rattle.host_shard.specs.declared.content.Content.TheVariants.{Vacant}
use Rattle.host_shard.specs.Content as shown
use Rattle.host_epochs.specs.declared.hand.Hand.{Hand}
use Rattle.host_epochs.specs.Calls.{HasReached}
use Rattle.host_epochs.specs.Hands.{worker_of, row_of, entered, done, left, seen, content, history, Holds}
use Rattle.host_epochs.specs.Terms.{Terms, IsNear, IsUpToDate, first_at, first_epoch, owner, place_count, places_each}
use Rattle.host_epochs.specs.Told.{Leads}
use Rattle.host_epochs.specs.declared.views.Row.{Row}
use Rattle.table_order.specs.Rounds.{turns_of}
use Rattle.round_workers.specs.Order.{epoch_behind, MayScan, NoneMay}

-- ---- what is taken

-- nothing more was told or noted than which places were found held
pub record HasWaited (old new : Hand) : Type 0 where
  pub worker : worker_of new ≡ worker_of old
  pub row : row_of new ≡ row_of old
  pub left : left new ≡ left old
  pub seen : seen new ≡ seen old

-- It holds a place, and took this content from it.
pub record HasTaken (terms : Terms) (table : TableId) (hand : Hand) (place : ℕ) (taken : Content) : Type 0 where
  pub there : place < place_count terms
  pub holds : Holds table hand place
  pub content_is : content hand ≡ taken
  pub leads : Leads terms place (first_at terms place) (history hand) taken
  pub near : IsNear terms (entered hand) (done hand) taken
  pub kept : IsUpToDate terms place (worker_of hand) (entered hand) (done hand) taken

-- it waits with an element of a later epoch
abbrev pub IsNewer : ℕ → shown.Content → Type 0
IsNewer epoch (shown.cold shard) = epoch < shard.stamp.epoch
IsNewer epoch (shown.hot record') = epoch < record'.stamp.epoch
IsNewer epoch shown.vacant = ⊥

-- ---- what may be scanned

-- from this shard on the worker may scan in the epoch that it entered last
abbrev pub ScansFrom : Terms → Row → ℕ → Type 0
ScansFrom terms row from =
    (shard : ℕ) → from ≤ shard → MayScan (first_epoch terms + row.entered) (first_epoch terms) NoneMay (turns_of row.list) shard

-- so it may at this place, which is the first of its shard
abbrev pub ScansAt : Terms → Row → ℕ → Type 0
ScansAt terms row place = (place % places_each ≡ 0) × ScansFrom terms row (place / places_each)

-- it has done nothing yet in that epoch
abbrev pub HasOpened : Terms → Row → Type 0
HasOpened terms row = epoch_behind (first_epoch terms) (turns_of row.list) < first_epoch terms + row.entered

-- ---- what is noted

abbrev pub KeepsLeft : Hand → Hand → Type 0
KeepsLeft old new = (of least : ℕ) → HasReached (left old) of least → HasReached (left new) of least

abbrev pub KeepsSeen : Hand → Hand → Type 0
KeepsSeen old new = (of least : ℕ) → HasReached (seen old) of least → HasReached (seen new) of least

-- It stands in the same epoch and is through with as many, and nothing that it noted is forgotten.
pub record StandsAs (old new : Hand) : Type 0 where
  pub worker : worker_of new ≡ worker_of old
  pub entered : entered new ≡ entered old
  pub done : done new ≡ done old
  pub left : KeepsLeft old new
  pub seen : KeepsSeen old new

-- a place was given back with an element of the worker's epoch, or was vacant at the making
abbrev pub IsRenewed : Terms → Hand → ℕ → Type 0
IsRenewed terms hand place = (first_at terms place ≡ Vacant) ⊎ HasReached (left hand) place (first_epoch terms + entered hand)

-- so were the worker's own below a number
abbrev pub AreRenewed : Terms → Hand → ℕ → Type 0
AreRenewed terms hand below =
    (place : ℕ) → place < below → place < place_count terms → owner terms place ≡ worker_of hand → IsRenewed terms hand place

-- the workers below a number were found to be through with the worker's epoch
abbrev pub AreSeen : Hand → ℕ → Type 0
AreSeen hand below = (worker : ℕ) → worker < below → HasReached (seen hand) worker (entered hand)
