-- Workers in their threads.
use Rattle.std.specs.Prelude.{◌≡◌, ℕ, ◌<◌, ◌≤◌, Bool, false, List, length, slice_index_or, All, None}
use Rattle.lamport_clocks.specs.Reading.{Reading}
use Rattle.merkle_records.specs.Merkle.{Digest}
use Rattle.atomic_table.specs.Seated.{TableId}
use Rattle.host_epochs.specs.declared.hand.Hand.{Hand}
use Rattle.host_table.specs.Terms.{Terms, IsClockOf, place_count}
use Rattle.host_table.specs.Told.{TakesUp}
use Rattle.host_table.specs.Hands.{worker_of, services, stop, IsFree}
use Rattle.table_tests.specs.Ready.{AreReady}
use Rattle.table_tests.specs.declared.turns.Turn.{Turn}

-- the worker holds no place, its clock is the one that its last service left, and it goes on as long as its clock didn't end
pub record IsTurn (terms : Terms) (table : TableId) (turn : Turn) : Type 0 where
  pub free : IsFree table turn.hand
  pub clock : IsClockOf terms turn.clock
  pub chained : TakesUp (services turn.hand) turn.clock
  pub going : turn.ended ≡ false → stop turn.hand ≡ None

-- the same worker, and it is its turn still
pub record Works (terms : Terms) (table : TableId) (old new : Turn) : Type 0 where
  pub turn : IsTurn terms table new
  pub worker : worker_of new.hand ≡ worker_of old.hand

-- all workers, in the order of their numbers
pub record AreTurns (terms : Terms) (table : TableId) (turns : List Turn) : Type 0 where
  pub each : All (IsTurn terms table) turns
  pub numbers : (i : ℕ) (d : Turn) → i < length turns → worker_of (slice_index_or turns i d).hand ≡ i

-- what a worker asks of its turn
pub record CanWork (digest : Digest) (terms : Terms) (table : TableId) (bits : ℕ) (frontiers : List (List Bool)) (turn : Turn) : Type 0 where
  pub digests : digest ≡ terms.digest
  pub few : (0 < bits) × (bits ≤ 6)
  pub ready : AreReady frontiers terms.contents
  pub some : 0 < length frontiers
  pub turn_is : IsTurn terms table turn

abbrev pub hand_of : Turn → Hand
hand_of turn = turn.hand

-- a worker at its start
pub record IsAtStart (clock : Reading) (turn : Turn) : Type 0 where
  pub at : turn.clock ≡ clock
  pub going : turn.ended ≡ false

pub record CanPass (terms : Terms) (table : TableId) (places : ℕ) (turn : Turn) : Type 0 where
  pub some : 0 < places
  pub few : places ≤ place_count terms
  pub turn_is : IsTurn terms table turn
