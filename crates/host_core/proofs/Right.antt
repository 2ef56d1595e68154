-- What holds of the books behind every list of enabled events: each account is right, each shard mirrors, and no clock is
-- more than one epoch past a pending element, in a phase, in the round of a rolling host, and in a close.
use Rattle.std.proofs.Common.{◌≡◌, ◌⊎◌, ℕ, suc, ◌+◌, ◌<◌, ◌≤◌, ◌%◌, Bool, true, false, List, length, if◌then◌else◌}
use Rattle.std.specs.List.{AllByRecursion}
use Rattle.record_text.specs.declared.element.Element.{Element}
use Rattle.host_core.specs.Host.{Host}
use Rattle.host_core.specs.Deeds.{pending_of, AreStamped}
use Rattle.host_core.proofs.Books.{Books, seats_at, account_at, epoch_in, scanned_in, AreMoved}
use Rattle.host_core.proofs.ScriptLemmas.{AreLeft}
use Rattle.host_core.proofs.AccountLemmas.{IsRightAccount}

-- the epoch of the pending elements of a shard, moved or not
abbrev pub epoch_at : ℕ → Bool → ℕ
epoch_at epoch moved = if moved then suc epoch else epoch

-- a clock in a round: from the lowest epoch of its worker's shards, which is at most one before the newest, up to the newest
pub record IsRoundClock (first low top epoch : ℕ) : Type 0 where
  pub from_first : first ≤ low
  pub from : low ≤ epoch
  pub up_to : epoch ≤ top
  pub near : top ≤ suc low

module _ {C R : Type 0} (host : Host C R) where
  -- The lowest epoch of what waits in a worker's shards in a round, and the newest that may be entered: of a host that is not
  -- rolling both are the phase's.
  abbrev pub low_in : Books C → ℕ → ℕ
  low_in books i = if host.rolling then scanned_in host books i else epoch_in host books

  abbrev pub top_in : Books C → ℕ
  top_in books = if host.rolling then books.newest else epoch_in host books

  -- an element that waits between two epochs
  abbrev pub IsWaiting : ℕ → ℕ → Element → Type 0
  IsWaiting low top element = (element.verifier < host.header.verifiers) × (low ≤ element.stamp.epoch) × (element.stamp.epoch ≤ top)

  -- within a round
  pub record IsInside (books : Books C) : Type 0 where
    pub within : top_in books ≤ epoch_in host books
    pub clocks : (i : ℕ) → i < length books.accounts
        → IsRoundClock host.header.first (low_in books i) (top_in books) (account_at host books i).clock.at.epoch
    pub waits : (s : ℕ) → s < length books.shards
        → AllByRecursion (IsWaiting (low_in books (s % length books.accounts)) (top_in books)) (pending_of host (seats_at books s).contents)
    pub still : (s : ℕ) → s < length books.shards → (seats_at books s).moved ≡ false

  -- no clock is past the epoch behind the phase's
  abbrev pub AreNotPast : Books C → Type 0
  AreNotPast books = (i : ℕ) → i < length books.accounts → (account_at host books i).clock.at.epoch ≤ epoch_in host books + 1

  -- within a close
  pub record IsClosing (books : Books C) : Type 0 where
    pub clocks : (i : ℕ) → i < length books.accounts
        → (epoch_in host books ≤ (account_at host books i).clock.at.epoch) × ((account_at host books i).clock.at.epoch ≤ epoch_in host books + 2)
    pub stamped : (s : ℕ) → s < length books.shards → AreStamped host (epoch_at (epoch_in host books) (seats_at books s).moved) (seats_at books s).contents
    pub past : AreMoved host books ⊎ AreNotPast books

module _ {C R : Type 0} (mirrors : ℕ → List C → Type 0) (host : Host C R) where
  pub record IsRight (books : Books C) : Type 0 where
    pub known : length books.accounts ≡ host.header.verifiers
    pub marked : length books.scanned ≡ length books.accounts
    pub each : (i : ℕ) → i < length books.accounts → IsRightAccount host i (account_at host books i)
    pub left : AreLeft host books
    pub last : host.rolling ≡ true → length host.script ≤ suc books.phase
    pub mirrored : (s : ℕ) → s < length books.shards → mirrors s (seats_at books s).contents
    pub inside : books.closing ≡ false → IsInside host books
    pub closed : books.closing ≡ true → IsClosing host books
