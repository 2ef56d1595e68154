-- What the shipped host promises.
use Rattle.std.specs.Prelude.{◌≡◌, ◌≤◌, true, false, List}
use Rattle.record_hash.specs.Functions.{DigestFunctions}
use Rattle.merkle_records.specs.Merkle.{GivesDigests}
use Rattle.script_text.specs.declared.task.Task.{Task}
use Rattle.host_core.specs.Host.{Host}
use Rattle.host_core.specs.World.{World}
use Rattle.host_core.specs.Core.{AreAccepted, AreAnswered, AreAnsweredInTime, IsDone, IsRoundDone, IsEven, IsInPhase, IsInRound, IsLevelBehindRound, IsBehindClose, AreSealed, SealedArePermuted, AllCertified, IsWhole}
use Rattle.host_core.specs.Clear.{HasNothingToShow, IsServedSerially}
use Rattle.shipped_host.specs.declared.settings.Settings.{Settings}
use Rattle.shipped_host.specs.Ranges.{AreInRange}
use Rattle.shipped_host.specs.Settings.{IsSettings}

-- What is asked of what a host is given: numbers in their ranges, a counter for each shard at the setup, keys in range, and
-- digests of 32 bytes.
pub record CanRun (functions : DigestFunctions) (settings : Settings) (script : List (List Task)) : Type 0 where
  pub in_range : IsSettings settings
  pub counters : settings.shards ≤ settings.header.end
  pub keys : AreInRange settings.header script
  pub digests : GivesDigests functions.digest

-- What holds of a world of the host. No verifier refuses a command; what is answered is the front of what the script asks, each in
-- the epoch of its phase, and all of it at the end, where no clock ended; what was evicted was added or waits, each pending element
-- is of the epoch, each epoch that all have sealed is certified, and behind a last close those of all phases are; an audit has
-- nothing to show, and the certified answers are serial. Of a rolling host an answer is in its phase's epoch or in a later one, all
-- is answered behind the round, in the round each pending element is of the newest epoch or of the one before, and where the round
-- is over each is of the last phase's.
pub record IsPromised {C R : Type 0} (host : Host C R) (world : World C) : Type 0 where
  pub accepted : AreAccepted host world
  pub answered : host.rolling ≡ false → AreAnswered host world
  pub in_time : AreAnsweredInTime host world
  pub done : host.rolling ≡ false → IsDone host world
  pub round_done : host.rolling ≡ true → IsRoundDone host world
  pub even : IsEven host world
  pub in_phase : host.rolling ≡ false → IsInPhase host world
  pub in_round : host.rolling ≡ true → IsInRound host world
  pub level : IsLevelBehindRound host world
  pub behind_close : IsBehindClose host world
  pub sealed : AreSealed host world
  pub permuted : SealedArePermuted host world
  pub certified : AllCertified host world
  pub whole : IsWhole host world
  pub nothing_to_show : HasNothingToShow host world
  pub serially : IsServedSerially host world
