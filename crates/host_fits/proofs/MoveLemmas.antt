-- A move is what the host does for a shard at a close.
use Rattle.std.proofs.Common.{◌≡◌, ℕ, ◌<◌, List, Some, None}
use Rattle.std.specs.Prelude.{IfSome}
use Rattle.record_hash.specs.Functions.{DigestFunctions}
use Rattle.record_text.specs.Longest.{longest_of}
use Rattle.log_codec.specs.declared.command.Command.{Command}
use Rattle.merkle_records.specs.Merkle.{GivesDigests}
use Rattle.script_text.specs.declared.task.Task.{Task}
use Rattle.protection_moves.specs.Stage.{Stage}
use Rattle.protection_moves.specs.Move.{IsMove, IsPastEnd}
use Rattle.move_laws.specs.Stages.{StageMirrors}
use Rattle.shipped_host.specs.declared.settings.Settings.{Settings}
use Rattle.shipped_host.specs.Moving.{seats_of}
use Rattle.shipped_host.specs.ShippedHost.{shipped_host}
use Rattle.shipped_host.proofs.DescentLaws.{move_is_done, move_past}

module _ (functions : DigestFunctions) (settings : Settings) (script : List (List Task)) (worker s : ℕ) where
  pub move_done : (old new : Stage) (commands : List Command) → GivesDigests functions.digest → IfSome settings.hot (λ least. 0 < least)
      → StageMirrors (longest_of settings.header) functions.digest old
      → IsMove functions.digest worker settings.hot old commands new → (IsPastEnd settings.hot old → ⊥)
      → (shipped_host functions settings script).move worker old.clock s (seats_of old) ≡ Some (record { commands = commands; after = seats_of new; clock = new.clock })
  move_done old new commands digests some mirrors is within =
      move_is_done (longest_of settings.header) functions.digest worker settings.hot old digests some mirrors new commands within is

  pub move_ended : (old : Stage) → GivesDigests functions.digest → IfSome settings.hot (λ least. 0 < least)
      → StageMirrors (longest_of settings.header) functions.digest old → IsPastEnd settings.hot old
      → (shipped_host functions settings script).move worker old.clock s (seats_of old) ≡ None
  move_ended old digests some mirrors past =
      move_past (longest_of settings.header) functions.digest worker settings.hot old digests some mirrors past
