-- What certified epochs promise: their operations are serial, or the exhibit collides.
use Rattle.std.specs.Prelude.{◌≡◌, ◌⊎◌, ℕ, ◌+◌, ◌<◌, ◌≤◌, true, List, map}
use Rattle.lamport_clocks.specs.declared.header.Header.{Header}
use Rattle.record_text.specs.declared.exhibit.Exhibit.{Exhibit}
use Rattle.record_text.specs.declared.exhibit.Exhibit.TheVariants.{Clean}
use Rattle.record_text.specs.declared.operation.Operation.{Operation}
use Rattle.record_text.specs.Format.{LogFormat}
use Rattle.log_codec.specs.declared.log_command.LogCommand.{LogCommand}
use Rattle.log_codec.specs.Log.{read_log}
use Rattle.merkle_records.specs.Scheme.{Scheme}
use Rattle.stamp_order.specs.Serial.{IsSerial}
use Rattle.soundness.specs.History.{Event, histories_of}
use Rattle.soundness.specs.Certified.{is_balanced}
use Rattle.soundness.specs.Collision.{Collides}

-- each of so many epochs from one on is balanced
abbrev pub AreBalanced : Scheme → List Event → ℕ → ℕ → Type 0
AreBalanced scheme events first count =
    (epoch : ℕ) → first ≤ epoch → epoch < first + count → is_balanced scheme events epoch ≡ true

-- there is nothing to exhibit and the operations are serial, or the exhibit collides
abbrev pub IsSerialOrCollides : Scheme → Exhibit → List Operation → Type 0
IsSerialOrCollides scheme exhibit operations = ((exhibit ≡ Clean) × IsSerial operations) ⊎ Collides scheme exhibit

-- the commands of each log, of which these are the bytes
abbrev pub commands_of : LogFormat → List (List ℕ) → List (List LogCommand)
commands_of format logs = map (λ bytes. (read_log format bytes).commands) logs

-- the histories of logs of which these are the bytes, that of verifier 0 first
abbrev pub histories_read : Scheme → Header → List (List ℕ) → List (List Event)
histories_read scheme header logs = histories_of scheme header (commands_of scheme.format logs)
