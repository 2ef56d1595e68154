-- Transfers that are done one after another, as they are logged behind other commands.
use Rattle.std.specs.Prelude.{◌≡◌, ℕ, Bool, List, [], ◌∷◌, ◌++◌, map}
use Rattle.lamport_clocks.specs.Reading.{Reading}
use Rattle.record_text.specs.declared.element.Element.{Element}
use Rattle.log_codec.specs.declared.command.Command.{Command}
use Rattle.log_codec.specs.declared.command.Command.TheVariants.{AddB}
use Rattle.merkle_records.specs.Merkle.{Digest}
use Rattle.host_shard.specs.Shard.{Shard}
use Rattle.host_shard.specs.Content.{Content}
use Rattle.protection_moves.specs.Stage.{Stage}
use Rattle.protection_moves.specs.Transfer.{Transfer}
use Rattle.protection_moves.specs.Descent.{Descent, AreDescents, done_by_each, commands_by_each}

-- a shard with these touches, beside these places and this clock
abbrev pub stage_with : Shard → (List Bool → ℕ) → List Content → Reading → Stage
stage_with shard touches places clock = record { shard = record shard { touches = touches }; places = places; clock = clock }

-- the command that takes an element in
abbrev pub taking_in : Element → Command
taking_in element = AddB element.path element.value element.stamp element.verifier

-- Transfers from one stage to another: behind these commands theirs are logged, and then a last one.
pub record AreDone (digest : Digest) (worker : ℕ) (old : Stage) (asked : List Transfer) (before : List Command) (last : Command)
    (after : List Command) (new : Stage) : Type 0 where
  pub descents : List Descent
  pub transfers : map (λ descent. descent.transfer) descents ≡ asked
  pub ways : AreDescents digest worker old descents
  pub logged : after ≡ before ++ (commands_by_each digest worker old descents ++ last ∷ [])
  pub leaves : new ≡ done_by_each digest worker old descents
