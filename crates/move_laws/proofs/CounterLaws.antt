-- The counters of a move are counted by stamps alone.
use Rattle.std.proofs.Common.{◌≡◌, ℕ, List, [], ◌∷◌, map, Option, refl, ◌∙◌, ap}
use Rattle.lamport_clocks.specs.Reading.{Reading}
use Rattle.log_codec.specs.declared.command.Command.{Command}
use Rattle.merkle_records.specs.Merkle.{Digest}
use Rattle.host_shard.specs.declared.link.Link.{Link}
use Rattle.host_plan.specs.Moments.{giving}
use Rattle.protection_moves.specs.Stage.{Stage}
use Rattle.protection_moves.specs.Transfer.{Transfer, demotes, promotes, clock_by, clock_by_each, clock_needed}
use Rattle.protection_moves.specs.Descent.{Descent, done_by, done_by_each}
use Rattle.protection_moves.specs.Move.{begun, IsMove}

-- the clock once one transfer is done
clock_done : (digest : Digest) (worker : ℕ) (stage : Stage) (transfer : Transfer) (links : List Link)
    → (done_by digest worker stage transfer links).clock ≡ clock_by stage.clock transfer
clock_done digest worker stage (demotes found) links = refl
clock_done digest worker stage (promotes key) links = refl

-- and once they all are
clock_done_each : (digest : Digest) (worker : ℕ) (stage : Stage) (descents : List Descent)
    → (done_by_each digest worker stage descents).clock ≡ clock_by_each stage.clock (map (λ (descent : Descent). descent.transfer) descents)
clock_done_each digest worker stage [] = refl
clock_done_each digest worker stage (descent ∷ descents) =
    clock_done_each digest worker (done_by digest worker stage descent.transfer descent.links) descents
    ∙ ap (λ (clock : Reading). clock_by_each clock (map (λ (one : Descent). one.transfer) descents)) (clock_done digest worker stage descent.transfer descent.links)

-- The clock behind a move is the one that was counted.
pub move_clock : (digest : Digest) (worker : ℕ) (threshold : Option ℕ) (old new : Stage) (commands : List Command)
    → (is : IsMove digest worker threshold old commands new) → new.clock ≡ clock_needed old is.promotable
move_clock digest worker threshold old new commands is =
    ap (λ (stage : Stage). stage.clock) is.after
    ∙ (ap (λ (clock : Reading). giving clock) (clock_done_each digest worker (begun worker old) is.descents)
    ∙ ap (λ (transfers : List Transfer). giving (clock_by_each (begun worker old).clock transfers)) is.transfers)
