-- Moving one shard at a close.
use Rattle.std.specs.Prelude.{◌≡◌, ℕ, ◌<◌, List, ◌++◌, Option, map}
use Rattle.log_codec.specs.declared.command.Command.{Command}
use Rattle.merkle_records.specs.Merkle.{Digest}
use Rattle.host_shard.specs.Shard.{pending_shard}
use Rattle.host_plan.specs.Moments.{taking, giving}
use Rattle.host_plan.specs.Visit.{between}
use Rattle.protection_moves.specs.Stage.{Stage, touched_in}
use Rattle.protection_moves.specs.Renewing.{renewed_places, renewing_each, renewing_commands}
use Rattle.protection_moves.specs.Transfer.{ArePromotable, transfers_of, clock_needed}
use Rattle.protection_moves.specs.Descent.{Descent, AreDescents, done_by_each, commands_by_each}

-- Once the touched hot records were renewed and the frontier is taken in. No touch is counted any more.
abbrev pub begun : ℕ → Stage → Stage
begun worker stage =
    let touched = touched_in stage.places in
    record {
      shard = record stage.shard { touches = λ k. 0 };
      places = renewed_places worker stage.clock stage.places touched;
      clock = taking (renewing_each stage.clock touched) stage.shard.stamp;
    }

-- once the frontier is handed out again
abbrev pub handed_out : ℕ → Stage → Stage
handed_out worker stage = record {
  shard = record stage.shard { stamp = (giving stage.clock).at; evictor = worker };
  places = stage.places;
  clock = giving stage.clock;
}

-- the stage behind a move with these descents
abbrev pub moved : Digest → ℕ → Stage → List Descent → Stage
moved digest worker stage descents = handed_out worker (done_by_each digest worker (begun worker stage) descents)

-- the commands of a move with these descents
abbrev pub move_commands : Digest → ℕ → Stage → List Descent → List Command
move_commands digest worker stage descents =
    renewing_commands stage.clock (touched_in stage.places)
    ++ between (pending_shard stage.shard) (moved digest worker stage descents).clock.at
    (commands_by_each digest worker (begun worker stage) descents)

-- The move of a shard by this worker, for some threshold: its commands, and the stage that it leaves.
pub record IsMove (digest : Digest) (worker : ℕ) (threshold : Option ℕ) (old : Stage) (logged : List Command) (new : Stage) : Type 0 where
  pub promotable : List ℕ
  pub are_promotable : ArePromotable old threshold promotable
  pub descents : List Descent
  pub transfers : map (λ descent. descent.transfer) descents ≡ transfers_of old promotable
  pub ways : AreDescents digest worker (begun worker old) descents
  pub commands : logged ≡ move_commands digest worker old descents
  pub after : new ≡ moved digest worker old descents

-- the counters that a move takes pass the end
pub record IsPastEnd (threshold : Option ℕ) (stage : Stage) : Type 0 where
  pub promotable : List ℕ
  pub are_promotable : ArePromotable stage threshold promotable
  pub past : stage.clock.end < (clock_needed stage promotable).at.counter
