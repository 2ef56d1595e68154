-- What the shipped host does, as plans and moves.
use Rattle.std.specs.Prelude.{◌≡◌, ℕ, Bool, List, Option}
use Rattle.lamport_clocks.specs.Reading.{Reading}
use Rattle.record_text.specs.declared.request.Request.{Request}
use Rattle.merkle_records.specs.Merkle.{Digest}
use Rattle.host_core.specs.Host.{Done}
use Rattle.host_shard.specs.Content.{Content}
use Rattle.host_plan.specs.declared.plans.Plan.{Plan}
use Rattle.host_plan.specs.Plan as plans
use Rattle.protection_moves.specs.Stage.{Stage}
use Rattle.protection_moves.specs.Move as moves
use Rattle.shipped_host.specs.Moving.{seats_of}

-- What was done to serve a request is its plan, whose counters don't pass their end.
pub record IsPlanned (absent : Bool) (digest : Digest) (worker : ℕ) (clock : Reading) (content : Content) (request : Request) (done : Done Content) : Type 0 where
  pub plan : Plan
  pub is : plans.IsPlan absent digest worker content request clock plan done.after done.clock
  pub logged : done.commands ≡ plan.commands
  pub within : plans.IsPastEnd content clock → ⊥

-- What was done to move a stage is a move of it for this threshold, whose counters don't pass their end.
pub record IsMoved (digest : Digest) (worker : ℕ) (threshold : Option ℕ) (stage : Stage) (done : Done (List Content)) : Type 0 where
  pub new : Stage
  pub is : moves.IsMove digest worker threshold stage done.commands new
  pub after : done.after ≡ seats_of new
  pub clock : done.clock ≡ new.clock
  pub within : moves.IsPastEnd threshold stage → ⊥
