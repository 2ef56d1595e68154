-- What the proofs take of the shipped host: what it does for a plan.
use Rattle.std.specs.Prelude.{◌≡◌, ℕ, ◌≤◌, List, Some, None}
use Rattle.lamport_clocks.specs.Reading.{Reading}
use Rattle.record_hash.specs.Functions.{DigestFunctions}
use Rattle.record_text.specs.declared.request.Request.{Request}
use Rattle.record_text.specs.Longest.{longest_of}
use Rattle.script_text.specs.declared.task.Task.{Task}
use Rattle.host_shard.specs.Content.{Content}
use Rattle.host_plan.specs.Plan.{CanServe, IsPlan, IsPastEnd, clock_after}
use Rattle.host_plan.specs.declared.plans.Plan.{Plan}
use Rattle.shipped_host.specs.declared.settings.Settings.{Settings}
use Rattle.shipped_host.specs.ShippedHost.{shipped_host}

-- a plan is what it does for the request, where no counter passes the end
abbrev pub DoesPlans : DigestFunctions → Settings → List (List Task) → Type 0
DoesPlans functions settings script = (worker : ℕ) (content after : Content) (request : Request) (clock later : Reading) (plan : Plan)
    → CanServe (longest_of settings.header) functions.digest content request.key
    → IsPlan settings.absent functions.digest worker content request clock plan after later
    → (clock_after content clock).at.counter ≤ clock.end
    → (shipped_host functions settings script).serve worker clock content request
    ≡ Some (record { commands = plan.commands; after = after; clock = later })

-- and where one does, it does nothing
abbrev pub EndsClocks : DigestFunctions → Settings → List (List Task) → Type 0
EndsClocks functions settings script = (worker : ℕ) (content : Content) (request : Request) (clock : Reading)
    → IsPastEnd content clock → (shipped_host functions settings script).serve worker clock content request ≡ None
