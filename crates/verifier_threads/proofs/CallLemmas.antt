-- A runner between two calls.
use Rattle.std.proofs.Common.{◌≡◌, ℕ, ◌<◌, List, [], length, map, get_or, Option, Result, Ok, Err, IfOk, inl, inr, refl, sym, ◌∙◌, ap, subst, arith}
use Rattle.std.specs.List.{AllByRecursion}
use Rattle.fv_outside.specs.Faults.{Rose}
use Rattle.record_hash.specs.Functions.{DigestFunctions}
use Rattle.script_text.specs.Text.{AreTasks}
use Rattle.script_text.specs.declared.task.Task.{Task}
use Rattle.shipped_host.specs.declared.settings.Settings.{Settings}
use Rattle.host_world.specs.declared.world.World as code
use Rattle.shipped_host.specs.ShippedHost.{turn_of}
use Rattle.host_world.specs.Shown.{shown_world, digests_of, requests_of}
use Rattle.host_world.specs.Behind.{AreOfOneHost}
use Rattle.verifier_threads.specs.declared.accounts.Account.{Account}
use Rattle.verifier_threads.specs.declared.runner.NextCall.{NextCall}
use Rattle.verifier_threads.specs.declared.runner.Runner.{Runner}
use Rattle.verifier_threads.specs.declared.runner.State.{State}
use Rattle.verifier_threads.specs.declared.world_run.WorldRun.{WorldRun}
use Rattle.verifier_threads.specs.Serving.{Outputs}
use Rattle.verifier_threads.specs.Running.{IsUnderWayBehind}
use Rattle.verifier_threads.specs.Runners.{StateStands, Stands, IsRunOf}
use Rattle.verifier_threads.proofs.EndingLemmas.{turns-now, runs-workers}

-- what holds of an answer, where more follows from it
pub if_ok-then : {T E : Type 0} (P Q : T → Type 0) (r : Result T E) → IfOk r P → ((value : T) → P value → Q value) → IfOk r Q
if_ok-then P Q (Ok value) holds more = more value holds
if_ok-then P Q (Err fault) holds more = tt

-- a count of faults that stays at 0 never rose
pub never-rose : Rose 0 0 → ⊥
never-rose rose = elim rose [ inl less ↦ absurd (omega (arith, less)) | inr last ↦ absurd (omega (arith, last)) ]

-- ---- a run of these

-- what is said of a world's numbers is said of these, if they are the same
pub of-these : {D : Type 0} (functions : D → DigestFunctions) (own : DigestFunctions) (settings : Settings) (script : List (List Task)) (world : code.World D)
    → functions (digests_of world) ≡ own → world.settings ≡ settings → requests_of world ≡ script
    → (P : DigestFunctions → Settings → List (List Task) → Type 0) → P (functions (digests_of world)) world.settings (requests_of world) → P own settings script
of-these functions own settings script world functions_are settings_are script_is P holds =
    subst (λ (f : DigestFunctions). P f settings script) functions_are
    (subst (λ (s : Settings). P (functions (digests_of world)) s script) settings_are
    (subst (λ (t : List (List Task)). P (functions (digests_of world)) world.settings t) script_is holds))

module _ {D : Type 0} (functions : D → DigestFunctions) (own : DigestFunctions) (settings : Settings) (script : List (List Task)) where
  -- a run of the same host is of the same functions, settings and script
  pub run_of-same : (old new : WorldRun D) → AreOfOneHost old.world new.world → IsRunOf functions own settings script old → IsRunOf functions own settings script new
  run_of-same old new same is = record {
    functions_are = ap functions same.digests ∙ is.functions_are;
    settings_are = same.settings ∙ is.settings_are;
    script_is = same.requests ∙ is.script_is;
    tasks = is.tasks;
  }

  -- what is said of the run's numbers is said of these
  pub run_of-these : (run : WorldRun D) → IsRunOf functions own settings script run → (P : DigestFunctions → Settings → List (List Task) → Type 0)
      → P (functions (digests_of run.world)) run.world.settings (requests_of run.world) → P own settings script
  run_of-these run is P holds = of-these functions own settings script run.world is.functions_are is.settings_are is.script_is P holds

  -- its tasks are its workers'
  pub run_of-tasks : (run : WorldRun D) → IsRunOf functions own settings script run → AreTasks run.world.settings.header (requests_of run.world)
  run_of-tasks run is =
      subst (λ (s : Settings). AreTasks s.header (requests_of run.world)) (sym is.settings_are)
      (subst (AreTasks settings.header) (sym is.script_is) is.tasks)

  -- a runner whose call and state are these
  pub stands-of : (account : Account) (runner : Runner D) (outputs : Outputs) (call : NextCall) (state : State D) → runner.next ≡ call → runner.state ≡ state
      → Stands account functions own settings script runner outputs
      → StateStands account call functions own settings script state outputs
  stands-of account runner outputs call state call_is state_is stands =
      subst (λ (s : State D). StateStands account call functions own settings script s outputs) state_is
      (subst (λ (n : NextCall). StateStands account n functions own settings script runner.state outputs) call_is stands.state)

-- ---- what a round is called with

-- each turn of the script is one of the workers'
pub script-turns : {D : Type 0} (functions : D → DigestFunctions) (run : WorldRun D) (served closes : ℕ) (held : Option (List ℕ)) → AreTasks run.world.settings.header (requests_of run.world)
    → IsUnderWayBehind functions run served closes held
    → (phase : ℕ) → AllByRecursion (λ turn. turn.0 < length (shown_world run.world).workers) (get_or (map (map turn_of) (requests_of run.world)) phase [])
script-turns functions run served closes held tasks way phase =
    turns-now run.world run.world phase (record { settings = refl; requests = refl; digests = refl }) tasks
    (runs-workers way.0 functions run way.2.past way.1 way.2.runs)
