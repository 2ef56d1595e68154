-- Events behind events.
use Rattle.std.proofs.Common.{◌≡◌, List, [], ◌∷◌, ◌++◌, refl}
use Rattle.host_core.specs.Host.{Host}
use Rattle.host_core.specs.World.{World}
use Rattle.host_core.specs.WorldEvent.{WorldEvent, step, AreEnabled, run_events}

module _ {C R : Type 0} (host : Host C R) where
  -- What is enabled behind enabled events is enabled with them.
  pub enabled-append : (world : World C) (xs ys : List (WorldEvent R)) → AreEnabled host world xs
      → AreEnabled host (run_events host world xs) ys → AreEnabled host world (xs ++ ys)
  enabled-append world [] ys first more = more
  enabled-append world (x ∷ xs) ys first more = (first.0, enabled-append (step host world x) xs ys first.1 more)

  pub run-append : (world : World C) (xs ys : List (WorldEvent R)) → run_events host world (xs ++ ys) ≡ run_events host (run_events host world xs) ys
  run-append world [] ys = refl
  run-append world (x ∷ xs) ys = run-append (step host world x) xs ys
