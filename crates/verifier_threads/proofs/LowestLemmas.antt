-- The first worker that is stopped: none below it is.
use Rattle.std.proofs.Common.{◌≡◌, ℕ, zero, suc, ◌+◌, ◌<◌, Bool, true, false, List, [], ◌∷◌, map, get_or, Option, Some, None, if◌then◌else◌, refl, sym, ◌∙◌, ap, arith}
use Rattle.host_core.specs.World.{Worker}
use Rattle.host_world.specs.declared.fault.ClockEnd.{ClockEnd}
use Rattle.worker_threads.specs.Phase.{first_stopped}
use Rattle.verifier_threads.specs.Running.{with_no_log}

-- what a list's first worker decides
abbrev by : ℕ → Worker → List Worker → Bool → Option ClockEnd
by n worker workers stopped = if stopped then Some (record { worker = n; at = worker.clock.at }) else first_stopped (suc n) workers

none-some : (end : ClockEnd) → Some end ≡ None → ⊥
none-some end is = cc

named : (n : ℕ) (worker : Worker) (end : ClockEnd) → Some (record { worker = n; at = worker.clock.at }) ≡ Some end → n ≡ end.worker
named n worker end is = ap (λ (e : Option ClockEnd). number e) is
  where
    number : Option ClockEnd → ℕ
    number None = n
    number (Some e) = e.worker

module _ (d : Worker) (running : d.stopped ≡ false) where
  -- where there is none, each is running
  pub all-running : (n : ℕ) (workers : List Worker) → first_stopped n workers ≡ None → (i : ℕ) → (get_or workers i d).stopped ≡ false
  all-running n [] none' i = running
  all-running n (worker ∷ workers) none' i = go (all-running (suc n) workers) worker.stopped refl i
    where
      go : (first_stopped (suc n) workers ≡ None → (j : ℕ) → (get_or workers j d).stopped ≡ false)
          → (b : Bool) → worker.stopped ≡ b → (i : ℕ) → (get_or (worker ∷ workers) i d).stopped ≡ false
      go rest true is i = absurd (none-some _ (sym (ap (by n worker workers) is) ∙ none'))
      go rest false is zero = is
      go rest false is (suc i) = rest (sym (ap (by n worker workers) is) ∙ none') i

  -- else those below it are
  pub lower-running : (n : ℕ) (workers : List Worker) (end : ClockEnd) → first_stopped n workers ≡ Some end → (i : ℕ) → n + i < end.worker
      → (get_or workers i d).stopped ≡ false
  lower-running n [] end some i below = running
  lower-running n (worker ∷ workers) end some i below = go (lower-running (suc n) workers end) worker.stopped refl i below
    where
      go : (first_stopped (suc n) workers ≡ Some end → (j : ℕ) → suc n + j < end.worker → (get_or workers j d).stopped ≡ false)
          → (b : Bool) → worker.stopped ≡ b → (i : ℕ) → n + i < end.worker → (get_or (worker ∷ workers) i d).stopped ≡ false
      go rest true is i below = absurd (omega (arith, below, named n worker end (sym (ap (by n worker workers) is) ∙ some)))
      go rest false is zero below = is
      go rest false is (suc i) below = rest (sym (ap (by n worker workers) is) ∙ some) i (omega (arith, below))

  -- and it is not
  pub first-stopped : (n : ℕ) (workers : List Worker) (end : ClockEnd) → first_stopped n workers ≡ Some end
      → (k : ℕ) × (n + k ≡ end.worker) × ((get_or workers k d).stopped ≡ true)
  first-stopped n [] end some = absurd (none-some end (sym some))
  first-stopped n (worker ∷ workers) end some = go (first-stopped (suc n) workers end) worker.stopped refl
    where
      go : (first_stopped (suc n) workers ≡ Some end → (k : ℕ) × (suc n + k ≡ end.worker) × ((get_or workers k d).stopped ≡ true))
          → (b : Bool) → worker.stopped ≡ b → (k : ℕ) × (n + k ≡ end.worker) × ((get_or (worker ∷ workers) k d).stopped ≡ true)
      go rest true is = (zero, omega (arith, named n worker end (sym (ap (by n worker workers) is) ∙ some)), is)
      go rest false is =
          let found = rest (sym (ap (by n worker workers) is) ∙ some) in
          (suc found.0, omega (arith, found.1), found.2)

-- logs that are handed out change nothing of it
pub first-handed : (n : ℕ) (workers : List Worker) → first_stopped n (map with_no_log workers) ≡ first_stopped n workers
first-handed n [] = refl
first-handed n (worker ∷ workers) =
    ap (λ (rest : Option ClockEnd). if worker.stopped then Some (record { worker = n; at = worker.clock.at }) else rest) (first-handed (suc n) workers)
