-- Behind a phase that was served at once no worker has more to do in it.
use Rattle.std.proofs.Common.{◌≡◌, ◌⊎◌, inl, inr, ℕ, zero, suc, ◌<◌, Bool, true, false, List, [], ◌∷◌, map, length, get_or, Option, Some, None, is_some, IfSome, if◌then◌else◌, refl, sym, ◌∙◌, ap, subst, true≢false, arith}
use Rattle.std.proofs.lemmas.List.{length-map}
use Rattle.std.proofs.lemmas.Option.{none-some}
use Rattle.record_hash.specs.Functions.{DigestFunctions}
use Rattle.record_text.specs.declared.request.Request.{Request}
use Rattle.script_text.specs.declared.task.Task.{Task}
use Rattle.host_core.specs.Host.{Host}
use Rattle.host_core.specs.World.{Worker, World, fresh, worker_at}
use Rattle.host_shard.specs.declared.content.Content as code
use Rattle.host_shard.specs.Content.{Content}
use Rattle.host_table.specs.declared.told.Stop.{Stop}
use Rattle.host_table.specs.declared.views.Row.{Row}
use Rattle.host_table.specs.Phase.{row_at}
use Rattle.host_table.specs.Terms.{Terms}
use Rattle.host_world.specs.declared.fault.ClockEnd.{ClockEnd}
use Rattle.shipped_host.specs.declared.settings.Settings.{Settings}
use Rattle.shipped_host.specs.ShippedHost.{turn_of, shipped_host}
use Rattle.host_serving.specs.Standing.{turns_of, asked_by, HasServedUpTo, IsServedUpTo, IsServedOut, NoneStopped, SomeStopped}
use Rattle.host_serving.proofs.TurnLaws.{phase_served}
use Rattle.worker_threads.specs.Parts.{asked_of, AreDone, HasDone}
use Rattle.worker_threads.specs.Phase.{first_stopped, IsServedAtOnce}
use Rattle.worker_threads.proofs.AskedLemmas.{all_done, asked_count}

module _ (functions : DigestFunctions) (settings : Settings) (script : List (List Task)) (world later : World Content)
    (terms : Terms) (after : List code.Content) (rows : List Row)
    (is : IsServedAtOnce (shipped_host functions settings script) settings.absent (get_or script world.phase []) world later terms after rows) where
  abbrev host : Host Content Request
  host = shipped_host functions settings script

  pub within_script : world.phase < length script
  within_script = let same = length-map script (λ (tasks : List Task). map turn_of tasks) in omega (arith, is.begins.within, same)

  -- what a worker that runs has served when the phase begins
  pub served_before : (i : ℕ) → i < length world.workers → (worker_at host world i).served ≡ asked_by host i world.phase 0
  served_before i there = go (is.begins.each i there).served
    where
      go : ((worker_at host world i).stopped ≡ true) ⊎ (((worker_at host world i).stopped ≡ false) × ((worker_at host world i).served ≡ asked_by host i world.phase 0))
          → (worker_at host world i).served ≡ asked_by host i world.phase 0
      go (inl stopped) = absurd (true≢false (sym stopped ∙ is.running i there))
      go (inr served) = served.1

  same_phase : later.phase ≡ world.phase
  same_phase = ap (λ (w : World Content). w.phase) is.is

  -- The phase is served.
  pub served_out : settings.rolling ≡ false → IsServedOut host later
  served_out plain = phase_served host later (length (turns_of host world.phase)) (λ rolling. absurd (true≢false (sym rolling ∙ plain))) up_to (ap (λ (n : ℕ). length (turns_of host n)) (sym same_phase))
    where
      each : (i : ℕ) → i < length world.workers
          → HasServedUpTo (worker_at host later i) (asked_by host i world.phase (length (turns_of host world.phase)))
      each i there = record {
        idle = part.holds ∙ (is.begins.each i there).idle;
        going = part.stuck ∙ (is.begins.each i there).going;
        served = go (row_at rows i).stop refl;
      }
        where
          part : HasDone (asked_of i (get_or script world.phase [])) (row_at rows i) (worker_at host world i) (worker_at host later i)
          part = is.parts i there

          go : (stop : Option Stop) → (row_at rows i).stop ≡ stop
              → ((worker_at host later i).stopped ≡ true)
              ⊎ (((worker_at host later i).stopped ≡ false) × ((worker_at host later i).served ≡ asked_by host i world.phase (length (turns_of host world.phase))))
          go (Some stop) found = inl (part.stopped ∙ ap (λ (o : Option Stop). is_some o) found)
          go None found = inr (
            part.stopped ∙ ap (λ (o : Option Stop). is_some o) found,
            let asks = asked_of i (get_or script world.phase []) in
                let list = (row_at rows i).list in
                let all : length list ≡ length asks = all_done asks list (subst (AreDone asks list) found part.done) in
                let count = asked_count functions settings script world.phase i within_script in
                let first = served_before i there in
                omega (arith, part.served, all, count, first),
          )

      up_to : IsServedUpTo host later later.phase (length (turns_of host world.phase))
      up_to = record {
        going = ap (λ (w : World Content). w.over) is.is ∙ is.begins.going;
        phase = ap (λ (w : World Content). w.closing) is.is ∙ is.begins.phase;
        within = subst (λ (n : ℕ). n < length host.script) (sym same_phase) is.begins.within;
        each = λ i there. subst (λ (n : ℕ). HasServedUpTo (worker_at host later i) (asked_by host i n (length (turns_of host world.phase)))) (sym same_phase)
            (each i (omega (arith, there, is.count)));
      }

-- ---- who is stopped

-- none is where no end is found,
none_found : (n : ℕ) (workers : List Worker) (k : ℕ) (d : Worker) → first_stopped n workers ≡ None → k < length workers → (get_or workers k d).stopped ≡ false
none_found n [] k d none there = absurd (omega (arith, there))
none_found n (worker ∷ workers) k d none there = go worker.stopped refl (none_found (suc n) workers) k there
  where
    go : (b : Bool) → worker.stopped ≡ b
        → ((k : ℕ) (d : Worker) → first_stopped (suc n) workers ≡ None → k < length workers → (get_or workers k d).stopped ≡ false)
        → (k : ℕ) → k < suc (length workers) → (get_or (worker ∷ workers) k d).stopped ≡ false
    go true is rest k there =
        absurd (none-some _ (sym none ∙ ap (λ (b : Bool). if b then Some (record { worker = n; at = worker.clock.at }) else first_stopped (suc n) workers) is))
    go false is rest zero there = is
    go false is rest (suc k) there =
        rest k d
        (sym (ap (λ (b : Bool). if b then Some (record { worker = n; at = worker.clock.at }) else first_stopped (suc n) workers) is) ∙ none) (omega (arith, there))

-- and some worker where one is.
one_found : (n : ℕ) (workers : List Worker) (d : Worker) (end : ClockEnd) → first_stopped n workers ≡ Some end
    → (k : ℕ) × (k < length workers) × ((get_or workers k d).stopped ≡ true)
one_found n [] d end some = absurd (none-some end some)
one_found n (worker ∷ workers) d end some = go worker.stopped refl (one_found (suc n) workers d end)
  where
    go : (b : Bool) → worker.stopped ≡ b
        → (first_stopped (suc n) workers ≡ Some end → (k : ℕ) × (k < length workers) × ((get_or workers k d).stopped ≡ true))
        → (k : ℕ) × (k < suc (length workers)) × ((get_or (worker ∷ workers) k d).stopped ≡ true)
    go true is rest = (0, omega arith, is)
    go false is rest =
        let found = rest
        (sym (ap (λ (b : Bool). if b then Some (record { worker = n; at = worker.clock.at }) else first_stopped (suc n) workers) is) ∙ some) in
        (suc found.0, omega (arith, found.1), found.2)

module _ {C R : Type 0} (host : Host C R) (world : World C) where
  pub none_stopped : first_stopped 0 world.workers ≡ None → NoneStopped host world
  none_stopped none i there = none_found 0 world.workers i (fresh host.header) none there

  pub some_stopped : (end : Option ClockEnd) → first_stopped 0 world.workers ≡ end → IfSome end (λ _. SomeStopped host world)
  some_stopped None is = tt
  some_stopped (Some end) is = one_found 0 world.workers (fresh host.header) end is
