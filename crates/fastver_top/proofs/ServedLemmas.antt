-- Where a script is served to its end, a check of the logs ends with the number of its phases.
use Rattle.std.proofs.Common.{◌≡◌, ℕ, suc, ◌<◌, ◌^◌, ◌==◌, ◌-◌, if◌then◌else◌, Bool, true, false, List, [], ◌∷◌, length, Option, Some, None, Result, Ok, Err, inl, refl, sym, ◌∙◌, ap, subst, arith, ⊎_elim}
use Rattle.std.proofs.lemmas.List.{length-map}
use Rattle.std.proofs.lemmas.Bool.{cases_lt}
use Rattle.std.specs.List.{onto_first}
use Rattle.base_words.specs.Steps.{and_then}
use Rattle.record_hash.specs.Functions.{DigestFunctions}
use Rattle.slot_rewriting.specs.Writing.{written_logs}
use Rattle.merkle_records.specs.Merkle.{GivesDigests}
use Rattle.log_codec.specs.declared.command.Command.{Command}
use Rattle.report_text.specs.declared.ending.BundleEnd.TheVariants.{Done}
use Rattle.script_text.specs.declared.task.Task.{Task}
use Rattle.script_text.specs.declared.task.Line.{Line}
use Rattle.script_text.specs.declared.task.Line.TheVariants as said
use Rattle.script_text.specs.Lines.{lines_of}
use Rattle.script_text.specs.Script.{BadLine, lines_say, phases_of, script_of, with_line}
use Rattle.lamport_clocks.specs.declared.header.Header.{Header}
use Rattle.lamport_clocks.specs.Clock.{last_epoch}
use Rattle.host_core.specs.Host.{Host, Done as Deed}
use Rattle.host_core.specs.World.{Place, Worker, Seats, World, set_up, logs_of, worker_at, shard_at}
use Rattle.host_core.specs.WorldEvent.{WorldEvent, takes, loses, serves, gives, advances, moves, opens, raises, enters, scans, finishes, stops, step, IsEnabled, AreEnabled, run_events, HasAdvanced, after_serve, after_move, after_scan, after_advance}
use Rattle.shipped_host.specs.Ranges.{AreInRange}
use Rattle.shipped_host.specs.Settings.{IsSettings}
use Rattle.shipped_host.specs.ShippedHost.{shipped_host}
use Rattle.shipped_host.specs.declared.settings.Settings.{Settings}
use Rattle.host_fits.specs.Promise.{CanRun}
use Rattle.host_rounds.specs.SoFar.{end_due}
use Rattle.run_reports.specs.Runs.{HoldsOfRuns}
use Rattle.verifier_threads.specs.InRounds.{Logs}
use Rattle.verifier_threads.specs.Serving.{AreOfRun, AreServed}

-- ---- a script has a phase

onto_length : {A : Type 0} (x : A) (xs : List (List A)) → 0 < length xs → 0 < length (onto_first x xs)
onto_length x [] some = absurd (omega (arith, some))
onto_length x (first ∷ more) some = omega arith

with_length : (line : Line) (phases : List (List Task)) → 0 < length phases → 0 < length (with_line line phases)
with_length said.Epoch phases some = omega arith
with_length (said.Task task) phases some = onto_length task phases some

some_phases : (lines : List Line) → 0 < length (phases_of lines)
unfolding phases_of
some_phases [] = omega arith
some_phases (line ∷ lines) = with_length line (phases_of lines) (some_phases lines)

some_read : (lines : Result (List Line) BadLine) (script : List (List Task)) → and_then lines (λ said. Ok (phases_of said)) ≡ Ok script → 0 < length script
some_read (Ok lines) script is = (let same : phases_of lines ≡ script = cc in subst (λ (s : List (List Task)). 0 < length s) same (some_phases lines))
some_read (Err bad) script is = absurd (cc)

pub script_some : (header : Header) (bytes : List ℕ) (script : List (List Task)) → script_of header bytes ≡ Ok script → 0 < length script
script_some header bytes script is = some_read (lines_say header 1 (lines_of bytes)) script is

-- ---- the phase is one of the script's

module _ {C R : Type 0} (host : Host C R) where
  serve-phase : (world : World C) (i : ℕ) (worker : Worker) (place : Place) (shard : Seats C) (deed : Option (Deed C))
      → (after_serve world i worker place shard deed).phase ≡ world.phase
  serve-phase world i worker place shard None = refl
  serve-phase world i worker place shard (Some deed) = refl

  move-phase : (world : World C) (i : ℕ) (worker : Worker) (s : ℕ) (deed : Option (Deed (List C))) → (after_move world i worker s deed).phase ≡ world.phase
  move-phase world i worker s None = refl
  move-phase world i worker s (Some deed) = refl

  advance-phase : (world : World C) (i : ℕ) (worker : Worker) → (after_advance world i worker).phase ≡ world.phase
  advance-phase world i worker = go (worker.clock.at.epoch == last_epoch) refl where
    go : (test : Bool) → (worker.clock.at.epoch == last_epoch) ≡ test → (after_advance world i worker).phase ≡ world.phase
    go true is = rw is refl
    go false is = rw is refl

  scan-phase : (world : World C) (i : ℕ) (worker : Worker) (place : Place) (shard : Seats C) (deed : Option (Deed (List C)))
      → (after_scan world i worker place shard deed).phase ≡ world.phase
  scan-phase world i worker place shard None = refl
  scan-phase world i worker place shard (Some deed) = refl

  step-there : (world : World C) (event : WorldEvent R) → IsEnabled host world event → world.phase < length host.script
      → (step host world event).phase < length host.script
  step-there world (takes i place) may there = there
  step-there world (loses i place) may there = there
  step-there world (serves i place request) may there =
      subst (λ (p : ℕ). p < length host.script) (sym (serve-phase world i (worker_at host world i) place _ _)) there
  step-there world (gives i place) may there = there
  step-there world (advances i) may there = subst (λ (p : ℕ). p < length host.script) (sym (advance-phase world i (worker_at host world i))) there
  step-there world (moves i s) may there = subst (λ (p : ℕ). p < length host.script) (sym (move-phase world i (worker_at host world i) s _)) there
  step-there world opens may there =
      ⊎_elim (λ below. below) (λ last. absurd (may.more (inl last))) (cases_lt (suc world.phase) (length host.script))
  step-there world (raises i) may there = there
  step-there world (enters i) may there = there
  step-there world (scans i place) may there =
      subst (λ (p : ℕ). p < length host.script) (sym (scan-phase world i (worker_at host world i) place (shard_at world place.shard) _)) there
  step-there world (finishes i) may there = there
  step-there world (stops i found) may there = there

  pub phase-there : (world : World C) (events : List (WorldEvent R)) → AreEnabled host world events → world.phase < length host.script
      → (run_events host world events).phase < length host.script
  phase-there world [] enabled there = there
  phase-there world (event ∷ events) enabled there =
      phase-there (step host world event) events enabled.1 (step-there world event enabled.0 there)

-- ---- how a check ends

-- a host's first phase is one of its script
first-there : (rolling : Bool) (n : ℕ) → 0 < n → (if rolling then n - 1 else 0) < n
first-there true n some = omega (arith, some)
first-there false n some = some

-- what a check promises, for whatever runs
abbrev pub EndsWithPhases : Type 0
EndsWithPhases = HoldsOfRuns (λ host world.
    ((i : ℕ) → i < length world.workers → HasAdvanced host world i 2)
    → end_due host.functions host.header (written_logs host.header (logs_of world)) ≡ Done (suc world.phase))

module _ (functions : DigestFunctions) (settings : Settings) (script : List (List Task)) (rounds : List Logs) (logs : Logs) where
  served-end : EndsWithPhases → CanRun functions settings script → settings.header.first < 2 ^ 32 → 0 < length script
      → AreServed functions settings script rounds logs None → end_due functions settings.header (written_logs settings.header logs) ≡ Done (length script)
  served-end promise can first some served =
      let host = shipped_host functions settings script in
      let whole = served.whole refl in
      let phases : length host.script ≡ length script = length-map script _ in
      let there : served.world.phase < length host.script =
      subst (λ (w : World _). w.phase < length host.script) (sym served.way.is)
      (phase-there host (set_up host) served.way.events served.way.enabled
      (first-there settings.rolling (length host.script) (omega (arith, some, phases)))) in
      let count : suc served.world.phase ≡ length script = omega (arith, there, whole.last, phases) in
      let ends = promise functions settings script served.way.events can first served.way.enabled in
      let advanced = subst (λ (w : World _). (i : ℕ) → i < length w.workers → HasAdvanced host w i 2) served.way.is whole.closed.advanced in
      ap (λ (l : List (List Command)). end_due functions settings.header (written_logs settings.header l)) (served.logs_are ∙ ap logs_of served.way.is)
      ∙ ends advanced
      ∙ ap Done (ap (λ (w : World _). suc w.phase) (sym served.way.is) ∙ count)

  pub run-end : EndsWithPhases → IsSettings settings → AreInRange settings.header script → GivesDigests functions.digest → settings.header.first < 2 ^ 32 → 0 < length script
      → AreOfRun functions settings script rounds logs None → end_due functions settings.header (written_logs settings.header logs) ≡ Done (length script)
  run-end promise in_range keys digests first some run =
      ⊎_elim (λ short. absurd (let no = (run.unserved short).2 in cc))
      (λ enough. served-end promise (record { in_range = in_range; counters = enough; keys = keys; digests = digests }) first some (run.served enough))
      (cases_lt settings.header.end settings.shards)
