-- A table that was made of a world at a phase's begin, and whose workers did their parts, is that of a phase.
use Rattle.std.proofs.Common.{◌≡◌, ℕ, ◌<◌, List, [], length, get_or, sym, ◌∙◌, ap, arith}
use Rattle.log_codec.specs.declared.command.Command.{Command}
use Rattle.merkle_records.specs.Merkle.{GivesDigests}
use Rattle.record_hash.specs.Functions.{DigestFunctions}
use Rattle.record_text.specs.declared.request.Request.{Request}
use Rattle.script_text.specs.declared.task.Task.{Task}
use Rattle.host_core.specs.Host.{Host}
use Rattle.host_core.specs.World.{Worker, World, fresh, worker_at}
use Rattle.host_core.specs.Core.{IsInPhase}
use Rattle.host_order.specs.Told.{IsAtRest}
use Rattle.host_shard.specs.declared.content.Content as code
use Rattle.host_shard.specs.Content.{Content}
use Rattle.host_table.specs.declared.views.Row.{Row}
use Rattle.host_table.specs.Phase.{row_at}
use Rattle.host_table.specs.Terms.{Terms}
use Rattle.shipped_host.specs.declared.settings.Settings.{Settings}
use Rattle.host_world.specs.Behind.{IsBehindSetup, with_logs}
use Rattle.shipped_host.specs.ShippedHost.{shipped_host}
use Rattle.host_world.proofs.FrontLaws.{unlogged, same_unlogged, length-before_each}
use Rattle.host_serving.specs.Standing.{asked_by, IsServedUpTo}
use Rattle.table_order.specs.Phases.{AreTurnsOf, IsTableOf}
use Rattle.worker_threads.specs.Parts.{asked_of, HasDone}
use Rattle.worker_threads.specs.Phase.{IsServedAtOnce}
use Rattle.worker_threads.proofs.AskedLemmas.{are_next, last_next}
use Rattle.worker_threads.proofs.ServedLemmas.{within_script, served_before}

-- A world whose phase begins is at rest.
pub at_rest : (functions : DigestFunctions) (settings : Settings) (script : List (List Task)) (logs : List (List Command)) (world : World Content)
    → IsServedUpTo (shipped_host functions settings script) world world.phase 0
    → IsInPhase (shipped_host functions settings script) (with_logs logs world)
    → IsAtRest (shipped_host functions settings script) (with_logs logs world)
at_rest functions settings script logs world begins epochs = record {
  going = begins.going;
  phase = begins.phase;
  idle = λ i there.
      let count = length-before_each logs world.workers in
      ap (λ (w : Worker). w.holds) (same_unlogged logs world.workers i (fresh settings.header))
      ∙ (begins.each i (omega (arith, there, count))).idle;
  epochs = epochs;
}

module _ (functions : DigestFunctions) (settings : Settings) (script : List (List Task)) (logs : List (List Command)) (world later : World Content)
    (each : length logs ≡ length world.workers) (terms : Terms) (after : List code.Content) (rows : List Row)
    (is : IsServedAtOnce (shipped_host functions settings script) settings.absent (get_or script world.phase []) world later terms after rows)
    (digests : GivesDigests functions.digest) (behind : IsBehindSetup functions settings script (with_logs logs world))
    (epochs : IsInPhase (shipped_host functions settings script) (with_logs logs world)) where
  abbrev host : Host Content Request
  host = shipped_host functions settings script

  abbrev before : World Content
  before = with_logs logs world

  -- a worker of the world, with its log or without
  shown : {A : Type 0} (show : Worker → A) (i : ℕ) → show (unlogged (worker_at host before i)) ≡ show (unlogged (worker_at host world i))
  shown show i = ap show (same_unlogged logs world.workers i (fresh settings.header))

  there_still : (i : ℕ) → i < length before.workers → i < length world.workers
  there_still i there = let count = length-before_each logs world.workers in omega (arith, there, count)

  turns : (i : ℕ) → i < length before.workers → AreTurnsOf host before i (row_at rows i)
  turns i within = record {
    running = shown (λ w. w.stopped) i ∙ is.running i there;
    begins = λ clock found. part.begins clock found ∙ sym (shown (λ w. w.clock) i);
    next = are_next functions settings script world.phase i (within_script functions settings script world later terms after rows is)
        (worker_at host before i).served (row_at rows i).list (row_at rows i).stop served part.done;
    last = last_next functions settings script world.phase i (within_script functions settings script world later terms after rows is)
        (worker_at host before i).served (row_at rows i).list (row_at rows i).stop served part.done;
  }
    where
      there : i < length world.workers
      there = there_still i within

      part : HasDone (asked_of i (get_or script world.phase [])) (row_at rows i) (worker_at host world i) (worker_at host later i)
      part = is.parts i there

      served : (worker_at host before i).served ≡ asked_by host i world.phase 0
      served = shown (λ w. w.served) i ∙ served_before functions settings script world later terms after rows is i there

  -- So the table is that of a phase.
  pub is_table : IsTableOf functions settings script before terms rows
  is_table = record {
    digests = digests;
    behind = behind;
    rest = at_rest functions settings script logs world is.begins epochs;
    made = record {
      header = is.made.header;
      digest = is.made.digest;
      absent_is = is.made.absent_is;
      workers = is.made.workers ∙ sym (length-before_each logs world.workers);
      places = is.made.places;
      contents = is.made.contents;
    };
    turns = turns;
  }
