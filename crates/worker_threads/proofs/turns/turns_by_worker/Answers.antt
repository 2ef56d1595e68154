use Rattle.std.proofs.Common.{◌≡◌, ℕ, suc, ◌+◌, ◌++◌, ◌<◌, List, [], map, sym, ◌∙◌, subst, arith}
use Rattle.std.specs.List.{AllByRecursion}
use Rattle.std.proofs.lemmas.List.Elements.{All-from_recursion, All-map}
use Rattle.record_text.specs.Longest.{longest_of}
use Rattle.record_text.specs.Value.{IsBlob}
use Rattle.script_text.specs.declared.task.Task.{Task}
use Rattle.host_world.specs.Behind.{host_of}
use Rattle.host_world.specs.Shown.{shown_world, digests_of, settings_of}
use Rattle.worker_threads.specs.Parts.{asked_of}
use Rattle.worker_threads.specs.Phase.{numbered}
use Rattle.worker_threads.specs.Round.{AreAskedSo, asked_up_to}
use Rattle.worker_threads.proofs.TurnLemmas.{none-asked}
use Rattle.worker_threads.proofs.turns.turns_by_worker.Goals as goal

pub loop-number-init : goal.loop-number-init
loop-number-init g c =
    let world = c.args.world.now in
    record {
      count = c.in_ok-turns.ensures.count;
      asked = none-asked (host_of (g.D.Digests.functions (digests_of world)) world) (shown_world world) _
          (All-map (λ own. own ≡ []) (λ own. own.items) c.in_ok-turns.turns.items
          (All-from_recursion (λ own. own.items ≡ []) c.in_ok-turns.turns.items c.in_ok-turns.ensures.none));
    }

pub overflow_add-first : goal.overflow_add-first
overflow_add-first g c = omega (arith, c.requires.fits, c.loop-number-test.true)

pub add_turns-requires-clause-short : goal.add_turns-requires-clause-short
add_turns-requires-clause-short g c =
    subst (λ (tasks : List Task). AllByRecursion (λ (task : Task). IsBlob (longest_of (settings_of c.args.world.now).header) task.request.value) tasks)
    (sym c.phase.ensures.value) (c.requires.short (c.args.first + c.loop-number.number))

pub add_turns-requires-clause-workers : goal.add_turns-requires-clause-workers
add_turns-requires-clause-workers g c =
    subst (λ (n : ℕ). AllByRecursion (λ (task : Task). task.worker < n) c.phase.result) (sym c.loop-number.invariant.count)
    (subst (λ (tasks : List Task). AllByRecursion (λ (task : Task). task.worker < c.args.workers) tasks)
    (sym c.phase.ensures.value) (c.requires.workers (c.args.first + c.loop-number.number)))

pub loop-number-preserved : goal.loop-number-preserved
loop-number-preserved g c =
    let world = c.args.world.now in
    let host = host_of (g.D.Digests.functions (digests_of world)) world in
    let script = c.args.requests.now in
    let number = c.loop-number.number in
    let turns = map (λ own. own.items) c.add_turns.new.turns.items in
    let next : suc number ≡ number + 1 = omega arith in
    record {
      count = c.in_ok-add_turns.ensures.count ∙ c.loop-number.invariant.count;
      asked = subst (λ (n : ℕ). AreAskedSo host (shown_world world) (λ i. asked_up_to script c.args.first i n) turns) next
          (subst (λ (tasks : List Task). AreAskedSo host (shown_world world) (λ i. asked_up_to script c.args.first i number ++ numbered number (asked_of i tasks)) turns)
          c.phase.ensures.value
          (c.in_ok-add_turns.ensures.asked (λ i. asked_up_to script c.args.first i number) c.loop-number.invariant.asked));
    }
