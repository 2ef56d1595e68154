use Rattle.std.proofs.Common.{◌≡◌, ◌<◌, List, [], ◌∷◌, ◌++◌, append_assoc, append-nil, length, refl, sym, ◌∙◌, ap, arith}
use Rattle.std.proofs.lemmas.List.{length-set}
use Rattle.record_text.specs.Longest.{longest_of}
use Rattle.record_text.specs.Value.{IsBlob}
use Rattle.script_text.specs.declared.task.Task.{Task}
use Rattle.host_world.specs.Behind.{host_of}
use Rattle.host_world.specs.Shown.{shown_world, digests_of, settings_of}
use Rattle.worker_threads.proofs.TurnLemmas.{at_task, with-none, turn-pushed}
use Rattle.worker_threads.proofs.turns.add_turns.Goals as goal

pub loop-task-init : goal.loop-task-init
loop-task-init g c =
    let world = c.args.world.now in
    record {
      count = refl;
      all = c.into_iter-task-iterator.ensures.into_iter_gives;
      asked = λ asks so_far. with-none (host_of (g.D.Digests.functions (digests_of world)) world) (shown_world world) asks c.args.phase _ so_far;
    }

pub index_mut-requires : goal.index_mut-requires
index_mut-requires g c =
    let are : c.loop-task.yielded ++ c.in-Some.task ∷ c.next.new.self ≡ c.args.tasks =
    ap (λ (rest : List Task). c.loop-task.yielded ++ rest) (sym c.in-Some.ensures.steps) ∙ c.loop-task.invariant.all in
    let within = at_task (λ (t : Task). t.worker < length c.args.turns.now.items) c.loop-task.yielded c.next.new.self c.args.tasks c.in-Some.task are c.requires.workers in
    omega (arith, within, c.loop-task.invariant.count, c.from-worker.ensures, c.worker.ensures.value)

pub loop-task-preserved : goal.loop-task-preserved
loop-task-preserved g c =
    let world = c.args.world.now in
    let gone = c.loop-task.yielded in
    let task = c.in-Some.task in
    let turns = c.loop-task.turns.items in
    let are : gone ++ task ∷ c.next.new.self ≡ c.args.tasks =
    ap (λ (rest : List Task). gone ++ rest) (sym c.in-Some.ensures.steps) ∙ c.loop-task.invariant.all in
    let short = at_task (λ (t : Task). IsBlob (longest_of (settings_of world).header) t.request.value) gone c.next.new.self c.args.tasks task are c.requires.short in
    let within = at_task (λ (t : Task). t.worker < length c.args.turns.now.items) gone c.next.new.self c.args.tasks task are c.requires.workers in
    let count = c.loop-task.invariant.count in
    let place = rw c.request.ensures.value at c.place_for.ensures.owns in
    record {
      count = length-set turns c.from-worker.result c.push.new.self ∙ count;
      all = append_assoc gone (task ∷ []) c.next.new.self ∙ are;
      asked = λ asks so_far. turn-pushed (host_of (g.D.Digests.functions (digests_of world)) world) (shown_world world) asks (λ own. own.items) gone turns c.index_mut.result.now
          c.push.new.self c.from-worker.result (record { place = c.place_for.result; phase = c.args.phase; task = task }) (c.from-worker.ensures ∙ c.worker.ensures.value) (omega (arith, within, count))
          c.index_mut.ensures.value c.in_ok-push.ensures.items (record { there = c.place_for.ensures.there; owns = place short }) (c.loop-task.invariant.asked asks so_far);
    }

pub returns : goal.returns
returns g c =
    let all : c.loop-task.yielded ≡ c.args.tasks =
    sym (append-nil c.loop-task.yielded) ∙ ap (λ (rest : List Task). c.loop-task.yielded ++ rest) (sym c.in-None.ensures.steps.0) ∙ c.loop-task.invariant.all in
    record {
      count = c.loop-task.invariant.count;
      asked = λ asks so_far i d there. rw (sym all) (c.loop-task.invariant.asked asks so_far i d there);
    }
