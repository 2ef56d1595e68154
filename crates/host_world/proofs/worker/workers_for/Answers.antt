use Rattle.std.proofs.Common.{◌≡◌, ◌+◌, ◌-◌, ◌++◌, [], ◌∷◌, length, map, ◌∙◌, ap, sym, arith}
use Rattle.std.proofs.lemmas.List.{length-append}
use Rattle.host_core.specs.World.{idle, fresh}
use Rattle.host_laws.specs.SettingUp.{first_clock}
use Rattle.slot_rewriting.specs.Writing.{opening_writer}
use Rattle.host_world.specs.Workers.{shown_worker}
use Rattle.host_world.proofs.BegunLaws.{begun-none, begun-joined}
use Rattle.host_world.proofs.WorldLemmas.{joined-worker}
use Rattle.host_world.proofs.worker.workers_for.Goals as goal

pub loop-number-init : goal.loop-number-init
loop-number-init c =
    let worker = c.in_ok-behind_setup.field-0 in
    let none = c.in_ok-workers.ensures.items in
    let one : c.push.new.self.items ≡ worker ∷ [] = c.in_ok-push.ensures.items ∙ ap (λ workers. workers ++ worker ∷ []) none in
    record {
      some = omega arith;
      count = ap length one;
      workers = ap (map shown_worker) one ∙ ap (λ w. w ∷ []) c.in_ok-behind_setup.ensures.value;
      begun = begun-joined c.args.header.now c.in_ok-workers.workers.items c.push.new.self.items worker (begun-none c.args.header.now c.in_ok-workers.workers.items none)
          c.in_ok-push.ensures.items (c.in_ok-behind_setup.ensures.writer ∙ ap (λ n. opening_writer n c.args.header.now) (sym (ap length none)));
    }

pub loop-number-preserved : goal.loop-number-preserved
loop-number-preserved c =
    let inv = c.loop-number.invariant in
    let header = c.args.header.now in
    let items = c.loop-number.workers.items in
    let worker = c.in_ok-new.field-0 in
    record {
      some = omega arith;
      count = omega (arith, ap length c.in_ok-push-2.ensures.items, length-append items (worker ∷ []), inv.count);
      workers = joined-worker items c.push-in-loop-number.new.self.items worker (idle c.args.commands (first_clock header.first header.end c.args.shards)) (fresh header)
          (c.loop-number.number - 1) (c.loop-number.number + 1 - 1) c.in_ok-push-2.ensures.items inv.workers c.in_ok-new.ensures.value (omega (arith, inv.some));
      begun = begun-joined header items c.push-in-loop-number.new.self.items worker inv.begun c.in_ok-push-2.ensures.items
          (c.in_ok-new.ensures.writer ∙ ap (λ n. opening_writer n header) (sym inv.count));
    }
