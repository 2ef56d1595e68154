use Rattle.std.proofs.Common.{◌≡◌, suc, ◌+◌, ◌<◌, List, length, get_or, sym, ◌∙◌, ap, subst, arith}
use Rattle.lamport_clocks.specs.Header.{IsHeader}
use Rattle.slot_rewriting.specs.Writing.{written_log, written_logs}
use Rattle.shipped_host.specs.declared.settings.Settings.{Settings}
use Rattle.host_core.specs.World.{Worker, World, fresh, logs_of}
use Rattle.host_core.specs.WorldEvent.{with_worker}
use Rattle.host_shard.specs.Content.{Content}
use Rattle.host_world.specs.Shown.{shown_world}
use Rattle.verifier_threads.specs.Running.{with_no_log}
use Rattle.verifier_threads.proofs.RunningLemmas.{one_host}
use Rattle.verifier_threads.proofs.HandingLemmas.{changed-length, changed-not, buffers-next, replaced-all, text-at, texts-length, front_handed_out, handed-next, handed-all}
use Rattle.verifier_threads.proofs.handing.hand_out_all.Goals as goal

pub hand_out-requires : goal.hand_out-requires
hand_out-requires g c =
    let workers = (shown_world c.args.world.now).workers in
    let same : length (shown_world c.loop-worker.world).workers ≡ length workers =
    ap (λ (w : World Content). length w.workers) c.loop-worker.invariant.shown ∙ changed-length with_no_log c.loop-worker.worker workers in
    record {
      there = omega (arith, c.loop-worker-test.true, c.requires.each, same);
      header = subst (λ (settings : Settings). IsHeader settings.header) (sym c.loop-worker.invariant.host.settings) c.requires.header;
    }

pub loop-worker-preserved : goal.loop-worker-preserved
loop-worker-preserved g c =
    let n = c.loop-worker.worker in
    let old = shown_world c.args.world.now in
    let now = c.loop-worker.world in
    let d = fresh now.settings.header in
    let header = c.args.world.now.settings.header in
    let next : n + 1 ≡ suc n = omega arith in
    let there : n < length old.workers = omega (arith, c.loop-worker-test.true, c.requires.each) in
    let workers_are : (shown_world now).workers ≡ (front_handed_out n old).workers = ap (λ (w : World Content). w.workers) c.loop-worker.invariant.shown in
    record {
      host = one_host c.args.world.now now c.hand_out.new.self c.loop-worker.invariant.host c.hand_out.ensures.host;
      shown = c.in_ok-hand_out.ensures.forgotten
          ∙ ap (λ (w : World Content). with_worker w n (with_no_log (get_or w.workers n d))) c.loop-worker.invariant.shown
          ∙ handed-next n (n + 1) old d there next;
      buffers =
          buffers-next n (n + 1) (written_logs header (logs_of old)) c.args.buffers.now c.loop-worker.buffers c.hand_out.new.buffer
          c.loop-worker.invariant.buffers
          (texts-length header old.workers ∙ sym c.requires.each)
          (omega (arith, there, texts-length header old.workers))
          (c.in_ok-hand_out.ensures.handed
          ∙ ap (λ (settings : Settings). written_log settings.header n (get_or (shown_world now).workers n d).log) c.loop-worker.invariant.host.settings
          ∙ ap (λ (ws : List Worker). written_log header n (get_or ws n d).log) workers_are
          ∙ ap (λ (w : Worker). written_log header n w.log) (changed-not with_no_log n old.workers d)
          ∙ sym (text-at header old.workers n d there))
          next;
    }

pub returns-clause-handed : goal.returns-clause-handed
returns-clause-handed g c =
    let old = shown_world c.args.world.now in
    let header = c.args.world.now.settings.header in
    let size : length (written_logs header (logs_of old)) ≡ length c.args.buffers.now = texts-length header old.workers ∙ sym c.requires.each in
    let over : c.loop-worker.worker ≡ length c.args.buffers.now = omega (arith, c.loop-worker-test.false, c.loop-worker.auto.worker-end) in
    c.loop-worker.invariant.buffers
    ∙ replaced-all c.loop-worker.worker (written_logs header (logs_of old)) c.args.buffers.now size (over ∙ sym size)

pub returns-clause-forgotten : goal.returns-clause-forgotten
returns-clause-forgotten g c =
    let over : c.loop-worker.worker ≡ length c.args.buffers.now = omega (arith, c.loop-worker-test.false, c.loop-worker.auto.worker-end) in
    c.loop-worker.invariant.shown
    ∙ handed-all c.loop-worker.worker (shown_world c.args.world.now) (over ∙ c.requires.each)
