use Rattle.std.proofs.Common.{◌≡◌, suc, ◌+◌, ◌<◌, ◌≤◌, length, None, refl, ap, subst, arith}
use Rattle.record_text.specs.declared.request.Request.{Request}
use Rattle.host_core.specs.WorldEvent.{WorldEvent, advances}
use Rattle.shipped_host.specs.declared.settings.Settings.{Settings}
use Rattle.host_world.specs.Behind.{host_of}
use Rattle.host_world.specs.Shown.{shown_world, digests_of}
use Rattle.host_serving.specs.Form.{all_advance}
use Rattle.host_serving.specs.Closing.{HaveAdvanced}
use Rattle.host_serving.proofs.AdvanceLemmas.{have-none, may_advance, goes_next, Goes}
use Rattle.host_serving.proofs.ClosePlanLemmas.{AdvancesLeft, AdvancesOn, advances-first, advances-all, advances-front, advances-next}
use Rattle.host_serving.proofs.CloseWorldLemmas.{one_host, enabled_now, stepped_first, ended_first, on_err, front_kept, workers_are}
use Rattle.host_serving.proofs.closes.advance_all.Goals as goal

pub loop-worker-init : goal.loop-worker-init
loop-worker-init g c =
    let old = c.args.world.now in
    let host = host_of (g.D.Digests.functions (digests_of old)) old in
    record {
      host = record { settings = refl; requests = refl; digests = refl };
      goes_on = λ logs stands. stands;
      left = advances-first host (shown_world old);
      advanced = have-none host (shown_world old) c.requires.may;
    }

pub step-requires-clause-behind : goal.step-requires-clause-behind
step-requires-clause-behind g c = (c.requires.behind.0, c.loop-worker.invariant.goes_on c.requires.behind.0 c.requires.behind.1)

pub step-requires-clause-enabled : goal.step-requires-clause-enabled
step-requires-clause-enabled g c =
    let old = c.args.world.now in
    let functions = g.D.Digests.functions in
    let count : c.settings-worker-end.result.header.verifiers ≡ old.settings.header.verifiers = ap (λ (s : Settings). s.header.verifiers) c.settings-worker-end.ensures.value in
    let there : c.loop-worker.worker < length (shown_world old).workers =
    omega (arith, c.loop-worker-test.true, count, workers_are (functions (digests_of old)) old c.requires.behind.0 c.requires.behind.1) in
    enabled_now functions old c.loop-worker.world c.loop-worker.invariant.host (advances c.loop-worker.worker)
    (may_advance (host_of (functions (digests_of old)) old) (shown_world old) c.requires.may (shown_world c.loop-worker.world) c.loop-worker.worker c.loop-worker.invariant.advanced there)

pub returns-in-Some-clause-leads : goal.returns-in-Some-clause-leads
returns-in-Some-clause-leads g c =
    let old = c.args.world.now in
    let functions = g.D.Digests.functions in
    let host = host_of (functions (digests_of old)) old in
    let count : c.settings-worker-end.result.header.verifiers ≡ old.settings.header.verifiers = ap (λ (s : Settings). s.header.verifiers) c.settings-worker-end.ensures.value in
    let there : c.loop-worker.worker < length (shown_world old).workers =
    omega (arith, c.loop-worker-test.true, count, workers_are (functions (digests_of old)) old c.requires.behind.0 c.requires.behind.1) in
    let may = may_advance host (shown_world old) c.requires.may (shown_world c.loop-worker.world) c.loop-worker.worker c.loop-worker.invariant.advanced there in
    let now = c.loop-worker.world in
    let new = c.step.new.self in
    let event : WorldEvent Request = advances c.loop-worker.worker in
    subst (AdvancesOn host (shown_world old) (shown_world new) c.loop-worker.worker) c.in-Some.is
    (advances-next host (shown_world old) (shown_world now) (shown_world new) c.loop-worker.worker c.in_ok-end.field-0 there c.loop-worker.invariant.left may
    (stepped_first functions old now c.loop-worker.invariant.host new event c.in_ok-end.ensures.stepped)
    (ended_first functions old now c.loop-worker.invariant.host new event c.in_ok-end.field-0 c.in_ok-end.ensures.ended))

pub returns-in-Some-clause-goes_on : goal.returns-in-Some-clause-goes_on
returns-in-Some-clause-goes_on g c = λ logs stands. c.step.ensures.goes_on logs (c.loop-worker.invariant.goes_on logs stands)

pub loop-worker-preserved : goal.loop-worker-preserved
loop-worker-preserved g c =
    let old = c.args.world.now in
    let now = c.loop-worker.world in
    let new = c.step.new.self in
    let functions = g.D.Digests.functions in
    let host = host_of (functions (digests_of old)) old in
    let event : WorldEvent Request = advances c.loop-worker.worker in
    let count : c.settings-worker-end.result.header.verifiers ≡ old.settings.header.verifiers = ap (λ (s : Settings). s.header.verifiers) c.settings-worker-end.ensures.value in
    let there : c.loop-worker.worker < length (shown_world old).workers =
    omega (arith, c.loop-worker-test.true, count, workers_are (functions (digests_of old)) old c.requires.behind.0 c.requires.behind.1) in
    let have = c.loop-worker.invariant.advanced in
    let may = may_advance host (shown_world old) c.requires.may (shown_world now) c.loop-worker.worker have there in
    let next : suc c.loop-worker.worker ≡ c.loop-worker.worker + 1 = omega arith in
    let ended : c.in_ok-end.field-0 ≡ None = c.in_default.is in
    record {
      host = one_host old now new c.loop-worker.invariant.host c.step.ensures.host;
      goes_on = λ logs stands. c.step.ensures.goes_on logs (c.loop-worker.invariant.goes_on logs stands);
      left = subst (AdvancesLeft host (shown_world old) (shown_world new)) next
          (subst (AdvancesOn host (shown_world old) (shown_world new) c.loop-worker.worker) ended
          (advances-next host (shown_world old) (shown_world now) (shown_world new) c.loop-worker.worker c.in_ok-end.field-0 there c.loop-worker.invariant.left may
          (stepped_first functions old now c.loop-worker.invariant.host new event c.in_ok-end.ensures.stepped)
          (ended_first functions old now c.loop-worker.invariant.host new event c.in_ok-end.field-0 c.in_ok-end.ensures.ended)));
      advanced = subst (HaveAdvanced host (shown_world old) (shown_world new)) next
          (subst (Goes host (shown_world old) c.requires.may (shown_world now) c.loop-worker.worker have there (shown_world new)) ended
          (goes_next host (shown_world old) c.requires.may (shown_world now) c.loop-worker.worker have there (shown_world new) c.in_ok-end.field-0
          (stepped_first functions old now c.loop-worker.invariant.host new event c.in_ok-end.ensures.stepped)
          (ended_first functions old now c.loop-worker.invariant.host new event c.in_ok-end.field-0 c.in_ok-end.ensures.ended)));
    }

pub returns-clause-ended : goal.returns-clause-ended
returns-clause-ended g c =
    let old = c.args.world.now in
    let functions = g.D.Digests.functions in
    let count : c.settings-worker-end.result.header.verifiers ≡ old.settings.header.verifiers = ap (λ (s : Settings). s.header.verifiers) c.settings-worker-end.ensures.value in
    let whole : c.loop-worker.worker ≡ length (shown_world old).workers =
    omega (arith, c.loop-worker-test.false, c.loop-worker.auto.worker-end, count, workers_are (functions (digests_of old)) old c.requires.behind.0 c.requires.behind.1) in
    subst (HaveAdvanced (host_of (functions (digests_of old)) old) (shown_world old) (shown_world c.loop-worker.world)) whole c.loop-worker.invariant.advanced

pub returns-clause-leads : goal.returns-clause-leads
returns-clause-leads g c =
    let old = c.args.world.now in
    let functions = g.D.Digests.functions in
    let count : c.settings-worker-end.result.header.verifiers ≡ old.settings.header.verifiers = ap (λ (s : Settings). s.header.verifiers) c.settings-worker-end.ensures.value in
    let past : length (shown_world old).workers ≤ c.loop-worker.worker =
    omega (arith, c.loop-worker-test.false, count, workers_are (functions (digests_of old)) old c.requires.behind.0 c.requires.behind.1) in
    advances-all (host_of (functions (digests_of old)) old) (shown_world old) (shown_world c.loop-worker.world) c.loop-worker.worker past c.loop-worker.invariant.left

pub returns-in_err-end-clause-on_the_way : goal.returns-in_err-end-clause-on_the_way
returns-in_err-end-clause-on_the_way g c =
    let old = c.args.world.now in
    let now = c.loop-worker.world in
    let host = host_of (g.D.Digests.functions (digests_of old)) old in
    on_err c.from_residual.result
    (front_kept g.D.Digests.functions old now c.loop-worker.invariant.host c.step.new.self (all_advance host (shown_world old))
    (advances-front host (shown_world old) (shown_world now) c.loop-worker.worker c.loop-worker.invariant.left) c.in_err-end.ensures.as_before)
