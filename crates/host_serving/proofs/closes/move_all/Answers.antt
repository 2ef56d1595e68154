use Rattle.std.proofs.Common.{◌≡◌, suc, ◌+◌, ◌<◌, ◌≤◌, length, Option, refl, ap, sym, subst, ◌∙◌, arith}
use Rattle.record_text.specs.declared.request.Request.{Request}
use Rattle.host_core.specs.Host.{Host}
use Rattle.host_shard.specs.Content.{Content}
use Rattle.host_world.specs.declared.fault.ClockEnd.{ClockEnd}
use Rattle.shipped_host.specs.declared.settings.Settings.{Settings}
use Rattle.host_world.specs.Behind.{host_of}
use Rattle.host_world.specs.Shown.{shown_world, digests_of}
use Rattle.host_serving.specs.Leading.{first_of}
use Rattle.host_serving.specs.Form.{own_moves}
use Rattle.host_serving.specs.Closing.{CanMoveOwn, EndsOwn}
use Rattle.host_serving.proofs.MoveLemmas.{AllBelow, all_first, all_through, may_begin, all_next}
use Rattle.host_serving.proofs.ClosePlanLemmas.{EachLeft, each-first, each-all, each-next, each-front}
use Rattle.host_serving.proofs.CloseWorldLemmas.{one_host, host_same, by_first, front_first, on_err, first_of-or, workers_are}
use Rattle.host_serving.proofs.closes.move_all.Goals as goal

pub loop-mover-init : goal.loop-mover-init
loop-mover-init g c =
    let old = c.args.world.now in
    let host = host_of (g.D.Digests.functions (digests_of old)) old in
    record {
      host = record { settings = refl; requests = refl; digests = refl };
      goes_on = λ logs stands. stands;
      left = each-first host (shown_world old);
      below = all_first host (shown_world old) c.requires.may;
    }

pub move_own-requires-clause-behind : goal.move_own-requires-clause-behind
move_own-requires-clause-behind g c = (c.requires.behind.0, c.loop-mover.invariant.goes_on c.requires.behind.0 c.requires.behind.1)

pub move_own-requires-clause-may : goal.move_own-requires-clause-may
move_own-requires-clause-may g c =
    let old = c.args.world.now in
    let now = c.loop-mover.world in
    let functions = g.D.Digests.functions in
    let host = host_of (functions (digests_of old)) old in
    let count : c.settings-mover-end.result.header.verifiers ≡ old.settings.header.verifiers = ap (λ (s : Settings). s.header.verifiers) c.settings-mover-end.ensures.value in
    let there : c.loop-mover.mover < length (shown_world old).workers =
    omega (arith, c.loop-mover-test.true, count, workers_are (functions (digests_of old)) old c.requires.behind.0 c.requires.behind.1) in
    subst (λ (h : Host Content Request). CanMoveOwn h (shown_world now) c.loop-mover.mover) (sym (host_same functions old now c.loop-mover.invariant.host))
    (may_begin host (shown_world old) c.requires.may (shown_world now) c.loop-mover.first c.loop-mover.mover c.loop-mover.invariant.below there)

pub loop-mover-preserved : goal.loop-mover-preserved
loop-mover-preserved g c =
    let old = c.args.world.now in
    let now = c.loop-mover.world in
    let new = c.move_own.new.world in
    let end = c.in_ok-end.end in
    let functions = g.D.Digests.functions in
    let host = host_of (functions (digests_of old)) old in
    let same = host_same functions old now c.loop-mover.invariant.host in
    let count : c.settings-mover-end.result.header.verifiers ≡ old.settings.header.verifiers = ap (λ (s : Settings). s.header.verifiers) c.settings-mover-end.ensures.value in
    let there : c.loop-mover.mover < length (shown_world old).workers =
    omega (arith, c.loop-mover-test.true, count, workers_are (functions (digests_of old)) old c.requires.behind.0 c.requires.behind.1) in
    let next : suc c.loop-mover.mover ≡ c.loop-mover.mover + 1 = omega arith in
    let first : first_of c.loop-mover.first end ≡ c.or-first.result = first_of-or c.loop-mover.first end ∙ sym c.or-first.ensures in
    record {
      host = one_host old now new c.loop-mover.invariant.host c.move_own.ensures.host;
      goes_on = λ logs stands. c.move_own.ensures.goes_on logs (c.loop-mover.invariant.goes_on logs stands);
      left = subst (λ (e : Option ClockEnd). EachLeft host (shown_world old) (shown_world new) e (c.loop-mover.mover + 1)) first
          (subst (EachLeft host (shown_world old) (shown_world new) (first_of c.loop-mover.first end)) next
          (each-next host (shown_world old) (shown_world now) (shown_world new) c.loop-mover.first c.loop-mover.mover there c.loop-mover.invariant.left end
          (by_first functions old now c.loop-mover.invariant.host new end (λ h. own_moves h (shown_world now) c.loop-mover.mover) c.in_ok-end.ensures.leads)));
      below = subst (λ (e : Option ClockEnd). AllBelow host (shown_world old) (shown_world new) e (c.loop-mover.mover + 1)) first
          (subst (AllBelow host (shown_world old) (shown_world new) (first_of c.loop-mover.first end)) next
          (all_next host (shown_world old) (shown_world now) (shown_world new) c.loop-mover.mover c.loop-mover.first end there c.loop-mover.invariant.below
          (subst (λ (h : Host Content Request). EndsOwn h (shown_world now) c.loop-mover.mover (shown_world new) end) same c.in_ok-end.ensures.ended)));
    }

pub returns-clause-ended : goal.returns-clause-ended
returns-clause-ended g c =
    let old = c.args.world.now in
    let now = c.loop-mover.world in
    let functions = g.D.Digests.functions in
    let host = host_of (functions (digests_of old)) old in
    let count : c.settings-mover-end.result.header.verifiers ≡ old.settings.header.verifiers = ap (λ (s : Settings). s.header.verifiers) c.settings-mover-end.ensures.value in
    let past : length (shown_world old).workers ≤ c.loop-mover.mover =
    omega (arith, c.loop-mover-test.false, count, workers_are (functions (digests_of old)) old c.requires.behind.0 c.requires.behind.1) in
    all_through host (shown_world old) (shown_world now) c.loop-mover.first c.loop-mover.mover past c.loop-mover.invariant.below

pub returns-clause-leads : goal.returns-clause-leads
returns-clause-leads g c =
    let old = c.args.world.now in
    let functions = g.D.Digests.functions in
    let count : c.settings-mover-end.result.header.verifiers ≡ old.settings.header.verifiers = ap (λ (s : Settings). s.header.verifiers) c.settings-mover-end.ensures.value in
    let past : length (shown_world old).workers ≤ c.loop-mover.mover =
    omega (arith, c.loop-mover-test.false, count, workers_are (functions (digests_of old)) old c.requires.behind.0 c.requires.behind.1) in
    each-all (host_of (functions (digests_of old)) old) (shown_world old) (shown_world c.loop-mover.world) c.loop-mover.first c.loop-mover.mover past c.loop-mover.invariant.left

pub returns-in_err-end-clause-on_the_way : goal.returns-in_err-end-clause-on_the_way
returns-in_err-end-clause-on_the_way g c =
    let old = c.args.world.now in
    let now = c.loop-mover.world in
    let new = c.move_own.new.world in
    let functions = g.D.Digests.functions in
    let host = host_of (functions (digests_of old)) old in
    let count : c.settings-mover-end.result.header.verifiers ≡ old.settings.header.verifiers = ap (λ (s : Settings). s.header.verifiers) c.settings-mover-end.ensures.value in
    let there : c.loop-mover.mover < length (shown_world old).workers =
    omega (arith, c.loop-mover-test.true, count, workers_are (functions (digests_of old)) old c.requires.behind.0 c.requires.behind.1) in
    on_err c.from_residual.result
    (each-front host (shown_world old) (shown_world now) (shown_world new) c.loop-mover.first c.loop-mover.mover there c.loop-mover.invariant.left
    (front_first functions old now c.loop-mover.invariant.host new (λ h. own_moves h (shown_world now) c.loop-mover.mover) c.in_err-end.ensures.on_the_way))
