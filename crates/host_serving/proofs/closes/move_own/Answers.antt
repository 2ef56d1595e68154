use Rattle.std.proofs.Common.{◌≡◌, ◌+◌, ◌<◌, ◌≤◌, length, None, refl, sym, ap, subst, arith}
use Rattle.merkle_records.specs.Merkle.{GivesDigests}
use Rattle.record_text.specs.declared.request.Request.{Request}
use Rattle.host_core.specs.WorldEvent.{WorldEvent, moves}
use Rattle.shipped_host.specs.declared.settings.Settings.{Settings}
use Rattle.host_world.specs.Behind.{host_of}
use Rattle.host_world.specs.Shown.{shown_world, digests_of, requests_of}
use Rattle.host_serving.specs.Form.{own_moves}
use Rattle.host_serving.proofs.MoveLemmas.{OwnBelow, own_first, own_through, may_move, goes_next, Goes}
use Rattle.host_serving.proofs.ClosePlanLemmas.{MovesLeft, MovesOn, moves-first, moves-all, moves-front, moves-next}
use Rattle.host_serving.proofs.CloseWorldLemmas.{one_host, enabled_now, stepped_first, ended_first, on_err, front_kept, workers_are, shard_count}
use Rattle.host_serving.proofs.closes.move_own.Goals as goal

pub loop-shard-init : goal.loop-shard-init
loop-shard-init g c =
    let old = c.args.world.now in
    let host = host_of (g.D.Digests.functions (digests_of old)) old in
    let number : c.args.worker ≡ c.from-shard.result = sym c.from-shard.ensures in
    record {
      host = record { settings = refl; requests = refl; digests = refl };
      goes_on = λ logs stands. stands;
      left = subst (MovesLeft host (shown_world old) c.args.worker (shown_world old)) number
          (moves-first host (shown_world old) c.args.worker c.requires.may.there);
      below = subst (OwnBelow host (shown_world old) c.args.worker (shown_world old)) number
          (own_first host (c.the_shipped_host_is_steady.ensures.close (g.D.Digests.functions (digests_of old)) old.settings (requests_of old)) (shown_world old) c.args.worker
          c.requires.may);
    }

pub step-requires-clause-behind : goal.step-requires-clause-behind
step-requires-clause-behind g c = (c.requires.behind.0, c.loop-shard.invariant.goes_on c.requires.behind.0 c.requires.behind.1)

pub step-requires-clause-enabled : goal.step-requires-clause-enabled
step-requires-clause-enabled g c =
    let old = c.args.world.now in
    let now = c.loop-shard.world in
    let functions = g.D.Digests.functions in
    let host = host_of (functions (digests_of old)) old in
    let digests : GivesDigests (functions (digests_of old)).digest = λ text. (g.met.D.Digests.text_digest_shape old.d.now text).size in
    let count : c.settings-settings.result.shards ≡ old.settings.shards = ap (λ (s : Settings). s.shards) c.settings-settings.ensures.value in
    let there : c.loop-shard.shard < length (shown_world old).shards =
    omega (arith, c.loop-shard-test.true, count, shard_count (functions (digests_of old)) old c.requires.behind.0 c.requires.behind.1 digests) in
    let keep = c.the_shipped_host_is_steady.ensures.close (functions (digests_of old)) old.settings (requests_of old) in
    enabled_now functions old now c.loop-shard.invariant.host (moves c.args.worker c.loop-shard.shard)
    (may_move host keep (shown_world old) c.args.worker c.requires.may (shown_world now) c.loop-shard.shard c.loop-shard.invariant.below there)

pub returns-in-Some-clause-leads : goal.returns-in-Some-clause-leads
returns-in-Some-clause-leads g c =
    let old = c.args.world.now in
    let now = c.loop-shard.world in
    let new = c.step.new.self in
    let functions = g.D.Digests.functions in
    let host = host_of (functions (digests_of old)) old in
    let digests : GivesDigests (functions (digests_of old)).digest = λ text. (g.met.D.Digests.text_digest_shape old.d.now text).size in
    let count : c.settings-settings.result.shards ≡ old.settings.shards = ap (λ (s : Settings). s.shards) c.settings-settings.ensures.value in
    let there : c.loop-shard.shard < length (shown_world old).shards =
    omega (arith, c.loop-shard-test.true, count, shard_count (functions (digests_of old)) old c.requires.behind.0 c.requires.behind.1 digests) in
    let keep = c.the_shipped_host_is_steady.ensures.close (functions (digests_of old)) old.settings (requests_of old) in
    let may = may_move host keep (shown_world old) c.args.worker c.requires.may (shown_world now) c.loop-shard.shard c.loop-shard.invariant.below there in
    let event : WorldEvent Request = moves c.args.worker c.loop-shard.shard in
    subst (MovesOn host (shown_world old) c.args.worker (shown_world new) c.loop-shard.shard) c.in-Some.is
    (moves-next host (shown_world old) c.args.worker (shown_world now) (shown_world new) c.loop-shard.shard c.in_ok-end.field-0 c.requires.may.there
    c.loop-shard.invariant.below.own there c.loop-shard.invariant.left may
    (stepped_first functions old now c.loop-shard.invariant.host new event c.in_ok-end.ensures.stepped)
    (ended_first functions old now c.loop-shard.invariant.host new event c.in_ok-end.field-0 c.in_ok-end.ensures.ended))

pub returns-in-Some-clause-ended : goal.returns-in-Some-clause-ended
returns-in-Some-clause-ended g c =
    let old = c.args.world.now in
    let now = c.loop-shard.world in
    let new = c.step.new.self in
    let functions = g.D.Digests.functions in
    let host = host_of (functions (digests_of old)) old in
    let event : WorldEvent Request = moves c.args.worker c.loop-shard.shard in
    let digests : GivesDigests (functions (digests_of old)).digest = λ text. (g.met.D.Digests.text_digest_shape old.d.now text).size in
    let count : c.settings-settings.result.shards ≡ old.settings.shards = ap (λ (s : Settings). s.shards) c.settings-settings.ensures.value in
    let there : c.loop-shard.shard < length (shown_world old).shards =
    omega (arith, c.loop-shard-test.true, count, shard_count (functions (digests_of old)) old c.requires.behind.0 c.requires.behind.1 digests) in
    let keep = c.the_shipped_host_is_steady.ensures.close (functions (digests_of old)) old.settings (requests_of old) in
    subst (Goes host keep (shown_world old) c.args.worker c.requires.may (shown_world now) c.loop-shard.shard c.loop-shard.invariant.below there (shown_world new)) c.in-Some.is
    (goes_next host keep (shown_world old) c.args.worker c.requires.may (shown_world now) c.loop-shard.shard c.loop-shard.invariant.below there (shown_world new) c.in_ok-end.field-0
    (stepped_first functions old now c.loop-shard.invariant.host new event c.in_ok-end.ensures.stepped)
    (ended_first functions old now c.loop-shard.invariant.host new event c.in_ok-end.field-0 c.in_ok-end.ensures.ended))

pub returns-in-Some-clause-goes_on : goal.returns-in-Some-clause-goes_on
returns-in-Some-clause-goes_on g c = λ logs stands. c.step.ensures.goes_on logs (c.loop-shard.invariant.goes_on logs stands)

pub loop-shard-preserved : goal.loop-shard-preserved
loop-shard-preserved g c =
    let old = c.args.world.now in
    let now = c.loop-shard.world in
    let new = c.step.new.self in
    let functions = g.D.Digests.functions in
    let host = host_of (functions (digests_of old)) old in
    let event : WorldEvent Request = moves c.args.worker c.loop-shard.shard in
    let digests : GivesDigests (functions (digests_of old)).digest = λ text. (g.met.D.Digests.text_digest_shape old.d.now text).size in
    let count : c.settings-settings.result.shards ≡ old.settings.shards = ap (λ (s : Settings). s.shards) c.settings-settings.ensures.value in
    let numbers : c.settings-settings.result.header.verifiers ≡ old.settings.header.verifiers = ap (λ (s : Settings). s.header.verifiers) c.settings-settings.ensures.value in
    let there : c.loop-shard.shard < length (shown_world old).shards =
    omega (arith, c.loop-shard-test.true, count, shard_count (functions (digests_of old)) old c.requires.behind.0 c.requires.behind.1 digests) in
    let keep = c.the_shipped_host_is_steady.ensures.close (functions (digests_of old)) old.settings (requests_of old) in
    let may = may_move host keep (shown_world old) c.args.worker c.requires.may (shown_world now) c.loop-shard.shard c.loop-shard.invariant.below there in
    let ended : c.in_ok-end.field-0 ≡ None = c.in_default.is in
    let next : c.loop-shard.shard + length (shown_world old).workers ≡ c.loop-shard.shard + c.from-workers.result =
    omega (arith, c.from-workers.ensures, numbers, workers_are (functions (digests_of old)) old c.requires.behind.0 c.requires.behind.1) in
    record {
      host = one_host old now new c.loop-shard.invariant.host c.step.ensures.host;
      goes_on = λ logs stands. c.step.ensures.goes_on logs (c.loop-shard.invariant.goes_on logs stands);
      left = subst (MovesLeft host (shown_world old) c.args.worker (shown_world new)) next
          (subst (MovesOn host (shown_world old) c.args.worker (shown_world new) c.loop-shard.shard) ended
          (moves-next host (shown_world old) c.args.worker (shown_world now) (shown_world new) c.loop-shard.shard c.in_ok-end.field-0 c.requires.may.there
          c.loop-shard.invariant.below.own there c.loop-shard.invariant.left may
          (stepped_first functions old now c.loop-shard.invariant.host new event c.in_ok-end.ensures.stepped)
          (ended_first functions old now c.loop-shard.invariant.host new event c.in_ok-end.field-0 c.in_ok-end.ensures.ended)));
      below = subst (OwnBelow host (shown_world old) c.args.worker (shown_world new)) next
          (subst (Goes host keep (shown_world old) c.args.worker c.requires.may (shown_world now) c.loop-shard.shard c.loop-shard.invariant.below there (shown_world new)) ended
          (goes_next host keep (shown_world old) c.args.worker c.requires.may (shown_world now) c.loop-shard.shard c.loop-shard.invariant.below there (shown_world new) c.in_ok-end.field-0
          (stepped_first functions old now c.loop-shard.invariant.host new event c.in_ok-end.ensures.stepped)
          (ended_first functions old now c.loop-shard.invariant.host new event c.in_ok-end.field-0 c.in_ok-end.ensures.ended)));
    }

pub returns-clause-ended : goal.returns-clause-ended
returns-clause-ended g c =
    let old = c.args.world.now in
    let now = c.loop-shard.world in
    let functions = g.D.Digests.functions in
    let host = host_of (functions (digests_of old)) old in
    let digests : GivesDigests (functions (digests_of old)).digest = λ text. (g.met.D.Digests.text_digest_shape old.d.now text).size in
    let count : c.settings-settings.result.shards ≡ old.settings.shards = ap (λ (s : Settings). s.shards) c.settings-settings.ensures.value in
    let past : length (shown_world old).shards ≤ c.loop-shard.shard =
    omega (arith, c.loop-shard-test.false, count, shard_count (functions (digests_of old)) old c.requires.behind.0 c.requires.behind.1 digests) in
    let keep = c.the_shipped_host_is_steady.ensures.close (functions (digests_of old)) old.settings (requests_of old) in
    own_through host keep (shown_world old) c.args.worker c.requires.may (shown_world now) c.loop-shard.shard c.loop-shard.invariant.below past

pub returns-clause-leads : goal.returns-clause-leads
returns-clause-leads g c =
    let old = c.args.world.now in
    let functions = g.D.Digests.functions in
    let digests : GivesDigests (functions (digests_of old)).digest = λ text. (g.met.D.Digests.text_digest_shape old.d.now text).size in
    let count : c.settings-settings.result.shards ≡ old.settings.shards = ap (λ (s : Settings). s.shards) c.settings-settings.ensures.value in
    let past : length (shown_world old).shards ≤ c.loop-shard.shard =
    omega (arith, c.loop-shard-test.false, count, shard_count (functions (digests_of old)) old c.requires.behind.0 c.requires.behind.1 digests) in
    moves-all (host_of (functions (digests_of old)) old) (shown_world old) c.args.worker (shown_world c.loop-shard.world) c.loop-shard.shard past c.loop-shard.invariant.left

pub returns-in_err-end-clause-on_the_way : goal.returns-in_err-end-clause-on_the_way
returns-in_err-end-clause-on_the_way g c =
    let old = c.args.world.now in
    let now = c.loop-shard.world in
    let host = host_of (g.D.Digests.functions (digests_of old)) old in
    on_err c.from_residual.result
    (front_kept g.D.Digests.functions old now c.loop-shard.invariant.host c.step.new.self (own_moves host (shown_world old) c.args.worker)
    (moves-front host (shown_world old) c.args.worker (shown_world now) c.loop-shard.shard c.loop-shard.invariant.left) c.in_err-end.ensures.as_before)
