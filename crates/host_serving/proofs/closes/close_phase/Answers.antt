use Rattle.std.proofs.Common.{◌≡◌, ℕ, suc, ◌<◌, length, Option, Some, None, Result, OnOk, IfOk, IfSome, sym, ap, subst, ◌∙◌, arith}
use Rattle.std.proofs.lemmas.Bool.{false≢true}
use Rattle.base_words.specs.declared.memory.Memory.{Memory}
use Rattle.record_text.specs.declared.request.Request.{Request}
use Rattle.host_core.specs.Host.{Host}
use Rattle.host_core.specs.World.{World, worker_at}
use Rattle.host_core.specs.WorldEvent.{opens, step, IsLast}
use Rattle.host_shard.specs.Content.{Content}
use Rattle.host_world.specs.declared.fault.ClockEnd.{ClockEnd}
use Rattle.host_world.specs.Ending.{end_of}
use Rattle.host_world.specs.Behind.{host_of}
use Rattle.host_world.specs.Shown.{shown_world, digests_of}
use Rattle.host_serving.specs.Leading.{Leads, LeadsBy, LeadsAs, LeadsByFront, CanDoNoMore}
use Rattle.host_serving.specs.Form.{AreOfClose, all_advance, events_of_shards, events_of_close}
use Rattle.host_serving.specs.Standing.{BeginsRound, NoneStopped, NoneStuckBelow}
use Rattle.host_serving.specs.Closing.{CanAllAdvance, HaveAdvanced, EndsAdvance, EndsShards, ShardsAreClosed}
use Rattle.host_serving.proofs.CloseLemmas.{advance_rests, advance_lowest, advance_kept, again, may_open, is_closed, closed_phase, closed_running, closed_rests, opened_begins, opened_phase, opened_running}
use Rattle.host_serving.proofs.LeadingLaws.{leads-by}
use Rattle.host_serving.proofs.ClosePlanLemmas.{as_close, close-stopped, close-front, close-last, close-last_front, close-opened, close-unopened}
use Rattle.host_serving.proofs.CloseWorldLemmas.{host_same, enabled_now, stepped_first, ended_first, by_first, front_first, on_err, on_err_then, on_ok_then, if_ok_then, ok_and_if, workers_are, rolling_closes}
use Rattle.host_serving.proofs.closes.close_phase.Goals as goal

pub advance_all-requires-clause-may : goal.advance_all-requires-clause-may
advance_all-requires-clause-may g c =
    let old = c.args.world.now in
    let now = c.close_shards.new.world in
    let host = host_of (g.D.Digests.functions (digests_of old)) old in
    let closed : ShardsAreClosed host (shown_world old) (shown_world now) = subst (EndsShards host (shown_world old) (shown_world now)) c.in_default.is c.in_ok-end.ensures.ended in
    subst (λ (h : Host Content Request). CanAllAdvance h (shown_world now)) (sym (host_same g.D.Digests.functions old now c.close_shards.ensures.host))
    (again host (shown_world old) (shown_world now) closed (c.requires.last.0 c.if-last.true))

pub step-requires-clause-enabled : goal.step-requires-clause-enabled
step-requires-clause-enabled g c =
    let old = c.args.world.now in
    let now = c.close_shards.new.world in
    let host = host_of (g.D.Digests.functions (digests_of old)) old in
    let closed : ShardsAreClosed host (shown_world old) (shown_world now) = subst (EndsShards host (shown_world old) (shown_world now)) c.in_default.is c.in_ok-end.ensures.ended in
    let more : IsLast host (shown_world old) → ⊥ = λ last. false≢true (sym c.if-last.false ∙ c.requires.last.1 last) in
    enabled_now g.D.Digests.functions old now c.close_shards.ensures.host opens (may_open host (shown_world old) (shown_world now) closed more)

pub returns-in-Some-clause-ended : goal.returns-in-Some-clause-ended
returns-in-Some-clause-ended g c =
    let old = c.args.world.now in
    let host = host_of (g.D.Digests.functions (digests_of old)) old in
    (subst (EndsShards host (shown_world old) (shown_world c.close_shards.new.world)) c.in-Some.is c.in_ok-end.ensures.ended).0

pub returns-in-Some-clause-lowest : goal.returns-in-Some-clause-lowest
returns-in-Some-clause-lowest g c =
    let old = c.args.world.now in
    let host = host_of (g.D.Digests.functions (digests_of old)) old in
    (subst (EndsShards host (shown_world old) (shown_world c.close_shards.new.world)) c.in-Some.is c.in_ok-end.ensures.ended).1

pub returns-in-Some-clause-stopped : goal.returns-in-Some-clause-stopped
returns-in-Some-clause-stopped g c =
    let old = c.args.world.now in
    let host = host_of (g.D.Digests.functions (digests_of old)) old in
    let ends = subst (EndsShards host (shown_world old) (shown_world c.close_shards.new.world)) c.in-Some.is c.in_ok-end.ensures.ended in
    λ i. (ends.2 i).stopped

pub returns-then-last-clause-closed : goal.returns-then-last-clause-closed
returns-then-last-clause-closed g c = λ answered last.
    let old = c.args.world.now in
    let now = c.close_shards.new.world in
    let new = c.advance_all.new.world in
    let functions = g.D.Digests.functions in
    let host = host_of (functions (digests_of old)) old in
    let some : 0 < length (shown_world old).workers =
    omega (arith, workers_are (functions (digests_of old)) old c.requires.behind.0 c.requires.behind.1, c.requires.behind.1.behind.settings_fit.header.some_verifiers) in
    let closed : ShardsAreClosed host (shown_world old) (shown_world now) = subst (EndsShards host (shown_world old) (shown_world now)) c.in_default.is c.in_ok-end.ensures.ended in
    let have : HaveAdvanced host (shown_world now) (shown_world new) (length (shown_world now).workers) =
    subst (λ (h : Host Content Request). HaveAdvanced h (shown_world now) (shown_world new) (length (shown_world now).workers)) (host_same functions old now c.close_shards.ensures.host)
    (subst (λ (r : Result (Option ClockEnd) Memory). IfOk r (EndsAdvance (host_of (functions (digests_of now)) now) (shown_world now) (shown_world new))) answered c.advance_all.ensures.ended) in (
      is_closed host (shown_world old) (shown_world now) closed (shown_world new) some have,
      closed_phase host (shown_world old) (shown_world now) closed (shown_world new) some have,
      closed_running host (shown_world old) (shown_world now) closed (shown_world new) some have,
    )

pub returns-then-last-clause-rests : goal.returns-then-last-clause-rests
returns-then-last-clause-rests g c = λ answered last.
    let old = c.args.world.now in
    let now = c.close_shards.new.world in
    let new = c.advance_all.new.world in
    let functions = g.D.Digests.functions in
    let host = host_of (functions (digests_of old)) old in
    let some : 0 < length (shown_world old).workers =
    omega (arith, workers_are (functions (digests_of old)) old c.requires.behind.0 c.requires.behind.1, c.requires.behind.1.behind.settings_fit.header.some_verifiers) in
    let closed : ShardsAreClosed host (shown_world old) (shown_world now) = subst (EndsShards host (shown_world old) (shown_world now)) c.in_default.is c.in_ok-end.ensures.ended in
    let have : HaveAdvanced host (shown_world now) (shown_world new) (length (shown_world now).workers) =
    subst (λ (h : Host Content Request). HaveAdvanced h (shown_world now) (shown_world new) (length (shown_world now).workers)) (host_same functions old now c.close_shards.ensures.host)
    (subst (λ (r : Result (Option ClockEnd) Memory). IfOk r (EndsAdvance (host_of (functions (digests_of now)) now) (shown_world now) (shown_world new))) answered c.advance_all.ensures.ended) in
    closed_rests host (shown_world old) (shown_world now) closed (shown_world new) some have

pub returns-then-last-clause-ended : goal.returns-then-last-clause-ended
returns-then-last-clause-ended g c =
    let old = c.args.world.now in
    let now = c.close_shards.new.world in
    let new = c.advance_all.new.world in
    let functions = g.D.Digests.functions in
    let host = host_of (functions (digests_of old)) old in
    if_ok_then (EndsAdvance (host_of (functions (digests_of now)) now) (shown_world now) (shown_world new)) (λ end. IfSome end (λ _. CanDoNoMore host (shown_world new))) c.advance_all.result
    (λ end ends. advance_rests host (shown_world now) (shown_world new) end
    (subst (λ (h : Host Content Request). EndsAdvance h (shown_world now) (shown_world new) end) (host_same functions old now c.close_shards.ensures.host) ends))
    c.advance_all.ensures.ended

pub returns-then-last-clause-lowest : goal.returns-then-last-clause-lowest
returns-then-last-clause-lowest g c =
    let old = c.args.world.now in
    let now = c.close_shards.new.world in
    let new = c.advance_all.new.world in
    let functions = g.D.Digests.functions in
    let host = host_of (functions (digests_of old)) old in
    if_ok_then (EndsAdvance (host_of (functions (digests_of now)) now) (shown_world now) (shown_world new)) (λ end. IfSome end (λ found. NoneStuckBelow host (shown_world new) found.worker)) c.advance_all.result
    (λ end ends. advance_lowest host (shown_world now) (shown_world new) end
    (subst (λ (h : Host Content Request). EndsAdvance h (shown_world now) (shown_world new) end) (host_same functions old now c.close_shards.ensures.host) ends))
    c.advance_all.ensures.ended

pub returns-then-last-clause-stopped : goal.returns-then-last-clause-stopped
returns-then-last-clause-stopped g c =
    let old = c.args.world.now in
    let now = c.close_shards.new.world in
    let new = c.advance_all.new.world in
    let functions = g.D.Digests.functions in
    let host = host_of (functions (digests_of old)) old in
    let closed : ShardsAreClosed host (shown_world old) (shown_world now) = subst (EndsShards host (shown_world old) (shown_world now)) c.in_default.is c.in_ok-end.ensures.ended in
    if_ok_then (EndsAdvance (host_of (functions (digests_of now)) now) (shown_world now) (shown_world new))
    (λ end. (i : ℕ) → (worker_at host (shown_world new) i).stopped ≡ (worker_at host (shown_world old) i).stopped) c.advance_all.result
    (λ end ends i.
    (advance_kept host (shown_world now) (shown_world new) end
    (subst (λ (h : Host Content Request). EndsAdvance h (shown_world now) (shown_world new) end) (host_same functions old now c.close_shards.ensures.host) ends) i).stopped
    ∙ (closed.kept i).stopped)
    c.advance_all.ensures.ended

pub returns-else-last-clause-stopped : goal.returns-else-last-clause-stopped
returns-else-last-clause-stopped g c =
    let old = c.args.world.now in
    let now = c.close_shards.new.world in
    let new = c.step.new.self in
    let functions = g.D.Digests.functions in
    let host = host_of (functions (digests_of old)) old in
    let closed : ShardsAreClosed host (shown_world old) (shown_world now) = subst (EndsShards host (shown_world old) (shown_world now)) c.in_default.is c.in_ok-end.ensures.ended in
    on_ok_then (shown_world new ≡ step (host_of (functions (digests_of now)) now) (shown_world now) opens)
    ((i : ℕ) → (worker_at host (shown_world new) i).stopped ≡ (worker_at host (shown_world old) i).stopped) c.step.result
    (λ stepped i.
    ap (λ (w : World Content). (worker_at host w i).stopped) (stepped_first functions old now c.close_shards.ensures.host new opens stepped) ∙ (closed.kept i).stopped)
    c.step.ensures.stepped

pub returns-in-Some-clause-leads : goal.returns-in-Some-clause-leads
returns-in-Some-clause-leads g c =
    let old = c.args.world.now in
    let now = c.close_shards.new.world in
    let functions = g.D.Digests.functions in
    let host = host_of (functions (digests_of old)) old in
    leads-by host (shown_world old) (shown_world now) (Some c.in-Some.end) (events_of_close host (shown_world old) c.args.last)
    (close-stopped host (shown_world old) c.args.last (shown_world now) c.in-Some.end
    (subst (λ (e : Option ClockEnd). LeadsBy host (shown_world old) (shown_world now) e (events_of_shards host (shown_world old))) c.in-Some.is c.in_ok-end.ensures.leads))

pub returns-in-Some-clause-form : goal.returns-in-Some-clause-form
returns-in-Some-clause-form g c =
    let old = c.args.world.now in
    let now = c.close_shards.new.world in
    let functions = g.D.Digests.functions in
    let host = host_of (functions (digests_of old)) old in
    as_close host (shown_world old) c.args.last (shown_world now) (Some c.in-Some.end) c.requires.last
    (close-stopped host (shown_world old) c.args.last (shown_world now) c.in-Some.end
    (subst (λ (e : Option ClockEnd). LeadsBy host (shown_world old) (shown_world now) e (events_of_shards host (shown_world old))) c.in-Some.is c.in_ok-end.ensures.leads))

pub returns-then-last-clause-leads : goal.returns-then-last-clause-leads
returns-then-last-clause-leads g c =
    let old = c.args.world.now in
    let now = c.close_shards.new.world in
    let functions = g.D.Digests.functions in
    let host = host_of (functions (digests_of old)) old in
    let new = c.advance_all.new.world in
    let host' = host_of (functions (digests_of now)) now in
    let way : LeadsBy host (shown_world old) (shown_world now) None (events_of_shards host (shown_world old)) =
    subst (λ (e : Option ClockEnd). LeadsBy host (shown_world old) (shown_world now) e (events_of_shards host (shown_world old))) c.in_default.is c.in_ok-end.ensures.leads in
    if_ok_then (λ end. LeadsBy host' (shown_world now) (shown_world new) end (all_advance host' (shown_world now))) (Leads host (shown_world old) (shown_world new)) c.advance_all.result
    (λ end more. leads-by host (shown_world old) (shown_world new) end (events_of_close host (shown_world old) c.args.last)
    (close-last host (shown_world old) c.args.last (shown_world now) (shown_world new) way end c.if-last.true
    (by_first functions old now c.close_shards.ensures.host new end (λ h. all_advance h (shown_world now)) more))) c.advance_all.ensures.leads

pub returns-then-last-clause-form : goal.returns-then-last-clause-form
returns-then-last-clause-form g c =
    let old = c.args.world.now in
    let now = c.close_shards.new.world in
    let functions = g.D.Digests.functions in
    let host = host_of (functions (digests_of old)) old in
    let new = c.advance_all.new.world in
    let host' = host_of (functions (digests_of now)) now in
    let way : LeadsBy host (shown_world old) (shown_world now) None (events_of_shards host (shown_world old)) =
    subst (λ (e : Option ClockEnd). LeadsBy host (shown_world old) (shown_world now) e (events_of_shards host (shown_world old))) c.in_default.is c.in_ok-end.ensures.leads in
    if_ok_then (λ end. LeadsBy host' (shown_world now) (shown_world new) end (all_advance host' (shown_world now))) (LeadsAs AreOfClose host (shown_world old) (shown_world new)) c.advance_all.result
    (λ end more. as_close host (shown_world old) c.args.last (shown_world new) end c.requires.last
    (close-last host (shown_world old) c.args.last (shown_world now) (shown_world new) way end c.if-last.true
    (by_first functions old now c.close_shards.ensures.host new end (λ h. all_advance h (shown_world now)) more))) c.advance_all.ensures.leads

pub returns-else-last-clause-leads : goal.returns-else-last-clause-leads
returns-else-last-clause-leads g c =
    let old = c.args.world.now in
    let now = c.close_shards.new.world in
    let functions = g.D.Digests.functions in
    let host = host_of (functions (digests_of old)) old in
    let new = c.step.new.self in
    let host' = host_of (functions (digests_of now)) now in
    let way : LeadsBy host (shown_world old) (shown_world now) None (events_of_shards host (shown_world old)) =
    subst (λ (e : Option ClockEnd). LeadsBy host (shown_world old) (shown_world now) e (events_of_shards host (shown_world old))) c.in_default.is c.in_ok-end.ensures.leads in
    let closed : ShardsAreClosed host (shown_world old) (shown_world now) = subst (EndsShards host (shown_world old) (shown_world now)) c.in_default.is c.in_ok-end.ensures.ended in
    let more : IsLast host (shown_world old) → ⊥ = λ last. false≢true (sym c.if-last.false ∙ c.requires.last.1 last) in
    ok_and_if (shown_world new ≡ step host' (shown_world now) opens) (λ end. end ≡ end_of host' (shown_world now) opens) (Leads host (shown_world old) (shown_world new)) c.step.result
    (λ end stepped ends. leads-by host (shown_world old) (shown_world new) end (events_of_close host (shown_world old) c.args.last)
    (close-opened host (shown_world old) c.args.last (shown_world now) (shown_world new) way end c.if-last.false (may_open host (shown_world old) (shown_world now) closed more)
    (stepped_first functions old now c.close_shards.ensures.host new opens stepped)
    (ended_first functions old now c.close_shards.ensures.host new opens end ends))) c.step.ensures.stepped c.step.ensures.ended

pub returns-else-last-clause-form : goal.returns-else-last-clause-form
returns-else-last-clause-form g c =
    let old = c.args.world.now in
    let now = c.close_shards.new.world in
    let functions = g.D.Digests.functions in
    let host = host_of (functions (digests_of old)) old in
    let new = c.step.new.self in
    let host' = host_of (functions (digests_of now)) now in
    let way : LeadsBy host (shown_world old) (shown_world now) None (events_of_shards host (shown_world old)) =
    subst (λ (e : Option ClockEnd). LeadsBy host (shown_world old) (shown_world now) e (events_of_shards host (shown_world old))) c.in_default.is c.in_ok-end.ensures.leads in
    let closed : ShardsAreClosed host (shown_world old) (shown_world now) = subst (EndsShards host (shown_world old) (shown_world now)) c.in_default.is c.in_ok-end.ensures.ended in
    let more : IsLast host (shown_world old) → ⊥ = λ last. false≢true (sym c.if-last.false ∙ c.requires.last.1 last) in
    ok_and_if (shown_world new ≡ step host' (shown_world now) opens) (λ end. end ≡ end_of host' (shown_world now) opens) (LeadsAs AreOfClose host (shown_world old) (shown_world new)) c.step.result
    (λ end stepped ends. as_close host (shown_world old) c.args.last (shown_world new) end c.requires.last
    (close-opened host (shown_world old) c.args.last (shown_world now) (shown_world new) way end c.if-last.false (may_open host (shown_world old) (shown_world now) closed more)
    (stepped_first functions old now c.close_shards.ensures.host new opens stepped)
    (ended_first functions old now c.close_shards.ensures.host new opens end ends))) c.step.ensures.stepped c.step.ensures.ended

pub returns-else-last-clause-opened : goal.returns-else-last-clause-opened
returns-else-last-clause-opened g c = λ answered not_last.
    let old = c.args.world.now in
    let now = c.close_shards.new.world in
    let new = c.step.new.self in
    let host = host_of (g.D.Digests.functions (digests_of old)) old in
    let closed : ShardsAreClosed host (shown_world old) (shown_world now) = subst (EndsShards host (shown_world old) (shown_world now)) c.in_default.is c.in_ok-end.ensures.ended in
    let more : IsLast host (shown_world old) → ⊥ = λ last. false≢true (sym c.if-last.false ∙ c.requires.last.1 last) in
    let stepped : shown_world new ≡ step (host_of (g.D.Digests.functions (digests_of now)) now) (shown_world now) opens =
    subst (λ (r : Result (Option ClockEnd) _). OnOk r (shown_world new ≡ step (host_of (g.D.Digests.functions (digests_of now)) now) (shown_world now) opens)) answered c.step.ensures.stepped in
    let is = stepped_first g.D.Digests.functions old now c.close_shards.ensures.host new opens stepped in
    let end = rolling_closes (g.D.Digests.functions (digests_of old)) old c.requires.behind.0 c.requires.behind.1 in
    subst (λ (w : World Content). BeginsRound host w × (w.phase ≡ suc (shown_world old).phase) × NoneStopped host w) (sym is) (
      opened_begins host (shown_world old) (shown_world now) closed c.requires.served end more,
      opened_phase host (shown_world old) (shown_world now) closed c.requires.served end more,
      opened_running host (shown_world old) (shown_world now) closed c.requires.served end more,
    )

pub returns-in_err-end-clause-on_the_way : goal.returns-in_err-end-clause-on_the_way
returns-in_err-end-clause-on_the_way g c =
    let old = c.args.world.now in
    let now = c.close_shards.new.world in
    on_err c.from_residual.result
    (close-front (host_of (g.D.Digests.functions (digests_of old)) old) (shown_world old) c.args.last (shown_world now) c.in_err-end.ensures.on_the_way)

pub returns-then-last-clause-on_the_way : goal.returns-then-last-clause-on_the_way
returns-then-last-clause-on_the_way g c =
    let old = c.args.world.now in
    let now = c.close_shards.new.world in
    let functions = g.D.Digests.functions in
    let host = host_of (functions (digests_of old)) old in
    let new = c.advance_all.new.world in
    let host' = host_of (functions (digests_of now)) now in
    let way : LeadsBy host (shown_world old) (shown_world now) None (events_of_shards host (shown_world old)) =
    subst (λ (e : Option ClockEnd). LeadsBy host (shown_world old) (shown_world now) e (events_of_shards host (shown_world old))) c.in_default.is c.in_ok-end.ensures.leads in
    on_err_then (LeadsByFront host' (shown_world now) (shown_world new) (all_advance host' (shown_world now)))
    (LeadsByFront host (shown_world old) (shown_world new) (events_of_close host (shown_world old) c.args.last)) c.advance_all.result
    (λ some. close-last_front host (shown_world old) c.args.last (shown_world now) (shown_world new) way c.if-last.true
    (front_first functions old now c.close_shards.ensures.host new (λ h. all_advance h (shown_world now)) some)) c.advance_all.ensures.on_the_way

pub returns-else-last-clause-on_the_way : goal.returns-else-last-clause-on_the_way
returns-else-last-clause-on_the_way g c =
    let old = c.args.world.now in
    let now = c.close_shards.new.world in
    let functions = g.D.Digests.functions in
    let host = host_of (functions (digests_of old)) old in
    let new = c.step.new.self in
    let way : LeadsBy host (shown_world old) (shown_world now) None (events_of_shards host (shown_world old)) =
    subst (λ (e : Option ClockEnd). LeadsBy host (shown_world old) (shown_world now) e (events_of_shards host (shown_world old))) c.in_default.is c.in_ok-end.ensures.leads in
    on_err_then (shown_world new ≡ shown_world now) (LeadsByFront host (shown_world old) (shown_world new) (events_of_close host (shown_world old) c.args.last)) c.step.result
    (close-unopened host (shown_world old) c.args.last (shown_world now) (shown_world new) way) c.step.ensures.as_before
