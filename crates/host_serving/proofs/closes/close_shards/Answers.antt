use Rattle.std.proofs.Common.{◌≡◌, ◌<◌, length, Option, Some, None, sym, subst, arith}
use Rattle.record_text.specs.declared.request.Request.{Request}
use Rattle.merkle_records.specs.Merkle.{GivesDigests}
use Rattle.host_core.specs.Host.{Host}
use Rattle.host_shard.specs.Content.{Content}
use Rattle.host_world.specs.declared.fault.ClockEnd.{ClockEnd}
use Rattle.host_world.specs.Behind.{host_of, with_logs}
use Rattle.host_world.specs.Shown.{shown_world, digests_of, requests_of}
use Rattle.host_serving.specs.Leading.{LeadsBy, LeadsByFront}
use Rattle.host_serving.specs.Form.{all_advance, all_move, events_of_shards}
use Rattle.host_serving.specs.Closing.{CanMoveAll, HaveAdvanced, EndsAdvance, EndsMoves, EndsShards}
use Rattle.host_serving.proofs.CloseLemmas.{over_rests, advance_lowest, begins, moves_begin, ends_shards}
use Rattle.host_serving.proofs.PlanLemmas.{unless-stopped, unless-on, unless-on_front, unless-front}
use Rattle.host_serving.proofs.CloseWorldLemmas.{host_same, by_first, front_first, on_err, on_err_then, if_ok_then, workers_are, clocks_stand, none_is_moved}
use Rattle.host_serving.proofs.closes.close_shards.Goals as goal

pub advance_all-requires-clause-may : goal.advance_all-requires-clause-may
advance_all-requires-clause-may g c =
    let old = c.args.world.now in
    let logs = c.requires.behind.0 in
    let stands = c.requires.behind.1 in
    let functions = g.D.Digests.functions (digests_of old) in
    let digests : GivesDigests functions.digest = λ text. (g.met.D.Digests.text_digest_shape old.d.now text).size in
    let promised = c.worlds_are_as_promised.ensures.promised functions old.settings (requests_of old) (with_logs logs (shown_world old)) digests stands.behind in
    begins (host_of functions old) (shown_world old) c.requires.served (clocks_stand functions old logs stands promised c.requires.served) (none_is_moved functions old logs stands promised c.requires.served)

pub move_all-requires-clause-may : goal.move_all-requires-clause-may
move_all-requires-clause-may g c =
    let old = c.args.world.now in
    let middle = c.advance_all.new.world in
    let logs = c.requires.behind.0 in
    let stands = c.requires.behind.1 in
    let functions = g.D.Digests.functions (digests_of old) in
    let host = host_of functions old in
    let digests : GivesDigests functions.digest = λ text. (g.met.D.Digests.text_digest_shape old.d.now text).size in
    let promised = c.worlds_are_as_promised.ensures.promised functions old.settings (requests_of old) (with_logs logs (shown_world old)) digests stands.behind in
    let some : 0 < length (shown_world old).workers = omega (arith, workers_are functions old logs stands, stands.behind.settings_fit.header.some_verifiers) in
    let ended : c.in_ok-end.field-0 ≡ None = c.in_default.is in
    let have : HaveAdvanced host (shown_world old) (shown_world middle) (length (shown_world old).workers) =
    subst (EndsAdvance host (shown_world old) (shown_world middle)) ended c.in_ok-end.ensures.ended in
    subst (λ (h : Host Content Request). CanMoveAll h (shown_world middle)) (sym (host_same g.D.Digests.functions old middle c.advance_all.ensures.host))
    (moves_begin host (shown_world old) c.requires.served (clocks_stand functions old logs stands promised c.requires.served) (none_is_moved functions old logs stands promised c.requires.served)
    (shown_world middle) some have)

pub returns-in-Some-clause-ended : goal.returns-in-Some-clause-ended
returns-in-Some-clause-ended g c =
    let old = c.args.world.now in
    let middle = c.advance_all.new.world in
    let host = host_of (g.D.Digests.functions (digests_of old)) old in
    let over = subst (EndsAdvance host (shown_world old) (shown_world middle)) c.in-Some.is c.in_ok-end.ensures.ended in
    (over_rests host (shown_world middle) over.0, advance_lowest host (shown_world old) (shown_world middle) (Some c.in-Some.end) over, over.2)

pub returns-in-Some-clause-leads : goal.returns-in-Some-clause-leads
returns-in-Some-clause-leads g c =
    let old = c.args.world.now in
    let middle = c.advance_all.new.world in
    let host = host_of (g.D.Digests.functions (digests_of old)) old in
    unless-stopped host (shown_world old) (all_advance host (shown_world old)) (all_move host) (shown_world middle) c.in-Some.end
    (subst (λ (e : Option ClockEnd). LeadsBy host (shown_world old) (shown_world middle) e (all_advance host (shown_world old))) c.in-Some.is c.in_ok-end.ensures.leads)

pub returns-in_err-end-clause-on_the_way : goal.returns-in_err-end-clause-on_the_way
returns-in_err-end-clause-on_the_way g c =
    let old = c.args.world.now in
    let middle = c.advance_all.new.world in
    let host = host_of (g.D.Digests.functions (digests_of old)) old in
    on_err c.from_residual.result
    (unless-front host (shown_world old) (all_advance host (shown_world old)) (all_move host) (shown_world middle) c.in_err-end.ensures.on_the_way)

pub returns-clause-leads : goal.returns-clause-leads
returns-clause-leads g c =
    let old = c.args.world.now in
    let middle = c.advance_all.new.world in
    let later = c.move_all.new.world in
    let functions = g.D.Digests.functions in
    let host = host_of (functions (digests_of old)) old in
    let host' = host_of (functions (digests_of middle)) middle in
    let plan = all_advance host (shown_world old) in
    let ended : c.in_ok-end.field-0 ≡ None = c.in_default.is in
    let way : LeadsBy host (shown_world old) (shown_world middle) None plan =
    subst (λ (e : Option ClockEnd). LeadsBy host (shown_world old) (shown_world middle) e plan) ended c.in_ok-end.ensures.leads in
    if_ok_then (λ end. LeadsBy host' (shown_world middle) (shown_world later) end (all_move host' (shown_world middle)))
    (λ end. LeadsBy host (shown_world old) (shown_world later) end (events_of_shards host (shown_world old))) c.move_all.result
    (λ end more. unless-on host (shown_world old) plan (all_move host) (shown_world middle) way (shown_world later) end
    (by_first functions old middle c.advance_all.ensures.host later end (λ h. all_move h (shown_world middle)) more)) c.move_all.ensures.leads

pub returns-clause-ended : goal.returns-clause-ended
returns-clause-ended g c =
    let old = c.args.world.now in
    let middle = c.advance_all.new.world in
    let later = c.move_all.new.world in
    let logs = c.requires.behind.0 in
    let stands = c.requires.behind.1 in
    let functions = g.D.Digests.functions (digests_of old) in
    let host = host_of functions old in
    let digests : GivesDigests functions.digest = λ text. (g.met.D.Digests.text_digest_shape old.d.now text).size in
    let promised = c.worlds_are_as_promised.ensures.promised functions old.settings (requests_of old) (with_logs logs (shown_world old)) digests stands.behind in
    let some : 0 < length (shown_world old).workers = omega (arith, workers_are functions old logs stands, stands.behind.settings_fit.header.some_verifiers) in
    let ended : c.in_ok-end.field-0 ≡ None = c.in_default.is in
    let have : HaveAdvanced host (shown_world old) (shown_world middle) (length (shown_world old).workers) =
    subst (EndsAdvance host (shown_world old) (shown_world middle)) ended c.in_ok-end.ensures.ended in
    if_ok_then (EndsMoves (host_of (g.D.Digests.functions (digests_of middle)) middle) (shown_world middle) (shown_world later)) (EndsShards host (shown_world old) (shown_world later)) c.move_all.result
    (λ end moved. ends_shards host (shown_world old) c.requires.served (clocks_stand functions old logs stands promised c.requires.served) (none_is_moved functions old logs stands promised c.requires.served)
    (shown_world middle) some have (shown_world later) end
    (subst (λ (h : Host Content Request). EndsMoves h (shown_world middle) (shown_world later) end) (host_same g.D.Digests.functions old middle c.advance_all.ensures.host) moved))
    c.move_all.ensures.ended

pub returns-clause-on_the_way : goal.returns-clause-on_the_way
returns-clause-on_the_way g c =
    let old = c.args.world.now in
    let middle = c.advance_all.new.world in
    let later = c.move_all.new.world in
    let functions = g.D.Digests.functions in
    let host = host_of (functions (digests_of old)) old in
    let host' = host_of (functions (digests_of middle)) middle in
    let plan = all_advance host (shown_world old) in
    let ended : c.in_ok-end.field-0 ≡ None = c.in_default.is in
    let way : LeadsBy host (shown_world old) (shown_world middle) None plan =
    subst (λ (e : Option ClockEnd). LeadsBy host (shown_world old) (shown_world middle) e plan) ended c.in_ok-end.ensures.leads in
    on_err_then (LeadsByFront host' (shown_world middle) (shown_world later) (all_move host' (shown_world middle)))
    (LeadsByFront host (shown_world old) (shown_world later) (events_of_shards host (shown_world old))) c.move_all.result
    (λ some. unless-on_front host (shown_world old) plan (all_move host) (shown_world middle) way (shown_world later)
    (front_first functions old middle c.advance_all.ensures.host later (λ h. all_move h (shown_world middle)) some)) c.move_all.ensures.on_the_way
