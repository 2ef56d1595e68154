use Rattle.std.proofs.Common.{◌≡◌, ℕ, suc, ◌+◌, inr, List, [], ◌∷◌, ◌++◌, length, map, Option, Ok, refl, sym, ◌∙◌, ap, subst, arith}
use Rattle.record_hash.specs.Functions.{DigestFunctions}
use Rattle.certified_epochs.specs.Turn.{AreVerdictsOn}
use Rattle.record_text.specs.declared.request.Request.{Request}
use Rattle.host_core.specs.Host.{Host}
use Rattle.host_core.specs.World.{World, logs_of}
use Rattle.host_shard.specs.Content.{Content}
use Rattle.script_text.specs.declared.task.Task.{Task}
use Rattle.host_world.specs.declared.fault.ClockEnd.{ClockEnd}
use Rattle.shipped_host.specs.declared.settings.Settings.{Settings}
use Rattle.host_world.specs.Shown.{shown_world, digests_of, requests_of}
use Rattle.host_world.specs.Behind.{host_of}
use Rattle.host_serving.specs.Leading.{first_of}
use Rattle.host_serving.proofs.FormLaws.{on_by_close}
use Rattle.verifier_threads.specs.InRounds.{IsBehindRounds}
use Rattle.verifier_threads.specs.Serving.{IsCutOff, IsCutInRound}
use Rattle.verifier_threads.specs.Running.{rounds_before, IsAtRound, IsAtEnd, all_handed_out}
use Rattle.verifier_threads.proofs.RunningLemmas.{one_host, host_same, of_one_host, host-back, same-host}
use Rattle.verifier_threads.proofs.PassingLemmas.{ok_any, ok_then, err_any, err_then, runs-behind, runs-led, behind-led}
use Rattle.verifier_threads.proofs.RoundLemmas.{length-one_more}
use Rattle.verifier_threads.proofs.CutLemmas.{runs-cut, runs-cut_before}
use Rattle.verifier_threads.proofs.ClosingLemmas.{moved, at-end, at-round, behind-close, closes-plain, over_at, none-first, rounds-next}
use Rattle.verifier_threads.proofs.world_run.WorldRun.close_epoch.Goals as goal

pub close_phase-requires : goal.close_phase-requires
close_phase-requires g c = record {
  behind = runs-behind c.requires.runs.0 g.D.Digests.functions c.args.self.now c.requires.runs.2.past c.requires.runs.1 c.requires.runs.2.runs;
  served = c.requires.served;
  last = c.requires.last;
}

pub pass_to_seal-requires-clause-runs : goal.pass_to_seal-requires-clause-runs
pass_to_seal-requires-clause-runs g c κs within = (
  c.requires.runs.0,
  c.requires.runs.1,
  (
    c.requires.runs.2.past,
    runs-led c.requires.runs.0 g.D.Digests.functions c.args.self.now c.requires.runs.2.past c.requires.runs.1 c.requires.runs.2.runs c.close_phase.new.world c.in_ok-end.end c.earlier_end-self.result
        c.close_phase.ensures.host (on_by_close _ _ _ _ _ _ c.in_ok-end.ensures.form) c.earlier_end-self.ensures.value,
  ),
  c.requires.runs.3,
)

pub write_certified-requires-clause-runs : goal.write_certified-requires-clause-runs
write_certified-requires-clause-runs g c κs within =
    let functions = g.D.Digests.functions in
    let old = c.args.self.now.world in
    let before_it = rounds_before c.args.self.now in
    let middle = c.close_phase.new.world in
    let says = c.in_ok-end.ensures in
    let led = behind-led c.requires.runs.0 functions c.args.self.now (suc before_it) before_it c.requires.runs.1 c.requires.runs.2 c.close_phase.new.world c.in_ok-end.end c.earlier_end-self.result
    c.close_phase.ensures.host (on_by_close _ _ _ _ _ _ c.in_ok-end.ensures.form) c.earlier_end-self.ensures.value in
    let stands = subst (λ (h : Host Content Request). IsBehindRounds h (suc (length led.past)) (shown_world middle))
    (sym (host_same functions old middle c.close_phase.ensures.host))
    (subst (λ (n : ℕ). IsBehindRounds (host_of (functions (digests_of old)) old) (suc n) (shown_world middle)) (sym led.count)
    (behind-close (host_of (functions (digests_of old)) old) (shown_world old) (shown_world middle) c.args.last c.args.self.now.end c.in_ok-end.end c.requires.done c.requires.last
    (closes-plain c.requires.runs.0 g.D.Digests.functions c.args.self.now c.requires.runs.2.past c.requires.runs.1 c.requires.runs.2.runs c.args.last c.requires.last)
    (λ is last. says.rests (ap (λ (e : Option ClockEnd). Ok e) is) last) says.ended (λ is going. says.opened (ap (λ (e : Option ClockEnd). Ok e) is) going))) in
    let next = c.in_ok-settled.ensures.runs c.requires.runs.0 c.requires.runs.1 led.past led.runs stands c.requires.runs.3 in
    (_, _, _, next.running.keeps.runs)

pub write_certified-requires-clause-settled : goal.write_certified-requires-clause-settled
write_certified-requires-clause-settled g c κs within =
    subst (AreVerdictsOn c.pass_to_seal.new.self.rounds.judged (map (λ fed. fed.run) c.pass_to_seal.new.self.rounds.runs)) (sym c.deref.ensures.value) c.in_ok-settled.ensures.settled

pub returns-in_err-end-clause-cut : goal.returns-in_err-end-clause-cut
returns-in_err-end-clause-cut g c = λ outputs runs held written.
    err_any c.from_residual.result
    (runs-cut c.args.account.now g.D.Digests.functions c.args.self.now outputs runs.past runs.runs c.what_is_due_stays_due.ensures.stays c.rounds_make_a_bundle.ensures.more
    (g.V.Sink.held c.args.vault.now) (g.O.Sink.held c.args.out.now) held written)

pub returns-in_err-end-clause-cut_round : goal.returns-in_err-end-clause-cut_round
returns-in_err-end-clause-cut_round g c = λ outputs behind held written fault.
    subst (λ (o : Option (List ℕ)). IsCutInRound c.args.account.now (g.D.Digests.functions (digests_of c.args.self.now.world)) c.args.self.now.world.settings (requests_of c.args.self.now.world)
    (record outputs { vault_after = g.V.Sink.held c.args.vault.now; out_after = o })) written
    (runs-cut_before c.args.account.now g.D.Digests.functions c.args.self.now outputs behind.past behind.runs _ _ behind.count (inr refl) behind.told
    (g.V.Sink.held c.args.vault.now) held)

pub returns-in_err-settled-clause-cut : goal.returns-in_err-settled-clause-cut
returns-in_err-settled-clause-cut g c = λ outputs runs held written.
    let functions = g.D.Digests.functions in
    let old = c.args.self.now.world in
    let middle = c.close_phase.new.world in
    let vault' = g.V.Sink.held c.pass_to_seal.new.vault in
    err_any _
    (subst (λ (o : Option (List ℕ)). IsCutOff c.args.account.now (functions (digests_of old)) old.settings (requests_of old) (record outputs { vault_after = vault'; out_after = o })) written
    (of_one_host functions middle old (host-back old middle c.close_phase.ensures.host)
    (λ (f : DigestFunctions) (settings : Settings) (script : List (List Task)). IsCutOff c.args.account.now f settings script (record outputs { vault_after = vault' }))
    (c.in_err-settled.ensures.cut c.args.account.now outputs (
      runs.past,
      runs-led c.args.account.now functions c.args.self.now runs.past outputs runs.runs c.close_phase.new.world c.in_ok-end.end c.earlier_end-self.result
          c.close_phase.ensures.host (on_by_close _ _ _ _ _ _ c.in_ok-end.ensures.form) c.earlier_end-self.ensures.value,
    )
    held)))

pub returns-in_err-settled-clause-cut_round : goal.returns-in_err-settled-clause-cut_round
returns-in_err-settled-clause-cut_round g c = λ outputs behind held written fault.
    let functions = g.D.Digests.functions in
    let old = c.args.self.now.world in
    let before_it = rounds_before c.args.self.now in
    let middle = c.close_phase.new.world in
    let vault' = g.V.Sink.held c.pass_to_seal.new.vault in
    subst (λ (o : Option (List ℕ)). IsCutInRound c.args.account.now (functions (digests_of old)) old.settings (requests_of old) (record outputs { vault_after = vault'; out_after = o })) written
    (of_one_host functions middle old (host-back old middle c.close_phase.ensures.host)
    (λ (f : DigestFunctions) (settings : Settings) (script : List (List Task)). IsCutInRound c.args.account.now f settings script (record outputs { vault_after = vault' }))
    (c.in_err-settled.ensures.cut_round c.args.account.now outputs before_it
    (behind-led c.args.account.now functions c.args.self.now (suc before_it) before_it outputs behind c.close_phase.new.world c.in_ok-end.end c.earlier_end-self.result
    c.close_phase.ensures.host (on_by_close _ _ _ _ _ _ c.in_ok-end.ensures.form) c.earlier_end-self.ensures.value)
    held))

pub returns-clause-cut_round : goal.returns-clause-cut_round
returns-clause-cut_round g c = λ outputs behind held written fault. absurd (c.write_certified.ensures.failure.vault fault)

pub returns-clause-runs : goal.returns-clause-runs
returns-clause-runs g c = λ outputs behind held written.
    let functions = g.D.Digests.functions in
    let old = c.args.self.now.world in
    let before_it = rounds_before c.args.self.now in
    let middle = c.close_phase.new.world in
    let says = c.in_ok-end.ensures in
    let vault' = g.V.Sink.held c.pass_to_seal.new.vault in
    let led = behind-led c.args.account.now functions c.args.self.now (suc before_it) before_it outputs behind c.close_phase.new.world c.in_ok-end.end c.earlier_end-self.result
    c.close_phase.ensures.host (on_by_close _ _ _ _ _ _ c.in_ok-end.ensures.form) c.earlier_end-self.ensures.value in
    let stands = subst (λ (h : Host Content Request). IsBehindRounds h (suc (length led.past)) (shown_world middle))
    (sym (host_same functions old middle c.close_phase.ensures.host))
    (subst (λ (n : ℕ). IsBehindRounds (host_of (functions (digests_of old)) old) (suc n) (shown_world middle)) (sym led.count)
    (behind-close (host_of (functions (digests_of old)) old) (shown_world old) (shown_world middle) c.args.last c.args.self.now.end c.in_ok-end.end c.requires.done c.requires.last
    (closes-plain c.requires.runs.0 g.D.Digests.functions c.args.self.now c.requires.runs.2.past c.requires.runs.1 c.requires.runs.2.runs c.args.last c.requires.last)
    (λ is last. says.rests (ap (λ (e : Option ClockEnd). Ok e) is) last) says.ended (λ is going. says.opened (ap (λ (e : Option ClockEnd). Ok e) is) going))) in
    let next = c.in_ok-settled.ensures.runs c.args.account.now outputs led.past led.runs stands held in
    let round = logs_of (shown_world middle) in
    let past = led.past ++ (round ∷ []) in
    let size = length-one_more led.past round in
    let count = led.count in
    let twice : length past ≡ suc before_it + suc before_it = omega (arith, size, count) in
    ok_then c.write_certified.result (c.write_certified.ensures.runs (record outputs { vault_after = vault' }) past next written)
    (λ told. record { past = past; runs = told.runs; all = told.all; count = twice; told = told.told })

pub returns-clause-ended : goal.returns-clause-ended
returns-clause-ended g c = λ over.
    let functions = g.D.Digests.functions in
    let old = c.args.self.now.world in
    let middle = c.close_phase.new.world in
    let new = c.write_certified.new.self in
    let world_is = c.write_certified.ensures.world in
    let one = same-host old middle c.pass_to_seal.new.self.world new.world c.close_phase.ensures.host c.pass_to_seal.ensures.host world_is in
    let host = host_of (functions (digests_of old)) old in
    let start = c.args.self.now.end in
    let next = c.in_ok-end.end in
    let says = c.in_ok-end.ensures in
    let end_is : new.end ≡ first_of start next = c.write_certified.ensures.end ∙ c.pass_to_seal.ensures.end ∙ c.earlier_end-self.ensures.value in
    let at = at-end host (shown_world old) (shown_world middle) c.args.last start next c.requires.done c.requires.last
    (λ is last. says.closed (ap (λ (e : Option ClockEnd). Ok e) is) last) (λ is last. says.rests (ap (λ (e : Option ClockEnd). Ok e) is) last) says.ended says.stopped says.lowest
    (over_at c.args.last new.end (first_of start next) end_is over) in
    let handed = ap shown_world world_is ∙ c.in_ok-settled.ensures.handed in
    ok_any c.write_certified.result (
      moved IsAtEnd host _ (all_handed_out (shown_world middle)) (shown_world new.world) (first_of start next) new.end
          (host_same functions old new.world one) handed end_is at.0,
      λ none'. ap (λ (w : World Content). w.phase) handed ∙ at.1 (sym end_is ∙ none'),
    )

pub returns-clause-opened : goal.returns-clause-opened
returns-clause-opened g c = λ going none'.
    let functions = g.D.Digests.functions in
    let old = c.args.self.now.world in
    let middle = c.close_phase.new.world in
    let new = c.write_certified.new.self in
    let world_is = c.write_certified.ensures.world in
    let one = same-host old middle c.pass_to_seal.new.self.world new.world c.close_phase.ensures.host c.pass_to_seal.ensures.host world_is in
    let host = host_of (functions (digests_of old)) old in
    let start = c.args.self.now.end in
    let next = c.in_ok-end.end in
    let says = c.in_ok-end.ensures in
    let end_is : new.end ≡ first_of start next = c.write_certified.ensures.end ∙ c.pass_to_seal.ensures.end ∙ c.earlier_end-self.ensures.value in
    let at = at-round host (shown_world old) (shown_world middle) c.args.last start next c.requires.done c.requires.last (closes-plain c.requires.runs.0 g.D.Digests.functions c.args.self.now c.requires.runs.2.past c.requires.runs.1 c.requires.runs.2.runs c.args.last c.requires.last)
    (λ is going'. says.opened (ap (λ (e : Option ClockEnd). Ok e) is) going') going (sym end_is ∙ none') in
    let handed = ap shown_world world_is ∙ c.in_ok-settled.ensures.handed in
    let phase = ap (λ (w : World Content). w.phase) handed ∙ at.1 in
    ok_any c.write_certified.result (
      moved IsAtRound host _ (all_handed_out (shown_world middle)) (shown_world new.world) (first_of start next) new.end
          (host_same functions old new.world one) handed end_is at.0,
      phase,
      rounds-next c.args.self.now new one (closes-plain c.requires.runs.0 g.D.Digests.functions c.args.self.now c.requires.runs.2.past c.requires.runs.1 c.requires.runs.2.runs c.args.last c.requires.last going) phase,
    )

pub returns-clause-cut : goal.returns-clause-cut
returns-clause-cut g c = λ outputs behind held written.
    let functions = g.D.Digests.functions in
    let old = c.args.self.now.world in
    let middle = c.close_phase.new.world in
    let new = c.pass_to_seal.new.self.world in
    let vault' = g.V.Sink.held c.pass_to_seal.new.vault in
    let before_it = rounds_before c.args.self.now in
    let says = c.in_ok-end.ensures in
    let led = behind-led c.args.account.now functions c.args.self.now (suc before_it) before_it outputs behind c.close_phase.new.world c.in_ok-end.end c.earlier_end-self.result
    c.close_phase.ensures.host (on_by_close _ _ _ _ _ _ c.in_ok-end.ensures.form) c.earlier_end-self.ensures.value in
    let stands = subst (λ (h : Host Content Request). IsBehindRounds h (suc (length led.past)) (shown_world middle))
    (sym (host_same functions old middle c.close_phase.ensures.host))
    (subst (λ (n : ℕ). IsBehindRounds (host_of (functions (digests_of old)) old) (suc n) (shown_world middle)) (sym led.count)
    (behind-close (host_of (functions (digests_of old)) old) (shown_world old) (shown_world middle) c.args.last c.args.self.now.end c.in_ok-end.end c.requires.done c.requires.last
    (closes-plain c.requires.runs.0 g.D.Digests.functions c.args.self.now c.requires.runs.2.past c.requires.runs.1 c.requires.runs.2.runs c.args.last c.requires.last)
    (λ is last. says.rests (ap (λ (e : Option ClockEnd). Ok e) is) last) says.ended (λ is going. says.opened (ap (λ (e : Option ClockEnd). Ok e) is) going))) in
    let next = c.in_ok-settled.ensures.runs c.args.account.now outputs led.past led.runs stands held in
    err_then c.write_certified.result (c.write_certified.ensures.cut (record outputs { vault_after = vault' }) (led.past ++ (logs_of (shown_world middle) ∷ [])) next written)
    (λ cut.
    of_one_host functions new old (host-back old new (one_host old middle new c.close_phase.ensures.host c.pass_to_seal.ensures.host))
    (λ (f' : DigestFunctions) (settings : Settings) (script : List (List Task)). IsCutOff c.args.account.now f' settings script (record outputs { vault_after = vault'; out_after = g.O.Sink.held c.write_certified.new.out }))
    cut)

pub returns-clause-host : goal.returns-clause-host
returns-clause-host g c =
    same-host c.args.self.now.world c.close_phase.new.world c.pass_to_seal.new.self.world c.write_certified.new.self.world c.close_phase.ensures.host c.pass_to_seal.ensures.host
    c.write_certified.ensures.world

pub returns-in_err-settled-clause-kept : goal.returns-in_err-settled-clause-kept
returns-in_err-settled-clause-kept g c = λ none'.
    (none-first c.args.self.now.end c.in_ok-end.end (sym (c.pass_to_seal.ensures.end ∙ c.earlier_end-self.ensures.value) ∙ none')).0

pub returns-clause-kept : goal.returns-clause-kept
returns-clause-kept g c = λ none'.
    (none-first c.args.self.now.end c.in_ok-end.end (sym (c.write_certified.ensures.end ∙ c.pass_to_seal.ensures.end ∙ c.earlier_end-self.ensures.value) ∙ none')).0
