use Rattle.std.proofs.Common.{◌≡◌, inl, ℕ, suc, if◌then◌else◌, List, length, Option, Ok, OnErr, refl, sym, ◌∙◌, ap, subst, arith}
use Rattle.record_hash.specs.Functions.{DigestFunctions}
use Rattle.record_text.specs.declared.request.Request.{Request}
use Rattle.host_core.specs.Host.{Host}
use Rattle.host_core.specs.World.{World, logs_of}
use Rattle.host_shard.specs.Content.{Content}
use Rattle.script_text.specs.declared.task.Task.{Task}
use Rattle.host_world.specs.declared.fault.ClockEnd.{ClockEnd}
use Rattle.shipped_host.specs.declared.settings.Settings.{Settings}
use Rattle.host_world.specs.Shown.{shown_world, digests_of}
use Rattle.host_world.specs.Behind.{host_of}
use Rattle.host_serving.specs.Leading.{first_of}
use Rattle.host_serving.proofs.FormLaws.{on_by_round}
use Rattle.host_serving.specs.Standing.{first_of_round}
use Rattle.certified_epochs.specs.declared.fed_run.FedRun.{FedRun}
use Rattle.verifier_threads.specs.declared.world_run.WorldRun.{WorldRun}
use Rattle.verifier_threads.specs.InRounds.{IsBehindRounds}
use Rattle.verifier_threads.specs.Serving.{IsCutOff, IsCutInRound}
use Rattle.verifier_threads.specs.Running.{rounds_before, IsAtClose, all_handed_out, with_runs_of}
use Rattle.verifier_threads.proofs.RunningLemmas.{one_host, host_same, of_one_host, host-back, running-workers}
use Rattle.verifier_threads.proofs.PassingLemmas.{err_any, ok_then, rounds-back, run-count, runs-behind, runs-fed, behind-fed, behind-more, behind-fresh, took-round}
use Rattle.verifier_threads.proofs.ClosingLemmas.{moved, at-close}
use Rattle.verifier_threads.proofs.CutLemmas.{runs-cut, runs-cut_before}
use Rattle.verifier_threads.proofs.world_run.WorldRun.round.Goals as goal

pub serve_round_at_once-requires-clause-behind : goal.serve_round_at_once-requires-clause-behind
serve_round_at_once-requires-clause-behind g c κs within =
    runs-behind c.requires.runs.0 g.D.Digests.functions c.args.self.now c.requires.runs.2.past c.requires.runs.1 c.requires.runs.2.runs

pub serve_round_at_once-requires-clause-begins : goal.serve_round_at_once-requires-clause-begins
serve_round_at_once-requires-clause-begins g c κs within = c.requires.begins.begins

pub serve_round_at_once-requires-clause-running : goal.serve_round_at_once-requires-clause-running
serve_round_at_once-requires-clause-running g c κs within = c.requires.begins.running

pub serve_round_at_once-requires-clause-runs : goal.serve_round_at_once-requires-clause-runs
serve_round_at_once-requires-clause-runs g c κs within =
    let r = c.requires.runs.2.runs.running in
    ap (λ (rs : List FedRun). length rs) c.lend_runs-runs.ensures.runs ∙ run-count _ _ _ _ r.keeps.runs ∙ sym (running-workers _ _ _ _ _ _ _ _ _ r)

pub serve_round_at_once-requires-clause-parcels : goal.serve_round_at_once-requires-clause-parcels
serve_round_at_once-requires-clause-parcels g c κs within = c.requires.runs.2.runs.counts

pub set_down-requires : goal.set_down-requires
set_down-requires g c =
    let before = c.lend_runs-runs.result.items in
    record {
      runs = (
        c.requires.runs.0,
        c.requires.runs.1,
        before,
        (
          c.requires.runs.2.past,
          runs-fed c.requires.runs.0 g.D.Digests.functions c.args.self.now c.requires.runs.2.past c.requires.runs.1 c.requires.runs.2.runs c.serve_round_at_once.new.world c.in_ok-self.field-0 c.in_ok-self.field-0
              c.take_back.new.self before c.serve_round_at_once.new.parcels c.serve_round_at_once.ensures.host (on_by_round _ _ _ _ _ _ (behind-fresh c.requires.runs.0 g.D.Digests.functions c.args.self.now c.requires.runs.1 c.requires.runs.2 c.requires.begins.new) c.requires.begins.unended c.requires.begins.begins.served c.requires.begins.running c.in_ok-self.ensures.form)
              (ap (λ (e : Option ClockEnd). first_of e c.in_ok-self.field-0) (sym c.requires.begins.unended))
              (rounds-back c.args.self.now.rounds c.lend_runs-runs.new.self c.take_back.new.self c.serve_round_at_once.new.runs.items before c.lend_runs-runs.ensures.rest c.take_back.ensures.runs c.lend_runs-runs.ensures.runs)
              c.in_ok-self.ensures.parcels,
        ),
        (took-round g.D.Digests.functions c.args.self.now.world c.serve_round_at_once.new.world c.lend_runs-runs.new.self c.take_back.new.self before c.serve_round_at_once.new.runs.items
            c.serve_round_at_once.ensures.host c.take_back.ensures.runs c.in_ok-self.ensures.taken),
        c.requires.runs.3,
      );
    }

pub returns-in_err-self-clause-cut : goal.returns-in_err-self-clause-cut
returns-in_err-self-clause-cut g c = λ account outputs runs held.
    err_any c.from_residual.result
    (runs-cut account g.D.Digests.functions c.args.self.now outputs runs.past runs.runs c.what_is_due_stays_due.ensures.stays c.rounds_make_a_bundle.ensures.more
    (g.V.Sink.held c.args.vault.now) outputs.out_after held refl)

pub returns-in_err-self-clause-cut_round : goal.returns-in_err-self-clause-cut_round
returns-in_err-self-clause-cut_round g c = λ account outputs behind held.
    err_any c.from_residual.result
    (runs-cut_before account g.D.Digests.functions c.args.self.now outputs behind.past behind.runs _ _ behind.count (inl refl) behind.told
    (g.V.Sink.held c.args.vault.now) held)

pub returns-clause-runs : goal.returns-clause-runs
returns-clause-runs g c = λ account outputs behind held.
    let functions = g.D.Digests.functions in
    let before = c.lend_runs-runs.result.items in
    let old = c.args.self.now in
    let before_it = rounds_before old in
    let middle = c.serve_round_at_once.new.world in
    let lent : WorldRun _ = record old { world = middle; end = c.in_ok-self.field-0; rounds = c.take_back.new.self; parcels = c.serve_round_at_once.new.parcels } in
    let fed = behind-fed account functions old before_it before_it outputs behind c.serve_round_at_once.new.world c.in_ok-self.field-0 c.in_ok-self.field-0
    c.take_back.new.self before c.serve_round_at_once.new.parcels c.serve_round_at_once.ensures.host (on_by_round _ _ _ _ _ _ (behind-fresh account functions old outputs behind c.requires.begins.new) c.requires.begins.unended c.requires.begins.begins.served c.requires.begins.running c.in_ok-self.ensures.form)
    (ap (λ (e : Option ClockEnd). first_of e c.in_ok-self.field-0) (sym c.requires.begins.unended))
    (rounds-back c.args.self.now.rounds c.lend_runs-runs.new.self c.take_back.new.self c.serve_round_at_once.new.runs.items before c.lend_runs-runs.ensures.rest c.take_back.ensures.runs c.lend_runs-runs.ensures.runs)
    c.in_ok-self.ensures.parcels in
    let host = host_of (functions (digests_of old.world)) old.world in
    let first : first_of_round host (shown_world middle) ≡ before_it = ap (λ (n : ℕ). if old.world.settings.rolling then 0 else n) c.in_ok-self.ensures.phase in
    let count = fed.count in
    let stands = subst (λ (h : Host Content Request). IsBehindRounds h (suc (length fed.past)) (shown_world middle))
    (sym (host_same functions old.world middle c.serve_round_at_once.ensures.host)) (inl (omega (arith, first, count), c.in_ok-self.ensures.done)) in
    ok_then c.set_down.result
    (c.set_down.ensures.runs account outputs before fed.past fed.runs (took-round g.D.Digests.functions c.args.self.now.world c.serve_round_at_once.new.world c.lend_runs-runs.new.self c.take_back.new.self before c.serve_round_at_once.new.runs.items
    c.serve_round_at_once.ensures.host c.take_back.ensures.runs c.in_ok-self.ensures.taken) stands held)
    (λ runs. behind-more account functions (with_runs_of before lent) before_it before_it outputs fed c.set_down.new.self (logs_of (shown_world middle)) (g.V.Sink.held c.set_down.new.vault)
    c.set_down.ensures.host (omega arith) runs)

pub returns-clause-done : goal.returns-clause-done
returns-clause-done g c =
    let functions = g.D.Digests.functions in
    let old = c.args.self.now.world in
    let middle = c.serve_round_at_once.new.world in
    let new = c.set_down.new.self in
    let host = host_of (functions (digests_of old)) old in
    let end = c.in_ok-self.field-0 in
    ok_then c.set_down.result c.set_down.ensures.handed
    (λ handed. moved IsAtClose host _ (all_handed_out (shown_world middle)) (shown_world new.world) end new.end
    (host_same functions old new.world (one_host old middle new.world c.serve_round_at_once.ensures.host c.set_down.ensures.host)) handed c.set_down.ensures.end
    (at-close host (shown_world old) (shown_world middle) end c.in_ok-self.ensures.done c.requires.begins.running
    (λ is. c.in_ok-self.ensures.running (ap (λ (e : Option ClockEnd). Ok e) is)) c.in_ok-self.ensures.stopped c.in_ok-self.ensures.lowest))

pub returns-clause-same_phase : goal.returns-clause-same_phase
returns-clause-same_phase g c =
    ok_then c.set_down.result c.set_down.ensures.handed
    (λ handed. ap (λ (w : World Content). w.phase) handed ∙ c.in_ok-self.ensures.phase)

pub returns-clause-cut : goal.returns-clause-cut
returns-clause-cut g c = λ account outputs runs held.
    let functions = g.D.Digests.functions in
    let before = c.lend_runs-runs.result.items in
    let old = c.args.self.now.world in
    let middle = c.serve_round_at_once.new.world in
    of_one_host functions middle old (host-back old middle c.serve_round_at_once.ensures.host)
    (λ (f : DigestFunctions) (settings : Settings) (script : List (List Task)). OnErr c.set_down.result (IsCutOff account f settings script (record outputs { vault_after = g.V.Sink.held c.set_down.new.vault })))
    (c.set_down.ensures.cut account outputs before (
      runs.past,
      runs-fed account functions c.args.self.now runs.past outputs runs.runs c.serve_round_at_once.new.world c.in_ok-self.field-0 c.in_ok-self.field-0
          c.take_back.new.self before c.serve_round_at_once.new.parcels c.serve_round_at_once.ensures.host (on_by_round _ _ _ _ _ _ (behind-fresh account functions c.args.self.now outputs runs c.requires.begins.new) c.requires.begins.unended c.requires.begins.begins.served c.requires.begins.running c.in_ok-self.ensures.form)
          (ap (λ (e : Option ClockEnd). first_of e c.in_ok-self.field-0) (sym c.requires.begins.unended))
          (rounds-back c.args.self.now.rounds c.lend_runs-runs.new.self c.take_back.new.self c.serve_round_at_once.new.runs.items before c.lend_runs-runs.ensures.rest c.take_back.ensures.runs c.lend_runs-runs.ensures.runs)
          c.in_ok-self.ensures.parcels,
    )
    held)

pub returns-clause-cut_round : goal.returns-clause-cut_round
returns-clause-cut_round g c = λ account outputs behind held.
    let functions = g.D.Digests.functions in
    let before = c.lend_runs-runs.result.items in
    let old = c.args.self.now.world in
    let before_it = rounds_before c.args.self.now in
    let middle = c.serve_round_at_once.new.world in
    of_one_host functions middle old (host-back old middle c.serve_round_at_once.ensures.host)
    (λ (f : DigestFunctions) (settings : Settings) (script : List (List Task)). OnErr c.set_down.result (IsCutInRound account f settings script (record outputs { vault_after = g.V.Sink.held c.set_down.new.vault })))
    (c.set_down.ensures.cut_round account outputs before before_it
    (behind-fed account functions c.args.self.now before_it before_it outputs behind c.serve_round_at_once.new.world c.in_ok-self.field-0 c.in_ok-self.field-0
    c.take_back.new.self before c.serve_round_at_once.new.parcels c.serve_round_at_once.ensures.host (on_by_round _ _ _ _ _ _ (behind-fresh account functions c.args.self.now outputs behind c.requires.begins.new) c.requires.begins.unended c.requires.begins.begins.served c.requires.begins.running c.in_ok-self.ensures.form)
    (ap (λ (e : Option ClockEnd). first_of e c.in_ok-self.field-0) (sym c.requires.begins.unended))
    (rounds-back c.args.self.now.rounds c.lend_runs-runs.new.self c.take_back.new.self c.serve_round_at_once.new.runs.items before c.lend_runs-runs.ensures.rest c.take_back.ensures.runs c.lend_runs-runs.ensures.runs)
    c.in_ok-self.ensures.parcels)
    held)

pub returns-clause-host : goal.returns-clause-host
returns-clause-host g c = one_host c.args.self.now.world c.serve_round_at_once.new.world c.set_down.new.self.world c.serve_round_at_once.ensures.host c.set_down.ensures.host
