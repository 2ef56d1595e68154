use Rattle.std.proofs.Common.{◌≡◌, ℕ, suc, inr, List, [], ◌∷◌, ◌++◌, length, map, Option, Bool, IfOk, refl, sym, ◌∙◌, ap, subst, arith}
use Rattle.std.proofs.lemmas.List.{length-map, with_items_is}
use Rattle.record_hash.specs.Functions.{DigestFunctions}
use Rattle.merkle_records.specs.Merkle.{GivesDigests}
use Rattle.slot_rewriting.specs.Writing.{written_logs}
use Rattle.host_core.specs.World.{World, logs_of}
use Rattle.host_shard.specs.Content.{Content}
use Rattle.script_text.specs.declared.task.Task.{Task}
use Rattle.shipped_host.specs.declared.settings.Settings.{Settings}
use Rattle.host_world.specs.Shown.{shown_world, digests_of}
use Rattle.host_rounds.specs.Round.{logs_with}
use Rattle.host_rounds.specs.SoFar.{Keeps, HaveRun}
use Rattle.verifier_threads.specs.Serving.{told_for}
use Rattle.verifier_threads.specs.Running.{IsRunning, with_no_log, may_seal}
use Rattle.verifier_threads.proofs.HandingLemmas.{texts-length}
use Rattle.verifier_threads.proofs.RunningLemmas.{of_one_host, running-workers, running-rests}
use Rattle.verifier_threads.proofs.PassingLemmas.{ok_both, ok_any, err_any, run-count, running-taken}
use Rattle.verifier_threads.proofs.CutLemmas.{runs-cut, runs-cut_round, runs-cut_before, runs-cut_in_round}
use Rattle.verifier_threads.proofs.world_run.WorldRun.pass_to_seal.Goals as goal

pub hand_out_all-requires : goal.hand_out_all-requires
hand_out_all-requires g c =
    let old = c.args.self.now in
    let runs = c.requires.runs.2.1 in
    let workers = running-workers _ _ _ _ _ _ _ _ _ runs.running in
    let size = ap length c.as_mut_slice.ensures.value in
    record {
      each = size ∙ runs.buffers;
      header = runs.running.settings_fit.header;
      few = omega (arith, size, runs.buffers, workers, runs.running.settings_fit.header.verifiers);
    }

pub seal-requires-clause-each : goal.seal-requires-clause-each
seal-requires-clause-each g c κs within =
    let old = c.args.self.now in
    let runs = c.requires.runs.2.1 in
    let size : length c.hand_out_all.new.buffers ≡ length (shown_world old.world).workers = ap length c.in_ok-hand_out_all.ensures.handed ∙ texts-length old.world.settings.header (shown_world old.world).workers in
    let items = with_items_is old.buffers c.hand_out_all.new.buffers (size ∙ sym runs.buffers ∙ sym old.buffers.ok.0) in
    ap length (c.as_slice.ensures.value ∙ items) ∙ size ∙ running-workers _ _ _ _ _ _ _ _ _ runs.running ∙ sym (run-count _ _ _ _ runs.running.keeps.runs)

pub seal-requires-clause-runs : goal.seal-requires-clause-runs
seal-requires-clause-runs g c κs within =
    let old = c.args.self.now in
    let running = c.requires.runs.2.1.running in
    let header = old.world.settings.header in
    let texts = written_logs header running.logs in (
      header,
      texts,
      subst (λ d. HaveRun (g.D.Digests.functions d) header texts old.rounds) (sym (c.digests-d.ensures.value ∙ c.hand_out_all.ensures.host.digests)) running.keeps.runs,
    )

pub returns-in_err-hand_out_all-clause-cut : goal.returns-in_err-hand_out_all-clause-cut
returns-in_err-hand_out_all-clause-cut g c = λ account outputs runs held.
    err_any c.from_residual.result
    (runs-cut account g.D.Digests.functions c.args.self.now outputs runs.0 runs.1 c.what_is_due_stays_due.ensures.stays c.rounds_make_a_bundle.ensures.more
    (g.V.Sink.held c.args.vault.now) outputs.out_after held refl)

pub returns-clause-runs : goal.returns-clause-runs
returns-clause-runs g c = λ account outputs past runs stands held.
    let old = c.args.self.now in
    let functions = g.D.Digests.functions in
    let r = runs.running in
    let header = old.world.settings.header in
    let before = written_logs header r.logs in
    let host = c.hand_out_all.ensures.host in
    let new = c.hand_out_all.new.world in
    let vault = g.V.Sink.held c.args.vault.now in
    let vault' = g.V.Sink.held c.seal.new.vault in
    let d_is : c.digests-d.result.now ≡ digests_of old.world = c.digests-d.ensures.value ∙ host.digests in
    let round = c.as_slice.result.now in
    let size : length c.hand_out_all.new.buffers ≡ length (shown_world old.world).workers = ap length c.in_ok-hand_out_all.ensures.handed ∙ texts-length header (shown_world old.world).workers in
    let items = with_items_is old.buffers c.hand_out_all.new.buffers (size ∙ sym runs.buffers ∙ sym old.buffers.ok.0) in
    let round_is : round ≡ written_logs header (logs_of (shown_world old.world)) = c.as_slice.ensures.value ∙ items ∙ c.in_ok-hand_out_all.ensures.handed in
    let rests = running-rests _ _ _ _ (shown_world old.world) old.rounds old.end past outputs r c.logs_come_to_rest.ensures.rests
    (subst (λ d. GivesDigests (functions d).digest) d_is c.digests_have_32_bytes.ensures.sized) in
    let keeps = subst (λ d. Keeps (functions d) header before (map (written_logs header) past) old.rounds outputs.vault vault) (sym d_is)
    (subst (λ (h : Option (List ℕ)). Keeps (functions (digests_of old.world)) header before (map (written_logs header) past) old.rounds outputs.vault h) held r.keeps) in
    ok_both c.seal.result (c.seal.ensures.keeps header before (map (written_logs header) past) outputs.vault keeps) (c.seal.ensures.lines (told_for account (functions (digests_of old.world)) header) (functions (digests_of old.world)) header before r.keeps.runs)
    (λ keeps' lines. record {
      running =
          of_one_host functions old.world new host
          (λ (f : DigestFunctions) (settings : Settings) (script : List (List Task)). IsRunning account f settings script (shown_world new) c.seal.new.self old.end (past ++ (logs_of (shown_world old.world) ∷ [])) (record outputs { vault_after = vault' }))
          (running-taken _ _ _ _ (shown_world old.world) old.rounds old.end past outputs r (shown_world new) round c.seal.new.self vault'
          stands rests c.in_ok-hand_out_all.ensures.forgotten round_is
          (subst (λ d. Keeps (functions d) header (logs_with before round) (map (written_logs header) past ++ (round ∷ [])) c.seal.new.self outputs.vault vault') d_is keeps') lines);
      buffers = ap length items ∙ size ∙ sym (length-map (shown_world old.world).workers with_no_log) ∙ sym (ap (λ (w : World Content). length w.workers) c.in_ok-hand_out_all.ensures.forgotten);
      counts = runs.counts ∙ sym (length-map (shown_world old.world).workers with_no_log) ∙ sym (ap (λ (w : World Content). length w.workers) c.in_ok-hand_out_all.ensures.forgotten);
    })

pub returns-clause-handed : goal.returns-clause-handed
returns-clause-handed g c = ok_any c.seal.result c.in_ok-hand_out_all.ensures.forgotten

pub returns-clause-cut : goal.returns-clause-cut
returns-clause-cut g c = λ account outputs runs held.
    let old = c.args.self.now in
    let size : length c.hand_out_all.new.buffers ≡ length (shown_world old.world).workers = ap length c.in_ok-hand_out_all.ensures.handed ∙ texts-length old.world.settings.header (shown_world old.world).workers in
    let items = with_items_is old.buffers c.hand_out_all.new.buffers (size ∙ sym runs.1.buffers ∙ sym old.buffers.ok.0) in
    err_any c.seal.result
    (runs-cut_round account g.D.Digests.functions old outputs runs.0 runs.1 c.what_is_due_stays_due.ensures.stays c.rounds_make_a_bundle.ensures.more
    (g.V.Sink.held c.args.vault.now) (g.V.Sink.held c.seal.new.vault) c.as_slice.result.now held
    (c.as_slice.ensures.value ∙ items ∙ c.in_ok-hand_out_all.ensures.handed) c.seal.ensures.grown)

pub returns-in_err-hand_out_all-clause-cut_round : goal.returns-in_err-hand_out_all-clause-cut_round
returns-in_err-hand_out_all-clause-cut_round g c = λ account outputs closes behind held.
    err_any c.from_residual.result
    (runs-cut_before account g.D.Digests.functions c.args.self.now outputs behind.past behind.runs (suc closes) closes behind.count (inr refl) behind.told
    (g.V.Sink.held c.args.vault.now) held)

pub returns-clause-cut_round : goal.returns-clause-cut_round
returns-clause-cut_round g c = λ account outputs closes behind held.
    let old = c.args.self.now in
    let size : length c.hand_out_all.new.buffers ≡ length (shown_world old.world).workers = ap length c.in_ok-hand_out_all.ensures.handed ∙ texts-length old.world.settings.header (shown_world old.world).workers in
    let items = with_items_is old.buffers c.hand_out_all.new.buffers (size ∙ sym behind.runs.buffers ∙ sym old.buffers.ok.0) in
    err_any c.seal.result
    (runs-cut_in_round account g.D.Digests.functions old outputs behind.past behind.runs (suc closes) closes behind.count (inr refl) behind.told
    (g.V.Sink.held c.args.vault.now) (g.V.Sink.held c.seal.new.vault) c.as_slice.result.now held
    (c.as_slice.ensures.value ∙ items ∙ c.in_ok-hand_out_all.ensures.handed) c.seal.ensures.grown)

pub returns-clause-count : goal.returns-clause-count
returns-clause-count g c =
    let last = c.args.last in
    let old = c.args.self.now.world in
    let host = c.hand_out_all.ensures.host in
    let rolling = ap (λ (settings : Settings). settings.rolling) (c.settings.ensures.value ∙ host.settings) in
    let phases = c.len.ensures.value ∙ ap (λ (script : List (List Task)). length script) (c.requests.ensures.value ∙ host.requests) in
    subst (λ (n : ℕ). IfOk c.seal.result (λ settled. length settled.items ≡ n))
    (c.may_seal-count.ensures.value
    ∙ ap (λ (b : Bool). may_seal last b c.len.result) rolling
    ∙ ap (may_seal last old.settings.rolling) phases)
    c.seal.ensures.count
