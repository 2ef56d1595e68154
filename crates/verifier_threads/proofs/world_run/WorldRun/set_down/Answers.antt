use Rattle.std.proofs.Common.{◌≡◌, ℕ, inl, List, [], ◌∷◌, ◌++◌, length, map, Option, refl, sym, ◌∙◌, ap, subst, arith}
use Rattle.std.proofs.lemmas.List.{length-map, with_items_is}
use Rattle.record_hash.specs.Functions.{DigestFunctions}
use Rattle.slot_rewriting.specs.Writing.{written_logs}
use Rattle.host_core.specs.World.{World, logs_of}
use Rattle.host_shard.specs.Content.{Content}
use Rattle.script_text.specs.declared.task.Task.{Task}
use Rattle.shipped_host.specs.declared.settings.Settings.{Settings}
use Rattle.host_world.specs.Shown.{shown_world, digests_of}
use Rattle.host_rounds.specs.Feeding.{AllRead}
use Rattle.host_rounds.specs.SoFar.{RunsSoFar, Keeps, with_runs}
use Rattle.verifier_threads.specs.Serving.{told_for}
use Rattle.verifier_threads.specs.Running.{IsRunning, with_no_log, with_runs_of}
use Rattle.verifier_threads.proofs.HandingLemmas.{texts-length}
use Rattle.verifier_threads.proofs.RunningLemmas.{of_one_host, running-workers, running-rests}
use Rattle.verifier_threads.proofs.PassingLemmas.{ok_both, ok_any, err_any, running-taken}
use Rattle.verifier_threads.proofs.CutLemmas.{runs-cut, runs-cut_round, runs-cut_before, runs-cut_in_round}
use Rattle.verifier_threads.proofs.world_run.WorldRun.set_down.Goals as goal

pub hand_out_all-requires : goal.hand_out_all-requires
hand_out_all-requires g c =
    let old = c.args.self.now in
    let runs = c.requires.runs.3.1 in
    let workers = running-workers _ _ _ _ _ _ _ _ _ runs.running in
    let size = ap length c.as_mut_slice.ensures.value in
    record {
      each = size ∙ runs.buffers;
      header = runs.running.settings_fit.header;
      few = omega (arith, size, runs.buffers, workers, runs.running.settings_fit.header.verifiers);
    }

pub write-requires : goal.write-requires
write-requires g c =
    let old = c.args.self.now in
    let runs = c.requires.runs.3.1 in
    let size : length c.hand_out_all.new.buffers ≡ length (shown_world old.world).workers = ap length c.in_ok-hand_out_all.ensures.handed ∙ texts-length old.world.settings.header (shown_world old.world).workers in
    let items = with_items_is old.buffers c.hand_out_all.new.buffers (size ∙ sym runs.buffers ∙ sym old.buffers.ok.0) in
    let count = ap length (c.as_slice.ensures.value ∙ items) ∙ size ∙ running-workers _ _ _ _ _ _ _ _ _ runs.running in
    record { few = omega (arith, count, runs.running.settings_fit.header.verifiers) }

pub returns-in_err-hand_out_all-clause-cut : goal.returns-in_err-hand_out_all-clause-cut
returns-in_err-hand_out_all-clause-cut g c = λ account outputs before runs held.
    err_any c.from_residual.result
    (runs-cut account g.D.Digests.functions (with_runs_of before c.args.self.now) outputs runs.0 runs.1 c.what_is_due_stays_due.ensures.stays c.rounds_make_a_bundle.ensures.more
    (g.V.Sink.held c.args.vault.now) outputs.out_after held refl)

pub returns-clause-runs : goal.returns-clause-runs
returns-clause-runs g c = λ account outputs before past runs took stands held.
    let old = c.args.self.now in
    let functions = g.D.Digests.functions in
    let own = functions (digests_of old.world) in
    let r = runs.running in
    let rounds : RunsSoFar = with_runs before old.rounds in
    let header = old.world.settings.header in
    let logs = written_logs header r.logs in
    let host = c.hand_out_all.ensures.host in
    let new = c.hand_out_all.new.world in
    let vault = g.V.Sink.held c.args.vault.now in
    let vault' = g.V.Sink.held c.write.new.vault in
    let round = c.as_slice.result.now in
    let size : length c.hand_out_all.new.buffers ≡ length (shown_world old.world).workers = ap length c.in_ok-hand_out_all.ensures.handed ∙ texts-length header (shown_world old.world).workers in
    let items = with_items_is old.buffers c.hand_out_all.new.buffers (size ∙ sym runs.buffers ∙ sym old.buffers.ok.0) in
    let round_is : round ≡ written_logs header (logs_of (shown_world old.world)) = c.as_slice.ensures.value ∙ items ∙ c.in_ok-hand_out_all.ensures.handed in
    let rests = running-rests _ _ _ _ (shown_world old.world) rounds old.end past outputs r c.logs_come_to_rest.ensures.rests
    (λ text. (g.met.D.Digests.text_digest_shape old.world.d.now text).size) in
    let keeps = subst (λ (h : Option (List ℕ)). Keeps own header logs (map (written_logs header) past) rounds outputs.vault h) held r.keeps in
    let taken = subst (λ (all : List (List ℕ)). AllRead own all before old.rounds.runs) (sym round_is) took in
    ok_both c.write.result (c.write.ensures.keeps own header logs (map (written_logs header) past) outputs.vault before keeps taken)
    (c.write.ensures.lines (told_for account own header) own header logs before r.keeps.runs)
    (λ keeps' lines. record {
      running =
          of_one_host functions old.world new host
          (λ (f : DigestFunctions) (settings : Settings) (script : List (List Task)). IsRunning account f settings script (shown_world new) c.write.new.self old.end (past ++ (logs_of (shown_world old.world) ∷ [])) (record outputs { vault_after = vault' }))
          (running-taken _ _ _ _ (shown_world old.world) rounds old.end past outputs r (shown_world new) round c.write.new.self vault'
          stands rests c.in_ok-hand_out_all.ensures.forgotten round_is keeps' lines);
      buffers = ap length items ∙ size ∙ sym (length-map (shown_world old.world).workers with_no_log) ∙ sym (ap (λ (w : World Content). length w.workers) c.in_ok-hand_out_all.ensures.forgotten);
      counts = runs.counts ∙ sym (length-map (shown_world old.world).workers with_no_log) ∙ sym (ap (λ (w : World Content). length w.workers) c.in_ok-hand_out_all.ensures.forgotten);
    })

pub returns-clause-handed : goal.returns-clause-handed
returns-clause-handed g c = ok_any c.write.result c.in_ok-hand_out_all.ensures.forgotten

pub returns-clause-cut : goal.returns-clause-cut
returns-clause-cut g c = λ account outputs before runs held.
    let old = c.args.self.now in
    let size : length c.hand_out_all.new.buffers ≡ length (shown_world old.world).workers = ap length c.in_ok-hand_out_all.ensures.handed ∙ texts-length old.world.settings.header (shown_world old.world).workers in
    let items = with_items_is old.buffers c.hand_out_all.new.buffers (size ∙ sym runs.1.buffers ∙ sym old.buffers.ok.0) in
    err_any c.write.result
    (runs-cut_round account g.D.Digests.functions (with_runs_of before old) outputs runs.0 runs.1 c.what_is_due_stays_due.ensures.stays c.rounds_make_a_bundle.ensures.more
    (g.V.Sink.held c.args.vault.now) (g.V.Sink.held c.write.new.vault) c.as_slice.result.now held
    (c.as_slice.ensures.value ∙ items ∙ c.in_ok-hand_out_all.ensures.handed) c.write.ensures.grown)

pub returns-in_err-hand_out_all-clause-cut_round : goal.returns-in_err-hand_out_all-clause-cut_round
returns-in_err-hand_out_all-clause-cut_round g c = λ account outputs before closes behind held.
    err_any c.from_residual.result
    (runs-cut_before account g.D.Digests.functions (with_runs_of before c.args.self.now) outputs behind.past behind.runs closes closes behind.count (inl refl) behind.told
    (g.V.Sink.held c.args.vault.now) held)

pub returns-clause-cut_round : goal.returns-clause-cut_round
returns-clause-cut_round g c = λ account outputs before closes behind held.
    let old = c.args.self.now in
    let size : length c.hand_out_all.new.buffers ≡ length (shown_world old.world).workers = ap length c.in_ok-hand_out_all.ensures.handed ∙ texts-length old.world.settings.header (shown_world old.world).workers in
    let items = with_items_is old.buffers c.hand_out_all.new.buffers (size ∙ sym behind.runs.buffers ∙ sym old.buffers.ok.0) in
    err_any c.write.result
    (runs-cut_in_round account g.D.Digests.functions (with_runs_of before old) outputs behind.past behind.runs closes closes behind.count (inl refl) behind.told
    (g.V.Sink.held c.args.vault.now) (g.V.Sink.held c.write.new.vault) c.as_slice.result.now held
    (c.as_slice.ensures.value ∙ items ∙ c.in_ok-hand_out_all.ensures.handed) c.write.ensures.grown)
