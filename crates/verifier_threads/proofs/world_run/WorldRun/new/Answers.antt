use Rattle.std.proofs.Common.{◌≡◌, ℕ, List, [], None, length, map, refl, sym, ◌∙◌, ap, subst, arith}
use Rattle.std.proofs.lemmas.List.{length-map, length-replicate}
use Rattle.fv_outside.proofs.WrittenLaws.{GrowsByFront-none}
use Rattle.lamport_clocks.specs.declared.header.Header.{Header}
use Rattle.bundle_report.specs.Logs.{empty_logs}
use Rattle.host_core.specs.World.{World}
use Rattle.host_shard.specs.Content.{Content}
use Rattle.shipped_host.specs.declared.settings.Settings.{Settings}
use Rattle.shipped_host.specs.ShippedHost.{turn_of}
use Rattle.host_world.specs.Shown.{shown_world, digests_of, requests_of}
use Rattle.host_world.specs.Behind.{host_of}
use Rattle.host_rounds.specs.SoFar.{Keeps, lines_due}
use Rattle.verifier_threads.specs.Serving.{GrowsFor, IsCutOff, IsCutInHeader, told_for}
use Rattle.verifier_threads.specs.Running.{IsAtRound}
use Rattle.verifier_threads.proofs.PassingLemmas.{err_any}
use Rattle.verifier_threads.proofs.EndingLemmas.{grows-none, running-new, set_up-begins, set_up-count}
use Rattle.verifier_threads.proofs.NothingLemmas.{empty-are}
use Rattle.verifier_threads.proofs.world_run.WorldRun.new.Goals as goal

pub returns-in_err-buffers-clause-cut : goal.returns-in_err-buffers-clause-cut
returns-in_err-buffers-clause-cut g c = λ account held.
    let vault = g.V.Sink.held c.args.vault.now in
    err_any c.from_residual.result
    (subst (λ (settings : Settings). IsCutOff account (g.D.Digests.functions (digests_of c.args.world)) settings (requests_of c.args.world) (record { vault = vault; vault_after = vault; out = held; out_after = held }))
    c.settings-settings.ensures.value
    (c.a_header_begins_the_bundle.ensures.cut account (g.D.Digests.functions (digests_of c.args.world)) (requests_of c.args.world) vault vault held (GrowsByFront-none vault _)))

pub returns-in_err-parcels-clause-cut : goal.returns-in_err-parcels-clause-cut
returns-in_err-parcels-clause-cut g c = λ account held.
    let vault = g.V.Sink.held c.args.vault.now in
    err_any _
    (subst (λ (settings : Settings). IsCutOff account (g.D.Digests.functions (digests_of c.args.world)) settings (requests_of c.args.world) (record { vault = vault; vault_after = vault; out = held; out_after = held }))
    c.settings-settings.ensures.value
    (c.a_header_begins_the_bundle.ensures.cut account (g.D.Digests.functions (digests_of c.args.world)) (requests_of c.args.world) vault vault held (GrowsByFront-none vault _)))

pub returns-in_err-rounds-clause-cut : goal.returns-in_err-rounds-clause-cut
returns-in_err-rounds-clause-cut g c = λ account held.
    err_any _
    (subst (λ (settings : Settings). IsCutOff account (g.D.Digests.functions (digests_of c.args.world)) settings (requests_of c.args.world) (record { vault = g.V.Sink.held c.args.vault.now; vault_after = g.V.Sink.held c.new.new.vault; out = held; out_after = held }))
    c.settings-settings.ensures.value
    (c.a_header_begins_the_bundle.ensures.cut account (g.D.Digests.functions (digests_of c.args.world)) (requests_of c.args.world) _ _ held c.in_err-rounds.ensures.front))

pub returns-clause-runs : goal.returns-clause-runs
returns-clause-runs g c = λ account held.
    let world = c.args.world in
    let f = g.D.Digests.functions (digests_of world) in
    let host = host_of f world in
    let header_is : c.settings-settings.result.header ≡ world.settings.header = ap (λ (s : Settings). s.header) c.settings-settings.ensures.value in
    let count = set_up-count world.settings host (shown_world world) c.requires.settings refl c.requires.setup in
    let header = world.settings.header in
    let tell = told_for account f header in
    record {
      past = [];
      runs = record {
        running =
            running-new account f world.settings (requests_of world) (shown_world world) c.in_ok-rounds.rounds (g.V.Sink.held c.args.vault.now) (g.V.Sink.held c.new.new.vault) held
            (record { settings_fit = c.requires.settings; counters = c.requires.counters; keys = c.requires.keys; values = c.requires.values; is = c.requires.setup; count = count })
            (subst (λ (header : Header). Keeps f header (empty_logs header.verifiers) [] c.in_ok-rounds.rounds (g.V.Sink.held c.args.vault.now) (g.V.Sink.held c.new.new.vault)) header_is
            (c.in_ok-rounds.ensures.keeps f))
            c.in_ok-rounds.ensures.none;
        buffers = c.in_ok-buffers.ensures.len ∙ ap (λ (header : Header). header.verifiers) header_is ∙ sym count;
        counts = ap length c.in_ok-parcels.ensures.none ∙ length-replicate c.settings-settings.result.header.verifiers 0 ∙ ap (λ (header : Header). header.verifiers) header_is ∙ sym count;
      };
      count = refl;
      told = subst (GrowsFor account held held)
          (sym (ap (λ (logs : List (List ℕ)). lines_due tell f header logs) (empty-are header.verifiers) ∙ c.logs_of_no_bytes_certify_nothing.ensures.lines tell f header))
          (grows-none account held);
    }

pub returns-in_err-buffers-clause-header : goal.returns-in_err-buffers-clause-header
returns-in_err-buffers-clause-header g c = λ held.
    err_any c.from_residual.result (record { front = GrowsByFront-none (g.V.Sink.held c.args.vault.now) _; out = refl })

pub returns-in_err-parcels-clause-header : goal.returns-in_err-parcels-clause-header
returns-in_err-parcels-clause-header g c = λ held.
    let vault = g.V.Sink.held c.args.vault.now in
    err_any _
    (subst (λ (settings : Settings). IsCutInHeader settings (record { vault = vault; vault_after = vault; out = held; out_after = held }))
    c.settings-settings.ensures.value (record { front = GrowsByFront-none vault _; out = refl }))

pub returns-in_err-rounds-clause-header : goal.returns-in_err-rounds-clause-header
returns-in_err-rounds-clause-header g c = λ held.
    err_any _
    (subst (λ (settings : Settings). IsCutInHeader settings (record { vault = g.V.Sink.held c.args.vault.now; vault_after = g.V.Sink.held c.new.new.vault; out = held; out_after = held }))
    c.settings-settings.ensures.value (record { front = c.in_err-rounds.ensures.front; out = refl }))

pub returns-clause-begins : goal.returns-clause-begins
returns-clause-begins g c =
    let world = c.args.world in
    let host = host_of (g.D.Digests.functions (digests_of world)) world in
    subst (λ (w : World Content). IsAtRound host w None) (sym c.requires.setup)
    (set_up-begins host (omega (arith, c.requires.some, length-map (requests_of world) (map turn_of))))
