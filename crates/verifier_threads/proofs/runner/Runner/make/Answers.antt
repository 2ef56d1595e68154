use Rattle.std.proofs.Common.{◌≡◌, ◌≤◌, ℕ, ◌-◌, Bool, true, false, if◌then◌else◌, List, length, refl, sym, ◌∙◌, ap, subst, arith, Err, inl, inr}
use Rattle.std.proofs.lemmas.Bool.{cases_lt}
use Rattle.fv_outside.proofs.WrittenLaws.{GrowsByFront-none}
use Rattle.record_hash.specs.Functions.{DigestFunctions}
use Rattle.record_text.specs.declared.request.Request.{Request}
use Rattle.script_text.specs.declared.task.Task.{Task}
use Rattle.host_core.specs.Host.{Host}
use Rattle.host_core.specs.World.{World, set_up}
use Rattle.host_shard.specs.Content.{Content}
use Rattle.shipped_host.specs.declared.settings.Settings.{Settings}
use Rattle.host_world.specs.declared.world.World as code
use Rattle.shipped_host.specs.Settings.{IsSettings}
use Rattle.host_world.specs.Shown.{shown_world, digests_of, requests_of}
use Rattle.shipped_host.specs.ShippedHost.{shipped_host}
use Rattle.shipped_host.specs.Ranges.{AreInRange, HaveShortValues}
use Rattle.host_world.specs.Behind.{host_of}
use Rattle.verifier_threads.specs.Serving.{IsCutOff, IsCutInHeader, setup_end}
use Rattle.verifier_threads.specs.Running.{RunsBehind, rounds_before, IsAtRound}
use Rattle.verifier_threads.proofs.PassingLemmas.{err_any}
use Rattle.verifier_threads.proofs.CallLemmas.{of-these}
use Rattle.verifier_threads.proofs.runner.Runner.make.Goals as goal

-- before the first round there is none
none_before : (b : Bool) (size : ℕ) → (if b then 0 else (if b then size - 1 else 0)) ≡ 0
none_before true size = refl
none_before false size = refl

pub new-requires-in-Ok : goal.new-requires-in-Ok
new-requires-in-Ok g c =
    let settings = c.args.settings.now in
    let says = c.in-Ok.ensures in
    let suffices : settings.shards ≤ settings.header.end =
    elim (cases_lt settings.header.end settings.shards) [
      | inl short ↦
          let end = (c.new.ensures.clock_end (setup_end settings)).1 (short, refl) in
          absurd (let both = sym c.in-Ok.is ∙ end in cc)
      | inr enough ↦ enough
    ] in
    record {
      setup = says.set_up ∙ ap (λ (h : Host Content Request). set_up h) (sym says.host);
      settings = subst IsSettings (sym says.numbers) c.requires.settings;
      counters = subst (λ (s : Settings). s.shards ≤ s.header.end) (sym says.numbers) suffices;
      keys = subst (λ (s : Settings). AreInRange s.header (requests_of c.in-Ok.world)) (sym says.numbers)
          (subst (AreInRange settings.header) (sym says.asked) (c.scripts_ask_for_keys_in_range.ensures.keys settings.header c.args.requests.now c.requires.tasks));
      values = subst (λ (s : Settings). HaveShortValues s.header (requests_of c.in-Ok.world)) (sym says.numbers)
          (subst (HaveShortValues settings.header) (sym says.asked) (c.scripts_ask_for_keys_in_range.ensures.values settings.header c.args.requests.now c.requires.tasks));
      some = omega (arith, c.a_script_has_a_phase.ensures.some, ap (λ (script : List (List Task)). length script) says.asked);
    }

pub returns-in-Err-Memory-clause-cut : goal.returns-in-Err-Memory-clause-cut
returns-in-Err-Memory-clause-cut g c = λ held.
    let vault = g.V.Sink.held c.args.vault.now in
    c.a_header_begins_the_bundle.ensures.cut c.args.account (g.D.Digests.functions c.args.d.now) c.args.requests.now vault vault held (GrowsByFront-none vault _)

pub returns-in-Err-Memory-clause-header : goal.returns-in-Err-Memory-clause-header
returns-in-Err-Memory-clause-header g c = λ held. record { front = GrowsByFront-none (g.V.Sink.held c.args.vault.now) _; out = refl }

pub returns-in_err-served-in-Ok-clause-cut : goal.returns-in_err-served-in-Ok-clause-cut
returns-in_err-served-in-Ok-clause-cut g c = λ held.
    let functions = g.D.Digests.functions in
    let world = c.in-Ok.world in
    let says = c.in-Ok.ensures in
    err_any _
    (of-these functions (functions c.args.d.now) c.args.settings.now c.args.requests.now world (ap functions says.digests) says.numbers says.asked
    (λ (f : DigestFunctions) (s : Settings) (t : List (List Task)). IsCutOff c.args.account f s t
    (record { vault = g.V.Sink.held c.args.vault.now; vault_after = g.V.Sink.held c.new-in-Ok.new.vault; out = held; out_after = held }))
    (c.in_err-served-in-Ok.ensures.cut c.args.account held))

pub returns-in_err-served-in-Ok-clause-header : goal.returns-in_err-served-in-Ok-clause-header
returns-in_err-served-in-Ok-clause-header g c = λ held.
    err_any _
    (subst (λ (s : Settings). IsCutInHeader s (record { vault = g.V.Sink.held c.args.vault.now; vault_after = g.V.Sink.held c.new-in-Ok.new.vault; out = held; out_after = held }))
    c.in-Ok.ensures.numbers (c.in_err-served-in-Ok.ensures.header held))

pub returns-in_ok-served-in-Ok-clause-stands : goal.returns-in_ok-served-in-Ok-clause-stands
returns-in_ok-served-in-Ok-clause-stands g c = λ held.
    let functions = g.D.Digests.functions in
    let run = c.in_ok-served-in-Ok.served in
    let says = c.in-Ok.ensures in
    let made = c.in_ok-served-in-Ok.ensures in
    let vault = g.V.Sink.held c.args.vault.now in
    let vault' = g.V.Sink.held c.new-in-Ok.new.vault in
    let size = length (shipped_host (functions c.args.d.now) c.args.settings.now c.args.requests.now).script in
    let phase : (shown_world run.world).phase ≡ (if c.args.settings.now.rolling then size - 1 else 0) =
    ap (λ (w : code.World _). (shown_world w).phase) made.world ∙ ap (λ (w : World Content). w.phase) says.set_up in
    let first : rounds_before run ≡ 0 =
    ap (λ (s : Settings). if s.rolling then 0 else (shown_world run.world).phase) (ap (λ (w : code.World _). w.settings) made.world ∙ says.numbers)
    ∙ ap (λ (n : ℕ). if c.args.settings.now.rolling then 0 else n) phase
    ∙ none_before c.args.settings.now.rolling size in
    record {
      account_is = refl;
      state = record {
        is_of = record {
          functions_are = ap (λ (w : code.World _). functions (digests_of w)) made.world ∙ ap functions says.digests;
          settings_are = ap (λ (w : code.World _). w.settings) made.world ∙ says.numbers;
          script_is = ap (λ (w : code.World _). requests_of w) made.world ∙ says.asked;
          tasks = c.requires.tasks;
        };
        stands = (
          subst (λ (p : ℕ). RunsBehind c.args.account functions run p p (record { vault = vault; vault_after = vault'; out = held; out_after = held })) (sym first) (made.runs c.args.account held),
          subst (λ (w : code.World _). IsAtRound (host_of (functions (digests_of w)) w) (shown_world w) run.end) (sym made.world) made.begins,
        );
      };
    }

pub returns-in_ok-served-in-Ok-clause-unserved : goal.returns-in_ok-served-in-Ok-clause-unserved
returns-in_ok-served-in-Ok-clause-unserved g c = λ short.
    let end = (c.new.ensures.clock_end (setup_end c.args.settings.now)).1 (short, refl) in
    absurd (let both = sym c.in-Ok.is ∙ end in cc)

pub returns-in_ok-served-in-Ok-clause-left : goal.returns-in_ok-served-in-Ok-clause-left
returns-in_ok-served-in-Ok-clause-left g c =
    let asked : length (requests_of c.in_ok-served-in-Ok.served.world) ≡ length c.args.requests.now =
    ap (λ (w : code.World _). length (requests_of w)) c.in_ok-served-in-Ok.ensures.world ∙ ap (λ (script : List (List Task)). length script) c.in-Ok.ensures.asked in
    omega (arith, asked)

pub returns-in_err-rounds-in-Err-ClockEnd-clause-cut : goal.returns-in_err-rounds-in-Err-ClockEnd-clause-cut
returns-in_err-rounds-in-Err-ClockEnd-clause-cut g c = λ held.
    err_any _
    (c.a_header_begins_the_bundle.ensures.cut c.args.account (g.D.Digests.functions c.args.d.now) c.args.requests.now _ _ held c.in_err-rounds-in-Err-ClockEnd.ensures.front)

pub returns-in_err-rounds-in-Err-ClockEnd-clause-header : goal.returns-in_err-rounds-in-Err-ClockEnd-clause-header
returns-in_err-rounds-in-Err-ClockEnd-clause-header g c = λ held.
    let cut : IsCutInHeader c.args.settings.now (record { vault = g.V.Sink.held c.args.vault.now; vault_after = g.V.Sink.held c.new-in-Err-ClockEnd.new.vault; out = held; out_after = held }) =
    record { front = c.in_err-rounds-in-Err-ClockEnd.ensures.front; out = refl } in
    err_any _ cut

pub returns-in_ok-rounds-in-Err-ClockEnd-clause-stands : goal.returns-in_ok-rounds-in-Err-ClockEnd-clause-stands
returns-in_ok-rounds-in-Err-ClockEnd-clause-stands g c = λ held.
    let is = (c.new.ensures.clock_end c.in-Err-ClockEnd.end).0 (c.in-Err-ClockEnd.is ∙ ap (λ fault. Err fault) c.in-Err-ClockEnd.field-0-is) in
    record {
      account_is = refl;
      state = (
        refl,
        record {
          settings_fit = c.requires.settings;
          short = is.0;
          end_is = is.1;
          none = c.in_ok-rounds-in-Err-ClockEnd.ensures.none;
          keeps = c.in_ok-rounds-in-Err-ClockEnd.ensures.keeps (g.D.Digests.functions c.args.d.now);
          unwritten = refl;
        },
      );
    }

pub returns-in_ok-rounds-in-Err-ClockEnd-clause-begins : goal.returns-in_ok-rounds-in-Err-ClockEnd-clause-begins
returns-in_ok-rounds-in-Err-ClockEnd-clause-begins g c = λ enough.
    let is = (c.new.ensures.clock_end c.in-Err-ClockEnd.end).0 (c.in-Err-ClockEnd.is ∙ ap (λ fault. Err fault) c.in-Err-ClockEnd.field-0-is) in
    let short = is.0 in
    absurd (omega (arith, enough, short))
