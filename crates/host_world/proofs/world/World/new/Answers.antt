use Rattle.std.proofs.Common.{◌≡◌, ◌≤◌, ◌-◌, ◌^◌, ℕ, suc, Bool, List, ◌∷◌, [], map, length, replicate, false, if◌then◌else◌, inl, inr, ap, sym, ◌∙◌, arith}
use Rattle.std.proofs.lemmas.Bool.{cases_lt}
use Rattle.std.proofs.lemmas.List.{length-map, length-replicate}
use Rattle.record_text.specs.Tree.{wide_of}
use Rattle.log_codec.specs.declared.command.Command.{Command}
use Rattle.host_core.specs.World.{Worker, Seats, World, idle, fresh, unmoved, first_phase, set_up}
use Rattle.host_laws.specs.SettingUp.{first_clock}
use Rattle.host_plan.specs.Setup.{setup_commands}
use Rattle.host_shard.specs.Content.{Content}
use Rattle.shipped_host.specs.Settings.{frontier_bits}
use Rattle.shipped_host.specs.ShippedHost.{new_seats, turn_of, shipped_host}
use Rattle.host_world.specs.Shown.{shown_seats}
use Rattle.host_world.specs.Workers.{shown_worker}
use Rattle.host_world.specs.Behind.{with_logs}
use Rattle.host_world.proofs.FrontLaws.{before_each-none}
use Rattle.shipped_host.proofs.RangeLaws.{shards_are}
use Rattle.host_world.proofs.world.World.new.Goals as goal
use Rattle.host_world.proofs.world.World.new.Goals.{then-settings, else-settings}

pub returns-clause-set_up : goal.returns-clause-set_up
returns-clause-set_up g c =
    let settings = c.args.settings.now in
    let header = settings.header in
    let bits = frontier_bits settings.shards in
    let power : settings.shards ≡ 2 ^ bits = shards_are settings.shards c.requires.settings.shards in
    let others = replicate (header.verifiers - 1) (fresh header) in
    let world : ℕ → List ℕ → List (Seats Content) → List Worker → World Content = λ phase scanned shards workers.
    record { shards = shards; workers = workers; phase = phase; closing = false; over = false; newest = header.first; scanned = scanned } in
    let script = c.args.requests.now in
    let phase = first_phase (shipped_host (g.D.Digests.functions c.args.d.now) settings script) in
    let first = λ (b : Bool). if b then length (map (map turn_of) script) - 1 else 0 in
    let phase_is : c.if-settings.phase ≡ phase =
    elim c.if-settings.branch [
      | then-settings w ↦ w.phase-is ∙ ap (λ (n : ℕ). n - 1) (w.len.ensures.value ∙ sym (length-map script (map turn_of))) ∙ sym (ap first w.if-settings.true)
      | else-settings w ↦ w.phase-is ∙ sym (ap first w.if-settings.false)
    ] in
    let scanned = replicate header.verifiers header.first in
    ap (λ (n : ℕ). world n c.in_ok-scanned.scanned.items (map shown_seats c.in_ok-shards.shards.items) (map shown_worker c.in_ok-workers.workers.items)) phase_is
    ∙ ap (λ (words : List ℕ). world phase words (map shown_seats c.in_ok-shards.shards.items) (map shown_worker c.in_ok-workers.workers.items))
    (c.in_ok-scanned.ensures.repeated ∙ ap (λ (n : ℕ). replicate n header.first) c.from.ensures)
    ∙ ap (λ (shards : List (Seats Content)). world phase scanned shards (map shown_worker c.in_ok-workers.workers.items))
    (c.in_ok-shards.ensures.seats ∙ ap (λ (contents : List Content). map unmoved (map new_seats contents)) (c.in-Ok.ensures.contents bits power))
    ∙ ap (world phase scanned _)
    (c.in_ok-workers.ensures.workers
    ∙ ap (λ (commands : List Command). idle commands (first_clock header.first header.end settings.shards) ∷ others) (c.in-Ok.ensures.commands bits power)
    ∙ ap (λ (n : ℕ). idle (setup_commands (wide_of header) header.first bits) (first_clock header.first header.end n) ∷ others) power)

-- nothing is handed out yet
pub returns-clause-behind : goal.returns-clause-behind
returns-clause-behind g c =
    let settings = c.args.settings.now in
    let script = c.args.requests.now in
    let workers = ap (λ (w : World Content). w.workers) (returns-clause-set_up g c) in
    let counters : settings.shards ≤ settings.header.end =
    elim (cases_lt settings.header.end settings.shards) [
      | inl short ↦
          absurd (let both = sym c.in-Ok.is ∙ c.setup.ensures.clock_end.1 short in cc)
      | inr enough ↦ enough
    ] in
    record {
      each = length-replicate settings.header.verifiers [] ∙ sym (ap length workers ∙ ap suc (length-replicate (settings.header.verifiers - 1) (fresh settings.header)) ∙ omega (arith, c.requires.settings.header));
      behind = record {
        settings_fit = c.requires.settings;
        counters = counters;
        keys = c.requires.keys;
        values = c.requires.values;
        events = [];
        enabled = tt;
        is = ap (λ (w : World Content). with_logs (replicate settings.header.verifiers []) w) (returns-clause-set_up g c)
            ∙ ap (λ (ws : List Worker). record (set_up (shipped_host (g.D.Digests.functions c.args.d.now) settings script)) { workers = ws })
            (before_each-none settings.header.verifiers _);
      };
    }
