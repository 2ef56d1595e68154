use Rattle.std.proofs.Common.{◌≡◌, ℕ, suc, ◌-◌, ◌*◌, ◌<◌, ◌≤◌, List, [], map, length, get_or, sym, ◌∙◌, ap, subst, arith}
use Rattle.std.proofs.lemmas.List.{length-map}
use Rattle.std.specs.List.{AllByRecursion}
use Rattle.lamport_clocks.specs.Header.{IsHeader}
use Rattle.record_text.specs.declared.request.Request.{Request}
use Rattle.record_text.specs.Longest.{longest_of}
use Rattle.record_text.specs.Value.{IsBlob}
use Rattle.slot_rewriting.specs.Writing.{written_logs}
use Rattle.verifier_run.specs.Progress.{weight}
use Rattle.merkle_records.specs.Merkle.{GivesDigests}
use Rattle.script_text.specs.declared.task.Task.{Task}
use Rattle.certified_epochs.specs.declared.fed_run.FedRun.{FedRun}
use Rattle.host_core.specs.World.{Worker, World}
use Rattle.host_rounds.specs.Feeding.{AllRead}
use Rattle.host_shard.specs.Content.{Content}
use Rattle.host_shard.specs.Shown.{shown_content}
use Rattle.host_epochs.specs.Hands.{row_of}
use Rattle.host_epochs.specs.Table.{table, terms}
use Rattle.host_epochs.specs.Terms.{Terms, IsMaking, first_epoch}
use Rattle.shipped_host.specs.declared.settings.Settings.{Settings}
use Rattle.shipped_host.specs.ShippedHost.{turn_of}
use Rattle.host_world.specs.Behind.{host_of, with_logs}
use Rattle.host_world.specs.Lending.{all_contents}
use Rattle.host_world.specs.Shown.{shown_world, digests_of, requests_of}
use Rattle.host_world.specs.Workers.{shown_worker, AreBegun}
use Rattle.host_world.proofs.BegunLaws.{begun-same}
use Rattle.host_world.proofs.BehindLaws.{shards_there}
use Rattle.host_serving.specs.Leading.{Leads, LeadsAs}
use Rattle.host_serving.specs.Form.{AreOfRound}
use Rattle.host_serving.specs.Standing.{turns_of, first_of_round}
use Rattle.host_serving.proofs.FormLaws.{as-leads}
use Rattle.round_workers.specs.declared.turn.Turn.{Turn}
use Rattle.round_workers.specs.Parts.{HaveTurns}
use Rattle.worker_threads.specs.Phase.{first_stopped}
use Rattle.worker_threads.specs.Participants.{HaveReadLogs}
use Rattle.worker_threads.specs.Round.{asked_up_to, begun_at, AreAskedSo}
use Rattle.worker_threads.proofs.CallLemmas.{first_is, first_within, phases_are, phases_there, rolls, last_phase, notes_are, have_turns, values_in, workers_in, lent_count, later_is, taken_is, noted_plain, noted_rolling, to_serve, served_at_once, goes_on, hosts_then, no_end}
use Rattle.worker_threads.proofs.FeedLemmas.{all_take, few_all}
use Rattle.worker_threads.proofs.ModeLemmas.{by_mode}
use Rattle.worker_threads.proofs.ServedLemmas.{none_stopped, some_stopped}
use Rattle.worker_threads.proofs.rounds.serve_round_at_once.Goals as goal

pub turns_by_worker-requires-clause-there : goal.turns_by_worker-requires-clause-there
turns_by_worker-requires-clause-there g c =
    let old = c.args.world.now in
    let world = shown_world old in
    let functions = g.D.Digests.functions (digests_of old) in
    let host = host_of functions old in
    let stands = c.requires.behind in
    let sized = subst (λ d. GivesDigests (g.D.Digests.functions d).digest) c.digests-d.ensures.value c.digests_have_32_bytes.ensures.sized in
    let count = c.rounds_can_be_made.ensures.workers functions old.settings (requests_of old) stands.0 world sized stands.1.behind in
    let many : length host.script ≡ length (requests_of old) = length-map (requests_of old) (λ (tasks : List Task). map turn_of tasks) in
    let within : old.phase < length (requests_of old) = (let there = c.requires.begins.served.within in omega (arith, there, many)) in
    let mode : c.settings-settings.result.rolling ≡ old.settings.rolling = ap (λ (settings : Settings). settings.rolling) c.settings-settings.ensures.value in
    let first : c.phases_of_round-first.result.0 ≡ first_of_round host world =
    first_is old.settings.rolling c.settings-settings.result.rolling old.phase c.phase.result c.phases_of_round-first.result.0 c.phases_of_round-first.ensures.first mode c.phase.ensures.value in
    let phases : c.phases_of_round-first.result.1 ≡ suc (old.phase - first_of_round host world) =
    phases_are old.settings.rolling c.settings-settings.result.rolling old.phase (length c.requests-requests.result.now) (length (requests_of old)) c.phases_of_round-first.result.1
    c.phases_of_round-first.ensures.phases mode (ap (λ (script : List (List Task)). length script) c.requests-requests.ensures.value) within
    (last_phase functions old.settings (requests_of old) stands.0 world stands.1.behind) in
    let there = phases_there old.settings.rolling old.phase (length (requests_of old)) within in
    let seen = ap (λ (script : List (List Task)). length script) c.requests-requests.ensures.value in
    omega (arith, first, phases, there, seen)

pub turns_by_worker-requires-clause-fits : goal.turns_by_worker-requires-clause-fits
turns_by_worker-requires-clause-fits g c = c.phases_of_round-first.ensures.fits

pub turns_by_worker-requires-clause-short : goal.turns_by_worker-requires-clause-short
turns_by_worker-requires-clause-short g c =
    let old = c.args.world.now in
    λ phase. subst (λ (script : List (List Task)). AllByRecursion (λ (task : Task). IsBlob (longest_of old.settings.header) task.request.value) (get_or script phase []))
    (sym c.requests-requests.ensures.value)
    (values_in old.settings.header (requests_of old) phase c.requires.behind.1.behind.values)

pub turns_by_worker-requires-clause-workers : goal.turns_by_worker-requires-clause-workers
turns_by_worker-requires-clause-workers g c =
    let old = c.args.world.now in
    let functions = g.D.Digests.functions (digests_of old) in
    let stands = c.requires.behind in
    let sized = subst (λ d. GivesDigests (g.D.Digests.functions d).digest) c.digests-d.ensures.value c.digests_have_32_bytes.ensures.sized in
    let count = c.rounds_can_be_made.ensures.workers functions old.settings (requests_of old) stands.0 (shown_world old) sized stands.1.behind in
    let verifiers = ap (λ (settings : Settings). settings.header.verifiers) c.settings-settings.ensures.value in
    λ phase. subst (λ (script : List (List Task)). AllByRecursion (λ (task : Task). task.worker < c.settings-settings.result.header.verifiers) (get_or script phase []))
    (sym c.requests-requests.ensures.value)
    (workers_in functions old.settings (requests_of old) phase c.settings-settings.result.header.verifiers
    (subst (λ (n : ℕ). AllByRecursion (λ (turn : ℕ × Request). turn.0 < n) (turns_of (host_of functions old) phase)) (count ∙ sym verifiers) (c.requires.workers phase)))

pub make-requires : goal.make-requires
make-requires g c =
    let old = c.args.world.now in
    let functions = g.D.Digests.functions (digests_of old) in
    let stands = c.requires.behind in
    let sized = subst (λ d. GivesDigests (g.D.Digests.functions d).digest) c.digests-d.ensures.value c.digests_have_32_bytes.ensures.sized in
    let count = c.rounds_can_be_made.ensures.workers functions old.settings (requests_of old) stands.0 (shown_world old) sized stands.1.behind in
    record {
      making =
          subst (λ (settings : Settings). IsMaking settings.header settings.header.verifiers c.in_ok-contents.contents.items) (sym c.settings-settings.ensures.value)
          (subst (λ (n : ℕ). IsMaking old.settings.header n c.in_ok-contents.contents.items) count
          (c.rounds_can_be_made.ensures.making functions old.settings (requests_of old) stands.0 (shown_world old) c.in_ok-contents.contents.items sized
          stands.1.behind c.requires.begins c.in_ok-contents.ensures.lent).0);
    }

pub serve_at_table-requires-clause-shared : goal.serve_at_table-requires-clause-shared
serve_at_table-requires-clause-shared g c κs inside =
    let old = c.args.world.now in
    let world = shown_world old in
    let functions = g.D.Digests.functions (digests_of old) in
    let host = host_of functions old in
    let stands = c.requires.behind in
    let sized = subst (λ d. GivesDigests (g.D.Digests.functions d).digest) c.digests-d.ensures.value c.digests_have_32_bytes.ensures.sized in
    let count = c.rounds_can_be_made.ensures.workers functions old.settings (requests_of old) stands.0 world sized stands.1.behind in
    let many : length host.script ≡ length (requests_of old) = length-map (requests_of old) (λ (tasks : List Task). map turn_of tasks) in
    let within : old.phase < length (requests_of old) = (let there = c.requires.begins.served.within in omega (arith, there, many)) in
    let mode : c.settings-settings.result.rolling ≡ old.settings.rolling = ap (λ (settings : Settings). settings.rolling) c.settings-settings.ensures.value in
    let first : c.phases_of_round-first.result.0 ≡ first_of_round host world =
    first_is old.settings.rolling c.settings-settings.result.rolling old.phase c.phase.result c.phases_of_round-first.result.0 c.phases_of_round-first.ensures.first mode c.phase.ensures.value in
    let phases : c.phases_of_round-first.result.1 ≡ suc (old.phase - first_of_round host world) =
    phases_are old.settings.rolling c.settings-settings.result.rolling old.phase (length c.requests-requests.result.now) (length (requests_of old)) c.phases_of_round-first.result.1
    c.phases_of_round-first.ensures.phases mode (ap (λ (script : List (List Task)). length script) c.requests-requests.ensures.value) within
    (last_phase functions old.settings (requests_of old) stands.0 world stands.1.behind) in
    let made : Terms = terms g.D.Digests.functions c.in-Ok.epochs in
    let header = ap (λ (settings : Settings). settings.header) c.settings-settings.ensures.value in
    let lent : map shown_content made.contents ≡ all_contents world.shards =
    ap (λ (t : Terms). map shown_content t.contents) c.in-Ok.ensures.terms ∙ c.in_ok-contents.ensures.lent in
    let made_header = ap (λ (t : Terms). t.header) c.in-Ok.ensures.terms ∙ header in
    let made_workers = ap (λ (t : Terms). t.workers) c.in-Ok.ensures.terms ∙ ap (λ h. h.verifiers) header ∙ sym count in
    let epoch : first_epoch made ≡ begun_at host world =
    (c.rounds_can_be_made.ensures.making functions old.settings (requests_of old) stands.0 world made.contents sized stands.1.behind c.requires.begins lent).1 in
    let more : suc made.more ≡ suc (old.phase - first_of_round host world) =
    (let told = ap (λ (t : Terms). t.more) c.in-Ok.ensures.terms in let some = c.phases_of_round-first.ensures.some in omega (arith, told, some, phases)) in
    let of_world = c.tables_are_of_their_rounds.ensures.of_world functions old.settings (requests_of old) stands.0 world made sized stands.1.behind lent
    made_header
    (ap (λ (t : Terms). t.digest) c.in-Ok.ensures.terms ∙ ap (λ d. (g.D.Digests.functions d).digest) c.digests-d.ensures.value)
    (ap (λ (t : Terms). t.absent) c.in-Ok.ensures.terms ∙ ap (λ (s : Settings). s.absent) c.settings-settings.ensures.value)
    made_workers
    (let least = first_within old.settings.rolling old.phase in omega (arith, epoch, more, least)) in
    let clocks = c.tables_are_of_their_rounds.ensures.clocks functions old.settings (requests_of old) stands.0 world made sized stands.1.behind c.requires.begins made_header epoch in
    let asked : AreAskedSo host world (λ i. asked_up_to (requests_of old) (first_of_round host world) i (suc (old.phase - first_of_round host world))) (map (λ own. own.items) c.in_ok-turns.turns.items) =
    subst (λ (asks : ℕ → List (ℕ × Request)). AreAskedSo host world asks (map (λ own. own.items) c.in_ok-turns.turns.items))
    (λ k i. asked_up_to (c.requests-requests.ensures.value k) (first k) i (phases k)) c.in_ok-turns.ensures.asked in
    let turns = map (λ own. own.items) c.in_ok-turns.turns.items in
    record {
      digests = sym (ap (λ (t : Terms). t.digest) c.in-Ok.ensures.terms);
      absent = sym (ap (λ (t : Terms). t.absent) c.in-Ok.ensures.terms);
      workers = sym (ap (λ (t : Terms). t.workers) c.in-Ok.ensures.terms);
      more = sym (ap (λ (t : Terms). t.more) c.in-Ok.ensures.terms);
      places = of_world.places ∙ ap (λ (n : ℕ). n * 5) (shards_there functions old.settings (requests_of old) sized (with_logs stands.0 world) stands.1.behind
          ∙ ap (λ (settings : Settings). settings.shards) (sym c.settings-settings.ensures.value));
      further = λ some. c.tables_are_of_their_rounds.ensures.further functions old.settings (requests_of old) stands.0 world made sized stands.1.behind
          (rolls old.settings.rolling old.phase made.more more some) lent made_header epoch;
      turns =
          subst (λ (owns : List (List Turn)). HaveTurns made owns) (sym (ap (map (λ own. own.items)) c.as_slice.ensures.value))
          (have_turns host world (requests_of old) (first_of_round host world) (suc (old.phase - first_of_round host world)) made turns stands.1.behind.keys
          (length-map c.in_ok-turns.turns.items (λ own. own.items) ∙ c.in_ok-turns.ensures.count ∙ sym (ap (λ (t : Terms). t.workers) c.in-Ok.ensures.terms))
          (omega (arith, more)) asked
          (c.tables_are_of_their_rounds.ensures.places functions old.settings (requests_of old) stands.0 world made sized stands.1.behind lent));
      header = subst (λ (settings : Settings). IsHeader settings.header) (sym c.settings-settings.ensures.value) stands.1.behind.settings_fit.header;
    }

pub serve_at_table-requires-clause-ready : goal.serve_at_table-requires-clause-ready
serve_at_table-requires-clause-ready g c κs inside =
    let old = c.args.world.now in
    let world = shown_world old in
    let functions = g.D.Digests.functions (digests_of old) in
    let host = host_of functions old in
    let stands = c.requires.behind in
    let sized = subst (λ d. GivesDigests (g.D.Digests.functions d).digest) c.digests-d.ensures.value c.digests_have_32_bytes.ensures.sized in
    let count = c.rounds_can_be_made.ensures.workers functions old.settings (requests_of old) stands.0 world sized stands.1.behind in
    let many : length host.script ≡ length (requests_of old) = length-map (requests_of old) (λ (tasks : List Task). map turn_of tasks) in
    let within : old.phase < length (requests_of old) = (let there = c.requires.begins.served.within in omega (arith, there, many)) in
    let mode : c.settings-settings.result.rolling ≡ old.settings.rolling = ap (λ (settings : Settings). settings.rolling) c.settings-settings.ensures.value in
    let first : c.phases_of_round-first.result.0 ≡ first_of_round host world =
    first_is old.settings.rolling c.settings-settings.result.rolling old.phase c.phase.result c.phases_of_round-first.result.0 c.phases_of_round-first.ensures.first mode c.phase.ensures.value in
    let phases : c.phases_of_round-first.result.1 ≡ suc (old.phase - first_of_round host world) =
    phases_are old.settings.rolling c.settings-settings.result.rolling old.phase (length c.requests-requests.result.now) (length (requests_of old)) c.phases_of_round-first.result.1
    c.phases_of_round-first.ensures.phases mode (ap (λ (script : List (List Task)). length script) c.requests-requests.ensures.value) within
    (last_phase functions old.settings (requests_of old) stands.0 world stands.1.behind) in
    let made : Terms = terms g.D.Digests.functions c.in-Ok.epochs in
    let header = ap (λ (settings : Settings). settings.header) c.settings-settings.ensures.value in
    let lent : map shown_content made.contents ≡ all_contents world.shards =
    ap (λ (t : Terms). map shown_content t.contents) c.in-Ok.ensures.terms ∙ c.in_ok-contents.ensures.lent in
    let made_header = ap (λ (t : Terms). t.header) c.in-Ok.ensures.terms ∙ header in
    let made_workers = ap (λ (t : Terms). t.workers) c.in-Ok.ensures.terms ∙ ap (λ h. h.verifiers) header ∙ sym count in
    let epoch : first_epoch made ≡ begun_at host world =
    (c.rounds_can_be_made.ensures.making functions old.settings (requests_of old) stands.0 world made.contents sized stands.1.behind c.requires.begins lent).1 in
    let more : suc made.more ≡ suc (old.phase - first_of_round host world) =
    (let told = ap (λ (t : Terms). t.more) c.in-Ok.ensures.terms in let some = c.phases_of_round-first.ensures.some in omega (arith, told, some, phases)) in
    let of_world = c.tables_are_of_their_rounds.ensures.of_world functions old.settings (requests_of old) stands.0 world made sized stands.1.behind lent
    made_header
    (ap (λ (t : Terms). t.digest) c.in-Ok.ensures.terms ∙ ap (λ d. (g.D.Digests.functions d).digest) c.digests-d.ensures.value)
    (ap (λ (t : Terms). t.absent) c.in-Ok.ensures.terms ∙ ap (λ (s : Settings). s.absent) c.settings-settings.ensures.value)
    made_workers
    (let least = first_within old.settings.rolling old.phase in omega (arith, epoch, more, least)) in
    let clocks = c.tables_are_of_their_rounds.ensures.clocks functions old.settings (requests_of old) stands.0 world made sized stands.1.behind c.requires.begins made_header epoch in
    let asked : AreAskedSo host world (λ i. asked_up_to (requests_of old) (first_of_round host world) i (suc (old.phase - first_of_round host world))) (map (λ own. own.items) c.in_ok-turns.turns.items) =
    subst (λ (asks : ℕ → List (ℕ × Request)). AreAskedSo host world asks (map (λ own. own.items) c.in_ok-turns.turns.items))
    (λ k i. asked_up_to (c.requests-requests.ensures.value k) (first k) i (phases k)) c.in_ok-turns.ensures.asked in
    to_serve host world made (table c.in-Ok.epochs) c.lend_workers-workers.result.items c.in-Ok.hands.items c.settings-settings.result.header.verifiers
    (c.lend_workers-workers.ensures.lent ∙ ap (λ (w : World Content). w.workers) c.in_ok-contents.ensures.left)
    (ap (λ (t : Terms). t.workers) c.in-Ok.ensures.terms)
    (count ∙ sym (ap (λ h. h.verifiers) header))
    c.in-Ok.ensures.hands c.in-Ok.ensures.new c.requires.running clocks

pub serve_at_table-requires-clause-watch : goal.serve_at_table-requires-clause-watch
serve_at_table-requires-clause-watch g c κs within =
    let lent : length c.lend_workers-workers.result.items ≡ length (shown_world c.args.world.now).workers =
    sym (length-map c.lend_workers-workers.result.items shown_worker)
    ∙ ap (λ ws. length ws) (c.lend_workers-workers.ensures.lent ∙ ap (λ (w : World Content). w.workers) c.in_ok-contents.ensures.left) in
    let runs = ap (λ rs. rs.items) c.replace.ensures.value in
    record {
      count = ap (λ (rs : List FedRun). length rs) runs ∙ c.requires.runs ∙ sym lent;
      few = few_all c.args.bytes c.replace.result.items
          (subst (AllByRecursion (λ fed. weight fed.run ≤ c.args.bytes)) (sym runs) c.requires.few);
    }

pub serve_at_table-requires-clause-parcels : goal.serve_at_table-requires-clause-parcels
serve_at_table-requires-clause-parcels g c κs within =
    let lent : length c.lend_workers-workers.result.items ≡ length (shown_world c.args.world.now).workers =
    sym (length-map c.lend_workers-workers.result.items shown_worker)
    ∙ ap (λ ws. length ws) (c.lend_workers-workers.ensures.lent ∙ ap (λ (w : World Content). w.workers) c.in_ok-contents.ensures.left) in
    ap (λ ns. length ns.items) c.replace-2.ensures.value ∙ c.requires.parcels ∙ sym lent

pub first_end_of-end-requires : goal.first_end_of-end-requires
first_end_of-end-requires g c =
    let old = c.args.world.now in
    let functions = g.D.Digests.functions (digests_of old) in
    let stands = c.requires.behind in
    let sized = subst (λ d. GivesDigests (g.D.Digests.functions d).digest) c.digests-d.ensures.value c.digests_have_32_bytes.ensures.sized in
    let count = c.rounds_can_be_made.ensures.workers functions old.settings (requests_of old) stands.0 (shown_world old) sized stands.1.behind in
    let few = stands.1.behind.settings_fit.header.verifiers in
    let lent : length c.lend_workers-workers.result.items ≡ length (shown_world old).workers =
    sym (length-map c.lend_workers-workers.result.items shown_worker)
    ∙ ap (λ ws. length ws) (c.lend_workers-workers.ensures.lent ∙ ap (λ (w : World Content). w.workers) c.in_ok-contents.ensures.left) in
    let seen : length c.as_slice-2.result.now ≡ length c.in_ok-left.left.workers.items = ap (λ ws. length ws) c.as_slice-2.ensures.value in
    record { few = omega (arith, seen, c.in_ok-left.ensures.served.count, lent, count, few) }

pub take_back-requires : goal.take_back-requires
take_back-requires g c =
    let made : Terms = terms g.D.Digests.functions c.in-Ok.epochs in
    record {
      as_many = c.close.ensures.round.as_many
          ∙ ap (λ (t : Terms). length t.contents) c.in-Ok.ensures.terms
          ∙ sym (length-map c.in_ok-contents.contents.items shown_content)
          ∙ ap (λ (xs : List Content). length xs) c.in_ok-contents.ensures.lent
          ∙ sym (lent_count (shown_world c.args.world.now) (shown_world c.lend.new.self) (shown_world c.lend_workers-workers.new.self)
          c.in_ok-contents.ensures.left c.lend_workers-workers.ensures.left);
    }

pub take_workers-requires : goal.take_workers-requires
take_workers-requires g c =
    let begun = subst (λ (settings : Settings). AreBegun settings.header c.lend_workers-workers.result.items)
    (sym (c.note_round.ensures.host.settings ∙ c.take_back.ensures.host.settings ∙ c.lend_workers-workers.ensures.host.settings)) c.lend_workers-workers.ensures.begun in
    record { begun = begun-same c.note_round.new.world.settings.header c.lend_workers-workers.result.items c.in_ok-left.left.workers.items begun c.in_ok-left.ensures.served.writers }

pub returns : goal.returns
returns g c =
    let old = c.args.world.now in
    let world = shown_world old in
    let functions = g.D.Digests.functions (digests_of old) in
    let host = host_of functions old in
    let stands = c.requires.behind in
    let sized = subst (λ d. GivesDigests (g.D.Digests.functions d).digest) c.digests-d.ensures.value c.digests_have_32_bytes.ensures.sized in
    let count = c.rounds_can_be_made.ensures.workers functions old.settings (requests_of old) stands.0 world sized stands.1.behind in
    let many : length host.script ≡ length (requests_of old) = length-map (requests_of old) (λ (tasks : List Task). map turn_of tasks) in
    let within : old.phase < length (requests_of old) = (let there = c.requires.begins.served.within in omega (arith, there, many)) in
    let mode : c.settings-settings.result.rolling ≡ old.settings.rolling = ap (λ (settings : Settings). settings.rolling) c.settings-settings.ensures.value in
    let first : c.phases_of_round-first.result.0 ≡ first_of_round host world =
    first_is old.settings.rolling c.settings-settings.result.rolling old.phase c.phase.result c.phases_of_round-first.result.0 c.phases_of_round-first.ensures.first mode c.phase.ensures.value in
    let phases : c.phases_of_round-first.result.1 ≡ suc (old.phase - first_of_round host world) =
    phases_are old.settings.rolling c.settings-settings.result.rolling old.phase (length c.requests-requests.result.now) (length (requests_of old)) c.phases_of_round-first.result.1
    c.phases_of_round-first.ensures.phases mode (ap (λ (script : List (List Task)). length script) c.requests-requests.ensures.value) within
    (last_phase functions old.settings (requests_of old) stands.0 world stands.1.behind) in
    let made : Terms = terms g.D.Digests.functions c.in-Ok.epochs in
    let header = ap (λ (settings : Settings). settings.header) c.settings-settings.ensures.value in
    let lent : map shown_content made.contents ≡ all_contents world.shards =
    ap (λ (t : Terms). map shown_content t.contents) c.in-Ok.ensures.terms ∙ c.in_ok-contents.ensures.lent in
    let made_header = ap (λ (t : Terms). t.header) c.in-Ok.ensures.terms ∙ header in
    let made_workers = ap (λ (t : Terms). t.workers) c.in-Ok.ensures.terms ∙ ap (λ h. h.verifiers) header ∙ sym count in
    let epoch : first_epoch made ≡ begun_at host world =
    (c.rounds_can_be_made.ensures.making functions old.settings (requests_of old) stands.0 world made.contents sized stands.1.behind c.requires.begins lent).1 in
    let more : suc made.more ≡ suc (old.phase - first_of_round host world) =
    (let told = ap (λ (t : Terms). t.more) c.in-Ok.ensures.terms in let some = c.phases_of_round-first.ensures.some in omega (arith, told, some, phases)) in
    let of_world = c.tables_are_of_their_rounds.ensures.of_world functions old.settings (requests_of old) stands.0 world made sized stands.1.behind lent
    made_header
    (ap (λ (t : Terms). t.digest) c.in-Ok.ensures.terms ∙ ap (λ d. (g.D.Digests.functions d).digest) c.digests-d.ensures.value)
    (ap (λ (t : Terms). t.absent) c.in-Ok.ensures.terms ∙ ap (λ (s : Settings). s.absent) c.settings-settings.ensures.value)
    made_workers
    (let least = first_within old.settings.rolling old.phase in omega (arith, epoch, more, least)) in
    let clocks = c.tables_are_of_their_rounds.ensures.clocks functions old.settings (requests_of old) stands.0 world made sized stands.1.behind c.requires.begins made_header epoch in
    let asked : AreAskedSo host world (λ i. asked_up_to (requests_of old) (first_of_round host world) i (suc (old.phase - first_of_round host world))) (map (λ own. own.items) c.in_ok-turns.turns.items) =
    subst (λ (asks : ℕ → List (ℕ × Request)). AreAskedSo host world asks (map (λ own. own.items) c.in_ok-turns.turns.items))
    (λ k i. asked_up_to (c.requests-requests.ensures.value k) (first k) i (phases k)) c.in_ok-turns.ensures.asked in
    let new = c.take_workers.new.self in
    let later = shown_world new in
    let taken = shown_world c.take_back.new.self in
    let noted = shown_world c.note_round.new.world in
    let workers : List Worker = map shown_worker c.in_ok-left.left.workers.items in
    let kept = by_mode c.settings-settings.result.rolling
    (λ plain. noted_plain taken noted (c.note_round.ensures.plain plain))
    (λ rolling. noted_rolling taken noted _ _ (c.note_round.ensures.noted rolling)) in
    let taken_so = taken_is world (shown_world c.lend.new.self) (shown_world c.lend_workers-workers.new.self) taken noted later
    (map shown_content c.close.result.items) workers c.in_ok-contents.ensures.left c.lend_workers-workers.ensures.left c.take_back.ensures.filled kept c.take_workers.ensures.taken in
    let later_so = later_is world (shown_world c.lend.new.self) (shown_world c.lend_workers-workers.new.self) taken noted later
    (map shown_content c.close.result.items) workers c.in_ok-contents.ensures.left c.lend_workers-workers.ensures.left c.take_back.ensures.filled kept c.take_workers.ensures.taken in
    let workers_are : later.workers ≡ workers = ap (λ (w : World Content). w.workers) later_so in
    let end_is : c.first_end_of-end.result ≡ first_stopped 0 later.workers =
    c.first_end_of-end.ensures.first ∙ ap (first_stopped 0) (ap (map shown_worker) c.as_slice-2.ensures.value ∙ sym workers_are) in
    let notes = notes_are host world taken noted later c.settings-settings.result.rolling c.settings-settings.result.header.first
    (map shown_worker c.as_slice-3.result.now) c.first_end_of-end.result mode (ap (λ h. h.first) header)
    (ap (λ (w : World Content). w.newest) taken_so) (ap (λ (w : World Content). w.scanned) taken_so)
    c.note_round.ensures.plain c.note_round.ensures.noted
    (ap (λ (w : World Content). w.newest) c.take_workers.ensures.taken) (ap (λ (w : World Content). w.scanned) c.take_workers.ensures.taken)
    (ap (map shown_worker) c.as_slice-3.ensures.value ∙ sym workers_are) end_is in
    let turns = map (λ own. own.items) c.as_slice.result.now in
    let turns_are : turns ≡ map (λ own. own.items) c.in_ok-turns.turns.items = ap (map (λ own. own.items)) c.as_slice.ensures.value in
    let lent_workers : map shown_worker c.lend_workers-workers.result.items ≡ world.workers =
    c.lend_workers-workers.ensures.lent ∙ ap (λ (w : World Content). w.workers) c.in_ok-contents.ensures.left in
    let at_once = served_at_once functions old.settings (requests_of old) world later made (table c.in-Ok.epochs)
    c.close.result.items c.lend_workers-workers.result.items c.in_ok-left.left.workers.items c.in_ok-left.left.hands.items turns
    c.requires.begins c.requires.running of_world epoch c.close.ensures.round
    lent_workers
    (ap (λ owns. length owns) turns_are ∙ length-map c.in_ok-turns.turns.items (λ own. own.items) ∙ c.in_ok-turns.ensures.count ∙ ap (λ h. h.verifiers) header ∙ sym count
    ∙ sym (ap (λ ws. length ws) lent_workers) ∙ length-map c.lend_workers-workers.result.items shown_worker)
    (subst (λ (owns : List (List Turn)). AreAskedSo host world (λ i. asked_up_to (requests_of old) (first_of_round host world) i (suc (old.phase - first_of_round host world))) owns)
    (sym turns_are) asked)
    c.in_ok-left.ensures.served notes later_so in
    let way : LeadsAs AreOfRound host world later c.first_end_of-end.result =
    subst (LeadsAs AreOfRound host world later) (sym end_is)
    (c.rounds_at_once_are_lists_of_events.ensures.leads functions old.settings (requests_of old) stands.0 world later made c.close.result.items
    (map row_of c.in_ok-left.left.hands.items) sized stands.1.each stands.1.behind at_once) in
    let leads : Leads host world later c.first_end_of-end.result =
    as-leads host AreOfRound world later c.first_end_of-end.result way in
    let one_host = hosts_then old c.note_round.new.world new
    (hosts_then old c.take_back.new.self c.note_round.new.world
    (hosts_then old c.lend_workers-workers.new.self c.take_back.new.self (hosts_then old c.lend.new.self c.lend_workers-workers.new.self c.lend.ensures.host c.lend_workers-workers.ensures.host)
    c.take_back.ensures.host) c.note_round.ensures.host) c.take_workers.ensures.host in
    let on = goes_on g.D.Digests.functions old new c.first_end_of-end.result one_host at_once.count leads in
    let begun : AreBegun old.settings.header c.in_ok-left.left.workers.items =
    begun-same old.settings.header c.lend_workers-workers.result.items c.in_ok-left.left.workers.items
    (subst (λ (settings : Settings). AreBegun settings.header c.lend_workers-workers.result.items) c.lend.ensures.host.settings c.lend_workers-workers.ensures.begun)
    c.in_ok-left.ensures.served.writers in
    let took : HaveReadLogs functions c.in_ok-left.left.workers.items c.args.runs.now.items c.in_ok-left.left.runs.items =
    subst (λ d. HaveReadLogs (g.D.Digests.functions d) c.in_ok-left.left.workers.items c.args.runs.now.items c.in_ok-left.left.runs.items) c.digests-d.ensures.value
    (subst (λ (runs : List FedRun). HaveReadLogs (g.D.Digests.functions c.digests-d.result.now) c.in_ok-left.left.workers.items runs c.in_ok-left.left.runs.items)
    (ap (λ rs. rs.items) c.replace.ensures.value) c.in_ok-left.ensures.taken) in
    record {
      leads = leads;
      form = way;
      done = c.rounds_at_once_are_lists_of_events.ensures.done functions old.settings (requests_of old) stands.0 world later made c.close.result.items
          (map row_of c.in_ok-left.left.hands.items) sized stands.1.each stands.1.behind at_once;
      phase = ap (λ (w : World Content). w.phase) later_so;
      running = λ none before. none_stopped host later (sym end_is ∙ no_end c.first_end_of-end.result none);
      stopped = some_stopped host later c.first_end_of-end.result (sym end_is);
      lowest = end_is;
      host = one_host;
      behind = (stands.0, on stands.0 stands.1);
      goes_on = on;
      parcels = c.in_ok-left.ensures.parcels ∙ ap (λ ns. length ns.items) c.replace-2.ensures.value;
      taken =
          subst (λ (ws : List Worker). AllRead functions (written_logs old.settings.header (map (λ worker. worker.log) ws)) c.args.runs.now.items c.in_ok-left.left.runs.items)
          (sym workers_are)
          (all_take functions old.settings.header c.in_ok-left.left.workers.items c.args.runs.now.items c.in_ok-left.left.runs.items begun took);
    }
