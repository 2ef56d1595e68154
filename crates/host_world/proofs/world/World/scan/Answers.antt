use Rattle.std.proofs.Common.{◌≡◌, ◌<◌, List, Option, Ok, true, false, is_some, length, ap, refl, sym, ◌∙◌, arith}
use Rattle.std.proofs.lemmas.Bool.{false≢true}
use Rattle.std.proofs.lemmas.List.{length-map}
use Rattle.record_text.specs.declared.request.Request.{Request}
use Rattle.host_core.specs.Host.{Done, Host}
use Rattle.host_core.specs.World.{Worker, World, fresh, worker_at, shard_at}
use Rattle.host_core.specs.WorldEvent.{with_worker, having_scanned}
use Rattle.host_shard.specs.Content.{Content}
use Rattle.host_world.specs.Behind.{host_of}
use Rattle.host_world.specs.Places.{place_of}
use Rattle.host_world.specs.Shown.{shown_world, digests_of, requests_of}
use Rattle.host_world.specs.Workers.{shown_worker}
use Rattle.host_world.proofs.BegunLaws.{begun-set}
use Rattle.host_world.proofs.BehindLaws.{scans_with}
use Rattle.host_world.proofs.WorldLemmas.{changed, then_scanned, not_scanned, one_answer}
use Rattle.host_world.proofs.world.World.scan.Goals as goal

pub renew-requires-clause-seats : goal.renew-requires-clause-seats
renew-requires-clause-seats g c =
    let old = c.args.self.now in
    scans_with (g.D.Digests.functions (digests_of old)) old.settings (requests_of old) (λ text. (g.met.D.Digests.text_digest_shape old.d.now text).size) c.requires.behind.0 (shown_world old) c.requires.behind.1.behind
    c.args.worker (place_of c.args.place) c.requires.may

pub index_mut-scanner-requires : goal.index_mut-scanner-requires
index_mut-scanner-requires g c =
    omega (arith, c.requires.may.rolling.serving.there, c.renew.ensures.as_many.0, length-map c.renew.new.self.workers.items shown_worker)

pub invariant_of-self : goal.invariant_of-self
invariant_of-self g c =
    let later = c.renew.new.self in
    record { begun = begun-set later.settings.header later.workers.items later.begun c.args.worker c.index_mut-scanner.result.now _ c.index_mut-scanner.ensures.value refl }

pub returns-then-renewed-clause-stepped : goal.returns-then-renewed-clause-stepped
returns-then-renewed-clause-stepped g c =
    let old = c.args.self.now in
    let world = shown_world old in
    let later = c.renew.new.self in
    let i = c.args.worker in
    let place = place_of c.args.place in
    let host : Host Content Request = host_of (g.D.Digests.functions (digests_of old)) old in
    let what : Option (Done (List Content)) = host.move i (worker_at host world i).clock place.shard (shard_at world place.shard).contents in
    let own : i < length later.workers.items = omega (arith, c.requires.may.rolling.serving.there, c.renew.ensures.as_many.0, length-map later.workers.items shown_worker) in
    ap (λ (workers : List Worker). record (shown_world later) { workers = workers })
    (changed shown_worker later.workers.items i c.index_mut-scanner.result.now _ (fresh old.settings.header) (λ (w : Worker). having_scanned w place) own c.index_mut-scanner.ensures.value refl)
    ∙ ap (λ (w : World Content). with_worker w i (having_scanned (worker_at host w i) place)) (c.renew.ensures.renewed (c.in_ok-renewed.was ∙ ap Ok c.if-renewed.true))
    ∙ then_scanned host world i place what (sym c.in_ok-renewed.ensures.within ∙ c.if-renewed.true) c.requires.may.rolling.serving.there

pub invariant_of-self-2 : goal.invariant_of-self-2
invariant_of-self-2 g c =
    let later = c.renew.new.self in
    record { begun = begun-set later.settings.header later.workers.items later.begun c.args.worker c.index_mut-scanner.result.now _ c.index_mut-scanner.ensures.value refl }

pub returns-clause-stepped : goal.returns-clause-stepped
returns-clause-stepped g c =
    let old = c.args.self.now in
    let world = shown_world old in
    let later = c.renew.new.self in
    let i = c.args.worker in
    let place = place_of c.args.place in
    let host : Host Content Request = host_of (g.D.Digests.functions (digests_of old)) old in
    let what : Option (Done (List Content)) = host.move i (worker_at host world i).clock place.shard (shard_at world place.shard).contents in
    let not = λ (ok : c.renew.result ≡ Ok true). false≢true (sym c.if-renewed.false ∙ one_answer c.renew.result c.in_ok-renewed.renewed true c.in_ok-renewed.was ok) in
    let own : i < length later.workers.items = omega (arith, c.requires.may.rolling.serving.there, c.renew.ensures.as_many.0, length-map later.workers.items shown_worker) in
    ap (λ (workers : List Worker). record (shown_world later) { workers = workers })
    (changed shown_worker later.workers.items i c.index_mut-scanner.result.now _ (fresh old.settings.header) (λ (w : Worker). record w { stopped = true }) own c.index_mut-scanner.ensures.value refl)
    ∙ ap (λ (w : World Content). with_worker w i (record (worker_at host w i) { stopped = true })) (c.renew.ensures.as_before not)
    ∙ not_scanned world i place (worker_at host world i) (shard_at world place.shard) what (sym c.in_ok-renewed.ensures.within ∙ c.if-renewed.false)
