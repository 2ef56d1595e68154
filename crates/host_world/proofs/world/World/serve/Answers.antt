use Rattle.std.proofs.Common.{◌≡◌, ◌/◌, ◌%◌, ◌<◌, List, [], set, map, get_or, length, Ok, true, is_ok, ap, refl, sym, subst, ◌∙◌, arith}
use Rattle.std.proofs.lemmas.List.{length-map, map-set, set-set}
use Rattle.std.proofs.lemmas.Bool.{false≢true}
use Rattle.record_text.specs.Longest.{longest_blob}
use Rattle.host_core.specs.World.{Worker, Seats, fresh, unmoved}
use Rattle.host_world.specs.declared.worker.Worker as code
use Rattle.host_core.specs.WorldEvent.{after_serve}
use Rattle.host_plan.specs.Plan.{Owns, IsOpenAt}
use Rattle.host_shard.specs.Content.{Content, vacant}
use Rattle.host_world.specs.Places.{place_of}
use Rattle.shipped_host.specs.ShippedHost.{serve_at}
use Rattle.host_world.specs.Shown.{shown_world, shown_seats, contents_of, digests_of, requests_of}
use Rattle.host_world.specs.Workers.{shown_worker}
use Rattle.host_world.proofs.BegunLaws.{begun-set}
use Rattle.host_world.proofs.BehindLaws.{serves_with}
use Rattle.host_world.proofs.WorldLemmas.{read_shown, set_same, same_seats, read_back, after_served, after_stopped, none_of, on_err, one_answer}
use Rattle.host_world.proofs.world.World.serve.Goals as goal

pub serve-requires-clause-own : goal.serve-requires-clause-own
serve-requires-clause-own g c =
    let old = c.args.self.now in
    let there : c.args.place / 5 < length old.shards.items = omega (arith, c.requires.may.there.0, length-map old.shards.items shown_seats) in
    let seats = read_shown shown_seats old.shards.items (c.args.place / 5) c.index_mut-seats.result.now (unmoved []) there c.index_mut-seats.ensures.value in
    subst (λ (s : Seats Content). Owns longest_blob (get_or s.contents (c.args.place % 5) vacant) c.args.request.now.key) seats
    (serves_with (g.D.Digests.functions (digests_of old)) old.settings (requests_of old) (λ text. (g.met.D.Digests.text_digest_shape old.d.now text).size) c.requires.behind.0 (shown_world old) c.requires.behind.1.behind
    c.args.worker (place_of c.args.place) c.args.request.now c.requires.may).0

pub serve-requires-clause-open : goal.serve-requires-clause-open
serve-requires-clause-open g c =
    let old = c.args.self.now in
    let there : c.args.place / 5 < length old.shards.items = omega (arith, c.requires.may.there.0, length-map old.shards.items shown_seats) in
    let seats = read_shown shown_seats old.shards.items (c.args.place / 5) c.index_mut-seats.result.now (unmoved []) there c.index_mut-seats.ensures.value in
    let own : c.args.worker < length old.workers.items = omega (arith, c.requires.may.serving.there, length-map old.workers.items shown_worker) in
    let worker = sym (read_shown shown_worker old.workers.items c.args.worker c.index_mut-server.result.now (fresh old.settings.header) own c.index_mut-server.ensures.value) in
    subst (λ (w : Worker). IsOpenAt w.clock (get_or (contents_of c.index_mut-seats.result.now) (c.args.place % 5) vacant)) (sym worker)
    (subst (λ (s : Seats Content). IsOpenAt (get_or (shown_world old).workers c.args.worker (fresh old.settings.header)).clock (get_or s.contents (c.args.place % 5) vacant)) seats
    (serves_with (g.D.Digests.functions (digests_of old)) old.settings (requests_of old) (λ text. (g.met.D.Digests.text_digest_shape old.d.now text).size) c.requires.behind.0 (shown_world old) c.requires.behind.1.behind
    c.args.worker (place_of c.args.place) c.args.request.now c.requires.may).1)

pub returns-in_err-serve-clause-as_before : goal.returns-in_err-serve-clause-as_before
returns-in_err-serve-clause-as_before g c =
    let old = c.args.self.now in
    let not = λ (ok : c.serve.result ≡ Ok true). false≢true (ap is_ok (sym c.in_err-serve.was ∙ ok)) in
    on_err c.from_residual.result
    (ap (λ (shards : List (Seats Content)). record (shown_world old) { shards = shards; workers = map shown_worker (set old.workers.items c.args.worker c.serve.new.worker) })
    (set_same shown_seats old.shards.items (c.args.place / 5) c.index_mut-seats.result.now c.serve.new.self c.index_mut-seats.ensures.value
    (same_seats c.index_mut-seats.result.now c.serve.new.self (c.serve.ensures.as_before not) c.serve.ensures.same_close))
    ∙ ap (λ (workers : List Worker). record (shown_world old) { workers = workers })
    (set_same shown_worker old.workers.items c.args.worker c.index_mut-server.result.now c.serve.new.worker c.index_mut-server.ensures.value (c.serve.ensures.worker_as_before not)))

pub returns-then-branch-clause-stepped : goal.returns-then-branch-clause-stepped
returns-then-branch-clause-stepped g c =
    let old = c.args.self.now in
    let world = shown_world old in
    let i = c.args.worker in
    let place = place_of c.args.place in
    let there : c.args.place / 5 < length old.shards.items = omega (arith, c.requires.may.there.0, length-map old.shards.items shown_seats) in
    let seats = read_shown shown_seats old.shards.items (c.args.place / 5) c.index_mut-seats.result.now (unmoved []) there c.index_mut-seats.ensures.value in
    let own : i < length old.workers.items = omega (arith, c.requires.may.serving.there, length-map old.workers.items shown_worker) in
    let worker = sym (read_shown shown_worker old.workers.items i c.index_mut-server.result.now (fresh old.settings.header) own c.index_mut-server.ensures.value) in
    let serving = serve_at old.settings.absent (g.D.Digests.functions old.d.now).digest i in
    ap (λ (shards : List (Seats Content)). record world { shards = shards; workers = map shown_worker (set old.workers.items i c.serve.new.worker) })
    (map-set shown_seats old.shards.items (c.args.place / 5) c.serve.new.self)
    ∙ ap (λ (workers : List Worker). record world { shards = set world.shards (c.args.place / 5) (shown_seats c.serve.new.self); workers = workers })
    (map-set shown_worker old.workers.items i c.serve.new.worker)
    ∙ after_served world i place (shown_worker c.index_mut-server.result.now) (shown_worker c.serve.new.worker) (shown_seats c.index_mut-seats.result.now) (shown_seats c.serve.new.self) _
    (c.serve.ensures.served (c.in_ok-serve.was ∙ ap Ok c.if-branch.true)) c.serve.ensures.seat_alone c.serve.ensures.same_close
    ∙ ap (λ (w : Worker). after_serve world i w place (shown_seats c.index_mut-seats.result.now)
    (serving w.clock (get_or (contents_of c.index_mut-seats.result.now) place.seat vacant) c.args.request.now)) worker
    ∙ ap (λ (s : Seats Content). after_serve world i (get_or world.workers i (fresh old.settings.header)) place s
    (serving (get_or world.workers i (fresh old.settings.header)).clock (get_or s.contents place.seat vacant) c.args.request.now)) (sym seats)

pub returns-clause-stepped : goal.returns-clause-stepped
returns-clause-stepped g c =
    let old = c.args.self.now in
    let world = shown_world old in
    let i = c.args.worker in
    let place = place_of c.args.place in
    let there : c.args.place / 5 < length old.shards.items = omega (arith, c.requires.may.there.0, length-map old.shards.items shown_seats) in
    let seats = read_shown shown_seats old.shards.items (c.args.place / 5) c.index_mut-seats.result.now (unmoved []) there c.index_mut-seats.ensures.value in
    let own : i < length old.workers.items = omega (arith, c.requires.may.serving.there, length-map old.workers.items shown_worker) in
    let worker = sym (read_shown shown_worker old.workers.items i c.index_mut-server.result.now (fresh old.settings.header) own c.index_mut-server.ensures.value) in
    let serving = serve_at old.settings.absent (g.D.Digests.functions old.d.now).digest i in
    let not = λ (ok : c.serve.result ≡ Ok true). false≢true (sym c.if-branch.false ∙ one_answer c.serve.result c.in_ok-serve.field-0 true c.in_ok-serve.was ok) in
    let now : code.Worker = record c.index_mut.result.now { stopped = true } in
    let stopped : shown_worker now ≡ record (shown_worker c.index_mut-server.result.now) { stopped = true } =
    ap (λ (w : code.Worker). record (shown_worker w) { stopped = true })
    (read_back old.workers.items i c.serve.new.worker c.index_mut.result.now own c.index_mut.ensures.value)
    ∙ ap (λ (w : Worker). record w { stopped = true }) (c.serve.ensures.worker_as_before not) in
    ap (λ (shards : List (Seats Content)). record world { shards = shards; workers = map shown_worker (set (set old.workers.items i c.serve.new.worker) i now) })
    (set_same shown_seats old.shards.items (c.args.place / 5) c.index_mut-seats.result.now c.serve.new.self c.index_mut-seats.ensures.value
    (same_seats c.index_mut-seats.result.now c.serve.new.self (c.serve.ensures.as_before not) c.serve.ensures.same_close))
    ∙ ap (λ (workers : List Worker). record world { workers = workers })
    (ap (map shown_worker) (set-set old.workers.items i c.serve.new.worker now) ∙ map-set shown_worker old.workers.items i now)
    ∙ after_stopped world i place (shown_worker c.index_mut-server.result.now) (shown_worker now) (shown_seats c.index_mut-seats.result.now) _
    (none_of _ (sym c.if-branch.false ∙ c.in_ok-serve.ensures.within)) stopped
    ∙ ap (λ (w : Worker). after_serve world i w place (shown_seats c.index_mut-seats.result.now)
    (serving w.clock (get_or (contents_of c.index_mut-seats.result.now) place.seat vacant) c.args.request.now)) worker
    ∙ ap (λ (s : Seats Content). after_serve world i (get_or world.workers i (fresh old.settings.header)) place s
    (serving (get_or world.workers i (fresh old.settings.header)).clock (get_or s.contents place.seat vacant) c.args.request.now)) (sym seats)

pub invariant_of-self : goal.invariant_of-self
invariant_of-self g c =
    let old = c.args.self.now in
    record { begun = begun-set old.settings.header old.workers.items old.begun c.args.worker c.index_mut-server.result.now c.serve.new.worker c.index_mut-server.ensures.value c.serve.ensures.writer }

pub invariant_of-self-then-branch : goal.invariant_of-self-then-branch
invariant_of-self-then-branch g c =
    let old = c.args.self.now in
    record { begun = begun-set old.settings.header old.workers.items old.begun c.args.worker c.index_mut-server.result.now c.serve.new.worker c.index_mut-server.ensures.value c.serve.ensures.writer }

pub invariant_of-self-2 : goal.invariant_of-self-2
invariant_of-self-2 g c =
    let old = c.args.self.now in
    let header = old.settings.header in
    let first = begun-set header old.workers.items old.begun c.args.worker c.index_mut-server.result.now c.serve.new.worker c.index_mut-server.ensures.value c.serve.ensures.writer in
    record { begun = begun-set header (set old.workers.items c.args.worker c.serve.new.worker) first c.args.worker c.index_mut.result.now _ c.index_mut.ensures.value refl }
