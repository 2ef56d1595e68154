use Rattle.std.proofs.Common.{◌≡◌, ◌<◌, List, [], Bool, set, map, length, ap, refl, sym, subst, ◌∙◌, arith}
use Rattle.std.proofs.lemmas.List.{length-map, map-set}
use Rattle.host_core.specs.World.{Worker, Seats, World, fresh, unmoved, worker_at, shard_at}
use Rattle.host_shard.specs.Content.{Content}
use Rattle.shipped_host.specs.Moving.{stage_of, move_seats}
use Rattle.host_world.specs.Behind.{host_of}
use Rattle.host_world.specs.Doing.{HasDone}
use Rattle.host_world.specs.Shown.{shown_world, shown_seats, contents_of, digests_of}
use Rattle.host_world.specs.Workers.{shown_worker}
use Rattle.host_world.proofs.BegunLaws.{begun-set}
use Rattle.host_world.proofs.WorldLemmas.{read_shown, set_same, same_seats, renewed_so}
use Rattle.host_world.proofs.world.World.renew.Goals as goal

pub invariant_of-self : goal.invariant_of-self
invariant_of-self g c =
    let old = c.args.self.now in
    record { begun = begun-set old.settings.header old.workers.items old.begun c.args.worker c.index_mut-mover.result.now c.move_by.new.worker c.index_mut-mover.ensures.value c.move_by.ensures.writer }

pub returns-clause-renewed : goal.returns-clause-renewed
returns-clause-renewed g c ok =
    let old = c.args.self.now in
    let world = shown_world old in
    let functions = g.D.Digests.functions (digests_of old) in
    let host = host_of functions old in
    let i = c.args.worker in
    let s = c.args.shard in
    let there : s < length old.shards.items = omega (arith, c.requires.there.1, length-map old.shards.items shown_seats) in
    let seats : shard_at world s ≡ shown_seats c.index_mut-seats.result.now = read_shown shown_seats old.shards.items s c.index_mut-seats.result.now (unmoved []) there c.index_mut-seats.ensures.value in
    let own : i < length old.workers.items = omega (arith, c.requires.there.0, length-map old.workers.items shown_worker) in
    let worker : worker_at host world i ≡ shown_worker c.index_mut-mover.result.now = read_shown shown_worker old.workers.items i c.index_mut-mover.result.now (fresh old.settings.header) own c.index_mut-mover.ensures.value in
    let moving = λ (w : Worker) (found : Seats Content). move_seats functions.digest i old.settings.hot (stage_of w.clock found.contents) in
    let has : HasDone (moving (worker_at host world i) (shard_at world s)) (worker_at host world i) (contents_of c.move_by.new.self) (shown_worker c.move_by.new.worker) =
    subst (λ (w : Worker). HasDone (moving w (shard_at world s)) w (contents_of c.move_by.new.self) (shown_worker c.move_by.new.worker)) (sym worker)
    (subst (λ (found : Seats Content). HasDone (moving (shown_worker c.index_mut-mover.result.now) found) (shown_worker c.index_mut-mover.result.now) (contents_of c.move_by.new.self) (shown_worker c.move_by.new.worker)) (sym seats)
    (c.move_by.ensures.moved ok)) in
    ap (λ (shards : List (Seats Content)). record world { shards = shards; workers = map shown_worker (set old.workers.items i c.move_by.new.worker) })
    (map-set shown_seats old.shards.items s c.move_by.new.self)
    ∙ ap (λ (workers : List Worker). record world { shards = set world.shards s (shown_seats c.move_by.new.self); workers = workers })
    (map-set shown_worker old.workers.items i c.move_by.new.worker)
    ∙ ap (λ (moved : Bool). record world { shards = set world.shards s (record { contents = contents_of c.move_by.new.self; moved = moved }); workers = set world.workers i (shown_worker c.move_by.new.worker) })
    (c.move_by.ensures.same_close ∙ sym (ap (λ (found : Seats Content). found.moved) seats))
    ∙ renewed_so host world i s (shown_worker c.move_by.new.worker) (contents_of c.move_by.new.self) (moving (worker_at host world i) (shard_at world s)) has

pub returns-clause-as_before : goal.returns-clause-as_before
returns-clause-as_before g c not =
    let old = c.args.self.now in
    ap (λ (shards : List (Seats Content)). record (shown_world old) { shards = shards; workers = map shown_worker (set old.workers.items c.args.worker c.move_by.new.worker) })
    (set_same shown_seats old.shards.items c.args.shard c.index_mut-seats.result.now c.move_by.new.self c.index_mut-seats.ensures.value
    (same_seats c.index_mut-seats.result.now c.move_by.new.self (c.move_by.ensures.as_before not) c.move_by.ensures.same_close))
    ∙ ap (λ (workers : List Worker). record (shown_world old) { workers = workers })
    (set_same shown_worker old.workers.items c.args.worker c.index_mut-mover.result.now c.move_by.new.worker c.index_mut-mover.ensures.value (c.move_by.ensures.worker_as_before not))
