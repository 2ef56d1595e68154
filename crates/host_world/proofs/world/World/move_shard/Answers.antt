use Rattle.std.proofs.Common.{◌≡◌, ◌<◌, List, [], Option, Ok, true, false, is_some, length, ap, refl, sym, ◌∙◌, arith}
use Rattle.std.proofs.lemmas.Bool.{false≢true}
use Rattle.std.proofs.lemmas.List.{length-map}
use Rattle.record_text.specs.declared.request.Request.{Request}
use Rattle.host_core.specs.Host.{Done, Host}
use Rattle.host_core.specs.World.{Worker, Seats, World, fresh, unmoved, worker_at, shard_at}
use Rattle.host_core.specs.WorldEvent.{with_worker, with_shard}
use Rattle.host_shard.specs.Content.{Content}
use Rattle.host_world.specs.Behind.{host_of}
use Rattle.host_world.specs.Shown.{shown_world, shown_seats, digests_of, requests_of}
use Rattle.host_world.specs.Workers.{shown_worker}
use Rattle.host_world.proofs.BegunLaws.{begun-set}
use Rattle.host_world.proofs.BehindLaws.{moves_with}
use Rattle.host_world.proofs.WorldLemmas.{changed, then_moved, not_moved, one_answer}
use Rattle.host_world.proofs.world.World.move_shard.Goals as goal

pub renew-requires-clause-seats : goal.renew-requires-clause-seats
renew-requires-clause-seats g c =
    let old = c.args.self.now in
    moves_with (g.D.Digests.functions (digests_of old)) old.settings (requests_of old) (λ text. (g.met.D.Digests.text_digest_shape old.d.now text).size) c.requires.behind.0 (shown_world old) c.requires.behind.1.behind
    c.args.worker c.args.shard c.requires.may

pub index_mut-requires : goal.index_mut-requires
index_mut-requires g c =
    omega (arith, c.requires.may.shard, c.renew.ensures.as_many.1, length-map c.renew.new.self.shards.items shown_seats)

pub returns-then-branch-clause-stepped : goal.returns-then-branch-clause-stepped
returns-then-branch-clause-stepped g c =
    let old = c.args.self.now in
    let world = shown_world old in
    let later = c.renew.new.self in
    let i = c.args.worker in
    let s = c.args.shard in
    let host : Host Content Request = host_of (g.D.Digests.functions (digests_of old)) old in
    let what : Option (Done (List Content)) = host.move i (worker_at host world i).clock s (shard_at world s).contents in
    let there : s < length later.shards.items = omega (arith, c.requires.may.shard, c.renew.ensures.as_many.1, length-map later.shards.items shown_seats) in
    ap (λ (shards : List (Seats Content)). record (shown_world later) { shards = shards })
    (changed shown_seats later.shards.items s c.index_mut.result.now _ (unmoved []) (λ (found : Seats Content). record found { moved = true }) there c.index_mut.ensures.value refl)
    ∙ ap (λ (w : World Content). with_shard w s (record (shard_at w s) { moved = true })) (c.renew.ensures.renewed (c.in_ok-renew.was ∙ ap Ok c.if-branch.true))
    ∙ then_moved host world i s what (sym c.in_ok-renew.ensures.within ∙ c.if-branch.true) c.requires.may.shard

pub invariant_of-self-2 : goal.invariant_of-self-2
invariant_of-self-2 g c =
    let later = c.renew.new.self in
    record { begun = begun-set later.settings.header later.workers.items later.begun c.args.worker c.index_mut-mover.result.now _ c.index_mut-mover.ensures.value refl }

pub returns-clause-stepped : goal.returns-clause-stepped
returns-clause-stepped g c =
    let old = c.args.self.now in
    let world = shown_world old in
    let later = c.renew.new.self in
    let i = c.args.worker in
    let s = c.args.shard in
    let host : Host Content Request = host_of (g.D.Digests.functions (digests_of old)) old in
    let what : Option (Done (List Content)) = host.move i (worker_at host world i).clock s (shard_at world s).contents in
    let not = λ (ok : c.renew.result ≡ Ok true). false≢true (sym c.if-branch.false ∙ one_answer c.renew.result c.in_ok-renew.field-0 true c.in_ok-renew.was ok) in
    let own : i < length later.workers.items = omega (arith, c.requires.may.there, c.renew.ensures.as_many.0, length-map later.workers.items shown_worker) in
    ap (λ (workers : List Worker). record (shown_world later) { workers = workers })
    (changed shown_worker later.workers.items i c.index_mut-mover.result.now _ (fresh old.settings.header) (λ (w : Worker). record w { stuck = true }) own c.index_mut-mover.ensures.value refl)
    ∙ ap (λ (w : World Content). with_worker w i (record (worker_at host w i) { stuck = true })) (c.renew.ensures.as_before not)
    ∙ not_moved world i s (worker_at host world i) what (sym c.in_ok-renew.ensures.within ∙ c.if-branch.false)
