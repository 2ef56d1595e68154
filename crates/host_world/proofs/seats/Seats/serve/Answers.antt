use Rattle.std.proofs.Common.{◌≡◌, ◌-◌, ◌<◌, suc, List, ◌∷◌, set, get_or, length, ap, sym, subst, ◌∙◌, arith}
use Rattle.std.proofs.lemmas.List.{length-map}
use Rattle.host_shard.specs.Content.{Content, vacant}
use Rattle.host_shard.specs.Shown.{shown_content}
use Rattle.host_world.specs.Doing.{HasServed}
use Rattle.host_world.specs.Places.{place_of}
use Rattle.shipped_host.specs.ShippedHost.{serve_at}
use Rattle.host_world.specs.Shown.{contents_of}
use Rattle.host_world.specs.Workers.{shown_worker}
use Rattle.host_world.proofs.WorldLemmas.{hot_there, hot_read, hot_set, set_same}
use Rattle.host_world.proofs.seats.Seats.serve.Goals as goal

pub returns-clause-served : goal.returns-clause-served
returns-clause-served g c is =
    let k = c.args.seat - 1 in
    let next : suc k ≡ c.args.seat = omega arith in
    let xs = c.args.self.now.hot.items in
    let there : k < length xs = omega (arith, c.requires.there, length-map xs shown_content) in
    let first = shown_content c.args.self.now.first in
    subst (λ (after : Content). HasServed (place_of c.args.place) (serve_at c.args.absent (g.D.Digests.functions c.args.d.now).digest c.args.number c.args.worker.now.clock
    (get_or (contents_of c.args.self.now) c.args.seat vacant) c.args.request.now) (shown_worker c.args.worker.now) after (shown_worker c.serve-2.new.self))
    (sym (hot_there shown_content first xs k c.args.seat c.serve-2.new.content vacant next there))
    (subst (λ (before : Content). HasServed (place_of c.args.place) (serve_at c.args.absent (g.D.Digests.functions c.args.d.now).digest c.args.number c.args.worker.now.clock
    before c.args.request.now) (shown_worker c.args.worker.now) (shown_content c.serve-2.new.content) (shown_worker c.serve-2.new.self))
    (sym (hot_read shown_content first xs k c.args.seat c.index_mut.result.now vacant next there c.index_mut.ensures.value))
    (c.serve-2.ensures.served is))

pub returns-clause-seat_alone : goal.returns-clause-seat_alone
returns-clause-seat_alone g c =
    let k = c.args.seat - 1 in
    let next : suc k ≡ c.args.seat = omega arith in
    let xs = c.args.self.now.hot.items in
    let there : k < length xs = omega (arith, c.requires.there, length-map xs shown_content) in
    let first = shown_content c.args.self.now.first in
    hot_set shown_content first xs k c.args.seat c.serve-2.new.content next
    ∙ ap (set (contents_of c.args.self.now) c.args.seat) (sym (hot_there shown_content first xs k c.args.seat c.serve-2.new.content vacant next there))

pub returns-clause-as_before : goal.returns-clause-as_before
returns-clause-as_before g c not =
    ap (λ (cs : List Content). shown_content c.args.self.now.first ∷ cs)
    (set_same shown_content c.args.self.now.hot.items (c.args.seat - 1) c.index_mut.result.now c.serve-2.new.content c.index_mut.ensures.value (c.serve-2.ensures.content_as_before not))
