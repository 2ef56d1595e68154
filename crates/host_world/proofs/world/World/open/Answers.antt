use Rattle.std.proofs.Common.{ℕ, suc, ◌≡◌, ◌+◌, List, map, length, false, sym, ◌∙◌, ap, arith}
use Rattle.std.proofs.lemmas.List.{with_items_is, length-map}
use Rattle.host_core.specs.World.{Seats, unmoved}
use Rattle.host_shard.specs.Content.{Content}
use Rattle.host_world.specs.Shown.{shown_world, shown_seats}
use Rattle.host_world.proofs.world.World.open.Goals as goal

pub returns-clause-stepped : goal.returns-clause-stepped
returns-clause-stepped g c =
    let old = shown_world c.args.self.now in
    let opened : List (Seats Content) → List (Seats Content) = map (λ (seats : Seats Content). unmoved seats.contents) in
    let shards : map shown_seats c.reopen.new.shards ≡ opened old.shards =
    c.reopen.ensures.reopened ∙ ap (λ xs. opened (map shown_seats xs)) c.as_mut_slice.ensures.value in
    let lent = c.as_mut_slice.result.now in
    let many : length c.reopen.new.shards ≡ c.args.self.now.shards.len =
    sym (length-map c.reopen.new.shards shown_seats)
    ∙ (ap length c.reopen.ensures.reopened
    ∙ (length-map (map shown_seats lent) (λ (seats : Seats Content). unmoved seats.contents) ∙ (length-map lent shown_seats ∙ c.as_mut_slice.ensures.len))) in
    let next : old.phase + 1 ≡ suc old.phase = omega arith in
    ap (λ (some : List (Seats Content)). record old { shards = some; phase = old.phase + 1; closing = false })
    (ap (map shown_seats) (with_items_is c.args.self.now.shards c.reopen.new.shards many) ∙ shards)
    ∙ ap (λ (phase : ℕ). record old { shards = opened old.shards; phase = phase; closing = false }) next
