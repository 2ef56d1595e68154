-- How many vacant places shards have.
use Rattle.std.proofs.Common.{◌≡◌, ◌+◌, List, ◌∷◌, ◌++◌, map, length, replicate, Result, OnOk, sym, ◌∙◌, ap, append_assoc, arith}
use Rattle.std.proofs.lemmas.List.{length-append, length-map, replicate-append-replicate}
use Rattle.host_shard.specs.Content.{Content, vacant}
use Rattle.host_shard.specs.Shown.{shown_content}
use Rattle.host_world.specs.declared.seats.Seats.{Seats}
use Rattle.host_world.specs.Lending.{all_contents}
use Rattle.host_world.specs.Shown.{shown_seats, contents_of}
use Rattle.host_world.proofs.StandingLemmas.{ok_then}

-- Those of the first shard, and behind them those of the others.
vacant_joined : (seats : Seats) (others shards : List Seats) (xs : List Content) → shards ≡ seats ∷ others
    → (xs ++ replicate (length seats.hot.items + 1) vacant) ++ replicate (length (all_contents (map shown_seats others))) vacant
    ≡ xs ++ replicate (length (all_contents (map shown_seats shards))) vacant
vacant_joined seats others shards xs is =
    let own = length seats.hot.items + 1 in
    let rest = length (all_contents (map shown_seats others)) in
    let many = length-append (contents_of seats) (all_contents (map shown_seats others)) in
    let hot = length-map seats.hot.items shown_content in
    let all : own + rest ≡ length (all_contents (map shown_seats (seats ∷ others))) = omega (arith, many, hot) in
    append_assoc xs (replicate own vacant) (replicate rest vacant)
    ∙ ap (λ (ys : List Content). xs ++ ys) (replicate-append-replicate own rest vacant ∙ ap (λ n. replicate n vacant) all)
    ∙ ap (λ (ss : List Seats). xs ++ replicate (length (all_contents (map shown_seats ss))) vacant) (sym is)

pub vacant_added : {T E : Type 0} (r : Result T E) (seats : Seats) (others shards : List Seats) (before middle after : List Content) → shards ≡ seats ∷ others
    → middle ≡ before ++ replicate (length seats.hot.items + 1) vacant
    → OnOk r (after ≡ middle ++ replicate (length (all_contents (map shown_seats others))) vacant)
    → OnOk r (after ≡ before ++ replicate (length (all_contents (map shown_seats shards))) vacant)
vacant_added r seats others shards before middle after is first more =
    ok_then r more (λ then. then
    ∙ ap (λ (xs : List Content). xs ++ replicate (length (all_contents (map shown_seats others))) vacant) first
    ∙ vacant_joined seats others shards before is)
