-- The turns of a rolling host's only worker are what the script asks, deed by deed.
use Rattle.std.proofs.Common.{◌≡◌, ℕ, suc, ◌+◌, ◌-◌, ◌<◌, ◌≤◌, true, List, [], ◌∷◌, ◌++◌, length, get_or, slice_get, replicate, Option, Some, None, refl, sym, ◌∙◌, ap, subst, append_assoc, arith}
use Rattle.log_codec.specs.declared.command.Command.{Command}
use Rattle.log_codec.specs.declared.command.Command.TheVariants.{NextEpoch}
use Rattle.host_core.specs.Host.{Host, asked}
use Rattle.host_core.specs.World.{World}
use Rattle.host_core.specs.WorldEvent.{AreFrom, next_clock}
use Rattle.round_order.specs.Turn.{Turn, on_to, IsWorkerChain, served_more, served_behind, clock_behind, logged}
use Rattle.round_order.specs.Steady.{scanned_done}
use Rattle.round_order.specs.Told.{IsDid, others_at}
use Rattle.round_order.proofs.GoingLaws.{at_start, on_to-later, on_to-there}
use Rattle.host_serving.specs.Loop.{AreInOrderBehind, AreInOrder}
use Rattle.one_worker.specs.Deeds.{acts_of, Standing, seats_of, standing_behind, IsServed, IsRenewed}
use Rattle.one_worker.proofs.ShapeLemmas.{IsKnown, set_first, get_first, rest_of}
use Rattle.one_worker.proofs.TurnLemmas.{contents_in, contents_at, first_in, others_are, Tells, turn_there, turn_first, turn_seats, put_tells}

-- behind some turn the rest is in order
abbrev pub IsFree : {C R : Type 0} → List (Turn C R) → Type 0
IsFree [] = Unit {0}
IsFree (turn ∷ turns) = (before : Option ℕ) × AreInOrderBehind before turn turns

pub order_free : {C R : Type 0} (turns : List (Turn C R)) → AreInOrder turns → IsFree turns
order_free [] order = tt
order_free (turn ∷ turns) order = (None, order)

pub free_behind : {C R : Type 0} (before : Option ℕ) (prev : Turn C R) (turns : List (Turn C R)) → AreInOrderBehind before prev turns → IsFree turns
free_behind before prev [] order = tt
free_behind before prev (turn ∷ turns) order = (Some prev.done.clock.at.epoch, order.1)

module _ {C R : Type 0} (host : Host C R) (world : World C) (known : IsKnown host (contents_in world)) (last : Standing C) (top : ℕ)
    (one : length world.workers ≡ 1)
    (reached : (s : ℕ) → s < length (contents_in world) → AreFrom top (host.pending (first_in host last.shards s))) where
  -- What is told from a standing on, up to the last: the list of the worker's turns from here, its clock and log.
  pub record Rolls (from : Standing C) (served : ℕ) (turns : List (Turn C R)) : Type 0 where
    pub tells : Tells host world known from.shards last.shards turns
    pub chain : IsWorkerChain host 0 from.clock served turns
    pub log : from.log ++ logged top from.clock turns ≡ last.log
    pub clock : on_to top (clock_behind from.clock turns) ≡ last.clock
    pub within : (clock_behind from.clock turns).at.epoch ≤ top
    pub all : slice_get (asked host 0) (served_behind served turns) ≡ None

  -- the standing behind a turn
  abbrev pub behind : Standing C → Turn C R → Standing C
  behind from turn = standing_behind from turn.place.shard
      (record { commands = turn.done.commands; after = turn.done.after ∷ rest_of host (contents_in world) turn.place.shard; clock = turn.done.clock })

  module _ (from : Standing C) (served : ℕ) (turn : Turn C R) (turns : List (Turn C R)) (rolls : Rolls from served (turn ∷ turns)) where
    no_worker : turn.worker ≡ 0
    no_worker = omega (arith, rolls.tells.taken.0.there, one)

    shards_there : turn.place.shard < length from.shards
    shards_there = omega (arith, turn_there host world known from.shards last.shards turn turns rolls.tells, rolls.tells.shaped.count)

    seats_are : seats_of from turn.place.shard ≡ turn.before ∷ rest_of host (contents_in world) turn.place.shard
    seats_are = turn_seats host world known from.shards last.shards turn turns rolls.tells

    -- ---- in the same epoch

    module _ (same : turn.clock.at.epoch ≡ from.clock.at.epoch) where
      clock_is : turn.clock ≡ from.clock
      clock_is = rolls.chain.0 ∙ on_to-there turn.clock.at.epoch from.clock (omega (arith, same))

      pub rolls_on : Rolls (behind from turn) (served_more served turn.request) turns
      rolls_on = record {
        tells = put_tells host world known from.shards last.shards turn turns rolls.tells;
        chain = rolls.chain.3;
        log = append_assoc from.log turn.done.commands (logged top turn.done.clock turns)
            ∙ ap (λ (n : ℕ). from.log ++ (replicate n NextEpoch ++ (turn.done.commands ++ logged top turn.done.clock turns))) none'
            ∙ rolls.log;
        clock = rolls.clock;
        within = rolls.within;
        all = rolls.all;
      }
        where
          none' : 0 ≡ turn.clock.at.epoch - from.clock.at.epoch
          none' = omega (arith, same)

      pub turn_served : (request : R) → turn.request ≡ Some request → IsServed (acts_of host) from request (behind from turn)
      turn_served request asks = record {
        place = turn.place;
        done = turn.done;
        there = shards_there;
        seated = subst (λ (cs : List C). turn.place.seat < length cs) (sym seats_are) (omega (arith, first));
        owns = rolls.tells.shaped.owners turn.place.shard turn.place.seat request
            ∙ ap (λ (cs : List C). host.owns turn.place.shard cs turn.place.seat request) (contents_at world turn.place.shard rolls.tells.taken.0.at.0)
            ∙ did.0;
        serves = (λ k. host.serve ((sym no_worker) k) ((sym clock_is) k) (found k) request) ∙ did.1;
        is = ap (λ (cs : List C). standing_behind from turn.place.shard (record { commands = turn.done.commands; after = cs; clock = turn.done.clock }))
            (sym (set_first (seats_of from turn.place.shard) turn.before (rest_of host (contents_in world) turn.place.shard) turn.place.seat turn.done.after seats_are first));
      }
        where
          first : turn.place.seat ≡ 0
          first = turn_first host world known from.shards last.shards turn turns rolls.tells

          did : IsDid host true world turn (Some request)
          did = subst (IsDid host true world turn) asks rolls.tells.taken.0.did

          found : get_or (seats_of from turn.place.shard) turn.place.seat host.vacant ≡ turn.before
          found = get_first (seats_of from turn.place.shard) turn.before (rest_of host (contents_in world) turn.place.shard) turn.place.seat host.vacant seats_are first

      pub turn_renewed : turn.request ≡ None → IsRenewed (acts_of host) from turn.place.shard (behind from turn)
      turn_renewed asks = record {
        done = scanned_done (rest_of host (contents_in world) turn.place.shard) turn.done;
        there = shards_there;
        moves = (λ k. host.move ((sym no_worker) k) ((sym clock_is) k) turn.place.shard (seats_are k))
            ∙ ap (λ (cs : List C). host.move turn.worker turn.clock turn.place.shard (turn.before ∷ cs)) (sym others)
            ∙ did.moves
            ∙ ap (λ (cs : List C). Some (scanned_done cs turn.done)) others;
        is = refl;
      }
        where
          did : IsDid host true world turn None
          did = subst (IsDid host true world turn) asks rolls.tells.taken.0.did

          others : others_at world turn.place.shard ≡ rest_of host (contents_in world) turn.place.shard
          others = others_are host world known turn.place.shard rolls.tells.taken.0.at.0

    -- ---- in the next epoch

    -- the worker went on to it
    abbrev pub turned : Standing C
    turned = record from { clock = next_clock from.clock; log = from.log ++ NextEpoch ∷ [] }

    pub rolls_turned : turn.clock.at.epoch ≡ suc from.clock.at.epoch → Rolls turned served (turn ∷ turns)
    rolls_turned next = record {
      tells = rolls.tells;
      chain = (
        clock_is ∙ sym (on_to-there turn.clock.at.epoch (next_clock from.clock) (omega (arith, next))),
        omega (arith, next),
        rolls.chain.2,
        rolls.chain.3,
      );
      log = append_assoc from.log (NextEpoch ∷ []) (replicate (turn.clock.at.epoch - (from.clock.at.epoch + 1)) NextEpoch ++ rest)
          ∙ ap (λ (n : ℕ). from.log ++ (NextEpoch ∷ (replicate n NextEpoch ++ rest))) none'
          ∙ ap (λ (n : ℕ). from.log ++ (replicate n NextEpoch ++ rest)) one'
          ∙ rolls.log;
      clock = rolls.clock;
      within = rolls.within;
      all = rolls.all;
    }
      where
        rest : List Command
        rest = turn.done.commands ++ logged top turn.done.clock turns

        none' : turn.clock.at.epoch - (from.clock.at.epoch + 1) ≡ 0
        none' = omega (arith, next)

        one' : 1 ≡ turn.clock.at.epoch - from.clock.at.epoch
        one' = omega (arith, next)

        plus : turn.clock.at.epoch ≡ from.clock.at.epoch + 1
        plus = omega (arith, next)

        clock_is : turn.clock ≡ next_clock from.clock
        clock_is = rolls.chain.0 ∙ on_to-later turn.clock.at.epoch from.clock (omega (arith, next)) ∙ ap (λ (n : ℕ). at_start n from.clock) plus
