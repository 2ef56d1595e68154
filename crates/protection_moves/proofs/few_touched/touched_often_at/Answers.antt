use Rattle.std.proofs.Common.{◌≡◌, ◌≤◌, ℕ, List, None, map, take, length, Some, refl, sym, subst, arith}
use Rattle.tree_keys.specs.Path.{tree_of}
use Rattle.host_shard.specs.Shown.{shown, shown_content}
use Rattle.protection_moves.specs.Promotable.{promotable_among}
use Rattle.protection_moves.specs.Shown.{shown_stage}
use Rattle.protection_moves.proofs.PromotableLemmas.{are_promotable, promotable_rising}
use Rattle.protection_moves.proofs.LowestLemmas.{IsFront, key_touched, front_none, front_next, front_whole, front_room, whole_room, first_own, first_in_range, first_rising}
use Rattle.protection_moves.proofs.few_touched.touched_often_at.Goals as goal

-- the keys so far, where they fill the room
full : (c : goal.After-loop-last) → c.loop-last.keys.items ≡ take c.args.room (promotable_among c.args.least c.args.shard.now.frontier (map shown_content c.args.places.now) c.args.shard.now.records)
full c = front_room c.args.room _ c.loop-last.keys.items c.loop-last.last c.loop-last.invariant.front (omega (arith, c.loop-last.invariant.few, c.loop-last-test.false, c.len.ensures.value))

-- and where there are no more
gone : (c : goal.In_default) → c.loop-last.keys.items ≡ take c.args.room (promotable_among c.args.least c.args.shard.now.frontier (map shown_content c.args.places.now) c.args.shard.now.records)
gone c =
    whole_room c.args.room _ c.loop-last.keys.items
    (front_whole _ c.loop-last.keys.items c.loop-last.last (tree_of c.args.shard.now.frontier) c.args.paths.now c.loop-last.invariant.front c.in_default.ensures.lowest
    (λ v among. key_touched c.args.least c.args.shard.now.frontier (map shown_content c.args.places.now) c.args.shard.now.records c.args.paths.now v c.requires.some c.requires.in_order c.requires.all among))
    c.loop-last.invariant.few

pub loop-last-init : goal.loop-last-init
loop-last-init c =
    let among : List ℕ = promotable_among c.args.least c.args.shard.now.frontier (map shown_content c.args.places.now) c.args.shard.now.records in
    record {
      front = subst (λ (keys : List ℕ). IsFront among keys None) (sym c.new-keys.ensures) (front_none among);
      few = subst (λ (keys : List ℕ). length keys ≤ c.args.room) (sym c.new-keys.ensures) (omega arith);
    }

pub loop-last-preserved : goal.loop-last-preserved
loop-last-preserved c =
    record {
      front = subst (λ (keys : List ℕ). IsFront (promotable_among c.args.least c.args.shard.now.frontier (map shown_content c.args.places.now) c.args.shard.now.records) keys (Some c.in-Some.key))
          (sym c.push.ensures.items)
          (front_next _ c.loop-last.keys.items c.loop-last.last (tree_of c.args.shard.now.frontier) c.args.paths.now c.in-Some.key
          (promotable_rising c.args.least c.args.shard.now.frontier (map shown_content c.args.places.now) c.args.shard.now.records c.requires.in_order)
          c.loop-last.invariant.front c.in-Some.ensures.lowest
          (λ v among. key_touched c.args.least c.args.shard.now.frontier (map shown_content c.args.places.now) c.args.shard.now.records c.args.paths.now v c.requires.some c.requires.in_order c.requires.all among));
      few = omega (arith, c.push.ensures.len, c.loop-last-test.true, c.len.ensures.value);
    }

pub returns-in_default-clause-first : goal.returns-in_default-clause-first
returns-in_default-clause-first c clock = record {
  promotable = promotable_among c.args.least c.args.shard.now.frontier (map shown_content c.args.places.now) c.args.shard.now.records;
  are_promotable = are_promotable (shown_stage c.args.shard.now c.args.places.now clock) c.args.shard.now.records c.args.least c.requires.some c.requires.in_order refl;
  first = gone c;
}

pub returns-in_default-clause-own : goal.returns-in_default-clause-own
returns-in_default-clause-own c = first_own c.args.least (shown c.args.shard.now) (map shown_content c.args.places.now) c.args.shard.now.records c.args.room c.loop-last.keys.items (gone c)

pub returns-in_default-clause-in_range : goal.returns-in_default-clause-in_range
returns-in_default-clause-in_range c = first_in_range c.args.least (shown c.args.shard.now) (map shown_content c.args.places.now) c.args.shard.now.records c.args.room c.loop-last.keys.items (gone c)

pub returns-in_default-clause-rising : goal.returns-in_default-clause-rising
returns-in_default-clause-rising c =
    first_rising c.args.least c.args.shard.now.frontier (map shown_content c.args.places.now) c.args.shard.now.records c.args.room c.loop-last.keys.items c.requires.in_order (gone c)

pub returns-clause-first : goal.returns-clause-first
returns-clause-first c clock = record {
  promotable = promotable_among c.args.least c.args.shard.now.frontier (map shown_content c.args.places.now) c.args.shard.now.records;
  are_promotable = are_promotable (shown_stage c.args.shard.now c.args.places.now clock) c.args.shard.now.records c.args.least c.requires.some c.requires.in_order refl;
  first = full c;
}

pub returns-clause-own : goal.returns-clause-own
returns-clause-own c = first_own c.args.least (shown c.args.shard.now) (map shown_content c.args.places.now) c.args.shard.now.records c.args.room c.loop-last.keys.items (full c)

pub returns-clause-in_range : goal.returns-clause-in_range
returns-clause-in_range c = first_in_range c.args.least (shown c.args.shard.now) (map shown_content c.args.places.now) c.args.shard.now.records c.args.room c.loop-last.keys.items (full c)

pub returns-clause-rising : goal.returns-clause-rising
returns-clause-rising c =
    first_rising c.args.least c.args.shard.now.frontier (map shown_content c.args.places.now) c.args.shard.now.records c.args.room c.loop-last.keys.items c.requires.in_order (full c)
