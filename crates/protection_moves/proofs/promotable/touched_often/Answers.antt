use Rattle.std.proofs.Common.{◌≡◌, ℕ, ◌<◌, ◌^◌, ◌-◌, List, ◌∷◌, ◌++◌, map, take, length, Option, refl, sym, ◌∙◌, ap, subst}
use Rattle.std.specs.List.{AllByRecursion}
use Rattle.tree_keys.specs.Path.{key_bits}
use Rattle.host_shard.specs.Mirrors.{IsKeyOf}
use Rattle.host_shard.specs.Records.{Listed}
use Rattle.host_shard.specs.Shown.{shown, shown_content}
use Rattle.host_shard.specs.Shard.{key_path_in, wide_in}
use Rattle.protection_moves.specs.Promotable.{promotable_among, listed_key, AreRising}
use Rattle.protection_moves.specs.Shown.{shown_stage}
use Rattle.protection_moves.proofs.PromotableLemmas.{are_promotable, promotable_rising, promotable_own, promotable_in_range, all_front, rising_front, front_full, front_all, front_more}
use Rattle.protection_moves.proofs.promotable.touched_often.Goals as goal

-- the keys so far, where they fill the room
full : (c : goal.Then-len-room) → c.loop-path.keys.items ≡ take c.args.room (promotable_among c.args.least c.args.shard.now.frontier (map shown_content c.args.places.now) c.args.shard.now.records)
full c =
    front_full c.args.room _ c.loop-path.keys.items _ c.loop-path.invariant.found (sym c.len.ensures.value ∙ c.if-len-room.true)

-- and where there are no more
gone : (c : goal.In-None) → c.loop-path.keys.items ≡ take c.args.room (promotable_among c.args.least c.args.shard.now.frontier (map shown_content c.args.places.now) c.args.shard.now.records)
gone c =
    front_all c.args.room _ c.loop-path.keys.items _ c.loop-path.invariant.found
    (ap (promotable_among c.args.least c.args.shard.now.frontier (map shown_content c.args.places.now)) c.in-None.ensures.steps.0)

pub returns-then-len-room-clause-first : goal.returns-then-len-room-clause-first
returns-then-len-room-clause-first c clock = record {
  promotable = promotable_among c.args.least c.args.shard.now.frontier (map shown_content c.args.places.now) c.args.shard.now.records;
  are_promotable = are_promotable (shown_stage c.args.shard.now c.args.places.now clock) c.args.shard.now.records c.args.least c.requires.some c.iter-path-items.ensures.in_order refl;
  first = full c;
}

pub returns-then-len-room-clause-own : goal.returns-then-len-room-clause-own
returns-then-len-room-clause-own c =
    subst (AllByRecursion (λ key. IsKeyOf (shown c.args.shard.now) (key_path_in (shown c.args.shard.now) key))) (sym (full c))
    (all_front _ c.args.room _ (promotable_own c.args.least c.args.shard.now.frontier (map shown_content c.args.places.now) (shown c.args.shard.now) c.args.shard.now.records refl))

pub returns-then-len-room-clause-in_range : goal.returns-then-len-room-clause-in_range
returns-then-len-room-clause-in_range c =
    subst (AllByRecursion (λ key. key < 2 ^ key_bits (wide_in (shown c.args.shard.now)))) (sym (full c))
    (all_front _ c.args.room _ (promotable_in_range c.args.least c.args.shard.now.frontier (map shown_content c.args.places.now) c.args.shard.now.records))

pub returns-then-len-room-clause-rising : goal.returns-then-len-room-clause-rising
returns-then-len-room-clause-rising c =
    subst AreRising (sym (full c))
    (rising_front c.args.room _ (promotable_rising c.args.least c.args.shard.now.frontier (map shown_content c.args.places.now) c.args.shard.now.records c.iter-path-items.ensures.in_order))

pub loop-path-preserved-in-Some-promotable_key : goal.loop-path-preserved-in-Some-promotable_key
loop-path-preserved-in-Some-promotable_key c =
    let among : Listed → List ℕ = promotable_among c.args.least c.args.shard.now.frontier (map shown_content c.args.places.now) in
    let next : among c.loop-path.path-iterator ≡ c.in-Some-promotable_key.key ∷ among c.next.new.self =
    ap among c.in-Some.ensures.steps
    ∙ ap (λ (o : Option ℕ). listed_key o ++ among c.next.new.self) (sym c.promotable_key.ensures.value ∙ c.in-Some-promotable_key.is) in
    let more = front_more c.args.room c.in-Some-promotable_key.key (among c.args.shard.now.records) c.loop-path.keys.items c.push.new.self.items (among c.next.new.self)
    (c.loop-path.invariant.found ∙ ap (λ (keys : List ℕ). c.loop-path.keys.items ++ take (c.args.room - length c.loop-path.keys.items) keys) next)
    c.loop-path.invariant.few (λ same. c.if-len-room.false (c.len.ensures.value ∙ same)) c.push.ensures.items in
    record { found = more.0; few = more.1 }

pub returns-clause-first : goal.returns-clause-first
returns-clause-first c clock = record {
  promotable = promotable_among c.args.least c.args.shard.now.frontier (map shown_content c.args.places.now) c.args.shard.now.records;
  are_promotable = are_promotable (shown_stage c.args.shard.now c.args.places.now clock) c.args.shard.now.records c.args.least c.requires.some c.iter-path-items.ensures.in_order refl;
  first = gone c;
}

pub returns-clause-own : goal.returns-clause-own
returns-clause-own c =
    subst (AllByRecursion (λ key. IsKeyOf (shown c.args.shard.now) (key_path_in (shown c.args.shard.now) key))) (sym (gone c))
    (all_front _ c.args.room _ (promotable_own c.args.least c.args.shard.now.frontier (map shown_content c.args.places.now) (shown c.args.shard.now) c.args.shard.now.records refl))

pub returns-clause-in_range : goal.returns-clause-in_range
returns-clause-in_range c =
    subst (AllByRecursion (λ key. key < 2 ^ key_bits (wide_in (shown c.args.shard.now)))) (sym (gone c))
    (all_front _ c.args.room _ (promotable_in_range c.args.least c.args.shard.now.frontier (map shown_content c.args.places.now) c.args.shard.now.records))

pub returns-clause-rising : goal.returns-clause-rising
returns-clause-rising c =
    subst AreRising (sym (gone c))
    (rising_front c.args.room _ (promotable_rising c.args.least c.args.shard.now.frontier (map shown_content c.args.places.now) c.args.shard.now.records c.iter-path-items.ensures.in_order))
