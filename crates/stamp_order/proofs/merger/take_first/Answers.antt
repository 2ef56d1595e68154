use Rattle.std.proofs.Common.{◌≡◌, Result, Ok, OnOk, sym, ◌∙◌, subst, arith}
use Rattle.std.proofs.lemmas.List.{length-set}
use Rattle.stamp_order.proofs.PlaceLemmas.{put-stands, last-within, last-apart, last-stands, taken-some, taken-merged, rest-at, taken-put, taken-last}
use Rattle.stamp_order.proofs.merger.take_first.Goals as goal

-- what holds where a call succeeds, once it did
put-done : {T E : Type 0} (P : Type 0) (result : Result T E) (value : T) → result ≡ Ok value → OnOk result P → P
put-done P result value is holds = subst (λ (r : Result _ _). OnOk r P) is holds

pub has_some-requires : goal.has_some-requires
has_some-requires c = record {
  within =
      let within = last-within c.args.lists.now c.args.places.now.items c.pop.new.self.items c.in_ok-place.place c.in_ok-place.ensures.items c.requires.in_order c.requires.standing in
      omega (arith, within, length-set c.args.lists.now c.in_ok-place.place c.take-first.new.self);
}

pub put_place-requires : goal.put_place-requires
put_place-requires c = record {
  some = c.has_some.ensures.some c.if-has_some.true;
  standing = last-stands c.args.lists.now c.args.places.now.items c.pop.new.self.items c.in_ok-place.place c.in_ok-place.ensures.items c.requires.in_order c.requires.standing c.take-first.new.self;
  apart = last-apart c.args.lists.now c.args.places.now.items c.pop.new.self.items c.in_ok-place.place c.in_ok-place.ensures.items c.requires.in_order c.requires.standing;
}

pub returns-then-has_some : goal.returns-then-has_some
returns-then-has_some c = record {
  some = taken-put c.args.lists.now c.args.places.now.items c.pop.new.self.items c.in_ok-place.place c.in_ok-place.ensures.items c.requires.in_order c.requires.standing _ c.take-first.result c.take-first.new.self c.take-first.ensures.some c.take-first.ensures.none _ (put-done _ _ _ c.unwrap.ensures c.put_place.ensures.put);
  none = λ none. absurd (taken-some c.args.lists.now c.args.places.now.items c.pop.new.self.items c.in_ok-place.place c.in_ok-place.ensures.items c.requires.in_order c.requires.standing _ c.take-first.result c.take-first.new.self c.take-first.ensures.some c.take-first.ensures.none none);
  in_order = taken-merged c.args.lists.now c.args.places.now.items c.pop.new.self.items c.in_ok-place.place c.in_ok-place.ensures.items c.requires.in_order c.requires.standing _ c.take-first.result c.take-first.new.self c.take-first.ensures.some c.take-first.ensures.none;
  standing =
      put-stands _ c.in_ok-place.place c.pop.new.self.items _ (c.has_some.ensures.some c.if-has_some.true) (last-stands c.args.lists.now c.args.places.now.items c.pop.new.self.items c.in_ok-place.place c.in_ok-place.ensures.items c.requires.in_order c.requires.standing c.take-first.new.self)
      (put-done _ _ _ c.unwrap.ensures c.put_place.ensures.put);
}

pub returns-else-has_some : goal.returns-else-has_some
returns-else-has_some c = record {
  some = taken-last c.args.lists.now c.args.places.now.items c.pop.new.self.items c.in_ok-place.place c.in_ok-place.ensures.items c.requires.in_order c.requires.standing _ c.take-first.result c.take-first.new.self c.take-first.ensures.some c.take-first.ensures.none (sym (rest-at c.args.lists.now c.args.places.now.items c.pop.new.self.items c.in_ok-place.place c.in_ok-place.ensures.items c.requires.in_order c.requires.standing _ c.take-first.result c.take-first.new.self c.take-first.ensures.some c.take-first.ensures.none) ∙ c.has_some.ensures.none c.if-has_some.false);
  none = λ none. absurd (taken-some c.args.lists.now c.args.places.now.items c.pop.new.self.items c.in_ok-place.place c.in_ok-place.ensures.items c.requires.in_order c.requires.standing _ c.take-first.result c.take-first.new.self c.take-first.ensures.some c.take-first.ensures.none none);
  in_order = taken-merged c.args.lists.now c.args.places.now.items c.pop.new.self.items c.in_ok-place.place c.in_ok-place.ensures.items c.requires.in_order c.requires.standing _ c.take-first.result c.take-first.new.self c.take-first.ensures.some c.take-first.ensures.none;
  standing = last-stands c.args.lists.now c.args.places.now.items c.pop.new.self.items c.in_ok-place.place c.in_ok-place.ensures.items c.requires.in_order c.requires.standing c.take-first.new.self;
}
