use Rattle.std.proofs.Common.{◌≡◌, ℕ, suc, ◌+◌, Bool, List, [], ◌∷◌, ◌++◌, map, take, Option, IfSome, sym, ◌∙◌, ap, subst, arith}
use Rattle.std.proofs.Math.Seq.{take-suc}
use Rattle.std.proofs.lemmas.Bool.{true≢false}
use Rattle.std.specs.List.{IsAmong}
use Rattle.tree_keys.specs.Path.{tree_of}
use Rattle.host_shard.specs.Shown.{shown_content}
use Rattle.protection_moves.specs.Promotable.{promotable_among, IsAbove, IsLowest}
use Rattle.protection_moves.proofs.PromotableLemmas.{none≢some, some_of}
use Rattle.protection_moves.proofs.LowestLemmas.{lowest_stays, lowest_or}
use Rattle.protection_moves.proofs.few_touched.lowest_above.Goals as goal
use Rattle.protection_moves.proofs.few_touched.lowest_above.Goals.{in-Some+then-is_above, in-Some+else-is_above, in_default}

pub loop-path-preserved : goal.loop-path-preserved
loop-path-preserved c =
    let keys : List ℕ = promotable_among c.args.least c.args.shard.now.frontier (map shown_content c.args.places.now) c.args.shard.now.records in
    let wide : Bool = tree_of c.args.shard.now.frontier in
    let paths : List (List Bool) = c.args.paths.now in
    let i : ℕ = c.loop-path.path-index in
    let p : List Bool = c.path-item.result in
    let one : take (suc i) paths ≡ take i paths ++ p ∷ [] =
    subst (λ (q : List Bool). take (suc i) paths ≡ take i paths ++ q ∷ []) (sym c.path-item.is) (take-suc paths i p c.loop-path-test.true) in
    let next : suc i ≡ i + 1 = omega arith in
    let seen : take i paths ++ p ∷ [] ≡ take (i + 1) paths = sym one ∙ ap (λ (n : ℕ). take n paths) next in
    subst (λ (some : List (List Bool)). IsLowest keys wide c.args.above some c.match-key_at.lowest) seen (elim c.match-key_at.branch [
      | in-Some+then-is_above w ↦
          subst (IsLowest keys wide c.args.above (take i paths ++ p ∷ [])) (sym (w.lowest-is ∙ w.lower_of-lowest.ensures.value))
          (lowest_or keys wide c.args.above (take i paths) p c.loop-path.lowest w.in-Some.key c.loop-path.invariant
          (subst (λ (o : Option ℕ). IfSome o (λ k. IsAmong keys k)) w.in-Some.is c.key_at.ensures.promotable)
          (w.is_above.ensures.above.0 w.if-is_above.true)
          (λ k among same. some_of w.in-Some.key k (sym w.in-Some.is ∙ c.key_at.ensures.its_key k among same)))
      | in-Some+else-is_above w ↦
          subst (IsLowest keys wide c.args.above (take i paths ++ p ∷ [])) (sym w.lowest-is)
          (lowest_stays keys wide c.args.above (take i paths) p c.loop-path.lowest c.loop-path.invariant
          (λ k among same up.
          let own : k ≡ w.in-Some.key = sym (some_of w.in-Some.key k (sym w.in-Some.is ∙ c.key_at.ensures.its_key k among same)) in
          true≢false (sym (w.is_above.ensures.above.1 (subst (IsAbove c.args.above) own up)) ∙ w.if-is_above.false)))
      | in_default w ↦
          subst (IsLowest keys wide c.args.above (take i paths ++ p ∷ [])) (sym w.lowest-is)
          (lowest_stays keys wide c.args.above (take i paths) p c.loop-path.lowest c.loop-path.invariant
          (λ k among same up. none≢some k (sym w.in_default.is ∙ c.key_at.ensures.its_key k among same)))
    ])
