use Rattle.std.proofs.Common.{◌≡◌, ℕ, suc, ◌+◌, Bool, List, [], ◌∷◌, ◌++◌, take, sym, ◌∙◌, ap, subst, arith}
use Rattle.std.proofs.Math.Seq.{take-suc}
use Rattle.std.specs.Option.{option_map}
use Rattle.host_shard.specs.Records.{Kept, record_at, with_kept}
use Rattle.host_shard.specs.Touched.{untouched_at}
use Rattle.host_shard.proofs.ForgetLemmas.{forgotten}
use Rattle.host_shard.proofs.TouchedLemmas.{untouched_step}
use Rattle.host_shard.proofs.changing.forget_each.Goals as goal

pub loop-path-preserved : goal.loop-path-preserved
loop-path-preserved c =
    let kept : Kept = record_at c.args.map.now.entries in
    let paths : List (List Bool) = c.args.paths.now in
    let i : ℕ = c.loop-path.path-index in
    let p : List Bool = c.path-item.result in
    let one : take (suc i) paths ≡ take i paths ++ p ∷ [] =
    subst (λ (q : List Bool). take (suc i) paths ≡ take i paths ++ q ∷ []) (sym c.path-item.is) (take-suc paths i p c.loop-path-test.true) in
    let next : suc i ≡ i + 1 = omega arith in
    c.forget.ensures.forgotten
    ∙ ap (λ (some : Kept). with_kept some p (option_map forgotten (some p))) c.loop-path.invariant
    ∙ untouched_step kept (take i paths) p
    ∙ ap (λ (some : List (List Bool)). untouched_at some kept) (sym one ∙ ap (λ (n : ℕ). take n paths) next)
