use Rattle.std.proofs.Common.{rules, ◌≡◌, ℕ, ◌<◌, ◌^◌, List, Bool, ◌∷◌, map, suc, length, sym, subst, ap, ◌∙◌, arith}
use Rattle.std.specs.List.{AllByRecursion}
use Rattle.tree_keys.specs.Path.{key_bits}
use Rattle.record_text.specs.Longest.{longest_blob}
use Rattle.host_shard.specs.Mirrors.{IsKeyOf, IsShard}
use Rattle.host_shard.specs.Records.{record_at, values_of, touches_of}
use Rattle.host_shard.specs.Shard.{key_path_in, wide_in, Shard}
use Rattle.host_shard.specs.Shown.{shown}
use Rattle.host_shard.specs.Tree.{Tree}
use Rattle.protection_moves.specs.Transfer.{promotes}
use Rattle.protection_moves.specs.Promotable.{AreRising}
use Rattle.protection_moves.specs.Saving.{IsSavedOf}
use Rattle.protection_moves.specs.Descent.{without_record}
use Rattle.protection_moves.proofs.CountingLemmas.{clock_by_each-up}
use Rattle.protection_moves.proofs.SavingLemmas.{dropped_values}
use Rattle.protection_moves.proofs.DescentLemmas.{but_is}
use Rattle.protection_moves.proofs.DoneLemmas.{rest_own, rest_in_range, rest_within, transfers_promoted}
use Rattle.protection_moves.proofs.promoting.+promote_each.Goals as goal

pub unreachable-requires : goal.unreachable-requires
unreachable-requires g t c =
    absurd (omega (arith, c.in-None.ensures.past, c.requires.within, clock_by_each-up c.args.clock.now (map (λ (k : ℕ). promotes k) c.args.keys.now)))

pub promote_each-requires : goal.promote_each-requires
promote_each-requires g t c κs within =
    let keys : List ℕ = c.args.keys.now in
    let rest : List ℕ = c.in-Some-split_first.parts.1.now in
    let key : ℕ = c.in-Some-split_first.parts.0.now in
    let is : keys ≡ key ∷ rest = c.in-Some-split_first.ensures.cases.0 in
    let new : Shard = shown c.promote.new.shard in
    let own = rest_own (shown c.args.shard.now) new keys c.in_ok-hot.ensures.frontier c.requires.own in
    let owned : AllByRecursion (λ k. IsKeyOf new (key_path_in new k)) (key ∷ rest) = subst (AllByRecursion (λ k. IsKeyOf new (key_path_in new k))) is own in
    let fit = rest_in_range (shown c.args.shard.now) new keys c.in_ok-hot.ensures.frontier c.requires.in_range in
    let fits : AllByRecursion (λ k. k < 2 ^ key_bits (wide_in new)) (key ∷ rest) = subst (AllByRecursion (λ k. k < 2 ^ key_bits (wide_in new))) is fit in
    let rising : AreRising (key ∷ rest) = subst AreRising is c.requires.rising in
    let shorter : suc (length rest) ≡ length keys = sym (ap length is) in (
      search rules,
      (within, (c.in_ok-hot.ensures.fits, (owned.1, (fits.1, (rising.1, (omega (arith, shorter, c.requires.few), rest_within c.args.clock.now c.in-Some.next keys rest key is c.in-Some.ensures.given c.requires.within)))))),
    )

pub returns-in-Ok-clause-done : goal.returns-in-Ok-clause-done
returns-in-Ok-clause-done g t c touches places =
    let digest = (g.D.Digests.functions c.args.d.now).digest in
    let rest_shard : Shard = shown c.promote_each.new.shard in
    let key : ℕ = c.in-Some-split_first.parts.0.now in
    let path : List Bool = key_path_in (shown c.args.shard.now) key in
    let values : values_of c.remove.new.self ≡ without_record rest_shard.records path =
    dropped_values (record_at c.promote_each.new.shard.records) (record_at c.remove.new.self) c.path_of-path.result c.remove.ensures.removed
    ∙ ap (λ (p : List Bool). without_record rest_shard.records p) c.path_of-path.ensures.path in
    transfers_promoted digest c.args.worker (shown c.args.shard.now) (shown c.promote.new.shard) rest_shard
    (record rest_shard { records = values_of c.remove.new.self; touches = touches_of c.remove.new.self }) key c.in-Some-split_first.parts.1.now c.args.keys.now c.in_ok-hot.field-0.hot c.in-Ok.others.items c.insert.new.self.items
    c.args.clock.now c.in-Some.next c.at-2.result c.args.commands.now.items c.promote.new.commands.items c.promote_each.new.commands.items
    c.in-Some-split_first.ensures.cases.0 c.in_ok-hot.ensures.lending c.in-Some.ensures.given c.at-2.ensures.value c.requires.in_range c.requires.rising c.in_ok-hot.ensures.frontier
    c.in-Ok.ensures.done c.insert.ensures.items
    (λ t'. ap (λ (tree : Tree). record rest_shard { records = tree; touches = t' }) values) touches places

pub returns-in-Ok-clause-fits : goal.returns-in-Ok-clause-fits
returns-in-Ok-clause-fits g t c =
    let rest_shard : Shard = shown c.promote_each.new.shard in
    let key : ℕ = c.in-Some-split_first.parts.0.now in
    let path : List Bool = key_path_in (shown c.args.shard.now) key in
    let values : values_of c.remove.new.self ≡ without_record rest_shard.records path =
    dropped_values (record_at c.promote_each.new.shard.records) (record_at c.remove.new.self) c.path_of-path.result c.remove.ensures.removed
    ∙ ap (λ (p : List Bool). without_record rest_shard.records p) c.path_of-path.ensures.path in
    let but = but_is longest_blob rest_shard path c.in-Ok.ensures.fits in
    subst (λ (tree : Tree). IsShard longest_blob (record rest_shard { records = tree; touches = touches_of c.remove.new.self })) (sym values)
    (record { below_root = but.below_root; no_data = but.no_data; kinds = but.kinds })

pub returns-clause-as_before : goal.returns-clause-as_before
returns-clause-as_before g t c =
    c.restore.ensures.restored (shown c.args.shard.now)
    (subst (λ (s : Shard). IsSavedOf (shown c.args.shard.now) c.in_ok-hot.field-0.saved s) (sym c.in-Err.ensures.as_before) c.in_ok-hot.ensures.saved)
