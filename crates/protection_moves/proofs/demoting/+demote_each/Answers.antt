use Rattle.std.proofs.Common.{rules, ◌≡◌, ℕ, List, ◌∷◌, map, sym, subst, ap, ◌∙◌, arith}
use Rattle.std.specs.List.{AllByRecursion}
use Rattle.record_text.specs.Longest.{longest_blob}
use Rattle.host_shard.specs.declared.content.HotRecord.{HotRecord}
use Rattle.host_shard.specs.Mirrors.{IsKeyOf, IsShard}
use Rattle.host_shard.specs.Records.{record_at, values_of}
use Rattle.host_shard.specs.Shard.{Shard}
use Rattle.host_shard.specs.Shown.{shown}
use Rattle.host_shard.specs.Content.{hot_path}
use Rattle.protection_moves.specs.Transfer.{promotes}
use Rattle.protection_moves.specs.Saving.{IsSavedOf}
use Rattle.protection_moves.specs.Descent.{with_back}
use Rattle.protection_moves.proofs.CountingLemmas.{past_by_first_transfer}
use Rattle.protection_moves.proofs.SavingLemmas.{no_touches}
use Rattle.protection_moves.proofs.DescentLemmas.{back_is}
use Rattle.protection_moves.proofs.DoneLemmas.{rest_own, rest_in_range, rest_own_back, rest_open, rest_within_back, transfers_returned}
use Rattle.protection_moves.proofs.demoting.+demote_each.Goals as goal

pub unreachable-requires : goal.unreachable-requires
unreachable-requires g t c =
    absurd (omega (
      arith,
      c.requires.within,
      past_by_first_transfer c.args.clock.now c.args.back.now c.in-Some.parts.1.now c.in-Some.parts.0.now (map (λ (k : ℕ). promotes k) c.args.keys.now) c.in-Some.ensures.cases.0 c.in-None-taken.ensures.past,
    ))

pub rehash_back-requires-clause-fits : goal.rehash_back-requires-clause-fits
rehash_back-requires-clause-fits g t c =
    subst (IsShard longest_blob) (sym c.in_ok-put_back.ensures.back)
    (back_is longest_blob (shown c.args.shard.now) c.in-Some.parts.0.now c.requires.fits
    (subst (AllByRecursion (λ (f : HotRecord). IsKeyOf (shown c.args.shard.now) (hot_path f))) c.in-Some.ensures.cases.0 c.requires.own_back).0
    c.in_ok-put_back.ensures.kind)

pub returns-in-Err-clause-as_before : goal.returns-in-Err-clause-as_before
returns-in-Err-clause-as_before g t c =
    let was = c.kept_of-was.ensures.value ∙ ap (values_of c.args.shard.now.records) c.path.ensures.path in
    c.take_away.ensures.as_before (shown c.args.shard.now) (c.in-Err.ensures.as_before ∙ c.in_ok-put_back.ensures.back) was
    (λ none. no_touches (record_at c.args.shard.now.records) (hot_path c.in-Some.parts.0.now) (sym was ∙ none))

pub demote_each-requires : goal.demote_each-requires
demote_each-requires g t c κs within =
    let old : Shard = shown c.args.shard.now in
    let new : Shard = shown c.rehash_back.new.shard in
    let back : List HotRecord = c.args.back.now in
    let rest : List HotRecord = c.in-Some.parts.1.now in
    let found : HotRecord = c.in-Some.parts.0.now in
    let is : back ≡ found ∷ rest = c.in-Some.ensures.cases.0 in
    let frontier : new.frontier ≡ old.frontier = c.in-Ok.ensures.frontier ∙ ap (λ (s : Shard). s.frontier) c.in_ok-put_back.ensures.back in (
      search rules,
      (
        within,
        (
          c.in-Ok.ensures.fits,
          (
            (subst (AllByRecursion (λ (f : HotRecord). IsKeyOf new (hot_path f))) is (rest_own_back old new back frontier c.requires.own_back)).1,
            (
              rest_own old new c.args.keys.now frontier c.requires.own,
              (
                rest_in_range old new c.args.keys.now frontier c.requires.in_range,
                (
                  c.requires.rising,
                  (
                    c.requires.few,
                    (
                      rest_open c.args.clock.now c.in-Some-taken.next found rest back is c.in-Some-taken.ensures.taken c.requires.«open»,
                      rest_within_back c.args.clock.now c.in-Some-taken.next found rest back (map (λ (k : ℕ). promotes k) c.args.keys.now) is c.in-Some-taken.ensures.taken c.requires.within,
                    ),
                  ),
                ),
              ),
            ),
          ),
        ),
      ),
    )

pub returns-in-Ok-demote_each-clause-done : goal.returns-in-Ok-demote_each-clause-done
returns-in-Ok-demote_each-clause-done g t c touches places =
    let digest = (g.D.Digests.functions c.args.d.now).digest in
    transfers_returned digest c.args.worker (shown c.args.shard.now) (shown c.rehash_back.new.shard) (shown c.demote_each.new.shard) c.in-Some.parts.0.now c.in-Some.parts.1.now c.args.back.now
    (map (λ (k : ℕ). promotes k) c.args.keys.now) c.in-Ok-demote_each.hot.items c.args.clock.now c.in-Some-taken.next c.args.commands.now.items c.rehash_back.new.commands.items c.demote_each.new.commands.items
    c.in-Some.ensures.cases.0 (c.in-Ok.ensures.back (shown c.args.shard.now) c.in_ok-put_back.ensures.back) c.in-Some-taken.ensures.taken
    (c.in-Ok.ensures.frontier ∙ ap (λ (s : Shard). s.frontier) c.in_ok-put_back.ensures.back) c.in-Ok-demote_each.ensures.done touches places

pub returns-clause-as_before : goal.returns-clause-as_before
returns-clause-as_before g t c =
    let was = c.kept_of-was.ensures.value ∙ ap (values_of c.args.shard.now.records) c.path.ensures.path in
    let found : HotRecord = c.in-Some.parts.0.now in
    let back : Shard = with_back (shown c.args.shard.now) found in
    c.take_away-in-Err-demote_each.ensures.as_before (shown c.args.shard.now)
    (c.restore.ensures.restored back
    (subst (λ (s : Shard). IsSavedOf back c.in-Ok.saved s) (sym c.in-Err-demote_each.ensures.as_before)
    (subst (λ (s : Shard). IsSavedOf s c.in-Ok.saved (shown c.rehash_back.new.shard)) c.in_ok-put_back.ensures.back c.in-Ok.ensures.saved))) was
    (λ none. no_touches (record_at c.args.shard.now.records) (hot_path found) (sym was ∙ none))
