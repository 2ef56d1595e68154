use Rattle.std.proofs.Common.{rules, ◌≡◌, ℕ, ◌+◌, ◌<◌, List, [], ◌∷◌, ◌++◌, map, length, IsTrue, refl, sym, ◌∙◌, ap, subst, arith}
use Rattle.std.specs.List.{AllByRecursion}
use Rattle.lamport_clocks.specs.declared.stamp.Stamp.{Stamp}
use Rattle.lamport_clocks.specs.Clock.{is_open}
use Rattle.lamport_clocks.specs.Reading.{Reading}
use Rattle.record_text.specs.declared.element.Element.{Element}
use Rattle.record_text.specs.Value.{IsOf}
use Rattle.record_text.specs.Longest.{longest_blob}
use Rattle.log_codec.specs.declared.command.Command.{Command}
use Rattle.host_shard.specs.declared.content.HotRecord.{HotRecord}
use Rattle.host_shard.specs.Content.{hot_path, Content}
use Rattle.host_shard.specs.Mirrors.{IsShard, IsKeyOf}
use Rattle.host_shard.specs.Shard.{key_path_in, Shard}
use Rattle.host_shard.specs.Shown.{shown, shown_content}
use Rattle.host_shard.proofs.ChainLaws.{frontier_kind}
use Rattle.host_plan.specs.Moments.{giving}
use Rattle.protection_moves.specs.Transfer.{demotes, promotes, clock_by_each}
use Rattle.protection_moves.specs.Stage.{Stage, touched_in, untouched_in, vacancies}
use Rattle.protection_moves.specs.Renewing.{renewed_places, renewing_commands}
use Rattle.protection_moves.specs.Done.{taking_in}
use Rattle.protection_moves.specs.Promotable.{AreFirstPromotable}
use Rattle.protection_moves.specs.Places.{placed_each, vacated}
use Rattle.protection_moves.specs.Move.{IsMove}
use Rattle.protection_moves.specs.Shown.{shown_stage}
use Rattle.protection_moves.proofs.TouchedLaws.{touched_all, untouched_all}
use Rattle.protection_moves.proofs.MoveLemmas.{is_move, is_past, past_is, past_at_start, open_between, end_clock, open_after, first_keys}
use Rattle.protection_moves.proofs.RenewingLaws.{renewing_each-end}
use Rattle.protection_moves.proofs.migrating.migrate.Goals as goal

pub begun-requires-clause-hot_open : goal.begun-requires-clause-hot_open
begun-requires-clause-hot_open g c =
    subst (AllByRecursion (λ (f : HotRecord). IsTrue (is_open c.args.clock.now f.stamp.epoch))) (sym (c.as_slice-touched.ensures.value ∙ c.touched_in-staying.ensures.records))
    (touched_all (λ f. IsTrue (is_open c.args.clock.now f.stamp.epoch)) (map shown_content c.args.hot.now) c.requires.hot_open)

pub returns-in-None-clause-clock_end : goal.returns-in-None-clause-clock_end
returns-in-None-clause-clock_end g c =
    let stage : Stage = shown_stage c.args.shard.now c.args.hot.now c.args.clock.now in
    let back : List HotRecord = c.as_slice-back.result.now in
    let keys : List ℕ = c.as_slice-keys.result.now in
    let touched : List HotRecord = c.as_slice-touched.result.now in
    let returning : back ≡ untouched_in stage.places = c.as_slice-back.ensures.value ∙ c.untouched_in-returning.ensures.records in
    let staying : touched ≡ touched_in stage.places = c.as_slice-touched.ensures.value ∙ c.touched_in-staying.ensures.records in
    let first : AreFirstPromotable stage c.args.threshold (vacancies stage.places + length back) keys =
    first_keys stage c.args.threshold back c.promotable_keys-promotable.result.items keys c.vacancies.result (length back)
    c.vacancies.ensures.value refl c.as_slice-keys.ensures.value (c.promotable_keys-promotable.ensures.first c.args.clock.now) in
    (λ same. past_at_start stage c.args.threshold back keys returning first touched staying c.in-None.ensures.past, λ past. refl)

pub ended-requires : goal.ended-requires
ended-requires g c = record {
  «open» = open_between c.args.clock.now c.in-Some.between c.as_slice-touched.result.now c.args.shard.now.stamp c.as_slice-back.result.now c.in-Some.ensures.begun
      (subst (AllByRecursion (λ (f : HotRecord). IsTrue (is_open c.args.clock.now f.stamp.epoch))) (sym (c.as_slice-back.ensures.value ∙ c.untouched_in-returning.ensures.records))
      (untouched_all (λ f. IsTrue (is_open c.args.clock.now f.stamp.epoch)) (map shown_content c.args.hot.now) c.requires.hot_open));
}

pub returns-in-None-ended-clause-clock_end : goal.returns-in-None-ended-clause-clock_end
returns-in-None-ended-clause-clock_end g c =
    let stage : Stage = shown_stage c.args.shard.now c.args.hot.now c.args.clock.now in
    let back : List HotRecord = c.as_slice-back.result.now in
    let keys : List ℕ = c.as_slice-keys.result.now in
    let touched : List HotRecord = c.as_slice-touched.result.now in
    let returning : back ≡ untouched_in stage.places = c.as_slice-back.ensures.value ∙ c.untouched_in-returning.ensures.records in
    let staying : touched ≡ touched_in stage.places = c.as_slice-touched.ensures.value ∙ c.touched_in-staying.ensures.records in
    let first : AreFirstPromotable stage c.args.threshold (vacancies stage.places + length back) keys =
    first_keys stage c.args.threshold back c.promotable_keys-promotable.result.items keys c.vacancies.result (length back)
    c.vacancies.ensures.value refl c.as_slice-keys.ensures.value (c.promotable_keys-promotable.ensures.first c.args.clock.now) in (
      λ same. is_past stage c.args.threshold back keys returning first touched staying
          (subst (λ (end : ℕ). end < (end_clock stage c.args.threshold back keys returning first touched staying).at.counter)
          (ap (λ (clock : Reading). clock.end) c.in-Some.ensures.begun ∙ renewing_each-end c.args.clock.now touched)
          (subst (λ (clock : Reading). c.in-Some.between.end < (giving (clock_by_each clock (map (λ (f : HotRecord). demotes f) back ++ map (λ (k : ℕ). promotes k) keys))).at.counter) c.in-Some.ensures.begun c.in-None-ended.ensures.past)),
      λ past. refl,
    )

pub begin-requires-clause-open : goal.begin-requires-clause-open
begin-requires-clause-open g c =
    subst (AllByRecursion (λ (f : HotRecord). IsTrue (is_open c.args.clock.now f.stamp.epoch))) (sym (c.as_slice-touched.ensures.value ∙ c.touched_in-staying.ensures.records))
    (touched_all (λ f. IsTrue (is_open c.args.clock.now f.stamp.epoch)) (map shown_content c.args.hot.now) c.requires.hot_open)

pub begin-requires-clause-kind : goal.begin-requires-clause-kind
begin-requires-clause-kind g c =
    subst (λ (element : Element). IsOf longest_blob element.path element.value) (sym c.pending.ensures.value)
    (frontier_kind longest_blob (shown c.args.shard.now) c.requires.fits.kinds)

pub returns-in_err-commands-clause-clock_end : goal.returns-in_err-commands-clause-clock_end
returns-in_err-commands-clause-clock_end g c =
    let stage : Stage = shown_stage c.args.shard.now c.args.hot.now c.args.clock.now in
    let back : List HotRecord = c.as_slice-back.result.now in
    let keys : List ℕ = c.as_slice-keys.result.now in
    let touched : List HotRecord = c.as_slice-touched.result.now in
    let returning : back ≡ untouched_in stage.places = c.as_slice-back.ensures.value ∙ c.untouched_in-returning.ensures.records in
    let staying : touched ≡ touched_in stage.places = c.as_slice-touched.ensures.value ∙ c.touched_in-staying.ensures.records in
    let first : AreFirstPromotable stage c.args.threshold (vacancies stage.places + length back) keys =
    first_keys stage c.args.threshold back c.promotable_keys-promotable.result.items keys c.vacancies.result (length back)
    c.vacancies.ensures.value refl c.as_slice-keys.ensures.value (c.promotable_keys-promotable.ensures.first c.args.clock.now) in
    let later : c.in-Some-ended.later ≡ end_clock stage c.args.threshold back keys returning first touched staying =
    c.in-Some-ended.ensures.ended
    ∙ ap (λ (clock : Reading). giving (clock_by_each clock (map (λ (f : HotRecord). demotes f) back ++ map (λ (k : ℕ). promotes k) keys))) c.in-Some.ensures.begun in (
      λ fault. search rules,
      λ past. absurd (omega (
        arith,
        past_is stage c.args.threshold back keys returning first touched staying past,
        c.in-Some-ended.ensures.within,
        ap (λ (clock : Reading). clock.at.counter) later,
        ap (λ (clock : Reading). clock.end) (c.in-Some.ensures.begun),
        renewing_each-end c.args.clock.now touched,
      )),
    )

pub demote_each-requires-clause-own_back : goal.demote_each-requires-clause-own_back
demote_each-requires-clause-own_back g c =
    subst (AllByRecursion (λ (f : HotRecord). IsKeyOf (shown c.args.shard.now) (hot_path f))) (sym (c.as_slice-back.ensures.value ∙ c.untouched_in-returning.ensures.records))
    (untouched_all (λ f. IsKeyOf (shown c.args.shard.now) (hot_path f)) (map shown_content c.args.hot.now) c.requires.hot_own)

pub demote_each-requires-clause-own : goal.demote_each-requires-clause-own
demote_each-requires-clause-own g c =
    subst (AllByRecursion (λ (k : ℕ). IsKeyOf (shown c.args.shard.now) (key_path_in (shown c.args.shard.now) k))) (sym c.as_slice-keys.ensures.value) c.promotable_keys-promotable.ensures.own

pub demote_each-requires-clause-open : goal.demote_each-requires-clause-open
demote_each-requires-clause-open g c =
    open_between c.args.clock.now c.in-Some.between c.as_slice-touched.result.now c.args.shard.now.stamp c.as_slice-back.result.now c.in-Some.ensures.begun
    (subst (AllByRecursion (λ (f : HotRecord). IsTrue (is_open c.args.clock.now f.stamp.epoch))) (sym (c.as_slice-back.ensures.value ∙ c.untouched_in-returning.ensures.records))
    (untouched_all (λ f. IsTrue (is_open c.args.clock.now f.stamp.epoch)) (map shown_content c.args.hot.now) c.requires.hot_open))

pub returns-in_err-new-clause-clock_end : goal.returns-in_err-new-clause-clock_end
returns-in_err-new-clause-clock_end g c =
    let stage : Stage = shown_stage c.args.shard.now c.args.hot.now c.args.clock.now in
    let back : List HotRecord = c.as_slice-back.result.now in
    let keys : List ℕ = c.as_slice-keys.result.now in
    let touched : List HotRecord = c.as_slice-touched.result.now in
    let returning : back ≡ untouched_in stage.places = c.as_slice-back.ensures.value ∙ c.untouched_in-returning.ensures.records in
    let staying : touched ≡ touched_in stage.places = c.as_slice-touched.ensures.value ∙ c.touched_in-staying.ensures.records in
    let first : AreFirstPromotable stage c.args.threshold (vacancies stage.places + length back) keys =
    first_keys stage c.args.threshold back c.promotable_keys-promotable.result.items keys c.vacancies.result (length back)
    c.vacancies.ensures.value refl c.as_slice-keys.ensures.value (c.promotable_keys-promotable.ensures.first c.args.clock.now) in
    let later : c.in-Some-ended.later ≡ end_clock stage c.args.threshold back keys returning first touched staying =
    c.in-Some-ended.ensures.ended
    ∙ ap (λ (clock : Reading). giving (clock_by_each clock (map (λ (f : HotRecord). demotes f) back ++ map (λ (k : ℕ). promotes k) keys))) c.in-Some.ensures.begun in (
      λ fault. search rules,
      λ past. absurd (omega (
        arith,
        past_is stage c.args.threshold back keys returning first touched staying past,
        c.in-Some-ended.ensures.within,
        ap (λ (clock : Reading). clock.at.counter) later,
        ap (λ (clock : Reading). clock.end) (c.in-Some.ensures.begun),
        renewing_each-end c.args.clock.now touched,
      )),
    )

pub renew_places-requires-clause-open : goal.renew_places-requires-clause-open
renew_places-requires-clause-open g c =
    subst (AllByRecursion (λ (f : HotRecord). IsTrue (is_open c.args.clock.now f.stamp.epoch))) (sym (c.as_slice-touched.ensures.value ∙ c.touched_in-staying.ensures.records))
    (touched_all (λ f. IsTrue (is_open c.args.clock.now f.stamp.epoch)) (map shown_content c.args.hot.now) c.requires.hot_open)

pub returns-clause-moved : goal.returns-clause-moved
returns-clause-moved g c =
    let stage : Stage = shown_stage c.args.shard.now c.args.hot.now c.args.clock.now in
    let back : List HotRecord = c.as_slice-back.result.now in
    let keys : List ℕ = c.as_slice-keys.result.now in
    let touched : List HotRecord = c.as_slice-touched.result.now in
    let returning : back ≡ untouched_in stage.places = c.as_slice-back.ensures.value ∙ c.untouched_in-returning.ensures.records in
    let staying : touched ≡ touched_in stage.places = c.as_slice-touched.ensures.value ∙ c.touched_in-staying.ensures.records in
    let first : AreFirstPromotable stage c.args.threshold (vacancies stage.places + length back) keys =
    first_keys stage c.args.threshold back c.promotable_keys-promotable.result.items keys c.vacancies.result (length back)
    c.vacancies.ensures.value refl c.as_slice-keys.ensures.value (c.promotable_keys-promotable.ensures.first c.args.clock.now) in
    let digest = (g.D.Digests.functions c.args.d.now).digest in
    let left : Shard = shown c.demote_each.new.shard in
    let renewed : List Content = renewed_places c.args.worker c.args.clock.now stage.places touched in
    let placed : List Content = placed_each c.in_ok-new.new.items (vacated back renewed) in
    let became : Shard → List Content → Stamp → Stage = λ shard places stamp. record {
      shard = record shard { stamp = stamp; evictor = c.args.worker };
      places = places;
      clock = c.in-Some-ended.later;
    } in
    let forgotten : Shard = record left { touches = λ k. 0 } in
    subst (λ (logged : List Command). IsMove digest c.args.worker c.args.threshold stage logged
    (became (shown c.forget_touches.new.self) (map shown_content c.place_each.new.places) c.at-shard.result)) (sym c.of.ensures.commands)
    (is_move stage c.args.threshold back keys returning first touched staying digest c.args.worker c.in-Some.between c.in-Some-ended.later c.in_ok-commands.commands.items c.demote_each.new.commands.items left placed
    (became (shown c.forget_touches.new.self) (map shown_content c.place_each.new.places) c.at-shard.result)
    c.in-Some.ensures.begun c.in-Some-ended.ensures.ended
    (c.in_ok-commands.ensures.logged ∙ ap (λ (element : Element). renewing_commands c.args.clock.now touched ++ taking_in element ∷ []) c.pending.ensures.value)
    (c.in_ok-new.ensures.done (λ k. 0) renewed)
    (ap (λ (shard : Shard). became shard (map shown_content c.place_each.new.places) c.at-shard.result) c.forget_touches.ensures.forgotten
    ∙ ap (λ (places : List Content). became forgotten places c.at-shard.result)
    (c.place_each.ensures.placed
    ∙ ap (λ (records : List HotRecord). placed_each records (map shown_content c.vacate.new.places)) c.as_slice.ensures.value
    ∙ ap (placed_each c.in_ok-new.new.items) (c.vacate.ensures.vacated ∙ ap (vacated back) c.renew_places.ensures.renewed))
    ∙ ap (λ (stamp : Stamp). became forgotten placed stamp) c.at-shard.ensures.value))

pub returns-clause-clock_end : goal.returns-clause-clock_end
returns-clause-clock_end g c =
    let stage : Stage = shown_stage c.args.shard.now c.args.hot.now c.args.clock.now in
    let back : List HotRecord = c.as_slice-back.result.now in
    let keys : List ℕ = c.as_slice-keys.result.now in
    let touched : List HotRecord = c.as_slice-touched.result.now in
    let returning : back ≡ untouched_in stage.places = c.as_slice-back.ensures.value ∙ c.untouched_in-returning.ensures.records in
    let staying : touched ≡ touched_in stage.places = c.as_slice-touched.ensures.value ∙ c.touched_in-staying.ensures.records in
    let first : AreFirstPromotable stage c.args.threshold (vacancies stage.places + length back) keys =
    first_keys stage c.args.threshold back c.promotable_keys-promotable.result.items keys c.vacancies.result (length back)
    c.vacancies.ensures.value refl c.as_slice-keys.ensures.value (c.promotable_keys-promotable.ensures.first c.args.clock.now) in
    let later : c.in-Some-ended.later ≡ end_clock stage c.args.threshold back keys returning first touched staying =
    c.in-Some-ended.ensures.ended
    ∙ ap (λ (clock : Reading). giving (clock_by_each clock (map (λ (f : HotRecord). demotes f) back ++ map (λ (k : ℕ). promotes k) keys))) c.in-Some.ensures.begun in (
      λ fault. search rules,
      λ past. absurd (omega (
        arith,
        past_is stage c.args.threshold back keys returning first touched staying past,
        c.in-Some-ended.ensures.within,
        ap (λ (clock : Reading). clock.at.counter) later,
        ap (λ (clock : Reading). clock.end) (c.in-Some.ensures.begun),
        renewing_each-end c.args.clock.now touched,
      )),
    )

pub returns-clause-fits : goal.returns-clause-fits
returns-clause-fits g c =
    let fits = c.in_ok-new.ensures.fits in
    subst (λ (shard : Shard). IsShard longest_blob (record shard { stamp = c.at-shard.result; evictor = c.args.worker })) (sym c.forget_touches.ensures.forgotten)
    (record { below_root = fits.below_root; no_data = fits.no_data; kinds = fits.kinds })

pub returns-clause-open : goal.returns-clause-open
returns-clause-open g c epoch =
    let back : List HotRecord = c.as_slice-back.result.now in
    let keys : List ℕ = c.as_slice-keys.result.now in
    open_after c.args.clock.now c.in-Some.between c.in-Some-ended.later c.as_slice-touched.result.now c.args.shard.now.stamp (map (λ (f : HotRecord). demotes f) back ++ map (λ (k : ℕ). promotes k) keys) epoch
    c.in-Some.ensures.begun c.in-Some-ended.ensures.ended
