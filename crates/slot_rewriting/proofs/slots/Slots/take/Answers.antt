use Rattle.std.proofs.Common.{◌≡◌, ℕ, Bool, List, Option, Some, Result, set, refl, sym, ◌∙◌, ap, subst, arith, IsSome}
use Rattle.std.specs.Result.{IfErr}
use Rattle.path_index.specs.Index.{IsGapFor}
use Rattle.slot_rewriting.specs.Rewriting.{SlotPaths, lowest_empty, HasNoSlot, HasEmpty}
use Rattle.slot_rewriting.specs.Indexed.{IsIndexed}
use Rattle.slot_rewriting.proofs.MarkLemmas.{CameIn}
use Rattle.slot_rewriting.proofs.IndexedLemmas.{is_absent, lowest_found, lowest_slot, indexed_in, length-free, room_for_one, mark_of}
use Rattle.slot_rewriting.proofs.slots.Slots.take.Goals as goal

pub unwrap-slot-requires : goal.unwrap-slot-requires
unwrap-slot-requires c =
    let has : HasEmpty c.self.inside.paths.items = subst (λ (paths : SlotPaths). HasEmpty paths) (sym c.self.view_is) c.requires.empty in
    subst (λ (o : Option ℕ). IsSome o) (sym (lowest_found c.lowest.result c.self.inside.paths.items c.self.inside.index c.self.inside.free c.self.invariant has c.lowest.ensures.value)) refl

pub unwrap_err-rank-requires : goal.unwrap_err-rank-requires
unwrap_err-rank-requires c =
    is_absent c.search_uncounted.result c.self.inside.paths.items c.self.inside.index c.self.inside.free c.args.k.now c.self.invariant
    (subst (λ (paths : SlotPaths). HasNoSlot c.args.k.now paths) (sym c.self.view_is) c.requires.absent) c.search_uncounted.ensures.found

pub take-requires : goal.take-requires
take-requires c =
    let has : HasEmpty c.self.inside.paths.items = subst (λ (paths : SlotPaths). HasEmpty paths) (sym c.self.view_is) c.requires.empty in
    let slot : c.unwrap-slot.result ≡ lowest_empty c.self.inside.paths.items =
    lowest_slot c.lowest.result c.unwrap-slot.result c.self.inside.paths.items c.self.inside.index c.self.inside.free c.self.invariant has c.lowest.ensures.value c.unwrap-slot.ensures in
    record { within = omega (arith, slot, has, length-free c.self.inside.paths.items c.self.inside.index c.self.inside.free c.self.invariant) }

pub insert-requires-clause-room : goal.insert-requires-clause-room
insert-requires-clause-room c =
    room_for_one c.self.inside.paths.items c.self.inside.index c.self.inside.free c.self.invariant (subst (λ (paths : SlotPaths). HasEmpty paths) (sym c.self.view_is) c.requires.empty)

pub index_mut-requires : goal.index_mut-requires
index_mut-requires c =
    let has : HasEmpty c.self.inside.paths.items = subst (λ (paths : SlotPaths). HasEmpty paths) (sym c.self.view_is) c.requires.empty in
    let slot : c.unwrap-slot.result ≡ lowest_empty c.self.inside.paths.items =
    lowest_slot c.lowest.result c.unwrap-slot.result c.self.inside.paths.items c.self.inside.index c.self.inside.free c.self.invariant has c.lowest.ensures.value c.unwrap-slot.ensures in
    omega (arith, slot, has, c.self.inside.paths.ok.0)

pub overflow_cast-result : goal.overflow_cast-result
overflow_cast-result c =
    let has : HasEmpty c.self.inside.paths.items = subst (λ (paths : SlotPaths). HasEmpty paths) (sym c.self.view_is) c.requires.empty in
    let slot : c.unwrap-slot.result ≡ lowest_empty c.self.inside.paths.items =
    lowest_slot c.lowest.result c.unwrap-slot.result c.self.inside.paths.items c.self.inside.index c.self.inside.free c.self.invariant has c.lowest.ensures.value c.unwrap-slot.ensures in
    omega (arith, slot, has, c.self.invariant.few)

pub invariant_of-self : goal.invariant_of-self
invariant_of-self c =
    let has : HasEmpty c.self.inside.paths.items = subst (λ (paths : SlotPaths). HasEmpty paths) (sym c.self.view_is) c.requires.empty in
    let slot : c.unwrap-slot.result ≡ lowest_empty c.self.inside.paths.items =
    lowest_slot c.lowest.result c.unwrap-slot.result c.self.inside.paths.items c.self.inside.index c.self.inside.free c.self.invariant has c.lowest.ensures.value c.unwrap-slot.ensures in
    let gap : IsGapFor c.args.k.now c.self.inside.index c.unwrap_err-rank.result =
    subst (λ (r : Result ℕ ℕ). IfErr r (IsGapFor c.args.k.now c.self.inside.index)) c.unwrap_err-rank.ensures c.search_uncounted.ensures.gap in
    let came : CameIn c.self.inside.index c.insert.new.self c.unwrap_err-rank.result (mark_of c.args.k.now c.unwrap-slot.result) =
    record { gap = gap; count = c.insert.ensures.count; before = c.insert.ensures.before; here = c.insert.ensures.here; behind = c.insert.ensures.behind } in
    subst (λ (free : List Bool). IsIndexed (set c.self.inside.paths.items c.unwrap-slot.result (Some c.args.k.now)) c.insert.new.self free) (sym c.take.ensures.taken)
    (indexed_in c.self.inside.paths.items c.self.inside.index c.insert.new.self c.self.inside.free c.args.k.now c.unwrap_err-rank.result c.unwrap-slot.result c.self.invariant has slot
    came c.insert.ensures.sound c.insert.ensures.most)

pub returns-clause-slot : goal.returns-clause-slot
returns-clause-slot c =
    let has : HasEmpty c.self.inside.paths.items = subst (λ (paths : SlotPaths). HasEmpty paths) (sym c.self.view_is) c.requires.empty in
    let slot : c.unwrap-slot.result ≡ lowest_empty c.self.inside.paths.items =
    lowest_slot c.lowest.result c.unwrap-slot.result c.self.inside.paths.items c.self.inside.index c.self.inside.free c.self.invariant has c.lowest.ensures.value c.unwrap-slot.ensures in
    slot ∙ ap lowest_empty c.self.view_is

pub returns-clause-paths : goal.returns-clause-paths
returns-clause-paths c =
    let has : HasEmpty c.self.inside.paths.items = subst (λ (paths : SlotPaths). HasEmpty paths) (sym c.self.view_is) c.requires.empty in
    let slot : c.unwrap-slot.result ≡ lowest_empty c.self.inside.paths.items =
    lowest_slot c.lowest.result c.unwrap-slot.result c.self.inside.paths.items c.self.inside.index c.self.inside.free c.self.invariant has c.lowest.ensures.value c.unwrap-slot.ensures in
    ap (λ (n : ℕ). set c.self.inside.paths.items n (Some c.args.k.now)) slot ∙ ap (λ (paths : SlotPaths). set paths (lowest_empty paths) (Some c.args.k.now)) c.self.view_is
