use Rattle.std.proofs.Common.{ℕ, ◌∙◌, [], ◌∷◌, ◌++◌, take, Some, length-set, ap, sym}
use Rattle.std.proofs.lemmas.List.{take_more}
use Rattle.verifier_cache.specs.declared.entry.Entry.{Entry}
use Rattle.verifier_cache.specs.declared.listed.ListedEntry.{ListedEntry}
use Rattle.verifier_cache.specs.Slots.{Slots, with_slot, empty_slots}
use Rattle.verifier_cache.specs.Listed.{with_listed}
use Rattle.verifier_cache.proofs.ListedLemmas.{with_listed-push}
use Rattle.verifier_cache.proofs.slots.SlotCache.of_entries.Goals as goal

pub loop-one-preserved : goal.loop-one-preserved
loop-one-preserved c =
    let listed = c.args.listed.now in
    let i = c.loop-one.one-index in
    let one : ListedEntry = c.one-item.result in
    let slots : Slots = c.loop-one.cache-inside.slots.items in
    let empty = empty_slots c.args.count in
    record {
      slots =
          ap (λ (e : Entry). with_slot slots c.from.result (Some e)) c.copy.ensures.value
          ∙ (ap (λ (n : ℕ). with_slot slots n (Some one.entry)) c.from.ensures
          ∙ (ap (λ (s : Slots). with_slot s one.slot (Some one.entry)) c.loop-one.invariant.slots
          ∙ (sym (with_listed-push empty (take i listed) one)
          ∙ sym (ap (with_listed empty) (take_more listed i one c.loop-one-test.true ∙ ap (λ (x : ListedEntry). take i listed ++ x ∷ []) (sym c.one-item.is))))));
      count = length-set slots c.from.result (Some c.copy.result) ∙ c.loop-one.invariant.count;
    }
