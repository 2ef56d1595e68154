-- A state that goes on with listed entries.
use Rattle.std.proofs.Common.{◌≡◌, ℕ, suc, ◌<◌, List, [], ◌∷◌, length, Option, Some, None, ◌∙◌, refl, length-set}
use Rattle.std.specs.List.{All}
use Rattle.std.proofs.lemmas.List.{length-replicate}
use Rattle.std.proofs.lemmas.List.Elements.{All-nil, All-cons}
use Rattle.verifier_cache.specs.declared.entry.Entry.{Entry}
use Rattle.verifier_cache.specs.declared.listed.ListedEntry.{ListedEntry}
use Rattle.verifier_cache.specs.Slots.{Slots, with_slot, empty_slots}
use Rattle.verifier_cache.specs.Listed.{with_listed, SlotsRise}

-- slots that rise below a count lie below it
pub slots_below : (slot count : ℕ) (listed : List ListedEntry) → SlotsRise slot count listed → All (λ one. one.slot < count) listed
slots_below slot count [] rise = All-nil (λ one. one.slot < count)
slots_below slot count (one ∷ more) rise = All-cons (λ one. one.slot < count) one more rise.1 (slots_below (suc one.slot) count more rise.2)

-- entries that are put into slots leave as many
count_with : (slots : Slots) (listed : List ListedEntry) → length (with_listed slots listed) ≡ length slots
count_with slots [] = refl
count_with slots (one ∷ more) = count_with (with_slot slots one.slot (Some one.entry)) more ∙ length-set slots one.slot (Some one.entry)

pub resumed_count : (count : ℕ) (listed : List ListedEntry) → length (with_listed (empty_slots count) listed) ≡ count
resumed_count count listed = count_with (empty_slots count) listed ∙ length-replicate count (let none : Option Entry = None in none)

pub ruleset resuming = (slots_below, resumed_count)
