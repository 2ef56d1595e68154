-- Records that come into a cache by their digests and leave it so, as often as it may be: what was done to the record of
-- one path in a whole move.
use Rattle.std.specs.Prelude.{◌≡◌, Bool, true, List, [], ◌∷◌, Option, Some}
use Rattle.record_text.specs.declared.value.Value.{Value}
use Rattle.verifier_commands.specs.Change.{Change, did_add_m, did_evict_m, did_add_b, did_evict_b, did_evict_bm, did_get, did_put, did_next_epoch}
use Rattle.verifier_commands.specs.Changes.{above}
use Rattle.soundness.specs.Clash.{is_known}

-- Each time that its parent's pointer led to it, the record came with the value that was kept of it; each time that it
-- left by its digest, the value that it left with is kept from then on. What is kept afterwards, if anything, is that.
abbrev pub AreCarried : List Bool → Option Value → Option Value → List Change → Type 0
AreCarried path before after [] = (value : Value) → after ≡ Some value → before ≡ Some value
AreCarried path before after (did_add_m parent middle child ∷ changes) =
    (child.path ≡ path) × ((is_known (above parent path) path ≡ true → before ≡ Some child.value) × AreCarried path before after changes)
AreCarried path before after (did_evict_m middle later gone ∷ changes) = (gone.path ≡ path) × AreCarried path (Some gone.value) after changes
AreCarried path before after (did_add_b child element ∷ changes) = ⊥
AreCarried path before after (did_evict_b child element ∷ changes) = ⊥
AreCarried path before after (did_evict_bm parent later child element ∷ changes) = ⊥
AreCarried path before after (did_get entry ∷ changes) = ⊥
AreCarried path before after (did_put old new ∷ changes) = ⊥
AreCarried path before after (did_next_epoch sealed ∷ changes) = ⊥
