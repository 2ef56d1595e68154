-- What stays so over a step that does not touch it.
use Rattle.std.proofs.Common.{◌≡◌, ◌≢◌, ◌⊎◌, ℕ, zero, suc, ◌+◌, ◌<◌, ◌≤◌, List, [], ◌∷◌, ◌++◌, length, set, slice_index, refl, sym, ap, ◌∙◌, subst, inl, inr, ⊎_elim, arith}
use mathlib.Core.Logic.{dite}
use mathlib.Core.Option.{some, some-injective, some-ne-none}
use native.Mathlib.Decide.{ℕ_discrete}
use lib.ListN.{get_elem?}
use Rattle.atomic_table.specs.Table.{State}
use Rattle.atomic_table.proofs.Lists.{at_set, set_else}
use Rattle.host_shard.specs.declared.content.Content.{Content}
use Rattle.host_epochs.specs.declared.told.Entry.{Entry}
use Rattle.host_epochs.specs.declared.views.Held.{Held}
use Rattle.host_epochs.specs.declared.views.Held.TheVariants.{Idle, Has}
use Rattle.host_epochs.specs.declared.views.Row.{Row}
use Rattle.host_epochs.specs.declared.views.View.{View}
use Rattle.host_epochs.specs.declared.views.View.TheVariants.{Spent, Working, Keeping}
use Rattle.host_epochs.specs.Rule.{Scene, HoldsPlace, IsHeldAt, IsInEpochs, IsPlaceKept, KnowsHeld, IsRowOf, IsLeft, IsSeen, Knows}
use Rattle.host_epochs.specs.Terms.{Terms, IsFrom, first_at, place_count}
use Rattle.host_epochs.specs.Told.{Leads}
use Rattle.host_epochs.proofs.ToldLemmas.{all_map}

-- ---- lists

module _ {A : Type 0} where
  pub set_there : (l : List A) (i : ℕ) (a b : A) → get_elem? l i ≡ some b → get_elem? (set l i a) i ≡ some a
  set_there [] i a b at = absurd (some-ne-none b (sym at))
  set_there (x ∷ xs) zero a b at = refl
  set_there (x ∷ xs) (suc i) a b at = set_there xs i a b at

  -- the last element, and where it stands
  pub at_end : (l : List A) (a b : A) (j : ℕ) → get_elem? (l ++ a ∷ []) j ≡ some b → (get_elem? l j ≡ some b) ⊎ ((j ≡ length l) × (a ≡ b))
  at_end [] a b zero at = inr (refl, some-injective a b at)
  at_end [] a b (suc j) at = absurd (some-ne-none b (sym at))
  at_end (x ∷ xs) a b zero at = inl at
  at_end (x ∷ xs) a b (suc j) at = ⊎_elim (λ h. inl h) (λ h. inr (ap suc h.0, h.1)) (at_end xs a b j at)

-- what is so of each view, after one of them changed
pub views_stay : (K : ℕ → View → Type 0) (views : List View) (me : ℕ) (w : View) → K me w → ((j : ℕ) (v : View) → j ≢ me → get_elem? views j ≡ some v → K j v)
    → (j : ℕ) (v : View) → get_elem? (set views me w) j ≡ some v → K j v
views_stay K views me w mine others j v at = ⊎_elim (λ (t : (j ≡ me) × (w ≡ v)). subst (λ (x : ℕ × View). K x.0 x.1) (λ i. (sym t.0 i, t.1 i)) mine)
    (λ (t : (j ≢ me) × (get_elem? views j ≡ some v)). others j v t.0 t.1) (at_set views me j w v at)

-- a view of which something is so, after one of them changed
pub record IsThere (views : List View) (j : ℕ) (P : View → Type 0) : Type 0 where
  pub view : View
  pub at : get_elem? views j ≡ some view
  pub is : P view

pub there_still : (P : View → Type 0) (views : List View) (me : ℕ) (v w : View) (j : ℕ) (u : View) → get_elem? views me ≡ some v → get_elem? views j ≡ some u → P u → (P v → P w)
    → IsThere (set views me w) j P
there_still P views me v w j u mine at is change = dite (ℕ_discrete j me)
    (λ e. let same : u ≡ v = some-injective u v (sym at ∙ (ap (get_elem? views) e ∙ mine)) in
    record { view = w; at = ap (get_elem? (set views me w)) e ∙ set_there views me w v mine; is = change (subst P same is) })
    (λ other. record { view = u; at = set_else views me j w other ∙ at; is = is })

-- ---- the scene

module _ (terms : Terms) where
  -- no element is of an earlier epoch than before, and no worker is through with fewer
  pub record IsOnward (c c' : Scene) : Type 0 where
    pub rises : (q least : ℕ) → IsFrom least (c.now q) → IsFrom least (c'.now q)
    pub dones : (x : ℕ) → (c.row x).done ≤ (c'.row x).done

  -- what a view knows of a worker and of what it holds is as before
  pub record IsAsBefore (c : Scene) (words : List ℕ) (c' : Scene) (words' : List ℕ) (worker : ℕ) : Type 0 where
    pub view : c'.view_of worker ≡ c.view_of worker
    pub row : c'.row worker ≡ c.row worker
    pub places : (q : ℕ) → q < place_count terms → slice_index words q ≡ suc worker
        → (slice_index words' q ≡ suc worker) × (c'.now q ≡ c.now q) × (c'.past q ≡ c.past q)

  module _ (c c' : Scene) (words words' : List ℕ) where
    rows_stay : (j worker : ℕ) (row : Row) → IsAsBefore c words c' words' worker → IsRowOf c j worker row → IsRowOf c' j worker row
    rows_stay j worker row same is = record { here = same.view ∙ is.here; is = is.is ∙ sym same.row }

    held_stay : (worker : ℕ) (held : Held) → IsAsBefore c words c' words' worker → KnowsHeld terms c words worker held → KnowsHeld terms c' words' worker held
    held_stay worker Idle same knows = tt
    held_stay worker (Has place x past) same knows =
        let still = same.places place knows.0 knows.1 in (knows.0, still.0, knows.2 ∙ sym still.1, knows.3 ∙ sym still.2)

    pub knows_still : IsOnward c c' → (j : ℕ) → ((worker : ℕ) → c.view_of worker ≡ j → IsAsBefore c words c' words' worker) → (v : View)
        → Knows terms c words j v → Knows terms c' words' j v
    knows_still onward j same Spent knows = tt
    knows_still onward j same (Working desk) knows =
        let before = same desk.number knows.1.here in (
          knows.0,
          rows_stay j desk.number desk.row before knows.1,
          held_stay desk.number desk.held before knows.2,
          all_map (IsLeft c) (IsLeft c') desk.left (λ reached is. onward.rises reached.of reached.least is) knows.3,
          all_map (IsSeen terms c) (IsSeen terms c') desk.seen (λ reached is known. let le = is known in omega (arith, le, onward.dones reached.of)) knows.4,
        )
    knows_still onward j same (Keeping rack) knows =
        (knows.0, λ i row at. let is = knows.1 i row at in rows_stay j (rack.from + i) row (same (rack.from + i) is.here) is)

  -- a held place, where who holds it is found again
  pub held_still : (c c' : Scene) (views views' : List View) (place word : ℕ)
      → ((worker : ℕ) (v : View) → worker < terms.workers → get_elem? views (c.view_of worker) ≡ some v → HoldsPlace worker place v → IsThere views' (c'.view_of worker) (HoldsPlace worker place))
      → IsHeldAt terms c views place word → IsHeldAt terms c' views' place word
  held_still c c' views views' place word find held =
      let found = find held.worker held.view held.known held.there held.holds in
      record { worker = held.worker; is = held.is; known = held.known; view = found.view; there = found.at; holds = found.is }

  -- a place that a step does not touch
  pub place_still : (c c' : Scene) (s s' : State Content View) (place : ℕ)
      → slice_index s'.words place ≡ slice_index s.words place → get_elem? s'.homes place ≡ get_elem? s.homes place → c'.now place ≡ c.now place → c'.past place ≡ c.past place
      → (IsInEpochs terms c s.words place → IsInEpochs terms c' s'.words place)
      → (IsHeldAt terms c s.views place (slice_index s.words place) → IsHeldAt terms c' s'.views place (slice_index s.words place))
      → IsPlaceKept terms c s place → IsPlaceKept terms c' s' place
  place_still c c' s s' place word home now past epochs held kept = record {
    free = λ z. home ∙ (kept.free (sym word ∙ z) ∙ ap (λ (x : Content). some (some x)) (sym now));
    held = λ busy. subst (IsHeldAt terms c' s'.views place) (sym word) (held (kept.held (λ z. busy (word ∙ z))));
    leads = subst (λ (t : List Entry × Content). Leads terms place (first_at terms place) t.0 t.1) (λ i. (sym past i, sym now i)) kept.leads;
    epochs = epochs kept.epochs;
  }
