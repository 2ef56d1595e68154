-- What the rule of a table says of contents that mirror.
use Rattle.std.proofs.Common.{◌≡◌, ℕ, ◌<◌, ◌≤◌, List, [], ◌∷◌, sym, ◌∙◌, subst}
use Rattle.std.specs.List.{AllByRecursion}
use mathlib.Core.Option.{some, some-injective}
use lib.ListN.{get_elem?}
use Rattle.atomic_table.specs.Table.{State}
use Rattle.stamp_order.proofs.InOrderLaws.{every-weaker}
use Rattle.host_shard.specs.declared.content.Content as code
use Rattle.host_epochs.specs.declared.told.Entry.{Entry}
use Rattle.host_epochs.specs.declared.views.Desk.{Desk}
use Rattle.host_epochs.specs.declared.views.Held.{Held}
use Rattle.host_epochs.specs.declared.views.Held.TheVariants.{Idle, Has}
use Rattle.host_epochs.specs.declared.views.Row.{Row}
use Rattle.host_epochs.specs.declared.views.View.{View}
use Rattle.host_epochs.specs.declared.views.View.TheVariants.{Spent, Working, Keeping}
use Rattle.host_epochs.specs.Plays.{held_in}
use Rattle.host_epochs.specs.Rule.{KnowsHeld, IsKept}
use Rattle.host_epochs.specs.Terms.{Terms, first_at, place_count}
use Rattle.host_epochs.specs.Told.{IsAsked, IsDone, IsListOf}
use Rattle.host_table.specs.Terms.{phase_of}
use Rattle.table_order.specs.Mirroring.{MirrorsAtMaking, IsAtHome, IsInHand}
use Rattle.table_order.specs.RoundMirroring.{HasAsksInRange, IsStampIn, MirrorsIn, AreEvictsIn, evicted_in}
use Rattle.table_order.proofs.EvictLemmas.{evict_of, first_evicted, each_evicts, own_evicts, list_rises}
use Rattle.table_order.proofs.MirrorLemmas.{entry_stamped, leads_follow, led}

-- ---- a list

stamped_evicts : (terms : Terms) → terms.workers ≤ terms.header.verifiers → (entries : List Entry) → AllByRecursion (IsAsked terms) entries
    → AllByRecursion (λ element. IsStampIn terms element.stamp element.verifier) (evicted_in entries)
stamped_evicts terms few [] asked = tt
stamped_evicts terms few (entry ∷ entries) asked =
    first_evicted terms (AllByRecursion (λ element. IsStampIn terms element.stamp element.verifier)) entry entries asked.0
    (entry_stamped terms entry few asked.0 (evict_of terms entry asked.0).element (evict_of terms entry asked.0).waits, stamped_evicts terms few entries asked.1)

-- What a worker's list evicts is the worker's, and rises.
pub list_evicts : (terms : Terms) → terms.workers ≤ terms.header.verifiers → (worker : ℕ) (entries : List Entry) (entered : ℕ) → IsListOf terms worker entries entered
    → AreEvictsIn terms worker entries
list_evicts terms few worker entries entered list =
    let asked = every-weaker (IsDone terms) (IsAsked terms) (λ entry done. done.asked) entries list.done in
    record {
      each = each_evicts terms entries asked;
      own = own_evicts terms worker entries asked list.own;
      stamped = stamped_evicts terms few entries asked;
      rising = list_rises terms list.last entries list.behind.chained asked;
    }

-- ---- the rule

module _ (terms : Terms) (s : State code.Content View) (kept : IsKept terms s) where
  module _ (made : MirrorsAtMaking (phase_of terms)) (small : HasAsksInRange terms kept.scene) where
    -- the content that a place has now
    now_mirrors : (place : ℕ) → place < place_count terms → MirrorsIn terms place (kept.scene.now place)
    now_mirrors place there = led terms made place there (kept.scene.now place) (kept.scene.past place)
        (leads_follow terms place (first_at terms place) (kept.scene.past place) (kept.scene.now place) (kept.places place there).leads) (small place there)

    -- What is at home mirrors.
    pub home_mirrors : (place : ℕ) (content : code.Content) → place < place_count terms → IsAtHome s place content → MirrorsIn terms place content
    home_mirrors place content there home =
        subst (MirrorsIn terms place)
        (some-injective (kept.scene.now place) content
        (some-injective (some (kept.scene.now place)) (some content) (sym ((kept.places place there).free home.0) ∙ home.1)))
        (now_mirrors place there)

    held_mirrors : (worker place : ℕ) (content : code.Content) (past : List Entry) (held : Held) → held ≡ Has place content past
        → KnowsHeld terms kept.scene s.words worker held → MirrorsIn terms place content
    held_mirrors worker place content past held is knows =
        let known = subst (KnowsHeld terms kept.scene s.words worker) is knows in
        subst (MirrorsIn terms place) (sym known.2) (now_mirrors place known.0)

    none_has : (place : ℕ) (content : code.Content) (past : List Entry) → Idle ≡ Has place content past → ⊥
    none_has place content past is = cc

    -- What a view has in hand mirrors.
    pub hand_mirrors : (place : ℕ) (content : code.Content) → IsInHand s place content → MirrorsIn terms place content
    hand_mirrors place content hand = go hand.1 hand.3 hand.4
      where
        go : (view : View) → get_elem? s.views hand.0 ≡ some view → held_in view ≡ Has place content hand.2 → MirrorsIn terms place content
        go (Working desk) at is = held_mirrors desk.number place content hand.2 desk.held is (kept.views hand.0 (Working desk) at).2
        go (Keeping rack) at is = absurd (none_has place content hand.2 is)
        go Spent at is = absurd (none_has place content hand.2 is)

  -- What a worker's view lists evicts elements of the worker that rise.
  pub desk_evicts : terms.workers ≤ terms.header.verifiers → (number : ℕ) (desk : Desk) → get_elem? s.views number ≡ some (Working desk) → AreEvictsIn terms desk.number desk.row.list
  desk_evicts few number desk at =
      let knows = kept.views number (Working desk) at in
      subst (λ (row : Row). AreEvictsIn terms desk.number row.list) (sym knows.1.is)
      (list_evicts terms few desk.number (kept.scene.row desk.number).list (kept.scene.row desk.number).entered (kept.workers desk.number knows.0).own)
