-- What a hand holds stays in it over the calls that take no place and give none.
use Rattle.std.proofs.Common.{◌≡◌, ℕ, [], ◌∷◌, sym, ap, subst, List}
use Rattle.atomic_table.specs.Seated.{TableId}
use Rattle.host_shard.specs.declared.content.Content.{Content}
use Rattle.host_shard.specs.declared.content.Content.TheVariants.{Vacant}
use Rattle.host_epochs.specs.declared.hand.Hand.{Hand}
use Rattle.host_epochs.specs.declared.told.Entry.{Entry}
use Rattle.host_epochs.specs.declared.views.Held.TheVariants.{Has}
use Rattle.host_epochs.specs.Hands.{Holds, IsSeated, KeepsSeat, Sits, content, history, place}
use Rattle.host_epochs.specs.Plays.{Sat, held_in, content_of, past_of, place_of}

-- the same place, with the same content and the same history
pub record HoldsStill (table : TableId) (old new : Hand) (at : ℕ) : Type 0 where
  pub holds : Holds table new at
  pub content_is : content new ≡ content old
  pub history_is : history new ≡ history old

pub holds_still : (table : TableId) (old new : Hand) (at : ℕ) → KeepsSeat table old new → Holds table old at → HoldsStill table old new at
holds_still table old new at keeps holds =
    let sits : Sits table new (Has at (content old) (history old)) ((at, Vacant) ∷ []) = keeps (Has at (content old) (history old)) ((at, Vacant) ∷ []) holds in
    let same : content new ≡ content old = ap (λ (m : Sat). content_of (held_in m.0)) sits.me in
    let past : history new ≡ history old = ap (λ (m : Sat). past_of (held_in m.0)) sits.me in
    record {
      holds = subst (λ (t : Content × List Entry). Sits table new (Has at t.0 t.1) ((at, Vacant) ∷ [])) (λ i. (sym same i, sym past i)) sits;
      content_is = same;
      history_is = past;
    }

-- a hand that holds a place sits at the table, and that is its place
pub holds_seated : (table : TableId) (hand : Hand) (at : ℕ) → Holds table hand at → IsSeated table hand
holds_seated table hand at holds = record { has = Has at (content hand) (history hand); out = (at, Vacant) ∷ []; sits = holds }

pub place_held : (table : TableId) (hand : Hand) (at : ℕ) → Holds table hand at → place hand ≡ at
place_held table hand at holds = ap (λ (m : Sat). place_of (held_in m.0)) holds.me
