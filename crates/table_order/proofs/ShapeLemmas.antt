-- What a table tells, as lists of lists: of each worker its list, of each place its past, and both joined.
use Rattle.std.proofs.Common.{◌≡◌, ◌⊎◌, ℕ, zero, suc, ◌+◌, ◌*◌, ◌<◌, ◌≤◌, List, [], ◌∷◌, ◌++◌, get_or, refl, sym, ◌∙◌, ap, inl, inr, arith}
use Rattle.std.specs.List.{flat_map}
use Rattle.std.proofs.Math.ListN.{get_or-map}
use Rattle.std.proofs.lemmas.Bool.{cases_lt}
use Rattle.std.proofs.lemmas.List.{map-append}
use Rattle.record_text.specs.declared.request.Request.{Request}
use Rattle.host_core.specs.World.{Place}
use Rattle.host_shard.specs.Content.{Content}
use Rattle.host_order.specs.Serving.{Serving}
use Rattle.host_order.specs.Told.{joined, joined_pasts, list_of, past_of}
use Rattle.host_table.specs.declared.told.Service.{Service}
use Rattle.host_table.specs.declared.views.Row.{Row}
use Rattle.host_table.specs.Phase.{new_row, row_at}
use Rattle.host_table.specs.Told.{joined_from}
use Rattle.host_world.specs.Places.{places_each}
use Rattle.table_order.specs.Servings.{serving_of, servings_of, lists_of, pasts_at, pasts_from, pasts_of}
use Rattle.table_order.proofs.ListLemmas.{joined_cut}

-- ---- workers

pub list_is : (rows : List Row) (i : ℕ) → list_of (lists_of rows) i ≡ servings_of (row_at rows i).list
list_is rows i = get_or-map (λ (row : Row). servings_of row.list) rows i new_row

-- what all workers served
abbrev pub services_in : List Row → List Service
services_in rows = flat_map (λ row. row.list) rows

pub lists_joined : (rows : List Row) → joined (lists_of rows) ≡ servings_of (services_in rows)
lists_joined [] = refl
lists_joined (row ∷ rows) =
    ap (λ (zs : List (Serving Content Request)). servings_of row.list ++ zs) (lists_joined rows)
    ∙ sym (map-append serving_of row.list (services_in rows))

-- ---- places

module _ (past : ℕ → List Service) where
  at_joined : (place count : ℕ) → joined (pasts_at place count past) ≡ servings_of (joined_from place count past)
  at_joined place zero = refl
  at_joined place (suc count) =
      ap (λ (zs : List (Serving Content Request)). servings_of (past place) ++ zs) (at_joined (suc place) count)
      ∙ sym (map-append serving_of (past place) (joined_from (suc place) count past))

  from_joined : (place shards count : ℕ) → count ≡ shards * places_each → joined_pasts (pasts_from place shards past) ≡ servings_of (joined_from place count past)
  from_joined place zero count is =
      let nothing : 0 ≡ count = omega (arith, is) in
      ap (λ (n : ℕ). servings_of (joined_from place n past)) nothing
  from_joined place (suc shards) count is =
      let rest : ℕ = shards * places_each in
      (λ k. at_joined place places_each k ++ from_joined (place + places_each) shards rest refl k)
      ∙ sym (map-append serving_of (joined_from place places_each past) (joined_from (place + places_each) rest past))
      ∙ ap (λ (es : List Service). servings_of es) (sym (joined_cut past place places_each rest count (place + places_each) (omega (arith, is)) refl))

  pub pasts_joined : (shards count : ℕ) → count ≡ shards * places_each → joined_pasts (pasts_of shards past) ≡ servings_of (joined_from 0 count past)
  pasts_joined shards count is = from_joined 0 shards count is

  at_seat : (place count seat n : ℕ) → seat < count → n ≡ place + seat → get_or (pasts_at place count past) seat [] ≡ servings_of (past n)
  at_seat place zero seat n there is = absurd (omega (arith, there))
  at_seat place (suc count) zero n there is = ap (λ (m : ℕ). servings_of (past m)) (omega (arith, is))
  at_seat place (suc count) (suc seat) n there is = at_seat (suc place) count seat n (omega (arith, there)) (omega (arith, is))

  past_seat : (place count seat : ℕ) → count ≤ seat → ◌≡◌ {A = List (Serving Content Request)} (get_or (pasts_at place count past) seat []) []
  past_seat place zero seat past' = refl
  past_seat place (suc count) zero past' = absurd (omega (arith, past'))
  past_seat place (suc count) (suc seat) past' = past_seat (suc place) count seat (omega (arith, past'))

  at_shard : (place shards s n : ℕ) → s < shards → n ≡ place + s * places_each → get_or (pasts_from place shards past) s [] ≡ pasts_at n places_each past
  at_shard place zero s n there is = absurd (omega (arith, there))
  at_shard place (suc shards) zero n there is = ap (λ (m : ℕ). pasts_at m places_each past) (omega (arith, is))
  at_shard place (suc shards) (suc s) n there is = at_shard (place + places_each) shards s n (omega (arith, there)) (omega (arith, is))

  past_shard : (place shards s : ℕ) → shards ≤ s → ◌≡◌ {A = List (List (Serving Content Request))} (get_or (pasts_from place shards past) s []) []
  past_shard place zero s past' = refl
  past_shard place (suc shards) zero past' = absurd (omega (arith, past'))
  past_shard place (suc shards) (suc s) past' = past_shard (place + places_each) shards s (omega (arith, past'))

  -- the number of a place
  abbrev pub number_of : Place → ℕ
  number_of place = place.shard * places_each + place.seat

  pub past_is : (shards : ℕ) (place : Place) → place.shard < shards → place.seat < places_each → past_of (pasts_of shards past) place ≡ servings_of (past (number_of place))
  past_is shards place shard seat =
      ap (λ (seats : List (List (Serving Content Request))). get_or seats place.seat [])
      (at_shard 0 shards place.shard (place.shard * places_each) shard (omega arith))
      ∙ at_seat (place.shard * places_each) places_each place.seat (number_of place) seat refl

  -- Of a place that there is, the past is what was served there; of others there is none.
  pub past_cases : (shards : ℕ) (place : Place)
      → ((place.shard < shards) × (place.seat < places_each)) ⊎ (past_of (pasts_of shards past) place ≡ [])
  past_cases shards place = go (cases_lt place.shard shards) (cases_lt place.seat places_each)
    where
      go : (place.shard < shards) ⊎ (shards ≤ place.shard) → (place.seat < places_each) ⊎ (places_each ≤ place.seat)
          → ((place.shard < shards) × (place.seat < places_each)) ⊎ (past_of (pasts_of shards past) place ≡ [])
      go (inl shard) (inl seat) = inl (shard, seat)
      go (inl shard) (inr behind) = inr (
          ap (λ (seats : List (List (Serving Content Request))). get_or seats place.seat [])
          (at_shard 0 shards place.shard (place.shard * places_each) shard (omega arith))
          ∙ past_seat (place.shard * places_each) places_each place.seat behind)
      go (inr behind) seat = inr (
          ap (λ (seats : List (List (Serving Content Request))). get_or seats place.seat []) (past_shard 0 shards place.shard behind))
