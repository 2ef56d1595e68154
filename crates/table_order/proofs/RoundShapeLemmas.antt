-- What a table with epochs tells, as lists of lists: of each worker its list, of each place its past, and both joined.
use Rattle.std.proofs.Common.{◌≡◌, ◌⊎◌, ℕ, zero, suc, ◌+◌, ◌*◌, ◌<◌, ◌≤◌, List, [], ◌∷◌, ◌++◌, get_or, append_assoc, refl, sym, ◌∙◌, ap, subst, inl, inr, arith}
use Rattle.std.specs.List.{flat_map, AllByRecursion}
use Rattle.std.proofs.Math.ListN.{get_or-map}
use Rattle.std.proofs.lemmas.Bool.{cases_eq, cases_lt}
use Rattle.std.proofs.lemmas.List.{map-append}
use Rattle.stamp_order.proofs.InOrderLaws.{every-append}
use Rattle.record_text.specs.declared.request.Request.{Request}
use Rattle.host_core.specs.World.{Place}
use Rattle.host_shard.specs.Content.{Content}
use Rattle.round_order.specs.Turn.{Turn}
use Rattle.round_order.specs.Told.{joined, joined_pasts, list_of, past_of}
use Rattle.host_epochs.specs.declared.told.Entry.{Entry}
use Rattle.host_epochs.specs.declared.views.Row.{Row}
use Rattle.host_epochs.specs.Plays.{new_row}
use Rattle.host_epochs.specs.Round.{row_at}
use Rattle.host_epochs.specs.Told.{joined_from}
use Rattle.host_world.specs.Places.{places_each}
use Rattle.table_order.specs.Rounds.{turn_of, turns_of, lists_of, pasts_at, pasts_from, pasts_of}
use Rattle.table_order.proofs.ListLemmas.{all-front, all-back}

-- ---- lists of numbers

module _ (P : Entry → Type 0) (lists : ℕ → List Entry) where
  -- of the lists of numbers from one on
  pub all-joined : (number count : ℕ) → ((i : ℕ) → number ≤ i → i < number + count → AllByRecursion P (lists i)) → AllByRecursion P (joined_from number count lists)
  all-joined number zero all = tt
  all-joined number (suc count) all =
      every-append P (lists number) (joined_from (suc number) count lists) (all number (omega arith) (omega arith))
      (all-joined (suc number) count (λ i from below. all i (omega (arith, from)) (omega (arith, below))))

  pub all-numbered : (number count i : ℕ) → number ≤ i → i < number + count → AllByRecursion P (joined_from number count lists) → AllByRecursion P (lists i)
  all-numbered number zero i from below all = absurd (omega (arith, from, below))
  all-numbered number (suc count) i from below all =
      go (cases_eq i number) (λ later. all-numbered (suc number) count i later (omega (arith, below)) (all-back P (lists number) (joined_from (suc number) count lists) all))
    where
      go : (i ≡ number) ⊎ (i ≡ number → ⊥) → (suc number ≤ i → AllByRecursion P (lists i)) → AllByRecursion P (lists i)
      go (inl same) rest = subst (λ (n : ℕ). AllByRecursion P (lists n)) (sym same) (all-front P (lists number) (joined_from (suc number) count lists) all)
      go (inr other) rest = rest (omega (arith, from, other))

-- cut in two
joined_cut : (lists : ℕ → List Entry) (number a b n m : ℕ) → n ≡ a + b → m ≡ number + a
    → joined_from number n lists ≡ joined_from number a lists ++ joined_from m b lists
joined_cut lists number zero b n m count from =
    λ k. joined_from (from' k) (count' k) lists
  where
    from' : number ≡ m
    from' = omega (arith, from)

    count' : n ≡ b
    count' = omega (arith, count)
joined_cut lists number (suc a) b zero m count from = absurd (omega (arith, count))
joined_cut lists number (suc a) b (suc n) m count from =
    ap (λ (zs : List Entry). lists number ++ zs) (joined_cut lists (suc number) a b n m (omega (arith, count)) (omega (arith, from)))
    ∙ sym (append_assoc (lists number) (joined_from (suc number) a lists) (joined_from m b lists))

-- ---- workers

pub list_is : (rows : List Row) (i : ℕ) → list_of (lists_of rows) i ≡ turns_of (row_at rows i).list
list_is rows i = get_or-map (λ (row : Row). turns_of row.list) rows i new_row

-- what all workers did
abbrev pub entries_in : List Row → List Entry
entries_in rows = flat_map (λ row. row.list) rows

pub lists_joined : (rows : List Row) → joined (lists_of rows) ≡ turns_of (entries_in rows)
lists_joined [] = refl
lists_joined (row ∷ rows) =
    ap (λ (zs : List (Turn Content Request)). turns_of row.list ++ zs) (lists_joined rows)
    ∙ sym (map-append turn_of row.list (entries_in rows))

-- ---- places

module _ (past : ℕ → List Entry) where
  at_joined : (place count : ℕ) → joined (pasts_at place count past) ≡ turns_of (joined_from place count past)
  at_joined place zero = refl
  at_joined place (suc count) =
      ap (λ (zs : List (Turn Content Request)). turns_of (past place) ++ zs) (at_joined (suc place) count)
      ∙ sym (map-append turn_of (past place) (joined_from (suc place) count past))

  from_joined : (place shards count : ℕ) → count ≡ shards * places_each → joined_pasts (pasts_from place shards past) ≡ turns_of (joined_from place count past)
  from_joined place zero count is =
      let nothing : 0 ≡ count = omega (arith, is) in
      ap (λ (n : ℕ). turns_of (joined_from place n past)) nothing
  from_joined place (suc shards) count is =
      let rest : ℕ = shards * places_each in
      (λ k. at_joined place places_each k ++ from_joined (place + places_each) shards rest refl k)
      ∙ sym (map-append turn_of (joined_from place places_each past) (joined_from (place + places_each) rest past))
      ∙ ap (λ (es : List Entry). turns_of es) (sym (joined_cut past place places_each rest count (place + places_each) (omega (arith, is)) refl))

  pub pasts_joined : (shards count : ℕ) → count ≡ shards * places_each → joined_pasts (pasts_of shards past) ≡ turns_of (joined_from 0 count past)
  pasts_joined shards count is = from_joined 0 shards count is

  at_seat : (place count seat n : ℕ) → seat < count → n ≡ place + seat → get_or (pasts_at place count past) seat [] ≡ turns_of (past n)
  at_seat place zero seat n there is = absurd (omega (arith, there))
  at_seat place (suc count) zero n there is = ap (λ (m : ℕ). turns_of (past m)) (omega (arith, is))
  at_seat place (suc count) (suc seat) n there is = at_seat (suc place) count seat n (omega (arith, there)) (omega (arith, is))

  past_seat : (place count seat : ℕ) → count ≤ seat → ◌≡◌ {A = List (Turn Content Request)} (get_or (pasts_at place count past) seat []) []
  past_seat place zero seat past' = refl
  past_seat place (suc count) zero past' = absurd (omega (arith, past'))
  past_seat place (suc count) (suc seat) past' = past_seat (suc place) count seat (omega (arith, past'))

  at_shard : (place shards s n : ℕ) → s < shards → n ≡ place + s * places_each → get_or (pasts_from place shards past) s [] ≡ pasts_at n places_each past
  at_shard place zero s n there is = absurd (omega (arith, there))
  at_shard place (suc shards) zero n there is = ap (λ (m : ℕ). pasts_at m places_each past) (omega (arith, is))
  at_shard place (suc shards) (suc s) n there is = at_shard (place + places_each) shards s n (omega (arith, there)) (omega (arith, is))

  past_shard : (place shards s : ℕ) → shards ≤ s → ◌≡◌ {A = List (List (Turn Content Request))} (get_or (pasts_from place shards past) s []) []
  past_shard place zero s past' = refl
  past_shard place (suc shards) zero past' = absurd (omega (arith, past'))
  past_shard place (suc shards) (suc s) past' = past_shard (place + places_each) shards s (omega (arith, past'))

  -- the number of a place
  abbrev pub number_of : Place → ℕ
  number_of place = place.shard * places_each + place.seat

  pub past_is : (shards : ℕ) (place : Place) → place.shard < shards → place.seat < places_each → past_of (pasts_of shards past) place ≡ turns_of (past (number_of place))
  past_is shards place shard seat =
      ap (λ (seats : List (List (Turn Content Request))). get_or seats place.seat [])
      (at_shard 0 shards place.shard (place.shard * places_each) shard (omega arith))
      ∙ at_seat (place.shard * places_each) places_each place.seat (number_of place) seat refl

  -- Of a place that there is, the past is what was done there; of others there is none.
  pub past_cases : (shards : ℕ) (place : Place)
      → ((place.shard < shards) × (place.seat < places_each)) ⊎ (past_of (pasts_of shards past) place ≡ [])
  past_cases shards place = go (cases_lt place.shard shards) (cases_lt place.seat places_each)
    where
      go : (place.shard < shards) ⊎ (shards ≤ place.shard) → (place.seat < places_each) ⊎ (places_each ≤ place.seat)
          → ((place.shard < shards) × (place.seat < places_each)) ⊎ (past_of (pasts_of shards past) place ≡ [])
      go (inl shard) (inl seat) = inl (shard, seat)
      go (inl shard) (inr behind) = inr (
          ap (λ (seats : List (List (Turn Content Request))). get_or seats place.seat [])
          (at_shard 0 shards place.shard (place.shard * places_each) shard (omega arith))
          ∙ past_seat (place.shard * places_each) places_each place.seat behind)
      go (inr behind) seat = inr (
          ap (λ (seats : List (List (Turn Content Request))). get_or seats place.seat []) (past_shard 0 shards place.shard behind))
