-- Hot records that are taken in and handed out again, one after another.
use Rattle.std.proofs.Common.{◌≡◌, ◌⊎◌, ℕ, ◌+◌, ◌<◌, ◌≤◌, Bool, true, List, [], ◌∷◌, ◌++◌, map, Ok, refl, ◌∙◌, ap, inl, inr, arith}
use Rattle.std.specs.List.{AllByRecursion, flat_map}
use Rattle.soundness.specs.Certified.{sealed_by}
use Rattle.std.proofs.lemmas.Bool.{false≢true}
use Rattle.lamport_clocks.specs.declared.stamp.Stamp.{Stamp}
use Rattle.lamport_clocks.specs.Reading.{Reading}
use Rattle.record_text.specs.declared.element.Element.{Element}
use Rattle.record_text.specs.declared.value.Value.TheVariants as values
use Rattle.verifier_cache.specs.declared.entry.Hold.TheVariants.{B}
use Rattle.verifier_commands.specs.declared.state.State.{State}
use Rattle.verifier_commands.specs.Change.{Change}
use Rattle.verifier_commands.specs.Transition.{Rules}
use Rattle.host_shard.specs.declared.content.HotRecord.{HotRecord}
use Rattle.host_shard.specs.Content.{hot_path, Content, hot, pending_hot}
use Rattle.host_plan.specs.Moments.{renewing}
use Rattle.host_laws.specs.Running.{Told, run, added_told, evicted_told, accesses_told}
use Rattle.host_laws.specs.Carried.{carried, carries}
use Rattle.host_laws.specs.Served.{IsBare}
use Rattle.host_laws.proofs.DepthLaws.{not_root, key_deep}
use Rattle.host_laws.proofs.RunLaws.{run-none, run-append}
use Rattle.host_laws.proofs.WorksLaws.{works-none}
use Rattle.host_laws.proofs.BetweenLaws.{clear-bare, length-bare, told_between, between_runs}
use Rattle.protection_moves.proofs.RenewingLaws.{renewing_each-up}
use Rattle.protection_moves.specs.Stage.{hot_records, replaced}
use Rattle.protection_moves.specs.Renewing.{renewed_record, renewing_each, renewed_places, renewing_commands}
use Rattle.move_laws.specs.Stages.{IsOne, IsTakable}
use Rattle.move_laws.proofs.CountLaws.{weight, weight-front}
use Rattle.move_laws.proofs.PlaceLaws.{HasNone, AreApart, replaced-weight, replaced-keys, apart-replaced, all-replaced, one-replaced}

-- ---- at the verifier

-- what was done to them
abbrev pub told_renewing : Rules → Reading → List HotRecord → Told
told_renewing rules clock [] = []
told_renewing rules clock (found ∷ more) =
    told_between rules (pending_hot found) (values.Blob found.value) clock [] ++ told_renewing rules (renewing clock found.stamp) more

-- A verifier at rest accepts it.
pub renewing-runs : (rules : Rules) (state : State) (records : List HotRecord) → IsBare state.cache.entries → 1 < state.cache.room
    → AllByRecursion (λ found. IsTakable rules state.clock (pending_hot found)) records
    → (renewing_each state.clock records).at.counter ≤ state.clock.end
    → run rules state (renewing_commands state.clock records)
    ≡ Ok (told_renewing rules state.clock records, record state { clock = renewing_each state.clock records })
renewing-runs rules state [] bare room takable within = run-none rules state
renewing-runs rules state (found ∷ more) bare room takable within =
    run-append rules state _ _ _ _ (record state { clock = renewing state.clock found.stamp }) _
    (between_runs rules state (pending_hot found) 0 [] [] (values.Blob found.value)
    (not_root (hot_path found) (key_deep found.wide found.key)) (clear-bare state.cache.entries (hot_path found) bare (key_deep found.wide found.key))
    (omega (arith, length-bare state.cache.entries bare)) takable.0.0 takable.0.1
    (omega (arith, renewing_each-up (renewing state.clock found.stamp) more))
    (works-none rules 0 _ B _ _))
    (renewing-runs rules (record state { clock = renewing state.clock found.stamp }) more bare room takable.1 within)

-- the records as they are left
abbrev pub renewed_each : ℕ → Reading → List HotRecord → List HotRecord
renewed_each worker clock [] = []
renewed_each worker clock (found ∷ more) = renewed_record worker clock found ∷ renewed_each worker (renewing clock found.stamp) more

pub added-renewing : (rules : Rules) (clock : Reading) (records : List HotRecord)
    → added_told (told_renewing rules clock records) ≡ map pending_hot records
added-renewing rules clock [] = refl
added-renewing rules clock (found ∷ more) =
    ap (λ (xs : List Element). pending_hot found ∷ xs) (added-renewing rules (renewing clock found.stamp) more)

pub evicted-renewing : (rules : Rules) (clock : Reading) (records : List HotRecord)
    → evicted_told (told_renewing rules clock records) ≡ map pending_hot (renewed_each rules.number clock records)
evicted-renewing rules clock [] = refl
evicted-renewing rules clock (found ∷ more) =
    ap (λ (xs : List Element). pending_hot (renewed_record rules.number clock found) ∷ xs)
    (evicted-renewing rules (renewing clock found.stamp) more)

pub no_access-renewing : (rules : Rules) (clock : Reading) (records : List HotRecord) → accesses_told (told_renewing rules clock records) ≡ []
no_access-renewing rules clock [] = refl
no_access-renewing rules clock (found ∷ more) = no_access-renewing rules (renewing clock found.stamp) more

pub unsealed-renewing : (rules : Rules) (clock : Reading) (records : List HotRecord)
    → flat_map (λ (one : Stamp × Change). sealed_by one.1) (told_renewing rules clock records) ≡ []
unsealed-renewing rules clock [] = refl
unsealed-renewing rules clock (found ∷ more) = unsealed-renewing rules (renewing clock found.stamp) more

-- no record is carried
pub carried-renewing : (rules : Rules) (clock : Reading) (records : List HotRecord) (path : List Bool) → carried path (told_renewing rules clock records) ≡ []
carried-renewing rules clock [] path = refl
carried-renewing rules clock (found ∷ more) path = carried-renewing rules (renewing clock found.stamp) more path

pub carries-renewing : (P : Stamp → Type 0) (rules : Rules) (clock : Reading) (records : List HotRecord) (path : List Bool)
    → AllByRecursion (λ (one : Stamp × Change). carries path one.1 ≡ true → P one.0) (told_renewing rules clock records)
carries-renewing P rules clock [] path = tt
carries-renewing P rules clock (found ∷ more) path =
    (λ is. absurd (false≢true is), (λ is. absurd (false≢true is), carries-renewing P rules (renewing clock found.stamp) more path))

-- ---- in the places

all-both : (P Q R : HotRecord → Type 0) → ((found : HotRecord) → P found → Q found → R found) → (records : List HotRecord)
    → AllByRecursion P records → AllByRecursion Q records → AllByRecursion R records
all-both P Q R step [] all other = tt
all-both P Q R step (found ∷ records) all other = (step found all.0 other.0, all-both P Q R step records all.1 other.1)

-- the others are where they were
pub still_there : (key : ℕ) (now : Content) (places : List Content) (records : List HotRecord) → AllByRecursion (IsOne (hot_records places)) records
    → HasNone key records → AllByRecursion (IsOne (hot_records (replaced key now places))) records
still_there key now places records there others =
    all-both (IsOne (hot_records places)) (λ found. found.key ≡ key → ⊥) (IsOne (hot_records (replaced key now places)))
    (λ found is other. one-replaced key now places found is other) records there others

-- The elements of the renewed records come in the place of theirs.
pub renewed-weight : (worker : ℕ) (x : Element) (clock : Reading) (places : List Content) (records : List HotRecord)
    → AreApart (hot_records places) → AllByRecursion (IsOne (hot_records places)) records → AreApart records
    → weight x (hot_records (renewed_places worker clock places records)) + weight x records
    ≡ weight x (hot_records places) + weight x (renewed_each worker clock records)
renewed-weight worker x clock places [] apart there distinct = refl
renewed-weight worker x clock places (found ∷ more) apart there distinct =
    let new = renewed_record worker clock found in
    omega (
      arith,
      replaced-weight x (hot new) places found there.0 apart,
      renewed-weight worker x (renewing clock found.stamp) (replaced found.key (hot new) places) more (apart-replaced new places apart)
          (still_there found.key (hot new) places more there.1 distinct.0) distinct.1,
      weight-front x found more,
      weight-front x new (renewed_each worker (renewing clock found.stamp) more),
    )

pub renewed-apart : (worker : ℕ) (clock : Reading) (places : List Content) (records : List HotRecord) → AreApart (hot_records places)
    → AreApart (hot_records (renewed_places worker clock places records))
renewed-apart worker clock places [] apart = apart
renewed-apart worker clock places (found ∷ more) apart =
    renewed-apart worker (renewing clock found.stamp) _ more (apart-replaced (renewed_record worker clock found) places apart)

-- the same keys are hot
pub renewed-keys : {A : Type 0} (of : ℕ → A) (worker : ℕ) (clock : Reading) (places : List Content) (records : List HotRecord)
    → map (λ (r : HotRecord). of r.key) (hot_records (renewed_places worker clock places records)) ≡ map (λ (r : HotRecord). of r.key) (hot_records places)
renewed-keys of worker clock places [] = refl
renewed-keys of worker clock places (found ∷ more) =
    renewed-keys of worker (renewing clock found.stamp) _ more ∙ replaced-keys of (renewed_record worker clock found) places

-- what holds of a record and stays where it is renewed holds of all
pub renewed-all : (P : HotRecord → Type 0) → ((worker : ℕ) (clock : Reading) (found : HotRecord) → P found → P (renewed_record worker clock found))
    → (worker : ℕ) (clock : Reading) (places : List Content) (records : List HotRecord) → AllByRecursion P records → AllByRecursion P (hot_records places)
    → AllByRecursion P (hot_records (renewed_places worker clock places records))
renewed-all P step worker clock places [] some all = all
renewed-all P step worker clock places (found ∷ more) some all =
    renewed-all P step worker (renewing clock found.stamp) _ more some.1
    (all-replaced P P found.key (hot (renewed_record worker clock found)) places (λ r is other. is) (step worker clock found some.0, tt) all)

-- a record as this worker evicted it in this epoch
abbrev pub IsFresh : ℕ → ℕ → HotRecord → Type 0
IsFresh worker epoch found = (found.evictor ≡ worker) × (found.stamp.epoch ≡ epoch)

-- Each record is fresh then, or one of those that are left.
pub renewed-fresh : (worker : ℕ) (clock : Reading) (places : List Content) (records left : List HotRecord)
    → AllByRecursion (λ found. IsFresh worker clock.at.epoch found ⊎ IsOne (records ++ left) found) (hot_records places)
    → AllByRecursion (λ found. IsFresh worker clock.at.epoch found ⊎ IsOne left found) (hot_records (renewed_places worker clock places records))
renewed-fresh worker clock places [] left all = all
renewed-fresh worker clock places (found ∷ more) left all =
    renewed-fresh worker (renewing clock found.stamp) _ more left
    (all-replaced (λ r. IsFresh worker clock.at.epoch r ⊎ IsOne (found ∷ (more ++ left)) r) (λ r. IsFresh worker clock.at.epoch r ⊎ IsOne (more ++ left) r)
    found.key (hot (renewed_record worker clock found)) places other (inl (refl, refl), tt) all)
  where
    other : (r : HotRecord) → IsFresh worker clock.at.epoch r ⊎ IsOne (found ∷ (more ++ left)) r → (r.key ≡ found.key → ⊥)
        → IsFresh worker clock.at.epoch r ⊎ IsOne (more ++ left) r
    other r (inl fresh) apart = inl fresh
    other r (inr (inl same)) apart = absurd (apart (ap (λ (one : HotRecord). one.key) same))
    other r (inr (inr is)) apart = inr is
