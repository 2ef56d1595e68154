-- Hot places, where one of them changes, and behind a move: they stay as many, and none has a shard.
use Rattle.std.proofs.Common.{◌≡◌, ℕ, zero, suc, Bool, true, false, ◌||◌, List, [], ◌∷◌, ◌++◌, length, get_or, set, map, if◌then◌else◌, refl, sym, ◌∙◌, ap, inl, inr, eq-eqb}
use Rattle.std.specs.Prelude.{◌==◌}
use Rattle.std.specs.List.{AllByRecursion, list_any}
use Rattle.lamport_clocks.specs.Reading.{Reading}
use Rattle.record_text.specs.declared.element.Element.{Element}
use Rattle.merkle_records.specs.Merkle.{Digest}
use Rattle.host_shard.specs.declared.link.Link.{Link}
use Rattle.host_shard.specs.declared.content.HotRecord.{HotRecord}
use Rattle.host_shard.specs.Content.{Content, cold, hot, vacant, pending, pending_hot}
use Rattle.host_plan.specs.Moments.{renewing}
use Rattle.host_laws.specs.Served.{waiting}
use Rattle.protection_moves.specs.Stage.{Stage, hot_records, is_hot_at, replaced, placed, touched_in}
use Rattle.protection_moves.specs.Renewing.{renewed_record, renewed_places}
use Rattle.protection_moves.specs.Transfer.{Transfer, demotes, promotes}
use Rattle.protection_moves.specs.Descent.{Descent, promoted_record, done_by, done_by_each}
use Rattle.protection_moves.specs.Move.{begun}
use Rattle.move_laws.specs.Stages.{IsOne}
use Rattle.shipped_host.specs.Seated.{IsHotPlace, waiting_at}

-- ---- one place that changes

pub hot_there : (places : List Content) (k : ℕ) (found : HotRecord) → get_or places k vacant ≡ hot found → IsOne (hot_records places) found
hot_there [] k found is = absurd (no_hot is)
  where
    no_hot : vacant ≡ hot found → ⊥
    no_hot is' = cc
hot_there (cold shard ∷ places) zero found is = absurd (no_hot is)
  where
    no_hot : cold shard ≡ hot found → ⊥
    no_hot is' = cc
hot_there (cold shard ∷ places) (suc k) found is = hot_there places k found is
hot_there (vacant ∷ places) zero found is = absurd (no_hot is)
  where
    no_hot : vacant ≡ hot found → ⊥
    no_hot is' = cc
hot_there (vacant ∷ places) (suc k) found is = hot_there places k found is
hot_there (hot first ∷ places) zero found is = inl (sym (same is))
  where
    same : hot first ≡ hot found → first ≡ found
    same is' = cc
hot_there (hot first ∷ places) (suc k) found is = inr (hot_there places k found is)

-- a hot record of the same key in the place of another: what the keys say stays
pub keys-set : {A : Type 0} (of : HotRecord → A) (places : List Content) (k : ℕ) (found new : HotRecord) → get_or places k vacant ≡ hot found → of new ≡ of found
    → map of (hot_records (set places k (hot new))) ≡ map of (hot_records places)
keys-set of [] k found new is same = refl
keys-set of (cold shard ∷ places) zero found new is same = absurd (no_hot is)
  where
    no_hot : cold shard ≡ hot found → ⊥
    no_hot is' = cc
keys-set of (cold shard ∷ places) (suc k) found new is same = keys-set of places k found new is same
keys-set of (vacant ∷ places) zero found new is same = absurd (no_hot is)
  where
    no_hot : vacant ≡ hot found → ⊥
    no_hot is' = cc
keys-set of (vacant ∷ places) (suc k) found new is same = keys-set of places k found new is same
keys-set of (hot first ∷ places) zero found new is same =
    ap (λ image. image ∷ map of (hot_records places)) (same ∙ ap of (sym (one is)))
  where
    one : hot first ≡ hot found → first ≡ found
    one is' = cc
keys-set {A} of (hot first ∷ places) (suc k) found new is same = ap (λ (rest : List A). of first ∷ rest) (keys-set of places k found new is same)

pub records-set : (P : HotRecord → Type 0) (places : List Content) (k : ℕ) (new : HotRecord) → P new → AllByRecursion P (hot_records places)
    → AllByRecursion P (hot_records (set places k (hot new)))
records-set P [] k new one all = all
records-set P (cold shard ∷ places) zero new one all = (one, all)
records-set P (cold shard ∷ places) (suc k) new one all = records-set P places k new one all
records-set P (vacant ∷ places) zero new one all = (one, all)
records-set P (vacant ∷ places) (suc k) new one all = records-set P places k new one all
records-set P (hot first ∷ places) zero new one all = (one, all.1)
records-set P (hot first ∷ places) (suc k) new one all = (all.0, records-set P places k new one all.1)

pub all-set : {A : Type 0} (P : A → Type 0) (xs : List A) (i : ℕ) (x : A) → P x → AllByRecursion P xs → AllByRecursion P (set xs i x)
all-set P [] i x one all = tt
all-set P (y ∷ xs) zero x one all = (one, all.1)
all-set P (y ∷ xs) (suc i) x one all = (all.0, all-set P xs i x one all.1)

-- what is at a place is a hot record or nothing
pub place_there : (places : List Content) (k : ℕ) → AllByRecursion IsHotPlace places → IsHotPlace (get_or places k vacant)
place_there [] k all = tt
place_there (content ∷ places) zero all = all.0
place_there (content ∷ places) (suc k) all = place_there places k all.1

-- the key of a hot record is found
pub key_found : (places : List Content) (found : HotRecord) → IsOne (hot_records places) found → list_any (is_hot_at found.key) places ≡ true
key_found [] found is = absurd is
key_found (cold shard ∷ places) found is = key_found places found is
key_found (vacant ∷ places) found is = key_found places found is
key_found (hot first ∷ places) found (inl same) =
    ap (λ (b : Bool). b || list_any (is_hot_at found.key) places) (eq-eqb first.key found.key (ap (λ (r : HotRecord). r.key) (sym same)))
key_found (hot first ∷ places) found (inr is) = go (first.key == found.key) (key_found places found is)
  where
    go : (b : Bool) → list_any (is_hot_at found.key) places ≡ true → (b || list_any (is_hot_at found.key) places) ≡ true
    go true rest = refl
    go false rest = rest

-- ---- what waits at seats

pub waits-hot : (places : List Content) → AllByRecursion IsHotPlace places → waiting_at places ≡ map pending_hot (hot_records places)
waits-hot [] all = refl
waits-hot (cold shard ∷ places) all = absurd all.0
waits-hot (hot found ∷ places) all = ap (λ (xs : List Element). pending_hot found ∷ xs) (waits-hot places all.1)
waits-hot (vacant ∷ places) all = waits-hot places all.1

all-left : {A : Type 0} (P : A → Type 0) (xs ys : List A) → AllByRecursion P (xs ++ ys) → AllByRecursion P xs × AllByRecursion P ys
all-left P [] ys all = (tt, all)
all-left P (x ∷ xs) ys all = let rest = all-left P xs ys all.1 in ((all.0, rest.0), rest.1)

all-join : {A : Type 0} (P : A → Type 0) (xs ys : List A) → AllByRecursion P xs → AllByRecursion P ys → AllByRecursion P (xs ++ ys)
all-join P [] ys first second = second
all-join P (x ∷ xs) ys first second = (first.0, all-join P xs ys first.1 second)

-- what holds of all that waits holds of what waits at one seat, and the other way round where that changes
pub waits_there : (P : Element → Type 0) (seats : List Content) (seat : ℕ) → AllByRecursion P (waiting_at seats)
    → AllByRecursion P (waiting (pending (get_or seats seat vacant)))
waits_there P [] seat all = tt
waits_there P (content ∷ seats) zero all = (all-left P (waiting (pending content)) (waiting_at seats) all).0
waits_there P (content ∷ seats) (suc seat) all =
    waits_there P seats seat (all-left P (waiting (pending content)) (waiting_at seats) all).1

pub waits-set : (P : Element → Type 0) (seats : List Content) (seat : ℕ) (new : Content) → AllByRecursion P (waiting (pending new))
    → AllByRecursion P (waiting_at seats) → AllByRecursion P (waiting_at (set seats seat new))
waits-set P [] seat new one all = tt
waits-set P (content ∷ seats) zero new one all =
    all-join P (waiting (pending new)) (waiting_at seats) one (all-left P (waiting (pending content)) (waiting_at seats) all).1
waits-set P (content ∷ seats) (suc seat) new one all =
    let parts = all-left P (waiting (pending content)) (waiting_at seats) all in
    all-join P (waiting (pending content)) (waiting_at (set seats seat new)) parts.0 (waits-set P seats seat new one parts.1)

-- ---- behind a move

length-replaced : (key : ℕ) (now : Content) (places : List Content) → length (replaced key now places) ≡ length places
length-replaced key now [] = refl
length-replaced key now (content ∷ places) = ap (λ (n : ℕ). suc n) (length-replaced key now places)

hot-replaced : (key : ℕ) (now : Content) (places : List Content) → IsHotPlace now → AllByRecursion IsHotPlace places → AllByRecursion IsHotPlace (replaced key now places)
hot-replaced key now [] one all = tt
hot-replaced key now (content ∷ places) one all = (go (is_hot_at key content), hot-replaced key now places one all.1)
  where
    go : (b : Bool) → IsHotPlace (if b then now else content)
    go true = one
    go false = all.0

length-placed : (new : HotRecord) (places : List Content) → length (placed new places) ≡ length places
length-placed new [] = refl
length-placed new (cold shard ∷ places) = ap (λ (n : ℕ). suc n) (length-placed new places)
length-placed new (hot found ∷ places) = ap (λ (n : ℕ). suc n) (length-placed new places)
length-placed new (vacant ∷ places) = refl

hot-placed : (new : HotRecord) (places : List Content) → AllByRecursion IsHotPlace places → AllByRecursion IsHotPlace (placed new places)
hot-placed new [] all = tt
hot-placed new (cold shard ∷ places) all = absurd all.0
hot-placed new (hot found ∷ places) all = (tt, hot-placed new places all.1)
hot-placed new (vacant ∷ places) all = (tt, all.1)

length-renewed : (worker : ℕ) (clock : Reading) (places : List Content) (records : List HotRecord) → length (renewed_places worker clock places records) ≡ length places
length-renewed worker clock places [] = refl
length-renewed worker clock places (found ∷ more) =
    length-renewed worker (renewing clock found.stamp) _ more ∙ length-replaced found.key (hot (renewed_record worker clock found)) places

hot-renewed : (worker : ℕ) (clock : Reading) (places : List Content) (records : List HotRecord) → AllByRecursion IsHotPlace places
    → AllByRecursion IsHotPlace (renewed_places worker clock places records)
hot-renewed worker clock places [] all = all
hot-renewed worker clock places (found ∷ more) all =
    hot-renewed worker (renewing clock found.stamp) _ more (hot-replaced found.key (hot (renewed_record worker clock found)) places tt all)

module _ (digest : Digest) (worker : ℕ) where
  length-done : (stage : Stage) (transfer : Transfer) (links : List Link) → length (done_by digest worker stage transfer links).places ≡ length stage.places
  length-done stage (demotes found) links = length-replaced found.key vacant stage.places
  length-done stage (promotes key) links = length-placed (promoted_record worker stage key links) stage.places

  hot-done : (stage : Stage) (transfer : Transfer) (links : List Link) → AllByRecursion IsHotPlace stage.places
      → AllByRecursion IsHotPlace (done_by digest worker stage transfer links).places
  hot-done stage (demotes found) links all = hot-replaced found.key vacant stage.places tt all
  hot-done stage (promotes key) links all = hot-placed (promoted_record worker stage key links) stage.places all

  length-each : (stage : Stage) (descents : List Descent) → length (done_by_each digest worker stage descents).places ≡ length stage.places
  length-each stage [] = refl
  length-each stage (descent ∷ descents) = length-each (done_by digest worker stage descent.transfer descent.links) descents ∙ length-done stage descent.transfer descent.links

  hot-each : (stage : Stage) (descents : List Descent) → AllByRecursion IsHotPlace stage.places
      → AllByRecursion IsHotPlace (done_by_each digest worker stage descents).places
  hot-each stage [] all = all
  hot-each stage (descent ∷ descents) all = hot-each (done_by digest worker stage descent.transfer descent.links) descents (hot-done stage descent.transfer descent.links all)

  -- the hot places of a stage are as many behind its move
  pub length-moved : (stage : Stage) (descents : List Descent) → length (done_by_each digest worker (begun worker stage) descents).places ≡ length stage.places
  length-moved stage descents = length-each (begun worker stage) descents ∙ length-renewed worker stage.clock stage.places (touched_in stage.places)

  -- and none has a shard
  pub hot-moved : (stage : Stage) (descents : List Descent) → AllByRecursion IsHotPlace stage.places
      → AllByRecursion IsHotPlace (done_by_each digest worker (begun worker stage) descents).places
  hot-moved stage descents all = hot-each (begun worker stage) descents (hot-renewed worker stage.clock stage.places (touched_in stage.places) all)
