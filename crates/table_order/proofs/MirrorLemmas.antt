-- What a history makes of a content that mirrors, mirrors and is stamped in an epoch that may be entered.
use Rattle.std.proofs.Common.{◌≡◌, ◌⊎◌, ℕ, zero, suc, ◌+◌, ◌*◌, ◌/◌, ◌^◌, ◌<◌, ◌≤◌, Bool, List, [], ◌∷◌, length, map, take, drop, get_or, Option, Some, None, inl, inr, refl, sym, ◌∙◌, ap, subst, arith}
use Rattle.std.proofs.lemmas.Bool.{cases_lt}
use Rattle.std.proofs.lemmas.List.{get_or-drop, get_or-take, get_or_past, length-take}
use Rattle.std.proofs.lemmas.Option.{same_Some}
use Rattle.tree_keys.specs.Path.{key_bits, key_path}
use Rattle.tree_keys.proofs.TreeLaws.{key_path-injective}
use Rattle.lamport_clocks.specs.Reading.{Reading}
use Rattle.lamport_clocks.specs.declared.stamp.Stamp.{Stamp}
use Rattle.record_text.specs.declared.element.Element.{Element}
use Rattle.record_text.specs.declared.request.Request.{Request}
use Rattle.record_text.specs.Tree.{wide_of}
use Rattle.record_text.specs.Longest.{longest_blob, longest_of}
use Rattle.host_shard.specs.declared.content.Content as code
use Rattle.host_shard.specs.declared.content.Content.TheVariants.{Cold, Hot, Vacant}
use Rattle.host_shard.specs.declared.content.HotRecord.{HotRecord}
use Rattle.host_shard.specs.Content.{hot_path, Content, hot}
use Rattle.host_shard.specs.Shown.{shown, shown_content}
use Rattle.host_shard.specs.Shard.{key_path_in, wide_in}
use Rattle.host_plan.specs.Plan.{clock_after}
use Rattle.host_laws.specs.Mirroring.{ContentMirrors, IsCold}
use Rattle.host_laws.proofs.MirrorLaws.{plan_mirrors}
use Rattle.protection_moves.specs.Stage.{hot_records}
use Rattle.move_laws.specs.Stages.{IsOne}
use Rattle.move_laws.proofs.VacantLaws.{among-member, member-one}
use Rattle.host_epochs.specs.declared.told.Entry.{Entry}
use Rattle.host_epochs.specs.Terms.{Terms, place_count, first_at, places_each, IsClockOf, IsPlaceOf}
use Rattle.host_epochs.specs.Told as told
use Rattle.host_epochs.proofs.WorkLaws.{later_is}
use Rattle.host_table.specs.Terms as phase
use Rattle.host_table.specs.Terms.{phase_of}
use Rattle.table_order.specs.Mirroring.{hot_keys_at, shard_at_making, IsOfTree, MirrorsAtMaking}
use Rattle.table_order.specs.RoundMirroring.{IsAskInRange, AreAsksInRange, IsStampIn, IsStampedIn, MirrorsIn}
use Rattle.table_order.proofs.PastLemmas.{IsStill, still, owns_still, cold_still, still_after}
use Rattle.table_order.proofs.RoundPastLemmas.{not_less, still_scanned, scanned_mirrors}
use Rattle.table_order.proofs.EvictLemmas.{IsEvictOf, entry_evict}

-- ---- hot keys

-- one of the hot records stands at some place
hot_in : (contents : List code.Content) (found : HotRecord) → IsOne (hot_records (map shown_content contents)) found
    → (k : ℕ) × (k < length contents) × (get_or contents k Vacant ≡ Hot found)
hot_in [] found is = absurd is
hot_in (Cold shard ∷ contents) found is = let rest = hot_in contents found is in (suc rest.0, omega (arith, rest.1), rest.2)
hot_in (Hot first ∷ contents) found (inl same) = (zero, omega arith, ap Hot (sym same))
hot_in (Hot first ∷ contents) found (inr is) = let rest = hot_in contents found is in (suc rest.0, omega (arith, rest.1), rest.2)
hot_in (Vacant ∷ contents) found is = let rest = hot_in contents found is in (suc rest.0, omega (arith, rest.1), rest.2)

-- of those of a place's shard
hot_of_shard : (terms : phase.Terms) (place : ℕ) (found : HotRecord) → IsOne (hot_records (shard_at_making terms place)) found
    → (other : ℕ) × (other / places_each ≡ place / places_each) × (phase.first_at terms other ≡ Hot found)
hot_of_shard terms place found is = (start + here.0, omega (arith, few), there)
  where
    start : ℕ
    start = place / 5 * 5

    here : (k : ℕ) × (k < length (take 5 (drop start terms.contents))) × (get_or (take 5 (drop start terms.contents)) k Vacant ≡ Hot found)
    here = hot_in (take 5 (drop start terms.contents)) found is

    few : here.0 < 5
    few = omega (arith, here.1, length-take 5 (drop start terms.contents))

    there : get_or terms.contents (start + here.0) Vacant ≡ Hot found
    there = sym (get_or-drop start terms.contents here.0 Vacant) ∙ sym (get_or-take 5 (drop start terms.contents) here.0 Vacant few) ∙ here.2

-- a hot record at the path of a key of its tree has that key
same_key : (wide in_shard : Bool) (key : ℕ) (found : HotRecord) → in_shard ≡ wide → key < 2 ^ key_bits wide → IsOfTree wide (hot found)
    → key_path in_shard key ≡ hot_path found → key ≡ found.key
same_key wide in_shard key found is small of_tree same =
    key_path-injective wide key found.key small of_tree.1
    (sym (ap (λ (tree : Bool). key_path tree key) is) ∙ (same ∙ ap (λ (tree : Bool). key_path tree found.key) of_tree.0))

no_hot : (shard : _) (found : HotRecord) → Cold shard ≡ Hot found → ⊥
no_hot shard found is = cc

-- a key that a place serves is none of its shard's hot keys, where it has the shard
cold_at : (terms : phase.Terms) (place key : ℕ) → MirrorsAtMaking terms → key < 2 ^ key_bits (wide_of terms.header) → phase.IsPlaceOf terms place key
    → IsCold (hot_keys_at terms place) (shown_content (phase.first_at terms place)) key
cold_at terms place key made small at = go (phase.first_at terms place) refl
  where
    no_vacant : (found : HotRecord) → Vacant ≡ Hot found → ⊥
    no_vacant found is = cc

    hot_tree : (other : ℕ) (found : HotRecord) → phase.first_at terms other ≡ Hot found → IsOfTree (wide_of terms.header) (hot found)
    hot_tree other found is = within (cases_lt other (phase.place_count terms))
      where
        within : (other < phase.place_count terms) ⊎ (phase.place_count terms ≤ other) → IsOfTree (wide_of terms.header) (hot found)
        within (inl there) = subst (λ (c : code.Content). IsOfTree (wide_of terms.header) (shown_content c)) is (made.of_tree other there)
        within (inr past) = absurd (no_vacant found (sym (get_or_past terms.contents other Vacant past) ∙ is))

    go : (content : code.Content) → phase.first_at terms place ≡ content → IsCold (hot_keys_at terms place) (shown_content content) key
    go (Cold shard) is = λ among.
        let path = key_path_in (shown shard) key in
        let found = member-one hot_path (hot_records (shard_at_making terms place)) path (among-member (hot_keys_at terms place) path among) in
        let other = hot_of_shard terms place found.0 found.1 in
        let tree = subst (λ (c : code.Content). IsOfTree (wide_of terms.header) (shown_content c)) is (made.of_tree place at.there) in
        let same = same_key (wide_of terms.header) (wide_in (shown shard)) key found.0 tree small (hot_tree other.0 found.0 other.2) found.2 in
        let here : other.0 ≡ place = at.cold other.0 found.0 other.1 other.2 (sym same) in
        no_hot shard found.0 (sym is ∙ ap (phase.first_at terms) (sym here) ∙ other.2)
    go (Hot found) is = tt
    go Vacant is = tt

-- ---- stamps

-- an element by a verifier of the bundle, of the clock's epoch and with its last counter
element_stamped : (terms : Terms) (worker : ℕ) (before last : Reading) (element : Element) → worker < terms.header.verifiers → IsClockOf terms before
    → last.at.epoch ≡ before.at.epoch → last.at.counter ≤ before.end → element.stamp ≡ last.at → element.verifier ≡ worker → IsStampIn terms element.stamp element.verifier
element_stamped terms worker before last element known clock same within at own =
    subst (λ (e : Stamp × ℕ). IsStampIn terms e.0 e.1) (λ k. (sym at k, sym own k)) (record {
      verifier = known;
      from = let from = clock.from in omega (arith, same, from);
      to = let to = clock.to in omega (arith, same, to);
      counter = let end = clock.end in omega (arith, within, end);
    })

-- The element that an entry leaves is stamped by its worker, in its clock's epoch, with its last counter.
pub entry_stamped : (terms : Terms) (entry : Entry) → terms.workers ≤ terms.header.verifiers → told.IsAsked terms entry → IsStampedIn terms (shown_content entry.after)
entry_stamped terms entry few asked element waits =
    element_stamped terms entry.worker entry.clock entry.later element (omega (arith, asked.by, few)) asked.clock evict.in_epoch
    (subst (λ (r : Reading). r.at.counter ≤ entry.clock.end) (sym (later_is terms entry entry.request asked.work))
    (not_less entry.clock.end (clock_after (shown_content entry.before) entry.clock).at.counter asked.within))
    (ap (λ (e : Element). e.stamp) (sym same) ∙ evict.at) (ap (λ (e : Element). e.verifier) (sym same) ∙ evict.own)
  where
    evict : IsEvictOf entry.worker entry.clock.at entry.later.at (shown_content entry.after)
    evict = entry_evict terms entry entry.request asked.work

    same : evict.element ≡ element
    same = same_Some evict.element element (sym evict.waits ∙ waits)

-- ---- histories

-- each entry takes up the content that the one before it left, as it is asked
abbrev pub Follows : Terms → ℕ → code.Content → List Entry → code.Content → Type 0
Follows terms place x [] y = told.IsSame x y
Follows terms place x (entry ∷ entries) y =
    (entry.place ≡ place) × told.IsSame x entry.before × told.IsAsked terms entry × Follows terms place entry.after entries y

pub leads_follow : (terms : Terms) (place : ℕ) (x : code.Content) (entries : List Entry) (y : code.Content) → told.Leads terms place x entries y → Follows terms place x entries y
leads_follow terms place x [] y leads = leads
leads_follow terms place x (entry ∷ entries) y leads = (leads.0, leads.1, leads.2.asked, leads_follow terms place entry.after entries y leads.3)

module _ (terms : Terms) (made : MirrorsAtMaking (phase_of terms)) (place : ℕ) (there : place < place_count terms) where
  abbrev first : Content
  first = shown_content (first_at terms place)

  abbrev Mirrored : Content → Type 0
  Mirrored content = ContentMirrors (longest_of terms.header) terms.digest (hot_keys_at (phase_of terms) place) content

  -- it is still of the same shard or key, and mirrors
  abbrev IsStillMirrored : Content → Type 0
  IsStillMirrored content = IsStill first content × Mirrored content

  behind_entry : (entry : Entry) (request : Option Request) → entry.place ≡ place → told.IsWork terms entry request → IsAskInRange terms.header request
      → IsStillMirrored (shown_content entry.before) → IsStillMirrored (shown_content entry.after)
  behind_entry entry None at scan small before = (
    subst (IsStill first) (sym scan.content) (still_scanned entry.worker first (shown_content entry.before) entry.clock before.0),
    subst Mirrored (sym scan.content)
        (scanned_mirrors (longest_of terms.header) terms.digest (hot_keys_at (phase_of terms) place) entry.worker (shown_content entry.before) entry.clock before.1),
  )
  behind_entry entry (Some request) at service small before = (
    subst (IsStill first) (sym service.plan.content)
        (still_after terms.absent terms.digest entry.worker first (shown_content entry.before) service.plan.links request entry.clock before.0),
    plan_mirrors terms.absent (longest_of terms.header) terms.digest entry.worker (hot_keys_at (phase_of terms) place) (shown_content entry.before) (shown_content entry.after) request
        entry.clock entry.later entry.plan made.digests small.1 before.1
        (owns_still (longest_of terms.header) longest_blob terms.digest (hot_keys_at (phase_of terms) place) first (shown_content entry.before) request.key before.0 before.1 is_at.owns)
        (cold_still (hot_keys_at (phase_of terms) place) first (shown_content entry.before) request.key before.0 (cold_at (phase_of terms) place request.key made small.0 is_at))
        service.plan,
  )
    where
      is_at : IsPlaceOf terms place request.key
      is_at = subst (λ (n : ℕ). IsPlaceOf terms n request.key) at service.at

  led_from : (x y : code.Content) (entries : List Entry) → IsStillMirrored (shown_content x) → IsStampedIn terms (shown_content x)
      → Follows terms place x entries y → AreAsksInRange terms entries → MirrorsIn terms place y
  led_from x y [] is stamped follows small = record {
    mirrors = subst Mirrored (sym follows) is.1;
    stamped = subst (IsStampedIn terms) (sym follows) stamped;
  }
  led_from x y (entry ∷ entries) is stamped follows small =
      led_from entry.after y entries
      (behind_entry entry entry.request follows.0 follows.2.work small.0 (subst IsStillMirrored (sym follows.1) is))
      (entry_stamped terms entry made.making.few follows.2) follows.3 small.1

  -- What a place's history makes of its first content mirrors, as that does.
  pub led : (y : code.Content) (entries : List Entry) → Follows terms place (first_at terms place) entries y → AreAsksInRange terms entries → MirrorsIn terms place y
  led y entries follows small = led_from (first_at terms place) y entries (still first, made.mirrors place there) first_stamped follows small
    where
      first_stamped : IsStampedIn terms first
      first_stamped element waits =
          let is = made.making.stamped place there element waits in
          let epoch = is.epoch_is in
          record { verifier = is.verifier; from = omega (arith, epoch); to = omega (arith, epoch); counter = is.counter }
