-- A place that is scanned has a shard, or nothing as at the making.
use Rattle.std.proofs.Common.{◌≡◌, ◌≢◌, ◌⊎◌, ℕ, ◌%◌, List, [], ◌∷◌, Option, Some, None, refl, sym, ◌∙◌, ap, subst, inl, inr, ⊎_elim}
use Rattle.std.proofs.lemmas.Option.{none-some, same_Some}
use Rattle.lamport_clocks.specs.Reading.{Reading}
use Rattle.record_text.specs.declared.element.Element.{Element}
use Rattle.record_text.specs.declared.request.Request.{Request}
use Rattle.record_text.specs.Longest.{longest_blob}
use Rattle.record_text.specs.Value.{IsOf}
use Rattle.merkle_records.specs.Merkle.{GivesDigests}
use Rattle.host_shard.specs.declared.content.Content as code
use Rattle.host_shard.specs.declared.content.Content.TheVariants.{Cold, Hot, Vacant}
use Rattle.host_shard.specs.Content.{Content, cold, hot, vacant, pending}
use Rattle.host_shard.specs.Mirrors.{IsShard}
use Rattle.host_shard.specs.Shown.{shown_content}
use Rattle.host_shard.proofs.ChainLaws.{frontier_kind}
use Rattle.host_plan.specs.Plan.{Owns, clock_after}
use Rattle.host_plan.specs.Visit.{between}
use Rattle.host_epochs.specs.declared.told.Entry.{Entry}
use Rattle.host_epochs.specs.Scan.{IsStale, scan_commands, scanned}
use Rattle.host_epochs.specs.Terms.{Terms, first_at}
use Rattle.host_epochs.specs.Told.{IsWork, Leads}
use Rattle.host_epochs.proofs.HistoryLaws.{leads_owns}
use Rattle.round_workers.specs.Sharing.{IsColdAt}

-- ---- what stays of a content

-- no hot record
abbrev IsNotHot : Content → Type 0
IsNotHot (cold shard) = Unit {0}
IsNotHot (hot record') = ⊥
IsNotHot vacant = Unit {0}

-- a shard as each is, if it is one
abbrev IsWhole : Content → Type 0
IsWhole (cold shard) = IsShard longest_blob shard
IsWhole (hot record') = Unit {0}
IsWhole vacant = Unit {0}

-- something, where there was something, and nothing hot where there was nothing hot
record StaysAs (before after : Content) : Type 0 where
  pub cold_still : IsNotHot before → IsNotHot after
  pub some_still : after ≡ vacant → before ≡ vacant

no_vacant_cold : {shard : _} → cold shard ≡ vacant → ⊥
no_vacant_cold same = cc

no_vacant_hot : {kept : _} → hot kept ≡ vacant → ⊥
no_vacant_hot same = cc

work_stays : (terms : Terms) (entry : Entry) (request : Option Request) → IsWork terms entry request → StaysAs (shown_content entry.before) (shown_content entry.after)
work_stays terms entry None work = go (shown_content entry.before) (shown_content entry.after) work.content
  where
    go : (before after : Content) → after ≡ scanned entry.worker before entry.clock → StaysAs before after
    go (cold shard) after is = record { cold_still = λ _. subst IsNotHot (sym is) tt; some_still = λ none'. absurd (no_vacant_cold (sym is ∙ none')) }
    go (hot kept) after is = record { cold_still = λ hot'. absurd hot'; some_still = λ none'. absurd (no_vacant_hot (sym is ∙ none')) }
    go vacant after is = record { cold_still = λ _. subst IsNotHot (sym is) tt; some_still = λ _. refl }
work_stays terms entry (Some request) work = go (shown_content entry.before) (shown_content entry.after) work.plan.content
  where
    go : (before after : Content)
        → after ≡ Rattle.host_plan.specs.Plan.content_after terms.absent terms.digest entry.worker before work.plan.links request entry.clock → StaysAs before after
    go (cold shard) after is = record { cold_still = λ _. subst IsNotHot (sym is) tt; some_still = λ none'. absurd (no_vacant_cold (sym is ∙ none')) }
    go (hot kept) after is = record { cold_still = λ hot'. absurd hot'; some_still = λ none'. absurd (no_vacant_hot (sym is ∙ none')) }
    go vacant after is = record { cold_still = λ _. subst IsNotHot (sym is) tt; some_still = λ _. refl }

leads_stays : (terms : Terms) (place : ℕ) (x : code.Content) (past : List Entry) (y : code.Content) → Leads terms place x past y → StaysAs (shown_content x) (shown_content y)
leads_stays terms place x [] y leads = record { cold_still = subst IsNotHot (sym leads); some_still = λ none'. sym leads ∙ none' }
leads_stays terms place x (entry ∷ past) y leads =
    let rest = leads_stays terms place entry.after past y leads.3 in
    let here = work_stays terms entry entry.request leads.2.asked.work in
    record {
      cold_still = λ is. rest.cold_still (here.cold_still (subst IsNotHot (sym leads.1) is));
      some_still = λ none'. sym leads.1 ∙ here.some_still (rest.some_still none');
    }

-- ---- a whole shard

scan_whole : (worker : ℕ) (before after : Content) (clock : Reading) → after ≡ scanned worker before clock → IsWhole before → IsWhole after
scan_whole worker (cold shard) after clock is whole =
    subst IsWhole (sym is) (record { below_root = whole.below_root; no_data = whole.no_data; kinds = whole.kinds })
scan_whole worker (hot kept) after clock is whole = subst IsWhole (sym is) tt
scan_whole worker vacant after clock is whole = subst IsWhole (sym is) tt

-- either a request was served there, whose key the place owned at the making, or all that was done there are scans
served_or_scanned : (terms : Terms) (place : ℕ) (x : code.Content) (past : List Entry) (y : code.Content) → Leads terms place x past y
    → ((key : ℕ) × Owns longest_blob (shown_content (first_at terms place)) key) ⊎ (IsWhole (shown_content x) → IsWhole (shown_content y))
served_or_scanned terms place x [] y leads = inr (subst IsWhole (sym leads))
served_or_scanned terms place x (entry ∷ past) y leads = go entry.request leads.2.asked.work (served_or_scanned terms place entry.after past y leads.3)
  where
    IsOwned : Type 0
    IsOwned = (key : ℕ) × Owns longest_blob (shown_content (first_at terms place)) key

    go : (request : Option Request) → IsWork terms entry request → IsOwned ⊎ (IsWhole (shown_content entry.after) → IsWhole (shown_content y))
        → IsOwned ⊎ (IsWhole (shown_content x) → IsWhole (shown_content y))
    go (Some request) work rest =
        inl (request.key, subst (λ (at : ℕ). Owns longest_blob (shown_content (first_at terms at)) request.key) leads.0 work.at.owns)
    go None work (inl own) = inl own
    go None work (inr stays) =
        inr (λ (whole : IsWhole (shown_content x)). stays (scan_whole entry.worker (shown_content entry.before) (shown_content entry.after) entry.clock work.content
        (subst IsWhole (sym leads.1) whole)))

owned_whole : (content : Content) (key : ℕ) → Owns longest_blob content key → IsWhole content
owned_whole (cold shard) key owns = owns.0
owned_whole (hot kept) key owns = tt
owned_whole vacant key owns = tt

leads_whole : (terms : Terms) → GivesDigests terms.digest → (place : ℕ) (past : List Entry) (y : code.Content) → Leads terms place (first_at terms place) past y
    → IsWhole (shown_content (first_at terms place)) → IsWhole (shown_content y)
leads_whole terms digests place past y leads whole = ⊎_elim
    (λ (own : (key : ℕ) × Owns longest_blob (shown_content (first_at terms place)) key).
    owned_whole (shown_content y) own.0 (leads_owns terms digests place past y leads own.0 own.1))
    (λ (stays : IsWhole (shown_content (first_at terms place)) → IsWhole (shown_content y)). stays whole)
    (served_or_scanned terms place (first_at terms place) past y leads)

cold_not_hot : (place : ℕ) (content : Content) → IsColdAt place content → IsNotHot content
cold_not_hot place (cold shard) is = tt
cold_not_hot place (hot kept) is = is
cold_not_hot place vacant is = tt

cold_whole : (place : ℕ) (content : Content) → IsColdAt place content → IsWhole content
cold_whole place (cold shard) is = is.1
cold_whole place (hot kept) is = tt
cold_whole place vacant is = tt

-- ---- what a scan needs

-- the element that waits is of its path's kind
pub element_kind : (terms : Terms) → GivesDigests terms.digest → (place : ℕ) (past : List Entry) (y : code.Content) (element : Element)
    → Leads terms place (first_at terms place) past y → IsColdAt place (shown_content (first_at terms place)) → pending (shown_content y) ≡ Some element
    → IsOf longest_blob element.path element.value
element_kind terms digests place past y element leads is waits =
    go (shown_content y) waits ((leads_stays terms place (first_at terms place) past y leads).cold_still (cold_not_hot place _ is))
    (leads_whole terms digests place past y leads (cold_whole place _ is))
  where
    go : (content : Content) → pending content ≡ Some element → IsNotHot content → IsWhole content → IsOf longest_blob element.path element.value
    go (cold shard) found cold' whole =
        subst (λ (e : Element). IsOf longest_blob e.path e.value) (same_Some _ element found) (frontier_kind longest_blob shard whole.kinds)
    go (hot kept) found cold' whole = absurd cold'
    go vacant found cold' whole = absurd (none-some element found)

shown_vacant : (content : code.Content) → shown_content content ≡ vacant → content ≡ Vacant
shown_vacant (Cold shard) same = absurd (no_vacant_cold same)
shown_vacant (Hot kept) same = absurd (no_vacant_hot same)
shown_vacant Vacant same = refl

-- where there is nothing now, there was nothing at the making
pub vacant_first : (terms : Terms) (place : ℕ) (past : List Entry) (y : code.Content) → Leads terms place (first_at terms place) past y → shown_content y ≡ vacant
    → first_at terms place ≡ Vacant
vacant_first terms place past y leads none' = shown_vacant (first_at terms place) ((leads_stays terms place (first_at terms place) past y leads).some_still none')

-- nor is there anything at the other places of a shard
pub cold_vacant : (place : ℕ) (content : code.Content) → IsColdAt place (shown_content content) → (place % 5 ≡ 0 → ⊥) → content ≡ Vacant
cold_vacant place (Cold shard) is beside = absurd (beside is.0)
cold_vacant place (Hot kept) is beside = absurd is
cold_vacant place Vacant is beside = refl

-- the commands of a scan are those round the element that waits
pub scan_between : (content : Content) (clock : Reading) (element : Element) → pending content ≡ Some element
    → scan_commands content clock ≡ between element (clock_after content clock).at []
scan_between (cold shard) clock element waits = ap (λ (e : Element). between e (clock_after (cold shard) clock).at []) (same_Some _ element waits)
scan_between (hot kept) clock element waits = ap (λ (e : Element). between e (clock_after (hot kept) clock).at []) (same_Some _ element waits)
scan_between vacant clock element waits = absurd (none-some element waits)

-- a content that is stale is something
pub stale_some : (epoch : ℕ) (content : Content) → IsStale epoch content → content ≢ vacant
stale_some epoch (cold shard) stale same = no_vacant_cold same
stale_some epoch (hot kept) stale same = no_vacant_hot same
stale_some epoch vacant stale same = stale
