-- What a place's history says: its place has had what it leads to, and its contents own the same keys.
use Rattle.std.proofs.Common.{◌≡◌, ℕ, Bool, true, false, List, [], ◌∷◌, sym, subst, inr, Option, Some, None, if◌then◌else◌}
use Rattle.tree_keys.specs.Path.{key_path, IsData}
use Rattle.lamport_clocks.specs.Reading.{Reading}
use Rattle.record_text.specs.declared.request.Request.{Request}
use Rattle.record_text.specs.declared.value.Value.{Value}
use Rattle.record_text.specs.declared.value.Value.TheVariants as values
use Rattle.record_text.specs.Value.{IsBlob, IsOf}
use Rattle.record_text.specs.Longest.{longest_blob}
use Rattle.merkle_records.specs.Merkle.{Digest, GivesDigests}
use Rattle.host_shard.specs.declared.content.Content as code
use Rattle.host_shard.specs.declared.link.Link.{Link}
use Rattle.host_shard.specs.Chain.{IsChain, last_value, closed_value, closed_records}
use Rattle.host_shard.specs.Shard.{key_path_in, wide_in, Shard, tree_of}
use Rattle.host_shard.specs.Content.{Content, cold, hot, vacant}
use Rattle.host_shard.specs.Mirrors.{IsShard, IsKeyOf}
use Rattle.host_shard.specs.Shown.{shown_content}
use Rattle.host_shard.proofs.ChainLaws.{frontier_kind, last_kind}
use Rattle.host_shard.proofs.ShardLaws.{rehashed_is}
use Rattle.host_plan.specs.declared.plans.Plan.{Plan}
use Rattle.host_plan.specs.Request.{is_missed, value_after, stays, served}
use Rattle.host_plan.specs.Plan.{Owns, IsPlan}
use Rattle.host_epochs.specs.declared.told.Entry.{Entry}
use Rattle.host_epochs.specs.Scan.{scanned}
use Rattle.host_epochs.specs.Terms.{Terms, first_at}
use Rattle.host_epochs.specs.Told.{IsDone, IsHad, IsWork, Leads}

pub leads_to_had : (terms : Terms) (place : ℕ) (x : code.Content) (entries : List Entry) (y : code.Content) → Leads terms place x entries y → IsHad x entries y
leads_to_had terms place x [] y leads = leads
leads_to_had terms place x (entry ∷ entries) y leads = inr (leads_to_had terms place entry.after entries y leads.3)

-- ---- the owners

-- a request leaves its key a value of its kind
after_kind : (wide : Bool) (longest : ℕ) (request : Request) (found : Value) → IsBlob longest request.value → IsData (key_path wide request.key)
    → IsOf longest (key_path wide request.key) found → IsOf longest (key_path wide request.key) (value_after request found)
after_kind wide longest request found fits whole kind = go request.put
  where
    go : (b : Bool) → IsOf longest (key_path wide request.key) (if b then values.Blob request.value else found)
    go true = (whole, fits)
    go false = kind

shard_owns : (longest : ℕ) (digest : Digest) (worker : ℕ) (shard : Shard) (request : Request) (clock : Reading) (links : List Link) (missed : Bool)
    → GivesDigests digest → IsBlob longest request.value → IsShard longest shard → IsKeyOf shard (key_path_in shard request.key)
    → IsChain (tree_of shard) (key_path_in shard request.key) shard.frontier shard.value links → IsShard longest (served digest worker shard links request clock missed)
shard_owns longest digest worker shard request clock links missed digests fits is own chain = go (stays shard request missed)
  where
    last : Value
    last = value_after request (last_value shard.value links)

    left : Bool → Shard
    left same = record (served digest worker shard links request clock missed) {
      value = if same then shard.value else closed_value digest false shard.frontier shard.value links last;
      records = if same then shard.records else closed_records digest false shard.records links last;
    }

    go : (b : Bool) → IsShard longest (left b)
    go true = record { below_root = is.below_root; no_data = is.no_data; kinds = is.kinds }
    go false =
        let rehashed = rehashed_is longest digest shard (key_path_in shard request.key) links last digests is own
        (after_kind (wide_in shard) longest request (last_value shard.value links) fits own.whole
        (last_kind longest (tree_of shard) (key_path_in shard request.key) shard.frontier shard.value links own.whole is.kinds (frontier_kind longest shard is.kinds) chain)) chain in
        record { below_root = rehashed.below_root; no_data = rehashed.no_data; kinds = rehashed.kinds }

-- what a content owned before a request it owns after it
plan_owns : (absent : Bool) (longest : ℕ) (digest : Digest) (worker : ℕ) (content after : Content) (request : Request) (clock later : Reading) (plan : Plan)
    → GivesDigests digest → IsBlob longest request.value → Owns longest content request.key → IsPlan absent digest worker content request clock plan after later
    → (key : ℕ) → Owns longest content key → Owns longest after key
plan_owns absent longest digest worker (cold shard) after request clock later plan digests fits own is key owns =
    subst (λ (c : Content). Owns longest c key) (sym is.content)
    (shard_owns longest digest worker shard request clock is.links (is_missed absent shard is.links request) digests fits own.0 own.1 is.way, record { whole = owns.1.whole; below = owns.1.below })
plan_owns absent longest digest worker (hot kept) after request clock later plan digests fits own is key owns = subst (λ (c : Content). Owns longest c key) (sym is.content) owns
plan_owns absent longest digest worker vacant after request clock later plan digests fits own is key owns = absurd owns

-- and before a scan
scan_owns : (longest worker : ℕ) (content after : Content) (clock : Reading) → after ≡ scanned worker content clock
    → (key : ℕ) → Owns longest content key → Owns longest after key
scan_owns longest worker (cold shard) after clock is key owns = subst (λ (c : Content). Owns longest c key) (sym is) (
  record { below_root = owns.0.below_root; no_data = owns.0.no_data; kinds = owns.0.kinds },
  record { whole = owns.1.whole; below = owns.1.below },
)
scan_owns longest worker (hot kept) after clock is key owns = subst (λ (c : Content). Owns longest c key) (sym is) owns
scan_owns longest worker vacant after clock is key owns = absurd owns

module _ (terms : Terms) (digests : GivesDigests terms.digest) where
  work_owns : (entry : Entry) (request : Option Request) → IsWork terms entry request
      → ((key : ℕ) → Owns longest_blob (shown_content (first_at terms entry.place)) key → Owns longest_blob (shown_content entry.before) key)
      → (key : ℕ) → Owns longest_blob (shown_content entry.before) key → Owns longest_blob (shown_content entry.after) key
  work_owns entry (Some request) work before key owns =
      plan_owns terms.absent longest_blob terms.digest entry.worker (shown_content entry.before) (shown_content entry.after) request entry.clock entry.later entry.plan
      digests work.value (before request.key work.at.owns) work.plan key owns
  work_owns entry None work before key owns = scan_owns longest_blob entry.worker (shown_content entry.before) (shown_content entry.after) entry.clock work.content key owns

  -- a content that a place has had owns the keys that the place owned at the making
  owns_from : (place : ℕ) (x : code.Content) (past : List Entry) (y : code.Content)
      → ((key : ℕ) → Owns longest_blob (shown_content (first_at terms place)) key → Owns longest_blob (shown_content x) key)
      → Leads terms place x past y → (key : ℕ) → Owns longest_blob (shown_content (first_at terms place)) key → Owns longest_blob (shown_content y) key
  owns_from place x [] y from leads key owns = subst (λ (c : Content). Owns longest_blob c key) (sym leads) (from key owns)
  owns_from place x (entry ∷ past) y from leads key owns =
      let before : (k : ℕ) → Owns longest_blob (shown_content (first_at terms place)) k → Owns longest_blob (shown_content entry.before) k =
      λ k o. subst (λ (c : Content). Owns longest_blob c k) (sym leads.1) (from k o) in
      let before_here : (k : ℕ) → Owns longest_blob (shown_content (first_at terms entry.place)) k → Owns longest_blob (shown_content entry.before) k =
      λ k o. before k (subst (λ (p : ℕ). Owns longest_blob (shown_content (first_at terms p)) k) leads.0 o) in
      owns_from place entry.after past y (λ k o. work_owns entry entry.request leads.2.asked.work before_here k (before k o)) leads.3 key owns

  pub leads_owns : (place : ℕ) (past : List Entry) (y : code.Content) → Leads terms place (first_at terms place) past y
      → (key : ℕ) → Owns longest_blob (shown_content (first_at terms place)) key → Owns longest_blob (shown_content y) key
  leads_owns place past y leads key owns = owns_from place (first_at terms place) past y (λ k o. o) leads key owns
