-- What the shipped host serves is a plan.
use Rattle.std.proofs.Common.{◌≡◌, ℕ, Bool, true, false, List, nat_lt, Option, Some, None, is_some, if◌then◌else◌, refl, sym, ◌∙◌, ap, subst}
use Rattle.std.proofs.lemmas.Bool.{false≢true, lt-ltb}
use Rattle.std.proofs.lemmas.Option.{same_Some}
use Rattle.tree_keys.specs.Path.{IsData}
use Rattle.tree_keys.proofs.TreeLaws.{data-no_node}
use Rattle.lamport_clocks.specs.Reading.{Reading}
use Rattle.record_text.specs.declared.request.Request.{Request}
use Rattle.record_text.specs.declared.value.Value.{Value}
use Rattle.record_text.specs.declared.value.Value.TheVariants as values
use Rattle.record_text.specs.Value.{IsOf}
use Rattle.merkle_records.specs.Merkle.{Digest}
use Rattle.host_core.specs.Host.{Done}
use Rattle.host_shard.specs.Chain.{last_value}
use Rattle.host_shard.specs.Content.{Content, cold, hot, vacant}
use Rattle.host_shard.specs.Shard.{key_path_in, Shard, tree_of}
use Rattle.host_shard.specs.declared.link.Link.{Link}
use Rattle.host_shard.proofs.ChainLaws.{frontier_kind, last_kind}
use Rattle.host_plan.specs.Plan.{Owns, AreLinks, clock_after, value_found}
use Rattle.host_plan.specs.Request.{value_after, value_before, is_missed}
use Rattle.shipped_host.specs.Links.{links_of}
use Rattle.shipped_host.specs.Planned.{IsPlanned}
use Rattle.shipped_host.specs.ShippedHost.{serve_at}
use Rattle.shipped_host.proofs.LinkLaws.{shard_links_are}
use Rattle.shipped_host.proofs.ServeLaws.{done_along}

-- the data behind a request
answer_of : (longest : ℕ) (request : Request) (found : Value) (path : List Bool) → IsData path → IsOf longest path found
    → (answer : Option (List ℕ)) × (values.Blob answer ≡ value_after request found)
answer_of longest request found path whole kind = go request.put found kind
  where
    go : (b : Bool) (v : Value) → IsOf longest path v → (answer : Option (List ℕ)) × (values.Blob answer ≡ (if b then values.Blob request.value else v))
    go true v kind = (request.value, refl)
    go false (values.Blob blob) kind = (blob, refl)
    go false (values.Node node) kind = absurd (data-no_node path whole kind.0)

-- the key's value before the request, whether it misses it or not
before_kind : (longest : ℕ) (shard : Shard) (key : List Bool) (links : List Link) → IsData key → IsOf longest key (last_value shard.value links)
    → (missed : Bool) → IsOf longest key (value_before shard links missed)
before_kind longest shard key links whole kind true = (whole, tt)
before_kind longest shard key links whole kind false = kind

-- the links of a content that owns a key lead to it, and to data
links_lead : (absent : Bool) (longest : ℕ) (content : Content) (request : Request) → Owns longest content request.key
    → AreLinks content request.key (links_of content request.key)
    × ((answer : Option (List ℕ)) × (values.Blob answer ≡ value_after request (value_found absent content (links_of content request.key) request)))
links_lead absent longest (cold shard) request own =
    let key = key_path_in shard request.key in
    let chain = shard_links_are longest shard key own.0 own.1 in (
      chain,
      answer_of longest request (value_before shard (links_of (cold shard) request.key) (is_missed absent shard (links_of (cold shard) request.key) request)) key own.1.whole
          (before_kind longest shard key (links_of (cold shard) request.key) own.1.whole
          (last_kind longest (tree_of shard) key shard.frontier shard.value (links_of (cold shard) request.key) own.1.whole own.0.kinds (frontier_kind longest shard own.0.kinds) chain)
          (is_missed absent shard (links_of (cold shard) request.key) request)),
    )
links_lead absent longest (hot found) request own = (refl, go request.put)
  where
    go : (b : Bool) → (answer : Option (List ℕ)) × (values.Blob answer ≡ (if b then values.Blob request.value else values.Blob found.value))
    go true = (request.value, refl)
    go false = (found.value, refl)
links_lead absent longest vacant request own = absurd own

-- What is served is planned.
pub served_is_planned : (absent : Bool) (longest : ℕ) (digest : Digest) (worker : ℕ) (clock : Reading) (content : Content) (request : Request) (done : Done Content)
    → Owns longest content request.key → serve_at absent digest worker clock content request ≡ Some done → IsPlanned absent digest worker clock content request done
served_is_planned absent longest digest worker clock content request done own served = go (nat_lt clock.end (clock_after content clock).at.counter) refl served
  where
    made : Done Content
    made = done_along absent longest digest worker clock content request (links_of content request.key)

    lead : AreLinks content request.key (links_of content request.key)
        × ((answer : Option (List ℕ)) × (values.Blob answer ≡ value_after request (value_found absent content (links_of content request.key) request)))
    lead = links_lead absent longest content request own

    go : (b : Bool) → nat_lt clock.end (clock_after content clock).at.counter ≡ b → (if b then None else Some made) ≡ Some done
        → IsPlanned absent digest worker clock content request done
    go true past is = absurd (false≢true (ap is_some is))
    go false open' is =
        subst (IsPlanned absent digest worker clock content request) (same_Some _ _ is)
        (record {
          plan = record { commands = made.commands; answer = lead.1.0 };
          is = record { links = links_of content request.key; way = lead.0; commands = refl; answer = lead.1.1; content = refl; clock = refl };
          logged = refl;
          within = λ past. false≢true (sym open' ∙ lt-ltb clock.end (clock_after content clock).at.counter past);
        })
