-- A plan is what the shipped host serves.
use Rattle.std.proofs.Common.{◌≡◌, ℕ, suc, Bool, true, false, List, ◌++◌, nat_lt, Some, None, is_some, if◌then◌else◌, refl, sym, ◌∙◌, ap}
use Rattle.std.proofs.lemmas.Bool.{false≢true, lt-ltb, ltb-true}
use Rattle.std.proofs.lemmas.Option.{same_Some}
use Rattle.lamport_clocks.specs.Reading.{Reading}
use Rattle.record_text.specs.declared.request.Request.{Request}
use Rattle.record_text.specs.Longest.{longest_blob}
use Rattle.log_codec.specs.declared.command.Command.{Command}
use Rattle.merkle_records.specs.Merkle.{Digest}
use Rattle.host_core.specs.Host.{Done}
use Rattle.host_core.specs.World.{Place, Worker}
use Rattle.host_core.specs.WorldEvent.{logging, having_served}
use Rattle.host_shard.specs.declared.link.Link.{Link}
use Rattle.host_shard.specs.Content.{Content, cold, hot, vacant}
use Rattle.host_shard.specs.Shard.{key_path_in}
use Rattle.host_plan.specs.declared.plans.Plan.{Plan}
use Rattle.host_plan.specs.Plan.{Owns, AreLinks, IsPastEnd, IsPlan, clock_after, commands_of, content_after}
use Rattle.shipped_host.specs.Links.{links_of}
use Rattle.shipped_host.specs.ShippedHost.{serve_at}
use Rattle.shipped_host.proofs.LinkLaws.{shard_chain_is}

-- the links of a content that owns a key are one list
pub links_are_of : (longest : ℕ) (content : Content) (key : ℕ) (links : List Link) → Owns longest content key → AreLinks content key links → links ≡ links_of content key
links_are_of longest (cold shard) key links own way = shard_chain_is longest shard (key_path_in shard key) own.0 own.1 links way
links_are_of longest (hot record') key links own way = way
links_are_of longest vacant key links own way = absurd own

-- what is done to serve a request, along these links
abbrev pub done_along : Bool → ℕ → Digest → ℕ → Reading → Content → Request → List Link → Done Content
done_along absent longest digest worker clock content request links = record {
  commands = commands_of absent content links request clock;
  after = content_after absent digest worker content links request clock;
  clock = clock_after content clock;
}

module _ (absent : Bool) (longest : ℕ) (digest : Digest) (worker : ℕ) (clock : Reading) (content : Content) (request : Request) where
  -- where the counters pass their end
  pub serve_past : IsPastEnd content clock → serve_at absent digest worker clock content request ≡ None
  serve_past past =
      ap (λ (b : Bool). if b then None else Some (done_along absent longest digest worker clock content request (links_of content request.key)))
      (lt-ltb clock.end (clock_after content clock).at.counter past)

  -- where they don't
  pub serve_within : (IsPastEnd content clock → ⊥) → serve_at absent digest worker clock content request ≡ Some (done_along absent longest digest worker clock content request (links_of content request.key))
  serve_within within = go (nat_lt clock.end (clock_after content clock).at.counter) refl
    where
      go : (b : Bool) → nat_lt clock.end (clock_after content clock).at.counter ≡ b
          → (if b then None else Some (done_along absent longest digest worker clock content request (links_of content request.key)))
          ≡ Some (done_along absent longest digest worker clock content request (links_of content request.key))
      go true past = absurd (within (ltb-true clock.end (clock_after content clock).at.counter past))
      go false is = refl

  -- A plan is what is done.
  pub plan_is_served : (plan : Plan) (after : Content) (later : Reading) → Owns longest content request.key → (IsPastEnd content clock → ⊥)
      → IsPlan absent digest worker content request clock plan after later
      → serve_at absent digest worker clock content request ≡ Some (record { commands = plan.commands; after = after; clock = later })
  plan_is_served plan after later own within is =
      serve_within within
      ∙ ap (λ (links : List Link). Some (done_along absent longest digest worker clock content request links)) (sym (links_are_of longest content request.key is.links own is.way))
      ∙ ap (λ (commands : List Command). Some (record { commands = commands; after = content_after absent digest worker content is.links request clock; clock = clock_after content clock })) (sym is.commands)
      ∙ ap (λ (c : Content). Some (record { commands = plan.commands; after = c; clock = clock_after content clock })) (sym is.content)
      ∙ ap (λ (r : Reading). Some (record { commands = plan.commands; after = after; clock = r })) (sym is.clock)

-- what was done to serve a request, where it was
pub done_is : (absent : Bool) (digest : Digest) (i : ℕ) (clock : Reading) (content : Content) (request : Request) (done : Done Content)
    → serve_at absent digest i clock content request ≡ Some done
    → done ≡ done_along absent longest_blob digest i clock content request (links_of content request.key)
done_is absent digest i clock content request done is = go (nat_lt clock.end (clock_after content clock).at.counter) is
  where
    go : (b : Bool) → (if b then None else Some (done_along absent longest_blob digest i clock content request (links_of content request.key))) ≡ Some done
        → done ≡ done_along absent longest_blob digest i clock content request (links_of content request.key)
    go true is = absurd (false≢true (ap is_some is))
    go false is = sym (same_Some _ _ is)
