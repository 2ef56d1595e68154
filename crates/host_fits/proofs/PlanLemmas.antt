-- A plan is what the host does for its request.
use Rattle.std.proofs.Common.{◌≡◌, ℕ, ◌≤◌, List, Some, None, sym, ◌∙◌, ap}
use Rattle.lamport_clocks.specs.Reading.{Reading}
use Rattle.record_hash.specs.Functions.{DigestFunctions}
use Rattle.record_text.specs.declared.request.Request.{Request}
use Rattle.record_text.specs.Longest.{longest_of}
use Rattle.log_codec.specs.declared.command.Command.{Command}
use Rattle.merkle_records.specs.Merkle.{Digest}
use Rattle.script_text.specs.declared.task.Task.{Task}
use Rattle.host_shard.specs.declared.link.Link.{Link}
use Rattle.host_shard.specs.Shard.{key_path_in}
use Rattle.host_shard.specs.Content.{Content, cold, hot, vacant}
use Rattle.host_plan.specs.Plan.{CanServe, AreLinks, IsPastEnd, IsPlan, commands_of, content_after, clock_after}
use Rattle.host_plan.specs.declared.plans.Plan.{Plan}
use Rattle.host_core.specs.Host.{Done}
use Rattle.shipped_host.specs.declared.settings.Settings.{Settings}
use Rattle.shipped_host.specs.Links.{links_of}
use Rattle.shipped_host.specs.ShippedHost.{shipped_host}
use Rattle.shipped_host.proofs.LinkLaws.{shard_chain_is}
use Rattle.host_fits.proofs.Keeping.{setting_of, served_at}
use Rattle.host_fits.proofs.PlaceLemmas.{past_none, within_some}

-- the links to a key that a content serves are one list
links_are : (longest : ℕ) (digest : Digest) (content : Content) (key : ℕ) (links : List Link) → CanServe longest digest content key
    → AreLinks content key links → links ≡ links_of content key
links_are longest digest (cold shard) key links can way = shard_chain_is longest shard (key_path_in shard key) can.fits can.own links way
links_are longest digest (hot found) key links can way = way
links_are longest digest vacant key links can way = absurd can

module _ (functions : DigestFunctions) (settings : Settings) (script : List (List Task)) (worker : ℕ) where
  abbrev longest : ℕ
  longest = longest_of settings.header

  pub plan_served : (content after : Content) (request : Request) (clock later : Reading) (plan : Plan)
      → CanServe longest functions.digest content request.key
      → IsPlan settings.absent functions.digest worker content request clock plan after later
      → (clock_after content clock).at.counter ≤ clock.end
      → (shipped_host functions settings script).serve worker clock content request ≡ Some (record { commands = plan.commands; after = after; clock = later })
  plan_served content after request clock later plan can is within =
      within_some clock.end (clock_after content clock).at.counter (served_at (setting_of functions settings script) worker clock content request) within
      ∙ ap (λ (d : Done Content). Some d) same
    where
      links : is.links ≡ links_of content request.key
      links = links_are longest functions.digest content request.key is.links can is.way

      done_by : List Command → Content → Reading → Done Content
      done_by commands left reading = record { commands = commands; after = left; clock = reading }

      by_links : List Link → Done Content
      by_links ls = done_by (commands_of settings.absent content ls request clock) (content_after settings.absent functions.digest worker content ls request clock) (clock_after content clock)

      same : by_links (links_of content request.key) ≡ done_by plan.commands after later
      same =
          ap (λ (ls : List Link). by_links ls) (sym links)
          ∙ (ap (λ (cs : List Command). done_by cs (content_after settings.absent functions.digest worker content is.links request clock) (clock_after content clock)) (sym is.commands)
          ∙ (ap (λ (c : Content). done_by plan.commands c (clock_after content clock)) (sym is.content)
          ∙ ap (λ (r : Reading). done_by plan.commands after r) (sym is.clock)))

  pub plan_ended : (content : Content) (request : Request) (clock : Reading)
      → IsPastEnd content clock → (shipped_host functions settings script).serve worker clock content request ≡ None
  plan_ended content request clock past =
      past_none clock.end (clock_after content clock).at.counter (served_at (setting_of functions settings script) worker clock content request) past
