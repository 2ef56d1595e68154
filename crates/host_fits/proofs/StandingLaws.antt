-- Whatever happens, the shipped host's shards mirror, and what is enabled is ready.
use Rattle.std.proofs.Common.{◌≡◌, ℕ, suc, Bool, List, [], ◌∷◌, ◌++◌, length, sym, ◌∙◌, ap, subst, arith}
use Rattle.tree_keys.specs.Bits.{bits_of}
use Rattle.tree_keys.specs.Path.{IsIn, key_of, root_of}
use Rattle.tree_keys.proofs.BitsLaws.{bits_of-number_of}
use Rattle.lamport_clocks.specs.Reading.{Reading}
use Rattle.record_hash.specs.Functions.{DigestFunctions}
use Rattle.record_text.specs.declared.request.Request.{Request}
use Rattle.record_text.specs.Tree.{wide_of}
use Rattle.script_text.specs.declared.task.Task.{Task}
use Rattle.host_shard.specs.Content.{Content}
use Rattle.host_core.specs.World.{World, set_up}
use Rattle.host_core.specs.WorldEvent.{WorldEvent, takes, loses, serves, gives, advances, moves, opens, raises, enters, scans, finishes, stops, IsEnabled, AreEnabled, run_events}
use Rattle.host_core.specs.Deeds.{IsClock, IsReady, IsReadyAt}
use Rattle.host_core.specs.Core.{IsReadyToMove, IsReadyFor, IsStanding}
use Rattle.host_core.proofs.StandingLaws.{always_standing}
use Rattle.shipped_host.specs.declared.settings.Settings.{Settings}
use Rattle.shipped_host.specs.Seated.{wide_among}
use Rattle.shipped_host.specs.Settings.{frontier_bits}
use Rattle.shipped_host.specs.ShippedHost.{shipped_host}
use Rattle.shipped_host.proofs.SeatLaws.{tree_is}
use Rattle.host_fits.specs.Mirroring as Mirroring
use Rattle.host_fits.specs.Promise.{CanRun}
use Rattle.host_fits.proofs.Keeping.{Setting, setting_of, host_in, ranged, PlacesMirror}
use Rattle.host_fits.proofs.PlaceLemmas.{shard_tree}
use Rattle.host_fits.proofs.SettingLemmas.{is_setting}
use Rattle.host_fits.proofs.RangeLemmas.{enabled, are_enabled, run_same}
use Rattle.host_fits.proofs.PromiseLaws.{is_fit}

-- what stands where no seat owns a key out of range, stands
module _ (setting : Setting) (can : CanRun setting.functions setting.settings setting.script) (world : World Content)
    (stands : IsStanding (PlacesMirror setting) (ranged setting) world) where
  clock : (reading : Reading) → IsClock (ranged setting) reading → IsClock (host_in setting) reading
  clock reading is = record { first = is.first; end = is.end; reading = is.reading }

  to_move : (i s : ℕ) → IsReadyToMove (PlacesMirror setting) (ranged setting) world i s → IsReadyToMove (PlacesMirror setting) (host_in setting) world i s
  to_move i s is = record {
    epoch = is.epoch;
    ready = record { known = is.ready.known; is_clock = clock _ is.ready.is_clock; mirrored = is.ready.mirrored; stamped = is.ready.stamped };
    turned = is.turned;
  }

  ready : (event : WorldEvent Request) → IsReadyFor (PlacesMirror setting) (ranged setting) world event
      → IsReadyFor (PlacesMirror setting) (host_in setting) world event
  ready (takes i place) is = tt
  ready (loses i place) is = tt
  ready (serves i place request) is = record {
    known = is.known;
    is_clock = clock _ is.is_clock;
    mirrored = is.mirrored;
    open_epochs = is.open_epochs;
    level = is.level;
  }
  ready (gives i place) is = tt
  ready (advances i) is = tt
  ready (moves i s) is = to_move i s is
  ready opens is = tt
  ready (raises i) is = tt
  ready (enters i) is = tt
  ready (scans i place) is = to_move i place.shard is
  ready (finishes i) is = tt
  ready (stops i found) is = tt

  stands_so : IsStanding (PlacesMirror setting) (host_in setting) world
  stands_so = record {
    workers = stands.workers;
    marks = stands.marks;
    shards = stands.shards;
    clocks = λ i there. clock _ (stands.clocks i there);
    mirrored = stands.mirrored;
    ready = λ event may. ready event (stands.ready event (enabled setting can.keys world event may));
  }

pub standing : (functions : DigestFunctions) (settings : Settings) (script : List (List Task)) (events : List (WorldEvent Request))
    → CanRun functions settings script → AreEnabled (shipped_host functions settings script) (set_up (shipped_host functions settings script)) events
    → IsStanding (Mirroring.PlacesMirror functions settings) (shipped_host functions settings script)
    (run_events (shipped_host functions settings script) (set_up (shipped_host functions settings script)) events)
standing functions settings script events can may =
    subst (λ (w : World Content). IsStanding (Mirroring.PlacesMirror functions settings) (shipped_host functions settings script) w)
    (run_same setting can.keys (set_up (shipped_host functions settings script)) events)
    (stands_so setting can _
    (always_standing (PlacesMirror setting) (ranged setting) (is_fit setting (is_setting setting can)) events
    (are_enabled setting can.keys (set_up (shipped_host functions settings script)) events may)))
  where
    setting : Setting
    setting = setting_of functions settings script

-- The contents of a shard's places are of the header's tree.
pub tree_there : (functions : DigestFunctions) (settings : Settings) (s : ℕ) (contents : List Content) → Mirroring.PlacesMirror functions settings s contents
    → wide_among contents ≡ wide_of settings.header
tree_there functions settings s contents places =
    tree_is contents places.mirrors ∙ shard_tree (setting_of functions settings []) s contents places places.mirrors

-- The frontier of a shard is the bits of its number, behind the root.
pub frontier_there : (functions : DigestFunctions) (settings : Settings) (s : ℕ) (contents : List Content) → Mirroring.PlacesMirror functions settings s contents
    → Mirroring.frontier_in contents ≡ root_of (wide_of settings.header) ++ bits_of (frontier_bits settings.shards) s
frontier_there functions settings s contents places = go (Mirroring.frontier_in contents) places.tree places.levels places.number
  where
    go : (path : List Bool) → IsIn (wide_of settings.header) path → length path ≡ suc (frontier_bits settings.shards) → key_of path ≡ s
        → path ≡ root_of (wide_of settings.header) ++ bits_of (frontier_bits settings.shards) s
    go [] tree levels number = absurd tree
    go (wide ∷ bits) tree levels number =
        let spelled : bits_of (frontier_bits settings.shards) s ≡ bits =
        ap (λ (n : ℕ). bits_of n s) (omega (arith, levels)) ∙ ap (bits_of (length bits)) (sym number) ∙ bits_of-number_of bits in
        ap (λ (w : Bool). w ∷ bits) tree ∙ ap (λ (more : List Bool). wide_of settings.header ∷ more) (sym spelled)
