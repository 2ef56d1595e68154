-- What the shipped host keeps at the places of a shard, as the proofs speak of it.
use Rattle.std.specs.Prelude.{◌≡◌, ℕ, ◌^◌, ◌<◌, ◌≤◌, ◌&&◌, nat_lt, Bool, true, false, List, [], ◌∷◌, length, take, IfSome, Option, Some, None, if◌then◌else◌, suc}
use Rattle.tree_keys.specs.Path.{key_bits, tree_of, IsIn, key_of, same_bit}
use Rattle.lamport_clocks.specs.declared.stamp.Stamp.{Stamp}
use Rattle.lamport_clocks.specs.Reading.{Reading}
use Rattle.record_hash.specs.Functions.{DigestFunctions}
use Rattle.record_text.specs.declared.request.Request.{Request}
use Rattle.record_text.specs.declared.value.Value.{Value}
use Rattle.record_text.specs.Longest.{longest_of}
use Rattle.record_text.specs.Tree.{wide_of}
use Rattle.merkle_records.specs.Merkle.{GivesDigests}
use Rattle.script_text.specs.declared.task.Task.{Task}
use Rattle.host_shard.specs.Content.{Content, cold, hot, vacant}
use Rattle.host_plan.specs.Plan.{commands_of, content_after, clock_after}
use Rattle.host_laws.specs.SettingUp.{CanSetUp}
use Rattle.host_core.specs.Host.{Done, Host}
use Rattle.host_core.specs.Clear.{Keeping}
use Rattle.shipped_host.specs.declared.settings.Settings.{Settings}
use Rattle.shipped_host.specs.Links.{links_of}
use Rattle.shipped_host.specs.Seated.{SeatsMirror}
use Rattle.shipped_host.specs.Settings.{frontier_bits}
use Rattle.shipped_host.specs.ShippedHost.{is_place_of, shipped_host}
use Rattle.host_fits.specs.Mirroring as Mirroring
use Rattle.host_fits.specs.Mirroring.{front_of}

-- what a shipped host is given
pub record Setting : Type 0 where
  pub functions : DigestFunctions
  pub settings : Settings
  pub script : List (List Task)

abbrev pub setting_of : DigestFunctions → Settings → List (List Task) → Setting
setting_of functions settings script = record { functions = functions; settings = settings; script = script }

-- the shipped host
abbrev pub host_in : Setting → Host Content Request
host_in setting = shipped_host setting.functions setting.settings setting.script

-- how many bits lead to its frontiers
abbrev pub bits_in : Setting → ℕ
bits_in setting = frontier_bits setting.settings.shards

-- the same, where no seat owns a key that is out of range: no script asks for one
abbrev pub ranged : Setting → Host Content Request
ranged setting = record (host_in setting) {
  owns = λ s seats seat request.
      nat_lt request.key (2 ^ key_bits (wide_of setting.settings.header)) && is_place_of (longest_of setting.settings.header) seats seat request;
}

-- What the proofs take of its numbers: a worker at least, shards that can be set up, a cache with room for each path
-- above a key, digests of 32 bytes, and a threshold of a touch or more if there is one.
pub record IsSetting (setting : Setting) : Type 0 where
  pub some : 1 ≤ setting.settings.header.verifiers
  pub shards : CanSetUp setting.settings.header (bits_in setting)
  pub room : key_bits (wide_of setting.settings.header) < setting.settings.header.cache
  pub digests : GivesDigests setting.functions.digest
  pub threshold : IfSome setting.settings.hot (λ least. 0 < least)

-- ---- what is done

-- for a request at a content
abbrev pub served_at : Setting → ℕ → Reading → Content → Request → Done Content
served_at setting worker clock content request =
    let longest = longest_of setting.settings.header in
    let links = links_of content request.key in
    record {
      commands = commands_of setting.settings.absent content links request clock;
      after = content_after setting.settings.absent setting.functions.digest worker content links request clock;
      clock = clock_after content clock;
    }

-- ---- what is kept

-- the records of a shard's places
abbrev pub kept_of : List Content → List Bool → Option Value
kept_of [] path = None
kept_of (cold shard ∷ rest) path = shard.records path
kept_of (hot record' ∷ rest) path = None
kept_of (vacant ∷ rest) path = None

-- the contents of a shard's places mirror
abbrev pub PlacesMirror : Setting → ℕ → List Content → Type 0
PlacesMirror setting s contents = Mirroring.PlacesMirror setting.functions setting.settings s contents

-- The number of the shard below whose frontier a path lies, where frontiers of this tree have so many bits: those of the path
-- behind the first spell it. A path that is no longer, or of the other tree, is of none.
abbrev pub home_of : Bool → ℕ → List Bool → Option ℕ
home_of wide bits path = if same_bit (tree_of path) wide && nat_lt bits (length path) then Some (key_of (take bits path)) else None

-- What the host keeps of its records.
abbrev pub keeping_of : Setting → Keeping Content
keeping_of setting = record {
  home = λ path. home_of (wide_of setting.settings.header) (suc (bits_in setting)) path;
  kept = λ s contents path. kept_of contents path;
  front = front_of;
}
