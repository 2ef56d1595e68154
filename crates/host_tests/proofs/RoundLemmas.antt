-- Worlds of rolling hosts that run lists of events: the place of a shard, three events behind others, a world behind its setup.
use Rattle.std.proofs.Common.{◌≡◌, refl, ap, sym, subst, ◌∙◌, ℕ, ◌*◌, ◌%◌, List, [], ◌∷◌, ◌++◌, lit<}
use Rattle.std.proofs.Math.Nat.{mul-div_cancel, mul-mod_left}
use Rattle.record_hash.specs.Functions.{DigestFunctions}
use Rattle.record_text.specs.declared.request.Request.{Request}
use Rattle.script_text.specs.declared.task.Task.{Task}
use Rattle.host_core.specs.Host.{Host}
use Rattle.host_core.specs.World.{World, set_up}
use Rattle.host_core.specs.WorldEvent.{WorldEvent, AreEnabled}
use Rattle.shipped_host.specs.declared.settings.Settings.{Settings}
use Rattle.host_world.specs.Places.{place_of}
use Rattle.host_world.specs.Worked.{AreEnabledBehind}
use Rattle.host_world.specs.WorkedKeys.{place_at}

pub place_of_shard : (shard : ℕ) → place_of (shard * 5) ≡ place_at shard
place_of_shard shard =
    ap (λ (n : ℕ). record { shard = n; seat = shard * 5 % 5 }) (mul-div_cancel shard (lit< tt))
    ∙ ap (λ (n : ℕ). record { shard = shard; seat = n }) (mul-mod_left shard 5)

pub three_behind : {A : Type 0} (items : List A) (a b c : A) → ((items ++ a ∷ []) ++ b ∷ []) ++ c ∷ [] ≡ items ++ a ∷ b ∷ c ∷ []
three_behind [] a b c = refl
three_behind (item ∷ items) a b c = ap (λ (rest : List _). item ∷ rest) (three_behind items a b c)

pub AreEnabled-in_world : {C R : Type 0} {shown host : Host C R} {world : World C} (events : List (WorldEvent R))
    → shown ≡ host → world ≡ set_up host → AreEnabled host (set_up host) events → AreEnabled shown world events
AreEnabled-in_world {C} {R} {shown} {host} {world} events same behind enabled =
    subst (λ (h : Host C R). AreEnabled h world events) (sym same)
    (subst (λ (w : World C). AreEnabled host w events) (sym behind) enabled)

pub AreEnabledBehind-same : (functions : DigestFunctions) {settings given : Settings} {script asked : List (List Task)}
    {events done : List (WorldEvent Request)} → given ≡ settings → asked ≡ script → done ≡ events
    → AreEnabledBehind functions settings script events → AreEnabledBehind functions given asked done
AreEnabledBehind-same functions {settings} {given} {script} {asked} {events} {done} same_settings same_script same_events enabled =
    subst (λ (s : Settings). AreEnabledBehind functions s asked done) (sym same_settings)
    (subst (λ (s : List (List Task)). AreEnabledBehind functions settings s done) (sym same_script)
    (subst (λ (e : List (WorldEvent Request)). AreEnabledBehind functions settings script e) (sym same_events) enabled))
