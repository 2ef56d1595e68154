-- Verifiers that are one but for the order in which their caches list entries by path.
use Rattle.std.specs.Prelude.{◌≡◌, Result, Ok, Err}
use Rattle.record_text.specs.declared.refusal.Refusal.{Refusal}
use Rattle.verifier_cache.specs.Alike.{AreAlike}
use Rattle.verifier_commands.specs.VerifierState.{AnyCache, by_path, by_slot}
use Rattle.verifier_commands.specs.Machine.{Machine}

-- the same cache, but for the order of entries by path
abbrev pub AreAlikeCaches : AnyCache → AnyCache → Type 0
AreAlikeCaches (by_path held) (by_path other) = (other.room ≡ held.room) × AreAlike held.entries other.entries
AreAlikeCaches (by_path held) (by_slot slots) = ⊥
AreAlikeCaches (by_slot slots) (by_path held) = ⊥
AreAlikeCaches (by_slot slots) (by_slot others) = others ≡ slots

-- the verifier with another cache
abbrev pub machine_with : Machine → AnyCache → Machine
machine_with machine cache = record machine { state = record machine.state { cache = cache } }

-- The other verifier is this one with a cache that is alike.
pub record IsLikeMachine (machine other : Machine) : Type 0 where
  pub cache : AnyCache
  pub alike : AreAlikeCaches machine.state.cache cache
  pub same : other ≡ machine_with machine cache

-- the same refusal, or the same answer and such verifiers after it
abbrev pub AreLikeAnswers : {A : Type 0} → Result (A × Machine) Refusal → Result (A × Machine) Refusal → Type 0
AreLikeAnswers (Ok done) (Ok other) = (other.0 ≡ done.0) × IsLikeMachine done.1 other.1
AreLikeAnswers (Ok done) (Err refusal) = ⊥
AreLikeAnswers (Err refusal) (Ok done) = ⊥
AreLikeAnswers (Err refusal) (Err other) = other ≡ refusal
