-- What the workers of a round share.
use Rattle.std.specs.Prelude.{◌≡◌, ℕ, ◌*◌, ◌%◌, ◌<◌, ◌≤◌, List, map}
use Rattle.lamport_clocks.specs.Header.{IsHeader}
use Rattle.record_hash.specs.Functions.{DigestFunctions}
use Rattle.record_text.specs.Longest.{longest_blob}
use Rattle.host_shard.specs.Content.{Content, cold, hot, vacant}
use Rattle.host_shard.specs.Mirrors.{IsShard}
use Rattle.host_shard.specs.Shown.{shown_content}
use Rattle.host_epochs.specs.Table.{terms}
use Rattle.host_epochs.specs.Terms.{Terms, first_at, first_epoch, place_count, places_each}
use Rattle.round_workers.specs.declared.turn.Turn.{Turn}
use Rattle.round_workers.specs.declared.shared_round.SharedRound.{SharedRound}
use Rattle.round_workers.specs.Parts.{HaveTurns}

-- a shard at the first of its places, or nothing
abbrev pub IsColdAt : ℕ → Content → Type 0
IsColdAt place (cold shard) = (place % places_each ≡ 0) × IsShard longest_blob shard
IsColdAt place (hot record') = ⊥
IsColdAt place vacant = Unit {0}

-- A table at which workers go on to further epochs: it was made in an epoch of the bundle, and no key is hot.
pub record MayGoOn (terms : Terms) : Type 0 where
  pub first : terms.header.first ≤ first_epoch terms
  pub cold : (place : ℕ) → place < place_count terms → IsColdAt place (shown_content (first_at terms place))

-- the turns of each worker
abbrev pub turns_in : {D : Type 0} → SharedRound D → List (List Turn)
turns_in shared = map (λ own. own.items) shared.turns.now

-- The digests and the numbers are the table's, each worker there has its turns, and the bundle's numbers are in their ranges.
pub record IsSharedRound {D : Type 0} (functions : D → DigestFunctions) (shared : SharedRound D) : Type 0 where
  pub digests : (functions shared.d.now).digest ≡ (terms functions shared.epochs.now).digest
  pub absent : shared.absent ≡ (terms functions shared.epochs.now).absent
  pub workers : shared.workers ≡ (terms functions shared.epochs.now).workers
  pub more : shared.more ≡ (terms functions shared.epochs.now).more
  pub places : place_count (terms functions shared.epochs.now) ≡ shared.shards * places_each
  pub turns : HaveTurns (terms functions shared.epochs.now) (turns_in shared)
  pub header : IsHeader shared.header
  pub further : 0 < (terms functions shared.epochs.now).more → MayGoOn (terms functions shared.epochs.now)
