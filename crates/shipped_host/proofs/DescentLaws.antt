-- The descents of a move are one list: the transfers are given, and the links to each key are one list.
use Rattle.std.proofs.Common.{◌≡◌, ℕ, ◌<◌, Bool, true, false, List, [], ◌∷◌, map, nat_lt, Option, Some, None, is_some, if◌then◌else◌, refl, sym, ◌∙◌, ap, subst}
use Rattle.std.specs.Prelude.{IfSome}
use Rattle.std.proofs.lemmas.Bool.{false≢true, lt-ltb, ltb-true}
use Rattle.std.proofs.lemmas.Option.{same_Some}
use Rattle.log_codec.specs.declared.command.Command.{Command}
use Rattle.merkle_records.specs.Merkle.{Digest, GivesDigests}
use Rattle.host_core.specs.Host.{Done}
use Rattle.host_shard.specs.declared.link.Link.{Link}
use Rattle.host_shard.specs.Content.{Content}
use Rattle.protection_moves.specs.Stage.{Stage}
use Rattle.protection_moves.specs.Transfer.{Transfer, demotes, promotes, transfers_of, clock_needed}
use Rattle.protection_moves.specs.Descent.{Descent, AreLinks, AreDescents, done_by}
use Rattle.protection_moves.specs.Move.{IsMove, IsPastEnd, begun, moved}
use Rattle.move_laws.specs.Stages.{StageMirrors}
use Rattle.move_laws.specs.Transfers.{IsFit}
use Rattle.move_laws.proofs.TransferLaws.{transfer_mirrors, transfer_shard, transfer_own}
use Rattle.move_laws.proofs.FitLaws.{begun_mirrors, move_fits}
use Rattle.move_laws.proofs.DescentLaws.{AreFit}
use Rattle.shipped_host.specs.Promotable.{promotable_in}
use Rattle.shipped_host.specs.Moving.{seats_of, links_for, descents_for, descents_of, done_with, move_promotable}
use Rattle.shipped_host.specs.Planned.{IsMoved}
use Rattle.shipped_host.proofs.PromotableLemmas.{are_promotable, promotable_is}
use Rattle.shipped_host.proofs.LinkLaws.{shard_links_are, shard_chain_is}

module _ (longest : ℕ) (digest : Digest) (worker : ℕ) (digests : GivesDigests digest) where
  -- the links of a transfer that can be done
  links_there : (stage : Stage) (transfer : Transfer) → StageMirrors longest digest stage → IsFit stage transfer
      → AreLinks stage.shard transfer (links_for stage.shard transfer)
  links_there stage (demotes found) mirrors fit =
      shard_links_are longest _ _ (transfer_shard longest digest stage (demotes found) mirrors fit) (transfer_own longest digest stage (demotes found) mirrors fit)
  links_there stage (promotes key) mirrors fit =
      shard_links_are longest _ _ (transfer_shard longest digest stage (promotes key) mirrors fit) (transfer_own longest digest stage (promotes key) mirrors fit)

  links_one : (stage : Stage) (transfer : Transfer) (links : List Link) → StageMirrors longest digest stage → IsFit stage transfer
      → AreLinks stage.shard transfer links → links ≡ links_for stage.shard transfer
  links_one stage (demotes found) links mirrors fit chain =
      shard_chain_is longest _ _ (transfer_shard longest digest stage (demotes found) mirrors fit) (transfer_own longest digest stage (demotes found) mirrors fit) links chain
  links_one stage (promotes key) links mirrors fit chain =
      shard_chain_is longest _ _ (transfer_shard longest digest stage (promotes key) mirrors fit) (transfer_own longest digest stage (promotes key) mirrors fit) links chain

  -- the transfers of these descents are the transfers
  transfers_for : (stage : Stage) (transfers : List Transfer) → map (λ (descent : Descent). descent.transfer) (descents_for digest worker stage transfers) ≡ transfers
  transfers_for stage [] = refl
  transfers_for stage (transfer ∷ transfers) = ap (λ (rest : List Transfer). transfer ∷ rest) (transfers_for (done_by digest worker stage transfer (links_for stage.shard transfer)) transfers)

  -- Descents that can be done are descents along the links that there are.
  descents_there : (stage : Stage) (transfers : List Transfer) → StageMirrors longest digest stage → AreFit longest digest worker stage (descents_for digest worker stage transfers)
      → AreDescents digest worker stage (descents_for digest worker stage transfers)
  descents_there stage [] mirrors fit = tt
  descents_there stage (transfer ∷ transfers) mirrors fit =
      let way = links_there stage transfer mirrors fit.0 in (
        way,
        descents_there (done_by digest worker stage transfer (links_for stage.shard transfer)) transfers
            (transfer_mirrors longest digest worker stage transfer (links_for stage.shard transfer) digests mirrors fit.0 way) fit.1,
      )

  descents_one : (stage : Stage) (descents : List Descent) → StageMirrors longest digest stage → AreFit longest digest worker stage descents → AreDescents digest worker stage descents
      → descents ≡ descents_for digest worker stage (map (λ (descent : Descent). descent.transfer) descents)
  descents_one stage [] mirrors fit ways = refl
  descents_one stage (descent ∷ descents) mirrors fit ways =
      let is = links_one stage descent.transfer descent.links mirrors fit.0 ways.0 in
      let rest = descents_one (done_by digest worker stage descent.transfer descent.links) descents
      (transfer_mirrors longest digest worker stage descent.transfer descent.links digests mirrors fit.0 ways.0) fit.1 ways.1 in
      ap (λ (more : List Descent). descent ∷ more) rest
      ∙ ap (λ (links : List Link). record { transfer = descent.transfer; links = links }
      ∷ descents_for digest worker (done_by digest worker stage descent.transfer links) (map (λ (one : Descent). one.transfer) descents)) is

-- ---- a move

module _ (longest : ℕ) (digest : Digest) (worker : ℕ) (threshold : Option ℕ) (stage : Stage) (digests : GivesDigests digest)
    (some : IfSome threshold (λ least. 0 < least)) (mirrors : StageMirrors longest digest stage) where
  abbrev promotable : List ℕ
  promotable = promotable_in stage threshold

  abbrev made : Done (List Content)
  made = done_with digest worker stage (descents_of digest worker stage (promotable_in stage threshold))

  begins : StageMirrors longest digest (begun worker stage)
  begins = begun_mirrors longest digest worker stage mirrors

  is_transfers : map (λ (descent : Descent). descent.transfer) (descents_of digest worker stage (promotable_in stage threshold)) ≡ transfers_of stage (promotable_in stage threshold)
  is_transfers = transfers_for longest digest worker digests (begun worker stage) (transfers_of stage promotable)

  ways : AreDescents digest worker (begun worker stage) (descents_of digest worker stage (promotable_in stage threshold))
  ways =
      descents_there longest digest worker digests (begun worker stage) (transfers_of stage promotable) begins
      (move_fits longest digest worker threshold stage promotable (descents_of digest worker stage promotable) some mirrors (are_promotable stage threshold) is_transfers)

  -- What is made of a stage is a move of it.
  pub made_is_move : IsMove digest worker threshold stage (done_with digest worker stage (descents_of digest worker stage (promotable_in stage threshold))).commands
      (moved digest worker stage (descents_of digest worker stage (promotable_in stage threshold)))
  made_is_move = record {
    promotable = promotable;
    are_promotable = are_promotable stage threshold;
    descents = descents_of digest worker stage promotable;
    transfers = is_transfers;
    ways = ways;
    commands = refl;
    after = refl;
  }

  -- where the counters pass their end
  past_is : IsPastEnd threshold stage → stage.clock.end < (clock_needed stage (promotable_in stage threshold)).at.counter
  past_is is = subst (λ (keys : List ℕ). stage.clock.end < (clock_needed stage keys).at.counter) (promotable_is stage threshold is.promotable is.are_promotable) is.past

  pub move_past : IsPastEnd threshold stage → move_promotable digest worker stage (promotable_in stage threshold) ≡ None
  move_past is = ap (λ (b : Bool). if b then None else Some made) (lt-ltb stage.clock.end (clock_needed stage promotable).at.counter (past_is is))

  -- what is done where they don't
  pub within_made : (IsPastEnd threshold stage → ⊥) → move_promotable digest worker stage (promotable_in stage threshold)
      ≡ Some (done_with digest worker stage (descents_of digest worker stage (promotable_in stage threshold)))
  within_made within = go (nat_lt stage.clock.end (clock_needed stage promotable).at.counter) refl
    where
      go : (b : Bool) → nat_lt stage.clock.end (clock_needed stage (promotable_in stage threshold)).at.counter ≡ b
          → (if b then None else Some made) ≡ Some made
      go true past = absurd (within (record { promotable = promotable; are_promotable = are_promotable stage threshold; past = ltb-true stage.clock.end (clock_needed stage promotable).at.counter past }))
      go false is = refl

  -- A move is what is done.
  pub move_is_done : (new : Stage) (commands : List Command) → (IsPastEnd threshold stage → ⊥) → IsMove digest worker threshold stage commands new
      → move_promotable digest worker stage (promotable_in stage threshold) ≡ Some (record { commands = commands; after = seats_of new; clock = new.clock })
  move_is_done new commands within is = within_made within ∙ ap (λ (d : Done (List Content)). Some d) same
    where
      keys : is.promotable ≡ promotable_in stage threshold
      keys = promotable_is stage threshold is.promotable is.are_promotable

      descents : is.descents ≡ descents_of digest worker stage (promotable_in stage threshold)
      descents =
          descents_one longest digest worker digests (begun worker stage) is.descents begins
          (move_fits longest digest worker threshold stage is.promotable is.descents some mirrors is.are_promotable is.transfers) is.ways
          ∙ (ap (λ (transfers : List Transfer). descents_for digest worker (begun worker stage) transfers) is.transfers
          ∙ ap (λ (ks : List ℕ). descents_of digest worker stage ks) keys)

      same : made ≡ record { commands = commands; after = seats_of new; clock = new.clock }
      same =
          ap (λ (ts : List Descent). done_with digest worker stage ts) (sym descents)
          ∙ (ap (λ (log : List Command). record { commands = log; after = seats_of (moved digest worker stage is.descents); clock = (moved digest worker stage is.descents).clock }) (sym is.commands)
          ∙ ap (λ (s : Stage). record { commands = commands; after = seats_of s; clock = s.clock }) (sym is.after))

  -- What is done is a move, whose counters don't pass their end.
  pub done_is_move : (done : Done (List Content)) → move_promotable digest worker stage (promotable_in stage threshold) ≡ Some done
      → IsMoved digest worker threshold stage done
  done_is_move done is = go (nat_lt stage.clock.end (clock_needed stage promotable).at.counter) refl is
    where
      go : (b : Bool) → nat_lt stage.clock.end (clock_needed stage (promotable_in stage threshold)).at.counter ≡ b
          → (if b then None else Some made) ≡ Some done → IsMoved digest worker threshold stage done
      go true past is' = absurd (false≢true (ap is_some is'))
      go false open' is' =
          subst (IsMoved digest worker threshold stage) (same_Some made done is')
          (record {
            new = moved digest worker stage (descents_of digest worker stage promotable);
            is = made_is_move;
            after = refl;
            clock = refl;
            within = λ past. false≢true (sym open' ∙ lt-ltb stage.clock.end (clock_needed stage promotable).at.counter (past_is past));
          })
