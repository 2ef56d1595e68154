-- The rounds of a run: a phase is one, or in a rolling host all phases together, and a close is one, and the logs of each are what
-- the workers logged in it.
use Rattle.std.specs.Prelude.{◌≡◌, ◌⊎◌, ℕ, suc, ◌+◌, ◌*◌, List, [], ◌∷◌, ◌++◌, replicate}
use Rattle.log_codec.specs.declared.command.Command.{Command}
use Rattle.host_core.specs.Host.{Host}
use Rattle.host_core.specs.World.{World, logs_of, set_up}
use Rattle.host_serving.specs.Leading.{LeadsTo, CanDoNoMore}
use Rattle.host_serving.specs.Standing.{first_of_round, BeginsRound, EndsRound}

-- the logs of one round, or of all so far: of each worker what it logged
abbrev pub Logs : Type 0
Logs = List (List Command)

-- logs with what is logged next behind each
abbrev pub logged_with : Logs → Logs → Logs
logged_with [] round = []
logged_with (log ∷ logs) [] = log ∷ logs
logged_with (log ∷ logs) (next ∷ round) = (log ++ next) ∷ logged_with logs round

-- logs with those of rounds behind each
abbrev pub logged_behind : Logs → List Logs → Logs
logged_behind logs [] = logs
logged_behind logs (round ∷ rounds) = logged_behind (logged_with logs round) rounds

-- so many workers that logged nothing
abbrev pub no_logs : ℕ → Logs
no_logs workers = replicate workers []

module _ {C R : Type 0} (host : Host C R) where
  -- how a world stands behind so many rounds: behind one that serves requests it is served out or stopped, and behind a close the
  -- next begins, or no more can be done
  abbrev pub IsBehindRounds : ℕ → World C → Type 0
  IsBehindRounds count world =
      ((count ≡ 1 + 2 * first_of_round host world) × EndsRound host world)
      ⊎ ((count ≡ 2 * first_of_round host world) × BeginsRound host world)
      ⊎ ((closes : ℕ) × (count ≡ 2 * closes) × CanDoNoMore host world)

  -- Events lead from a world, behind so many rounds that joined to these logs, through further rounds to a later world.
  abbrev pub LeadThrough : ℕ → Logs → World C → List Logs → World C → Type 0
  LeadThrough count logs world [] later = LeadsTo host world later
  LeadThrough count logs world (round ∷ rounds) later =
      (next : World C) × LeadsTo host world next × IsBehindRounds (suc count) next × (logs_of next ≡ logged_with logs round)
      × LeadThrough (suc count) (logged_with logs round) next rounds later

  -- Events lead from the setup through these rounds to a world. What the setup logs comes with the first round.
  abbrev pub ArePassed : List Logs → World C → Type 0
  ArePassed rounds world = LeadThrough 0 (no_logs host.header.verifiers) (set_up host) rounds world
