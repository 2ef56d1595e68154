-- The clock as hot records are renewed one after another: it doesn't go back, and its epoch and its bounds stay.
use Rattle.std.proofs.Common.{◌≡◌, ℕ, ◌<◌, ◌≤◌, List, [], ◌∷◌, if◌then◌else◌, refl, sym, subst, arith}
use Rattle.std.specs.Prelude.{◌==◌}
use Rattle.std.proofs.Math.Nat.{le-max_left}
use Rattle.lamport_clocks.specs.declared.stamp.Stamp.{Stamp}
use Rattle.lamport_clocks.specs.Reading.{Reading}
use Rattle.lamport_clocks.specs.Clock.{is_open}
use Rattle.host_shard.specs.declared.content.HotRecord.{HotRecord}
use Rattle.host_plan.specs.Moments.{renewing}
use Rattle.protection_moves.specs.Renewing.{renewing_each}

pub renewing-up : (clock : Reading) (stamp : Stamp) → clock.at.counter ≤ (renewing clock stamp).at.counter
renewing-up clock stamp = omega (arith, le-max_left clock.at.counter (if stamp.epoch == clock.at.epoch then stamp.counter else 0))

pub renewing_each-up : (clock : Reading) (records : List HotRecord) → clock.at.counter ≤ (renewing_each clock records).at.counter
renewing_each-up clock [] = omega arith
renewing_each-up clock (found ∷ more) = omega (arith, renewing-up clock found.stamp, renewing_each-up (renewing clock found.stamp) more)

pub renewing_each-open : (clock : Reading) (records : List HotRecord) (epoch : ℕ) → is_open (renewing_each clock records) epoch ≡ is_open clock epoch
renewing_each-open clock [] epoch = refl
renewing_each-open clock (found ∷ more) epoch = renewing_each-open (renewing clock found.stamp) more epoch

pub renewing_each-end : (clock : Reading) (records : List HotRecord) → (renewing_each clock records).end ≡ clock.end
renewing_each-end clock [] = refl
renewing_each-end clock (found ∷ more) = renewing_each-end (renewing clock found.stamp) more

pub renewing_each-epoch : (clock : Reading) (records : List HotRecord) → (renewing_each clock records).at.epoch ≡ clock.at.epoch
renewing_each-epoch clock [] = refl
renewing_each-epoch clock (found ∷ more) = renewing_each-epoch (renewing clock found.stamp) more

-- where the first of them passes the end, all of them do
pub past_by_first : (clock : Reading) (records rest : List HotRecord) (first : HotRecord) → records ≡ first ∷ rest
    → clock.end < (renewing clock first.stamp).at.counter → clock.end < (renewing_each clock records).at.counter
past_by_first clock records rest first is past =
    subst (λ (all : List HotRecord). clock.end < (renewing_each clock all).at.counter) (sym is)
    (omega (arith, past, renewing_each-up (renewing clock first.stamp) rest))
