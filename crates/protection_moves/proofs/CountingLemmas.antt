-- The clock as transfers are done one after another: it doesn't go back, and its epoch and its bounds stay.
use Rattle.std.proofs.Common.{◌≡◌, ℕ, ◌<◌, ◌≤◌, ◌+◌, List, [], ◌∷◌, if◌then◌else◌, refl, ◌∙◌, sym, subst, arith, map, ◌++◌}
use Rattle.std.specs.Prelude.{◌==◌}
use Rattle.std.proofs.Math.Nat.{le-max_left}
use Rattle.lamport_clocks.specs.declared.stamp.Stamp.{Stamp}
use Rattle.lamport_clocks.specs.Reading.{Reading}
use Rattle.lamport_clocks.specs.Clock.{is_open}
use Rattle.host_shard.specs.declared.content.HotRecord.{HotRecord}
use Rattle.host_plan.specs.Moments.{taking}
use Rattle.protection_moves.specs.Transfer.{Transfer, demotes, promotes, clock_by, clock_by_each}

pub taking-up : (clock : Reading) (stamp : Stamp) → clock.at.counter ≤ (taking clock stamp).at.counter
taking-up clock stamp = omega (arith, le-max_left clock.at.counter (if stamp.epoch == clock.at.epoch then stamp.counter else 0))

pub clock_by-up : (clock : Reading) (transfer : Transfer) → clock.at.counter ≤ (clock_by clock transfer).at.counter
clock_by-up clock (demotes found) = taking-up clock found.stamp
clock_by-up clock (promotes key) = omega arith

pub clock_by_each-up : (clock : Reading) (transfers : List Transfer) → clock.at.counter ≤ (clock_by_each clock transfers).at.counter
clock_by_each-up clock [] = omega arith
clock_by_each-up clock (transfer ∷ transfers) = omega (arith, clock_by-up clock transfer, clock_by_each-up (clock_by clock transfer) transfers)

clock_by-open : (clock : Reading) (transfer : Transfer) (epoch : ℕ) → is_open (clock_by clock transfer) epoch ≡ is_open clock epoch
clock_by-open clock (demotes found) epoch = refl
clock_by-open clock (promotes key) epoch = refl

pub clock_by_each-open : (clock : Reading) (transfers : List Transfer) (epoch : ℕ) → is_open (clock_by_each clock transfers) epoch ≡ is_open clock epoch
clock_by_each-open clock [] epoch = refl
clock_by_each-open clock (transfer ∷ transfers) epoch = clock_by_each-open (clock_by clock transfer) transfers epoch ∙ clock_by-open clock transfer epoch

clock_by-end : (clock : Reading) (transfer : Transfer) → (clock_by clock transfer).end ≡ clock.end
clock_by-end clock (demotes found) = refl
clock_by-end clock (promotes key) = refl

pub clock_by_each-end : (clock : Reading) (transfers : List Transfer) → (clock_by_each clock transfers).end ≡ clock.end
clock_by_each-end clock [] = refl
clock_by_each-end clock (transfer ∷ transfers) = clock_by_each-end (clock_by clock transfer) transfers ∙ clock_by-end clock transfer

-- where the first of them passes the end, all of them do
pub past_by_first_transfer : (clock : Reading) (records rest : List HotRecord) (first : HotRecord) (others : List Transfer) → records ≡ first ∷ rest
    → clock.end < (taking clock first.stamp).at.counter → clock.end < 1 + (clock_by_each clock (map (λ (f : HotRecord). demotes f) records ++ others)).at.counter
past_by_first_transfer clock records rest first others is past =
    subst (λ (all : List HotRecord). clock.end < 1 + (clock_by_each clock (map (λ (f : HotRecord). demotes f) all ++ others)).at.counter) (sym is)
    (omega (arith, past, clock_by_each-up (taking clock first.stamp) (map (λ (f : HotRecord). demotes f) rest ++ others)))
