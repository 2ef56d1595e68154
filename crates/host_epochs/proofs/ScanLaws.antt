-- What a worker that holds a place may note of it: that it is up to date, or a scan.
use Rattle.std.proofs.Common.{◌≡◌, ◌≢◌, ◌⊎◌, ℕ, suc, ◌+◌, ◌≤◌, ◌<◌, true, List, [], ◌∷◌, ◌++◌, None, refl, inl, inr, ⊎_elim, arith}
use Rattle.std.proofs.lemmas.Bool.{cases_lt}
use Rattle.std.proofs.lemmas.Bool.Decides.{nat_tests}
use Rattle.lamport_clocks.specs.Clock.{is_open}
use Rattle.lamport_clocks.specs.Reading.{Reading}
use Rattle.host_shard.specs.declared.content.Content as code
use Rattle.host_shard.specs.Content.{Content, cold, hot, vacant}
use Rattle.host_shard.specs.Shown.{shown_content}
use Rattle.host_plan.specs.Plan.{IsOpenAt, IsPastEnd, clock_after}
use Rattle.host_epochs.specs.declared.hand.Hand.{Hand}
use Rattle.host_epochs.specs.declared.told.Entry.{Entry}
use Rattle.host_epochs.specs.declared.told.Reached.{Reached}
use Rattle.host_epochs.specs.Calls.{HasReached, MayNote}
use Rattle.host_epochs.specs.Hands.{content, entered, entries, stop, worker_of}
use Rattle.host_epochs.specs.Scan.{IsStale, scan_commands, scanned}
use Rattle.host_epochs.specs.Terms.{Terms, IsNear, Waits, epoch_of, final_epoch, first_epoch, owner, place_count}
use Rattle.host_epochs.specs.Told.{IsClockBehind}

-- ---- epochs

opens : (clock : Reading) (epoch : ℕ) → (epoch ≡ clock.at.epoch) ⊎ ((clock.first < clock.at.epoch) × (epoch + 1 ≡ clock.at.epoch)) → is_open clock epoch ≡ true
opens clock epoch is = grind (arith, nat_tests)

-- An element at most one epoch before the clock's, and of none behind, is open to the clock.
pub near_open : (terms : Terms) (entered done : ℕ) (found : code.Content) (clock : Reading) → clock.at.epoch ≡ first_epoch terms + entered
    → (0 < entered → clock.first < clock.at.epoch) → Waits (λ epoch. epoch ≤ first_epoch terms + entered) (shown_content found) → IsNear terms entered done found
    → IsOpenAt clock (shown_content found)
near_open terms entered done found clock here later to near = go (shown_content found) to near
  where
    open_at : (epoch : ℕ) → epoch ≤ first_epoch terms + entered → first_epoch terms ≤ epoch → first_epoch terms + entered ≤ suc epoch → is_open clock epoch ≡ true
    open_at epoch below from low = ⊎_elim
        (λ (before : epoch < clock.at.epoch). opens clock epoch (inr (later (omega (arith, before, from, here)), omega (arith, before, low, here))))
        (λ (same : clock.at.epoch ≤ epoch). opens clock epoch (inl (omega (arith, same, below, here))))
        (cases_lt epoch clock.at.epoch)

    go : (c : Content) → Waits (λ epoch. epoch ≤ first_epoch terms + entered) c
        → Waits (λ epoch. (first_epoch terms ≤ epoch) × (first_epoch terms + entered ≤ suc epoch) × (epoch ≤ suc (first_epoch terms + done)) × (epoch ≤ final_epoch terms)) c → IsOpenAt clock c
    go (cold shard) below waits = open_at shard.stamp.epoch below waits.0 waits.1
    go (hot record') below waits = open_at record'.stamp.epoch below waits.0 waits.1
    go vacant below waits = tt

-- What a worker finds while it isn't through with its epoch is of no later one.
pub near_to : (terms : Terms) (entered done : ℕ) (found : code.Content) → done < entered → IsNear terms entered done found
    → Waits (λ epoch. epoch ≤ first_epoch terms + entered) (shown_content found)
near_to terms entered done found less near = go (shown_content found) near
  where
    go : (c : Content) → Waits (λ epoch. (first_epoch terms ≤ epoch) × (first_epoch terms + entered ≤ suc epoch) × (epoch ≤ suc (first_epoch terms + done)) × (epoch ≤ final_epoch terms)) c
        → Waits (λ epoch. epoch ≤ first_epoch terms + entered) c
    go (cold shard) waits = let high = waits.2 in omega (arith, high, less)
    go (hot record') waits = let high = waits.2 in omega (arith, high, less)
    go vacant waits = tt

-- In the last epoch that may be entered there is none later.
pub near_last : (terms : Terms) (entered done : ℕ) (found : code.Content) → terms.more ≤ entered → IsNear terms entered done found
    → Waits (λ epoch. epoch ≤ first_epoch terms + entered) (shown_content found)
near_last terms entered done found last near = go (shown_content found) near
  where
    go : (c : Content) → Waits (λ epoch. (first_epoch terms ≤ epoch) × (first_epoch terms + entered ≤ suc epoch) × (epoch ≤ suc (first_epoch terms + done)) × (epoch ≤ final_epoch terms)) c
        → Waits (λ epoch. epoch ≤ first_epoch terms + entered) c
    go (cold shard) waits = let high = waits.3 in omega (arith, high, last)
    go (hot record') waits = let high = waits.3 in omega (arith, high, last)
    go vacant waits = tt

-- ---- what was noted

pub reached_more : (xs ys : List Reached) (of least : ℕ) → HasReached xs of least → HasReached (xs ++ ys) of least
reached_more [] ys of least has = absurd has
reached_more (reached ∷ xs) ys of least has = ⊎_elim (λ (is : (reached.of ≡ of) × (least ≤ reached.least)). inl is) (λ (rest : HasReached xs of least). inr (reached_more xs ys of least rest)) has

pub reached_last : (xs : List Reached) (reached : Reached) (of least : ℕ) → reached.of ≡ of → least ≤ reached.least → HasReached (xs ++ reached ∷ []) of least
reached_last [] reached of least same far = inl (same, far)
reached_last (first ∷ xs) reached of least same far = inr (reached_last xs reached of least same far)

-- ---- a scan

-- a scan leaves an element of the clock's epoch
pub scanned_epoch : (worker : ℕ) (found : Content) (clock : Reading) → found ≢ vacant → epoch_of (scanned worker found clock) ≡ clock.at.epoch
scanned_epoch worker (cold shard) clock there = refl
scanned_epoch worker (hot record') clock there = refl
scanned_epoch worker vacant clock there = absurd (there refl)

stale_to : (epoch : ℕ) (found : Content) → IsStale epoch found → Waits (λ e. e ≤ epoch) found
stale_to epoch (cold shard) stale = omega (arith, stale)
stale_to epoch (hot record') stale = omega (arith, stale)
stale_to epoch vacant stale = tt

-- What a scan makes of a stale content of the worker's own may be noted.
pub may_scan : (terms : Terms) (hand : Hand) (place : ℕ) (clock : Reading) (given : code.Content) → stop hand ≡ None → IsClockBehind terms (entries hand) (entered hand) clock
    → place < place_count terms → owner terms place ≡ worker_of hand → worker_of hand < terms.workers → IsStale clock.at.epoch (shown_content (content hand))
    → shown_content given ≡ scanned (worker_of hand) (shown_content (content hand)) clock → (IsPastEnd (shown_content (content hand)) clock → ⊥) → MayNote terms hand place clock None given
may_scan terms hand place clock given going behind there own known stale is within = record {
  going = going;
  behind = behind;
  reached = λ _. stale_to clock.at.epoch (shown_content (content hand)) stale;
  entry = record {
    place = place;
    worker = worker_of hand;
    clock = clock;
    before = content hand;
    request = None;
    plan = record { commands = scan_commands (shown_content (content hand)) clock; answer = None };
    after = given;
    later = clock_after (shown_content (content hand)) clock;
  };
  is = record { place_is = refl; worker_is = refl; before_is = refl; clock_is = refl; request_is = refl; after_is = refl };
  asked = record {
    by = known;
    clock = behind.is;
    work = record { there = there; own = own; stale = stale; commands = refl; content = is; clock = refl };
    within = within;
  };
}
