-- What the calls on a table leave of a hand, and what a worker knows of the places that it takes.
use Rattle.std.proofs.Common.{◌≡◌, ◌≢◌, ◌⊎◌, ℕ, suc, ◌+◌, ◌*◌, ◌<◌, ◌≤◌, List, [], ◌∷◌, ◌++◌, refl, sym, ◌∙◌, ap, subst, inl, inr, ⊎_elim, arith}
use Rattle.std.proofs.lemmas.Bool.{cases_lt, cases_eq}
use Rattle.lamport_clocks.specs.declared.stamp.Stamp.{Stamp}
use Rattle.lamport_clocks.specs.Reading.{Reading}
use Rattle.host_shard.specs.declared.content.Content as code
use Rattle.host_shard.specs.declared.content.Content.TheVariants.{Vacant}
use Rattle.host_shard.specs.Content.{Content, cold, hot, vacant}
use Rattle.host_shard.specs.Shown.{shown_content}
use Rattle.host_epochs.specs.declared.hand.Hand.{Hand}
use Rattle.host_epochs.specs.declared.told.Loss.{Loss}
use Rattle.host_epochs.specs.declared.told.Reached.{Reached}
use Rattle.host_epochs.specs.declared.views.Row.{Row}
use Rattle.host_epochs.specs.Calls.{HasReached, IsAfter}
use Rattle.host_epochs.specs.Hands.{worker_of, entered, done, left, seen}
use Rattle.host_epochs.specs.Scan.{IsStale}
use Rattle.host_epochs.specs.Terms.{Terms, IsClockOf, IsNear, IsUpToDate, Waits, clock_at, epoch_of, first_at, first_epoch, final_epoch, owner, place_count}
use Rattle.host_epochs.proofs.ScanLaws.{reached_last, reached_more}
use Rattle.round_workers.specs.Placed.{AreRenewed, AreSeen, HasWaited, IsNewer, IsRenewed, StandsAs}
use Rattle.round_workers.specs.Sharing.{IsColdAt}
use Rattle.round_workers.proofs.ColdLemmas.{cold_vacant}

-- ---- what was told and noted

pub stands-waited : (old new : Hand) → HasWaited old new → StandsAs old new
stands-waited old new waited = record {
  worker = waited.worker;
  entered = ap (λ (row : Row). row.entered) waited.row;
  done = ap (λ (row : Row). row.done) waited.row;
  left = λ of least has. subst (λ (noted : List Reached). HasReached noted of least) (sym waited.left) has;
  seen = λ of least has. subst (λ (noted : List Reached). HasReached noted of least) (sym waited.seen) has;
}

pub stands-after : (old new : Hand) (tells : Row) (found : List Loss) (given looked : List Reached) → IsAfter old new tells found given looked
    → tells.entered ≡ entered old → tells.done ≡ done old → StandsAs old new
stands-after old new tells found given looked after same through = record {
  worker = after.worker;
  entered = ap (λ (row : Row). row.entered) after.row ∙ same;
  done = ap (λ (row : Row). row.done) after.row ∙ through;
  left = λ of least has. subst (λ (noted : List Reached). HasReached noted of least) (sym after.left) (reached_more (left old) given of least has);
  seen = λ of least has. subst (λ (noted : List Reached). HasReached noted of least) (sym after.seen) (reached_more (seen old) looked of least has);
}

pub stands-then : (one two three : Hand) → StandsAs one two → StandsAs two three → StandsAs one three
stands-then one two three first second = record {
  worker = second.worker ∙ first.worker;
  entered = second.entered ∙ first.entered;
  done = second.done ∙ first.done;
  left = λ of least has. second.left of least (first.left of least has);
  seen = λ of least has. second.seen of least (first.seen of least has);
}

-- ---- clocks

-- a clock of the table is told by its stamp
pub clock_told : (terms : Terms) (clock : Reading) (stamp : Stamp) → IsClockOf terms clock → stamp ≡ clock.at → clock_at terms stamp ≡ clock
clock_told terms clock stamp is at = λ i. record { first = sym is.first i; end = sym is.end i; at = at i }

-- ---- the epochs of elements

pub not_newer : (epoch : ℕ) (content : Content) → (IsNewer epoch content → ⊥) → Waits (λ e. e ≤ epoch) content
not_newer epoch (cold shard) not = ⊎_elim (λ (less : epoch < shard.stamp.epoch). absurd (not less)) (λ (there : shard.stamp.epoch ≤ epoch). there) (cases_lt epoch shard.stamp.epoch)
not_newer epoch (hot kept) not = ⊎_elim (λ (less : epoch < kept.stamp.epoch). absurd (not less)) (λ (there : kept.stamp.epoch ≤ epoch). there) (cases_lt epoch kept.stamp.epoch)
not_newer epoch vacant not = tt

pub stale_waits : (epoch : ℕ) (content : Content) → IsStale epoch content → Waits (λ e. e ≤ epoch) content
stale_waits epoch (cold shard) stale = omega (arith, stale)
stale_waits epoch (hot kept) stale = omega (arith, stale)
stale_waits epoch vacant stale = tt

-- an element of the next epoch is near the worker's once it entered that
pub newer_near : (terms : Terms) (entered done : ℕ) (content : code.Content) → IsNewer (first_epoch terms + entered) (shown_content content)
    → IsNear terms entered done content → IsNear terms (suc entered) done content
newer_near terms entered done content newer near = go (shown_content content) newer near
  where
    go : (c : Content) → IsNewer (first_epoch terms + entered) c
        → Waits (λ epoch. (first_epoch terms ≤ epoch) × (first_epoch terms + entered ≤ suc epoch) × (epoch ≤ suc (first_epoch terms + done)) × (epoch ≤ final_epoch terms)) c
        → Waits (λ epoch. (first_epoch terms ≤ epoch) × (first_epoch terms + suc entered ≤ suc epoch) × (epoch ≤ suc (first_epoch terms + done)) × (epoch ≤ final_epoch terms)) c
    go (cold shard) later waits = (waits.0, omega (arith, later), waits.2, waits.3)
    go (hot kept) later waits = (waits.0, omega (arith, later), waits.2, waits.3)
    go vacant later waits = tt

-- an element is up to date still once the worker entered the next epoch
pub kept_entered : (terms : Terms) (place worker entered done : ℕ) (content : code.Content) → IsUpToDate terms place worker entered done content
    → IsUpToDate terms place worker (suc entered) done content
kept_entered terms place worker entered done content kept = record { own = kept.own; alone = λ alone. go (shown_content content) (kept.alone alone) }
  where
    go : (c : Content) → Waits (λ epoch. epoch ≤ first_epoch terms + entered) c → Waits (λ epoch. epoch ≤ first_epoch terms + suc entered) c
    go (cold shard) to = omega (arith, to)
    go (hot kept) to = omega (arith, to)
    go vacant to = tt

-- a worker that is alone finds no newer one
pub newer_beside : (terms : Terms) (place worker entered done : ℕ) (content : code.Content) → IsUpToDate terms place worker entered done content
    → IsNewer (first_epoch terms + entered) (shown_content content) → terms.workers ≡ 1 → ⊥
newer_beside terms place worker entered done content kept newer alone = go (shown_content content) newer (kept.alone alone)
  where
    go : (c : Content) → IsNewer (first_epoch terms + entered) c → Waits (λ epoch. epoch ≤ first_epoch terms + entered) c → ⊥
    go (cold shard) later to = omega (arith, later, to)
    go (hot kept) later to = omega (arith, later, to)
    go vacant later to = later

-- a newer one is of no epoch before the next
pub newer_from : (terms : Terms) (entered : ℕ) (content : Content) → IsNewer (first_epoch terms + entered) content
    → Waits (λ epoch. first_epoch terms + suc entered ≤ epoch) content
newer_from terms entered (cold shard) later = omega (arith, later)
newer_from terms entered (hot kept) later = omega (arith, later)
newer_from terms entered vacant later = tt

-- of no earlier epoch and of no later one, it is of this
pub waits_here : (low high : ℕ) (content : Content) → low ≡ high → Waits (λ epoch. low ≤ epoch) content → Waits (λ epoch. epoch ≤ high) content
    → Waits (λ epoch. epoch ≡ high) content
waits_here low high (cold shard) same from to = omega (arith, same, from, to)
waits_here low high (hot kept) same from to = omega (arith, same, from, to)
waits_here low high vacant same from to = tt

-- ---- the worker's own places

not_stale : (epoch : ℕ) (content : Content) → (IsStale epoch content → ⊥) → content ≢ vacant → epoch ≤ epoch_of content
not_stale epoch (cold shard) not some = ⊎_elim (λ (less : shard.stamp.epoch < epoch). absurd (not less)) (λ (there : epoch ≤ shard.stamp.epoch). there) (cases_lt shard.stamp.epoch epoch)
not_stale epoch (hot kept) not some = ⊎_elim (λ (less : kept.stamp.epoch < epoch). absurd (not less)) (λ (there : epoch ≤ kept.stamp.epoch). there) (cases_lt kept.stamp.epoch epoch)
not_stale epoch vacant not some = absurd (some refl)

-- a content that isn't stale is vacant, or waits with an element of the epoch or of a later one
pub fresh_or_vacant : (epoch : ℕ) (content : Content) → (IsStale epoch content → ⊥) → (content ≡ vacant) ⊎ (epoch ≤ epoch_of content)
fresh_or_vacant epoch (cold shard) not = inr (not_stale epoch (cold shard) not (λ same. cc))
fresh_or_vacant epoch (hot kept) not = inr (not_stale epoch (hot kept) not (λ same. cc))
fresh_or_vacant epoch vacant not = inl refl

pub renewed-stands : (terms : Terms) (old new : Hand) (place : ℕ) → StandsAs old new → IsRenewed terms old place → IsRenewed terms new place
renewed-stands terms old new place stands renewed = ⊎_elim
    (λ (none' : first_at terms place ≡ Vacant). inl none')
    (λ (has : HasReached (left old) place (first_epoch terms + entered old)).
    inr (subst (λ (n : ℕ). HasReached (left new) place (first_epoch terms + n)) (sym stands.entered) (stands.left place (first_epoch terms + entered old) has)))
    renewed

pub all_renewed-stands : (terms : Terms) (old new : Hand) (below : ℕ) → StandsAs old new → AreRenewed terms old below → AreRenewed terms new below
all_renewed-stands terms old new below stands are place less there own = renewed-stands terms old new place stands (are place less there (own ∙ stands.worker))

-- one shard more
pub renewed-next : (terms : Terms) (hand : Hand) (shard : ℕ) → ((place : ℕ) → place < place_count terms → IsColdAt place (shown_content (first_at terms place)))
    → (owner terms (shard * 5) ≡ worker_of hand → IsRenewed terms hand (shard * 5)) → AreRenewed terms hand (shard * 5) → AreRenewed terms hand ((shard + 1) * 5)
renewed-next terms hand shard cold' here before place below there own = go (cases_lt place (shard * 5)) (cases_eq place (shard * 5))
  where
    go : (place < shard * 5) ⊎ (shard * 5 ≤ place) → (place ≡ shard * 5) ⊎ (place ≢ shard * 5) → IsRenewed terms hand place
    go (inl less) which = before place less there own
    go (inr least) (inl same) = subst (IsRenewed terms hand) (sym same) (here (ap (owner terms) (sym same) ∙ own))
    go (inr least) (inr other) = inl (cold_vacant place (first_at terms place) (cold' place there) (λ multiple. other (omega (arith, multiple, below, least))))

-- ---- the other workers

pub seen-stands : (old new : Hand) (below : ℕ) → StandsAs old new → AreSeen old below → AreSeen new below
seen-stands old new below stands are worker less =
    subst (λ (n : ℕ). HasReached (seen new) worker n) (sym stands.entered) (stands.seen worker (entered old) (are worker less))

-- one worker more was found to be through with it
pub seen-more : (old new : Hand) (worker least : ℕ) → StandsAs old new → seen new ≡ seen old ++ record { of = worker; least = least } ∷ [] → entered old ≤ least
    → AreSeen old worker → AreSeen new (worker + 1)
seen-more old new worker least stands found far are other below = ⊎_elim
    (λ (less : other < worker). seen-stands old new worker stands are other less)
    (λ (there : worker ≤ other).
    subst (λ (noted : List Reached). HasReached noted other (entered new)) (sym found)
    (reached_last (seen old) (record { of = worker; least = least }) other (entered new) (omega (arith, there, below)) (let same = stands.entered in omega (arith, same, far))))
    (cases_lt other worker)
