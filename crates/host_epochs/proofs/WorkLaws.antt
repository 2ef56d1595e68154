-- What an entry does to the clock, and to the epoch of the element.
use Rattle.std.proofs.Common.{◌≡◌, ℕ, ◌≤◌, Bool, refl, sym, ap, ◌∙◌, subst, Option, Some, None}
use Rattle.lamport_clocks.specs.Reading.{Reading}
use Rattle.record_text.specs.declared.request.Request.{Request}
use Rattle.merkle_records.specs.Merkle.{Digest}
use Rattle.host_shard.specs.Content.{Content, cold, hot, vacant}
use Rattle.host_shard.specs.Shown.{shown_content}
use Rattle.host_plan.specs.declared.plans.Plan.{Plan}
use Rattle.host_plan.specs.Plan.{IsPlan, clock_after}
use Rattle.host_epochs.specs.declared.told.Entry.{Entry}
use Rattle.host_epochs.specs.Scan.{IsStale, scanned}
use Rattle.host_epochs.specs.Terms.{Terms, Waits, IsClockOf, first_epoch, final_epoch}
use Rattle.host_epochs.specs.Told.{IsWork, IsAsked}

-- ---- the clock

record Stays (clock later : Reading) : Type 0 where
  pub first : later.first ≡ clock.first
  pub end : later.end ≡ clock.end
  pub epoch : later.at.epoch ≡ clock.at.epoch

after_stays : (content : Content) (clock : Reading) → Stays clock (clock_after content clock)
after_stays (cold shard) clock = record { first = refl; end = refl; epoch = refl }
after_stays (hot record') clock = record { first = refl; end = refl; epoch = refl }
after_stays vacant clock = record { first = refl; end = refl; epoch = refl }

pub later_is : (terms : Terms) (entry : Entry) (request : Option Request) → IsWork terms entry request → entry.later ≡ clock_after (shown_content entry.before) entry.clock
later_is terms entry (Some request) work = work.plan.clock
later_is terms entry None work = work.clock

later_stays : (terms : Terms) (entry : Entry) → IsAsked terms entry → Stays entry.clock entry.later
later_stays terms entry asked = subst (Stays entry.clock) (sym (later_is terms entry entry.request asked.work)) (after_stays (shown_content entry.before) entry.clock)

pub later_epoch : (terms : Terms) (entry : Entry) → IsAsked terms entry → entry.later.at.epoch ≡ entry.clock.at.epoch
later_epoch terms entry asked = (later_stays terms entry asked).epoch

pub later_clock : (terms : Terms) (entry : Entry) → IsAsked terms entry → IsClockOf terms entry.later
later_clock terms entry asked =
    let stays = later_stays terms entry asked in
    let clock = asked.clock in
    record {
      first = stays.first ∙ clock.first;
      end = stays.end ∙ clock.end;
      from = subst (λ (e : ℕ). first_epoch terms ≤ e) (sym stays.epoch) clock.from;
      to = subst (λ (e : ℕ). e ≤ final_epoch terms) (sym stays.epoch) clock.to;
    }

-- ---- the element

service_waits : (absent : Bool) (digest : Digest) (worker : ℕ) (content after : Content) (request : Request) (clock later : Reading) (plan : Plan)
    → IsPlan absent digest worker content request clock plan after later → Waits (λ epoch. epoch ≡ clock.at.epoch) after
service_waits absent digest worker (cold shard) after request clock later plan is = subst (Waits (λ epoch. epoch ≡ clock.at.epoch)) (sym is.content) refl
service_waits absent digest worker (hot kept) after request clock later plan is = subst (Waits (λ epoch. epoch ≡ clock.at.epoch)) (sym is.content) refl
service_waits absent digest worker vacant after request clock later plan is = absurd is.way

scan_waits : (worker : ℕ) (content after : Content) (clock : Reading) → after ≡ scanned worker content clock → Waits (λ epoch. epoch ≡ clock.at.epoch) after
scan_waits worker (cold shard) after clock is = subst (Waits (λ epoch. epoch ≡ clock.at.epoch)) (sym is) refl
scan_waits worker (hot kept) after clock is = subst (Waits (λ epoch. epoch ≡ clock.at.epoch)) (sym is) refl
scan_waits worker vacant after clock is = subst (Waits (λ epoch. epoch ≡ clock.at.epoch)) (sym is) tt

-- the element that an entry leaves is of its clock's epoch
pub work_waits : (terms : Terms) (entry : Entry) (request : Option Request) → IsWork terms entry request → Waits (λ epoch. epoch ≡ entry.clock.at.epoch) (shown_content entry.after)
work_waits terms entry (Some request) work = service_waits terms.absent terms.digest entry.worker (shown_content entry.before) (shown_content entry.after) request entry.clock entry.later entry.plan work.plan
work_waits terms entry None work = scan_waits entry.worker (shown_content entry.before) (shown_content entry.after) entry.clock work.content

-- there is no entry of a place that has nothing
pub work_some : (terms : Terms) (entry : Entry) (request : Option Request) → IsWork terms entry request → shown_content entry.before ≡ vacant → ⊥
work_some terms entry (Some request) work none = subst (λ (c : Content). Rattle.host_plan.specs.Plan.AreLinks c request.key work.plan.links) none work.plan.way
work_some terms entry None work none = subst (IsStale entry.clock.at.epoch) none work.stale
