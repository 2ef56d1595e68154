-- What a worker that holds a place may do there, and what it then has done.
use Rattle.std.proofs.Common.{◌≡◌, ℕ, ◌+◌, ◌<◌, ◌≤◌, Option, Some, None, refl, sym, ◌∙◌, ap, subst, arith}
use Rattle.std.proofs.lemmas.Option.{none-some, same_Some}
use Rattle.lamport_clocks.specs.Reading.{Reading}
use Rattle.record_text.specs.declared.request.Request.{Request}
use Rattle.record_text.specs.Longest.{longest_blob}
use Rattle.record_text.specs.Value.{IsBlob}
use Rattle.host_shard.specs.declared.content.Content as code
use Rattle.host_shard.specs.Content.{Content}
use Rattle.host_shard.specs.Shown.{shown_content}
use Rattle.host_plan.specs.declared.plans.Plan.{Plan}
use Rattle.host_plan.specs.Plan.{IsPastEnd, IsPlan, clock_after}
use Rattle.host_epochs.specs.declared.hand.Hand.{Hand}
use Rattle.host_epochs.specs.declared.told.Entry.{Entry}
use Rattle.host_epochs.specs.Calls.{MayNote, Notes}
use Rattle.host_epochs.specs.Hands.{worker_of, entries, entered, stop, content}
use Rattle.host_epochs.specs.Scan.{scan_commands}
use Rattle.host_epochs.specs.Terms.{Terms, IsClockOf, IsPlaceOf, Waits, first_epoch, owner}
use Rattle.host_epochs.specs.Told.{IsClockBehind, IsWork}
use Rattle.table_order.specs.Rounds.{turn_of}
use Rattle.round_workers.specs.Order.{IsFresh}
use Rattle.round_workers.specs.Sharing.{MayGoOn}
use Rattle.round_workers.proofs.HandLemmas.{waits_here}
use Rattle.host_table.proofs.PlanLaws.{plan_one}

-- In a later epoch than that of the making a clock is behind its first.
pub clock_later : (terms : Terms) (clock : Reading) (entered : ℕ) → IsClockOf terms clock → clock.at.epoch ≡ first_epoch terms + entered
    → (0 < terms.more → MayGoOn terms) → 0 < entered → clock.first < clock.at.epoch
clock_later terms clock entered is here further later =
    let to = is.to in
    let first = is.first in
    let from = (further (omega (arith, to, here, later))).first in
    omega (arith, first, from, here, later)

-- It entered no more epochs than may be entered.
pub entered_within : (terms : Terms) (clock : Reading) (entered : ℕ) → IsClockOf terms clock → clock.at.epoch ≡ first_epoch terms + entered → entered ≤ terms.more
entered_within terms clock entered is here = let to = is.to in omega (arith, to, here)

-- A request that has a plan may be noted.
pub may_serve : (terms : Terms) (hand : Hand) (place : ℕ) (clock : Reading) (request : Request) (plan : Plan) (taken given : code.Content) (later : Reading)
    → stop hand ≡ None → IsClockBehind terms (entries hand) (entered hand) clock → worker_of hand < terms.workers → content hand ≡ taken
    → Waits (λ epoch. epoch ≤ first_epoch terms + entered hand) (shown_content taken) → IsPlaceOf terms place request.key → IsBlob longest_blob request.value
    → IsPlan terms.absent terms.digest (worker_of hand) (shown_content taken) request clock plan (shown_content given) later
    → (IsPastEnd (shown_content taken) clock → ⊥) → MayNote terms hand place clock (Some request) given
may_serve terms hand place clock request plan taken given later going behind known is waits at value planned within = record {
  going = going;
  behind = behind;
  reached = λ _. subst (λ (bound : ℕ × code.Content). Waits (λ epoch. epoch ≤ bound.0) (shown_content bound.1)) (λ i. (sym behind.epoch i, sym is i)) waits;
  entry = record {
    place = place;
    worker = worker_of hand;
    clock = clock;
    before = content hand;
    request = Some request;
    plan = plan;
    after = given;
    later = later;
  };
  is = record { place_is = refl; worker_is = refl; before_is = refl; clock_is = refl; request_is = refl; after_is = refl };
  asked = record {
    by = known;
    clock = behind.is;
    work = record {
      at = at;
      value = value;
      plan = subst (λ (x : code.Content). IsPlan terms.absent terms.digest (worker_of hand) (shown_content x) request clock plan (shown_content given) later) (sym is) planned;
    };
    within = subst (λ (x : code.Content). IsPastEnd (shown_content x) clock → ⊥) (sym is) within;
  };
}

-- what was noted of a request has its plan
pub noted_plan : (terms : Terms) (hand new : Hand) (place : ℕ) (clock : Reading) (request : Request) (plan : Plan) (taken given : code.Content) (later : Reading)
    → content hand ≡ taken → IsPlan terms.absent terms.digest (worker_of hand) (shown_content taken) request clock plan (shown_content given) later
    → (notes : Notes terms hand place clock (Some request) given new) → (notes.entry.plan ≡ plan) × (notes.entry.later ≡ later)
noted_plan terms hand new place clock request plan taken given later is planned notes = go entry.request notes.is.request_is notes.done.asked.work
  where
    entry : Entry
    entry = notes.entry

    same : shown_content entry.before ≡ shown_content taken
    same = ap (λ (x : code.Content). shown_content x) (notes.is.before_is ∙ is)

    go : (asked : Option Request) → asked ≡ Some request → IsWork terms entry asked → (entry.plan ≡ plan) × (entry.later ≡ later)
    go None asks work = absurd (none-some request asks)
    go (Some other) asks work =
        plan_one terms.absent terms.digest entry.worker (worker_of hand) (shown_content entry.before) other entry.clock entry.plan plan
        (shown_content entry.after) (shown_content given) entry.later later work.plan
        (subst (λ (t : Content × Request × Reading). IsPlan terms.absent terms.digest (worker_of hand) t.0 t.1 t.2 plan (shown_content given) later)
        (λ i. (sym same i, sym (same_Some other request asks) i, sym notes.is.clock_is i)) planned)

-- what was noted of a scan has its commands
pub noted_scan : (terms : Terms) (hand new : Hand) (place : ℕ) (clock : Reading) (given : code.Content) (notes : Notes terms hand place clock None given new)
    → (notes.entry.plan.commands ≡ scan_commands (shown_content (content hand)) clock)
    × (notes.entry.later ≡ clock_after (shown_content (content hand)) clock)
noted_scan terms hand new place clock given notes = go entry.request notes.is.request_is notes.done.asked.work
  where
    entry : Entry
    entry = notes.entry

    same : shown_content entry.before ≡ shown_content (content hand)
    same = ap (λ (x : code.Content). shown_content x) notes.is.before_is

    go : (asked : Option Request) → asked ≡ None → IsWork terms entry asked
        → (entry.plan.commands ≡ scan_commands (shown_content (content hand)) clock)
        × (entry.later ≡ clock_after (shown_content (content hand)) clock)
    go (Some request) asks work = absurd (none-some request (sym asks))
    go None asks work = (
      work.commands ∙ (λ i. scan_commands (same i) (notes.is.clock_is i)),
      work.clock ∙ (λ i. clock_after (same i) (notes.is.clock_is i)),
    )

-- what was noted of a request at a place of the worker's own found an element of its clock's epoch
pub noted_fresh : (terms : Terms) (hand new : Hand) (place : ℕ) (clock : Reading) (request : Option Request) (taken given : code.Content)
    → content hand ≡ taken → clock.at.epoch ≡ first_epoch terms + entered hand
    → (owner terms place ≡ worker_of hand → Waits (λ epoch. first_epoch terms + entered hand ≤ epoch) (shown_content taken))
    → Waits (λ epoch. epoch ≤ first_epoch terms + entered hand) (shown_content taken)
    → (notes : Notes terms hand place clock request given new) → IsFresh terms.workers (turn_of notes.entry) notes.entry.request
noted_fresh terms hand new place clock request taken given is here from to notes = go notes.entry.request
  where
    entry : Entry
    entry = notes.entry

    go : (asked : Option Request) → IsFresh terms.workers (turn_of entry) asked
    go None = tt
    go (Some other) = λ own.
        let mine : owner terms place ≡ worker_of hand = ap (owner terms) (sym notes.is.place_is) ∙ own ∙ notes.is.worker_is in
        let at : first_epoch terms + entered hand ≡ entry.clock.at.epoch = sym here ∙ ap (λ (r : Reading). r.at.epoch) (sym notes.is.clock_is) in
        let before : shown_content taken ≡ shown_content entry.before = ap (λ (x : code.Content). shown_content x) (sym (notes.is.before_is ∙ is)) in
        subst (Waits (λ epoch. epoch ≡ entry.clock.at.epoch)) before
        (waits_here (first_epoch terms + entered hand) entry.clock.at.epoch (shown_content taken) at (from mine)
        (subst (λ (n : ℕ). Waits (λ epoch. epoch ≤ n) (shown_content taken)) at to))
