-- What a worker's entries evict has rising stamps.
use Rattle.std.proofs.Common.{◌≡◌, ℕ, suc, ◌<◌, Bool, List, [], ◌∷◌, ◌++◌, length, Option, Some, None, inl, inr, refl, sym, ◌∙◌, ap, subst, arith}
use Rattle.std.specs.List.{AllByRecursion}
use Rattle.std.specs.Ordering.{is_lt}
use Rattle.lamport_clocks.specs.declared.stamp.Stamp.{Stamp}
use Rattle.lamport_clocks.specs.Reading.{Reading}
use Rattle.lamport_clocks.specs.Stamp.{IsLater}
use Rattle.lamport_clocks.proofs.StampLaws.{IsLater-cmp}
use Rattle.record_text.specs.declared.element.Element.{Element}
use Rattle.record_text.specs.declared.request.Request.{Request}
use Rattle.merkle_records.specs.Merkle.{Digest}
use Rattle.verifier_commands.proofs.TickLaws.{IsUpTo, up_to-trans}
use Rattle.soundness.specs.Timed.{IsEarlier, IsRising}
use Rattle.host_shard.specs.declared.link.Link.{Link}
use Rattle.host_shard.specs.Content.{Content, cold, hot, vacant, pending, pending_hot}
use Rattle.host_shard.specs.Shard.{pending_shard}
use Rattle.host_shard.specs.Shown.{shown_content}
use Rattle.host_plan.specs.Plan.{AreLinks, clock_after, content_after}
use Rattle.host_plan.specs.Request.{is_missed, served, served_hot}
use Rattle.host_plan.specs.Moments.{renewing}
use Rattle.host_laws.specs.Served.{waiting}
use Rattle.host_epochs.specs.declared.told.Entry.{Entry}
use Rattle.host_epochs.specs.Scan.{IsStale, scanned}
use Rattle.host_epochs.specs.Terms.{Terms}
use Rattle.host_epochs.specs.Told.{GoesOn, IsAsked, IsWork, Continues, TakesUp}
use Rattle.table_order.specs.RoundMirroring.{evicted_in}

-- The element with which what a request leaves waits: the worker's, with the clock's last stamp, which is later than the one
-- before.
pub record IsEvictOf (worker : ℕ) (before later : Stamp) (content : Content) : Type 0 where
  pub element : Element
  pub waits : pending content ≡ Some element
  pub own : element.verifier ≡ worker
  pub at : element.stamp ≡ later
  pub in_epoch : later.epoch ≡ before.epoch
  pub risen : before.counter < later.counter

evict_after : (absent : Bool) (digest : Digest) (worker : ℕ) (content : Content) (links : List Link) (request : Request) (clock : Reading)
    → AreLinks content request.key links
    → IsEvictOf worker clock.at (clock_after content clock).at (content_after absent digest worker content links request clock)
evict_after absent digest worker (cold shard) links request clock way = record {
  element = pending_shard (served digest worker shard links request clock (is_missed absent shard links request));
  waits = refl;
  own = refl;
  at = refl;
  in_epoch = refl;
  risen = omega arith;
}
evict_after absent digest worker (hot found) links request clock way = record {
  element = pending_hot (served_hot worker found request clock);
  waits = refl;
  own = refl;
  at = refl;
  in_epoch = refl;
  risen = omega arith;
}
evict_after absent digest worker vacant links request clock way = absurd way

-- the same of what a scan leaves
scan_evict : (worker : ℕ) (content : Content) (clock : Reading) → IsStale clock.at.epoch content
    → IsEvictOf worker clock.at (clock_after content clock).at (scanned worker content clock)
scan_evict worker (cold shard) clock stale = record {
  element = pending_shard (record shard { stamp = (renewing clock shard.stamp).at; evictor = worker; touches = λ k. 0 });
  waits = refl;
  own = refl;
  at = refl;
  in_epoch = refl;
  risen = omega arith;
}
scan_evict worker (hot found) clock stale = record {
  element = pending_hot (record found { stamp = (renewing clock found.stamp).at; evictor = worker; touches = 0 });
  waits = refl;
  own = refl;
  at = refl;
  in_epoch = refl;
  risen = omega arith;
}
scan_evict worker vacant clock stale = absurd stale

-- of what an entry of a round leaves
pub entry_evict : (terms : Terms) (entry : Entry) (request : Option Request) → IsWork terms entry request
    → IsEvictOf entry.worker entry.clock.at entry.later.at (shown_content entry.after)
entry_evict terms entry (Some request) work =
    subst (λ (c : Content). IsEvictOf entry.worker entry.clock.at entry.later.at c) (sym work.plan.content)
    (subst (λ (r : Reading). IsEvictOf entry.worker entry.clock.at r.at
    (content_after terms.absent terms.digest entry.worker (shown_content entry.before) work.plan.links request entry.clock)) (sym work.plan.clock)
    (evict_after terms.absent terms.digest entry.worker (shown_content entry.before) work.plan.links request entry.clock work.plan.way))
entry_evict terms entry None work =
    subst (λ (c : Content). IsEvictOf entry.worker entry.clock.at entry.later.at c) (sym work.content)
    (subst (λ (r : Reading). IsEvictOf entry.worker entry.clock.at r.at (scanned entry.worker (shown_content entry.before) entry.clock)) (sym work.clock)
    (scan_evict entry.worker (shown_content entry.before) entry.clock work.stale))

-- ---- a list of them

-- a stamp up to another is before what is later than that
up_later : (s t u : Stamp) → IsUpTo s t → IsLater u t → IsLater u s
up_later s t u (inl a) (inl b) = inl (omega (arith, a, b))
up_later s t u (inl a) (inr b) = inl (omega (arith, a, b.0))
up_later s t u (inr a) (inl b) = inl (omega (arith, a.0, b))
up_later s t u (inr a) (inr b) = inr (a.0 ∙ b.0, omega (arith, a.1, b.1))

-- a clock that goes on does not fall
goes_up : (clock later : Reading) → GoesOn clock later → IsUpTo clock.at later.at
goes_up clock later (inl same) =
    let epoch : clock.at.epoch ≡ later.at.epoch = ap (λ (r : Reading). r.at.epoch) (sym same) in
    let counter : clock.at.counter ≡ later.at.counter = ap (λ (r : Reading). r.at.counter) (sym same) in
    inr (epoch, omega (arith, counter))
goes_up clock later (inr turned) = inl turned.epoch

module _ (terms : Terms) where
  abbrev pub evict_of : (entry : Entry) → IsAsked terms entry → IsEvictOf entry.worker entry.clock.at entry.later.at (shown_content entry.after)
  evict_of entry asked = entry_evict terms entry entry.request asked.work

  -- what it evicts is later than its clock
  evict_later : (entry : Entry) → IsAsked terms entry → IsLater entry.later.at entry.clock.at
  evict_later entry asked = let evict = evict_of entry asked in inr (sym evict.in_epoch, evict.risen)

  -- one element, and then those of the others
  pub first_evicted : (P : List Element → Type 0) (entry : Entry) (entries : List Entry) (asked : IsAsked terms entry)
      → P ((evict_of entry asked).element ∷ evicted_in entries) → P (evicted_in (entry ∷ entries))
  first_evicted P entry entries asked holds =
      subst (λ (found : Option Element). P (waiting found ++ evicted_in entries)) (sym (evict_of entry asked).waits) holds

  -- as many as entries
  pub each_evicts : (entries : List Entry) → AllByRecursion (IsAsked terms) entries → length (evicted_in entries) ≡ length entries
  each_evicts [] asked = refl
  each_evicts (entry ∷ entries) asked =
      first_evicted (λ elements. length elements ≡ suc (length entries)) entry entries asked.0 (ap suc (each_evicts entries asked.1))

  pub own_evicts : (worker : ℕ) (entries : List Entry) → AllByRecursion (IsAsked terms) entries → AllByRecursion (λ entry. entry.worker ≡ worker) entries
      → AllByRecursion (λ element. element.verifier ≡ worker) (evicted_in entries)
  own_evicts worker [] asked own = tt
  own_evicts worker (entry ∷ entries) asked own =
      first_evicted (AllByRecursion (λ element. element.verifier ≡ worker)) entry entries asked.0
      ((evict_of entry asked.0).own ∙ own.0, own_evicts worker entries asked.1 own.1)

  -- all that is evicted from a clock on is later than a stamp up to which it stands
  later_evicts : (at : Stamp) (clock last : Reading) (entries : List Entry) → IsUpTo at clock.at → Continues clock entries last → AllByRecursion (IsAsked terms) entries
      → AllByRecursion (λ element. IsEarlier at element.stamp) (evicted_in entries)
  later_evicts at clock last [] up chained asked = tt
  later_evicts at clock last (entry ∷ entries) up chained asked =
      let evict = evict_of entry asked.0 in
      let later = up_later at entry.clock.at entry.later.at (up_to-trans at clock.at entry.clock.at up (goes_up clock entry.clock chained.0)) (evict_later entry asked.0) in
      first_evicted (AllByRecursion (λ element. IsEarlier at element.stamp)) entry entries asked.0 (
        subst (IsEarlier at) (sym evict.at) (ap is_lt ((IsLater-cmp at entry.later.at).0 later)),
        later_evicts at entry.later last entries (later_up at entry.later.at later) chained.1 asked.1,
      )
    where
      later_up : (s t : Stamp) → IsLater t s → IsUpTo s t
      later_up s t (inl a) = inl a
      later_up s t (inr a) = inr (a.0, omega (arith, a.1))

  -- What is evicted from a clock on rises.
  rising_evicts : (clock last : Reading) (entries : List Entry) → Continues clock entries last → AllByRecursion (IsAsked terms) entries → IsRising (evicted_in entries)
  rising_evicts clock last [] chained asked = tt
  rising_evicts clock last (entry ∷ entries) chained asked =
      let evict = evict_of entry asked.0 in
      first_evicted IsRising entry entries asked.0 (
        subst (λ (s : Stamp). AllByRecursion (λ element. IsEarlier s element.stamp) (evicted_in entries)) (sym evict.at)
            (later_evicts entry.later.at entry.later last entries (inr (refl, omega arith)) chained.1 asked.1),
        rising_evicts entry.later last entries chained.1 asked.1,
      )

  -- Behind a worker's first clock they rise.
  pub list_rises : (last : Reading) (entries : List Entry) → TakesUp terms entries last → AllByRecursion (IsAsked terms) entries → IsRising (evicted_in entries)
  list_rises last [] takes asked = tt
  list_rises last (entry ∷ entries) takes asked = rising_evicts entry.clock last (entry ∷ entries) (inl refl, takes) asked
