-- A table that is made of one content, and its worker.
use Rattle.std.proofs.Common.{◌≡◌, ℕ, zero, suc, ◌<◌, List, [], ◌∷◌, ◌++◌, length, length-append, get_or, All, refl, sym, ap, ◌∙◌, subst, Option, Some, None, arith}
use Rattle.std.proofs.lemmas.Option.{same_Some}
use Rattle.lamport_clocks.specs.declared.header.Header.{Header}
use Rattle.lamport_clocks.specs.Clock.{opening_reading}
use Rattle.record_text.specs.declared.element.Element.{Element}
use Rattle.record_text.specs.Longest.{longest_blob}
use Rattle.atomic_table.specs.Seated.{TableId}
use Rattle.host_shard.specs.declared.content.Content.{Content}
use Rattle.host_shard.specs.declared.content.Content.TheVariants.{Cold, Hot, Vacant}
use Rattle.host_shard.specs.declared.content.HotRecord.{HotRecord}
use Rattle.host_shard.specs.Content.{pending}
use Rattle.host_shard.specs.Shown.{shown_content}
use Rattle.host_plan.specs.Plan.{Owns}
use Rattle.host_epochs.specs.declared.hand.Hand.{Hand}
use Rattle.host_table.specs.declared.told.Service.{Service}
use Rattle.host_table.specs.Calls.{AreAll, IsNew}
use Rattle.host_table.specs.Terms.{Terms, IsMaking, IsPlaceOf, IsClockOf, IsStamped, IsStampOf, epoch_in}
use Rattle.host_table.specs.Told.{TakesUp}
use Rattle.starved_tests.specs.Seated.{CanAttempt, IsStart, IsWaiting, table_header}

no_element : (element : Element) → None ≡ Some element → ⊥
no_element element e = subst is_none e tt
  where
    is_none : Option Element → Type 0
    is_none None = Unit {0}
    is_none (Some x) = ⊥

no_vacant : (kept : HotRecord) → Vacant ≡ Hot kept → ⊥
no_vacant kept e = subst is_vacant e tt
  where
    is_vacant : Content → Type 0
    is_vacant (Cold shard) = ⊥
    is_vacant (Hot found) = ⊥
    is_vacant Vacant = Unit {0}

-- the epoch with which one content waits
epoch_is : (content : Content) (element : Element) → pending (shown_content content) ≡ Some element → epoch_in (content ∷ []) ≡ element.stamp.epoch
epoch_is (Cold shard) element is = ap (λ (e : Element). e.stamp.epoch) (same_Some _ element is)
epoch_is (Hot found) element is = ap (λ (e : Element). e.stamp.epoch) (same_Some _ element is)
epoch_is Vacant element is = absurd (no_element element is)

stamped_at : (content : Content) → IsWaiting (shown_content content) → (place : ℕ) → place < 1
    → IsStamped table_header (epoch_in (content ∷ [])) (shown_content (get_or (content ∷ []) place Vacant))
stamped_at content waiting zero below = λ element found.
    let same : waiting.element ≡ element = same_Some _ element (sym waiting.is ∙ found) in
    subst (λ (e : Element). IsStampOf table_header (epoch_in (content ∷ [])) e.stamp e.verifier) same
    record {
      verifier = subst (λ (n : ℕ). n < 1) (sym waiting.verifier) (omega arith);
      epoch_is = sym (epoch_is content waiting.element waiting.is);
      counter = waiting.counter;
    }
stamped_at content waiting (suc place) below = absurd (omega (arith, below))

-- a table may be made of it
pub making_of : (contents : List Content) → IsStart contents → IsMaking table_header 1 contents
making_of contents start = subst (IsMaking table_header 1) (sym start.is) record {
  places = omega arith;
  some = omega arith;
  few = omega arith;
  stamped = stamped_at start.content start.waiting;
}

hot_first : (content : Content) (other : ℕ) (kept : HotRecord) → get_or (content ∷ []) other Vacant ≡ Hot kept → other ≡ 0
hot_first content zero kept hot = refl
hot_first content (suc other) kept hot = absurd (no_vacant kept hot)

-- its place is that of key 1
place_of : (terms : Terms) → IsStart terms.contents → IsPlaceOf terms 0 1
place_of terms start = record {
  there = subst (λ (contents : List Content). 0 < length contents) (sym start.is) (omega arith);
  owns = subst (λ (contents : List Content). Owns longest_blob (shown_content (get_or contents 0 Vacant)) 1) (sym start.is) start.owns;
  cold = λ other kept near hot same. hot_first start.content other kept (sym (ap (λ (contents : List Content). get_or contents other Vacant) start.is) ∙ hot);
}

-- a new clock stands in its epoch
clock_of : (terms : Terms) → IsStart terms.contents → terms.header ≡ table_header → IsClockOf terms (opening_reading 0 16777215)
clock_of terms start header = record {
  first = sym (ap (λ (h : Header). h.first) header);
  end = sym (ap (λ (h : Header). h.end) header);
  epoch = sym (ap epoch_in start.is ∙ epoch_is start.content start.waiting.element start.waiting.is ∙ start.waiting.epoch);
}

-- the worker can attempt to serve key 1 there
pub can_attempt : (terms : Terms) (z : TableId) (hands : List Hand) (d : Hand) → IsStart terms.contents → terms.header ≡ table_header → AreAll z 1 hands → All IsNew hands
    → CanAttempt terms z (get_or hands 0 d) (opening_reading 0 16777215) 1
can_attempt terms z hands d start header all new =
    let there : 0 < length hands = omega (arith, all.count) in
    record {
      place = place_of terms start;
      free = all.free 0 d there;
      going = (new 0 d there).stop;
      clock_is = clock_of terms start header;
      chained = subst (λ (es : List Service). TakesUp es (opening_reading 0 16777215)) (sym (new 0 d there).services) tt;
    }

-- the one hand of a list
pub only_hand : (rest : List Hand) (hand : Hand) (hands : List Hand) → hands ≡ rest ++ hand ∷ [] → length hands ≡ 1 → get_or hands 0 hand ≡ hand
only_hand [] hand hands is one = ap (λ (hs : List Hand). get_or hs 0 hand) is
only_hand (other ∷ rest) hand hands is one =
    let many : length hands ≡ suc (length (rest ++ hand ∷ [])) = ap (λ (hs : List Hand). length hs) is in
    absurd (omega (arith, one, many, length-append rest (hand ∷ [])))
