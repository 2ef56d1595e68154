-- Shards that are added, and the places of keys.
use Rattle.std.proofs.Common.{◌≡◌, ℕ, ◌<◌, ◌≤◌, Bool, List, [], ◌∷◌, ◌++◌, length, get_or, length-append, sym, ap, ◌∙◌, subst, ⊎_elim, arith}
use Rattle.std.proofs.lemmas.Bool.{cases_lt}
use Rattle.std.proofs.lemmas.List.{get_or_append_left, get_or_past}
use Rattle.std.proofs.Math.Seq.{get_or-append_seam}
use Rattle.host_shard.specs.declared.content.Content.{Content}
use Rattle.host_shard.specs.declared.content.Content.TheVariants.{Cold, Hot, Vacant}
use Rattle.host_shard.specs.declared.content.HotRecord.{HotRecord}
use Rattle.host_shard.specs.declared.shard.Shard.{Shard}
use Rattle.host_shard.specs.Shown.{shown_content}
use Rattle.host_table.specs.Terms.{Terms, IsMaking, IsStampOf, IsStamped, epoch_in, first_at, place_count}
use Rattle.std.proofs.lemmas.Option.{same_Some}
use Rattle.lamport_clocks.specs.declared.header.Header.{Header}
use Rattle.record_text.specs.declared.element.Element.{Element}
use Rattle.table_tests.specs.Ready.{AreReady, AreOwners, IsReady, IsOpenBelow}

-- one more shard
pub ready_more : (frontiers : List (List Bool)) (contents : List Content) (frontier : List Bool) (content : Content) → AreReady frontiers contents → IsReady frontier content
    → AreReady (frontiers ++ frontier ∷ []) (contents ++ content ∷ [])
ready_more frontiers contents frontier content ready one = record {
  count = omega (arith, ready.count, length-append frontiers (frontier ∷ []), length-append contents (content ∷ []));
  each = λ i f d below. ⊎_elim
      (λ lt. subst (λ (t : List Bool × Content). IsReady t.0 t.1)
      (λ k. (sym (get_or_append_left frontiers (frontier ∷ []) f i (omega (arith, lt, ready.count))) k, sym (get_or_append_left contents (content ∷ []) d i lt) k)) (ready.each i f d lt))
      (λ ge.
      let same : i ≡ length contents = omega (arith, ge, below, length-append contents (content ∷ [])) in
      let same' : i ≡ length frontiers = same ∙ sym ready.count in
      subst (λ (t : List Bool × Content). IsReady t.0 t.1)
      (λ k. (sym (ap (λ n. get_or (frontiers ++ frontier ∷ []) n f) same' ∙ get_or-append_seam frontiers frontier [] f) k, sym (ap (λ n. get_or (contents ++ content ∷ []) n d) same ∙ get_or-append_seam contents content [] d) k)) one)
      (cases_lt i (length contents));
}

-- a content that is a shard is no hot record
no_hot : (content : Content) (shard : Shard) (kept : HotRecord) → content ≡ Cold shard → content ≡ Hot kept → ⊥
no_hot content shard kept cold hot = go (sym cold ∙ hot)
  where
    is_cold : Content → Type 0
    is_cold (Cold s) = Unit {0}
    is_cold (Hot h) = ⊥
    is_cold Vacant = ⊥

    go : Cold shard ≡ Hot kept → ⊥
    go e = subst is_cold e tt

-- a key below a shard's frontier has that shard's place
pub open_below : (terms : Terms) (frontiers : List (List Bool)) (place : ℕ) (f : List Bool) → AreReady frontiers terms.contents → place < length frontiers
    → IsOpenBelow terms place (get_or frontiers place f)
open_below terms frontiers place f ready there key below = record {
  there = omega (arith, there, ready.count);
  owns = (ready.each place f Vacant (omega (arith, there, ready.count))).owns key below;
  cold = λ other kept near hot same. ⊎_elim
      (λ lt. let one = ready.each other f Vacant lt in absurd (no_hot (first_at terms other) one.shard kept one.is hot))
      (λ ge. absurd (no_vacant kept (sym (get_or_past terms.contents other Vacant ge) ∙ hot)))
      (cases_lt other (place_count terms));
}
  where
    is_vacant : Content → Type 0
    is_vacant (Cold s) = ⊥
    is_vacant (Hot h) = ⊥
    is_vacant Vacant = Unit {0}

    no_vacant : (kept : HotRecord) → Vacant ≡ Hot kept → ⊥
    no_vacant kept e = subst is_vacant e tt

-- ---- a table of such shards

pub epoch_is : (frontiers : List (List Bool)) (contents : List Content) → AreReady frontiers contents → 0 < length contents → epoch_in contents ≡ 1
epoch_is frontiers [] ready some = absurd (omega arith)
epoch_is frontiers (content ∷ contents) ready some =
    let one = ready.each 0 [] Vacant some in
    subst (λ (c : Content). epoch_in (c ∷ contents) ≡ 1) (sym one.is) one.epoch

stamped_so : (header : Header) (content : Content) (frontier : List Bool) → 64 ≤ header.end → 0 < header.verifiers → IsReady frontier content → IsStamped header 1 (shown_content content)
stamped_so header content frontier end some ready =
    subst (λ (c : Content). IsStamped header 1 (shown_content c)) (sym ready.is)
    (λ element found. subst (λ (e : Element). IsStampOf header 1 e.stamp e.verifier) (same_Some _ element found)
    record {
      verifier = subst (λ (n : ℕ). n < header.verifiers) (sym ready.evictor) some;
      epoch_is = ready.epoch;
      counter = omega (arith, ready.counter, end);
    })

pub making_of : (header : Header) (workers : ℕ) (frontiers : List (List Bool)) (contents : List Content) → AreReady frontiers contents → 0 < length contents → 0 < workers → workers ≤ header.verifiers
    → 64 ≤ header.end → IsMaking header workers contents
making_of header workers frontiers contents ready some some_workers few end = record {
  places = some;
  some = some_workers;
  few = few;
  stamped = λ place below. subst (λ (n : ℕ). IsStamped header n (shown_content (get_or contents place Vacant))) (sym (epoch_is frontiers contents ready some))
      (stamped_so header (get_or contents place Vacant) (get_or frontiers place []) end (omega arith) (ready.each place [] Vacant below));
}

pub owners_of : (frontiers : List (List Bool)) (contents : List Content) → AreReady frontiers contents → AreOwners frontiers contents
owners_of frontiers contents ready = record { count = ready.count; each = λ i f d below. (ready.each i f d below).owns }
