-- A get that misses its key along the records on the way to it: the paths come in and go again with their values, and under
-- the last of them the key is absent.
use Rattle.std.proofs.Common.{ℕ, ◌≡◌, suc, ◌<◌, ◌≤◌, Bool, true, false, not, List, [], ◌∷◌, ◌++◌, length, Option, Some, if◌then◌else◌, refl, sym, ◌∙◌, ap, subst, inl, arith}
use Rattle.std.proofs.lemmas.Bool.{false≢true}
use Rattle.tree_keys.specs.Path.{side, IsData, is_data}
use Rattle.tree_keys.proofs.SideLaws.{is_prefix-self}
use Rattle.tree_keys.proofs.TreeLaws.{data-is}
use Rattle.lamport_clocks.specs.Reading.{Reading}
use Rattle.record_text.specs.declared.value.Pointer.{Pointer}
use Rattle.record_text.specs.declared.value.Node.{Node}
use Rattle.record_text.specs.declared.value.Value.{Value}
use Rattle.record_text.specs.declared.value.Value.TheVariants as values
use Rattle.record_text.specs.declared.refusal.Refusal.TheVariants as refusals
use Rattle.record_text.specs.Value.{IsOf, node_side}
use Rattle.log_codec.specs.declared.command.Command.TheVariants.{Absent}
use Rattle.merkle_records.specs.Merkle.{Digest, leads_over}
use Rattle.verifier_cache.specs.declared.entry.Entry.{Entry}
use Rattle.verifier_cache.specs.declared.entry.Hold.{Hold}
use Rattle.verifier_cache.specs.declared.entry.Hold.TheVariants.{M}
use Rattle.verifier_cache.specs.Entry.{new_entry}
use Rattle.verifier_cache.specs.Cache.{entry_of}
use Rattle.verifier_commands.specs.Change.{did_get}
use Rattle.verifier_commands.specs.Changes.{above, above_on, unset, absent_under}
use Rattle.verifier_commands.specs.Transition.{Rules}
use Rattle.host_shard.specs.declared.link.Link.{Link}
use Rattle.host_shard.specs.Tree.{Tree}
use Rattle.host_shard.specs.Chain.{IsChain, pointer_toward, last_value, end_path, known_links, ends_new}
use Rattle.host_laws.specs.Running.{Access, access_of}
use Rattle.host_laws.proofs.StepLemmas.{test-passed, need-there, and_then-there}
use Rattle.host_laws.proofs.RunLaws.{run-one}
use Rattle.host_laws.proofs.StandingLemmas.{entry_of-last}
use Rattle.host_laws.proofs.WorksLaws.{standing, Works}
use Rattle.host_laws.proofs.ChainLaws.{LeadTo, AreOf, IsNext, next_fits}
use Rattle.host_laws.proofs.StayLaws.{toward_key}
use Rattle.host_laws.proofs.VisitLemmas.{Visited, IsBased, at_next, visited_link}

-- there are no more of them than links
pub known_few : (key at : List Bool) (value : Value) (links : List Link) → length (known_links key at value links) ≤ length links
known_few key at value [] = omega arith
known_few key at value (link ∷ links) = go (known_few key link.path link.taken links) (leads_over (pointer_toward value (side at key)) key)
  where
    go : length (known_links key link.path link.taken links) ≤ length links → (b : Bool)
        → length (if b then link ∷ known_links key link.path link.taken links else []) ≤ suc (length links)
    go few true = omega arith
    go few false = omega arith

-- the access that such a get is
abbrev pub missed_access : List Bool → Access
missed_access key = access_of false (unset key)

-- ---- the end

-- the key is absent under a node whose pointer on its side leads neither to it nor above it
works_absent : (rules : Rules) (at key : List Bool) (hold : Hold) (node : Node) (on : Bool) (clock : Reading)
    → IsData key → side at key ≡ Some on → leads_over (node_side node on) key ≡ false
    → Works rules 0 at hold (values.Node node) clock (Absent key at ∷ []) ((clock.at, did_get (unset key)) ∷ []) (values.Node node) clock
works_absent rules at key hold node on clock whole below past front room clear roomy =
    run-one rules (standing front room clock holder) (Absent key at) _ _
    (test-passed (not (is_data key)) refusals.NotData _ _ (ap (λ (b : Bool). not b) (data-is key whole))
    (need-there (entry_of at (front ++ holder ∷ [])) refusals.ParentNotCached _ _ holder (entry_of-last front holder (clear at (is_prefix-self at)))
    (and_then-there (absent_under holder key) _ _ (unset key)
    (need-there (above holder key) refusals.NotBelow _ _ (record { on = on; node = node }) (ap (λ (s : Option Bool). above_on s (Some node)) below)
    (test-passed (leads_over (node_side node on) key) refusals.Present _ _ past refl))
    refl)))
  where
    holder : Entry
    holder = new_entry at (values.Node node) hold

-- ---- along the records

module _ (rules : Rules) (tree base : Tree) (clock : Reading) (key : List Bool) (lead : LeadTo rules.scheme.format.longest rules.scheme.digest tree key) where
  abbrev longest : ℕ
  longest = rules.scheme.format.longest

  abbrev digest : Digest
  digest = rules.scheme.digest

  absent_end : (at : List Bool) (hold : Hold) (value : Value) (link : Link) (next : IsNext longest digest tree key at value link)
      → leads_over (pointer_toward value (side at key)) key ≡ false
      → Visited rules base at hold value [] clock (Absent key at) (missed_access key) value
  absent_end at hold value link next past = record {
    told = (clock.at, did_get (unset key)) ∷ [];
    works = subst (λ (v : Value). Works rules 0 at hold v clock (Absent key at ∷ []) ((clock.at, did_get (unset key)) ∷ []) v clock) (sym next.is_node)
        (works_absent rules at key hold next.node next.on clock lead.whole next.on_side
        (ap (λ (o : Option Pointer). leads_over o key) (sym (toward_key longest digest tree base key lead at value link next)) ∙ past));
    added = refl;
    evicted = refl;
    accesses = refl;
    at_clock = (refl, tt);
    outside = λ path apart. refl;
    once = λ path. inl (refl, refl);
  }

  -- A get that misses its key works along the records on the way to it.
  pub missed_visit : (at : List Bool) (hold : Hold) (value : Value) (links : List Link) → 0 < length at → IsOf longest at value → AreOf tree value
      → IsBased rules tree base clock key lead at → IsChain tree key at value links → ends_new key at value links ≡ true
      → let known = known_links key at value links in
      Visited rules base at hold value known clock (Absent key (end_path at known)) (missed_access key) (last_value value known)
  missed_visit at hold value [] some kind known based chain new = absurd (false≢true new)
  missed_visit at hold value (link ∷ links) some kind known based chain new =
      let next = next_fits longest digest tree key lead at value link kind known chain.0 in
      let below = at_next rules tree base clock key lead at value link next some based in
      go next (missed_visit link.path M link.taken links below.0 next.kind next.known below.1 chain.1) (leads_over (pointer_toward value (side at key)) key) refl new
    where
      more : List Link
      more = known_links key link.path link.taken links

      go : (next : IsNext longest digest tree key at value link)
          → (ends_new key link.path link.taken links ≡ true → Visited rules base link.path M link.taken more clock (Absent key (end_path link.path more)) (missed_access key) (last_value link.taken more))
          → (b : Bool) → leads_over (pointer_toward value (side at key)) key ≡ b → (if b then ends_new key link.path link.taken links else true) ≡ true
          → let gone = if b then link ∷ more else [] in
          Visited rules base at hold value gone clock (Absent key (end_path at gone)) (missed_access key) (last_value value gone)
      go next rest false past ends = absent_end at hold value link next past
      go next rest true over ends =
          subst (λ (v : Value). Visited rules base at hold v (link ∷ more) clock (Absent key (end_path link.path more)) (missed_access key) (last_value link.taken more)) (sym next.is_node)
          (visited_link rules tree base clock key lead at hold link more (Absent key (end_path link.path more)) (missed_access key) value (last_value link.taken more) some based next (rest ends))
