-- The verdict on the parts of an epoch that all runs hand in is what the histories say of the epoch.
use Rattle.std.proofs.Common.{◌≡◌, ◌⊎◌, ℕ, suc, ◌+◌, ◌<◌, ◌≤◌, ◌==◌, nat_lt, Bool, true, false, cond, ◌&&◌, ◌||◌, if◌then◌else◌, List, [], ◌∷◌, ◌++◌, length, map, fold, Option, Some, None, MatchOption, inl, inr, refl, sym, ◌∙◌, ap, subst, append-nil, append_assoc, arith}
use Rattle.merkle_records.specs.Scheme.{Scheme}
use Rattle.std.specs.List.{AllByRecursion}
use Rattle.std.specs.Str.{bytes_eq}
use Rattle.std.proofs.lemmas.Bool.{cases_lt, cases_eq, eq-eqb, and_from, true≢false}
use Rattle.std.proofs.lemmas.Bool.Decides.{nat_tests}
use Rattle.lamport_clocks.specs.declared.header.Header.{Header}
use Rattle.record_text.specs.declared.element.Element.{Element}
use Rattle.record_text.specs.Same.{same_bytes}
use Rattle.log_codec.specs.Log.{Log, read_log}
use Rattle.multiset_sum.specs.declared.part.Part.{Part}
use Rattle.multiset_sum.specs.Tally.{Tally}
use Rattle.multiset_sum.specs.Sum.{joined}
use Rattle.epoch_gather.specs.declared.outcome.Verdict.{Verdict}
use Rattle.epoch_gather.specs.declared.outcome.Verdict.TheVariants.{Balanced, Unbalanced, Missing}
use Rattle.epoch_gather.specs.Parts.{of_epoch, has_part, lowest_missing, total}
use Rattle.epoch_gather.specs.Verdict.{verdict_by, verdict_of}
use Rattle.epoch_gather.proofs.VerdictLaws.{lowest_missing-is}
use Rattle.stamp_order.proofs.InOrderLaws.{every-weaker}
use Rattle.soundness.specs.History.{Event}
use Rattle.soundness.specs.Certified.{all_events, order_of, added_by, evicted_by, added_in, evicted_in, sum_over, sealed_count, sealed_by_all, is_balanced}
use Rattle.bundle_report.specs.BundleReport.{histories_in}
use Rattle.bundle_report.specs.RunReport.{courses_of, parts_at}
use Rattle.bundle_report.proofs.PartLemmas.{part_of}
use Rattle.bundle_report.proofs.RunReportLemmas.{told_from}
use Rattle.bundle_report.proofs.OrderSumLemmas.{sum_over-append, among, among-append, sum-order}
use Rattle.bundle_report.proofs.EpochPartLemmas.{part_told, parts_told, parts-told, told-length, IsAmong, told-among}

-- ---- what all have sealed

module _ (index : ℕ) where
  -- each of the histories has sealed the epoch with this number
  abbrev pub AllSeal : List (List Event) → Type 0
  AllSeal histories = AllByRecursion (λ events. index < sealed_count events) histories

  pub all_seal : (histories : List (List Event)) → index < sealed_by_all histories → AllSeal histories
  all_seal [] below = tt
  all_seal (history ∷ []) below = (below, tt)
  all_seal (history ∷ other ∷ histories) below =
      (omega (arith, below), all_seal (other ∷ histories) (omega (arith, below)))

  sealed_all : (histories : List (List Event)) → 0 < length histories → AllSeal histories
      → index < sealed_by_all histories
  sealed_all [] some all = absurd (omega (arith, some))
  sealed_all (history ∷ []) some all = all.0
  sealed_all (history ∷ other ∷ histories) some all =
      omega (arith, all.0, sealed_all (other ∷ histories) (omega arith) all.1)

-- ---- who is missing

or_true : (b : Bool) → (b || true) ≡ true
or_true true = refl
or_true false = refl

-- a part of another verifier is not the one that is looked for
other_part : (epoch verifier : ℕ) (part : Part) → (part.verifier ≡ verifier → ⊥)
    → (part.epoch == epoch && part.verifier == verifier) ≡ false
other_part epoch verifier part apart = grind (arith, nat_tests, apart)

-- nor is any of the later verifiers'
has_later : (epoch verifier : ℕ) (parts : List Part) → AllByRecursion (λ part. verifier < part.verifier) parts
    → has_part parts epoch verifier ≡ false
has_later epoch verifier [] all = refl
has_later epoch verifier (part ∷ parts) all =
    ap (λ (b : Bool). b || has_part parts epoch verifier)
    (other_part epoch verifier part (λ same. absurd (omega (arith, all.0, same))))
    ∙ has_later epoch verifier parts all.1

module _ (scheme : Scheme) (first index : ℕ) where
  -- the parts by the histories
  abbrev told : ℕ → List (List Event) → List Part
  told number histories = parts_told scheme first index number histories

  -- the part of a history that has sealed the epoch
  told_own : (number : ℕ) (events : List Event) → index < sealed_count events
      → part_told scheme first index number events (sealed_count events)
      ≡ part_of scheme number events (first + index) ∷ []
  told_own number events below =
      let test : nat_lt index (sealed_count events) ≡ true = grind (arith, nat_tests) in
      ap (λ (b : Bool). cond b (part_of scheme number events (first + index) ∷ []) []) test

  -- where all have sealed the epoch, none is missing
  has_told : (number : ℕ) (histories : List (List Event)) → AllSeal index histories → (verifier : ℕ)
      → number ≤ verifier → verifier < number + length histories
      → has_part (told number histories) (first + index) verifier ≡ true
  has_told number [] all verifier from below = absurd (omega (arith, from, below))
  has_told number (events ∷ histories) all verifier from below =
      ap (λ (own : List Part). has_part (own ++ others) (first + index) verifier) (told_own number events all.0)
      ∙ by (cases_eq number verifier)
      (λ after. has_told (suc number) histories all.1 verifier after (omega (arith, below)))
    where
      others : List Part
      others = told (suc number) histories

      own : Bool
      own = first + index == first + index && number == verifier

      by : (number ≡ verifier) ⊎ (number ≡ verifier → ⊥)
          → (suc number ≤ verifier → has_part others (first + index) verifier ≡ true)
          → (own || has_part others (first + index) verifier) ≡ true
      by (inl same) further =
          ap (λ (b : Bool). b || has_part others (first + index) verifier)
          (and_from (first + index == first + index) (number == verifier)
          (eq-eqb (first + index) (first + index) refl) (eq-eqb number verifier same))
      by (inr apart) further =
          ap (λ (b : Bool). own || b) (further (omega (arith, from, apart))) ∙ or_true own

  -- no part is of a verifier before the first
  has_before : (number : ℕ) (histories : List (List Event)) (verifier : ℕ) → verifier < number
      → has_part (told number histories) (first + index) verifier ≡ false
  has_before number histories verifier below =
      has_later (first + index) verifier (told number histories)
      (every-weaker (IsAmong (first + index) number (length histories)) (λ part. verifier < part.verifier)
      (λ part is. omega (arith, is.1, below)) (told number histories) (told-among scheme first index number histories))

  -- where none is missing, all have sealed the epoch
  seal_told : (number : ℕ) (histories : List (List Event))
      → ((verifier : ℕ) → number ≤ verifier → verifier < number + length histories
      → has_part (told number histories) (first + index) verifier ≡ true)
      → AllSeal index histories
  seal_told number [] has = tt
  seal_told number (events ∷ histories) has = (
    own (nat_lt index (sealed_count events)) refl (has number (omega arith) (omega arith)),
    seal_told (suc number) histories (λ verifier from below.
        behind verifier from (nat_lt index (sealed_count events))
        (has verifier (omega (arith, from)) (omega (arith, below)))),
  )
    where
      others : List Part
      others = told (suc number) histories

      part : Part
      part = part_of scheme number events (first + index)

      own : (b : Bool) → nat_lt index (sealed_count events) ≡ b
          → has_part (cond b (part ∷ []) [] ++ others) (first + index) number ≡ true
          → index < sealed_count events
      own true test is = grind (arith, nat_tests)
      own false test is =
          absurd (true≢false (sym is ∙ has_before (suc number) histories number (omega arith)))

      behind : (verifier : ℕ) → suc number ≤ verifier → (b : Bool)
          → has_part (cond b (part ∷ []) [] ++ others) (first + index) verifier ≡ true
          → has_part others (first + index) verifier ≡ true
      behind verifier from true is =
          sym (ap (λ (t : Bool). t || has_part others (first + index) verifier)
          (other_part (first + index) verifier part (λ same. absurd (omega (arith, from, same))))) ∙ is
      behind verifier from false is = is

  -- ---- the sums

  -- the parts of the epoch are all of them
  own_epoch : (epoch number count : ℕ) (parts : List Part) → AllByRecursion (IsAmong epoch number count) parts
      → of_epoch epoch parts ≡ parts
  own_epoch epoch number count [] all = refl
  own_epoch epoch number count (part ∷ parts) all =
      ap (λ (b : Bool). cond b (part ∷ of_epoch epoch parts) (of_epoch epoch parts)) (eq-eqb _ _ all.0.0)
      ∙ ap (λ (ps : List Part). part ∷ ps) (own_epoch epoch number count parts all.1)

  module _ (side : Part → Tally) (elements : Event → List Element)
      (tells : (number : ℕ) (events : List Event) → side (part_of scheme number events (first + index))
      ≡ sum_over scheme (among scheme elements (first + index) events)) where
    -- the joined sums of parts, behind some elements
    total_from : (number : ℕ) (histories : List (List Event)) (before : List Element) → AllSeal index histories
        → fold (λ (sum : Tally) (part : Part). joined sum (side part)) (sum_over scheme before) (told number histories)
        ≡ sum_over scheme (before ++ among scheme elements (first + index) (all_events histories))
    total_from number [] before all = ap (sum_over scheme) (sym (append-nil before))
    total_from number (events ∷ histories) before all =
        let own = among scheme elements (first + index) events in
        let rest = all_events histories in
        let others = told (suc number) histories in
        let join : Tally → Part → Tally = λ (sum : Tally) (part : Part). joined sum (side part) in
        ap (λ (parts : List Part). fold join (sum_over scheme before) (parts ++ others))
        (told_own number events all.0)
        ∙ ap (λ (sum : Tally). fold join sum others)
        (ap (joined (sum_over scheme before)) (tells number events) ∙ sum_over-append scheme before own)
        ∙ total_from (suc number) histories (before ++ own) all.1
        ∙ ap (sum_over scheme)
        (append_assoc before own (among scheme elements (first + index) rest)
        ∙ ap (λ (es : List Element). before ++ es) (sym (among-append scheme elements (first + index) events rest)))

    -- The joined sums of the parts of an epoch that all have sealed are the sum over the merged order.
    total-order : (histories : List (List Event)) → AllSeal index histories
        → total side (of_epoch (first + index) (told 0 histories))
        ≡ sum_over scheme (among scheme elements (first + index) (order_of histories))
    total-order histories all =
        ap (λ (parts : List Part). total side parts)
        (own_epoch (first + index) 0 (length histories) (told 0 histories) (told-among scheme first index 0 histories))
        ∙ total_from 0 histories [] all
        ∙ sym (sum-order scheme elements (first + index) histories)

  -- ---- the verdict

  -- the verdict where all have sealed the epoch
  abbrev pub judged : List (List Event) → Verdict
  judged histories =
      if is_balanced scheme (order_of histories) (first + index)
      then Balanced
      else Unbalanced (sum_over scheme (added_in (first + index) (order_of histories)))
      (sum_over scheme (evicted_in (first + index) (order_of histories)))

  -- What a verdict tells: all have sealed the epoch and so it is, or one is missing.
  abbrev pub Tells : List (List Event) → Verdict → Type 0
  Tells histories verdict =
      ((index < sealed_by_all histories) × (verdict ≡ judged histories))
      ⊎ ((sealed_by_all histories ≤ index) × ((missing : ℕ) × (verdict ≡ Missing missing)))

  same_lanes : (xs ys : List ℕ) → bytes_eq xs ys ≡ same_bytes xs ys
  same_lanes [] [] = refl
  same_lanes [] (y ∷ ys) = refl
  same_lanes (x ∷ xs) [] = refl
  same_lanes (x ∷ xs) (y ∷ ys) = ap (λ (b : Bool). x == y && b) (same_lanes xs ys)

  -- the verdict on two sums that are those of the merged order
  judged_by : (histories : List (List Event)) (added evicted : Tally)
      → added ≡ sum_over scheme (added_in (first + index) (order_of histories))
      → evicted ≡ sum_over scheme (evicted_in (first + index) (order_of histories))
      → verdict_by None added evicted ≡ judged histories
  judged_by histories added evicted a e =
      let in_order = sum_over scheme (added_in (first + index) (order_of histories)) in
      let out_order = sum_over scheme (evicted_in (first + index) (order_of histories)) in
      ap (λ (sum : Tally). verdict_by None sum evicted) a
      ∙ ap (λ (sum : Tally). verdict_by None in_order sum) e
      ∙ ap (λ (b : Bool). if b && in_order.count == out_order.count then Balanced else Unbalanced in_order out_order)
      (same_lanes in_order.lanes out_order.lanes)

  verdict_told : (histories : List (List Event)) → 0 < length histories
      → Tells histories (verdict_of (length histories) (first + index) (told 0 histories))
  verdict_told histories some =
      go (lowest_missing (length histories) (first + index) (told 0 histories))
      (lowest_missing-is (length histories) (first + index) (told 0 histories))
    where
      added : Tally
      added = total (λ part. part.added) (of_epoch (first + index) (told 0 histories))

      evicted : Tally
      evicted = total (λ part. part.evicted) (of_epoch (first + index) (told 0 histories))

      past : (missing : ℕ) → missing < length histories
          → has_part (told 0 histories) (first + index) missing ≡ false
          → (index < sealed_by_all histories) ⊎ (sealed_by_all histories ≤ index)
          → sealed_by_all histories ≤ index
      past missing below none (inl sealed) =
          absurd (true≢false
          (sym (has_told 0 histories (all_seal index histories sealed) missing (omega arith) (omega (arith, below)))
          ∙ none))
      past missing below none (inr not_sealed) = not_sealed

      go : (lowest : Option ℕ)
          → MatchOption lowest ((verifier : ℕ) → verifier < length histories
          → has_part (told 0 histories) (first + index) verifier ≡ true)
          (λ missing. (missing < length histories)
          × (has_part (told 0 histories) (first + index) missing ≡ false)
          × ((lower : ℕ) → lower < missing → has_part (told 0 histories) (first + index) lower ≡ true))
          → Tells histories (verdict_by lowest added evicted)
      go None has =
          let all = seal_told 0 histories (λ verifier from below. has verifier (omega (arith, below))) in
          inl (
            sealed_all index histories some all,
            judged_by histories added evicted
                (total-order (λ part. part.added) (λ event. added_by event.change) (λ number events. refl)
                histories all)
                (total-order (λ part. part.evicted) (λ event. evicted_by event.change) (λ number events. refl)
                histories all),
          )
      go (Some missing) is =
          inr (past missing is.0 is.1 (cases_lt index (sealed_by_all histories)), (missing, refl))

-- ---- what it tells of the runs of logs

-- a choice that came out balanced
balanced_choice : (b : Bool) (added evicted : Tally) → (if b then Balanced else Unbalanced added evicted) ≡ Balanced
    → b ≡ true
balanced_choice true added evicted is = refl
balanced_choice false added evicted is = absurd (cc)

-- one that didn't
unbalanced_choice : (b : Bool) (added evicted a e : Tally)
    → (if b then Balanced else Unbalanced added evicted) ≡ Unbalanced a e
    → (b ≡ false) × (a ≡ added) × (e ≡ evicted)
unbalanced_choice true added evicted a e is = absurd (cc)
unbalanced_choice false added evicted a e is = (refl, cc, cc)

-- where a verifier is missing there is no choice
missing_or_balanced : (missing : ℕ) → Missing missing ≡ Balanced → ⊥
missing_or_balanced missing is = absurd (cc)

missing_or_unbalanced : (missing : ℕ) (added evicted : Tally) → Missing missing ≡ Unbalanced added evicted → ⊥
missing_or_unbalanced missing added evicted is = absurd (cc)

never_missing : (b : Bool) (added evicted : Tally) (missing : ℕ)
    → (if b then Balanced else Unbalanced added evicted) ≡ Missing missing → ⊥
never_missing true added evicted missing is = absurd (cc)
never_missing false added evicted missing is = absurd (cc)

module _ (scheme : Scheme) (header : Header) (logs : List (List ℕ)) where
  -- the logs that were read
  abbrev read : List Log
  read = map (read_log scheme.format) logs

  abbrev histories : List (List Event)
  histories = histories_in scheme header read

  -- all events in the merged order
  abbrev order : List Event
  order = order_of histories

  -- the verdict on an epoch by the parts of the runs
  abbrev pub epoch_verdict : ℕ → Verdict
  epoch_verdict index =
      verdict_of header.verifiers (header.first + index) (parts_at index (courses_of scheme header logs))

  module _ (whole : length logs ≡ header.verifiers) (some : 1 ≤ header.verifiers) (index : ℕ) where
    -- The verdict is what the histories say.
    pub verdict-courses : Tells scheme header.first index histories (epoch_verdict index)
    verdict-courses =
        let all = told_from scheme header 0 logs in
        let count = told-length scheme header 0 logs in
        subst (λ (n : ℕ). Tells scheme header.first index all
        (verdict_of n (header.first + index) (parts_at index (courses_of scheme header logs)))) (count ∙ whole)
        (subst (λ (parts : List Part). Tells scheme header.first index all
        (verdict_of (length all) (header.first + index) parts))
        (sym (parts-told scheme header index 0 logs))
        (verdict_told scheme header.first index all (omega (arith, count, whole, some))))

    -- Where it is balanced, all have sealed the epoch, and its sums are one.
    pub verdict-balanced : epoch_verdict index ≡ Balanced
        → (index < sealed_by_all histories) × (is_balanced scheme order (header.first + index) ≡ true)
    verdict-balanced is = go verdict-courses
      where
        go : Tells scheme header.first index histories (epoch_verdict index)
            → (index < sealed_by_all histories) × (is_balanced scheme order (header.first + index) ≡ true)
        go (inl sealed) = (sealed.0, balanced_choice _ _ _ (sym sealed.1 ∙ is))
        go (inr missing) = absurd (missing_or_balanced missing.1.0 (sym missing.1.1 ∙ is))

    -- Where it is unbalanced, all have sealed the epoch, and its sums differ and are these.
    pub verdict-unbalanced : (added evicted : Tally) → epoch_verdict index ≡ Unbalanced added evicted
        → (index < sealed_by_all histories) × (is_balanced scheme order (header.first + index) ≡ false)
        × (added ≡ sum_over scheme (added_in (header.first + index) order))
        × (evicted ≡ sum_over scheme (evicted_in (header.first + index) order))
    verdict-unbalanced added evicted is = go verdict-courses
      where
        go : Tells scheme header.first index histories (epoch_verdict index)
            → (index < sealed_by_all histories) × (is_balanced scheme order (header.first + index) ≡ false)
            × (added ≡ sum_over scheme (added_in (header.first + index) order))
            × (evicted ≡ sum_over scheme (evicted_in (header.first + index) order))
        go (inl sealed) =
            let choice = unbalanced_choice _ _ _ added evicted (sym sealed.1 ∙ is) in
            (sealed.0, choice.0, choice.1, choice.2)
        go (inr missing) = absurd (missing_or_unbalanced missing.1.0 added evicted (sym missing.1.1 ∙ is))

    -- Where a verifier is missing, not all have sealed the epoch.
    pub verdict-missing : (verifier : ℕ) → epoch_verdict index ≡ Missing verifier → sealed_by_all histories ≤ index
    verdict-missing verifier is = go verdict-courses
      where
        go : Tells scheme header.first index histories (epoch_verdict index) → sealed_by_all histories ≤ index
        go (inl sealed) = absurd (never_missing _ _ _ verifier (sym sealed.1 ∙ is))
        go (inr missing) = missing.0
