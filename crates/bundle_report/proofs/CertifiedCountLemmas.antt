-- How many epochs are certified, verdict after verdict, and how the report then ends.
use Rattle.std.proofs.Common.{◌≡◌, ℕ, suc, ◌+◌, ◌-◌, ◌≤◌, Bool, if◌then◌else◌, List, length, map, Option, sym, ◌∙◌, ap, zero-add, add-zero, arith}
use Rattle.merkle_records.specs.Scheme.{Scheme}
use Rattle.lamport_clocks.specs.declared.header.Header.{Header}
use Rattle.log_codec.specs.Log.{read_log}
use Rattle.multiset_sum.specs.Tally.{Tally}
use Rattle.epoch_gather.specs.declared.outcome.Verdict.TheVariants.{Balanced, Unbalanced, Missing}
use Rattle.report_text.specs.declared.ending.BundleEnd.TheVariants as ends
use Rattle.soundness.specs.History.{Event}
use Rattle.soundness.specs.Certified.{order_of, added_in, sum_over, sealed_by_all, is_balanced, balanced_from, certified_count}
use Rattle.bundle_report.specs.BundleReport.{done_or_bad, end_or, end_of, histories_in}
use Rattle.bundle_report.specs.RunReport.{courses_of, first_refused}
use Rattle.bundle_report.proofs.EpochVerdictLemmas.{epoch_verdict, verdict-balanced, verdict-unbalanced, verdict-missing}
use Rattle.bundle_report.proofs.RunEndLemmas.{exit-unbalanced, exit-whole}

module _ (scheme : Scheme) (header : Header) (logs : List (List ℕ)) where
  abbrev histories : List (List Event)
  histories = histories_in scheme header (map (read_log scheme.format) logs)

  -- all events in the merged order
  abbrev order : List Event
  order = order_of histories

  -- how many epochs are certified, where so many are known to be
  abbrev pub counted_from : ℕ → ℕ
  counted_from done = done + balanced_from scheme order (header.first + done) (sealed_by_all histories - done)

  -- Before any verdict that is how many are.
  pub counted-start : counted_from 0 ≡ certified_count scheme header.first histories
  counted-start =
      let all : sealed_by_all histories - 0 ≡ sealed_by_all histories = omega arith in
      zero-add (balanced_from scheme order (header.first + 0) (sealed_by_all histories - 0))
      ∙ ap (λ (epoch : ℕ). balanced_from scheme order epoch (sealed_by_all histories - 0)) (add-zero header.first)
      ∙ ap (balanced_from scheme order header.first) all

  -- behind those that are known, where the next is sealed
  counted_next : (done left : ℕ) → sealed_by_all histories - done ≡ suc left
      → counted_from done
      ≡ done + (if is_balanced scheme order (header.first + done)
      then suc (balanced_from scheme order (suc (header.first + done)) left)
      else 0)
  counted_next done left is = ap (λ (n : ℕ). done + balanced_from scheme order (header.first + done) n) is

  module _ (whole : length logs ≡ header.verifiers) (some : 1 ≤ header.verifiers) (done : ℕ) where
    -- A balanced epoch is certified, and the count goes on.
    pub counted-balanced : epoch_verdict scheme header logs done ≡ Balanced
        → counted_from (done + 1) ≡ counted_from done
    counted-balanced is =
        let told = verdict-balanced scheme header logs whole some done is in
        let left = sealed_by_all histories - (done + 1) in
        let more : sealed_by_all histories - done ≡ suc left = omega (arith, told.0) in
        let next : suc (header.first + done) ≡ header.first + (done + 1) = omega arith in
        let behind = balanced_from scheme order (header.first + (done + 1)) left in
        let count : done + suc behind ≡ done + 1 + behind = omega arith in
        sym (counted_next done left more
        ∙ ap (λ (b : Bool). done + (if b then suc (balanced_from scheme order (suc (header.first + done)) left) else 0))
        told.1
        ∙ ap (λ (epoch : ℕ). done + suc (balanced_from scheme order epoch left)) next
        ∙ count)

    -- At an unbalanced epoch the count ends.
    pub counted-unbalanced : (added evicted : Tally)
        → epoch_verdict scheme header logs done ≡ Unbalanced added evicted → counted_from done ≡ done
    counted-unbalanced added evicted is =
        let told = verdict-unbalanced scheme header logs whole some done added evicted is in
        let left = sealed_by_all histories - (done + 1) in
        let more : sealed_by_all histories - done ≡ suc left = omega (arith, told.0) in
        counted_next done left more
        ∙ ap (λ (b : Bool). done + (if b then suc (balanced_from scheme order (suc (header.first + done)) left) else 0))
        told.1
        ∙ add-zero done

    -- So it does where a verifier is missing.
    pub counted-missing : (verifier : ℕ) → epoch_verdict scheme header logs done ≡ Missing verifier
        → counted_from done ≡ done
    counted-missing verifier is =
        let past = verdict-missing scheme header logs whole some done verifier is in
        let none : sealed_by_all histories - done ≡ 0 = omega (arith, past) in
        ap (λ (n : ℕ). done + balanced_from scheme order (header.first + done) n) none ∙ add-zero done

    -- ---- how the report ends

    -- With the sums of an unbalanced epoch, where those before it are balanced.
    pub ends-unbalanced : (bad : Option ℕ) (added evicted : Tally)
        → counted_from done ≡ certified_count scheme header.first histories
        → epoch_verdict scheme header logs done ≡ Unbalanced added evicted
        → ends.Unbalanced (header.first + done) added evicted
        ≡ end_of scheme header (map (read_log scheme.format) logs) histories bad
    ends-unbalanced bad added evicted count is =
        let told = verdict-unbalanced scheme header logs whole some done added evicted is in
        ap (λ (sum : Tally). ends.Unbalanced (header.first + done) sum evicted) told.2
        ∙ ap (λ (sum : Tally).
        ends.Unbalanced (header.first + done) (sum_over scheme (added_in (header.first + done) order)) sum) told.3
        ∙ exit-unbalanced scheme header logs bad done
        (sym (counted-unbalanced added evicted is) ∙ count) told.0

    -- Where a verifier is missing and the epochs before are balanced: with a refusal, or what is bad, or all is read.
    pub ends-missing : (bad : Option ℕ) (verifier : ℕ)
        → counted_from done ≡ certified_count scheme header.first histories
        → epoch_verdict scheme header logs done ≡ Missing verifier
        → end_or (first_refused 0 (courses_of scheme header logs)) (done_or_bad done bad)
        ≡ end_of scheme header (map (read_log scheme.format) logs) histories bad
    ends-missing bad verifier count is =
        exit-whole scheme header logs bad done (sym (counted-missing verifier is) ∙ count)
        (verdict-missing scheme header logs whole some done verifier is)
