-- What is kept of runs is a seal of their bundle.
use Rattle.std.proofs.Common.{◌≡◌, ℕ, zero, suc, ◌+◌, ◌<◌, ◌≤◌, Option, Some, None, slice_index_or, List, [], ◌∷◌, ◌++◌, length, map, take, get_or, refl, sym, ap, subst, ◌∙◌, arith}
use Rattle.std.specs.List.{AllByRecursion}
use Rattle.std.proofs.lemmas.List.{map_more, map-append}
use Rattle.record_text.specs.declared.operation.Operation.{Operation}
use Rattle.verifier_commands.specs.VerifierState.{AnyCache, by_path, by_slot}
use Rattle.verifier_commands.specs.Resumed.{AreListedOf}
use Rattle.verifier_commands.specs.Likeness.{AreAlikeCaches}
use Rattle.record_hash.specs.Functions.{DigestFunctions}
use Rattle.lamport_clocks.specs.declared.header.Header.{Header}
use Rattle.lamport_clocks.specs.declared.stamp.Stamp.{Stamp}
use Rattle.lamport_clocks.specs.Reading.{Reading}
use Rattle.multiset_sum.specs.declared.part.Part.{Part}
use Rattle.merkle_records.specs.Scheme.{Scheme, scheme_of}
use Rattle.verifier_run.specs.Progress.{Progress}
use Rattle.verifier_run.specs.Order.{OneOfEach, clock_of, sealed_next}
use Rattle.bundle_report.specs.Logged.{Logged, logged_of}
use Rattle.bundle_report.specs.SoFar.{left_from, runs_from}
use Rattle.bundle_report.proofs.LeftLaws.{run_of, out_of}
use Rattle.resumed_runs.specs.Base.{CanBeCertified, AllCanBeCertified}
use Rattle.resumed_runs.proofs.BaseLaws.{can-read}
use Rattle.check_core.specs.Stream.{IsReadWhole}
use Rattle.verifier_run.specs.Sealed.{IsKeptOf}
use Rattle.verifier_run.specs.Likeness.{IsLike, AreLike, cache_in, run_with}
use Rattle.seals.specs.State.{KeptRun}
use Rattle.seals.specs.declared.state.RunState.{RunState}
use Rattle.seals.specs.Kept.{kept_in}
use Rattle.resumed_runs.specs.Kept.{AreKeptOf, IsSealOf, IsUnbroken}
use Rattle.certified_epochs.specs.declared.fed_run.FedRun.{FedRun}

-- ---- one run after another

-- what holds of the runs one by one holds of that at an index
holds_at : (P : Progress Operation → Type 0) (xs : List FedRun) (i : ℕ) (d : FedRun) → AllByRecursion P (map (λ fed. fed.run) xs) → i < length xs → P ((get_or xs i d).run)
holds_at P [] i d all below = absurd (omega (arith, below))
holds_at P (x ∷ xs) zero d all below = all.0
holds_at P (x ∷ xs) (suc i) d all below = holds_at P xs i d all.1 (omega (arith, below))

pub holds_of_item : (P : Progress Operation → Type 0) (xs : List FedRun) (i : ℕ) (x : FedRun) → AllByRecursion P (map (λ fed. fed.run) xs) → i < length xs → x ≡ get_or xs i x → P x.run
holds_of_item P xs i x all below is = subst (λ (y : FedRun). P y.run) (sym is) (holds_at P xs i x all below)

pub kept-push : (runs : List (Progress Operation)) (kept : List KeptRun) (run : Progress Operation) (one : KeptRun)
    → AreKeptOf runs kept → IsKeptOf run.course one → IsUnbroken run → AreKeptOf (runs ++ run ∷ []) (kept ++ one ∷ [])
kept-push [] [] run one are is unbroken = (is, unbroken, tt)
kept-push [] (other ∷ kept) run one are is unbroken = absurd are
kept-push (first ∷ runs) [] run one are is unbroken = absurd are
kept-push (first ∷ runs) (other ∷ kept) run one are is unbroken = (are.0, are.1, kept-push runs kept run one are.2 is unbroken)

-- so much is kept of the runs so far and of the next
pub kept-more : (xs : List FedRun) (i : ℕ) (x : FedRun) (states next : List RunState) (state : RunState)
    → AreKeptOf (map (λ fed. fed.run) (take i xs)) (map kept_in states) → IsKeptOf x.run.course (kept_in state) → IsUnbroken x.run
    → next ≡ states ++ state ∷ [] → i < length xs → x ≡ get_or xs i x
    → AreKeptOf (map (λ fed. fed.run) (take (i + 1) xs)) (map kept_in next)
kept-more xs i x states next state are is unbroken pushed below item =
    let runs : map (λ (fed : FedRun). fed.run) (take (i + 1) xs) ≡ map (λ (fed : FedRun). fed.run) (take i xs) ++ x.run ∷ [] =
    map_more (λ (fed : FedRun). fed.run) xs i x below ∙ ap (λ (y : FedRun). map (λ (fed : FedRun). fed.run) (take i xs) ++ y.run ∷ []) (sym item) in
    let kept : map kept_in next ≡ map kept_in states ++ kept_in state ∷ [] = ap (map kept_in) pushed ∙ map-append kept_in states (state ∷ []) in
    rw runs (rw kept (kept-push (map (λ (fed : FedRun). fed.run) (take i xs)) (map kept_in states) x.run (kept_in state) are is unbroken))

-- ---- runs that are one but for the order of their caches

listed_alike : (cache other : AnyCache) (kept : KeptRun) → AreAlikeCaches cache other → AreListedOf other kept.entries → AreListedOf cache kept.entries
listed_alike (by_path held) (by_path other) kept alike is =
    let same = alike.1 in
    let listed = is.alike in
    record {
      alike = record {
        distinct = same.distinct;
        distinct_others = listed.distinct_others;
        found = λ path. listed.found path ∙ same.found path;
        len = listed.len ∙ same.len;
      };
      rises = is.rises;
      no_slots = is.no_slots;
    }
listed_alike (by_path held) (by_slot slots) kept alike is = absurd alike
listed_alike (by_slot slots) (by_path other) kept alike is = absurd alike
listed_alike (by_slot slots) (by_slot others) kept alike is = subst (λ (s : AnyCache). AreListedOf s kept.entries) (ap by_slot alike) is

kept_with : (run : Progress Operation) (cache : AnyCache) (kept : KeptRun) → AreAlikeCaches (cache_in run.course) cache
    → IsKeptOf (run_with run cache).course kept → IsKeptOf run.course kept
kept_with run cache kept alike is = record {
  at = is.at;
  accepted = is.accepted;
  entries = listed_alike (cache_in run.course) cache kept alike is.entries;
  sums = is.sums;
  parts = is.parts;
  operations = is.operations;
}

kept_like : (run other : Progress Operation) (kept : KeptRun) → IsLike run other → IsKeptOf other.course kept → IsKeptOf run.course kept
kept_like run other kept like is =
    kept_with run like.cache kept like.alike (subst (λ (r : Progress Operation). IsKeptOf r.course kept) like.same is)

unbroken_like : (run other : Progress Operation) → IsLike run other → IsUnbroken other → IsUnbroken run
unbroken_like run other like is =
    record {
      uncut = sym (ap (λ (r : Progress Operation). r.held) like.same) ∙ is.uncut;
      unrefused = sym (ap (λ (r : Progress Operation). r.course.refused) like.same) ∙ is.unrefused;
    }

-- What is kept of runs is kept of those that they are like.
pub all_kept_like : (runs others : List (Progress Operation)) (kept : List KeptRun) → AreLike runs others → AreKeptOf others kept → AreKeptOf runs kept
all_kept_like [] [] kept like are = are
all_kept_like [] (other ∷ others) kept like are = absurd like
all_kept_like (run ∷ runs) [] kept like are = absurd like
all_kept_like (run ∷ runs) (other ∷ others) [] like are = absurd are
all_kept_like (run ∷ runs) (other ∷ others) (one ∷ kept) like are = (
  kept_like run other one like.0 are.0,
  unbroken_like run other like.0 are.1,
  all_kept_like runs others kept like.1 are.2,
)

-- ---- how many epochs are certified

each_sealed : (from next : ℕ) (parts : List Part) → OneOfEach from next parts → from ≤ next
each_sealed from next [] is = omega (arith, is)
each_sealed from next (part ∷ parts) is = omega (arith, each_sealed (suc from) next parts is.1)

-- the clock of a run stays where epochs are taken out of it
same_clock : (first count : ℕ) (run : Progress Operation) → clock_of (left_from first count run).course ≡ clock_of run.course
same_clock first zero run = refl
same_clock first (suc count) run = refl

module _ (scheme : Scheme) (header : Header) (count : ℕ) where
  -- no more epochs are certified than the number of the clock's
  first_few : (number : ℕ) (log : List ℕ) (run : Progress Operation) (kept : KeptRun) → IsLike (left_from header.first count (run_of scheme header number log)) run
      → CanBeCertified (header.first + count) number run → IsKeptOf run.course kept → count ≤ kept.at.epoch
  first_few number log run kept like can is =
      let clock : clock_of run.course ≡ clock_of (run_of scheme header number log).course =
      ap (λ (r : Progress Operation). clock_of r.course) like.same ∙ same_clock header.first count (run_of scheme header number log) in
      let first : (clock_of run.course).first ≡ header.first = ap (λ (r : Reading). r.first) clock ∙ (out_of scheme header number log).first in
      let sealed = each_sealed (header.first + count) (sealed_next (clock_of run.course)) run.course.parts can.each in
      let epoch : kept.at.epoch ≡ (clock_of run.course).at.epoch = ap (λ (s : Stamp). s.epoch) is.at in
      omega (arith, sealed, first, epoch)

  some_kept : (logs : List (List ℕ)) (runs : List (Progress Operation)) (states : List RunState) → 1 ≤ length logs → AreLike (runs_from scheme header count 0 logs) runs
      → AreKeptOf runs (map kept_in states) → 0 < length states
  some_kept [] runs states some like are = absurd (omega (arith, some))
  some_kept (log ∷ logs) [] states some like are = absurd like
  some_kept (log ∷ logs) (run ∷ runs) [] some like are = absurd are
  some_kept (log ∷ logs) (run ∷ runs) (state ∷ states) some like are = omega arith

  few_kept : (logs : List (List ℕ)) (runs : List (Progress Operation)) (states : List RunState) → 1 ≤ length logs → AreLike (runs_from scheme header count 0 logs) runs
      → AllCanBeCertified (header.first + count) 0 runs → AreKeptOf runs (map kept_in states)
      → (one : RunState) → one ≡ slice_index_or states 0 one → count ≤ one.at.epoch
  few_kept [] runs states some like can are one is = absurd (omega (arith, some))
  few_kept (log ∷ logs) [] states some like can are one is = absurd like
  few_kept (log ∷ logs) (run ∷ runs) [] some like can are one is = absurd are
  few_kept (log ∷ logs) (run ∷ runs) (state ∷ states) some like can are one is =
      subst (λ (s : RunState). count ≤ s.at.epoch) (sym is) (first_few 0 log run (kept_in state) like.0 can.0 are.0)

-- ---- a bundle that was read whole

module _ (functions : DigestFunctions) (header : Header) (left : Option (List ℕ)) (taken certified : ℕ) (runs : List FedRun)
    (read : IsReadWhole functions header left taken certified runs) (states : List RunState) (are : AreKeptOf (map (λ fed. fed.run) runs) (map kept_in states)) where
  some_logs : 1 ≤ length read.logs
  some_logs = omega (arith, read.checked.whole, read.checked.header_good.some_verifiers)

  -- there is a verifier
  pub some_states : 0 < length states
  some_states = some_kept (scheme_of functions header) header certified read.logs (map (λ fed. fed.run) runs) states some_logs read.checked.runs_are are

  -- and its clock has sealed each certified epoch
  pub few_epochs : (one : RunState) → one ≡ slice_index_or states 0 one → certified ≤ one.at.epoch
  few_epochs one is =
      few_kept (scheme_of functions header) header certified read.logs (map (λ fed. fed.run) runs) states some_logs read.checked.runs_are
      (can-read (scheme_of functions header) header read.logs (record { count = certified; unbalanced = None }) (map (λ fed. fed.run) runs) read.checked) are one is

-- What is kept of its runs is a seal of it, whatever the number.
pub kept-seal : (functions : DigestFunctions) (header : Header) (bytes : List ℕ) (taken certified counter : ℕ) (runs : List FedRun) (states : List RunState)
    → IsReadWhole functions header (Some bytes) taken certified runs → AreKeptOf (map (λ fed. fed.run) runs) (map kept_in states)
    → IsSealOf functions bytes (record { counter = counter; taken = taken; header = header; certified = certified; runs = map kept_in states })
kept-seal functions header bytes taken certified counter runs states read are = record {
  taken = read.all;
  header = ap (λ (l : Logged). l.header) read.means;
  done = read.done;
  runs =
      subst (λ (logs : List (List ℕ)). AreKeptOf (runs_from (scheme_of functions header) header certified 0 logs) (map kept_in states))
      (sym (ap (λ (l : Logged). l.logs) read.means))
      (all_kept_like (runs_from (scheme_of functions header) header certified 0 read.logs) (map (λ fed. fed.run) runs) (map kept_in states) read.checked.runs_are are);
}
