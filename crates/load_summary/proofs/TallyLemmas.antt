-- Tallies of operations in a row: of two lists, and of one operation more.
use Rattle.std.proofs.Common.{◌≡◌, ◌≢◌, ◌⊎◌, ℕ, ◌+◌, ◌<◌, ◌≤◌, ◌==◌, Bool, true, false, not, ◌&&◌, cond, List, [], ◌∷◌, ◌++◌, length, set, get_or, Option, None, Some, is_some, is_none, refl, sym, ap, subst, ◌∙◌, inl, inr, arith, add-zero, zero-add, eq-eqb, ne_eqb, get_or-set_same, get_or-set_other}
use Rattle.std.specs.List.{count_by}
use Rattle.std.proofs.lemmas.List.{same_lists, length-set}
use Rattle.std.proofs.lemmas.List.Sums.{sum_by-append, sum_by-cons, sum_by_push}
use Rattle.std.proofs.lemmas.List.FromFn.{length-map-range_with_len, get_or-map-range_with_len}
use Rattle.std.proofs.lemmas.Bool.{cases_eq}
use Rattle.record_text.specs.declared.operation.Operation.{Operation}
use Rattle.load_summary.specs.declared.tally.Tally.{Tally}
use Rattle.load_summary.specs.Tallies.{is_get, is_get_of_none, is_put, is_del, tally_of, tally_sum, tallies_of}
use Rattle.load_summary.specs.Counting.{with_one}

-- ---- two lists in a row

same_tally : (a b : Tally) → a.gets ≡ b.gets → a.none ≡ b.none → a.puts ≡ b.puts → a.dels ≡ b.dels → a ≡ b
same_tally a b gets none puts dels =
    ap (λ (n : ℕ). let t : Tally = record a { gets = n } in t) gets ∙ ap (λ (n : ℕ). let t : Tally = record a { gets = b.gets; none = n } in t) none
    ∙ ap (λ (n : ℕ). let t : Tally = record b { puts = n; dels = a.dels } in t) puts ∙ ap (λ (n : ℕ). let t : Tally = record b { dels = n } in t) dels

count_by-append : (test : Operation → Bool) (xs ys : List Operation) → count_by test (xs ++ ys) ≡ count_by test xs + count_by test ys
count_by-append test xs ys = sum_by-append (λ op. cond (test op) 1 0) xs ys

pub tally_of-append : (worker : ℕ) (xs ys : List Operation) → tally_of worker (xs ++ ys) ≡ tally_sum (tally_of worker xs) (tally_of worker ys)
tally_of-append worker xs ys =
    same_tally _ _ (count_by-append (is_get worker) xs ys) (count_by-append (is_get_of_none worker) xs ys) (count_by-append (is_put worker) xs ys)
    (count_by-append (is_del worker) xs ys)

-- ---- each operation is one thing

one_each : (own put : Bool) (value : Option (List ℕ))
    → (cond (own && not put) 1 0 + cond (own && put && is_some value) 1 0) + cond (own && put && is_none value) 1 0 ≡ cond own 1 0
one_each false put value = refl
one_each true false value = refl
one_each true true None = refl
one_each true true (Some bytes) = refl

pub each_once : (worker : ℕ) (ops : List Operation)
    → ((tally_of worker ops).gets + (tally_of worker ops).puts) + (tally_of worker ops).dels ≡ count_by (λ op. op.verifier == worker) ops
each_once worker [] = refl
each_once worker (op ∷ ops) =
    omega (
      arith,
      each_once worker ops,
      one_each (op.verifier == worker) op.put op.value,
      sum_by-cons (λ o. cond (is_get worker o) 1 0) op ops,
      sum_by-cons (λ o. cond (is_put worker o) 1 0) op ops,
      sum_by-cons (λ o. cond (is_del worker o) 1 0) op ops,
      sum_by-cons (λ o. cond (o.verifier == worker) 1 0) op ops,
    )

-- ---- one operation more

count_by-push : (test : Operation → Bool) (before : List Operation) (op : Operation) (passes : Bool) → test op ≡ passes
    → count_by test (before ++ op ∷ []) ≡ count_by test before + cond passes 1 0
count_by-push test before op passes is =
    sum_by_push (λ o. cond (test o) 1 0) before op ∙ ap (λ (b : Bool). count_by test before + cond b 1 0) is

-- by whether it is of the worker, whether it is a put, and its value
with_kind : Bool → Bool → Option (List ℕ) → Tally → Tally
with_kind own put value tally = record {
  gets = tally.gets + cond (own && not put) 1 0;
  none = tally.none + cond ((own && not put) && is_none value) 1 0;
  puts = tally.puts + cond (own && put && is_some value) 1 0;
  dels = tally.dels + cond (own && put && is_none value) 1 0;
}

own_kind : (put : Bool) (value : Option (List ℕ)) (tally : Tally) → with_kind true put value tally ≡ with_one put value tally
unfolding with_kind
own_kind false None tally = same_tally _ _ refl refl (add-zero _) (add-zero _)
own_kind false (Some bytes) tally = same_tally _ _ refl (add-zero _) (add-zero _) (add-zero _)
own_kind true None tally = same_tally _ _ (add-zero _) (add-zero _) (add-zero _) refl
own_kind true (Some bytes) tally = same_tally _ _ (add-zero _) (add-zero _) refl (add-zero _)

other_kind : (put : Bool) (value : Option (List ℕ)) (tally : Tally) → with_kind false put value tally ≡ tally
unfolding with_kind
other_kind put value tally = same_tally _ _ (add-zero _) (add-zero _) (add-zero _) (add-zero _)

tally_of-push : (worker : ℕ) (before : List Operation) (op : Operation) (own : Bool) → (op.verifier == worker) ≡ own
    → tally_of worker (before ++ op ∷ []) ≡ with_kind own op.put op.value (tally_of worker before)
unfolding with_kind
tally_of-push worker before op own is =
    same_tally _ _ (count_by-push (is_get worker) before op _ (ap (λ (b : Bool). b && not op.put) is))
    (count_by-push (is_get_of_none worker) before op _ (ap (λ (b : Bool). (b && not op.put) && is_none op.value) is))
    (count_by-push (is_put worker) before op _ (ap (λ (b : Bool). b && op.put && is_some op.value) is))
    (count_by-push (is_del worker) before op _ (ap (λ (b : Bool). b && op.put && is_none op.value) is))

-- one of its own
pub tally_of_own : (before : List Operation) (op : Operation) → tally_of op.verifier (before ++ op ∷ []) ≡ with_one op.put op.value (tally_of op.verifier before)
tally_of_own before op = tally_of-push op.verifier before op true (eq-eqb _ _ refl) ∙ own_kind op.put op.value _

-- one of another worker
pub tally_of_other : (worker : ℕ) (before : List Operation) (op : Operation) → op.verifier ≢ worker → tally_of worker (before ++ op ∷ []) ≡ tally_of worker before
tally_of_other worker before op other = tally_of-push worker before op false (ne_eqb _ _ other) ∙ other_kind op.put op.value _

-- ---- the tallies of all workers

pub length-tallies_of : (workers : ℕ) (ops : List Operation) → length (tallies_of workers ops) ≡ workers
length-tallies_of workers ops = length-map-range_with_len (λ worker. tally_of worker ops) 0 workers

pub get_or-tallies_of : (workers worker : ℕ) (ops : List Operation) (d : Tally) → worker < workers → get_or (tallies_of workers ops) worker d ≡ tally_of worker ops
get_or-tallies_of workers worker ops d below = get_or-map-range_with_len (λ w. tally_of w ops) 0 workers worker worker d below (zero-add worker)

-- one operation more of a worker that is there
pub tallies_of_own : (workers : ℕ) (before : List Operation) (op : Operation) → op.verifier < workers
    → tallies_of workers (before ++ op ∷ []) ≡ set (tallies_of workers before) op.verifier (with_one op.put op.value (tally_of op.verifier before))
tallies_of_own workers before op below =
    same_lists (tallies_of workers (before ++ op ∷ [])) (set (tallies_of workers before) op.verifier (with_one op.put op.value (tally_of op.verifier before)))
    (length-tallies_of workers (before ++ op ∷ []) ∙ sym (length-set (tallies_of workers before) _ _ ∙ length-tallies_of workers before)) at
  where
    at : (k : ℕ) (d : Tally) → k < length (tallies_of workers (before ++ op ∷ []))
        → get_or (tallies_of workers (before ++ op ∷ [])) k d ≡ get_or (set (tallies_of workers before) op.verifier (with_one op.put op.value (tally_of op.verifier before))) k d
    at k d within = go (cases_eq op.verifier k)
      where
        below_k : k < workers
        below_k = subst (λ (n : ℕ). k < n) (length-tallies_of workers (before ++ op ∷ [])) within

        go : (op.verifier ≡ k) ⊎ (op.verifier ≡ k → ⊥)
            → get_or (tallies_of workers (before ++ op ∷ [])) k d ≡ get_or (set (tallies_of workers before) op.verifier (with_one op.put op.value (tally_of op.verifier before))) k d
        go (inl own) =
            get_or-tallies_of workers k (before ++ op ∷ []) d below_k
            ∙ subst (λ (w : ℕ). tally_of w (before ++ op ∷ []) ≡ with_one op.put op.value (tally_of op.verifier before)) own (tally_of_own before op)
            ∙ sym (subst (λ (w : ℕ). get_or (set (tallies_of workers before) op.verifier (with_one op.put op.value (tally_of op.verifier before))) w d ≡ with_one op.put op.value (tally_of op.verifier before)) own
            (get_or-set_same (tallies_of workers before) op.verifier (with_one op.put op.value (tally_of op.verifier before)) d (subst (λ (n : ℕ). op.verifier < n) (sym (length-tallies_of workers before)) below)))
        go (inr other) =
            get_or-tallies_of workers k (before ++ op ∷ []) d below_k
            ∙ tally_of_other k before op other
            ∙ sym (get_or-tallies_of workers k before d below_k)
            ∙ sym (get_or-set_other (tallies_of workers before) op.verifier k (with_one op.put op.value (tally_of op.verifier before)) d (λ is. other (sym is)))

-- of one that is not there
pub tallies_of_other : (workers : ℕ) (before : List Operation) (op : Operation) → workers ≤ op.verifier
    → tallies_of workers (before ++ op ∷ []) ≡ tallies_of workers before
tallies_of_other workers before op past =
    same_lists (tallies_of workers (before ++ op ∷ [])) (tallies_of workers before)
    (length-tallies_of workers (before ++ op ∷ []) ∙ sym (length-tallies_of workers before)) at
  where
    at : (k : ℕ) (d : Tally) → k < length (tallies_of workers (before ++ op ∷ [])) → get_or (tallies_of workers (before ++ op ∷ [])) k d ≡ get_or (tallies_of workers before) k d
    at k d within = get_or-tallies_of workers k (before ++ op ∷ []) d below ∙ tally_of_other k before op other ∙ sym (get_or-tallies_of workers k before d below)
      where
        below : k < workers
        below = subst (λ (n : ℕ). k < n) (length-tallies_of workers (before ++ op ∷ [])) within

        other : op.verifier ≢ k
        other is = absurd (omega (arith, below, is))
