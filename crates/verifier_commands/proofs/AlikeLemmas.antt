-- Entries that are alike stay so where one comes in behind them, where one goes out, and where one is put in the place of another.
use Rattle.std.proofs.Common.{◌≡◌, Bool, true, false, List, [], ◌∷◌, ◌++◌, length, Option, Some, None, IsNone, if◌then◌else◌, refl, sym, ◌∙◌, ap, subst, arith}
use Rattle.std.specs.Option.{option_or, option_map}
use Rattle.std.proofs.lemmas.List.{length_push}
use Rattle.std.proofs.lemmas.Option.{none-some}
use Rattle.tree_keys.specs.Path.{same_path}
use Rattle.tree_keys.proofs.PathLaws.{same_path-true}
use Rattle.verifier_cache.specs.declared.entry.Entry.{Entry}
use Rattle.verifier_cache.specs.Cache.{entry_of, without, changed, replaced, KeepsPath, AreDistinct}
use Rattle.verifier_cache.specs.Alike.{AreAlike}
use Rattle.verifier_cache.proofs.EntriesLaws.{entry_of-append, entry_of-changed, entry_of-changed_other, entry_of-without, entry_of-without_other, length-changed, length-without, AreDistinct-append, AreDistinct-changed, AreDistinct-without}

-- ---- the relation

pub alike-self : (xs : List Entry) → AreDistinct xs → AreAlike xs xs
alike-self xs distinct = record { distinct = distinct; distinct_others = distinct; found = λ path. refl; len = refl }

pub alike-back : (xs ys : List Entry) → AreAlike xs ys → AreAlike ys xs
alike-back xs ys alike = record {
  distinct = alike.distinct_others;
  distinct_others = alike.distinct;
  found = λ path. sym (alike.found path);
  len = sym alike.len;
}

pub alike-on : (xs ys zs : List Entry) → AreAlike xs ys → AreAlike ys zs → AreAlike xs zs
alike-on xs ys zs alike more = record {
  distinct = alike.distinct;
  distinct_others = more.distinct_others;
  found = λ path. more.found path ∙ alike.found path;
  len = more.len ∙ alike.len;
}

-- ---- an entry comes in

pub alike-push : (xs ys : List Entry) (e : Entry) → AreAlike xs ys → IsNone (entry_of e.path xs) → AreAlike (xs ++ e ∷ []) (ys ++ e ∷ [])
alike-push xs ys e alike none = record {
  distinct = AreDistinct-append xs e alike.distinct none;
  distinct_others = AreDistinct-append ys e alike.distinct_others (subst (λ (o : Option Entry). IsNone o) (sym (alike.found e.path)) none);
  found = λ path.
      entry_of-append path ys (e ∷ [])
      ∙ (ap (λ (o : Option Entry). option_or o (entry_of path (e ∷ []))) (alike.found path)
      ∙ sym (entry_of-append path xs (e ∷ [])));
  len = omega (arith, length_push xs e, length_push ys e, alike.len);
}

-- ---- an entry goes out

-- nothing goes out where a path has no entry
without-absent : (k : List Bool) (xs : List Entry) → entry_of k xs ≡ None → without k xs ≡ xs
without-absent k [] none = refl
without-absent k (x ∷ xs) none = go (λ is. without-absent k xs is) (same_path k x.path) none
  where
    go : (entry_of k xs ≡ None → without k xs ≡ xs) → (b : Bool) → (if b then Some x else entry_of k xs) ≡ None → (if b then xs else x ∷ without k xs) ≡ x ∷ xs
    go further true is = absurd (none-some x (sym is))
    go further false is = ap (λ (more : List Entry). x ∷ more) (further is)

without-length : (k : List Bool) (xs ys : List Entry) → AreAlike xs ys → length (without k ys) ≡ length (without k xs)
without-length k xs ys alike = go (entry_of k xs) refl
  where
    go : (o : Option Entry) → entry_of k xs ≡ o → length (without k ys) ≡ length (without k xs)
    go None is =
        ap (λ (more : List Entry). length more) (without-absent k ys (alike.found k ∙ is))
        ∙ (alike.len ∙ sym (ap (λ (more : List Entry). length more) (without-absent k xs is)))
    go (Some e) is = omega (arith, alike.len, length-without k xs e is, length-without k ys e (alike.found k ∙ is))

without-found : (j k : List Bool) (xs ys : List Entry) → AreAlike xs ys → entry_of j (without k ys) ≡ entry_of j (without k xs)
without-found j k xs ys alike = go (same_path j k) refl
  where
    gone : (zs : List Entry) → AreDistinct zs → j ≡ k → entry_of j (without k zs) ≡ None
    gone zs distinct same = ap (λ (p : List Bool). entry_of p (without k zs)) same ∙ entry_of-without k zs distinct

    go : (b : Bool) → same_path j k ≡ b → entry_of j (without k ys) ≡ entry_of j (without k xs)
    go true is =
        let same : j ≡ k = same_path-true j k is in
        gone ys alike.distinct_others same ∙ sym (gone xs alike.distinct same)
    go false apart =
        entry_of-without_other j k ys apart ∙ (alike.found j ∙ sym (entry_of-without_other j k xs apart))

pub alike-without : (k : List Bool) (xs ys : List Entry) → AreAlike xs ys → AreAlike (without k xs) (without k ys)
alike-without k xs ys alike = record {
  distinct = AreDistinct-without k xs alike.distinct;
  distinct_others = AreDistinct-without k ys alike.distinct_others;
  found = λ j. without-found j k xs ys alike;
  len = without-length k xs ys alike;
}

-- ---- an entry is changed

changed-found : (j k : List Bool) (f : Entry → Entry) (xs ys : List Entry) → KeepsPath k f → AreAlike xs ys
    → entry_of j (changed k f ys) ≡ entry_of j (changed k f xs)
changed-found j k f xs ys keeps alike = go (same_path j k) refl
  where
    there : (zs : List Entry) → j ≡ k → entry_of j (changed k f zs) ≡ option_map f (entry_of k zs)
    there zs same = ap (λ (p : List Bool). entry_of p (changed k f zs)) same ∙ entry_of-changed k f zs keeps

    go : (b : Bool) → same_path j k ≡ b → entry_of j (changed k f ys) ≡ entry_of j (changed k f xs)
    go true is =
        let same : j ≡ k = same_path-true j k is in
        there ys same ∙ (ap (λ (o : Option Entry). option_map f o) (alike.found k) ∙ sym (there xs same))
    go false apart =
        entry_of-changed_other j k f ys keeps apart ∙ (alike.found j ∙ sym (entry_of-changed_other j k f xs keeps apart))

pub alike-changed : (k : List Bool) (f : Entry → Entry) (xs ys : List Entry) → KeepsPath k f → AreAlike xs ys → AreAlike (changed k f xs) (changed k f ys)
alike-changed k f xs ys keeps alike = record {
  distinct = AreDistinct-changed k f xs keeps alike.distinct;
  distinct_others = AreDistinct-changed k f ys keeps alike.distinct_others;
  found = λ j. changed-found j k f xs ys keeps alike;
  len = length-changed k f ys ∙ (alike.len ∙ sym (length-changed k f xs));
}

pub alike-replaced : (new : Entry) (xs ys : List Entry) → AreAlike xs ys → AreAlike (replaced new xs) (replaced new ys)
alike-replaced new xs ys alike = alike-changed new.path (λ old. new) xs ys (λ old is. refl) alike
