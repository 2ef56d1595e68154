-- What was written and what waits on a page, line after line.
use Rattle.std.proofs.Common.{◌≡◌, ℕ, ◌+◌, ◌<◌, List, [], ◌∷◌, ◌++◌, length, drop, get_or, Option, Result, Ok, Err, OnErr, OnOk, sym, ◌∙◌, ap, subst, append_assoc, append-nil}
use Rattle.std.specs.List.{flat_map}
use Rattle.std.proofs.lemmas.List.{drop_more}
use Rattle.fv_outside.specs.Written.{Grows, GrowsByFront}
use Rattle.fv_outside.proofs.WrittenLaws.{Grows-nil, Grows-then, GrowsByFront-more, GrowsByFront-then}
use Rattle.report_text.specs.Page.{Passes}

-- before anything is added
pub Passes-start : (a : Option (List ℕ)) (page : List ℕ) → Passes a page [] a page
Passes-start a page = record { written = []; grown = Grows-nil a; kept = sym (append-nil page) }

-- the same at a page with nothing on it
pub Passes-empty : (a : Option (List ℕ)) (page : List ℕ) → page ≡ [] → Passes a [] [] a page
Passes-empty a page empty = record { written = []; grown = Grows-nil a; kept = empty }

-- a first text on a page with nothing on it
pub Passes-first : (a b : Option (List ℕ)) (page line text p : List ℕ) → page ≡ [] → line ≡ text → Passes a page line b p → Passes a [] text b p
Passes-first a b page line text p empty is h = subst (λ (l : List ℕ). Passes a [] l b p) is (subst (λ (waited : List ℕ). Passes a waited line b p) empty h)

-- one text and then another
pub Passes-then : (a b c : Option (List ℕ)) (waited p q first second : List ℕ) → Passes a waited first b p → Passes b p second c q
    → Passes a waited (first ++ second) c q
Passes-then a b c waited p q first second h k = record {
  written = h.written ++ k.written;
  grown = Grows-then a b c h.written k.written h.grown k.grown;
  kept =
      append_assoc h.written k.written q
      ∙ ap (λ (l : List ℕ). h.written ++ l) k.kept
      ∙ sym (append_assoc h.written p second)
      ∙ ap (λ (l : List ℕ). l ++ second) h.kept
      ∙ append_assoc waited first second;
}

-- all that waits is written
pub Passes-flush : (a b c : Option (List ℕ)) (waited p text : List ℕ) → Passes a waited text b p → Grows b c p → Grows a c (waited ++ text)
Passes-flush a b c waited p text h k = subst (Grows a c) h.kept (Grows-then a b c h.written p h.grown k)

-- a part of what waits and is to come is written
pub Passes-front : (a b c : Option (List ℕ)) (waited p text next more whole : List ℕ) → Passes a waited text b p → GrowsByFront b c (p ++ next)
    → (text ++ next) ++ more ≡ whole → GrowsByFront a c (waited ++ whole)
Passes-front a b c waited p text next more whole h k all =
    subst (GrowsByFront a c)
    (ap (λ (l : List ℕ). l ++ more) (sym (append_assoc h.written p next) ∙ ap (λ (l : List ℕ). l ++ next) h.kept ∙ append_assoc waited text next)
    ∙ append_assoc waited (text ++ next) more ∙ ap (λ (l : List ℕ). waited ++ l) all)
    (GrowsByFront-more a c (h.written ++ (p ++ next)) more (GrowsByFront-then a b c h.written (p ++ next) h.grown k))

-- a part of what waits is written
pub Passes-stop : (a b c : Option (List ℕ)) (waited p text more whole : List ℕ) → Passes a waited text b p → GrowsByFront b c p
    → text ++ more ≡ whole → GrowsByFront a c (waited ++ whole)
Passes-stop a b c waited p text more whole h k all =
    Passes-front a b c waited p text [] more whole h (subst (GrowsByFront b c) (sym (append-nil p)) k)
    (ap (λ (l : List ℕ). l ++ more) (append-nil text) ∙ all)

-- what holds, holds where there is an error
pub on_err : {T E P : Type 0} (r : Result T E) → P → OnErr r P
on_err (Ok answer) p = tt
on_err (Err error) p = p

-- a line more of those that things have
pub lines_step : {A : Type 0} (line_of : A → List ℕ) (things : List A) (i : ℕ) (thing : A) (text line whole : List ℕ)
    → i < length things → thing ≡ get_or things i thing → line ≡ line_of thing
    → text ++ flat_map line_of (drop i things) ≡ whole → (text ++ line) ++ flat_map line_of (drop (i + 1) things) ≡ whole
lines_step {A = A} line_of things i thing text line whole below is line_is left =
    append_assoc text line (flat_map line_of (drop (i + 1) things))
    ∙ ap (λ (l : List ℕ). text ++ l)
    (ap (λ (l : List ℕ). l ++ flat_map line_of (drop (i + 1) things)) line_is ∙ sym (ap (flat_map line_of) next))
    ∙ left
  where
    next : drop i things ≡ thing ∷ drop (i + 1) things
    next = drop_more things i thing below ∙ ap (λ (t : A). t ∷ drop (i + 1) things) (sym is)

-- what waits is written, and then a text
pub Passes-whole : (a b c : Option (List ℕ)) (waited p text : List ℕ) → p ≡ [] → Grows a b waited → Grows b c text → Passes a waited text c p
Passes-whole a b c waited p text empty h k = record {
  written = waited ++ text;
  grown = Grows-then a b c waited text h k;
  kept = ap (λ (l : List ℕ). (waited ++ text) ++ l) empty ∙ append-nil (waited ++ text);
}

-- what follows from what holds on success, or of an error
pub ok_then : {T E P Q : Type 0} (r : Result T E) → (P → Q) → OnOk r P → OnOk r Q
ok_then (Ok answer) f p = f p
ok_then (Err error) f p = tt

pub err_then : {T E P Q : Type 0} (r : Result T E) → (P → Q) → OnErr r P → OnErr r Q
err_then (Ok answer) f p = tt
err_then (Err error) f p = f p
