-- Texts of a window of which more is known.
use Rattle.std.proofs.Common.{◌≡◌, ℕ, zero, suc, ◌<◌, ◌≤◌, List, [], ◌∷◌, length, slice_set, slice_index_or, take, drop, Some, refl, sym, ◌∙◌, ap, arith}
use Rattle.std.proofs.lemmas.Option.{none-some}
use Rattle.record_hash.specs.Functions.{DigestFunctions}
use Rattle.command_window.specs.declared.read_command.Asked.{Asked}
use Rattle.command_window.specs.Window.{IsUnknown, IsForgotten, AreForgotten, IsRight, AreRight, text_at, GoesOn}

-- nothing more is known
pub goes_on-same : (functions : DigestFunctions) (asked : List Asked) → GoesOn functions asked asked
goes_on-same functions asked = record { right = λ are. are; count = refl; texts = λ place. refl }

-- more and then more
pub goes_on-then : (functions : DigestFunctions) (first second third : List Asked) → GoesOn functions first second → GoesOn functions second third → GoesOn functions first third
goes_on-then functions first second third one two = record {
  right = λ are. two.right (one.right are);
  count = two.count ∙ one.count;
  texts = λ place. two.texts place ∙ one.texts place;
}

-- the same text, of which more is known
pub record KnowsMore (functions : DigestFunctions) (old new : Asked) : Type 0 where
  pub text : new.text.items ≡ old.text.items
  pub right : IsRight functions old → IsRight functions new

-- one that is as it was, and others of which more is known
goes_on-behind : (functions : DigestFunctions) (one : Asked) (old new : List Asked) → GoesOn functions old new → GoesOn functions (one ∷ old) (one ∷ new)
goes_on-behind functions one old new more = record {
  right = λ are. (are.0, more.right are.1);
  count = ap (λ (n : ℕ). suc n) more.count;
  texts = texts;
}
  where
    texts : (place : ℕ) → text_at (one ∷ new) place ≡ text_at (one ∷ old) place
    texts zero = refl
    texts (suc place) = more.texts place

-- one of which more is known, in its place
pub goes_on-at : (functions : DigestFunctions) (asked : List Asked) (place : ℕ) (new other : Asked)
    → place < length asked → KnowsMore functions (slice_index_or asked place other) new → GoesOn functions asked (slice_set asked place new)
goes_on-at functions [] place new other there more = absurd (omega arith)
goes_on-at functions (one ∷ asked) zero new other there more = record {
  right = λ are. (more.right are.0, are.1);
  count = refl;
  texts = texts;
}
  where
    texts : (place : ℕ) → text_at (new ∷ asked) place ≡ text_at (one ∷ asked) place
    texts zero = more.text
    texts (suc place) = refl
goes_on-at functions (one ∷ asked) (suc place) new other there more =
    goes_on-behind functions one asked (slice_set asked place new) (goes_on-at functions asked place new other (omega arith) more)

-- ---- the text at a place

pub text-at : (asked : List Asked) (place : ℕ) (other : Asked) → place < length asked → text_at asked place ≡ (slice_index_or asked place other).text.items
text-at [] place other there = absurd (omega arith)
text-at (one ∷ asked) zero other there = refl
text-at (one ∷ asked) (suc place) other there = text-at asked place other (omega arith)

pub text-past : (asked : List Asked) (place : ℕ) → length asked ≤ place → text_at asked place ≡ []
text-past [] place past = refl
text-past (one ∷ asked) zero past = absurd (omega arith)
text-past (one ∷ asked) (suc place) past = text-past asked place (omega arith)

-- ---- what is noted

some_same : {A : Type 0} (found noted : A) → Some noted ≡ Some found → found ≡ noted
some_same found noted same = cc

-- the digest of a text, noted
pub digest_noted : (functions : DigestFunctions) (asked : List Asked) (place : ℕ) (other : Asked) (digest : List ℕ)
    → place < length asked → digest ≡ functions.digest (text_at asked place)
    → GoesOn functions asked (slice_set asked place (record (slice_index_or asked place other) { digest = Some digest }))
digest_noted functions asked place other digest there value =
    goes_on-at functions asked place _ other there (record {
      text = refl;
      right = λ right. record {
        digest = λ found same. some_same found digest same ∙ (value ∙ ap functions.digest (text-at asked place other there));
        lanes = right.lanes;
      };
    })

-- its lanes
pub lanes_noted : (functions : DigestFunctions) (asked : List Asked) (place : ℕ) (other : Asked) (lanes : List ℕ)
    → place < length asked → lanes ≡ functions.lanes (text_at asked place)
    → GoesOn functions asked (slice_set asked place (record (slice_index_or asked place other) { lanes = Some lanes }))
lanes_noted functions asked place other lanes there value =
    goes_on-at functions asked place _ other there (record {
      text = refl;
      right = λ right. record {
        digest = right.digest;
        lanes = λ found same. some_same found lanes same ∙ (value ∙ ap functions.lanes (text-at asked place other there));
      };
    })

-- ---- what is not known is right

pub right-unknown : (functions : DigestFunctions) (asked : Asked) → IsUnknown asked → IsRight functions asked
right-unknown functions asked unknown = record {
  digest = λ digest is. absurd (none-some digest (sym unknown.digest ∙ is));
  lanes = λ lanes is. absurd (none-some lanes (sym unknown.lanes ∙ is));
}

-- what is forgotten is right
pub right-forgotten : (functions : DigestFunctions) (asked : List Asked) → AreForgotten asked → AreRight functions asked
right-forgotten functions [] are = tt
right-forgotten functions (one ∷ asked) are = (right-unknown functions one are.0.unknown, right-forgotten functions asked are.1)

-- the first that is forgotten
pub forgotten-at : (asked : List Asked) (place : ℕ) (other : Asked) → place < length asked → AreForgotten (drop place asked) → IsForgotten (slice_index_or asked place other)
forgotten-at [] place other there are = absurd (omega arith)
forgotten-at (one ∷ asked) zero other there are = are.0
forgotten-at (one ∷ asked) (suc place) other there are = forgotten-at asked place other (omega arith) are

-- those behind it are as they were
pub forgotten-behind : (asked : List Asked) (place : ℕ) (new : Asked) → AreForgotten (drop place asked) → AreForgotten (drop (suc place) (slice_set asked place new))
forgotten-behind [] place new are = tt
forgotten-behind (one ∷ asked) zero new are = are.1
forgotten-behind (one ∷ asked) (suc place) new are = forgotten-behind asked place new are

-- what is right stays so with one of which nothing is known
pub right-asked : (functions : DigestFunctions) (asked : List Asked) (place : ℕ) (new : Asked) → AreRight functions asked → IsUnknown new → AreRight functions (slice_set asked place new)
right-asked functions [] place new are unknown = tt
right-asked functions (one ∷ asked) zero new are unknown = (right-unknown functions new unknown, are.1)
right-asked functions (one ∷ asked) (suc place) new are unknown = (are.0, right-asked functions asked place new are.1 unknown)

-- one more is forgotten
pub forgotten-more : (asked : List Asked) (place : ℕ) (new : Asked) → place < length asked → AreForgotten (take place asked) → IsForgotten new
    → AreForgotten (take (suc place) (slice_set asked place new))
forgotten-more [] place new there are is = absurd (omega arith)
forgotten-more (one ∷ asked) zero new there are is = (is, tt)
forgotten-more (one ∷ asked) (suc place) new there are is = (are.0, forgotten-more asked place new (omega arith) are.1 is)
