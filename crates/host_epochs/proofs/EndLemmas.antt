-- How the table opens, and what is known at its end.
use Rattle.std.proofs.Common.{◌≡◌, ◌≢◌, ℕ, zero, suc, ◌+◌, ◌<◌, ◌≤◌, List, [], ◌∷◌, ◌++◌, length, get_or, slice_index, replicate, refl, sym, ap, ◌∙◌, subst, Bool, true, false, arith, add-zero, IsPermutation}
use Rattle.std.proofs.lemmas.Bool.{false≢true}
use Rattle.std.specs.List.{flat_map}
use Rattle.std.specs.Option.{ForSome}
use Rattle.std.proofs.lemmas.List.{length-replicate}
use Rattle.std.proofs.lemmas.List.Sorted.{IsPermutation-refl}
use Rattle.std.proofs.lemmas.Option.{none-some}
use mathlib.Core.Logic.{dite}
use mathlib.Core.Option.{some, some-injective, some-ne-none}
use native.Mathlib.Decide.{ℕ_discrete}
use lib.ListN.{get_elem?, length-map, get_or-replicate}
use Rattle.atomic_table.specs.Table.{State, opening}
use Rattle.atomic_table.proofs.Lists.{at_map}
use Rattle.host_shard.specs.Shown.{shown_content}
use Rattle.host_shard.specs.declared.content.Content.{Content}
use Rattle.host_shard.specs.declared.content.Content.TheVariants.{Vacant}
use Rattle.host_epochs.specs.declared.told.Entry.{Entry}
use Rattle.host_epochs.specs.declared.views.Row.{Row}
use Rattle.host_epochs.specs.declared.views.View.{View}
use Rattle.host_epochs.specs.Made.{first_rows}
use Rattle.host_epochs.specs.Plays.{new_row, rack}
use Rattle.host_epochs.specs.Round.{IsRound, row_at}
use Rattle.host_epochs.specs.Rule.{Scene, HoldsPlace, IsHeldAt, IsPlaceKept, IsRowOf, IsWorkerKept, Knows, HasStopped, IsKept}
use Rattle.host_epochs.specs.Stops.{IsStop}
use Rattle.host_epochs.specs.Terms.{Terms, IsMaking, IsWithin, first_at, first_epoch, place_count, owner}
use Rattle.host_epochs.specs.Told.{Leads, IsListOf, joined_from}
use Rattle.host_epochs.specs.Words.{newest_in, stop_in, done_in, newest_at, stop_at, done_at, word_count}
use Rattle.host_epochs.proofs.BesideLemmas.{owner_known}
use Rattle.host_epochs.proofs.WaitLemmas.{stamped_waits}

at_or : {A : Type 0} (xs : List A) (i : ℕ) (d : A) → i < length xs → get_elem? xs i ≡ some (get_or xs i d)
at_or [] i d below = absurd (omega arith)
at_or (x ∷ xs) zero d below = refl
at_or (x ∷ xs) (suc i) d below = at_or xs i d (omega arith)

-- ---- the opening

all_new : (n i : ℕ) (row : Row) → get_elem? (first_rows n) i ≡ some row → new_row ≡ row
all_new zero i row at = absurd (some-ne-none row (sym at))
all_new (suc n) zero row at = some-injective new_row row at
all_new (suc n) (suc i) row at = all_new n i row at

only : (v w : View) (j : ℕ) → get_elem? (v ∷ []) j ≡ some w → (j ≡ 0) × (v ≡ w)
only v w zero at = (refl, some-injective v w at)
only v w (suc j) at = absurd (some-ne-none w (sym at))

joined_of_none : (number count : ℕ) → joined_from number count (λ _. []) ≡ []
joined_of_none number zero = refl
joined_of_none number (suc count) = joined_of_none (suc number) count

module _ (terms : Terms) where
  abbrev first_scene : Scene
  first_scene = record { now = first_at terms; past = λ _. []; row = λ _. new_row; view_of = λ _. 0 }

  first_list : (worker : ℕ) → IsListOf terms worker [] 0
  first_list worker = record {
    own = tt;
    done = tt;
    begun = tt;
    last = record { first = terms.header.first; end = terms.header.end; at = record { epoch = first_epoch terms; counter = 0 } };
    behind = record {
      is = record { first = refl; end = refl; from = omega arith; to = omega arith };
      epoch = sym (add-zero (first_epoch terms));
      chained = λ _. refl;
    };
  }

  -- all words are 0, and each content is at home
  pub opens : (words : List ℕ) → IsMaking terms.header terms.workers terms.contents → words ≡ replicate (word_count terms) 0
      → IsKept terms (opening words terms.contents (rack 0 (first_rows terms.workers)))
  opens words making zeros =
      let zero_at : (q : ℕ) → q < word_count terms → slice_index words q ≡ 0 = λ q below. ap (λ ws. slice_index ws q) zeros ∙ get_or-replicate (word_count terms) q 0 0 below in
      let newest : newest_in terms words ≡ 0 = zero_at (newest_at terms) (omega arith) in
      let stop : stop_in terms words ≡ 0 = zero_at (stop_at terms) (omega arith) in
      record {
        scene = first_scene;
        wide = ap length zeros ∙ length-replicate (word_count terms) 0;
        deep = length-map terms.contents (λ (x : Content). some x);
        places = λ place there. record {
          free = λ _. at_map (λ (x : Content). some x) terms.contents place (first_at terms place) (at_or terms.contents place Vacant there);
          held = λ busy. absurd (busy (zero_at place (omega (arith, there))));
          leads = refl;
          epochs = subst (λ (n : ℕ). IsWithin (first_epoch terms + 0) (first_epoch terms + n) (first_at terms place)) (sym newest)
              (stamped_waits terms.header (first_epoch terms) (shown_content (first_at terms place)) (making.stamped place there));
        };
        workers = λ worker known. record {
          own = first_list worker;
          stopped = λ stop is. absurd (none-some stop is);
          word = zero_at (done_at terms worker) (omega (arith, known));
          done = omega arith;
          entered = omega arith;
          newest = omega (arith, newest);
          warned = λ is. absurd (false≢true is);
        };
        views = λ j v at. let is = only (rack 0 (first_rows terms.workers)) v j at in
            subst (λ (t : ℕ × View). Knows terms first_scene words t.0 t.1) (λ k. (sym is.0 k, is.1 k)) (
              let count = length-replicate terms.workers new_row in omega (arith, count),
              λ i row found. record { here = refl; is = sym (all_new terms.workers i row found) },
            );
        even = subst (λ (t : List Entry × List Entry). IsPermutation t.0 t.1)
            (λ k. (sym (joined_of_none 0 terms.workers) k, sym (joined_of_none 0 (place_count terms)) k)) (IsPermutation-refl []);
        more = omega (arith, newest);
        room = λ some. absurd (omega (arith, newest, some));
        stopped = λ busy. absurd (busy stop);
      }

  -- ---- the end

  rows_joined : (number : ℕ) (rows : List Row) (f : ℕ → List Entry) → ((i : ℕ) (row : Row) → get_elem? rows i ≡ some row → row.list ≡ f (number + i))
      → joined_from number (length rows) f ≡ flat_map (λ row. row.list) rows
  rows_joined number [] f each = refl
  rows_joined number (row ∷ rows) f each =
      λ k. (ap f (sym (add-zero number)) ∙ sym (each 0 row refl)) k
      ++ rows_joined (suc number) rows f (λ i r at. each (suc i) r at ∙ ap f (let e : number + suc i ≡ suc number + i = omega arith in e)) k

  got : (xs : List Content) (i : ℕ) (x : Content) → get_elem? xs i ≡ some x → get_or xs i Vacant ≡ x
  got [] i x is = absurd (some-ne-none x (sym is))
  got (y ∷ ys) zero x is = some-injective y x is
  got (y ∷ ys) (suc i) x is = got ys i x is

  module _ (s : State Content View) (id : ℕ) (rows : List Row) (after : List Content) (r : IsKept terms s) (at : get_elem? s.views id ≡ some (rack 0 rows)) where
    was : Knows terms r.scene s.words id (rack 0 rows)
    was = r.views id (rack 0 rows) at

    count : length rows ≡ terms.workers
    count = let all = was.0 in omega (arith, all)

    row_of : (worker : ℕ) → worker < terms.workers → IsRowOf r.scene id worker (row_at rows worker)
    row_of worker known = subst (λ n. IsRowOf r.scene id n (row_at rows worker)) (let e : 0 + worker ≡ worker = omega arith in e)
        (was.1 worker (row_at rows worker) (at_or rows worker new_row (omega (arith, count, known))))

    -- nobody holds a place
    free : (place : ℕ) → place < place_count terms → slice_index s.words place ≡ 0
    free place there = dite (ℕ_discrete (slice_index s.words place) 0) (λ z. z) (λ busy.
        let held = (r.places place there).held busy in
        absurd (subst (HoldsPlace held.worker place) (some-injective held.view (rack 0 rows) (sym held.there ∙ (ap (get_elem? s.views) (row_of held.worker held.known).here ∙ at))) held.holds))

    worker_end : (worker : ℕ) → worker < terms.workers → IsWorkerKept terms r.scene.past s.words worker (row_at rows worker)
    worker_end worker known = subst (IsWorkerKept terms r.scene.past s.words worker) (sym (row_of worker known).is) (r.workers worker known)

    stop_end : HasStopped terms r.scene.row → HasStopped terms (row_at rows)
    stop_end found = record {
      worker = found.worker;
      known = found.known;
      stop = found.stop;
      is = ap (λ (t : Row). t.stop) (row_of found.worker found.known).is ∙ found.is;
    }

    pub closes : 0 < terms.workers → length s.homes ≡ length after → ((k : ℕ) (y : Content) → get_elem? s.homes k ≡ some (some y) → get_elem? after k ≡ some y) → IsRound terms after rows
    closes works long homes =
        let last : (place : ℕ) → place < place_count terms → r.scene.now place ≡ get_or after place Vacant = λ place there.
        sym (got after place (r.scene.now place) (homes place (r.scene.now place) ((r.places place there).free (free place there)))) in
        record {
          past = r.scene.past;
          as_many = sym long ∙ r.deep;
          all = count;
          leads = λ place there. subst (Leads terms place (first_at terms place) (r.scene.past place)) (last place there) (r.places place there).leads;
          own = λ worker known. (worker_end worker known).own;
          stopped = λ worker stop known is. (worker_end worker known).stopped stop is;
          same = subst (λ es. IsPermutation es (joined_from 0 (place_count terms) r.scene.past))
              (ap (λ n. joined_from 0 n (λ x. (r.scene.row x).list)) (sym count) ∙ rows_joined 0 rows (λ x. (r.scene.row x).list) (λ i row is. ap (λ (t : Row). t.list) (was.1 i row is).is)) r.even;
          newest = newest_in terms s.words;
          more = r.more;
          room = r.room;
          done = λ worker known. (worker_end worker known).done;
          entered = λ worker known. (worker_end worker known).entered;
          behind = λ worker known. (worker_end worker known).newest;
          epochs = λ place there.
              let owner_row : r.scene.row (owner terms place) ≡ row_at rows (owner terms place) = sym (row_of (owner terms place) (owner_known terms 0 place works)).is in
              subst (λ (t : Row × Content). IsWithin (first_epoch terms + t.0.done) (first_epoch terms + newest_in terms s.words) t.1)
              (λ k. (owner_row k, last place there k)) (r.places place there).epochs;
          warned = λ worker known is. stop_end (r.stopped ((worker_end worker known).warned is));
        }
