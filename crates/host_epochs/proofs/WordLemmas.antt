-- A step of a worker that touches no place: it changes its own view, and what it tells, and one word beside those of the places.
use Rattle.std.proofs.Common.{◌≡◌, ◌≢◌, ℕ, suc, ◌+◌, ◌<◌, ◌≤◌, List, length, set, slice_index, refl, sym, ap, ◌∙◌, subst, Some, arith, IsPermutation}
use Rattle.std.specs.List.{AllByRecursion}
use mathlib.Core.Logic.{dite}
use mathlib.Core.Option.{some}
use native.Mathlib.Decide.{ℕ_discrete}
use lib.ListN.{get_elem?}
use Rattle.lamport_clocks.specs.Clock.{last_epoch}
use Rattle.atomic_table.specs.Table.{State}
use Rattle.host_shard.specs.declared.content.Content.{Content}
use Rattle.host_shard.specs.Shown.{shown_content}
use Rattle.host_epochs.specs.declared.told.Stop.{Stop}
use Rattle.host_epochs.specs.declared.views.Desk.{Desk}
use Rattle.host_epochs.specs.declared.views.Held.{Held}
use Rattle.host_epochs.specs.declared.views.Held.TheVariants.{Idle, Has}
use Rattle.host_epochs.specs.declared.views.Row.{Row}
use Rattle.host_epochs.specs.declared.views.View.{View}
use Rattle.host_epochs.specs.declared.views.View.TheVariants.{Working}
use Rattle.host_epochs.specs.Rule.{Scene, IsOf, HasStopped, IsInEpochs, IsLeft, IsSeen, IsWorkerKept, KnowsHeld, IsRowOf, IsKept}
use Rattle.host_epochs.specs.Terms.{Terms, IsFrom, first_epoch, place_count, owner}
use Rattle.host_epochs.specs.Told.{joined_from}
use Rattle.host_epochs.specs.Words.{newest_in, stop_in}
use Rattle.host_epochs.proofs.JoinLemmas.{joined_alike}
use Rattle.host_epochs.proofs.StepLemmas.{worker_step}
use Rattle.host_epochs.proofs.ToldLemmas.{put, put_here, put_else, all_map}
use Rattle.host_epochs.proofs.WaitLemmas.{waits_map, waits_both}

module _ (terms : Terms) (s : State Content View) (r : IsKept terms s) (id : ℕ) (old new : Desk) (at : get_elem? s.views id ≡ some (Working old)) where
  abbrev pub i : ℕ
  i = old.number

  abbrev row_then : (Row → Row) → ℕ → Row
  row_then f = put r.scene.row i (f (r.scene.row i))

  -- What such a step shows, after which the worker tells f of what it told. The words of places are as before.
  pub record IsTold (words' : List ℕ) (f : Row → Row) : Type 0 where
    pub wide : length words' ≡ length s.words
    pub places : (q : ℕ) → q < place_count terms → slice_index words' q ≡ slice_index s.words q
    pub number : new.number ≡ old.number
    pub held : new.held ≡ old.held
    pub tells : new.row ≡ f old.row
    pub list : (f (r.scene.row i)).list ≡ (r.scene.row i).list
    pub done : (r.scene.row i).done ≤ (f (r.scene.row i)).done
    pub scanned : (q : ℕ) → q < place_count terms → owner terms q ≡ i → IsFrom (first_epoch terms + (f (r.scene.row i)).done) (r.scene.now q)
    pub newest : newest_in terms s.words ≤ newest_in terms words'
    pub own : IsWorkerKept terms r.scene.past s.words i (r.scene.row i) → IsWorkerKept terms r.scene.past words' i (f (r.scene.row i))
    pub others : (x : ℕ) → x < terms.workers → x ≢ i → IsWorkerKept terms r.scene.past s.words x (r.scene.row x) → IsWorkerKept terms r.scene.past words' x (r.scene.row x)
    pub left : AllByRecursion (IsLeft r.scene) new.left
    pub seen : AllByRecursion (IsSeen terms r.scene) new.seen
    pub more : newest_in terms words' ≤ terms.more
    pub room : 0 < newest_in terms words' → first_epoch terms + newest_in terms words' ≤ last_epoch
    pub stopped : stop_in terms words' ≢ 0 → HasStopped terms (row_then f)

  module _ (words' : List ℕ) (f : Row → Row) (told : IsTold words' f) where
    abbrev scene' : Scene
    scene' = record { now = r.scene.now; past = r.scene.past; row = row_then f; view_of = r.scene.view_of }

    known : i < terms.workers
    known = (r.views id (Working old) at).0

    rows_list : (y : ℕ) → (r.scene.row y).list ≡ (row_then f y).list
    rows_list y = dite (ℕ_discrete y i)
        (λ same. ap (λ (z : ℕ). (r.scene.row z).list) same ∙ (sym told.list ∙ ap (λ (t : Row). t.list) (sym (ap (row_then f) same ∙ put_here r.scene.row i (f (r.scene.row i))))))
        (λ other. ap (λ (t : Row). t.list) (sym (put_else r.scene.row i (f (r.scene.row i)) y other)))

    rows_done : (y : ℕ) → (r.scene.row y).done ≤ (row_then f y).done
    rows_done y = dite (ℕ_discrete y i)
        (λ same. subst (λ (z : ℕ). (r.scene.row z).done ≤ (row_then f z).done) (sym same) (subst (λ (t : Row). (r.scene.row i).done ≤ t.done) (sym (put_here r.scene.row i (f (r.scene.row i)))) told.done))
        (λ other. subst (λ (t : Row). (r.scene.row y).done ≤ t.done) (sym (put_else r.scene.row i (f (r.scene.row i)) y other)) (omega arith))

    low : (q : ℕ) → q < place_count terms → IsInEpochs terms r.scene s.words q → IsFrom (first_epoch terms + (row_then f (owner terms q)).done) (r.scene.now q)
    low q there is = dite (ℕ_discrete (owner terms q) i)
        (λ same. subst (λ (t : Row). IsFrom (first_epoch terms + t.done) (r.scene.now q)) (sym (ap (row_then f) same ∙ put_here r.scene.row i (f (r.scene.row i)))) (told.scanned q there same))
        (λ other. subst (λ (t : Row). IsFrom (first_epoch terms + t.done) (r.scene.now q)) (sym (put_else r.scene.row i (f (r.scene.row i)) (owner terms q) other))
        (waits_map
        (λ epoch. (first_epoch terms + (r.scene.row (owner terms q)).done ≤ epoch) × (epoch ≤ first_epoch terms + newest_in terms s.words))
        (λ epoch. first_epoch terms + (r.scene.row (owner terms q)).done ≤ epoch)
        (shown_content (r.scene.now q)) (λ epoch both. both.0) is))

    epochs : (q : ℕ) → q < place_count terms → IsInEpochs terms r.scene s.words q → IsInEpochs terms scene' words' q
    epochs q there is = waits_both
        (λ epoch. first_epoch terms + (row_then f (owner terms q)).done ≤ epoch)
        (λ epoch. (first_epoch terms + (r.scene.row (owner terms q)).done ≤ epoch) × (epoch ≤ first_epoch terms + newest_in terms s.words))
        (λ epoch. (first_epoch terms + (row_then f (owner terms q)).done ≤ epoch) × (epoch ≤ first_epoch terms + newest_in terms words'))
        (shown_content (r.scene.now q)) (λ epoch one two. (one, omega (arith, two.1, told.newest))) (low q there is) is

    holds_still : (held : Held) → KnowsHeld terms r.scene s.words i held → KnowsHeld terms scene' words' i held
    holds_still Idle knows = tt
    holds_still (Has place x past) knows = (knows.0, told.places place knows.0 ∙ knows.1, knows.2, knows.3)

    -- the rule holds again
    pub word_step : IsKept terms record { words = words'; homes = s.homes; views = set s.views id (Working new) }
    word_step =
        let knows = r.views id (Working old) at in
        worker_step terms s r id (place_count terms) old new at words' s.homes r.scene.now r.scene.past (row_then f)
        record {
          wide = told.wide;
          deep = refl;
          apart = λ below x _ _. absurd (let n : place_count terms < place_count terms = below in omega (arith, n));
          word = λ q there _. told.places q there;
          home = λ q _. refl;
          now = λ q _. refl;
          past = λ q _. refl;
          row = λ x other. put_else r.scene.row i (f (r.scene.row i)) x other;
          holds = λ q x _ _ h. (told.number ∙ h.0, subst (IsOf q) (sym told.held) h.1);
          rises = λ least is. is;
          done = rows_done i;
          epochs = λ q there _ is. epochs q there is;
          place = λ below. absurd (let n : place_count terms < place_count terms = below in omega (arith, n));
          worker = subst (λ (t : Row). IsWorkerKept terms r.scene.past words' i t) (sym (put_here r.scene.row i (f (r.scene.row i)))) (told.own (r.workers i known));
          others = told.others;
          knows = (
            omega (arith, told.number, known),
            subst (λ (t : ℕ × Row). IsRowOf scene' id t.0 t.1) (λ j. (sym told.number j, sym told.tells j))
                record { here = knows.1.here; is = ap f knows.1.is ∙ sym (put_here r.scene.row i (f (r.scene.row i))) },
            subst (λ (t : ℕ × Held). KnowsHeld terms scene' words' t.0 t.1) (λ j. (sym told.number j, sym told.held j)) (holds_still old.held knows.2),
            told.left,
            all_map (IsSeen terms r.scene) (IsSeen terms scene') new.seen (λ reached is below. let le = is below in omega (arith, le, rows_done reached.of)) told.seen,
          );
          even = subst (λ es. IsPermutation es (joined_from 0 (place_count terms) r.scene.past)) (joined_alike 0 terms.workers (λ y. (r.scene.row y).list) (λ y. (row_then f y).list) (λ y _. rows_list y)) r.even;
          more = told.more;
          room = told.room;
          stopped = told.stopped;
        }

  -- where some worker stopped one did still
  pub stopped_still : (f : Row → Row) → ((stop : Stop) → (r.scene.row i).stop ≡ Some stop → (f (r.scene.row i)).stop ≡ Some stop) → HasStopped terms r.scene.row → HasStopped terms (row_then f)
  stopped_still f keeps was = record {
    worker = was.worker;
    known = was.known;
    stop = was.stop;
    is = dite (ℕ_discrete was.worker i)
        (λ same. ap (λ (t : Row). t.stop) (ap (row_then f) same ∙ put_here r.scene.row i (f (r.scene.row i))) ∙ keeps was.stop (ap (λ (y : ℕ). (r.scene.row y).stop) (sym same) ∙ was.is))
        (λ other. ap (λ (t : Row). t.stop) (put_else r.scene.row i (f (r.scene.row i)) was.worker other) ∙ was.is);
  }

  -- what is so of the worker's own places
  pub scanned_still : (q : ℕ) → q < place_count terms → owner terms q ≡ i → IsFrom (first_epoch terms + (r.scene.row i).done) (r.scene.now q)
  scanned_still q there mine = subst (λ (x : ℕ). IsFrom (first_epoch terms + (r.scene.row x).done) (r.scene.now q)) mine
      (waits_map
      (λ epoch. (first_epoch terms + (r.scene.row (owner terms q)).done ≤ epoch) × (epoch ≤ first_epoch terms + newest_in terms s.words))
      (λ epoch. first_epoch terms + (r.scene.row (owner terms q)).done ≤ epoch)
      (shown_content (r.scene.now q)) (λ epoch both. both.0) (r.places q there).epochs)

  -- Only what the worker noted changes.
  pub view_step : new.number ≡ old.number → new.held ≡ old.held → new.row ≡ old.row → AllByRecursion (IsLeft r.scene) new.left → AllByRecursion (IsSeen terms r.scene) new.seen
      → IsKept terms record { words = s.words; homes = s.homes; views = set s.views id (Working new) }
  view_step number held row left seen = word_step s.words (λ (t : Row). t) record {
    wide = refl;
    places = λ q _. refl;
    number = number;
    held = held;
    tells = row;
    list = refl;
    done = omega arith;
    scanned = scanned_still;
    newest = omega arith;
    own = λ kept. kept;
    others = λ x _ _ kept. kept;
    left = left;
    seen = seen;
    more = r.more;
    room = r.room;
    stopped = λ busy. stopped_still (λ (t : Row). t) (λ stop is. is) (r.stopped busy);
  }
