-- A step of a worker that touches one place or none, one word, and its own view.
use Rattle.std.proofs.Common.{◌≡◌, ◌≢◌, ℕ, suc, ◌+◌, ◌<◌, ◌≤◌, List, length, set, slice_index, refl, sym, ap, ◌∙◌, subst, arith, Option, Some, None, IsPermutation}
use mathlib.Core.Logic.{dite}
use mathlib.Core.Option.{some}
use mathlib.Core.Option as maybe
use native.Mathlib.Decide.{ℕ_discrete}
use lib.ListN.{get_elem?}
use Rattle.lamport_clocks.specs.Clock.{last_epoch}
use Rattle.lamport_clocks.specs.Reading.{Reading}
use Rattle.atomic_table.specs.Table.{State}
use Rattle.host_shard.specs.declared.content.Content.{Content}
use Rattle.host_epochs.specs.declared.told.Entry.{Entry}
use Rattle.host_epochs.specs.declared.told.Meeting.{Meeting}
use Rattle.host_epochs.specs.declared.told.Stop.{Stop}
use Rattle.host_epochs.specs.declared.views.Desk.{Desk}
use Rattle.host_epochs.specs.declared.views.Row.{Row}
use Rattle.host_epochs.specs.declared.views.View.{View}
use Rattle.host_epochs.specs.declared.views.View.TheVariants.{Working}
use Rattle.host_epochs.specs.Rule.{Scene, HoldsPlace, IsInEpochs, IsPlaceKept, IsWorkerKept, Knows, HasStopped, IsKept}
use Rattle.host_epochs.specs.Stops.{IsStop, EndsSo, EndsAt}
use Rattle.host_epochs.specs.Terms.{Terms, IsFrom, first_at, first_epoch, place_count}
use Rattle.host_epochs.specs.Told.{IsHad, joined_from}
use Rattle.host_epochs.specs.Words.{newest_in, stop_in, done_in}
use Rattle.host_epochs.proofs.SceneLemmas.{views_stay, there_still, knows_still, held_still, place_still}

-- ---- a worker that does not step

module _ (terms : Terms) (past past' : ℕ → List Entry) (hads : (q : ℕ) (had : Content) → IsHad (first_at terms q) (past q) had → IsHad (first_at terms q) (past' q) had) where
  ends_still : (clock : Reading) (met : Option Meeting)
      → EndsSo terms past clock met → EndsSo terms past' clock met
  ends_still clock None ends = ends
  ends_still clock (Some met) ends = record { there = ends.there; had = hads met.place met.content ends.had; ends = ends.ends; asked = ends.asked }

  pub stop_still : (list : List Entry) (entered : ℕ) (stop : Stop) → IsStop terms past list entered stop → IsStop terms past' list entered stop
  stop_still list entered stop is = record { behind = is.behind; ends = ends_still stop.clock stop.met is.ends }

  pub worker_still : (words words' : List ℕ) (worker : ℕ) (row : Row) → done_in terms words' worker ≡ done_in terms words worker
      → newest_in terms words ≤ newest_in terms words' → newest_in terms words' ≤ suc row.done → (stop_in terms words ≢ 0 → stop_in terms words' ≢ 0)
      → IsWorkerKept terms past words worker row → IsWorkerKept terms past' words' worker row
  worker_still words words' worker row done up near stops kept = record {
    own = kept.own;
    stopped = λ stop is. stop_still row.list row.entered stop (kept.stopped stop is);
    word = done ∙ kept.word;
    done = kept.done;
    entered = omega (arith, kept.entered, up);
    newest = near;
    warned = λ is. stops (kept.warned is);
  }

-- ---- the step

module _ (terms : Terms) (s : State Content View) (r : IsKept terms s) (id p : ℕ) (old new : Desk) (at : get_elem? s.views id ≡ some (Working old))
    (words' : List ℕ) (homes' : List (maybe.Option Content)) (now' : ℕ → Content) (past' : ℕ → List Entry) (row' : ℕ → Row) where
  abbrev pub scene_after : Scene
  scene_after = record { now = now'; past = past'; row = row'; view_of = r.scene.view_of }

  abbrev pub state_after : State Content View
  state_after = record { words = words'; homes = homes'; views = set s.views id (Working new) }

  -- What a step shows: its place, if it touches one, is free or the worker's own, nothing else changes at places and workers, and
  -- the rule holds again of the place, the worker, its view, and the other words.
  pub record IsStep : Type 0 where
    pub wide : length words' ≡ length s.words
    pub deep : length homes' ≡ length s.homes
    pub apart : p < place_count terms → (x : ℕ) → x ≢ old.number → slice_index s.words p ≢ suc x
    pub word : (q : ℕ) → q < place_count terms → q ≢ p → slice_index words' q ≡ slice_index s.words q
    pub home : (q : ℕ) → q ≢ p → get_elem? homes' q ≡ get_elem? s.homes q
    pub now : (q : ℕ) → q ≢ p → now' q ≡ r.scene.now q
    pub past : (q : ℕ) → q ≢ p → past' q ≡ r.scene.past q
    pub row : (x : ℕ) → x ≢ old.number → row' x ≡ r.scene.row x
    pub holds : (q x : ℕ) → q < place_count terms → q ≢ p → HoldsPlace x q (Working old) → HoldsPlace x q (Working new)
    pub rises : (least : ℕ) → IsFrom least (r.scene.now p) → IsFrom least (now' p)
    pub done : (r.scene.row old.number).done ≤ (row' old.number).done
    pub epochs : (q : ℕ) → q < place_count terms → q ≢ p → IsInEpochs terms r.scene s.words q → IsInEpochs terms scene_after words' q
    pub place : p < place_count terms → IsPlaceKept terms scene_after state_after p
    pub worker : IsWorkerKept terms past' words' old.number (row' old.number)
    pub others : (x : ℕ) → x < terms.workers → x ≢ old.number → IsWorkerKept terms r.scene.past s.words x (r.scene.row x) → IsWorkerKept terms past' words' x (r.scene.row x)
    pub knows : Knows terms scene_after words' id (Working new)
    pub even : IsPermutation (joined_from 0 terms.workers (λ x. (row' x).list)) (joined_from 0 (place_count terms) past')
    pub more : newest_in terms words' ≤ terms.more
    pub room : 0 < newest_in terms words' → first_epoch terms + newest_in terms words' ≤ last_epoch
    pub stopped : stop_in terms words' ≢ 0 → HasStopped terms row'

  pub worker_step : IsStep → IsKept terms state_after
  worker_step m = record {
    scene = scene_after;
    wide = m.wide ∙ r.wide;
    deep = m.deep ∙ r.deep;
    places = λ q there. dite (ℕ_discrete q p)
        (λ e. subst (IsPlaceKept terms scene_after state_after) (sym e) (m.place (omega (arith, e, there))))
        (λ other. place_still terms r.scene scene_after s state_after q (m.word q there other) (m.home q other) (m.now q other) (m.past q other) (m.epochs q there other)
        (held_still terms r.scene scene_after s.views (set s.views id (Working new)) q (slice_index s.words q)
        (λ x v known found holds. there_still (HoldsPlace x q) s.views id (Working old) (Working new) (r.scene.view_of x) v at found holds (m.holds q x there other)))
        (r.places q there));
    workers = λ x known. dite (ℕ_discrete x old.number) (λ e. subst (λ (y : ℕ). IsWorkerKept terms past' words' y (row' y)) (sym e) m.worker)
        (λ other. subst (IsWorkerKept terms past' words' x) (sym (m.row x other)) (m.others x known other (r.workers x known)));
    views = views_stay (Knows terms scene_after words') s.views id (Working new) m.knows
        (λ j v other found. knows_still terms r.scene scene_after s.words words'
        record {
          rises = λ q least is. dite (ℕ_discrete q p)
              (λ e. subst (λ (k : ℕ). IsFrom least (now' k)) (sym e) (m.rises least (subst (λ (k : ℕ). IsFrom least (r.scene.now k)) e is)))
              (λ q_other. subst (IsFrom least) (sym (m.now q q_other)) is);
          dones = λ x. dite (ℕ_discrete x old.number)
              (λ e. subst (λ (y : ℕ). (r.scene.row y).done ≤ (row' y).done) (sym e) m.done)
              (λ x_other. subst (λ (row : Row). (r.scene.row x).done ≤ row.done) (sym (m.row x x_other)) (omega arith));
        }
        j
        (λ x here.
        let x_other : x ≢ old.number = λ e. other (sym here ∙ (ap r.scene.view_of e ∙ (r.views id (Working old) at).1.here)) in record {
          view = refl;
          row = m.row x x_other;
          places = λ q there held. let q_other : q ≢ p = λ e. m.apart (omega (arith, e, there)) x x_other (ap (slice_index s.words) (sym e) ∙ held) in
              (m.word q there q_other ∙ held, m.now q q_other, m.past q q_other);
        })
        v (r.views j v found));
    even = m.even;
    more = m.more;
    room = m.room;
    stopped = m.stopped;
  }
