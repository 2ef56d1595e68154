-- Each kind of step at the words of epochs and stops keeps the rule: a worker's word read or raised, the newest epoch read or
-- raised, a stop stored or read.
use Rattle.std.proofs.Common.{◌≡◌, ◌≢◌, ◌⊎◌, ℕ, zero, suc, ◌+◌, ◌-◌, ◌<◌, ◌≤◌, max, true, List, [], ◌∷◌, ◌++◌, length, set, slice_index, length-set, get_or-set_other, get_or-set_same, refl, sym, ap, ◌∙◌, subst, ⊎_elim, Some, None, arith}
use Rattle.std.proofs.lemmas.Option.{none-some, same_Some}
use Rattle.std.specs.List.{AllByRecursion}
use mathlib.Core.Logic.{dite}
use mathlib.Core.Option.{some, none}
use native.Mathlib.Decide.{ℕ_discrete, dec_le}
use lib.ListN.{get_elem?}
use lib.Seq.{set-get_or}
use Rattle.lamport_clocks.specs.Clock.{last_epoch}
use Rattle.atomic_table.specs.Table.{State, keeps, Allows, step}
use Rattle.host_shard.specs.declared.content.Content.{Content}
use Rattle.host_shard.specs.declared.content.Content.TheVariants.{Vacant}
use Rattle.host_shard.specs.Content as shown
use Rattle.host_shard.specs.Shown.{shown_content}
use Rattle.host_epochs.specs.declared.told.Entry.{Entry}
use Rattle.host_epochs.specs.declared.told.Loss.{Loss}
use Rattle.host_epochs.specs.declared.told.Reached.{Reached}
use Rattle.host_epochs.specs.declared.told.Stop.{Stop}
use Rattle.host_epochs.specs.declared.views.Held.{Held}
use Rattle.host_epochs.specs.declared.views.Held.TheVariants.{Idle, Has}
use Rattle.host_epochs.specs.declared.views.Desk.{Desk}
use Rattle.host_epochs.specs.declared.views.Row.{Row}
use Rattle.host_epochs.specs.declared.views.View.{View}
use Rattle.host_epochs.specs.declared.views.View.TheVariants.{Working}
use Rattle.host_epochs.specs.Calls.{HasReached}
use Rattle.host_epochs.specs.Plays.{looked, finished, raised, entered, stopped, warned, content_of, with_seen, with_row, row_with_done, row_with_epoch, row_with_stop, row_with_warning}
use Rattle.host_epochs.specs.Rule.{Scene, IsLeft, IsSeen, IsWorkerKept, KnowsHeld, Knows, IsKept}
use Rattle.host_epochs.specs.Stops.{IsStop, EndsSo, IsAtEnd, IsFor, EndsAt}
use Rattle.host_epochs.specs.Terms.{Terms, IsFrom, Waits, first_at, first_epoch, place_count, owner}
use Rattle.host_epochs.specs.Told.{IsClockBehind, IsHad, Leads}
use Rattle.host_epochs.specs.Words.{newest_in, stop_in, done_in, newest_at, stop_at, done_at, word_count}
use Rattle.host_epochs.proofs.HistoryLaws.{leads_to_had}
use Rattle.host_epochs.proofs.StepLemmas.{worker_still}
use Rattle.host_epochs.proofs.ToldLemmas.{put_here, all_more, list_entered, leads_none}
use Rattle.host_epochs.proofs.WaitLemmas.{waits_map}
use Rattle.host_epochs.proofs.WordLemmas.{view_step, word_step, stopped_still, scanned_still}

-- a place that was noted to have come so far
noted_place : (scene : Scene) (left : List Reached) (q least : ℕ) → AllByRecursion (IsLeft scene) left → HasReached left q least → IsFrom least (scene.now q)
noted_place scene [] q least all has = absurd has
noted_place scene (reached ∷ left) q least all has = ⊎_elim
    (λ (is : (reached.of ≡ q) × (least ≤ reached.least)).
    waits_map (λ epoch. reached.least ≤ epoch) (λ epoch. least ≤ epoch) (shown_content (scene.now q)) (λ epoch from. omega (arith, from, is.1))
    (subst (λ (k : ℕ). IsFrom reached.least (scene.now k)) is.0 all.0))
    (λ (rest : HasReached left q least). noted_place scene left q least all.1 rest)
    has

-- a worker that was noted to have come so far
noted_worker : (terms : Terms) (scene : Scene) (seen : List Reached) (x least : ℕ) → x < terms.workers → AllByRecursion (IsSeen terms scene) seen → HasReached seen x least → least ≤ (scene.row x).done
noted_worker terms scene [] x least known all has = absurd has
noted_worker terms scene (reached ∷ seen) x least known all has = ⊎_elim
    (λ (is : (reached.of ≡ x) × (least ≤ reached.least)).
    let le : reached.least ≤ (scene.row reached.of).done = all.0 (omega (arith, is.0, known)) in
    subst (λ (k : ℕ). least ≤ (scene.row k).done) is.0 (omega (arith, is.1, le)))
    (λ (rest : HasReached seen x least). noted_worker terms scene seen x least known all.1 rest)
    has

-- a store at a word that stands elsewhere
other_word : (words : List ℕ) (w n q : ℕ) → q ≢ w → slice_index (set words w n) q ≡ slice_index words q
other_word words w n q other = get_or-set_other words w q n 0 other

-- the element of what is held is of an epoch that may be entered
held_to : (terms : Terms) (scene : Scene) (words : List ℕ) (worker : ℕ) (held : Held)
    → ((place : ℕ) → place < place_count terms → Waits (λ epoch. epoch ≤ first_epoch terms + newest_in terms words) (shown_content (scene.now place)))
    → KnowsHeld terms scene words worker held → Waits (λ epoch. epoch ≤ first_epoch terms + newest_in terms words) (shown_content (content_of held))
held_to terms scene words worker Idle to knows = tt
held_to terms scene words worker (Has place x past) to knows =
    subst (λ (y : Content). Waits (λ epoch. epoch ≤ first_epoch terms + newest_in terms words) (shown_content y)) (sym knows.2) (to place knows.0)

module _ (terms : Terms) (id slots : ℕ) (desk : Desk) (carried : List (ℕ × Content)) where
  module _ (s : State Content View) (r : IsKept terms s) (at : get_elem? s.views id ≡ some (Working desk)) where
    abbrev knows : Knows terms r.scene s.words id (Working desk)
    knows = r.views id (Working desk) at

    abbrev i : ℕ
    i = desk.number

    known : i < terms.workers
    known = knows.0

    is_row : desk.row ≡ r.scene.row i
    is_row = knows.1.is

    abbrev with : (Row → Row) → Desk
    with f = record desk { row = f desk.row }

    -- a load that finds a word as it is
    found_word : (w : ℕ) (v : View) → IsKept terms record { words = s.words; homes = s.homes; views = set s.views id v }
        → IsKept terms record { words = set s.words w (slice_index s.words w); homes = s.homes; views = set s.views id v }
    found_word w v kept = subst (λ ws. IsKept terms record { words = ws; homes = s.homes; views = set s.views id v }) (sym (set-get_or s.words w 0)) kept

    unchanged : IsKept terms record { words = s.words; homes = s.homes; views = set s.views id (Working desk) }
    unchanged = view_step terms s r id desk desk at refl refl refl knows.3 knows.4

    to_now : (place : ℕ) → place < place_count terms → Waits (λ epoch. epoch ≤ first_epoch terms + newest_in terms s.words) (shown_content (r.scene.now place))
    to_now place there = waits_map
        (λ epoch. (first_epoch terms + (r.scene.row (owner terms place)).done ≤ epoch) × (epoch ≤ first_epoch terms + newest_in terms s.words))
        (λ epoch. epoch ≤ first_epoch terms + newest_in terms s.words)
        (shown_content (r.scene.now place)) (λ epoch both. both.1) (r.places place there).epochs

    -- ---- the words

    looks : (x : ℕ) → x < terms.workers → IsKept terms record { words = s.words; homes = s.homes; views = set s.views id (with_seen (done_at terms x - done_at terms 0) (done_in terms s.words x) (Working desk)) }
    looks x there =
        let reached : Reached = record { of = done_at terms x - done_at terms 0; least = done_in terms s.words x } in
        let of : reached.of ≡ x = omega arith in
        let fact : IsSeen terms r.scene reached = λ below. subst (λ (k : ℕ). done_in terms s.words x ≤ (r.scene.row k).done) (sym of) (let word = (r.workers x there).word in omega (arith, word)) in
        view_step terms s r id desk (record desk { seen = desk.seen ++ reached ∷ [] }) at refl refl refl knows.3
        (all_more (IsSeen terms r.scene) desk.seen reached knows.4 fact)

    finishes : ((place : ℕ) → place < place_count terms → owner terms place ≡ i → (first_at terms place ≡ Vacant) ⊎ HasReached desk.left place (first_epoch terms + desk.row.entered))
        → IsKept terms record { words = set s.words (done_at terms i) desk.row.entered; homes = s.homes; views = set s.views id (Working (with row_with_done)) }
    finishes through =
        let words' : List ℕ = set s.words (done_at terms i) desk.row.entered in
        let inside : done_at terms i < length s.words = omega (arith, r.wide, known) in
        let newest : newest_in terms words' ≡ newest_in terms s.words = other_word s.words (done_at terms i) desk.row.entered (newest_at terms) (λ e. absurd (omega (arith, e))) in
        let stop : stop_in terms words' ≡ stop_in terms s.words = other_word s.words (done_at terms i) desk.row.entered (stop_at terms) (λ e. absurd (omega (arith, e))) in
        let mine = r.workers i known in
        let entered_is : desk.row.entered ≡ (r.scene.row i).entered = ap (λ (t : Row). t.entered) is_row in
        word_step terms s r id desk (with row_with_done) at words' row_with_done record {
          wide = length-set s.words (done_at terms i) desk.row.entered;
          places = λ q there. other_word s.words (done_at terms i) desk.row.entered q (λ e. absurd (omega (arith, e, there)));
          number = refl;
          held = refl;
          tells = refl;
          list = refl;
          done = mine.done;
          scanned = λ q there own. ⊎_elim
              (λ (none : first_at terms q ≡ Vacant). subst (λ (c : shown.Content). Waits (λ epoch. first_epoch terms + (r.scene.row i).entered ≤ epoch) c)
              (sym (leads_none terms q (first_at terms q) (r.scene.past q) (r.scene.now q) (ap (λ (y : Content). shown_content y) none) (r.places q there).leads)) tt)
              (λ (has : HasReached desk.left q (first_epoch terms + desk.row.entered)).
              subst (λ (n : ℕ). IsFrom (first_epoch terms + n) (r.scene.now q)) entered_is (noted_place r.scene desk.left q (first_epoch terms + desk.row.entered) knows.3 has))
              (through q there own);
          newest = omega (arith, newest);
          own = λ kept. record {
            own = kept.own;
            stopped = kept.stopped;
            word = get_or-set_same s.words (done_at terms i) desk.row.entered 0 inside ∙ entered_is;
            done = omega arith;
            entered = omega (arith, newest, kept.entered);
            newest = omega (arith, newest, kept.newest, kept.done);
            warned = λ is. subst (λ (n : ℕ). n ≢ 0) (sym stop) (kept.warned is);
          };
          others = λ x x_known other kept. worker_still terms r.scene.past r.scene.past (λ q had h. h) s.words words' x (r.scene.row x)
              (other_word s.words (done_at terms i) desk.row.entered (done_at terms x) (λ e. other (omega (arith, e))))
              (omega (arith, newest)) (omega (arith, newest, kept.newest)) (λ busy. subst (λ (n : ℕ). n ≢ 0) (sym stop) busy) kept;
          left = knows.3;
          seen = knows.4;
          more = omega (arith, newest, r.more);
          room = subst (λ (n : ℕ). 0 < n → first_epoch terms + n ≤ last_epoch) (sym newest) r.room;
          stopped = λ busy. stopped_still terms s r id desk (with row_with_done) at row_with_done (λ st is. is) (r.stopped (subst (λ (n : ℕ). n ≢ 0) stop busy));
        }

    raises : desk.row.entered < terms.more → first_epoch terms + desk.row.entered < last_epoch
        → ((x : ℕ) → x < terms.workers → HasReached desk.seen x desk.row.entered)
        → IsKept terms record { words = set s.words (newest_at terms) (max (slice_index s.words (newest_at terms)) (suc desk.row.entered)); homes = s.homes; views = set s.views id (Working desk) }
    raises more room all =
        let top : ℕ = max (slice_index s.words (newest_at terms)) (suc desk.row.entered) in
        let words' : List ℕ = set s.words (newest_at terms) top in
        let inside : newest_at terms < length s.words = omega (arith, r.wide) in
        let newest : newest_in terms words' ≡ top = get_or-set_same s.words (newest_at terms) top 0 inside in
        let stop : stop_in terms words' ≡ stop_in terms s.words = other_word s.words (newest_at terms) top (stop_at terms) (λ e. absurd (omega (arith, e))) in
        let near : (x : ℕ) → x < terms.workers → newest_in terms words' ≤ suc (r.scene.row x).done = λ x x_known.
        omega (arith, newest, noted_worker terms r.scene desk.seen x desk.row.entered x_known knows.4 (all x x_known), (r.workers x x_known).newest) in
        let still : (x : ℕ) → x < terms.workers → IsWorkerKept terms r.scene.past s.words x (r.scene.row x) → IsWorkerKept terms r.scene.past words' x (r.scene.row x) =
        λ x x_known kept. worker_still terms r.scene.past r.scene.past (λ q had h. h) s.words words' x (r.scene.row x)
        (other_word s.words (newest_at terms) top (done_at terms x) (λ e. absurd (omega (arith, e))))
        (omega (arith, newest)) (near x x_known) (λ busy. subst (λ (n : ℕ). n ≢ 0) (sym stop) busy) kept in
        word_step terms s r id desk desk at words' (λ (t : Row). t) record {
          wide = length-set s.words (newest_at terms) top;
          places = λ q there. other_word s.words (newest_at terms) top q (λ e. absurd (omega (arith, e, there)));
          number = refl;
          held = refl;
          tells = refl;
          list = refl;
          done = omega arith;
          scanned = scanned_still terms s r id desk desk at;
          newest = omega (arith, newest);
          own = λ kept. still i known kept;
          others = λ x x_known _ kept. still x x_known kept;
          left = knows.3;
          seen = knows.4;
          more = omega (arith, newest, r.more, more);
          room = λ some. raised_room newest room;
          stopped = λ busy. stopped_still terms s r id desk desk at (λ (t : Row). t) (λ st is. is) (r.stopped (subst (λ (n : ℕ). n ≢ 0) stop busy));
        }
      where
        raised_room : {n : ℕ} → n ≡ max (slice_index s.words (newest_at terms)) (suc desk.row.entered) → first_epoch terms + desk.row.entered < last_epoch → first_epoch terms + n ≤ last_epoch
        raised_room {n} is room' = dite (ℕ_discrete (newest_in terms s.words) 0)
            (λ zero. omega (arith, is, zero, room'))
            (λ some. omega (arith, is, room', r.room (omega (arith, some))))

    enters : desk.row.stop ≡ None → desk.row.entered < newest_in terms s.words → IsKept terms record { words = s.words; homes = s.homes; views = set s.views id (Working (with row_with_epoch)) }
    enters going below =
        let entered_is : desk.row.entered ≡ (r.scene.row i).entered = ap (λ (t : Row). t.entered) is_row in
        word_step terms s r id desk (with row_with_epoch) at s.words row_with_epoch record {
          wide = refl;
          places = λ q _. refl;
          number = refl;
          held = refl;
          tells = refl;
          list = refl;
          done = omega arith;
          scanned = scanned_still terms s r id desk (with row_with_epoch) at;
          newest = omega arith;
          own = λ kept. record {
            own = list_entered terms i (r.scene.row i).list (r.scene.row i).entered (omega (arith, r.more, below, entered_is)) kept.own;
            stopped = λ stop is. absurd (none-some stop (sym going ∙ (ap (λ (t : Row). t.stop) is_row ∙ is)));
            word = kept.word;
            done = omega (arith, kept.done);
            entered = omega (arith, below, entered_is);
            newest = kept.newest;
            warned = kept.warned;
          };
          others = λ x _ _ kept. kept;
          left = knows.3;
          seen = knows.4;
          more = r.more;
          room = r.room;
          stopped = λ busy. stopped_still terms s r id desk (with row_with_epoch) at row_with_epoch (λ st is. is) (r.stopped busy);
        }

    -- one epoch more than it entered, at most
    one_more : newest_in terms s.words ≤ suc desk.row.entered
    one_more = let mine = r.workers i known in
        let entered_is : desk.row.entered ≡ (r.scene.row i).entered = ap (λ (t : Row). t.entered) is_row in
        omega (arith, mine.newest, mine.done, entered_is)

    halts : (stop : Stop) → desk.row.stop ≡ None → IsStop terms r.scene.past desk.row.list desk.row.entered stop
        → IsKept terms record { words = set s.words (stop_at terms) 1; homes = s.homes; views = set s.views id (Working (with (row_with_stop stop))) }
    halts stop going is_stop =
        let words' : List ℕ = set s.words (stop_at terms) 1 in
        let inside : stop_at terms < length s.words = omega (arith, r.wide) in
        let newest : newest_in terms words' ≡ newest_in terms s.words = other_word s.words (stop_at terms) 1 (newest_at terms) (λ e. absurd (omega (arith, e))) in
        let one : stop_in terms words' ≡ 1 = get_or-set_same s.words (stop_at terms) 1 0 inside in
        let some_stop : stop_in terms words' ≢ 0 = λ zero. absurd (omega (arith, one, zero)) in
        let done : (x : ℕ) → done_in terms words' x ≡ done_in terms s.words x = λ x. other_word s.words (stop_at terms) 1 (done_at terms x) (λ e. absurd (omega (arith, e))) in
        word_step terms s r id desk (with (row_with_stop stop)) at words' (row_with_stop stop) record {
          wide = length-set s.words (stop_at terms) 1;
          places = λ q there. other_word s.words (stop_at terms) 1 q (λ e. absurd (omega (arith, e, there)));
          number = refl;
          held = refl;
          tells = refl;
          list = refl;
          done = omega arith;
          scanned = scanned_still terms s r id desk (with (row_with_stop stop)) at;
          newest = omega (arith, newest);
          own = λ kept. record {
            own = kept.own;
            stopped = λ other same. subst (λ (t : Row × Stop). IsStop terms r.scene.past t.0.list t.0.entered t.1) (λ j. (is_row j, same_Some stop other same j)) is_stop;
            word = done i ∙ kept.word;
            done = kept.done;
            entered = omega (arith, newest, kept.entered);
            newest = omega (arith, newest, kept.newest);
            warned = λ _. some_stop;
          };
          others = λ x _ _ kept. worker_still terms r.scene.past r.scene.past (λ q had h. h) s.words words' x (r.scene.row x) (done x)
              (omega (arith, newest)) (omega (arith, newest, kept.newest)) (λ _. some_stop) kept;
          left = knows.3;
          seen = knows.4;
          more = omega (arith, newest, r.more);
          room = subst (λ (n : ℕ). 0 < n → first_epoch terms + n ≤ last_epoch) (sym newest) r.room;
          stopped = λ _. record { worker = i; known = known; stop = stop; is = ap (λ (t : Row). t.stop) (put_here r.scene.row i (row_with_stop stop (r.scene.row i))) };
        }

    hears : stop_in terms s.words ≢ 0 → IsKept terms record { words = s.words; homes = s.homes; views = set s.views id (Working (with row_with_warning)) }
    hears busy = word_step terms s r id desk (with row_with_warning) at s.words row_with_warning record {
      wide = refl;
      places = λ q _. refl;
      number = refl;
      held = refl;
      tells = refl;
      list = refl;
      done = omega arith;
      scanned = scanned_still terms s r id desk (with row_with_warning) at;
      newest = omega arith;
      own = λ kept. record { own = kept.own; stopped = kept.stopped; word = kept.word; done = kept.done; entered = kept.entered; newest = kept.newest; warned = λ _. busy };
      others = λ x _ _ kept. kept;
      left = knows.3;
      seen = knows.4;
      more = r.more;
      room = r.room;
      stopped = λ some. stopped_still terms s r id desk (with row_with_warning) at row_with_warning (λ st is. is) (r.stopped some);
    }

    -- what the worker stops at, its place has had
    had_here : (place : ℕ) (x : Content) (past : List Entry) → desk.held ≡ Has place x past → (place < place_count terms) × IsHad (first_at terms place) (r.scene.past place) x
    had_here place x past holds =
        let is : KnowsHeld terms r.scene s.words i (Has place x past) = subst (KnowsHeld terms r.scene s.words i) holds knows.2 in
        (is.0, subst (IsHad (first_at terms place) (r.scene.past place)) (sym is.2) (leads_to_had terms place (first_at terms place) (r.scene.past place) (r.scene.now place) (r.places place is.0).leads))

  -- ---- the kinds of step

  abbrev me : View × List (ℕ × Content)
  me = (Working desk, carried)

  -- a worker's word is read
  pub allows_look : (x : ℕ) → x < terms.workers → Allows (IsKept terms) slots id me (done_at terms x) (λ n. n) (looked terms (step slots (done_at terms x) 0 0 none) me)
  allows_look x there s r deep at below = (
    with_seen (done_at terms x - done_at terms 0) (slice_index s.words (done_at terms x)) (Working desk),
    keeps,
    tt,
    found_word s r at (done_at terms x) (with_seen (done_at terms x - done_at terms 0) (slice_index s.words (done_at terms x)) (Working desk)) (looks s r at x there),
    refl,
  )

  -- the own word is raised
  pub allows_finish : ((place : ℕ) → place < place_count terms → owner terms place ≡ desk.number → (first_at terms place ≡ Vacant) ⊎ HasReached desk.left place (first_epoch terms + desk.row.entered))
      → Allows (IsKept terms) slots id me (done_at terms desk.number) (λ _. desk.row.entered) (λ _. finished (step slots (done_at terms desk.number) desk.row.entered 0 none) me desk.row.entered)
  allows_finish through s r deep at below = (Working (with s r at row_with_done), keeps, tt, finishes s r at through, refl)

  -- the newest epoch is raised
  pub allows_raise : desk.row.entered < terms.more → first_epoch terms + desk.row.entered < last_epoch → ((x : ℕ) → x < terms.workers → HasReached desk.seen x desk.row.entered)
      → Allows (IsKept terms) slots id me (newest_at terms) (λ n. max n (suc desk.row.entered)) (raised (step slots (newest_at terms) (suc desk.row.entered) 0 none) me)
  allows_raise more room all s r deep at below = (Working desk, keeps, tt, raises s r at more room all, refl)

  -- the newest epoch is read
  pub allows_enter : desk.row.stop ≡ None → Allows (IsKept terms) slots id me (newest_at terms) (λ n. n) (entered terms (step slots (newest_at terms) 0 0 none) me)
  allows_enter going s r deep at below =
      let to : Waits (λ epoch. epoch ≤ first_epoch terms + newest_in terms s.words) (shown_content (content_of desk.held)) =
      held_to terms r.scene s.words desk.number desk.held (to_now s r at) (knows s r at).2 in
      dite (dec_le (suc desk.row.entered) (newest_in terms s.words))
      (λ more. (
        Working (with s r at row_with_epoch),
        keeps,
        tt,
        found_word s r at (newest_at terms) (Working (with s r at row_with_epoch)) (enters s r at going (omega (arith, more))),
        (
          r.more,
          to,
          (λ few. absurd (omega (arith, more, few))),
          λ _. (omega (arith, more, one_more s r at), r.room (omega (arith, more)), refl),
        ),
      ))
      (λ less. (
        Working desk,
        keeps,
        tt,
        found_word s r at (newest_at terms) (Working desk) (unchanged s r at),
        (r.more, to, (λ _. refl), λ more. absurd (less (omega (arith, more)))),
      ))

  -- a stop is stored
  pub allows_halt : (stop : Stop) → desk.row.stop ≡ None → IsClockBehind terms desk.row.list desk.row.entered stop.clock
      → ((past : ℕ → List Entry) → ((place : ℕ) (x : Content) (own : List Entry) → desk.held ≡ Has place x own → (place < place_count terms) × IsHad (first_at terms place) (past place) x)
      → EndsSo terms past stop.clock stop.met)
      → Allows (IsKept terms) slots id me (stop_at terms) (λ _. 1) (λ _. stopped stop (step slots (stop_at terms) 1 0 none) me 1)
  allows_halt stop going behind ends s r deep at below =
      (Working (with s r at (row_with_stop stop)), keeps, tt, halts s r at stop going record { behind = behind; ends = ends r.scene.past (had_here s r at) }, refl)

  -- whether a worker stopped is read
  pub allows_hear : Allows (IsKept terms) slots id me (stop_at terms) (λ n. n) (warned (step slots (stop_at terms) 0 0 none) me)
  allows_hear s r deep at below = dite (ℕ_discrete (stop_in terms s.words) 0)
      (λ zero. (Working desk, keeps, tt, found_word s r at (stop_at terms) (Working desk) (unchanged s r at), ((λ _. refl), λ busy. absurd (busy zero))))
      (λ busy. (
        Working (with s r at row_with_warning),
        keeps,
        tt,
        found_word s r at (stop_at terms) (Working (with s r at row_with_warning)) (hears s r at busy),
        ((λ zero. absurd (busy zero)), λ _. refl),
      ))
