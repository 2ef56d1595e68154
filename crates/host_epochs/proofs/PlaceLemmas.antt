-- Each kind of step of a worker at a place keeps the rule: a try, an entry noted, a word freed.
use Rattle.std.proofs.Common.{◌≡◌, ◌≢◌, ℕ, suc, ◌+◌, ◌<◌, ◌≤◌, eqb, List, [], ◌∷◌, ◌++◌, length, set, slice_index, length-set, get_or-set_other, get_or-set_same, refl, sym, ap, ◌∙◌, subst, Some, None, arith, IsPermutation}
use Rattle.std.proofs.Math.Nat.{lt_of_not-le}
use Rattle.std.proofs.lemmas.Option.{none-some}
use mathlib.Core.Logic.{dite}
use mathlib.Core.Option.{some, none, some-injective}
use native.Mathlib.Decide.{dec_le, ℕ_discrete}
use lib.ListN.{get_elem?}
use lib.Seq.{set-get_or}
use prog.Atomic.{either}
use Rattle.atomic_table.specs.Table.{State, Act, keeps, takes, gives, Allows, step, stepped, carried_after, Valid}
use Rattle.atomic_table.proofs.Lists.{set_else, set_here, exchanged}
use Rattle.host_shard.specs.declared.content.Content.{Content}
use Rattle.host_shard.specs.Content as shown
use Rattle.host_shard.specs.Shown.{shown_content}
use Rattle.host_epochs.specs.declared.told.Entry.{Entry}
use Rattle.host_epochs.specs.declared.told.Loss.{Loss}
use Rattle.host_epochs.specs.declared.told.Reached.{Reached}
use Rattle.host_epochs.specs.declared.told.Stop.{Stop}
use Rattle.host_epochs.specs.declared.views.Held.{Held}
use Rattle.host_epochs.specs.declared.views.Held.TheVariants.{Idle, Has}
use Rattle.host_epochs.specs.declared.views.Desk.{Desk}
use Rattle.host_epochs.specs.declared.views.Row.{Row}
use Rattle.host_epochs.specs.declared.views.View.{View}
use Rattle.host_epochs.specs.declared.views.View.TheVariants.{Working}
use Rattle.host_epochs.specs.Plays.{Draft, IsDrafted, tried, noted, freed, with_loss, with_entry, with_given, given_back, row_with_entry}
use Rattle.host_epochs.specs.Rule.{HoldsPlace, HasStopped, IsLeft, IsSeen, IsWorkerKept, Knows, IsKept}
use Rattle.host_epochs.specs.Terms.{Terms, IsFrom, IsMaking, IsNear, IsUpToDate, IsWithin, Waits, epoch_of, first_at, first_epoch, place_count, owner}
use Rattle.host_epochs.specs.Told.{IsAsked, IsDone, IsClockBehind, IsHad, IsSame, Leads, joined_from}
use Rattle.host_epochs.specs.Words.{newest_in}
use Rattle.host_epochs.proofs.AloneLemmas.{up_to_date_now}
use Rattle.host_epochs.proofs.BesideLemmas.{owner_known, IsBeside, beside_set, worker_beside, epochs_beside, more_beside, room_beside, stopped_beside, near_now}
use Rattle.host_epochs.proofs.JoinLemmas.{joined_alike, even_more}
use Rattle.host_epochs.proofs.SceneLemmas.{set_there}
use Rattle.host_epochs.proofs.StepLemmas.{worker_step}
use Rattle.host_epochs.proofs.ToldLemmas.{put, put_here, put_else, all_more, all_map, leads_on, leads_more, list_more, had_more}
use Rattle.host_epochs.proofs.WaitLemmas.{waits_map, waits_both, waits_then, from_own}
use Rattle.host_epochs.proofs.WordLemmas.{view_step}
use Rattle.host_epochs.proofs.WorkLaws.{work_some, work_waits}

-- a word that is 0 names no worker, and one that names a worker names no other
zero_apart : (n x : ℕ) → n ≡ 0 → n ≢ suc x
zero_apart n x zero held = omega (arith, zero, held)

own_apart : (n i x : ℕ) → n ≡ suc i → x ≢ i → n ≢ suc x
own_apart n i x own other held = other (omega (arith, own, held))

module _ (terms : Terms) (id i p slots : ℕ) (row : Row) (losses : List Loss) (left seen : List Reached) where
  abbrev with : Held → Desk
  with has = record { number = i; held = has; row = row; losses = losses; left = left; seen = seen }

  -- ---- a try

  module _ (making : IsMaking terms.header terms.workers terms.contents) (there : p < place_count terms) (s : State Content View) (r : IsKept terms s) (at : get_elem? s.views id ≡ some (Working (with Idle))) where
    abbrev won : Desk
    won = with (Has p (r.scene.now p) (r.scene.past p))

    abbrev knows_idle : Knows terms r.scene s.words id (Working (with Idle))
    knows_idle = r.views id (Working (with Idle)) at

    near : IsNear terms row.entered row.done (r.scene.now p)
    near = subst (λ (t : Row). IsNear terms t.entered t.done (r.scene.now p)) (sym knows_idle.1.is) (near_now terms s r i p knows_idle.0 there)

    kept : IsUpToDate terms p i row.entered row.done (r.scene.now p)
    kept = subst (λ (t : Row). IsUpToDate terms p i t.entered t.done (r.scene.now p)) (sym knows_idle.1.is) (up_to_date_now terms making s r i p knows_idle.0 there)

    wins : slice_index s.words p ≡ 0 → IsKept terms (stepped s p (suc i) id [] (Working won) (takes p (r.scene.now p)))
    wins zero =
        let inside : p < length s.words = omega (arith, r.wide, there) in
        let words' : List ℕ = set s.words p (suc i) in
        let word : slice_index words' p ≡ suc i = get_or-set_same s.words p (suc i) 0 inside in
        let beside : IsBeside terms s.words words' = beside_set terms s.words p (suc i) there in
        let still : (x : ℕ) → IsWorkerKept terms r.scene.past s.words x (r.scene.row x) → IsWorkerKept terms r.scene.past words' x (r.scene.row x) =
        λ x kept. worker_beside terms s r words' beside r.scene.past r.scene.past (λ q had h. h) x (r.scene.row x) kept in
        worker_step terms s r id p (with Idle) won at words' (set s.homes p none) r.scene.now r.scene.past r.scene.row
        record {
          wide = length-set s.words p (suc i);
          deep = length-set s.homes p none;
          apart = λ _ x _. zero_apart (slice_index s.words p) x zero;
          word = λ q _ other. get_or-set_other s.words p q (suc i) 0 other;
          home = λ q other. set_else s.homes p q none other;
          now = λ q _. refl;
          past = λ q _. refl;
          row = λ x _. refl;
          holds = λ q x _ _ h. absurd h.1;
          rises = λ least is. is;
          done = omega arith;
          epochs = λ q _ _ is. epochs_beside terms s r words' beside r.scene r.scene q refl refl is;
          place = λ _. record {
            free = λ z. absurd (omega (arith, z, word));
            held = λ _. record {
              worker = i;
              is = word;
              known = knows_idle.0;
              view = Working won;
              there = ap (get_elem? (set s.views id (Working won))) knows_idle.1.here ∙ set_there s.views id (Working won) (Working (with Idle)) at;
              holds = (refl, refl);
            };
            leads = (r.places p there).leads;
            epochs = epochs_beside terms s r words' beside r.scene r.scene p refl refl (r.places p there).epochs;
          };
          worker = still i (r.workers i knows_idle.0);
          others = λ x _ _ kept. still x kept;
          knows = (knows_idle.0, knows_idle.1, (there, word, refl, refl), knows_idle.3, knows_idle.4);
          even = r.even;
          more = more_beside terms s r words' beside;
          room = room_beside terms s r words' beside;
          stopped = stopped_beside terms s r words' beside r.scene.row (λ h. h);
        }

    -- the word is not the worker's own, which holds nothing
    not_own : slice_index s.words p ≢ suc i
    not_own own =
        let held = (r.places p there).held (λ zero. omega (arith, zero, own)) in
        let worker : held.worker ≡ i = omega (arith, held.is, own) in
        let found : get_elem? s.views (r.scene.view_of held.worker) ≡ some (Working (with Idle)) =
        ap (λ (x : ℕ). get_elem? s.views (r.scene.view_of x)) worker ∙ ap (get_elem? s.views) knows_idle.1.here ∙ at in
        let view : held.view ≡ Working (with Idle) = some-injective held.view (Working (with Idle)) (sym held.there ∙ found) in
        (subst (HoldsPlace held.worker p) view held.holds).1

    loses : (more : List Loss)
        → IsKept terms (stepped s p (slice_index s.words p) id [] (Working (record { number = i; held = Idle; row = row; losses = more; left = left; seen = seen })) keeps)
    loses more =
        let now : Desk = record { number = i; held = Idle; row = row; losses = more; left = left; seen = seen } in
        subst (λ ws. IsKept terms record { words = ws; homes = s.homes; views = set s.views id (Working now) }) (sym (set-get_or s.words p 0))
        (view_step terms s r id (with Idle) now at refl refl refl knows_idle.3 knows_idle.4)

  -- the place is taken where its word was 0, and else nothing changes but the losses
  pub tries : IsMaking terms.header terms.workers terms.contents → p < place_count terms
      → Allows (IsKept terms) slots id (Working (with Idle), []) p (λ n. either (eqb n 0) (suc i) n)
      (tried terms (step slots p 0 (suc i) none) (Working (with Idle), []))
  tries making there s r deep at below =
      exchanged (slice_index s.words p) 0 (suc i)
      (λ n. (w : View) × (a : Act Content) × Valid s.homes [] a × IsKept terms (stepped s p n id [] w a)
      × tried terms (step slots p 0 (suc i) none) (Working (with Idle), []) (slice_index s.words p) (w, carried_after [] a))
      (λ zero. (
        Working (won making there s r at),
        takes p (r.scene.now p),
        (r.places p there).free zero,
        wins making there s r at zero,
        ((λ _. (r.scene.now p, r.scene.past p, refl, (r.places p there).leads, (knows_idle making there s r at).0, near making there s r at, kept making there s r at)), λ busy. absurd (busy zero)),
      ))
      (λ busy. (
        with_loss p (slice_index s.words p) (Working (with Idle)),
        keeps,
        tt,
        loses making there s r at (losses ++ record { place = p; found = slice_index s.words p } ∷ []),
        ((λ zero. absurd (busy zero)), λ _. (not_own making there s r at, refl)),
      ))

  -- ---- while the place is held

  module _ (x : Content) (past : List Entry) (s : State Content View) (r : IsKept terms s) (at : get_elem? s.views id ≡ some (Working (with (Has p x past)))) where
    abbrev knows_held : Knows terms r.scene s.words id (Working (with (Has p x past)))
    knows_held = r.views id (Working (with (Has p x past))) at

    known : i < terms.workers
    known = knows_held.0

    there : p < place_count terms
    there = knows_held.2.0

    word : slice_index s.words p ≡ suc i
    word = knows_held.2.1

    is_now : x ≡ r.scene.now p
    is_now = knows_held.2.2

    is_past : past ≡ r.scene.past p
    is_past = knows_held.2.3

    is_row : row ≡ r.scene.row i
    is_row = knows_held.1.is

    is_view : r.scene.view_of i ≡ id
    is_view = knows_held.1.here

    leads : Leads terms p (first_at terms p) past x
    leads = subst (λ (t : List Entry × Content). Leads terms p (first_at terms p) t.0 t.1) (λ j. (sym is_past j, sym is_now j)) (r.places p there).leads

    -- the element that is held is of an epoch that may be entered, and of none before the last that the owner is through with
    within : Waits (λ epoch. (first_epoch terms + (r.scene.row (owner terms p)).done ≤ epoch) × (epoch ≤ first_epoch terms + newest_in terms s.words)) (shown_content x)
    within = subst (λ (y : Content). IsWithin (first_epoch terms + (r.scene.row (owner terms p)).done) (first_epoch terms + newest_in terms s.words) y) (sym is_now) (r.places p there).epochs

    -- what is asked of an entry here is so of it, and more
    module _ (e : Entry) (asked : IsAsked terms e) (e_before : IsSame x e.before) (behind : IsClockBehind terms row.list row.entered e.clock)
        (reached : row.entered < terms.more → Waits (λ epoch. epoch ≤ e.clock.at.epoch) (shown_content x)) where
      entered_now : row.entered ≤ newest_in terms s.words
      entered_now = subst (λ (t : Row). t.entered ≤ newest_in terms s.words) (sym is_row) (r.workers i known).entered

      within_before : Waits (λ epoch. (first_epoch terms + (r.scene.row (owner terms p)).done ≤ epoch) × (epoch ≤ first_epoch terms + newest_in terms s.words)) (shown_content e.before)
      within_before = subst (Waits (λ epoch. (first_epoch terms + (r.scene.row (owner terms p)).done ≤ epoch) × (epoch ≤ first_epoch terms + newest_in terms s.words))) (sym e_before) within

      -- in the last epoch that may be entered no element is of a later one
      to_clock : Waits (λ epoch. epoch ≤ e.clock.at.epoch) (shown_content e.before)
      to_clock = dite (dec_le (suc row.entered) terms.more)
          (λ more. subst (Waits (λ epoch. epoch ≤ e.clock.at.epoch)) (sym e_before) (reached (omega (arith, more))))
          (λ last. waits_map
          (λ epoch. (first_epoch terms + (r.scene.row (owner terms p)).done ≤ epoch) × (epoch ≤ first_epoch terms + newest_in terms s.words))
          (λ epoch. epoch ≤ e.clock.at.epoch)
          (shown_content e.before)
          (λ epoch is. let all : terms.more < suc row.entered = lt_of_not-le last in omega (arith, is.1, r.more, all, behind.epoch))
          within_before)

      is_done : IsDone terms e
      is_done =
          let its = r.workers (owner terms p) (owner_known terms i p known) in
          record {
            asked = asked;
            near = waits_both
                (λ epoch. (first_epoch terms + (r.scene.row (owner terms p)).done ≤ epoch) × (epoch ≤ first_epoch terms + newest_in terms s.words))
                (λ epoch. epoch ≤ e.clock.at.epoch)
                (λ epoch. (first_epoch terms ≤ epoch) × (epoch ≤ e.clock.at.epoch) × (e.clock.at.epoch ≤ suc epoch))
                (shown_content e.before)
                (λ epoch is to. (omega (arith, is.0), to, omega (arith, is.0, its.newest, entered_now, behind.epoch)))
                within_before to_clock;
          }

      -- the element that it leaves is of an epoch that may be entered
      within_after : IsWithin (first_epoch terms + (r.scene.row (owner terms p)).done) (first_epoch terms + newest_in terms s.words) e.after
      within_after = waits_then
          (λ epoch. (first_epoch terms + (r.scene.row (owner terms p)).done ≤ epoch) × (epoch ≤ e.clock.at.epoch))
          (λ later. later ≡ e.clock.at.epoch)
          (λ later. (first_epoch terms + (r.scene.row (owner terms p)).done ≤ later) × (later ≤ first_epoch terms + newest_in terms s.words))
          (shown_content e.before) (shown_content e.after) (work_some terms e e.request asked.work)
          (λ epoch later one two. (omega (arith, one.0, one.1, two), omega (arith, two, entered_now, behind.epoch)))
          (waits_both
          (λ epoch. (first_epoch terms + (r.scene.row (owner terms p)).done ≤ epoch) × (epoch ≤ first_epoch terms + newest_in terms s.words))
          (λ epoch. epoch ≤ e.clock.at.epoch)
          (λ epoch. (first_epoch terms + (r.scene.row (owner terms p)).done ≤ epoch) × (epoch ≤ e.clock.at.epoch))
          (shown_content e.before) (λ epoch one two. (one.0, two)) within_before to_clock)
          (work_waits terms e e.request asked.work)

      -- and of none before that which it found
      rises_after : (least : ℕ) → IsFrom least (r.scene.now p) → IsFrom least e.after
      rises_after least from = waits_then
          (λ epoch. (least ≤ epoch) × (epoch ≤ e.clock.at.epoch))
          (λ later. later ≡ e.clock.at.epoch)
          (λ later. least ≤ later)
          (shown_content e.before) (shown_content e.after) (work_some terms e e.request asked.work)
          (λ epoch later one two. omega (arith, one.0, one.1, two))
          (waits_both (λ epoch. least ≤ epoch) (λ epoch. epoch ≤ e.clock.at.epoch) (λ epoch. (least ≤ epoch) × (epoch ≤ e.clock.at.epoch))
          (shown_content e.before) (λ epoch one two. (one, two))
          (subst (Waits (λ epoch. least ≤ epoch)) (sym (e_before ∙ ap (λ (y : Content). shown_content y) is_now)) from) to_clock)
          (work_waits terms e e.request asked.work)

      abbrev row_then : Row
      row_then = row_with_entry (r.scene.row i) e

      abbrev with_one : Desk
      with_one = record { number = i; held = Has p e.after (past ++ e ∷ []); row = row_with_entry row e; losses = losses; left = left; seen = seen }

      rows_done : (y : ℕ) → (put r.scene.row i row_then y).done ≡ (r.scene.row y).done
      rows_done y = dite (ℕ_discrete y i)
          (λ same. subst (λ (z : ℕ). (put r.scene.row i row_then z).done ≡ (r.scene.row z).done) (sym same) (ap (λ (t : Row). t.done) (put_here r.scene.row i row_then)))
          (λ other. ap (λ (t : Row). t.done) (put_else r.scene.row i row_then y other))

      rows_list : (y : ℕ) → put (λ z. (r.scene.row z).list) i ((r.scene.row i).list ++ e ∷ []) y ≡ (put r.scene.row i row_then y).list
      rows_list y = dite (ℕ_discrete y i)
          (λ same. subst (λ (z : ℕ). put (λ k. (r.scene.row k).list) i ((r.scene.row i).list ++ e ∷ []) z ≡ (put r.scene.row i row_then z).list) (sym same)
          (put_here (λ k. (r.scene.row k).list) i ((r.scene.row i).list ++ e ∷ []) ∙ ap (λ (t : Row). t.list) (sym (put_here r.scene.row i row_then))))
          (λ other. put_else (λ k. (r.scene.row k).list) i ((r.scene.row i).list ++ e ∷ []) y other ∙ ap (λ (t : Row). t.list) (sym (put_else r.scene.row i row_then y other)))

      stops_still : HasStopped terms r.scene.row → HasStopped terms (put r.scene.row i row_then)
      stops_still was = record {
        worker = was.worker;
        known = was.known;
        stop = was.stop;
        is = dite (ℕ_discrete was.worker i)
            (λ same. ap (λ (t : Row). t.stop) (ap (put r.scene.row i row_then) same ∙ put_here r.scene.row i row_then) ∙ (ap (λ (y : ℕ). (r.scene.row y).stop) (sym same) ∙ was.is))
            (λ other. ap (λ (t : Row). t.stop) (put_else r.scene.row i row_then was.worker other) ∙ was.is);
      }

      -- the content becomes e.after, and the history and the list have an entry more
      notes_one : row.stop ≡ None → e.place ≡ p → e.worker ≡ i → IsKept terms record { words = s.words; homes = s.homes; views = set s.views id (Working with_one) }
      notes_one going e_place e_worker =
          let now' : ℕ → Content = put r.scene.now p e.after in
          let past' : ℕ → List Entry = put r.scene.past p (r.scene.past p ++ e ∷ []) in
          let row' : ℕ → Row = put r.scene.row i row_then in
          let past_is : past ++ e ∷ [] ≡ past' p = ap (λ es. es ++ e ∷ []) is_past ∙ sym (put_here r.scene.past p (r.scene.past p ++ e ∷ [])) in
          let now_is : e.after ≡ now' p = sym (put_here r.scene.now p e.after) in
          let row_is : row_with_entry row e ≡ row' i = ap (λ (t : Row). row_with_entry t e) is_row ∙ sym (put_here r.scene.row i row_then) in
          let mine = r.workers i known in
          let beside : IsBeside terms s.words s.words = λ q _. refl in
          let hads : (q : ℕ) (had : Content) → IsHad (first_at terms q) (r.scene.past q) had → IsHad (first_at terms q) (past' q) had = λ q had is. dite (ℕ_discrete q p)
          (λ same. subst (λ t. IsHad (first_at terms q) t had) (ap (λ n. r.scene.past n ++ e ∷ []) same ∙ (sym (put_here r.scene.past p (r.scene.past p ++ e ∷ [])) ∙ ap past' (sym same)))
          (had_more (first_at terms q) (r.scene.past q) e had is))
          (λ other. subst (λ t. IsHad (first_at terms q) t had) (sym (put_else r.scene.past p (r.scene.past p ++ e ∷ []) q other)) is) in
          worker_step terms s r id p (with (Has p x past)) with_one at s.words s.homes now' past' row'
          record {
            wide = refl;
            deep = refl;
            apart = λ _ y other. own_apart (slice_index s.words p) i y word other;
            word = λ q _ _. refl;
            home = λ q _. refl;
            now = λ q other. put_else r.scene.now p e.after q other;
            past = λ q other. put_else r.scene.past p (r.scene.past p ++ e ∷ []) q other;
            row = λ y other. put_else r.scene.row i row_then y other;
            holds = λ q y _ other h. absurd (other (sym h.1));
            rises = λ least from. subst (IsFrom least) now_is (rises_after least from);
            done = omega (arith, rows_done i);
            epochs = λ q _ other is. epochs_beside terms s r s.words beside r.scene record { now = now'; past = past'; row = row'; view_of = r.scene.view_of } q
                (rows_done (owner terms q)) (put_else r.scene.now p e.after q other) is;
            place = λ _. record {
              free = λ z. absurd (omega (arith, z, word));
              held = λ _. record { worker = i; is = word; known = known; view = Working with_one; there = ap (get_elem? (set s.views id (Working with_one))) is_view ∙ set_there s.views id (Working with_one) (Working (with (Has p x past))) at; holds = (refl, refl) };
              leads = subst (λ (t : List Entry × Content). Leads terms p (first_at terms p) t.0 t.1) (λ j. (past_is j, now_is j)) (leads_more terms p (first_at terms p) past x e e_place e_before is_done leads);
              epochs = subst (λ (t : ℕ × Content). IsWithin (first_epoch terms + t.0) (first_epoch terms + newest_in terms s.words) t.1) (λ j. (sym (rows_done (owner terms p)) j, now_is j)) within_after;
            };
            worker = subst (λ (t : Row). IsWorkerKept terms past' s.words i t) (sym (put_here r.scene.row i row_then)) record {
              own = list_more terms i (r.scene.row i).list (r.scene.row i).entered e mine.own e_worker is_done (subst (λ (t : Row). IsClockBehind terms t.list t.entered e.clock) is_row behind);
              stopped = λ stop is. absurd (none-some stop (sym going ∙ (ap (λ (t : Row). t.stop) is_row ∙ is)));
              word = mine.word;
              done = mine.done;
              entered = mine.entered;
              newest = mine.newest;
              warned = mine.warned;
            };
            others = λ y _ _ kept. worker_beside terms s r s.words beside r.scene.past past' hads y (r.scene.row y) kept;
            knows = (
              known,
              record { here = is_view; is = row_is },
              (there, word, now_is, past_is),
              all_map (IsLeft r.scene) (IsLeft record { now = now'; past = past'; row = row'; view_of = r.scene.view_of }) left
                  (λ reached is. dite (ℕ_discrete reached.of p)
                  (λ same. subst (λ (q : ℕ). IsFrom reached.least (now' q)) (sym same) (subst (IsFrom reached.least) now_is (rises_after reached.least (subst (λ (q : ℕ). IsFrom reached.least (r.scene.now q)) same is))))
                  (λ other. subst (IsFrom reached.least) (sym (put_else r.scene.now p e.after reached.of other)) is))
                  knows_held.3,
              all_map (IsSeen terms r.scene) (IsSeen terms record { now = now'; past = past'; row = row'; view_of = r.scene.view_of }) seen
                  (λ reached is below. let le = is below in omega (arith, le, rows_done reached.of))
                  knows_held.4,
            );
            even = subst (λ es. IsPermutation es (joined_from 0 (place_count terms) past')) (joined_alike 0 terms.workers (put (λ z. (r.scene.row z).list) i ((r.scene.row i).list ++ e ∷ [])) (λ y. (row' y).list) (λ y _. rows_list y))
                (even_more terms.workers (place_count terms) i p (λ z. (r.scene.row z).list) r.scene.past e known there r.even);
            more = r.more;
            room = r.room;
            stopped = stopped_beside terms s r s.words beside row' stops_still;
          }

    -- the word is freed, with y at home
    frees_one : (y : Content) → IsSame x y
        → IsKept terms record {
          words = set s.words p 0;
          homes = set s.homes p (some y);
          views = set s.views id (Working (record { number = i; held = Idle; row = row; losses = losses; left = left ++ given_back p x ∷ []; seen = seen }));
        }
    frees_one y same =
        let new : Desk = record { number = i; held = Idle; row = row; losses = losses; left = left ++ given_back p x ∷ []; seen = seen } in
        let now' : ℕ → Content = put r.scene.now p y in
        let now_is : y ≡ now' p = sym (put_here r.scene.now p y) in
        let words' : List ℕ = set s.words p 0 in
        let beside : IsBeside terms s.words words' = beside_set terms s.words p 0 there in
        let still : (z : ℕ) → IsWorkerKept terms r.scene.past s.words z (r.scene.row z) → IsWorkerKept terms r.scene.past words' z (r.scene.row z) =
        λ z kept. worker_beside terms s r words' beside r.scene.past r.scene.past (λ q had h. h) z (r.scene.row z) kept in
        let shows : shown_content (r.scene.now p) ≡ shown_content (now' p) = ap (λ (c : Content). shown_content c) (sym is_now) ∙ (sym same ∙ ap (λ (c : Content). shown_content c) now_is) in
        let rises : (q least : ℕ) → IsFrom least (r.scene.now q) → IsFrom least (now' q) = λ q least is. dite (ℕ_discrete q p)
        (λ e. subst (λ (k : ℕ). IsFrom least (now' k)) (sym e) (subst (Waits (λ epoch. least ≤ epoch)) shows (subst (λ (k : ℕ). IsFrom least (r.scene.now k)) e is)))
        (λ other. subst (IsFrom least) (sym (put_else r.scene.now p y q other)) is) in
        worker_step terms s r id p (with (Has p x past)) new at words' (set s.homes p (some y)) now' r.scene.past r.scene.row
        record {
          wide = length-set s.words p 0;
          deep = length-set s.homes p (some y);
          apart = λ _ z other. own_apart (slice_index s.words p) i z word other;
          word = λ q _ other. get_or-set_other s.words p q 0 0 other;
          home = λ q other. set_else s.homes p q (some y) other;
          now = λ q other. put_else r.scene.now p y q other;
          past = λ q _. refl;
          row = λ z _. refl;
          holds = λ q z _ other h. absurd (other (sym h.1));
          rises = λ least is. rises p least is;
          done = omega arith;
          epochs = λ q _ other is. epochs_beside terms s r words' beside r.scene record { now = now'; past = r.scene.past; row = r.scene.row; view_of = r.scene.view_of } q refl (put_else r.scene.now p y q other) is;
          place = λ _. record {
            free = λ _. set_here s.homes p (some y) (omega (arith, r.deep, there)) ∙ ap (λ (z : Content). some (some z)) now_is;
            held = λ busy. absurd (busy (get_or-set_same s.words p 0 0 (omega (arith, r.wide, there))));
            leads = subst (λ (t : List Entry × Content). Leads terms p (first_at terms p) t.0 t.1) (λ j. (is_past j, now_is j)) (leads_on terms p (first_at terms p) past x y same leads);
            epochs = subst (Waits (λ epoch. (first_epoch terms + (r.scene.row (owner terms p)).done ≤ epoch) × (epoch ≤ first_epoch terms + newest_in terms words'))) shows
                (epochs_beside terms s r words' beside r.scene r.scene p refl refl (r.places p there).epochs);
          };
          worker = still i (r.workers i known);
          others = λ z _ _ kept. still z kept;
          knows = (
            known,
            record { here = is_view; is = is_row },
            tt,
            all_more (IsLeft record { now = now'; past = r.scene.past; row = r.scene.row; view_of = r.scene.view_of }) left (given_back p x)
                (all_map (IsLeft r.scene) (IsLeft record { now = now'; past = r.scene.past; row = r.scene.row; view_of = r.scene.view_of }) left
                (λ reached is. rises reached.of reached.least is) knows_held.3)
                (subst (λ (c : shown.Content). Waits (λ epoch. epoch_of (shown_content x) ≤ epoch) c) (sym same ∙ ap (λ (c : Content). shown_content c) now_is) (from_own (shown_content x))),
            knows_held.4,
          );
          even = r.even;
          more = more_beside terms s r words' beside;
          room = room_beside terms s r words' beside;
          stopped = stopped_beside terms s r words' beside r.scene.row (λ h. h);
        }

  -- an entry is noted
  pub notes : (x : Content) (past : List Entry) (draft : Draft) (carried : List (ℕ × Content)) (e : Entry)
      → row.stop ≡ None → IsAsked terms e → IsClockBehind terms row.list row.entered e.clock
      → (row.entered < terms.more → Waits (λ epoch. epoch ≤ e.clock.at.epoch) (shown_content x))
      → e.place ≡ p → e.worker ≡ i → e.before ≡ x → e.clock ≡ draft.clock → e.request ≡ draft.request → e.after ≡ draft.after
      → Allows (IsKept terms) slots id (Working (with (Has p x past)), carried) p (λ n. n)
      (noted terms draft (step slots p 0 0 none) (Working (with (Has p x past)), carried))
  notes x past draft carried e going asked behind reached e_place e_worker e_before e_clock e_request e_after s r deep at below =
      let same : IsSame x e.before = ap (λ (c : Content). shown_content c) e_before in (
        with_entry e (Working (with (Has p x past))),
        keeps,
        tt,
        subst (λ ws. IsKept terms record { words = ws; homes = s.homes; views = set s.views id (with_entry e (Working (with (Has p x past)))) }) (sym (set-get_or s.words p 0))
            (notes_one x past s r at e asked same behind reached going e_place e_worker),
        (
          e,
          record {
            place_is = e_place;
            worker_is = e_worker;
            before_is = e_before;
            clock_is = e_clock;
            request_is = e_request;
            after_is = e_after;
            done = is_done x past s r at e asked same behind reached;
          },
          refl,
        ),
      )

  -- the word is freed: what the seat has out goes home
  pub frees : (x : Content) (past : List Entry) (y : Content) → IsSame x y
      → Allows (IsKept terms) slots id (Working (with (Has p x past)), (p, y) ∷ []) p (λ _. 0)
      (λ _. freed (step slots p 0 0 none) (Working (with (Has p x past)), (p, y) ∷ []) 0)
  frees x past y same s r deep at below =
      (with_given (Working (with (Has p x past))), gives, tt, frees_one x past s r at y same, refl)
