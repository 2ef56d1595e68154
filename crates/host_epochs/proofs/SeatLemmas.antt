-- Seats that are dealt, that come and that are gathered keep the rule.
use Rattle.std.proofs.Common.{◌≡◌, ◌≢◌, ℕ, zero, suc, ◌+◌, ◌<◌, List, [], ◌∷◌, ◌++◌, length, length-set, set, slice_index, refl, sym, ap, ◌∙◌, subst, ⊎_elim, arith, add-zero}
use mathlib.Core.Option.{some, none, some-injective, some-ne-none}
use lib.ListN.{get_elem?}
use Rattle.atomic_table.specs.Table.{State, Enters, Splits, Joins, step}
use Rattle.atomic_table.proofs.Lists.{set_else, at_longer}
use Rattle.host_shard.specs.declared.content.Content.{Content}
use Rattle.host_epochs.specs.declared.told.Loss.{Loss}
use Rattle.host_epochs.specs.declared.told.Reached.{Reached}
use Rattle.host_epochs.specs.declared.views.Held.TheVariants.{Idle}
use Rattle.host_epochs.specs.declared.views.Desk.{Desk}
use Rattle.host_epochs.specs.declared.views.Row.{Row}
use Rattle.host_epochs.specs.declared.views.View.{View}
use Rattle.host_epochs.specs.declared.views.View.TheVariants.{Spent, Working}
use Rattle.host_epochs.specs.Plays.{rack, new_desk, came}
use Rattle.host_epochs.specs.Rule.{Scene, HoldsPlace, IsPlaceKept, IsRowOf, Knows, IsKept}
use Rattle.host_epochs.specs.Terms.{Terms, place_count}
use Rattle.host_epochs.proofs.SceneLemmas.{at_end, views_stay, IsThere, IsOnward, IsAsBefore, knows_still, held_still, place_still}
use Rattle.host_epochs.proofs.ToldLemmas.{put, put_here, put_else}

module _ (terms : Terms) where
  -- the same scene, but for which view is a worker's
  abbrev with_view : Scene → ℕ → ℕ → Scene
  with_view c worker view = record { now = c.now; past = c.past; row = c.row; view_of = put c.view_of worker view }

  -- where views alone change, the places stay as who holds one is found again
  places_stay : (s : State Content View) (c : Scene) (view_of' : ℕ → ℕ) (views' : List View)
      → ((q x : ℕ) (v : View) → x < terms.workers → get_elem? s.views (c.view_of x) ≡ some v → HoldsPlace x q v → IsThere views' (view_of' x) (HoldsPlace x q))
      → ((q : ℕ) → q < place_count terms → IsPlaceKept terms c s q)
      → (q : ℕ) → q < place_count terms → IsPlaceKept terms record { now = c.now; past = c.past; row = c.row; view_of = view_of' } record { words = s.words; homes = s.homes; views = views' } q
  places_stay s c view_of' views' find kept q there =
      let c' : Scene = record { now = c.now; past = c.past; row = c.row; view_of = view_of' } in
      place_still terms c c' s record { words = s.words; homes = s.homes; views = views' } q refl refl refl refl (λ is. is)
      (held_still terms c c' s.views views' q (slice_index s.words q) (find q)) (kept q there)

  same_rows : (c : Scene) (worker view : ℕ) → IsOnward terms c (with_view c worker view)
  same_rows c worker view = record { rises = λ q least is. is; dones = λ x. omega arith }

  -- the rule knows of no worker but by its own view
  as_before : (s : State Content View) (c : Scene) (worker view x : ℕ) → x ≢ worker → IsAsBefore terms c s.words (with_view c worker view) s.words x
  as_before s c worker view x other = record { view = put_else c.view_of worker view x other; row = refl; places = λ q _ held. (held, refl, refl) }

  -- ---- a worker's seat is dealt

  pub deals : (id from : ℕ) (row : Row) (rows : List Row)
      → Splits (IsKept terms) id (rack from (row ∷ rows)) (rack (suc from) rows) (Working (new_desk from row))
  deals id from row rows s r at =
      let c : Scene = r.scene in
      let end : ℕ = length s.views in
      let c' : Scene = with_view c from end in
      let old : View = rack from (row ∷ rows) in
      let left : View = rack (suc from) rows in
      let right : View = Working (new_desk from row) in
      let was = r.views id old at in
      let own : IsRowOf c id from row = subst (λ n. IsRowOf c id n row) (add-zero from) (was.1 0 row refl) in
      let wide : length (set s.views id left) ≡ end = length-set s.views id left in
      record {
        scene = c';
        wide = r.wide;
        deep = r.deep;
        places = places_stay s c (put c.view_of from end) (set s.views id left ++ right ∷ [])
            (λ q x v known found holds.
            let not_id : c.view_of x ≢ id = λ e. subst (HoldsPlace x q) (some-injective v old (sym found ∙ (ap (get_elem? s.views) e ∙ at))) holds in
            let x_other : x ≢ from = λ e. not_id (ap c.view_of e ∙ own.here) in
            record { view = v; at = ap (get_elem? (set s.views id left ++ right ∷ [])) (put_else c.view_of from end x x_other) ∙ at_longer (set s.views id left) (right ∷ []) (c.view_of x) v (set_else s.views id (c.view_of x) left not_id ∙ found); is = holds })
            r.places;
        workers = r.workers;
        views = λ j v found. ⊎_elim
            (views_stay (Knows terms c' s.words) s.views id left (
              omega (arith, was.0),
              λ i row' is. let is' = was.1 (suc i) row' is in
                  let number : suc from + i ≡ from + suc i = omega arith in
                  let own' : IsRowOf c id (suc from + i) row' = subst (λ n. IsRowOf c id n row') (sym number) is' in
                  record { here = put_else c.view_of from end (suc from + i) (λ e. absurd (omega arith)) ∙ own'.here; is = own'.is },
            )
            (λ j' v' other found'. knows_still terms c c' s.words s.words (same_rows c from end) j' (λ x here. as_before s c from end x (λ e. other (sym here ∙ (ap c.view_of e ∙ own.here)))) v' (r.views j' v' found'))
            j v)
            (λ last. subst (λ (t : ℕ × View). Knows terms c' s.words t.0 t.1) (λ k. (sym (last.0 ∙ wide) k, last.1 k))
            (omega (arith, was.0), record { here = put_here c.view_of from end; is = own.is }, tt, tt, tt))
            (at_end (set s.views id left) right v j found);
        even = r.even;
        more = r.more;
        room = r.room;
        stopped = r.stopped;
      }

  -- ---- a seat comes with no row

  pub comes : (word slots : ℕ) (v : View × List (ℕ × Content))
      → Enters (IsKept terms) slots word (λ n w. came terms (step slots word 0 0 none) v n (w, []))
  comes word slots v s r deep below =
      let new : View = rack terms.workers [] in (
        new,
        record {
          scene = r.scene;
          wide = r.wide;
          deep = r.deep;
          places = places_stay s r.scene r.scene.view_of (s.views ++ new ∷ [])
              (λ q x v known found holds. record { view = v; at = at_longer s.views (new ∷ []) (r.scene.view_of x) v found; is = holds }) r.places;
          workers = r.workers;
          views = λ j v found. ⊎_elim (r.views j v) (λ last. subst (Knows terms r.scene s.words j) last.1 (add-zero terms.workers, λ i row is. absurd (some-ne-none row (sym is)))) (at_end s.views new v j found);
          even = r.even;
          more = r.more;
          room = r.room;
          stopped = r.stopped;
        },
        refl,
      )

  -- ---- a worker's row is gathered

  rows_of : (c : Scene) (id i : ℕ) (row : Row) (rows : List Row) → IsRowOf (with_view c i id) id i row
      → ((n : ℕ) (row' : Row) → get_elem? rows n ≡ some row' → IsRowOf c id (suc i + n) row')
      → (n : ℕ) (row' : Row) → get_elem? (row ∷ rows) n ≡ some row' → IsRowOf (with_view c i id) id (i + n) row'
  rows_of c id i row rows first rest zero row' is =
      subst (λ (t : ℕ × Row). IsRowOf (with_view c i id) id t.0 t.1) (λ k. (sym (add-zero i) k, some-injective row row' is k)) first
  rows_of c id i row rows first rest (suc n) row' is =
      let own = subst (λ m. IsRowOf c id m row') (let e : suc i + n ≡ i + suc n = omega arith in e) (rest n row' is) in
      record { here = put_else c.view_of i id (i + suc n) (λ e. absurd (omega arith)) ∙ own.here; is = own.is }

  pub gathers : (id other i : ℕ) (rows : List Row) (row : Row) (losses : List Loss) (given seen : List Reached)
      → Joins (IsKept terms) id (rack (suc i) rows) other (Working (record { number = i; held = Idle; row = row; losses = losses; left = given; seen = seen })) (rack i (row ∷ rows)) Spent
  gathers id other i rows row losses given seen s r at apart at' =
      let c : Scene = r.scene in
      let c' : Scene = with_view c i id in
      let old : View = rack (suc i) rows in
      let desk : Desk = record { number = i; held = Idle; row = row; losses = losses; left = given; seen = seen } in
      let both : View = rack i (row ∷ rows) in
      let there : get_elem? s.views other ≡ some (Working desk) = sym (set_else s.views id other both apart) ∙ at' in
      let was = r.views id old at in
      let gone = r.views other (Working desk) there in
      record {
        scene = c';
        wide = r.wide;
        deep = r.deep;
        places = places_stay s c (put c.view_of i id) (set (set s.views id both) other Spent)
            (λ q x v known found holds.
            let not_id : c.view_of x ≢ id = λ e. subst (HoldsPlace x q) (some-injective v old (sym found ∙ (ap (get_elem? s.views) e ∙ at))) holds in
            let not_other : c.view_of x ≢ other = λ e. (subst (HoldsPlace x q) (some-injective v (Working desk) (sym found ∙ (ap (get_elem? s.views) e ∙ there))) holds).1 in
            let x_other : x ≢ i = λ e. not_other (ap c.view_of e ∙ gone.1.here) in
            record {
              view = v;
              at = ap (get_elem? (set (set s.views id both) other Spent)) (put_else c.view_of i id x x_other)
                  ∙ (set_else (set s.views id both) other (c.view_of x) Spent not_other ∙ (set_else s.views id (c.view_of x) both not_id ∙ found));
              is = holds;
            })
            r.places;
        workers = r.workers;
        views = views_stay (Knows terms c' s.words) (set s.views id both) other Spent tt
            (λ j v j_other found. views_stay (λ j' v'. j' ≢ other → Knows terms c' s.words j' v') s.views id both
            (λ _. (omega (arith, was.0), rows_of c id i row rows (record { here = put_here c.view_of i id; is = gone.1.is }) was.1))
            (λ j' v' j_apart found' j_other'. knows_still terms c c' s.words s.words (same_rows c i id) j' (λ x here. as_before s c i id x (λ e. j_other' (sym here ∙ (ap c.view_of e ∙ gone.1.here)))) v' (r.views j' v' found'))
            j v found j_other);
        even = r.even;
        more = r.more;
        room = r.room;
        stopped = r.stopped;
      }
