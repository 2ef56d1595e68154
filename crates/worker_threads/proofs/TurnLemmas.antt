-- What is asked of each worker, with the turns of one task more.
use Rattle.std.proofs.Common.{◌≡◌, ◌≢◌, ◌⊎◌, inl, inr, ℕ, ◌<◌, ◌==◌, Bool, true, false, List, [], ◌∷◌, ◌++◌, map, length, get_or, set, if◌then◌else◌, refl, sym, ◌∙◌, ap, subst, append-nil, append_assoc, eq-eqb, ne_eqb, All, arith}
use Rattle.std.specs.List.{AllByRecursion}
use Rattle.std.proofs.lemmas.Bool.{cases_eq}
use Rattle.std.proofs.lemmas.List.{get_or-map, get_or-set_same, get_or-set_other, length-map, length-set, map-set, map_push}
use Rattle.std.proofs.lemmas.List.Elements.{All-get_or, All-nil, All-push}
use Rattle.record_text.specs.declared.request.Request.{Request}
use Rattle.script_text.specs.declared.task.Task.{Task}
use Rattle.host_core.specs.Host.{Host}
use Rattle.host_core.specs.World.{World}
use Rattle.host_shard.specs.Content.{Content}
use Rattle.round_workers.specs.declared.turn.Turn.{Turn}
use Rattle.worker_threads.specs.Parts.{asked_of}
use Rattle.worker_threads.specs.Phase.{numbered, IsAsked, IsPlaceFor}
use Rattle.worker_threads.specs.Round.{AreAskedSo}

-- ---- tasks, one after another

asked-more : (i : ℕ) (tasks : List Task) (task : Task) → asked_of i (tasks ++ task ∷ []) ≡ asked_of i tasks ++ (if task.worker == i then task.request ∷ [] else [])
asked-more i [] task = refl
asked-more i (first ∷ tasks) task = go (first.worker == i) (asked-more i tasks task)
  where
    go : (b : Bool) → asked_of i (tasks ++ task ∷ []) ≡ asked_of i tasks ++ (if task.worker == i then task.request ∷ [] else [])
        → (if b then first.request ∷ asked_of i (tasks ++ task ∷ []) else asked_of i (tasks ++ task ∷ []))
        ≡ (if b then first.request ∷ asked_of i tasks else asked_of i tasks) ++ (if task.worker == i then task.request ∷ [] else [])
    go true rest = ap (λ (requests : List Request). first.request ∷ requests) rest
    go false rest = rest

-- its own,
asked-own : (i : ℕ) (tasks : List Task) (task : Task) → task.worker ≡ i → asked_of i (tasks ++ task ∷ []) ≡ asked_of i tasks ++ task.request ∷ []
asked-own i tasks task own = asked-more i tasks task ∙ ap (λ (b : Bool). asked_of i tasks ++ (if b then task.request ∷ [] else [])) (eq-eqb task.worker i own)

-- and another's
asked-other : (i : ℕ) (tasks : List Task) (task : Task) → task.worker ≢ i → asked_of i (tasks ++ task ∷ []) ≡ asked_of i tasks
asked-other i tasks task other =
    asked-more i tasks task ∙ ap (λ (b : Bool). asked_of i tasks ++ (if b then task.request ∷ [] else [])) (ne_eqb task.worker i other)
    ∙ append-nil (asked_of i tasks)

-- what holds of all tasks holds of one
pub at_task : (P : Task → Type 0) (before after all : List Task) (task : Task) → before ++ task ∷ after ≡ all → AllByRecursion P all → P task
at_task P before after all task are holds = go before (subst (AllByRecursion P) (sym are) holds)
  where
    go : (front : List Task) → AllByRecursion P (front ++ task ∷ after) → P task
    go [] held = held.0
    go (first ∷ front) held = go front held.1

-- ---- turns

module _ (host : Host Content Request) (world : World Content) where
  -- No turns are what is not asked.
  pub none-asked : (turns : List (List Turn)) → All (λ own. own ≡ []) turns → AreAskedSo host world (λ i. []) turns
  none-asked turns none i d there =
      subst (IsAsked host world []) (sym (All-get_or (λ own. own ≡ []) turns i d there none))
      (record { requests = refl; places = All-nil (λ turn. IsPlaceFor host world turn.task.request turn.place) })

  -- What is asked of one worker has its turn more.
  one-more : (asked : List (ℕ × Request)) (turns : List Turn) (turn : Turn) → IsPlaceFor host world turn.task.request turn.place
      → IsAsked host world asked turns → IsAsked host world (asked ++ (turn.phase, turn.task.request) ∷ []) (turns ++ turn ∷ [])
  one-more asked turns turn place so_far = record {
    requests =
        map_push (λ (t : Turn). (t.phase, t.task.request)) turns turn
        ∙ ap (λ (requests : List (ℕ × Request)). requests ++ (turn.phase, turn.task.request) ∷ []) so_far.requests;
    places = All-push (λ turn. IsPlaceFor host world turn.task.request turn.place) turns turn so_far.places place;
  }

  module _ (asks : ℕ → List (ℕ × Request)) where
    -- what is asked before, and what these tasks of a phase ask
    abbrev pub With : ℕ → List Task → List (List Turn) → Type 0
    With phase tasks turns = AreAskedSo host world (λ i. asks i ++ numbered phase (asked_of i tasks)) turns

    -- no task asks nothing more
    pub with-none : (phase : ℕ) (turns : List (List Turn)) → AreAskedSo host world asks turns → With phase [] turns
    with-none phase turns so_far i d there = subst (λ (requests : List (ℕ × Request)). IsAsked host world requests (get_or turns i d)) (sym (append-nil (asks i))) (so_far i d there)

    -- One task more is asked of its worker, at a place of its own, and nothing more of the others.
    pub turn-asked : (tasks : List Task) (turns : List (List Turn)) (turn : Turn) → turn.task.worker < length turns → IsPlaceFor host world turn.task.request turn.place
        → With turn.phase tasks turns → With turn.phase (tasks ++ turn.task ∷ []) (set turns turn.task.worker (get_or turns turn.task.worker [] ++ turn ∷ []))
    turn-asked tasks turns turn within place so_far i d in_set = go (cases_eq turn.task.worker i)
      where
        after : List (List Turn)
        after = set turns turn.task.worker (get_or turns turn.task.worker [] ++ turn ∷ [])

        inside : i < length turns
        inside = let many = length-set turns turn.task.worker (get_or turns turn.task.worker [] ++ turn ∷ []) in omega (arith, in_set, many)

        go : (turn.task.worker ≡ i) ⊎ (turn.task.worker ≢ i) → IsAsked host world (asks i ++ numbered turn.phase (asked_of i (tasks ++ turn.task ∷ []))) (get_or after i d)
        go (inl own) =
            let at : get_or after i d ≡ get_or turns i [] ++ turn ∷ [] =
            ap (λ (j : ℕ). get_or (set turns j (get_or turns j [] ++ turn ∷ [])) i d) own ∙ get_or-set_same turns i (get_or turns i [] ++ turn ∷ []) d inside in
            let more : asks i ++ numbered turn.phase (asked_of i (tasks ++ turn.task ∷ [])) ≡ (asks i ++ numbered turn.phase (asked_of i tasks)) ++ (turn.phase, turn.task.request) ∷ [] =
            ap (λ (requests : List Request). asks i ++ numbered turn.phase requests) (asked-own i tasks turn.task own)
            ∙ ap (λ (requests : List (ℕ × Request)). asks i ++ requests) (map_push (λ (request : Request). (turn.phase, request)) (asked_of i tasks) turn.task.request)
            ∙ sym (append_assoc (asks i) (numbered turn.phase (asked_of i tasks)) ((turn.phase, turn.task.request) ∷ [])) in
            subst (λ (requests : List (ℕ × Request)). IsAsked host world requests (get_or after i d)) (sym more)
            (subst (IsAsked host world ((asks i ++ numbered turn.phase (asked_of i tasks)) ++ (turn.phase, turn.task.request) ∷ [])) (sym at)
            (one-more (asks i ++ numbered turn.phase (asked_of i tasks)) (get_or turns i []) turn place (so_far i [] inside)))
        go (inr other) =
            let at : get_or after i d ≡ get_or turns i d = get_or-set_other turns turn.task.worker i (get_or turns turn.task.worker [] ++ turn ∷ []) d (λ same. other (sym same)) in
            subst (λ (requests : List Request). IsAsked host world (asks i ++ numbered turn.phase requests) (get_or after i d)) (sym (asked-other i tasks turn.task other))
            (subst (IsAsked host world (asks i ++ numbered turn.phase (asked_of i tasks))) (sym at) (so_far i d inside))

    -- The same of the lists as they stand beside one another in the code.
    pub turn-pushed : {V : Type 0} (items : V → List Turn) (tasks : List Task) (turns : List V) (own pushed : V) (w : ℕ) (turn : Turn) → w ≡ turn.task.worker
        → turn.task.worker < length turns → own ≡ get_or turns w own → items pushed ≡ items own ++ turn ∷ [] → IsPlaceFor host world turn.task.request turn.place
        → With turn.phase tasks (map items turns) → With turn.phase (tasks ++ turn.task ∷ []) (map items (set turns w pushed))
    turn-pushed {V} items tasks turns own pushed w turn number within at more place so_far =
        let mapped : get_or (map items turns) turn.task.worker [] ≡ items own =
        get_or-map items turns turn.task.worker own [] within ∙ ap (λ (j : ℕ). items (get_or turns j own)) (sym number) ∙ ap items (sym at) in
        let now : map items (set turns w pushed) ≡ set (map items turns) turn.task.worker (get_or (map items turns) turn.task.worker [] ++ turn ∷ []) =
        ap (λ (j : ℕ). map items (set turns j pushed)) number
        ∙ map-set items turns turn.task.worker pushed
        ∙ ap (set (map items turns) turn.task.worker) (more ∙ ap (λ (ts : List Turn). ts ++ turn ∷ []) (sym mapped)) in
        subst (With turn.phase (tasks ++ turn.task ∷ [])) (sym now)
        (turn-asked tasks (map items turns) turn (omega (arith, within, length-map turns items)) place so_far)
