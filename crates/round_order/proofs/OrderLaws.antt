-- The one order of what workers and places tell: it keeps each worker's list and each place's past.
use Rattle.std.proofs.Common.{◌≡◌, ◌≢◌, ◌⊎◌, ℕ, suc, ◌+◌, ◌<◌, ◌≤◌, ◌==◌, ◌&&◌, Bool, true, false, List, [], ◌∷◌, map, length, filter, get_or, refl, sym, ◌∙◌, ap, subst, inl, inr, arith}
use Rattle.std.specs.List.{AllByRecursion}
use Rattle.std.proofs.lemmas.Bool.{eq-eqb, ne_eqb, and_from}
use Rattle.std.proofs.lemmas.List.Sorted.{IsPermutation-trans}
use Rattle.lamport_clocks.specs.declared.stamp.Stamp.{Stamp}
use Rattle.record_text.specs.declared.element.Element.{Element}
use Rattle.stamp_order.specs.declared.moment.Moment.{Moment}
use Rattle.stamp_order.specs.Merged.{comes_before, IsMerged}
use Rattle.stamp_order.proofs.InOrderLaws.{every-weaker, every-in_order}
use Rattle.stamp_order.proofs.MergedLaws.{merged-sorts, merged-permutation, merged-keeps, merged-one}
use Rattle.host_core.specs.Host.{Host}
use Rattle.host_core.specs.World.{Place, World, worker_at}
use Rattle.round_order.specs.Turn.{Turn, turn_moment, is_at, is_by, IsPlaceChain, IsWorkerChain, content_behind, clock_behind, content_at, in_one_order}
use Rattle.round_order.specs.Steady.{HasOne, IsSteady}
use Rattle.round_order.specs.Told.{IsTaken, IsLevel, CanRoll, AreTold, joined, joined_pasts, list_of, past_of}
use Rattle.round_order.proofs.GoingLaws.{aim-within}
use Rattle.round_order.proofs.ReadyLemmas.{AreIn, IsMoving, chain-rises, Ready}
use Rattle.round_order.proofs.RisingLemmas.{RisesFrom, rises-sorted, AreApart, rises-apart, apart-append, pairs-apart, sorted-rises, IsMet, moves, place-met, one_there, worker-rises, worker-in, place-sorted}
use Rattle.round_order.proofs.PastLemmas.{past_part, every-past, to_pasts, to_lists}
use Rattle.round_order.proofs.PartLemmas.{joined_up, every-joined, every-part, filter-all, picked, joined_twice, get_or-joined}

module _ {C R : Type 0} (host : Host C R) (scans : Bool) (steady : IsSteady host scans) (world : World C) (epoch top : ℕ) (finals : ℕ → ℕ) (level : IsLevel host world epoch)
    (lists : List (List (Turn C R))) (pasts : List (List (List (Turn C R)))) (told : AreTold host scans world top finals lists pasts) where
  -- ---- each turn was at a content with one element

  past_met : (place : Place) → AllByRecursion (IsMet host scans steady world) (past_of pasts place)
  past_met place =
      go (past_of pasts place) (past_part pasts (IsTaken host scans world) place (to_pasts lists pasts told.same (IsTaken host scans world) told.taken)) (told.own_place place) (told.places place)
    where
      go : (turns : List (Turn C R)) → AllByRecursion (IsTaken host scans world) turns → AllByRecursion (λ turn. turn.place ≡ place) turns
          → IsPlaceChain (content_at host world place) turns → AllByRecursion (IsMet host scans steady world) turns
      go [] each own chain = tt
      go (turn ∷ turns) each own chain =
          place-met host scans steady world (content_at host world place) (turn ∷ turns)
          (subst (λ (p : Place). HasOne host (content_at host world p)) own.0
          (one_there host scans steady world turn turn.request (chain.0 ∙ ap (content_at host world) (sym own.0)) each.0.did))
          chain each

  all_met : AllByRecursion (IsMet host scans steady world) (joined lists)
  all_met = to_lists lists pasts told.same (IsMet host scans steady world) (every-past pasts (IsMet host scans steady world) past_met)

  list_met : (i : ℕ) → AllByRecursion (IsMet host scans steady world) (list_of lists i)
  list_met i = every-part (IsMet host scans steady world) lists i all_met

  -- ---- each worker's list

  list_rises : (i : ℕ) → RisesFrom (worker_at host world i).clock.at (list_of lists i)
  list_rises i = worker-rises host scans steady world i (list_of lists i) (worker_at host world i).served (worker_at host world i).clock (told.workers i) (list_met i)

  -- a worker with a list is there, so that its turns are of the epoch or of later ones
  list_in : (i : ℕ) → AreIn epoch (list_of lists i)
  list_in i = go (list_of lists i) (list_met i) (told.own_worker i) (told.workers i)
    where
      go : (turns : List (Turn C R)) → AllByRecursion (IsMet host scans steady world) turns → AllByRecursion (λ turn. turn.worker ≡ i) turns
          → IsWorkerChain host i (worker_at host world i).clock (worker_at host world i).served turns → AreIn epoch turns
      go [] each own chain = tt
      go (turn ∷ turns) each own chain =
          let there : i < length world.workers = subst (λ (n : ℕ). n < length world.workers) own.0 each.0.is_taken.there in
          worker-in host scans steady world i epoch (turn ∷ turns) (worker_at host world i).served (worker_at host world i).clock
          (omega (arith, level.clocks i there)) chain each

  list_picked : (i : ℕ) → filter (is_by i) (joined lists) ≡ list_of lists i
  list_picked i =
      picked (is_by i) lists i
      (λ k apart. every-weaker (λ turn. turn.worker ≡ k) (λ turn. is_by i turn ≡ false)
      (λ turn own. ne_eqb turn.worker i (λ same. apart (sym own ∙ same))) (list_of lists k) (told.own_worker k))
      ∙ filter-all (is_by i) (list_of lists i)
      (every-weaker (λ turn. turn.worker ≡ i) (λ turn. is_by i turn ≡ true)
      (λ turn own. eq-eqb turn.worker i own) (list_of lists i) (told.own_worker i))

  -- Each worker's part of the one order is its list.
  pub worker_part : (i : ℕ) → filter (is_by i) (in_one_order (joined lists)) ≡ list_of lists i
  worker_part i =
      merged-keeps turn_moment (is_by i) (joined lists)
      (subst (IsMerged turn_moment) (sym (list_picked i)) (rises-sorted (worker_at host world i).clock.at (list_of lists i) (list_rises i)))
      ∙ list_picked i

  -- ---- no two moments are one

  cross : (xs ys : List (Turn C R)) (number : ℕ) → AllByRecursion (λ turn. turn.worker ≡ number) xs
      → AllByRecursion (λ turn. number < turn.worker) ys
      → AllByRecursion (λ x. AllByRecursion (λ y. turn_moment x ≢ turn_moment y) ys) xs
  cross [] ys number own later = tt
  cross (x ∷ xs) ys number own later = (
    every-weaker (λ turn. number < turn.worker) (λ y. turn_moment x ≢ turn_moment y)
        (λ y above same. omega (arith, above, own.0, ap (λ (m : Moment). m.verifier) same)) ys later,
    cross xs ys number own.1 later,
  )

  apart_from : (number : ℕ) (some : List (List (Turn C R)))
      → ((i : ℕ) → AllByRecursion (λ turn. turn.worker ≡ number + i) (get_or some i []))
      → ((i : ℕ) → (low : Stamp) × RisesFrom low (get_or some i [])) → AreApart (joined some)
  apart_from number [] own rises = tt
  apart_from number (list ∷ some) own rises =
      apart-append list (joined some) (rises-apart (rises 0).0 list (rises 0).1)
      (apart_from (suc number) some
      (λ i. every-weaker (λ turn. turn.worker ≡ number + suc i) (λ turn. turn.worker ≡ suc number + i)
      (λ turn is. is ∙ omega arith) (get_or some i []) (own (suc i)))
      (λ i. rises (suc i)))
      (cross list (joined some) number
      (every-weaker (λ turn. turn.worker ≡ number + 0) (λ turn. turn.worker ≡ number) (λ turn is. is ∙ omega arith) list (own 0))
      (every-joined (λ turn. number < turn.worker) some
      (λ i. every-weaker (λ turn. turn.worker ≡ number + suc i) (λ turn. number < turn.worker)
      (λ turn is. omega (arith, is)) (get_or some i []) (own (suc i)))))

  all_apart : AreApart (joined lists)
  all_apart =
      apart_from 0 lists
      (λ i. every-weaker (λ turn. turn.worker ≡ i) (λ turn. turn.worker ≡ 0 + i) (λ turn is. is ∙ omega arith)
      (list_of lists i) (told.own_worker i))
      (λ i. ((worker_at host world i).clock.at, list_rises i))

  -- ---- each place's past

  -- a turn at another place
  elsewhere : (place : Place) (turn : Turn C R) (s seat : ℕ) → turn.place ≡ record { shard = s; seat = seat }
      → (s ≢ place.shard) ⊎ (seat ≢ place.seat) → is_at place turn ≡ false
  elsewhere place turn s seat own (inl apart) =
      ap (λ (b : Bool). b && (turn.place.seat == place.seat))
      (ap (λ (p : Place). p.shard == place.shard) own ∙ ne_eqb s place.shard apart)
  elsewhere place turn s seat own (inr apart) =
      ap (λ (b : Bool). (turn.place.shard == place.shard) && b)
      (ap (λ (p : Place). p.seat == place.seat) own ∙ ne_eqb seat place.seat apart)
      ∙ neither (turn.place.shard == place.shard)
    where
      neither : (b : Bool) → (b && false) ≡ false
      neither true = refl
      neither false = refl

  past_picked : (place : Place) → filter (is_at place) (joined_pasts pasts) ≡ past_of pasts place
  past_picked place =
      ap (filter (is_at place)) (joined_twice pasts)
      ∙ picked (is_at place) (map joined_up pasts) place.shard
      (λ s apart. subst (AllByRecursion (λ turn. is_at place turn ≡ false)) (sym (get_or-joined pasts s))
      (every-joined (λ turn. is_at place turn ≡ false) (get_or pasts s [])
      (λ seat. every-weaker (λ turn. turn.place ≡ record { shard = s; seat = seat }) (λ turn. is_at place turn ≡ false)
      (λ turn own. elsewhere place turn s seat own (inl apart)) (get_or (get_or pasts s []) seat [])
      (told.own_place (record { shard = s; seat = seat })))))
      ∙ ap (filter (is_at place)) (get_or-joined pasts place.shard)
      ∙ picked (is_at place) (get_or pasts place.shard []) place.seat
      (λ seat apart. every-weaker (λ turn. turn.place ≡ record { shard = place.shard; seat = seat }) (λ turn. is_at place turn ≡ false)
      (λ turn own. elsewhere place turn place.shard seat own (inr apart)) (get_or (get_or pasts place.shard []) seat [])
      (told.own_place (record { shard = place.shard; seat = seat })))
      ∙ filter-all (is_at place) (past_of pasts place)
      (every-weaker (λ turn. turn.place ≡ place) (λ turn. is_at place turn ≡ true)
      (λ turn own. and_from (turn.place.shard == place.shard) (turn.place.seat == place.seat)
      (eq-eqb turn.place.shard place.shard (ap (λ (p : Place). p.shard) own))
      (eq-eqb turn.place.seat place.seat (ap (λ (p : Place). p.seat) own)))
      (past_of pasts place) (told.own_place place))

  -- the one order is that of the places as well
  same_order : in_one_order (joined_pasts pasts) ≡ in_one_order (joined lists)
  same_order =
      merged-one turn_moment (joined lists) (in_one_order (joined_pasts pasts)) (pairs-apart (joined lists) all_apart)
      (IsPermutation-trans (joined lists) (joined_pasts pasts) (in_one_order (joined_pasts pasts)) told.same
      (merged-permutation turn_moment (joined_pasts pasts)))
      (merged-sorts turn_moment (joined_pasts pasts))

  -- Each place's part of the one order is its past.
  pub place_part : (place : Place) → filter (is_at place) (in_one_order (joined lists)) ≡ past_of pasts place
  place_part place =
      ap (filter (is_at place)) (sym same_order)
      ∙ merged-keeps turn_moment (is_at place) (joined_pasts pasts)
      (subst (IsMerged turn_moment) (sym (past_picked place))
      (place-sorted host scans steady world (content_at host world place) (past_of pasts place) (told.places place) (past_met place)))
      ∙ past_picked place

  -- ---- the world is ready for the one order

  ordered : (P : Turn C R → Type 0) → AllByRecursion P (joined lists) → AllByRecursion P (in_one_order (joined lists))
  ordered P all = every-in_order (comes_before turn_moment) P (joined lists) all

  all_moving : AllByRecursion (IsMoving host) (joined lists)
  all_moving = every-weaker (IsMet host scans steady world) (IsMoving host) (moves host scans steady world) (joined lists) all_met

  pub order_ready : epoch ≤ top → (epoch < top → CanRoll host world epoch top) → Ready host scans top finals world epoch (in_one_order (joined lists))
  order_ready within roll = record {
    up = record {
      going = level.going;
      phase = level.phase;
      idle = level.idle;
      clocks = λ i there. level.clocks i there ∙ sym (aim-within epoch (finals i) (from i there));
      lasts = λ i there. ((told.final i there).1, (told.final i there).2);
      within = within;
      roll = roll;
    };
    each = ordered (IsTaken host scans world) told.taken;
    moving = ordered (IsMoving host) all_moving;
    rising = sorted-rises host epoch (in_one_order (joined lists)) (merged-sorts turn_moment (joined lists)) (ordered (IsMoving host) all_moving)
        (ordered (λ turn. epoch ≤ turn.clock.at.epoch) (every-joined (λ turn. epoch ≤ turn.clock.at.epoch) lists list_in));
    workers = λ i. subst (IsWorkerChain host i (worker_at host world i).clock (worker_at host world i).served) (sym (worker_part i)) (told.workers i);
    places = λ place. subst (IsPlaceChain (content_at host world place)) (sym (place_part place)) (told.places place);
    final = λ i there. subst (λ (part : List (Turn C R)). (clock_behind (worker_at host world i).clock part).at.epoch ≤ finals i) (sym (worker_part i)) (told.final i there).0;
    ends = λ place at. subst (λ (part : List (Turn C R)). AllByRecursion (λ (element : Element). top ≤ suc element.stamp.epoch) (host.pending (content_behind (content_at host world place) part)))
        (sym (place_part place)) (told.ends place at);
  }
    where
      from : (i : ℕ) → i < length world.workers → epoch ≤ finals i
      from i there =
          let rises = chain-rises host i (list_of lists i) (worker_at host world i).served (worker_at host world i).clock (told.workers i)
          (every-part (IsMoving host) lists i all_moving) in
          omega (arith, level.clocks i there, rises, (told.final i there).0)
