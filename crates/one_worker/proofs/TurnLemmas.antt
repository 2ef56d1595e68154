-- One turn of the only worker, in what it finds and leaves at its shard.
use Rattle.std.proofs.Common.{◌≡◌, ◌≢◌, ◌⊎◌, inl, inr, ℕ, suc, ◌<◌, ◌≤◌, ◌==◌, ◌&&◌, Bool, true, false, List, [], ◌∷◌, map, length, filter, get_or, set, Option, Some, None, refl, sym, ◌∙◌, ap, subst, arith}
use Rattle.std.specs.List.{AllByRecursion}
use Rattle.std.proofs.lemmas.Bool.{cases_eq, eq-eqb, ne_eqb, and_from, cond-true, cond-false}
use Rattle.std.proofs.lemmas.List.{length-map, get_or-map, get_or-set_same, get_or-set_other}
use Rattle.record_text.specs.declared.element.Element.{Element}
use Rattle.host_core.specs.Host.{Host}
use Rattle.host_core.specs.World.{Place, Seats, World, unmoved, shard_at}
use Rattle.round_order.specs.Turn.{Turn, is_at, IsPlaceChain, content_behind}
use Rattle.round_order.specs.Steady.{HasOne, MovesOn}
use Rattle.round_order.specs.Told.{IsScan, IsDid, IsTaken, others_in, others_at}
use Rattle.host_serving.specs.Loop.{IsFresh, AreFresh}
use Rattle.one_worker.proofs.ShapeLemmas.{IsKnown, get_first, rest_of, IsSeated, IsShaped, shaped_set}

-- a shard's first place
abbrev pub first_place : ℕ → Place
first_place s = record { shard = s; seat = 0 }

-- the contents of a world's shards
abbrev pub contents_in : {C : Type 0} → World C → List (List C)
contents_in world = map (λ shard. shard.contents) world.shards

pub contents_at : {C : Type 0} (world : World C) (s : ℕ) → s < length world.shards → get_or (contents_in world) s [] ≡ (shard_at world s).contents
contents_at world s there = get_or-map (λ (shard : Seats _). shard.contents) world.shards s (unmoved []) [] there

module _ {C R : Type 0} (host : Host C R) where
  -- the content of a shard's first seat
  abbrev pub first_in : List (List C) → ℕ → C
  first_in shards s = get_or (get_or shards s []) 0 host.vacant

  -- a content waits with one element, of this epoch
  abbrev pub Waits : C → ℕ → Type 0
  Waits content epoch = (element : Element) × (host.pending content ≡ element ∷ []) × (element.stamp.epoch ≡ epoch)

  -- it waits with one
  pub waits_one : (x y : ℕ) (content : C) (P : Element → Type 0) → (waits : Waits content x) → AllByRecursion P (host.pending content) → P waits.0
  waits_one x y content P waits all = (subst (AllByRecursion P) waits.1 all).0

  module _ (world : World C) (known : IsKnown host (contents_in world)) where
    abbrev origin : List (List C)
    origin = contents_in world

    pub others_are : (s : ℕ) → s < length world.shards → others_at world s ≡ rest_of host origin s
    others_are s there = ap others_in (sym (contents_at world s there))

    -- What is told from these contents of the shards on, up to the last ones: turns at first places, each from what stands there.
    pub record Tells (shards last : List (List C)) (turns : List (Turn C R)) : Type 0 where
      pub shaped : IsShaped host origin shards
      pub taken : AllByRecursion (IsTaken host true world) turns
      pub fresh : AreFresh host turns
      pub places : (s : ℕ) → s < length origin → IsPlaceChain (first_in shards s) (filter (is_at (first_place s)) turns)
      pub ends : (s : ℕ) → s < length origin → content_behind (first_in shards s) (filter (is_at (first_place s)) turns) ≡ first_in last s

    module _ (shards last : List (List C)) (turn : Turn C R) (turns : List (Turn C R)) (tells : Tells shards last (turn ∷ turns)) where
      abbrev s : ℕ
      s = turn.place.shard

      within : s < length world.shards
      within = tells.taken.0.at.0

      pub turn_there : s < length origin
      turn_there = omega (arith, within, length-map world.shards (λ (shard : Seats C). shard.contents))

      pub turn_first : turn.place.seat ≡ 0
      turn_first = tells.taken.0.alone refl

      at_own : is_at (first_place s) turn ≡ true
      at_own = and_from (s == s) (turn.place.seat == 0) (eq-eqb s s refl) (eq-eqb turn.place.seat 0 turn_first)

      at_other : (u : ℕ) → u ≢ s → is_at (first_place u) turn ≡ false
      at_other u apart = ap (λ (b : Bool). b && (turn.place.seat == 0)) (ne_eqb s u (λ same. apart (sym same)))

      own_part : filter (is_at (first_place s)) (turn ∷ turns) ≡ turn ∷ filter (is_at (first_place s)) turns
      own_part = cond-true (is_at (first_place s) turn) (turn ∷ filter (is_at (first_place s)) turns) (filter (is_at (first_place s)) turns) at_own

      other_part : (u : ℕ) → u ≢ s → filter (is_at (first_place u)) (turn ∷ turns) ≡ filter (is_at (first_place u)) turns
      other_part u apart = cond-false (is_at (first_place u) turn) (turn ∷ filter (is_at (first_place u)) turns) (filter (is_at (first_place u)) turns) (at_other u apart)

      own_chain : IsPlaceChain (first_in shards s) (turn ∷ filter (is_at (first_place s)) turns)
      own_chain = subst (IsPlaceChain (first_in shards s)) own_part (tells.places s turn_there)

      -- ---- what it finds

      pub turn_before : turn.before ≡ first_in shards s
      turn_before = own_chain.0

      seats : IsSeated host origin s (get_or shards s [])
      seats = tells.shaped.seated s turn_there

      turn_first_is : first_in shards s ≡ seats.content
      turn_first_is = get_first (get_or shards s []) seats.content (rest_of host origin s) 0 host.vacant seats.are refl

      pub turn_seats : get_or shards s [] ≡ turn.before ∷ rest_of host origin s
      turn_seats = seats.are ∙ ap (λ (c : C). c ∷ rest_of host origin s) (sym (turn_before ∙ turn_first_is))

      pub turn_one : HasOne host turn.before
      turn_one = subst (HasOne host) (sym (turn_before ∙ turn_first_is)) seats.one

      pub turn_moves : MovesOn host turn.clock turn.before turn.done
      turn_moves = go turn.request tells.taken.0.did
        where
          go : (request : Option R) → IsDid host true world turn request → MovesOn host turn.clock turn.before turn.done
          go None is = known.steady.scans_on refl turn.worker s turn.clock turn.before (others_at world s) turn.done turn_one is.alone is.moves
          go (Some request) is = known.steady.serves_on turn.worker turn.clock turn.before request turn.done turn_one is.1

      -- ---- what it leaves

      abbrev pub put : List (List C)
      put = set shards s (turn.done.after ∷ rest_of host origin s)

      owners : (seat : ℕ) (ask : R) → host.owns s (turn.done.after ∷ rest_of host origin s) seat ask ≡ host.owns s (get_or shards s []) seat ask
      owners seat ask = go turn.request tells.taken.0.did ∙ ap (λ (cs : List C). host.owns s cs seat ask) (sym turn_seats)
        where
          go : (request : Option R) → IsDid host true world turn request
              → host.owns s (turn.done.after ∷ rest_of host origin s) seat ask ≡ host.owns s (turn.before ∷ rest_of host origin s) seat ask
          go None is =
              ap (λ (cs : List C). host.owns s (turn.done.after ∷ cs) seat ask) (sym (others_are s within))
              ∙ known.steady.scan_owners refl turn.worker s turn.clock turn.before (others_at world s) turn.done turn_one is.alone is.moves seat ask
              ∙ ap (λ (cs : List C). host.owns s (turn.before ∷ cs) seat ask) (others_are s within)
          go (Some request) is =
              known.steady.owners turn.worker turn.clock s 0 (turn.before ∷ rest_of host origin s) request turn.done turn_one is.1 seat ask

      put_shaped : IsShaped host origin put
      put_shaped = shaped_set host origin known shards s turn.done.after tells.shaped turn_there (turn_moves.new.0, turn_moves.new.1) owners

      put_own : first_in put s ≡ turn.done.after
      put_own = ap (λ (cs : List C). get_or cs 0 host.vacant)
          (get_or-set_same shards s (turn.done.after ∷ rest_of host origin s) [] (omega (arith, turn_there, tells.shaped.count)))

      put_other : (u : ℕ) → u ≢ s → first_in put u ≡ first_in shards u
      put_other u apart = ap (λ (cs : List C). get_or cs 0 host.vacant) (get_or-set_other shards s u (turn.done.after ∷ rest_of host origin s) [] apart)

      -- the rest is told from what it leaves
      pub put_tells : Tells put last turns
      put_tells = record {
        shaped = put_shaped;
        taken = tells.taken.1;
        fresh = tells.fresh.1;
        places = λ u there. places u there (cases_eq u s);
        ends = λ u there. ends u there (cases_eq u s);
      }
        where
          places : (u : ℕ) → u < length origin → (u ≡ s) ⊎ (u ≢ s) → IsPlaceChain (first_in put u) (filter (is_at (first_place u)) turns)
          places u there (inl is) = subst (λ (n : ℕ). IsPlaceChain (first_in put n) (filter (is_at (first_place n)) turns)) (sym is)
              (subst (λ (c : C). IsPlaceChain c (filter (is_at (first_place s)) turns)) (sym put_own) own_chain.1)
          places u there (inr apart) = subst (λ (c : C). IsPlaceChain c (filter (is_at (first_place u)) turns)) (sym (put_other u apart))
              (subst (IsPlaceChain (first_in shards u)) (other_part u apart) (tells.places u there))

          ends : (u : ℕ) → u < length origin → (u ≡ s) ⊎ (u ≢ s) → content_behind (first_in put u) (filter (is_at (first_place u)) turns) ≡ first_in last u
          ends u there (inl is) = subst (λ (n : ℕ). content_behind (first_in put n) (filter (is_at (first_place n)) turns) ≡ first_in last n) (sym is)
              (ap (λ (c : C). content_behind c (filter (is_at (first_place s)) turns)) put_own
              ∙ sym (ap (content_behind (first_in shards s)) own_part) ∙ tells.ends s turn_there)
          ends u there (inr apart) =
              ap (λ (c : C). content_behind c (filter (is_at (first_place u)) turns)) (put_other u apart)
              ∙ sym (ap (content_behind (first_in shards u)) (other_part u apart)) ∙ tells.ends u there

      -- ---- what waits

      pub put_waits : Waits (first_in put s) turn.clock.at.epoch
      put_waits = (
        turn_moves.new.0,
        ap host.pending put_own ∙ turn_moves.new.1,
        ap (λ st. st.epoch) turn_moves.new.2 ∙ turn_moves.epoch,
      )

      pub put_still : (u x : ℕ) → u ≢ s → Waits (first_in shards u) x → Waits (first_in put u) x
      put_still u x apart waits = subst (λ (c : C). Waits c x) (sym (put_other u apart)) waits

      waits_before : (x : ℕ) → Waits (first_in shards s) x → Waits turn.before x
      waits_before x waits = subst (λ (c : C). Waits c x) (sym turn_before) waits

      -- a turn that serves a request finds its epoch
      pub met_serving : (request : R) (x : ℕ) → turn.request ≡ Some request → Waits (first_in shards s) x → x ≡ turn.clock.at.epoch
      met_serving request x is waits =
          let one = waits_before x waits in
          sym one.2 ∙ waits_one x x turn.before (λ (element : Element). element.stamp.epoch ≡ turn.clock.at.epoch) one (subst (IsFresh host turn) is tells.fresh.0)

      -- a turn that scans finds the epoch before
      pub met_scanning : (x : ℕ) → turn.request ≡ None → Waits (first_in shards s) x → turn.clock.at.epoch ≡ suc x
      met_scanning x is waits =
          let one = waits_before x waits in
          let scan : IsScan host true world turn = subst (IsDid host true world turn) is tells.taken.0.did in
          let upper = waits_one x x turn.before (λ (element : Element). element.stamp.epoch ≤ scan.before) one scan.earlier in
          let lower = waits_one x x turn.before (λ (element : Element). turn.clock.at.epoch ≤ suc element.stamp.epoch) one tells.taken.0.near in
          omega (arith, upper, lower, scan.turned, one.2)
