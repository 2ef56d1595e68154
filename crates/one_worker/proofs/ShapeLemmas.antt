-- What deeds keep: in each shard one element waits, at the first seat, and the places own what they owned. So what deeds lead to is
-- determined.
use Rattle.std.proofs.Common.{◌≡◌, ◌≢◌, ◌⊎◌, inl, inr, ℕ, zero, suc, ◌<◌, true, List, [], ◌∷◌, ◌++◌, length, get_or, set, Some, refl, sym, ◌∙◌, ap, subst, arith}
use Rattle.std.proofs.lemmas.Bool.{cases_eq}
use Rattle.std.proofs.lemmas.Option.{same_Some}
use Rattle.std.proofs.lemmas.List.{length-set, get_or-set_same, get_or-set_other}
use Rattle.lamport_clocks.specs.Reading.{Reading}
use Rattle.record_text.specs.declared.element.Element.{Element}
use Rattle.host_core.specs.Host.{Host, Done}
use Rattle.host_core.specs.World.{Place}
use Rattle.host_core.specs.Deeds.{pending_of}
use Rattle.round_order.specs.Steady.{HasOne, scanned_done, IsSteady}
use Rattle.round_order.specs.Told.{others_in}
use Rattle.one_worker.specs.Deeds.{Deed, serving, renewing, turning, acts_of, Standing, seats_of, standing_behind, IsServed, IsRenewed, IsDone, AreDone}

-- ---- what is taken of a host, and of the contents of its shards at the setup

pub record IsKnown {C R : Type 0} (host : Host C R) (origin : List (List C)) : Type 0 where
  pub steady : IsSteady host true
  pub alone : (s : ℕ) → s < length origin → pending_of host (others_in (get_or origin s [])) ≡ []
  pub one_scanned : (i s : ℕ) (clock : Reading) (before : C) (others : List C) (done : Done (List C)) → HasOne host before → pending_of host others ≡ []
      → host.move i clock s (before ∷ others) ≡ Some done → (one : Done C) × (done ≡ scanned_done others one)
  pub home : (p q : Place) (request : R) → p.shard < length origin → q.shard < length origin
      → host.owns p.shard (get_or origin p.shard []) p.seat request ≡ true → host.owns q.shard (get_or origin q.shard []) q.seat request ≡ true → p ≡ q

-- ---- lists

none_of : {X : Type 0} (xs ys : List X) → xs ++ ys ≡ [] → (xs ≡ []) × (ys ≡ [])
none_of [] ys is = (refl, is)
none_of (x ∷ xs) ys is = absurd (cc)

pub set_first : {C : Type 0} (contents : List C) (content : C) (others : List C) (seat : ℕ) (new : C) → contents ≡ content ∷ others → seat ≡ 0
    → set contents seat new ≡ new ∷ others
set_first contents content others seat new is zero' =
    ap (λ (cs : List _). set cs seat new) is ∙ ap (λ (n : ℕ). set (content ∷ others) n new) zero'

pub get_first : {C : Type 0} (contents : List C) (content : C) (others : List C) (seat : ℕ) (d : C) → contents ≡ content ∷ others → seat ≡ 0
    → get_or contents seat d ≡ content
get_first contents content others seat d is zero' =
    ap (λ (cs : List _). get_or cs seat d) is ∙ ap (λ (n : ℕ). get_or (content ∷ others) n d) zero'

module _ {C R : Type 0} (host : Host C R) (origin : List (List C)) where
  -- the others of a shard, as at the setup
  abbrev pub rest_of : ℕ → List C
  rest_of s = others_in (get_or origin s [])

  -- the seats of a shard: at the first one element waits, the others are as at the setup
  pub record IsSeated (s : ℕ) (contents : List C) : Type 0 where
    pub content : C
    pub are : contents ≡ content ∷ rest_of s
    pub one : HasOne host content

  pub record IsShaped (shards : List (List C)) : Type 0 where
    pub count : length shards ≡ length origin
    pub seated : (s : ℕ) → s < length origin → IsSeated s (get_or shards s [])
    pub owners : (s seat : ℕ) (ask : R) → host.owns s (get_or shards s []) seat ask ≡ host.owns s (get_or origin s []) seat ask

  module _ (known : IsKnown host origin) where
    -- nothing waits at the others
    none_at : (others : List C) (k : ℕ) (d : C) → pending_of host others ≡ [] → k < length others → host.pending (get_or others k d) ≡ []
    none_at [] k d is there = absurd (omega (arith, there))
    none_at (content ∷ others) zero d is there = (none_of (host.pending content) (pending_of host others) is).0
    none_at (content ∷ others) (suc k) d is there = none_at others k d (none_of (host.pending content) (pending_of host others) is).1 (omega (arith, there))

    -- where an element waits the seat is the first
    pub first_seat : (s seat : ℕ) (contents : List C) → s < length origin → IsSeated s contents → seat < length contents
        → HasOne host (get_or contents seat host.vacant) → seat ≡ 0
    first_seat s seat contents there seated within one = go seat within one
      where
        others : List C
        others = rest_of s

        go : (k : ℕ) → k < length contents → HasOne host (get_or contents k host.vacant) → k ≡ 0
        go zero within one = refl
        go (suc k) within one =
            let inside : k < length others = omega (arith, within, ap (λ (cs : List C). length cs) seated.are) in
            let none' : host.pending (get_or contents (suc k) host.vacant) ≡ [] =
            ap (λ (cs : List C). host.pending (get_or cs (suc k) host.vacant)) seated.are
            ∙ none_at others k host.vacant (known.alone s there) inside in
            absurd (clash one.0 (sym one.1 ∙ none'))
          where
            clash : (element : Element) → ◌≡◌ {A = List Element} (element ∷ []) [] → ⊥
            clash element is = absurd (cc)

    -- another first content, with an element, and the same owners
    pub shaped_set : (shards : List (List C)) (s : ℕ) (new : C) → IsShaped shards → s < length origin → HasOne host new
        → ((seat : ℕ) (ask : R) → host.owns s (new ∷ rest_of s) seat ask ≡ host.owns s (get_or shards s []) seat ask)
        → IsShaped (set shards s (new ∷ rest_of s))
    shaped_set shards s new shaped there one same = record {
      count = length-set shards s (new ∷ rest_of s) ∙ shaped.count;
      seated = λ t within. seated t within (cases_eq t s);
      owners = λ t seat ask. owners t seat ask (cases_eq t s);
    }
      where
        inside : s < length shards
        inside = omega (arith, there, shaped.count)

        own : get_or (set shards s (new ∷ rest_of s)) s [] ≡ new ∷ rest_of s
        own = get_or-set_same shards s (new ∷ rest_of s) [] inside

        seated : (t : ℕ) → t < length origin → (t ≡ s) ⊎ (t ≢ s) → IsSeated t (get_or (set shards s (new ∷ rest_of s)) t [])
        seated t within (inl is) = subst (λ (n : ℕ). IsSeated n (get_or (set shards s (new ∷ rest_of s)) n [])) (sym is)
            (record { content = new; are = own; one = one })
        seated t within (inr apart) = subst (IsSeated t) (sym (get_or-set_other shards s t (new ∷ rest_of s) [] apart)) (shaped.seated t within)

        owners : (t seat : ℕ) (ask : R) → (t ≡ s) ⊎ (t ≢ s)
            → host.owns t (get_or (set shards s (new ∷ rest_of s)) t []) seat ask ≡ host.owns t (get_or origin t []) seat ask
        owners t seat ask (inl is) =
            subst (λ (n : ℕ). host.owns n (get_or (set shards s (new ∷ rest_of s)) n []) seat ask ≡ host.owns n (get_or origin n []) seat ask) (sym is)
            (ap (λ (cs : List C). host.owns s cs seat ask) own ∙ same seat ask ∙ shaped.owners s seat ask)
        owners t seat ask (inr apart) =
            ap (λ (cs : List C). host.owns t cs seat ask) (get_or-set_other shards s t (new ∷ rest_of s) [] apart) ∙ shaped.owners t seat ask

    -- ---- a deed keeps the shape

    module _ (from : Standing C) (shaped : IsShaped from.shards) where
      -- a request that is served at its place
      module _ (request : R) (to : Standing C) (is : IsServed (acts_of host) from request to) where
        abbrev s : ℕ
        s = is.place.shard

        there : s < length origin
        there = omega (arith, is.there, shaped.count)

        seats : IsSeated s (seats_of from s)
        seats = shaped.seated s there

        one : HasOne host (get_or (seats_of from s) is.place.seat host.vacant)
        one = known.steady.waits s is.place.seat (seats_of from s) request is.owns

        first : is.place.seat ≡ 0
        first = first_seat s is.place.seat (seats_of from s) there seats is.seated one

        new_seats : set (seats_of from s) is.place.seat is.done.after ≡ is.done.after ∷ rest_of s
        new_seats = set_first (seats_of from s) seats.content (rest_of s) is.place.seat is.done.after seats.are first

        served_shaped : IsShaped to.shards
        served_shaped =
            let new = (known.steady.serves_on 0 from.clock (get_or (seats_of from s) is.place.seat host.vacant) request is.done one is.serves).new in
            subst (λ (w : Standing C). IsShaped w.shards) (sym is.is)
            (subst (λ (cs : List C). IsShaped (set from.shards s cs)) (sym new_seats)
            (shaped_set from.shards s is.done.after shaped there (new.0, new.1)
            (λ seat ask. ap (λ (cs : List C). host.owns s cs seat ask) (sym new_seats)
            ∙ known.steady.owners 0 from.clock s is.place.seat (seats_of from s) request is.done one is.serves seat ask)))

      -- a shard that is renewed
      module _ (s : ℕ) (to : Standing C) (is : IsRenewed (acts_of host) from s to) where
        stands : s < length origin
        stands = omega (arith, is.there, shaped.count)

        places : IsSeated s (seats_of from s)
        places = shaped.seated s stands

        moves : host.move 0 from.clock s (places.content ∷ rest_of s) ≡ Some is.done
        moves = ap (host.move 0 from.clock s) (sym places.are) ∙ is.moves

        scanned : (one : Done C) × (is.done ≡ scanned_done (rest_of s) one)
        scanned = known.one_scanned 0 s from.clock places.content (rest_of s) is.done places.one (known.alone s stands) moves

        so : host.move 0 from.clock s (places.content ∷ rest_of s) ≡ Some (scanned_done (rest_of s) scanned.0)
        so = moves ∙ ap (λ (d : Done (List C)). Some d) scanned.1

        renewed_shaped : IsShaped to.shards
        renewed_shaped =
            let new = (known.steady.scans_on refl 0 s from.clock places.content (rest_of s) scanned.0 places.one (known.alone s stands) so).new in
            subst (λ (w : Standing C). IsShaped w.shards) (sym is.is)
            (subst (λ (d : Done (List C)). IsShaped (set from.shards s d.after)) (sym scanned.1)
            (shaped_set from.shards s scanned.0.after shaped stands (new.0, new.1)
            (λ seat ask. known.steady.scan_owners refl 0 s from.clock places.content (rest_of s) scanned.0 places.one (known.alone s stands) so seat ask
            ∙ ap (λ (cs : List C). host.owns s cs seat ask) (sym places.are))))

      pub shaped_on : (deed : Deed R) (to : Standing C) → IsDone (acts_of host) from deed to → IsShaped to.shards
      shaped_on (serving request) to is = served_shaped request to is
      shaped_on (renewing s) to is = renewed_shaped s to is
      shaped_on turning to is = subst (λ (w : Standing C). IsShaped w.shards) (sym is) shaped

      -- ---- a deed is determined

      served_same : (request : R) (a b : Standing C) → IsServed (acts_of host) from request a → IsServed (acts_of host) from request b → a ≡ b
      served_same request a b x y = x.is
          ∙ (λ k. standing_behind from (places k).shard (record {
            commands = (dones k).commands;
            after = set (seats_of from (places k).shard) (places k).seat (dones k).after;
            clock = (dones k).clock;
          })) ∙ sym y.is
        where
          places : x.place ≡ y.place
          places = known.home x.place y.place request (there request a x) (there request b y)
              (sym (shaped.owners x.place.shard x.place.seat request) ∙ x.owns)
              (sym (shaped.owners y.place.shard y.place.seat request) ∙ y.owns)

          dones : x.done ≡ y.done
          dones = same_Some x.done y.done (sym x.serves
              ∙ ap (λ (p : Place). host.serve 0 from.clock (get_or (seats_of from p.shard) p.seat host.vacant) request) places ∙ y.serves)

      renewed_same : (s : ℕ) (a b : Standing C) → IsRenewed (acts_of host) from s a → IsRenewed (acts_of host) from s b → a ≡ b
      renewed_same s a b x y =
          x.is ∙ ap (standing_behind from s) (same_Some x.done y.done (sym x.moves ∙ y.moves)) ∙ sym y.is

      one_same : (deed : Deed R) (a b : Standing C) → IsDone (acts_of host) from deed a → IsDone (acts_of host) from deed b → a ≡ b
      one_same (serving request) a b x y = served_same request a b x y
      one_same (renewing s) a b x y = renewed_same s a b x y
      one_same turning a b x y = x ∙ sym y

    -- What deeds lead to is determined.
    pub all_same : (deeds : List (Deed R)) (from a b : Standing C) → IsShaped from.shards
        → AreDone (acts_of host) from deeds a → AreDone (acts_of host) from deeds b → a ≡ b
    all_same [] from a b shaped x y = sym x ∙ y
    all_same (deed ∷ deeds) from a b shaped x y =
        let same : y.0 ≡ x.0 = one_same from shaped deed y.0 x.0 y.1 x.1 in
        all_same deeds x.0 a b (shaped_on from shaped deed x.0 x.1) x.2 (subst (λ (w : Standing C). AreDone (acts_of host) w deeds b) same y.2)
