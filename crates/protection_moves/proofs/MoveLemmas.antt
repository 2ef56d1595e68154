-- The move of a shard, put together: what is promotable, the counters, and the run of its transfers.
use Rattle.std.proofs.Common.{◌≡◌, ◌⊎◌, ℕ, suc, ◌+◌, ◌<◌, Bool, List, [], ◌∷◌, ◌++◌, map, take, length, Option, IsTrue, refl, sym, ◌∙◌, ap, subst, inl, inr, append_assoc, arith}
use Rattle.std.proofs.Math.Path.{fun_ext}
use Rattle.std.specs.Prelude.{AllPairs}
use Rattle.std.specs.List.{AllByRecursion, IsAmong}
use Rattle.lamport_clocks.specs.declared.stamp.Stamp.{Stamp}
use Rattle.lamport_clocks.specs.Clock.{is_open}
use Rattle.lamport_clocks.specs.Reading.{Reading}
use Rattle.log_codec.specs.declared.command.Command.{Command}
use Rattle.log_codec.specs.declared.command.Command.TheVariants.{EvictB}
use Rattle.merkle_records.specs.Merkle.{Digest}
use Rattle.host_shard.specs.declared.content.HotRecord.{HotRecord}
use Rattle.host_shard.specs.Content.{Content}
use Rattle.host_shard.specs.Shard.{Shard, pending_shard}
use Rattle.host_plan.specs.Moments.{taking, giving}
use Rattle.protection_moves.specs.Stage.{Stage, vacancies, touched_in, untouched_in}
use Rattle.protection_moves.specs.Renewing.{renewing_each, renewed_places, renewing_commands}
use Rattle.protection_moves.specs.Transfer.{Transfer, demotes, promotes, ArePromotable, transfers_of, clock_by_each, clock_needed}
use Rattle.protection_moves.specs.Move.{IsMove, IsPastEnd, begun, handed_out, moved}
use Rattle.protection_moves.specs.Descent.{AreDescents, done_by_each, commands_by_each}
use Rattle.protection_moves.specs.Done.{AreDone, stage_with, taking_in}
use Rattle.protection_moves.specs.Promotable.{AreFirstPromotable}
use Rattle.protection_moves.proofs.PromotableLemmas.{among_head, among_tail, among_cases}
use Rattle.protection_moves.proofs.CountingLemmas.{clock_by_each-up, clock_by_each-open}
use Rattle.protection_moves.proofs.RenewingLaws.{renewing_each-open}

-- ---- the keys that are promotable are one list

-- in a rising list the first is the least
head_least : (x v : ℕ) (xs : List ℕ) → AllPairs (λ a b. a < b) (x ∷ xs) → IsAmong xs v → x < v
head_least x v xs rising among =
    subst (λ (w : ℕ). x < w) (sym among.1.1) (rising 0 (suc among.0) v (omega arith) (omega (arith, among.1.0)))

tail_rises : (x : ℕ) (xs : List ℕ) → AllPairs (λ a b. a < b) (x ∷ xs) → AllPairs (λ a b. a < b) xs
tail_rises x xs rising i j d before within = rising (suc i) (suc j) d (omega (arith, before)) (omega (arith, within))

-- of two rising lists with the same numbers the first ones are the same
same_head : (x y : ℕ) (xs ys : List ℕ) → AllPairs (λ a b. a < b) (x ∷ xs) → AllPairs (λ a b. a < b) (y ∷ ys)
    → IsAmong (y ∷ ys) x → IsAmong (x ∷ xs) y → x ≡ y
same_head x y xs ys one two there back = go (among_cases y x ys there) (among_cases x y xs back)
  where
    go : (x ≡ y) ⊎ IsAmong ys x → (y ≡ x) ⊎ IsAmong xs y → x ≡ y
    go (inl same) other = same
    go (inr above) (inl same) = sym same
    go (inr above) (inr below) = absurd (omega (arith, head_least y x ys two above, head_least x y xs one below))

same_tail : (x y k : ℕ) (xs ys : List ℕ) → AllPairs (λ a b. a < b) (x ∷ xs) → x ≡ y → IsAmong xs k → IsAmong (y ∷ ys) k → IsAmong ys k
same_tail x y k xs ys rising same among there = go (among_cases y k ys there)
  where
    go : (k ≡ y) ⊎ IsAmong ys k → IsAmong ys k
    go (inl is) = absurd (omega (arith, head_least x k xs rising among, is, same))
    go (inr is) = is

rising_unique : (xs ys : List ℕ) → AllPairs (λ a b. a < b) xs → AllPairs (λ a b. a < b) ys → ((k : ℕ) → IsAmong xs k → IsAmong ys k) → ((k : ℕ) → IsAmong ys k → IsAmong xs k)
    → xs ≡ ys
rising_unique [] [] one two there back = refl
rising_unique [] (y ∷ ys) one two there back = absurd (omega (arith, (back y (among_head y ys)).1.0))
rising_unique (x ∷ xs) [] one two there back = absurd (omega (arith, (there x (among_head x xs)).1.0))
rising_unique (x ∷ xs) (y ∷ ys) one two there back =
    let same = same_head x y xs ys one two (there x (among_head x xs)) (back y (among_head y ys)) in
    ap (λ (z : ℕ). z ∷ xs) same
    ∙ ap (λ (zs : List ℕ). y ∷ zs)
    (rising_unique xs ys (tail_rises x xs one) (tail_rises y ys two)
    (λ k is. same_tail x y k xs ys one same is (there k (among_tail x k xs is)))
    (λ k is. same_tail y x k ys xs two (sym same) is (back k (among_tail y k ys is))))

pub promotable_unique : (stage : Stage) (threshold : Option ℕ) (xs ys : List ℕ) → ArePromotable stage threshold xs → ArePromotable stage threshold ys → xs ≡ ys
promotable_unique stage threshold xs ys one two =
    rising_unique xs ys one.rising two.rising (λ k is. (two.promotable k).1 ((one.promotable k).0 is)) (λ k is. (one.promotable k).1 ((two.promotable k).0 is))

-- ---- one stage

module _ (stage : Stage) (threshold : Option ℕ) (back : List HotRecord) (keys : List ℕ) (returning : back ≡ untouched_in stage.places)
    (first : AreFirstPromotable stage threshold (vacancies stage.places + length back) keys) where
  abbrev pub transfers : List Transfer
  transfers = map (λ (f : HotRecord). demotes f) back ++ map (λ (k : ℕ). promotes k) keys

  -- the transfers of the move
  are_transfers : (promotable : List ℕ) → ArePromotable stage threshold promotable → transfers ≡ transfers_of stage promotable
  are_transfers promotable are =
      ap (λ (ks : List ℕ). map (λ (f : HotRecord). demotes f) back ++ map (λ (k : ℕ). promotes k) ks)
      (first.first ∙ ap (take (vacancies stage.places + length back)) (promotable_unique stage threshold first.promotable promotable first.are_promotable are))
      ∙ ap (λ (fs : List HotRecord). map (λ (f : HotRecord). demotes f) fs ++ map (λ (k : ℕ). promotes k) (take (vacancies stage.places + length fs) promotable)) returning

  -- the clock that has the frontier taken in, and the one at the end
  module _ (touched : List HotRecord) (staying : touched ≡ touched_in stage.places) where
    abbrev pub start_clock : Reading
    start_clock = taking (renewing_each stage.clock touched) stage.shard.stamp

    abbrev pub end_clock : Reading
    end_clock = giving (clock_by_each start_clock transfers)

    needed : (promotable : List ℕ) → ArePromotable stage threshold promotable → end_clock ≡ clock_needed stage promotable
    needed promotable are =
        ap (λ (es : List Transfer). giving (clock_by_each start_clock es)) (are_transfers promotable are)
        ∙ ap (λ (fs : List HotRecord). giving (clock_by_each (taking (renewing_each stage.clock fs) stage.shard.stamp) (transfers_of stage promotable))) staying

    pub is_past : stage.clock.end < end_clock.at.counter → IsPastEnd threshold stage
    is_past past = record {
      promotable = first.promotable;
      are_promotable = first.are_promotable;
      past = subst (λ (c : Reading). stage.clock.end < c.at.counter) (needed first.promotable first.are_promotable) past;
    }

    pub past_is : IsPastEnd threshold stage → stage.clock.end < end_clock.at.counter
    past_is past = subst (λ (c : Reading). stage.clock.end < c.at.counter) (sym (needed past.promotable past.are_promotable)) past.past

    -- the frontier alone passes it
    pub past_at_start : stage.clock.end < start_clock.at.counter → IsPastEnd threshold stage
    past_at_start past = is_past (omega (arith, past, clock_by_each-up start_clock transfers))

    -- A run of the transfers is the move.
    pub is_move : (digest : Digest) (worker : ℕ) (mid later : Reading) (start logged : List Command) (left : Shard) (places : List Content) (new : Stage)
        → mid ≡ start_clock → later ≡ giving (clock_by_each mid transfers)
        → start ≡ renewing_commands stage.clock touched ++ taking_in (pending_shard stage.shard) ∷ []
        → AreDone digest worker (stage_with stage.shard (λ k. 0) (renewed_places worker stage.clock stage.places touched) mid) transfers start
        (EvictB stage.shard.frontier (giving (clock_by_each mid transfers)).at) logged
        (stage_with left (λ k. 0) places (clock_by_each mid transfers))
        → new ≡ record { shard = record left { touches = λ k. 0; stamp = later.at; evictor = worker }; places = places; clock = later }
        → IsMove digest worker threshold stage logged new
    is_move digest worker mid later start logged left places new begins ends starts run becomes = record {
      promotable = first.promotable;
      are_promotable = first.are_promotable;
      descents = run.descents;
      transfers = run.transfers ∙ are_transfers first.promotable first.are_promotable;
      ways = subst (λ (s : Stage). AreDescents digest worker s run.descents) started run.ways;
      commands = run.logged
          ∙ ap (λ (cs : List Command). cs ++ (commands_by_each digest worker first_stage run.descents ++ last mid ∷ [])) starts
          ∙ append_assoc (renewing_commands stage.clock touched) (taking_in (pending_shard stage.shard) ∷ []) (commands_by_each digest worker first_stage run.descents ++ last mid ∷ [])
          ∙ ap (λ (s : Stage). renewing_commands stage.clock touched ++ taking_in (pending_shard stage.shard) ∷ (commands_by_each digest worker s run.descents ++ last mid ∷ [])) started
          ∙ ap (λ (c : Reading). renewing_commands stage.clock touched
          ++ taking_in (pending_shard stage.shard) ∷ (commands_by_each digest worker (begun worker stage) run.descents ++ EvictB stage.shard.frontier (giving c).at ∷ []))
          (ap (λ (s : Stage). s.clock) done)
          ∙ ap (λ (fs : List HotRecord). renewing_commands stage.clock fs
          ++ taking_in (pending_shard stage.shard) ∷ (commands_by_each digest worker (begun worker stage) run.descents
          ++ EvictB stage.shard.frontier (moved digest worker stage run.descents).clock.at ∷ [])) staying;
      after = becomes
          ∙ ap (λ (c : Reading). let now : Stage = record { shard = record left { touches = λ k. 0; stamp = c.at; evictor = worker }; places = places; clock = c } in now) ends
          ∙ ap (handed_out worker) done;
    }
      where
        first_stage : Stage
        first_stage = stage_with stage.shard (λ k. 0) (renewed_places worker stage.clock stage.places touched) mid

        last : Reading → Command
        last c = EvictB stage.shard.frontier (giving (clock_by_each c transfers)).at

        started : first_stage ≡ begun worker stage
        started = ap (λ (c : Reading). stage_with stage.shard (λ k. 0) (renewed_places worker stage.clock stage.places touched) c) begins
            ∙ ap (λ (fs : List HotRecord). stage_with stage.shard (λ k. 0) (renewed_places worker stage.clock stage.places fs) (taking (renewing_each stage.clock fs) stage.shard.stamp)) staying

        done : stage_with left (λ k. 0) places (clock_by_each mid transfers) ≡ done_by_each digest worker (begun worker stage) run.descents
        done = run.leaves ∙ ap (λ (s : Stage). done_by_each digest worker s run.descents) started

-- ---- the clock within a move

-- it takes the same stamps once the frontier is taken in
pub open_between : (clock mid : Reading) (touched : List HotRecord) (stamp : Stamp) (records : List HotRecord) → mid ≡ taking (renewing_each clock touched) stamp
    → AllByRecursion (λ (f : HotRecord). IsTrue (is_open clock f.stamp.epoch)) records → AllByRecursion (λ (f : HotRecord). IsTrue (is_open mid f.stamp.epoch)) records
open_between clock mid touched stamp records is all =
    subst (λ (opens : ℕ → Bool). AllByRecursion (λ (f : HotRecord). IsTrue (opens f.stamp.epoch)) records)
    (fun_ext (λ epoch. sym (ap (λ (c : Reading). is_open c epoch) is ∙ renewing_each-open clock touched epoch))) all

pub open_after : (clock mid later : Reading) (touched : List HotRecord) (stamp : Stamp) (transfers : List Transfer) (epoch : ℕ)
    → mid ≡ taking (renewing_each clock touched) stamp → later ≡ giving (clock_by_each mid transfers) → is_open later epoch ≡ is_open clock epoch
open_after clock mid later touched stamp transfers epoch begins ends =
    ap (λ (c : Reading). is_open c epoch) ends ∙ clock_by_each-open mid transfers epoch ∙ ap (λ (c : Reading). is_open c epoch) begins ∙ renewing_each-open clock touched epoch

-- the keys that the code found
pub first_keys : (stage : Stage) (threshold : Option ℕ) (back : List HotRecord) (found keys : List ℕ) (vacant' count : ℕ) → vacant' ≡ vacancies stage.places → count ≡ length back → keys ≡ found
    → AreFirstPromotable stage threshold (vacant' + count) found → AreFirstPromotable stage threshold (vacancies stage.places + length back) keys
first_keys stage threshold back found keys vacant' count vacancy many same first =
    subst (AreFirstPromotable stage threshold (vacancies stage.places + length back)) (sym same)
    (subst (λ (room : ℕ). AreFirstPromotable stage threshold room found) (ap (λ (v : ℕ). v + count) vacancy ∙ ap (λ (n : ℕ). vacancies stage.places + n) many) first)
