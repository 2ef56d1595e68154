-- What seats that a worker can take in are to a move of them.
use Rattle.std.proofs.Common.{◌≡◌, List, [], ◌∷◌, map, drop, length, IsTrue, ap, sym, ◌∙◌, subst}
use Rattle.std.specs.List.{AllByRecursion}
use Rattle.lamport_clocks.specs.Clock.{is_open}
use Rattle.lamport_clocks.specs.Reading.{Reading}
use Rattle.record_text.specs.declared.element.Element.{Element}
use Rattle.record_text.specs.Longest.{longest_blob}
use Rattle.merkle_records.specs.Merkle.{Digest}
use Rattle.host_shard.specs.Content.{hot_path, Content, cold, pending_hot}
use Rattle.host_shard.specs.Mirrors.{IsKeyOf}
use Rattle.host_shard.specs.Shard.{Shard}
use Rattle.host_shard.specs.Shown.{shown, shown_content}
use Rattle.host_shard.specs.declared.content.Content as place
use Rattle.host_shard.specs.declared.content.Content.TheVariants as places
use Rattle.host_shard.specs.declared.shard.Shard as shards
use Rattle.protection_moves.specs.Stage.{hot_records}
use Rattle.move_laws.specs.Stages.{StageMirrors}
use Rattle.move_laws.proofs.TransferLaws.{hot_own}
use Rattle.host_world.specs.Behind.{CanTakeSeats}
use Rattle.shipped_host.specs.Seated.{waiting_at}
use Rattle.shipped_host.proofs.PlaceLaws.{waits-hot}
use Rattle.shipped_host.proofs.SeatLaws.{stage_at}

pub record CanMoveThere (digest : Digest) (clock : Reading) (shard : Shard) (places : List Content) : Type 0 where
  pub mirrors : StageMirrors longest_blob digest (stage_at shard places clock)
  pub four : length places ≡ 4
  pub open' : IsTrue (is_open clock shard.stamp.epoch)
  pub hot_open : AllByRecursion (λ found. IsTrue (is_open clock found.stamp.epoch)) (hot_records places)
  pub hot_own : AllByRecursion (λ found. IsKeyOf shard (hot_path found)) (hot_records places)

all-images : {A B : Type 0} (P : B → Type 0) (f : A → B) (xs : List A) → AllByRecursion P (map f xs) → AllByRecursion (λ x. P (f x)) xs
all-images P f [] all = tt
all-images P f (x ∷ xs) all = (all.0, all-images P f xs all.1)

same_shard : (a b : Shard) (xs ys : List Content) → cold a ∷ xs ≡ cold b ∷ ys → (a ≡ b) × (xs ≡ ys)
same_shard a b xs ys is = (cc, ap (drop 1) is)

pub can_move_there : (digest : Digest) (clock : Reading) (shard : Shard) (places : List Content) → CanTakeSeats digest clock (cold shard ∷ places)
    → CanMoveThere digest clock shard places
can_move_there digest clock shard places can = record {
  mirrors = stage;
  four = ap (λ (xs : List Content). length xs) same.1 ∙ can.mirrors.four;
  open' = can.open_epochs.0;
  hot_open = all-images (λ (element : Element). IsTrue (is_open clock element.stamp.epoch)) pending_hot (hot_records places)
      (subst (AllByRecursion (λ (element : Element). IsTrue (is_open clock element.stamp.epoch)))
      (ap waiting_at same.1 ∙ (waits-hot can.mirrors.places can.mirrors.hot_alone ∙ sym (ap (λ (xs : List Content). map pending_hot (hot_records xs)) same.1)))
      can.open_epochs.1);
  hot_own = hot_own longest_blob digest (stage_at shard places clock) stage;
}
  where
    same : (shard ≡ can.mirrors.shard) × (places ≡ can.mirrors.places)
    same = same_shard shard can.mirrors.shard places can.mirrors.places can.mirrors.is

    there : StageMirrors longest_blob digest (stage_at can.mirrors.shard can.mirrors.places clock)
    there = record { shard = can.mirrors.mirrored; blobs = can.mirrors.blobs; in_range = can.mirrors.in_range }

    stage : StageMirrors longest_blob digest (stage_at shard places clock)
    stage =
        subst (λ (s : Shard). StageMirrors longest_blob digest (stage_at s places clock)) (sym same.0)
        (subst (λ (xs : List Content). StageMirrors longest_blob digest (stage_at can.mirrors.shard xs clock)) (sym same.1) there)

-- and as the code has them
pub taken_in : (digest : Digest) (clock : Reading) (first : place.Content) (shard : shards.Shard) (more : List place.Content) → first ≡ places.Cold shard
    → CanTakeSeats digest clock (shown_content first ∷ map shown_content more) → CanMoveThere digest clock (shown shard) (map shown_content more)
taken_in digest clock first shard more is can =
    can_move_there digest clock (shown shard) (map shown_content more)
    (subst (λ (content : place.Content). CanTakeSeats digest clock (shown_content content ∷ map shown_content more)) is can)
