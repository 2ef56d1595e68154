-- What holds of all turns of the lists of workers holds of those of the pasts of places, and the other way round.
use Rattle.std.proofs.Common.{List, [], map, get_or, sym, subst}
use Rattle.std.specs.List.{AllByRecursion}
use Rattle.std.specs.List.Sorted.{IsPermutation}
use Rattle.std.proofs.lemmas.List.Elements.{All-from_recursion, recursion_from_All}
use Rattle.std.proofs.lemmas.List.Sorted.{IsPermutation-sym, All-permutation}
use Rattle.host_core.specs.World.{Place}
use Rattle.round_order.specs.Turn.{Turn}
use Rattle.round_order.specs.Told.{joined, joined_pasts, past_of}
use Rattle.round_order.proofs.PartLemmas.{joined_up, every-joined, every-part, joined_twice, get_or-joined}

module _ {C R : Type 0} (pasts : List (List (List (Turn C R)))) where
  -- what holds of all turns of the pasts, by places
  pub past_part : (P : Turn C R → Type 0) (place : Place) → AllByRecursion P (joined_pasts pasts) → AllByRecursion P (past_of pasts place)
  past_part P place all =
      every-part P (get_or pasts place.shard []) place.seat
      (subst (AllByRecursion P) (get_or-joined pasts place.shard)
      (every-part P (map joined_up pasts) place.shard (subst (AllByRecursion P) (joined_twice pasts) all)))

  -- what holds of the past of each place, holds of all of them
  pub every-past : (P : Turn C R → Type 0) → ((place : Place) → AllByRecursion P (past_of pasts place)) → AllByRecursion P (joined_pasts pasts)
  every-past P all =
      subst (AllByRecursion P) (sym (joined_twice pasts))
      (every-joined P (map joined_up pasts)
      (λ s. subst (AllByRecursion P) (sym (get_or-joined pasts s))
      (every-joined P (get_or pasts s []) (λ seat. all (record { shard = s; seat = seat })))))

module _ {C R : Type 0} (lists : List (List (Turn C R))) (pasts : List (List (List (Turn C R)))) (same : IsPermutation (joined lists) (joined_pasts pasts)) where
  -- what holds of all turns of the lists, holds of those of the pasts
  pub to_pasts : (P : Turn C R → Type 0) → AllByRecursion P (joined lists) → AllByRecursion P (joined_pasts pasts)
  to_pasts P all =
      recursion_from_All P (joined_pasts pasts)
      (All-permutation P (joined lists) (joined_pasts pasts) same (All-from_recursion P (joined lists) all))

  -- and the other way round
  pub to_lists : (P : Turn C R → Type 0) → AllByRecursion P (joined_pasts pasts) → AllByRecursion P (joined lists)
  to_lists P all =
      recursion_from_All P (joined lists)
      (All-permutation P (joined_pasts pasts) (joined lists) (IsPermutation-sym (joined lists) (joined_pasts pasts) same)
      (All-from_recursion P (joined_pasts pasts) all))
