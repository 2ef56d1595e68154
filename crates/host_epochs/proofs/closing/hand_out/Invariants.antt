use Rattle.std.proofs.Common.{◌≡◌, ℕ, ◌<◌, ◌≤◌, false, get_or, take, vec_capacity}
use Rattle.core.specs.Mem.Slots.{slots_items, slots_filled, slots_len}
use Rattle.core.specs.Mem.Slots.Ownership.{Filled}
use Rattle.host_epochs.proofs.closing.hand_out.Given as goal

abbrev pub invariant-loop-place : goal.invariant-loop-place
invariant-loop-place l = record {
  filled : Filled (slots_filled l.closed.slots) l.place (slots_len l.closed.slots);
  emptied : (k : ℕ) → k < l.place → get_or (slots_filled l.closed.slots) k false ≡ false;
  items : slots_items l.closed.slots ≡ slots_items l.initial.closed.slots;
  count : slots_len l.closed.slots ≡ slots_len l.initial.closed.slots;
  end : l.place-end ≡ slots_len l.initial.closed.slots;
  room : slots_len l.initial.closed.slots ≤ vec_capacity l.room;
  taken : l.room.items ≡ take l.place (slots_items l.initial.closed.slots);
}
