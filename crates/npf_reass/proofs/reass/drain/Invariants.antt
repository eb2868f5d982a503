use Rattle.std.proofs.Common.{◌≡◌, ℕ, ◌<◌, false, get_or, map, take, vec_capacity}
use Rattle.core.specs.Mem.Slots.{slots_filled, slots_items, slots_len, Ownership.Filled}
use Rattle.npf_reass.proofs.reass.drain.Given as goal

abbrev pub invariant-loop-class : goal.invariant-loop-class
invariant-loop-class l = record {
  same : slots_items l.closed.slots ≡ slots_items l.initial.closed.slots;
  count : slots_len l.closed.slots ≡ slots_len l.initial.closed.slots;
  full : Filled (slots_filled l.closed.slots) l.class (slots_len l.closed.slots);
  taken : (k : ℕ) → k < l.class → get_or (slots_filled l.closed.slots) k false ≡ false;
  lists : l.lists.items ≡ map (λ slot. slot.offers) (take l.class (slots_items l.initial.closed.slots));
  room : vec_capacity l.lists ≡ vec_capacity l.initial.lists;
}
