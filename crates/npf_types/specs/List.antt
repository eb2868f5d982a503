use Rattle.std.specs.Prelude.{List, ◌++◌, take, drop, length}
use Rattle.std.specs.Borrow.{Lends, MutBor, Fml, Array, RattleType}
use Rattle.npf_types.specs.contracts.list.List.{the_row}

-- the items of a list once a slice of them was written: as many as before
abbrev pub with_items : {A : Type 0} → List A → List A → List A
with_items old written = take (length old) (written ++ drop (length written) old)

module _ (T : RattleType) where
  -- `slice` is the list's items: when the borrow ends, the list has what was written through it
  abbrev pub LendsItems : MutBor (List T.Denot) → MutBor (List T.Denot) → Fml
  LendsItems list slice = Lends (the_row T) (Array T 0) list slice (with_items list.now)
