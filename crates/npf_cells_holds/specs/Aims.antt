-- What a load of a place asks and tells, by what it is for.
use Rattle.std.specs.Prelude.{ℕ}
use Rattle.atomic_table.specs.Table.{Me}
use Rattle.npf_types.specs.declared.key.Key.{Key}
use Rattle.npf_core.specs.Meaning.{Meaning}
use Rattle.npf_paths.specs.declared.cell.Cell.{Cell}
use Rattle.npf_paths.specs.declared.place.Place.{Place}
use Rattle.npf_cells_words.specs.declared.layout.Layout.{Layout}
use Rattle.npf_cells_rule.specs.declared.view.CellView.{CellView}
use Rattle.npf_cells_holds.specs.declared.aim.Aim.{Aim}
use Rattle.npf_cells_holds.specs.HoldKinds.{MayHoldSo, HoldsAt}
use Rattle.npf_cells_holds.specs.LookKinds.{LooksAt}

-- the key that a place is loaded for
abbrev pub aim_key : Aim → Key
aim_key (Aim.Look n key) = key
aim_key (Aim.Hold id key way) = key

-- any pass may look for a key, and one that is building a connection hold one for it
abbrev pub MayAim : {S A R : Type 0} → Meaning S A R → CellView S A R → Aim → Type 0
MayAim m v (Aim.Look n key) = Unit {0}
MayAim m v (Aim.Hold id key way) = MayHoldSo m v id way

-- what the load tells
abbrev pub TellsAim : {S A R F : Type 0} → Meaning S A R → (Key → ℕ) → Layout → Aim → Place → Cell → Me F (CellView S A R) → Me F (CellView S A R) → Type 0
TellsAim m digest layout (Aim.Look n key) p cell old now = LooksAt m digest layout n key p cell old now
TellsAim m digest layout (Aim.Hold id key way) p cell old now = HoldsAt m digest layout id key way p cell old now
