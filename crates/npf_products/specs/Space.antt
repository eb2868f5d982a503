-- The packets of a kind as cells, and products as boxes of them.
use Rattle.std.specs.Prelude.{◌≡◌, ◌<◌, ◌+◌, ◌-◌, ◌&&◌, ℕ, Bool, true, List, [], length, slice_index, slice_index_or}
use Rattle.npf_types.specs.declared.direction.Dir.{Dir}
use Rattle.npf_types.specs.declared.facts.Facts.{Facts}
use Rattle.npf_types.specs.declared.interface.IfId.{IfId}
use Rattle.npf_boxes.specs.declared.box_list.Boxes.{Boxes}
use Rattle.npf_boxes.specs.Cell.{box_at, in_box}
use Rattle.npf_cut.specs.Dimension.{member_of}
use Rattle.npf_model.specs.Describes.{Tables}
use Rattle.npf_products.specs.declared.axis.Axis.{Axis}
use Rattle.npf_products.specs.declared.kind.PacketKind.{PacketKind}
use Rattle.npf_products.specs.declared.product.Product.{Product}
use Rattle.npf_products.specs.declared.space.Space.{Space}
use Rattle.npf_products.specs.Axis.{AreAxes, IsCell, cell_of_numbers}
use Rattle.npf_products.specs.Condition.{all_fit}
use Rattle.npf_products.specs.Number.{AreNumbers, IsPacketOfKind, numbers_of}
use Rattle.npf_products.specs.Product.{product_holds, is_possible_first}

-- how many products there are
abbrev pub product_count : Space → ℕ
product_count space = length space.lists.items - 1

-- the cell of a packet where it passes
abbrev pub packet_cell : Space → Facts → IfId → Dir → List ℕ
packet_cell space facts ifid dir = cell_of_numbers space.axes.items (numbers_of facts ifid dir)

-- what a product asks, as the space has it, holds of these numbers
abbrev pub is_met : Space → ℕ → List ℕ → Bool
is_met space list numbers = all_fit space.tables.items numbers (slice_index_or space.lists.items list [])

-- the axes of a space are cut by what its products ask
abbrev pub IsCutSpace : Space → Type 0
IsCutSpace space = AreAxes space.kind space.tables.items space.lists.items space.axes.items

-- the space tells these products' packets of the kind
pub record IsSpaceOf (kind : PacketKind) (tables : Tables) (products : List Product) (space : Space) : Type 0 where
  pub cut : IsCutSpace space
  pub of_kind : space.kind ≡ kind
  pub count : product_count space ≡ length products
  pub told : (k : ℕ) (none : Product) (facts : Facts) (ifid : IfId) (dir : Dir) → k < length products → IsPacketOfKind kind facts ifid
      → is_met space k (numbers_of facts ifid dir) ≡ product_holds (slice_index_or products k none) tables facts ifid dir

-- a cell that packets of the kind can have: its classes are there, and the first number of what is carried is of the kind
pub record IsPossibleCell (space : Space) (cell : List ℕ) : Type 0 where
  pub classes : IsCell space.axes.items cell
  pub first : (none : Axis)
      → is_possible_first space.kind.carried space.kind.family (member_of (slice_index_or space.axes.items 3 none).dimension (slice_index cell 3)) ≡ true

-- of a box the cells that have what a list asks
pub record IsNarrowed (space : Space) (list : ℕ) (old new : List ℕ) : Type 0 where
  pub met : (numbers : List ℕ) → AreNumbers space.kind numbers
      → in_box space.shape new (cell_of_numbers space.axes.items numbers) ≡ (in_box space.shape old (cell_of_numbers space.axes.items numbers) && is_met space list numbers)
  pub within : (cell : List ℕ) → in_box space.shape new cell ≡ true → in_box space.shape old cell ≡ true

-- a box for each product, and behind them that of all packets that there can be
pub record AreBoxesOf (space : Space) (boxes : Boxes) : Type 0 where
  pub shape : boxes.shape ≡ space.shape
  pub count : boxes.count ≡ product_count space + 1
  pub products : (k : ℕ) (facts : Facts) (ifid : IfId) (dir : Dir) → k < product_count space → IsPacketOfKind space.kind facts ifid
      → in_box boxes.shape (box_at boxes k) (packet_cell space facts ifid dir) ≡ is_met space k (numbers_of facts ifid dir)
  pub whole : (facts : Facts) (ifid : IfId) (dir : Dir) → IsPacketOfKind space.kind facts ifid
      → in_box boxes.shape (box_at boxes (product_count space)) (packet_cell space facts ifid dir) ≡ true
  pub within : (k : ℕ) (cell : List ℕ) → k < product_count space → in_box boxes.shape (box_at boxes k) cell ≡ true
      → in_box boxes.shape (box_at boxes (product_count space)) cell ≡ true
  pub possible : (cell : List ℕ) → in_box boxes.shape (box_at boxes (product_count space)) cell ≡ true → IsPossibleCell space cell
