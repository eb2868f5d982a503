-- Packets of all kinds, as those of some cells of each kind.
use Rattle.std.specs.Prelude.{◌≡◌, ◌&&◌, Bool, List}
use Rattle.std.specs.List.{All, list_any}
use Rattle.npf_types.specs.declared.direction.Dir.{Dir}
use Rattle.npf_types.specs.declared.facts.Facts.{Facts}
use Rattle.npf_types.specs.declared.interface.IfId.{IfId}
use Rattle.npf_search.specs.Region.{region_has}
use Rattle.npf_model.specs.Describes.{Tables}
use Rattle.npf_products.specs.declared.product.Product.{Product}
use Rattle.npf_products.specs.Space.{packet_cell}
use Rattle.npf_reach.specs.declared.packets.Packets.{Packets}
use Rattle.npf_reach.specs.declared.part.KindPart.{KindPart}
use Rattle.npf_reach.specs.Kinds.{IsKindOf, cells_kind, is_of_kind}

-- the packet is of the part's kind, and its cell is one of the region's
abbrev pub part_has : KindPart → Facts → IfId → Dir → Bool
part_has part facts ifid dir =
    is_of_kind (cells_kind part.cells.now) facts && region_has part.cells.now.boxes part.region (packet_cell part.cells.now.space facts ifid dir)

abbrev pub parts_have : List KindPart → Facts → IfId → Dir → Bool
parts_have parts facts ifid dir = list_any (λ part. part_has part facts ifid dir) parts

abbrev pub has_packet : Packets → Facts → IfId → Dir → Bool
has_packet packets facts ifid dir = parts_have packets.parts.items facts ifid dir

-- these products tell of the packets, with these tables
pub record IsOf (tables : Tables) (products : List Product) (packets : Packets) : Type 0 where
  pub tables_are : packets.tables.now ≡ tables
  pub products_are : packets.products.now ≡ products
  pub kinds : All (λ part. IsKindOf tables products part.cells.now) packets.parts.items
