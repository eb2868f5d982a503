-- Packets, the products that hold of them, and the kinds that they are of.
use Rattle.std.specs.Prelude.{◌≡◌, ◌<◌, ◌^◌, ◌==◌, ◌&&◌, ℕ, Bool, true, false, Option, Some, None, List, map, slice_get}
use Rattle.std.specs.List.{All, Contains}
use Rattle.npf_types.specs.declared.direction.Dir.{Dir}
use Rattle.npf_types.specs.declared.facts.Facts.{Facts}
use Rattle.npf_types.specs.declared.interface.IfId.{IfId}
use Rattle.npf_boxes.specs.Cell.{box_at, in_box}
use Rattle.npf_search.specs.declared.region.Region.{Region}
use Rattle.npf_search.specs.Region.{region_has}
use Rattle.npf_model.specs.Describes.{Tables}
use Rattle.npf_possible.specs.Possible.{IsPossible}
use Rattle.npf_products.specs.declared.kind.Carried.{Carried}
use Rattle.npf_products.specs.declared.kind.Carried.TheVariants.{Tcp, Udp, Icmp, Other}
use Rattle.npf_products.specs.declared.kind.IpFamily.{IpFamily}
use Rattle.npf_products.specs.declared.kind.IpFamily.TheVariants.{Inet4, Inet6}
use Rattle.npf_products.specs.declared.kind.PacketKind.{PacketKind}
use Rattle.npf_products.specs.declared.product.Product.{Product}
use Rattle.npf_products.specs.Kind.{carried_of, family_of}
use Rattle.npf_products.specs.Number.{numbers_of}
use Rattle.npf_products.specs.Product.{product_holds}
use Rattle.npf_products.specs.Space.{IsSpaceOf, is_met, product_count}
use Rattle.npf_reach.specs.declared.kind_cells.KindCells.{KindCells}

-- a packet that there can be, where it passes: an interface's number has 16 bits
pub record IsPacket (facts : Facts) (ifid : IfId) : Type 0 where
  pub possible : IsPossible facts
  pub interface : ifid.0 < 2 ^ 16

-- the product, if there is one of this number, holds of the packet
abbrev pub held : Option Product → Tables → Facts → IfId → Dir → Bool
held None tables facts ifid dir = false
held (Some product) tables facts ifid dir = product_holds product tables facts ifid dir

abbrev pub held_at : Tables → List Product → Facts → IfId → Dir → ℕ → Bool
held_at tables products facts ifid dir number = held (slice_get products number) tables facts ifid dir

-- ---- kinds
abbrev pub family_number : IpFamily → ℕ
family_number Inet4 = 4
family_number Inet6 = 6

abbrev pub carried_number : Carried → ℕ
carried_number Tcp = 0
carried_number Udp = 1
carried_number Icmp = 2
carried_number Other = 3

-- the packet is of the kind
abbrev pub is_of_kind : PacketKind → Facts → Bool
is_of_kind kind facts =
    family_number kind.family == family_number (family_of facts.src) && carried_number kind.carried == carried_number (carried_of facts.l4)

abbrev pub cells_kind : KindCells → PacketKind
cells_kind cells = cells.space.kind

-- the cells tell these products' packets of their kind
abbrev pub IsKindOf : Tables → List Product → KindCells → Type 0
IsKindOf tables products cells = IsSpaceOf (cells_kind cells) tables products cells.space

-- and there are cells of each kind
pub record AreKindsOf (tables : Tables) (products : List Product) (cells : List KindCells) : Type 0 where
  pub each : All (IsKindOf tables products) cells
  pub whole : (kind : PacketKind) → Contains (map cells_kind cells) kind

-- what a product asks, as the cells have it, holds of the packet
abbrev pub is_met_by : KindCells → Facts → IfId → Dir → ℕ → Bool
is_met_by cells facts ifid dir number = is_met cells.space number (numbers_of facts ifid dir)

-- each cell of the region is one that packets of the kind can have
abbrev pub IsWithinKind : KindCells → Region → Type 0
IsWithinKind cells region = (cell : List ℕ) → region_has cells.boxes region cell ≡ true
    → in_box cells.boxes.shape (box_at cells.boxes (product_count cells.space)) cell ≡ true
