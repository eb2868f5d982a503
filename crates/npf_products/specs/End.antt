-- The ends of packets, and the items that addresses are compared with.
use Rattle.std.specs.Prelude.{◌≡◌, ℕ, ◌+◌, Bool, not, ◌||◌, List, [], ◌∷◌, Option, if◌then◌else◌, nat_lt, take, drop}
use Rattle.std.specs.List.{list_any}
use Rattle.npf_types.specs.declared.address.Addr.{Addr}
use Rattle.npf_types.specs.declared.facts.Facts.{Facts}
use Rattle.npf_types.specs.declared.facts.L4.{L4}
use Rattle.npf_model.specs.declared.ends.AddrItem.{AddrItem}
use Rattle.npf_model.specs.declared.ends.AddrItem.TheVariants.{Net, InTable}
use Rattle.npf_model.specs.Describes.{Tables, destination_of, item_allows, source_of}
use Rattle.npf_products.specs.declared.condition.Condition.{Condition}
use Rattle.npf_products.specs.declared.ends.WhichEnd.{WhichEnd}
use Rattle.npf_products.specs.declared.ends.WhichEnd.TheVariants.{Source, Destination}
use Rattle.npf_products.specs.declared.kind.IpFamily.{IpFamily}
use Rattle.npf_products.specs.declared.tables.TableSpan.{TableSpan}
use Rattle.npf_products.specs.Condition.{Ranges, has_number, prefix_range, some_has, ranges_have}

-- the tables of one configuration, where those of several stand one behind the other
abbrev pub own_tables : TableSpan → Tables → Tables
own_tables span all = take span.count (drop span.first all)

-- the number among all of the table that a configuration counts as this one; none where it has no such table
abbrev pub numbers_among : TableSpan → ℕ → List ℕ
numbers_among span number = if nat_lt number span.count then (span.first + number) ∷ [] else []

abbrev pub address_dimension : WhichEnd → ℕ
address_dimension Source = 1
address_dimension Destination = 2

abbrev pub port_dimension : WhichEnd → ℕ
port_dimension Source = 3
port_dimension Destination = 4

abbrev pub address_at : WhichEnd → Facts → Addr
address_at Source facts = facts.src
address_at Destination facts = facts.dst

abbrev pub port_at : WhichEnd → L4 → Option ℕ
port_at Source l4 = source_of l4
port_at Destination l4 = destination_of l4

-- the item has the number
abbrev pub item_has_number : IpFamily → TableSpan → List Ranges → ℕ → AddrItem → Bool
item_has_number family span tables number (Net prefix) = has_number (prefix_range family prefix) number
item_has_number family span tables number (InTable table) = list_any (ranges_have tables number) (numbers_among span table)

-- the condition has what it had, and what the items have
pub record HasItems (family : IpFamily) (span : TableSpan) (items : List AddrItem) (old new : Condition) : Type 0 where
  pub dimension : new.dimension ≡ old.dimension
  pub excluded : new.excluded ≡ old.excluded
  pub numbers : (tables : List Ranges) (number : ℕ)
      → some_has tables new number ≡ (some_has tables old number || list_any (item_has_number family span tables number) items)

-- some address of the family may do: where items are excluded, one of them is of the family
abbrev pub may_hold : Bool → List AddrItem → Bool → Bool
may_hold excluded items v6 = not excluded || list_any (item_allows v6) items
