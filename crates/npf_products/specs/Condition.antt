-- What a rule or a map asks of a number of a packet.
use Rattle.std.specs.Prelude.{ℕ, ◌+◌, ◌-◌, ◌^◌, ◌==◌, Bool, not, ◌||◌, if◌then◌else◌, List, [], ◌∷◌, map, slice_index, slice_index_or}
use Rattle.std.specs.List.{flat_map, list_all, list_any}
use Rattle.npf_types.specs.declared.address.Addr.{Addr}
use Rattle.npf_types.specs.declared.address.Addr.TheVariants.{V4, V6}
use Rattle.npf_types.specs.declared.prefix.Prefix.{Prefix}
use Rattle.npf_model.specs.Describes.{Tables, in_range}
use Rattle.npf_products.specs.declared.condition.Condition.{Condition}
use Rattle.npf_products.specs.declared.kind.IpFamily.{IpFamily}
use Rattle.npf_products.specs.declared.kind.IpFamily.TheVariants.{Inet4, Inet6}

-- numbers by ranges, whose ends belong to them
abbrev pub Ranges : Type 0
Ranges = List (ℕ × ℕ)

abbrev pub has_number : Ranges → ℕ → Bool
has_number ranges number = list_any (in_range number) ranges

-- the last address of a block of this length
abbrev pub last_number : Addr → ℕ → ℕ
last_number (V4 first) len = first + (2 ^ (32 - len) - 1)
last_number (V6 first) len = first + (2 ^ (128 - len) - 1)

-- the addresses of a block as numbers of the family, if it is of that
abbrev pub block_range : IpFamily → Addr → ℕ → Ranges
block_range Inet4 (V4 first) len = (first, last_number (V4 first) len) ∷ []
block_range Inet6 (V6 first) len = (first, last_number (V6 first) len) ∷ []
block_range Inet4 (V6 first) len = []
block_range Inet6 (V4 first) len = []

abbrev pub prefix_range : IpFamily → Prefix → Ranges
prefix_range family prefix = block_range family prefix.addr prefix.len

-- the addresses of each table
abbrev pub table_ranges : IpFamily → Tables → List Ranges
table_ranges family tables = map (flat_map (prefix_range family)) tables

-- tables have addresses alone: those of the source and of the destination
abbrev pub tables_in : ℕ → List Ranges → List Ranges
tables_in dimension tables = if dimension == 1 || dimension == 2 then tables else []

-- the table of this number has the number; a table that isn't there has none
abbrev pub ranges_have : List Ranges → ℕ → ℕ → Bool
ranges_have tables number table = has_number (slice_index_or tables table []) number

-- one of the ranges or of the tables has the number
abbrev pub some_has : List Ranges → Condition → ℕ → Bool
some_has tables condition number =
    has_number condition.ranges.items number || list_any (ranges_have tables number) condition.tables.items

abbrev pub unless_excluded : Bool → Bool → Bool
unless_excluded excluded x = if excluded then not x else x

-- the condition holds of these numbers
abbrev pub fits : List Ranges → List ℕ → Condition → Bool
fits tables numbers condition =
    unless_excluded condition.excluded (some_has (tables_in condition.dimension tables) condition (slice_index numbers condition.dimension))

abbrev pub all_fit : List Ranges → List ℕ → List Condition → Bool
all_fit tables numbers conditions = list_all (fits tables numbers) conditions
