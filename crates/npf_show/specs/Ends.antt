-- The ends of a rule: `from` and `to`, each with addresses, ports or both.
use Rattle.std.specs.Prelude.{ℕ, Bool, true, false, is_some, ◌==◌, ◌||◌, if◌then◌else◌, Option, Some, None, List, [], ◌++◌, slice_get, codes}
use Rattle.npf_types.specs.declared.prefix.Prefix.{Prefix}
use Rattle.npf_types.specs.Address.{width}
use Rattle.npf_types.specs.Name.{name_bytes}
use Rattle.npf_model.specs.declared.ends.AddrItem.{AddrItem}
use Rattle.npf_model.specs.declared.ends.AddrItem.TheVariants.{Net, InTable}
use Rattle.npf_model.specs.declared.ends.Ends.{Ends}
use Rattle.npf_model.specs.declared.model.Model.{Model}
use Rattle.npf_model.specs.declared.table.TableDecl.{TableDecl}
use Rattle.npf_show.specs.Piece.{Piece, Word, Number, Address, Sign, glued, spaced, optional_pieces, list_pieces}

-- the length stands behind `/`, but for the full one
abbrev pub length_pieces : Prefix → List Piece
length_pieces prefix =
    if prefix.len == width prefix.addr then [] else glued (Sign (codes "/")) ++ glued (Number prefix.len)

abbrev pub prefix_pieces : Prefix → List Piece
prefix_pieces prefix = spaced (Address prefix.addr) ++ length_pieces prefix

-- a table by its name
abbrev pub angled : List ℕ → List Piece
angled name = spaced (Sign (codes "<")) ++ glued (Word name) ++ glued (Sign (codes ">"))

-- the name of the table of a number; a number that no table has gives none
abbrev pub name_of_table : Option TableDecl → List ℕ
name_of_table None = []
name_of_table (Some table) = name_bytes table.name

-- an element of a list of addresses
abbrev pub item_pieces : Model → AddrItem → List Piece
item_pieces model (Net prefix) = prefix_pieces prefix
item_pieces model (InTable number) = angled (name_of_table (slice_get model.tables number))

-- the last port of a range, but of a range of one port
abbrev pub last_pieces : ℕ × ℕ → List Piece
last_pieces range = if range.0 == range.1 then [] else glued (Sign (codes "-")) ++ glued (Number range.1)

abbrev pub range_pieces : ℕ × ℕ → List Piece
range_pieces range = spaced (Number range.0) ++ last_pieces range

abbrev pub ports_pieces : List (ℕ × ℕ) → List Piece
ports_pieces ports = spaced (Word (codes "port")) ++ list_pieces range_pieces ports

-- the addresses of an end, behind `!` where they are excluded
abbrev pub addresses_pieces : Model → Bool → List AddrItem → List Piece
addresses_pieces model true items = spaced (Sign (codes "!")) ++ list_pieces (item_pieces model) items
addresses_pieces model false items = list_pieces (item_pieces model) items

-- the addresses and the ports of an end; ports alone stand without `any`
abbrev pub ends_pieces : Model → Ends → List Piece
ends_pieces model ends = optional_pieces (addresses_pieces model ends.excluded) ends.addrs ++ optional_pieces ports_pieces ends.ports

-- whether an end says something
abbrev pub is_said : Ends → Bool
is_said ends = is_some ends.addrs || is_some ends.ports

-- an end behind its word, left out where it says nothing
abbrev pub end_pieces : Model → List ℕ → Ends → List Piece
end_pieces model text ends = if is_said ends then spaced (Word text) ++ ends_pieces model ends else []

-- both ends, or `all` where neither says anything
abbrev pub where_pieces : Model → Ends → Ends → List Piece
where_pieces model from to =
    if is_said from || is_said to then end_pieces model (codes "from") from ++ end_pieces model (codes "to") to
    else spaced (Word (codes "all"))
