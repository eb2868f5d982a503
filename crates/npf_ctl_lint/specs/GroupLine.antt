-- The lines of groups that no packet comes to.
use Rattle.std.specs.Prelude.{ℕ, Bool, true, false, Option, Some, None, is_none, List, [], ◌++◌, codes}
use Rattle.std.specs.List.{flat_map, list_any, zip}
use Rattle.npf_model.specs.declared.group.Group.{Group}
use Rattle.npf_products.specs.declared.packet.CellPacket.{CellPacket}

-- with the group's name as it is written, or that it is the default group
abbrev pub dead_group_line : Bool → List ℕ → List ℕ
dead_group_line true name = codes "group default dead\n"
dead_group_line false name = codes "group \"" ++ (name ++ codes "\" dead\n")

-- nothing is told of a group that a packet comes to
abbrev pub found_group_line : Group × Option CellPacket → List ℕ
found_group_line (group, Some packet) = []
found_group_line (group, None) = dead_group_line group.default group.name

abbrev pub dead_group_lines : List Group → List (Option CellPacket) → List ℕ
dead_group_lines groups found = flat_map found_group_line (zip groups found)

abbrev pub some_dead_group : List (Option CellPacket) → Bool
some_dead_group found = list_any (λ packet. is_none packet) found
