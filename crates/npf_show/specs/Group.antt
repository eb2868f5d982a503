-- A group: its head, a line for each item, indented, and its closing brace. The rules of a ruleset aren't part of the text.
use Rattle.std.specs.Prelude.{Bool, true, false, List, ◌++◌, codes}
use Rattle.std.specs.List.{flat_map}
use Rattle.npf_types.specs.Name.{name_bytes}
use Rattle.npf_model.specs.declared.group.Group.{Group}
use Rattle.npf_model.specs.declared.group.Item.{Item}
use Rattle.npf_model.specs.declared.group.Item.TheVariants.{One, Dynamic}
use Rattle.npf_model.specs.declared.model.Model.{Model}
use Rattle.npf_show.specs.Bound.{dir_pieces, on_pieces}
use Rattle.npf_show.specs.Piece.{Piece, Word, Quoted, Sign, glued, spaced, indent, line_end, closing_line, optional_pieces}
use Rattle.npf_show.specs.Rule.{rule_pieces}

abbrev pub within_item : Model → Item → List Piece
within_item model (One rule) = rule_pieces model rule
within_item model (Dynamic name dir on next_id rules) =
    glued (Word (codes "ruleset")) ++ spaced (Quoted (name_bytes name)) ++ optional_pieces dir_pieces dir ++ optional_pieces on_pieces on

abbrev pub item_line : Model → Item → List Piece
item_line model item = indent ++ within_item model item ++ line_end

abbrev pub head_pieces : Bool → Group → List Piece
head_pieces true group = spaced (Word (codes "default"))
head_pieces false group = spaced (Quoted group.name) ++ optional_pieces dir_pieces group.dir ++ optional_pieces on_pieces group.on

abbrev pub group_head : Group → List Piece
group_head group = glued (Word (codes "group")) ++ head_pieces group.default group ++ spaced (Sign (codes "{")) ++ line_end

abbrev pub group_lines : Model → Group → List Piece
group_lines model group = group_head group ++ flat_map (item_line model) group.items ++ closing_line
