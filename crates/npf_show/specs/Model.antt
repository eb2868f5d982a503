-- The canonical text of a model: its settings, then its tables, maps, procedures and groups, each in the model's order, the default
-- group last.
use Rattle.std.specs.Prelude.{List, ◌++◌}
use Rattle.std.specs.List.{flat_map}
use Rattle.npf_model.specs.declared.model.Model.{Model}
use Rattle.npf_show.specs.Group.{group_lines}
use Rattle.npf_show.specs.Map.{map_line}
use Rattle.npf_show.specs.Piece.{Piece}
use Rattle.npf_show.specs.Procedure.{procedure_lines}
use Rattle.npf_show.specs.Setting.{alg_line, set_line, shown_settings}
use Rattle.npf_show.specs.Table.{table_line}

abbrev pub setting_lines : Model → List Piece
setting_lines model = flat_map set_line (shown_settings model.settings) ++ alg_line model.alg_icmp

abbrev pub declared_lines : Model → List Piece
declared_lines model =
    flat_map table_line model.tables
    ++ flat_map (map_line model) model.maps
    ++ flat_map procedure_lines model.procedures
    ++ flat_map (group_lines model) model.groups

abbrev pub model_pieces : Model → List Piece
model_pieces model = setting_lines model ++ declared_lines model
