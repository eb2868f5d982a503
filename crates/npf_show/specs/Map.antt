-- A map: its interface, how it translates, its protocol, its sides with the arrow between them, and its filter.
use Rattle.std.specs.Prelude.{ℕ, List, ◌++◌, codes}
use Rattle.npf_types.specs.Name.{name_bytes}
use Rattle.npf_model.specs.declared.map.Algo.{Algo}
use Rattle.npf_model.specs.declared.map.Algo.TheVariants.{Dynamic, Netmap, Npt66}
use Rattle.npf_model.specs.declared.map.Arrow.{Arrow}
use Rattle.npf_model.specs.declared.map.Arrow.TheVariants.{ToOutside, ToInside, Both}
use Rattle.npf_model.specs.declared.map.Map.{Map}
use Rattle.npf_model.specs.declared.map.Side.{Side}
use Rattle.npf_model.specs.declared.model.Model.{Model}
use Rattle.npf_model.specs.declared.rule.Rule.{Rule}
use Rattle.npf_show.specs.Ends.{prefix_pieces, range_pieces}
use Rattle.npf_show.specs.Filter.{filter_pieces}
use Rattle.npf_show.specs.Piece.{Piece, Word, Quoted, Number, Sign, glued, spaced, line_end, optional_pieces}

abbrev pub static_pieces : List ℕ → List Piece
static_pieces algo = spaced (Word (codes "static")) ++ spaced (Word (codes "algo")) ++ spaced (Word algo)

-- `static` alone means `netmap`, which is always written
abbrev pub algo_pieces : Algo → List Piece
algo_pieces Dynamic = spaced (Word (codes "dynamic"))
algo_pieces Netmap = static_pieces (codes "netmap")
algo_pieces Npt66 = static_pieces (codes "npt66")

abbrev pub one_proto_pieces : ℕ → List Piece
one_proto_pieces protocol = spaced (Word (codes "proto")) ++ spaced (Number protocol)

abbrev pub side_port_pieces : ℕ × ℕ → List Piece
side_port_pieces range = spaced (Word (codes "port")) ++ range_pieces range

abbrev pub side_pieces : Side → List Piece
side_pieces side = prefix_pieces side.net ++ optional_pieces side_port_pieces side.ports

abbrev pub arrow_pieces : Arrow → List Piece
arrow_pieces ToOutside = spaced (Sign (codes "->"))
arrow_pieces ToInside = spaced (Sign (codes "<-"))
arrow_pieces Both = spaced (Sign (codes "<->"))

abbrev pub pass_pieces : Model → Rule → List Piece
pass_pieces model filter = spaced (Word (codes "pass")) ++ filter_pieces model filter

abbrev pub map_line : Model → Map → List Piece
map_line model m =
    glued (Word (codes "map"))
    ++ spaced (Quoted (name_bytes m.on.name))
    ++ algo_pieces m.algo
    ++ optional_pieces one_proto_pieces m.proto
    ++ side_pieces m.inside
    ++ arrow_pieces m.arrow
    ++ side_pieces m.outside
    ++ optional_pieces (pass_pieces model) m.filter
    ++ line_end
