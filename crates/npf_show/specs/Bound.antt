-- What a group, a ruleset or a rule is bound to: a direction and an interface.
use Rattle.std.specs.Prelude.{List, ◌++◌, codes}
use Rattle.npf_types.specs.declared.direction.Dir.{Dir}
use Rattle.npf_types.specs.declared.direction.Dir.TheVariants.{In, Out}
use Rattle.npf_types.specs.Name.{name_bytes}
use Rattle.npf_model.specs.declared.rule.OnIf.{OnIf}
use Rattle.npf_show.specs.Piece.{Piece, Word, Quoted, spaced}

abbrev pub dir_pieces : Dir → List Piece
dir_pieces In = spaced (Word (codes "in"))
dir_pieces Out = spaced (Word (codes "out"))

-- a name may end in `-`, which no word does, so it stands in quotes
abbrev pub on_pieces : OnIf → List Piece
on_pieces on = spaced (Word (codes "on")) ++ spaced (Quoted (name_bytes on.name))
