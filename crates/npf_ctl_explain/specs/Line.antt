-- The lines of an explanation: of a group, of a rule and of a map, with the rule or the map as the canonical text has it.
use Rattle.std.specs.Prelude.{ℕ, Bool, true, false, List, ◌++◌, codes}
use Rattle.npf_model.specs.declared.group.Group.{Group}
use Rattle.npf_model.specs.declared.map.Map.{Map}
use Rattle.npf_model.specs.declared.model.Model.{Model}
use Rattle.npf_precedence.specs.Precedence.{OrderedRule}
use Rattle.npf_show.specs.Map.{map_line}
use Rattle.npf_show.specs.Piece.{spelled}
use Rattle.npf_show.specs.Rule.{rule_pieces}
use Rattle.npf_explain.specs.declared.told.GroupTold.{GroupTold}
use Rattle.npf_explain.specs.declared.told.MapTold.{MapTold}
use Rattle.npf_explain.specs.declared.told.RuleTold.{RuleTold}
use Rattle.npf_ctl_explain.specs.Word.{group_words, map_words, rule_words}
use Rattle.npf_ctl_query.specs.QueryText.{ordinal_text}

-- a group's name in quotes, or that it is the default group
abbrev pub group_name_text : Bool → List ℕ → List ℕ
group_name_text true name = codes " default"
group_name_text false name = codes " \"" ++ (name ++ codes "\"")

abbrev pub group_line : Group → GroupTold → List ℕ
group_line group told = codes "group" ++ (group_name_text group.default group.name ++ (group_words told ++ codes "\n"))

abbrev pub rule_line : Model → OrderedRule → RuleTold → List ℕ
rule_line model ordered told =
    codes "rule " ++ (ordinal_text ordered.place ++ (rule_words told ++ (codes "  " ++ (spelled (rule_pieces model ordered.placed.rule) ++ codes "\n"))))

-- the canonical text has the line's end
abbrev pub told_map_line : Model → ℕ → Map → MapTold → List ℕ
told_map_line model place map told = codes "map " ++ (ordinal_text place ++ (map_words told ++ (codes "  " ++ spelled (map_line model map))))
