-- What is told of a packet: group by group and rule by rule in the order of inspection, then map by map in the order of the text, and what becomes of it.
use Rattle.std.specs.Prelude.{ℕ, List, ◌++◌, codes, length, take}
use Rattle.npf_model.specs.declared.group.Group.{Group}
use Rattle.npf_model.specs.declared.model.Model.{Model}
use Rattle.npf_model.specs.Verdict.{all_rules, rules_of}
use Rattle.npf_precedence.specs.Precedence.{OrderedRule, rules_from}
use Rattle.npf_explain.specs.declared.told.Explanation.{Explanation}
use Rattle.npf_explain.specs.declared.told.ToldGroup.{ToldGroup}
use Rattle.npf_ctl_explain.specs.Beside.{each_beside}
use Rattle.npf_ctl_explain.specs.Line.{group_line, rule_line, told_map_line}
use Rattle.npf_ctl_explain.specs.Outcome.{verdict_words}

-- a group and these rules of it
abbrev pub group_text : Model → List OrderedRule → Group → ToldGroup → List ℕ
group_text model rules group told = group_line group told.told ++ each_beside (λ k. rule_line model) rules told.rules

-- the group at this place with its rules, which count from those of the groups in front of it
abbrev pub nth_group_text : Model → ℕ → Group → ToldGroup → List ℕ
nth_group_text model k group told = group_text model (rules_from group (length (all_rules (take k model.groups))) (rules_of group)) group told

abbrev pub explained_text : Model → Explanation → List ℕ
explained_text model told =
    each_beside (nth_group_text model) model.groups told.groups
    ++ (each_beside (told_map_line model) model.maps told.maps ++ (verdict_words model told.decider told.map ++ codes "\n"))
