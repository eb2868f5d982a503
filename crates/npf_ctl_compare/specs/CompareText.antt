-- What is told of two configurations.
use Rattle.std.specs.Prelude.{◌≡◌, ◌==◌, ℕ, Bool, true, false, if◌then◌else◌, Option, Some, None, option_and_then, List, [], ◌∷◌, ◌++◌, codes, length, map}
use Rattle.std.specs.Fmt.{decimal}
use Rattle.std.specs.List.{flat_map}
use Rattle.npf_model.specs.declared.iface.Iface.{Iface}
use Rattle.npf_model.specs.declared.model.Model.{Model}
use Rattle.npf_model.specs.declared.rule.Rule.{Rule}
use Rattle.npf_model.specs.declared.settings.Parameter.{Parameter}
use Rattle.npf_model.specs.Configuration.{Configuration}
use Rattle.npf_model.specs.Settings.{choice_in, parameter_name}
use Rattle.npf_model.specs.Verdict.{rule_at}
use Rattle.npf_show.specs.Setting.{switch_text}
use Rattle.npf_treatment.specs.Treatment.{rule_effect}
use Rattle.npf_compare.specs.declared.difference.RuleDifference.{RuleDifference}
use Rattle.npf_compare_maps.specs.declared.difference.MapDifference.{MapDifference}
use Rattle.npf_ctl_query.specs.{Decision.rule_word, QueryText.{ordinal_text, packet_tail}}
use Rattle.npf_ctl_compare.specs.declared.differences.Differences.{Differences}
use Rattle.npf_ctl_compare.specs.{Differences.{AreDifferences, AreFew}, Setting.value_text, Unlike.unlike_word}

-- a rule or a map by its number, which counts from 1
abbrev pub number_or_none : Option ℕ → List ℕ
number_or_none None = codes "none"
number_or_none (Some place) = ordinal_text place

-- what decides on a packet: none, or the rule at a place
abbrev pub rule_or_no_rule : Model → Option ℕ → Option Rule
rule_or_no_rule model place = option_and_then (rule_at model) place

abbrev pub numbered_decision : Model → Option ℕ → List ℕ
numbered_decision model place = rule_word (rule_or_no_rule model place) ++ (codes " " ++ number_or_none place)

-- two maps that write different things into a packet, and the packet
abbrev pub map_difference_line : List Iface → MapDifference → List ℕ
map_difference_line ifaces difference =
    codes "map " ++ (number_or_none difference.old ++ (codes " " ++ (number_or_none difference.new ++ (codes " " ++ packet_tail ifaces difference.packet))))

module _ (old new : Model) where
  -- in what two rules differ first, the decisions of both, and a packet that they treat otherwise
  abbrev pub rule_difference_line : List Iface → RuleDifference → List ℕ
  rule_difference_line ifaces difference =
      unlike_word (rule_effect old (rule_or_no_rule old difference.old)) (rule_effect new (rule_or_no_rule new difference.new))
      ++ (codes " " ++ (numbered_decision old difference.old ++ (codes " " ++ (numbered_decision new difference.new ++ (codes " " ++ packet_tail ifaces difference.packet)))))

  -- a parameter with both values
  abbrev pub parameter_line : Parameter → List ℕ
  parameter_line parameter =
      codes "set " ++ (parameter_name parameter ++ (codes " " ++ (value_text (choice_in old.settings parameter)
      ++ (codes " " ++ (value_text (choice_in new.settings parameter) ++ codes "\n")))))

  abbrev pub alg_line_of_both : List ℕ
  alg_line_of_both = codes "alg icmp " ++ (switch_text old.alg_icmp ++ (codes " " ++ (switch_text new.alg_icmp ++ codes "\n")))

  abbrev pub alg_lines : Bool → List (List ℕ)
  alg_lines true = alg_line_of_both ∷ []
  alg_lines false = []

  -- those of rules first, then those of maps, of parameters, and of the gateway of ICMP
  abbrev pub difference_lines : List Iface → Differences → List (List ℕ)
  difference_lines ifaces differences =
      map (rule_difference_line ifaces) differences.rules.items
      ++ (map (map_difference_line ifaces) differences.maps.items
      ++ (map parameter_line differences.parameters.items
      ++ alg_lines differences.alg_icmp))

-- how many lines stand in front, or that none does
abbrev pub count_line : ℕ → List ℕ
count_line count = if count == 0 then codes "same\n" else codes "differ " ++ (decimal count ++ codes "\n")

abbrev pub differences_text : List (List ℕ) → List ℕ
differences_text lines = flat_map (λ line. line) lines ++ count_line (length lines)

-- the text is that of how the configurations differ, in no more pairs than are told, and says `same` where they don't
pub record IsCompareText (ifaces : List Iface) (old new : Configuration) (same : Bool) (text : List ℕ) : Type 0 where
  pub differences : Differences
  pub are : AreDifferences old new differences
  pub few : AreFew differences
  pub told : text ≡ differences_text (difference_lines old.model new.model ifaces differences)
  pub says : same ≡ (length (difference_lines old.model new.model ifaces differences) == 0)
