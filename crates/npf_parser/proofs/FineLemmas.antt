-- One token of sight tells each example in the grammar from what comes before it.
use Rattle.std.proofs.Common.{◌≡◌, true, false, None, refl}
use Rattle.npf_phrase.{specs.Grammar.{meaning, loose}, proofs.TestLemmas.fine}
use Rattle.npf_parser_values.specs.Value.{iface, one, ones, one_list, protocols, number_value, address_value, table_value, function, function_value, written, value, listed_values, value_list, values}
use Rattle.npf_parser.specs.Filter.{family, detail, proto_part, addresses, ports, ends, the_ends, filter}
use Rattle.npf_parser.specs.Rule.{answer, action, stateful, direction, ends_walk, on, relation, relations, owner, rule, item, head, items}
use Rattle.npf_parser.specs.Map.{kind_details, map_kind, arrow, side, map_ruleset}
use Rattle.npf_parser.specs.Procedure.{log_name, opt, options, call, calls}
use Rattle.npf_parser.specs.Stmt.{define, setting, set, alg, table_type, table, translation, map_rest, map, group, procedure, stmt, stmts, file, lone_rule}

pub file_fine : fine (loose file) ≡ true
unfolding file stmts stmt set setting alg table table_type map map_rest map_ruleset translation map_kind kind_details side arrow group head items item procedure calls call options opt log_name
    define rule action answer stateful direction ends_walk on relation relations owner filter family proto_part detail the_ends ends ports addresses protocols one_list ones one values
    value_list listed_values value written number_value address_value table_value function function_value iface
file_fine = refl

pub file_ends : (meaning (loose file)).more None ≡ false
unfolding file stmts stmt set setting alg table table_type map map_rest map_ruleset translation map_kind kind_details side arrow group head items item procedure calls call options opt log_name
    define rule action answer stateful direction ends_walk on relation relations owner filter family proto_part detail the_ends ends ports addresses protocols one_list ones one values
    value_list listed_values value written number_value address_value table_value function function_value iface
file_ends = refl

pub lone_rule_fine : fine (loose lone_rule) ≡ true
unfolding lone_rule rule action answer stateful direction ends_walk on relation relations owner filter family proto_part detail the_ends ends ports addresses protocols one_list
    ones one values value_list listed_values value written number_value address_value table_value function function_value iface
lone_rule_fine = refl

pub lone_rule_ends : (meaning (loose lone_rule)).more None ≡ false
unfolding lone_rule rule action answer stateful direction ends_walk on relation relations owner filter family proto_part detail the_ends ends ports addresses protocols one_list
    ones one values value_list listed_values value written number_value address_value table_value function function_value iface
lone_rule_ends = refl
