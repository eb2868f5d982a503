-- The candidates have each token of the grammar.
use Rattle.std.proofs.Common.{◌≡◌, true, refl}
use Rattle.npf_parser_values.specs.Value.{iface, one, ones, one_list, protocols, number_value, address_value, table_value, function, function_value, written, value, listed_values, value_list, values}
use Rattle.npf_parser.specs.Filter.{family, detail, proto_part, addresses, ports, ends, the_ends, filter}
use Rattle.npf_parser.specs.Rule.{answer, action, stateful, direction, ends_walk, on, relation, relations, owner, rule, item, head, items}
use Rattle.npf_parser.specs.Map.{kind_details, map_kind, arrow, side, map_ruleset}
use Rattle.npf_parser.specs.Procedure.{log_name, opt, options, call, calls}
use Rattle.npf_parser.specs.Stmt.{define, setting, set, alg, table_type, table, translation, map_rest, map, group, procedure, stmt, stmts, file}
use Rattle.npf_why.specs.Candidate.{candidate_kinds, lists_all, examples}

pub candidates_cover : lists_all (examples file) candidate_kinds ≡ true
unfolding file stmts stmt set setting alg table table_type map map_rest map_ruleset translation map_kind kind_details side arrow group head items item procedure calls call options opt log_name
    define rule action answer stateful direction ends_walk on relation relations owner filter family proto_part detail the_ends ends ports addresses protocols one_list ones one values
    value_list listed_values value written number_value address_value table_value function function_value iface candidate_kinds
candidates_cover = refl
