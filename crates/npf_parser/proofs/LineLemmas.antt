-- Nothing that may be empty is repeated in the grammar's lines, and in what their loops read.
use Rattle.std.proofs.Common.{◌≡◌, true, Some, refl}
use Rattle.npf_lexer.specs.declared.token.Sign.TheVariants.{Comma}
use Rattle.npf_phrase.{specs.Grammar.{making, preceded, unless}, proofs.TestLemmas.advances}
use Rattle.npf_parser_values.specs.Token.{sign, separator}
use Rattle.npf_parser_values.specs.Value.{iface, one, ones, one_list, protocols, number_value, address_value, table_value, function, function_value, written, value, listed_values, value_list, values}
use Rattle.npf_parser.specs.Filter.{family, detail, proto_part, addresses, ports, ends, the_ends, filter}
use Rattle.npf_parser.specs.Rule.{answer, action, stateful, direction, ends_walk, on, relation, relations, owner, rule, item, head, items, ends_item}
use Rattle.npf_parser.specs.Map.{kind_details, map_kind, arrow, side, map_ruleset}
use Rattle.npf_parser.specs.Procedure.{log_name, opt, options, call, calls}
use Rattle.npf_parser.specs.Stmt.{define, setting, set, alg, table_type, table, translation, map_rest, map, group, procedure, stmt, ends_stmt, stmts, file, lone_rule}

pub opt_advances : advances opt ≡ true
unfolding opt
opt_advances = refl

pub next_opt_advances : advances (preceded (sign Comma) (making (λ _ a. Some a) opt)) ≡ true
unfolding opt
next_opt_advances = refl

pub call_advances : advances call ≡ true
unfolding call options opt log_name iface
call_advances = refl

pub next_call_advances : advances (preceded separator (unless ends_item call)) ≡ true
unfolding call options opt log_name iface
next_call_advances = refl

pub item_advances : advances item ≡ true
unfolding item rule action answer stateful direction ends_walk on relation relations owner filter family proto_part detail the_ends ends ports addresses protocols one_list
    ones one values value_list listed_values value written number_value address_value table_value function function_value iface
item_advances = refl

pub next_item_advances : advances (preceded separator (unless ends_item item)) ≡ true
unfolding item rule action answer stateful direction ends_walk on relation relations owner filter family proto_part detail the_ends ends ports addresses protocols one_list
    ones one values value_list listed_values value written number_value address_value table_value function function_value iface
next_item_advances = refl

pub stmt_advances : advances stmt ≡ true
unfolding stmt set setting alg table table_type map map_rest map_ruleset translation map_kind kind_details side arrow group head items item procedure calls call options opt log_name define rule action
    answer stateful direction ends_walk on relation relations owner filter family proto_part detail the_ends ends ports addresses protocols one_list ones one values
    value_list listed_values value written number_value address_value table_value function function_value iface
stmt_advances = refl

pub next_stmt_advances : advances (preceded separator (unless ends_stmt stmt)) ≡ true
unfolding stmt set setting alg table table_type map map_rest map_ruleset translation map_kind kind_details side arrow group head items item procedure calls call options opt log_name define rule action
    answer stateful direction ends_walk on relation relations owner filter family proto_part detail the_ends ends ports addresses protocols one_list ones one values
    value_list listed_values value written number_value address_value table_value function function_value iface
next_stmt_advances = refl

pub file_advances : advances file ≡ true
unfolding file stmts stmt set setting alg table table_type map map_rest map_ruleset translation map_kind kind_details side arrow group head items item procedure calls call options opt log_name
    define rule action answer stateful direction ends_walk on relation relations owner filter family proto_part detail the_ends ends ports addresses protocols one_list ones one values
    value_list listed_values value written number_value address_value table_value function function_value iface
file_advances = refl

pub lone_rule_advances : advances lone_rule ≡ true
unfolding lone_rule rule action answer stateful direction ends_walk on relation relations owner filter family proto_part detail the_ends ends ports addresses protocols one_list
    ones one values value_list listed_values value written number_value address_value table_value function function_value iface
lone_rule_advances = refl
