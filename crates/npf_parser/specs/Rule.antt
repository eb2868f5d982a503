-- The grammar of npf.conf(5) for rules, and for groups of them.
use Rattle.std.specs.Prelude.{Bool, true, false, ◌||◌, ⊤, Option, List, codes}
use Rattle.npf_types.specs.declared.span.Span.{Span}
use Rattle.npf_lexer.specs.declared.token.Sign.{Sign}
use Rattle.npf_lexer.specs.declared.token.Token.{Token}
use Rattle.npf_syntax.specs.declared.group.GroupHead.{GroupHead}
use Rattle.npf_syntax.specs.declared.group.ItemTree.{ItemTree}
use Rattle.npf_syntax.specs.declared.rule.BlockReturn.{BlockReturn}
use Rattle.npf_syntax.specs.declared.rule.Direction.{Direction}
use Rattle.npf_syntax.specs.declared.rule.RuleAction.{RuleAction}
use Rattle.npf_syntax.specs.declared.rule.RuleTree.{RuleTree}
use Rattle.npf_syntax.specs.declared.rule.Stateful.{Stateful as StatefulTree}
use Rattle.npf_syntax.specs.declared.value.IfaceTree.{IfaceTree}
use Rattle.npf_phrase.specs.Grammar.{Grammar, meaning, pure, making, any_number, ◌&◌, ◌or◌, optional, preceded, block_of}
use Rattle.npf_parser_values.specs.Token.{span_of, quoted, says, sign, separator, string, word, number, name_string}
use Rattle.npf_parser_values.specs.Value.{iface}
use Rattle.npf_parser.specs.Filter.{filter}

-- "return" | "return-rst" | "return-icmp"
unfoldable pub answer : Grammar Token BlockReturn
answer = says (codes "return") BlockReturn.Return or says (codes "return-rst") BlockReturn.ReturnRst or says (codes "return-icmp") BlockReturn.ReturnIcmp

-- "block" [ answer ] | "pass"
unfoldable pub action : Grammar Token RuleAction
action = making (λ ts answer. RuleAction.Block answer (span_of ts)) (preceded (quoted (codes "block")) (optional answer)) or says (codes "pass") RuleAction.Pass

-- "stateful" | "stateful-all"
unfoldable pub stateful : Grammar Token StatefulTree
stateful = says (codes "stateful") StatefulTree.Stateful or says (codes "stateful-all") StatefulTree.StatefulAll

-- dir = "in" | "out"
unfoldable pub direction : Grammar Token Direction
direction = says (codes "in") Direction.In or says (codes "out") Direction.Out

-- [ "final" ]
unfoldable pub ends_walk : Grammar Token Bool
ends_walk = says (codes "final") (λ _. true) or pure false

-- "on" iface
unfoldable pub on : Grammar Token IfaceTree
on = preceded (quoted (codes "on")) iface

-- "=" | "!" | "<" | ">"
unfoldable pub relation : Grammar Token ⊤
relation = sign Sign.Equals or sign Sign.Exclamation or sign Sign.Less or sign Sign.Greater

-- { "=" | "!" | "<" | ">" }*
unfoldable pub relations : Grammar Token ⊤
relations = making (λ _ _. tt) (any_number relation)

-- "user" | "group"
abbrev pub owner_word : Grammar Token ⊤
owner_word = quoted (codes "user") or quoted (codes "group")

-- WORD | NUMBER
abbrev pub owner_name : Grammar Token ⊤
owner_name = making (λ _ _. tt) number or making (λ _ _. tt) word

-- owner = ( "user" | "group" ) { "=" | "!" | "<" | ">" }* ( WORD | NUMBER )
unfoldable pub owner : Grammar Token Span
owner = making (λ ts _. span_of ts) (preceded owner_word (preceded relations owner_name))

-- rule = action [ "stateful" | "stateful-all" ] [ dir ] [ "final" ] [ "on" iface ] filter [ owner ] [ "apply" STRING ]
unfoldable pub rule : Grammar Token RuleTree
rule =
    making (λ ts a. record { action = a.0; stateful = a.1.0; dir = a.1.1.0; last = a.1.1.1.0; on = a.1.1.1.1.0; filter = a.1.1.1.1.1.0; owner = a.1.1.1.1.1.1.0; apply = a.1.1.1.1.1.1.1; span = span_of ts })
    (action & optional stateful & optional direction & ends_walk & optional on & filter & optional owner & optional (preceded (quoted (codes "apply")) string))

-- item = rule | "ruleset" STRING [ dir ] [ "on" iface ]
unfoldable pub item : Grammar Token ItemTree
item =
    making (λ ts a. ItemTree.Ruleset a.0 a.1.0 a.1.1 (span_of ts)) (preceded (quoted (codes "ruleset")) (name_string & optional direction & optional on))
    or making (λ ts rule. ItemTree.Rule rule (span_of ts)) rule

-- "layer-2"
abbrev pub layer : Grammar Token Span
layer = says (codes "layer-2") (λ span. span)

-- STRING [ dir ] [ "layer-2" ] [ "on" iface ] | "default" [ "layer-2" ]
unfoldable pub head : Grammar Token GroupHead
head =
    making (λ ts layer. GroupHead.Default layer (span_of ts)) (preceded (quoted (codes "default")) (optional layer))
    or making (λ ts a. GroupHead.Named a.0 a.1.0 a.1.1.0 a.1.1.1 (span_of ts)) (string & optional direction & optional layer & optional on)

-- at these an item between braces ends
abbrev pub ends_item : Option Token → Bool
ends_item n = (meaning separator).starts n || (meaning (sign Sign.CloseBrace)).starts n

-- { [ item ] sep }*
unfoldable pub items : Grammar Token (List ItemTree)
items = block_of separator ends_item item
