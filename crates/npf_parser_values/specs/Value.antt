-- The grammar of npf.conf(5) for values, protocols and lists of them. Where `inside` is true, a value stands inside the
-- braces of a value list, where line feeds may lie behind each of its tokens.
use Rattle.std.specs.Prelude.{nat_le, Bool, true, false, ◌&&◌, Option, Some, None, List, [], codes}
use Rattle.npf_types.specs.Address.{width}
use Rattle.npf_types.specs.NameText.{is_name}
use Rattle.npf_lexer.specs.declared.token.Sign.{Sign}
use Rattle.npf_lexer.specs.declared.token.Token.{Token}
use Rattle.npf_syntax.specs.declared.value.Function.{Function}
use Rattle.npf_syntax.specs.declared.value.IfaceTree.{IfaceTree}
use Rattle.npf_syntax.specs.declared.value.One.{One}
use Rattle.npf_syntax.specs.declared.value.OneList.{OneList}
use Rattle.npf_syntax.specs.declared.filter.Protocols.{Protocols}
use Rattle.npf_syntax.specs.declared.value.Value.{Value}
use Rattle.npf_syntax.specs.declared.value.ValueList.{ValueList}
use Rattle.npf_syntax.specs.declared.value.Values.{Values}
use Rattle.npf_syntax.specs.declared.word.Address.{Address}
use Rattle.npf_syntax.specs.declared.word.Number.{Number}
use Rattle.npf_syntax.specs.declared.word.Word.{Word}
use Rattle.npf_syntax.specs.Reserved.{is_iface_word}
use Rattle.npf_phrase.specs.Grammar.{Grammar, meaning, pure, making, either, fitted, ◌&◌, ◌or◌, optional, preceded, terminated, list_of}
use Rattle.npf_parser_values.specs.declared.role.ValueRole.{ValueRole}
use Rattle.npf_parser_values.specs.Token.{span_of, says, sign, string, word, variable, number, address, number_to, name_word, name_string, spaced}

-- iface = WORD | STRING | VAR
unfoldable pub iface : Grammar Token IfaceTree
iface =
    making (λ ts s. IfaceTree.Str s (span_of ts)) name_string
    or making (λ ts v. IfaceTree.Var v (span_of ts)) variable
    or making (λ ts w. IfaceTree.Word w (span_of ts)) name_word

-- one = WORD | NUMBER | VAR
unfoldable pub one : Grammar Token One
one =
    making (λ ts n. One.Number n (span_of ts)) (number_to 255)
    or making (λ ts v. One.Var v (span_of ts)) variable
    or making (λ ts w. One.Word w (span_of ts)) word

unfoldable pub ones : Grammar Token (List One)
ones = list_of (sign Sign.Comma) one

-- list = "{" one { "," one }* "}"
unfoldable pub one_list : Grammar Token OneList
one_list = making (λ ts ones. record { ones = ones; span = span_of ts }) (preceded (sign Sign.OpenBrace) (terminated ones (sign Sign.CloseBrace)))

-- one | list
unfoldable pub protocols : Grammar Token Protocols
protocols = making (λ ts list. Protocols.List list (span_of ts)) one_list or making (λ ts one. Protocols.One one (span_of ts)) one

-- a number behind a sign, if it stands there
abbrev pub number_behind : Sign → Bool → Grammar Token (Option Number)
number_behind joining inside = optional (preceded (spaced inside (sign joining)) (spaced inside number))

-- a range doesn't run backwards
abbrev pub is_range : Number × Option Number → Bool
is_range (first, None) = true
is_range (first, Some last) = nat_le first.value last.value

-- NUMBER [ "-" NUMBER ]
unfoldable pub number_value : Bool → Grammar Token Value
number_value inside = making (λ ts a. Value.Number a.0 a.1 (span_of ts)) (fitted is_range (spaced inside number & number_behind Sign.Dash inside))

-- a prefix is no longer than addresses of its family
abbrev pub is_prefix : Address × Option Number → Bool
is_prefix (_, None) = true
is_prefix (a, Some len) = nat_le len.value (width a.addr)

-- ADDRESS [ "/" NUMBER ]
unfoldable pub address_value : Bool → Grammar Token Value
address_value inside = making (λ ts a. Value.Address a.0 a.1 (span_of ts)) (fitted is_prefix (spaced inside address & number_behind Sign.Slash inside))

-- "<" WORD ">"
unfoldable pub table_value : Bool → Grammar Token Value
table_value inside =
    making (λ ts name. Value.Table name (span_of ts))
    (fitted (λ name. is_name name.text) (preceded (spaced inside (sign Sign.Less)) (terminated (spaced inside word) (spaced inside (sign Sign.Greater)))))

-- "inet4" | "inet6" | "ifaddrs"
unfoldable pub function : Grammar Token Function
function = says (codes "inet4") Function.Inet4 or says (codes "inet6") Function.Inet6 or says (codes "ifaddrs") Function.IfAddrs

-- a function's name as a word
abbrev pub word_of : Function → Word
word_of (Function.Inet4 span) = record { text = codes "inet4"; span = span }
word_of (Function.Inet6 span) = record { text = codes "inet6"; span = span }
word_of (Function.IfAddrs span) = record { text = codes "ifaddrs"; span = span }

-- without a parenthesis such a word is an ordinary one
abbrev pub called : List Token → Function × Option IfaceTree → Value
called ts (function, Some iface) = Value.Function function iface (span_of ts)
called ts (function, None) = Value.Word (word_of function) (span_of ts)

-- "(" iface ")"
abbrev pub argument : Bool → Grammar Token IfaceTree
argument inside = preceded (spaced inside (sign Sign.OpenParen)) (terminated (spaced inside iface) (spaced inside (sign Sign.CloseParen)))

-- ( "inet4" | "inet6" | "ifaddrs" ) "(" iface ")"
unfoldable pub function_value : Bool → Grammar Token Value
function_value inside = making called (spaced inside function & optional (argument inside))

abbrev pub word_value : Bool → Grammar Token Value
word_value inside = function_value inside or making (λ ts w. Value.Word w (span_of ts)) (spaced inside word)

abbrev pub variable_value : Bool → Grammar Token Value
variable_value inside = making (λ ts v. Value.Var v (span_of ts)) (spaced inside variable)

abbrev pub string_value : Bool → Grammar Token Value
string_value inside = making (λ ts s. Value.Str s (span_of ts)) (spaced inside string)

-- a value as it is written
unfoldable pub written : Bool → Grammar Token Value
written inside =
    number_value inside or address_value inside or word_value inside or variable_value inside or string_value inside or table_value inside

abbrev pub is_port : Number → Bool
is_port n = nat_le n.value 65535

abbrev pub is_port_end : Option Number → Bool
is_port_end (Some last) = is_port last
is_port_end None = true

-- What a value may be in its place. In the definition of a variable it may be any; as an address it is an address, a
-- table, a function, an interface's name or a variable; as a port it is a port, a range of ports, a service's word or a variable.
abbrev pub can_stand : ValueRole → Value → Bool
can_stand ValueRole.Any _ = true
can_stand ValueRole.Address (Value.Address _ _ _) = true
can_stand ValueRole.Address (Value.Table _ _) = true
can_stand ValueRole.Address (Value.Function _ _ _) = true
can_stand ValueRole.Address (Value.Word word _) = is_iface_word word.text
can_stand ValueRole.Address (Value.Str string _) = is_name string.text
can_stand ValueRole.Address (Value.Var _ _) = true
can_stand ValueRole.Port (Value.Number first last _) = is_port first && is_port_end last
can_stand ValueRole.Port (Value.Word _ _) = true
can_stand ValueRole.Port (Value.Var _ _) = true
can_stand _ _ = false

-- a value in its place
unfoldable pub value : ValueRole → Bool → Grammar Token Value
value role inside = fitted (can_stand role) (written inside)

unfoldable pub listed_values : ValueRole → Grammar Token (List Value)
listed_values role = list_of (spaced true (sign Sign.Comma)) (value role true)

abbrev pub values_inside : ValueRole → Grammar Token (List Value)
values_inside role = either (meaning (sign Sign.CloseBrace)).starts (pure []) (listed_values role)

-- vlist = "{" [ value { "," value }* ] "}"
unfoldable pub value_list : ValueRole → Grammar Token ValueList
value_list role =
    making (λ ts values. record { values = values; span = span_of ts })
    (preceded (spaced true (sign Sign.OpenBrace)) (terminated (values_inside role) (sign Sign.CloseBrace)))

-- value | vlist
unfoldable pub values : ValueRole → Grammar Token Values
values role = making (λ ts list. Values.List list (span_of ts)) (value_list role) or making (λ ts v. Values.One v (span_of ts)) (value role false)
