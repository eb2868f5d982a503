-- The grammar of npf.conf(5) for what maps are made of.
use Rattle.std.specs.Prelude.{false, Option, codes}
use Rattle.npf_types.specs.declared.span.Span.{Span}
use Rattle.npf_lexer.specs.declared.token.Sign.{Sign}
use Rattle.npf_lexer.specs.declared.token.Token.{Token}
use Rattle.npf_syntax.specs.declared.map.ArrowTree.{ArrowTree}
use Rattle.npf_syntax.specs.declared.map.MapKind.{MapKind}
use Rattle.npf_syntax.specs.declared.map.SideTree.{SideTree}
use Rattle.npf_syntax.specs.declared.word.{Str.Str, Word.Word}
use Rattle.npf_phrase.specs.Grammar.{Grammar, making, ◌&◌, ◌or◌, optional, preceded, terminated}
use Rattle.npf_parser_values.specs.declared.role.ValueRole.{ValueRole}
use Rattle.npf_parser_values.specs.Token.{span_of, quoted, says, sign, string, word}
use Rattle.npf_parser_values.specs.Value.{value}
use Rattle.npf_parser.specs.Rule.{direction, on}

-- "no-ports"
abbrev pub no_ports : Grammar Token Span
no_ports = says (codes "no-ports") (λ span. span)

-- [ "algo" WORD ] [ "no-ports" ]
unfoldable pub kind_details : Grammar Token (Option Word × Option Span)
kind_details = optional (preceded (quoted (codes "algo")) word) & optional no_ports

-- kind = ( "dynamic" | "static" ) [ "algo" WORD ] [ "no-ports" ]
unfoldable pub map_kind : Grammar Token MapKind
map_kind =
    making (λ ts a. MapKind.Dynamic a.0 a.1 (span_of ts)) (preceded (quoted (codes "dynamic")) kind_details)
    or making (λ ts a. MapKind.Static a.0 a.1 (span_of ts)) (preceded (quoted (codes "static")) kind_details)

-- "->" | "<-" | "<->"
unfoldable pub arrow : Grammar Token ArrowTree
arrow =
    making (λ ts _. ArrowTree.Right (span_of ts)) (sign Sign.Right)
    or making (λ ts _. ArrowTree.Left (span_of ts)) (sign Sign.Left)
    or making (λ ts _. ArrowTree.Both (span_of ts)) (sign Sign.Both)

-- side = value [ "port" value ]
unfoldable pub side : Grammar Token SideTree
side = making (λ ts a. record { value = a.0; port = a.1; span = span_of ts }) (value ValueRole.Address false & optional (preceded (quoted (codes "port")) (value ValueRole.Port false)))

-- STRING [ dir ] [ "on" iface ]
unfoldable pub map_ruleset : Grammar Token Str
map_ruleset = terminated string (optional direction & optional on)
