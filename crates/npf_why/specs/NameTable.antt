-- Among which names a word is looked up for its number, by the tokens before it: behind `port` those of services, behind `proto` of
-- protocols, behind `icmp-type` of the types of the protocol before that word, and behind `code` of the codes of the type before that
-- word. In a definition, whose uses decide, services and protocols.
use Rattle.std.specs.Prelude.{ℕ, ◌==◌, nat_le, if◌then◌else◌, Option, Some, None, List, [], ◌∷◌, ◌++◌, codes, map}
use Rattle.std.specs.Str.{bytes_eq}
use Rattle.npf_lexer.specs.declared.token.Sign.TheVariants.{Equals}
use Rattle.npf_lexer.specs.declared.token.Token.{Token}
use Rattle.npf_lexer.specs.declared.token.TokenKind.{TokenKind}
use Rattle.npf_lexer.specs.declared.token.TokenKind.TheVariants as Kind
use Rattle.npf_names.specs.Icmp.{names_in, types_of}
use Rattle.npf_names.specs.Names.{Names, number_named}
use Rattle.npf_names.specs.Protocol.{protocols}
use Rattle.npf_names.specs.Service.{services}
use Rattle.npf_names.specs.declared.icmp.IcmpNames.{IcmpNames}
use Rattle.npf_names.specs.declared.icmp.IcmpNames.TheVariants.{OfIcmp, OfIcmp6, OfNeither}
use Rattle.npf_names.specs.declared.icmp.IcmpTable.{IcmpTable}
use Rattle.npf_names.specs.declared.icmp.IcmpTable.TheVariants.{Types, Codes}
use Rattle.npf_why.specs.declared.name_table.NameTable.{NameTable}
use Rattle.npf_why.specs.declared.name_table.NameTable.TheVariants.{Unknown, Services, Protocols, Messages}

abbrev pub name_texts : Names → List (List ℕ)
name_texts rows = map (λ row. row.0) rows

abbrev pub names_of_table : NameTable → List (List ℕ)
names_of_table Unknown = name_texts services ++ name_texts protocols
names_of_table Services = name_texts services
names_of_table Protocols = name_texts protocols
names_of_table (Messages table) = name_texts (names_in table)

-- the number of an octet that a token says, by itself or as one of these names
abbrev pub number_said : Names → Option TokenKind → Option ℕ
number_said names (Some (Kind.Word text)) = number_named names text
number_said names (Some (Kind.Number number)) = if nat_le number 255 then Some number else None
number_said names _ = None

-- whose names the messages of a protocol have
abbrev pub names_of_number : Option ℕ → IcmpNames
names_of_number None = OfNeither
names_of_number (Some number) = if number == 1 then OfIcmp else if number == 58 then OfIcmp6 else OfNeither

abbrev pub code_table : IcmpNames → Option ℕ → IcmpTable
code_table names None = Types OfNeither
code_table names (Some kind) = Codes names kind

-- the codes of the type that the token before `code` says
abbrev pub table_at_code : NameTable → Option TokenKind → NameTable
table_at_code (Messages (Types names)) last = Messages (code_table names (number_said (types_of names) last))
table_at_code table last = table

abbrev pub table_behind_word : NameTable → Option TokenKind → List ℕ → NameTable
table_behind_word table last word =
    if bytes_eq word (codes "port") then Services
    else if bytes_eq word (codes "proto") then Protocols
    else if bytes_eq word (codes "icmp-type") then Messages (Types (names_of_number (number_said protocols last)))
    else if bytes_eq word (codes "code") then table_at_code table last else table

-- the table behind a token, by that before it and by the token before it
abbrev pub table_behind : NameTable → Option TokenKind → TokenKind → NameTable
table_behind table last (Kind.Sign Equals) = Unknown
table_behind table last (Kind.Word word) = table_behind_word table last word
table_behind table last _ = table

-- the table behind some tokens
abbrev pub table_from : NameTable → Option TokenKind → List Token → NameTable
table_from table last [] = table
table_from table last (token ∷ tokens) = table_from (table_behind table last token.kind) (Some token.kind) tokens

abbrev pub looked_up : List Token → List (List ℕ)
looked_up before = names_of_table (table_from Unknown None before)
