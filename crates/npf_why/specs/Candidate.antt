-- What may stand in a configuration, one token for each kind: each word, name of an option and sign of the grammar, and of what has many
-- spellings an example or two.
use Rattle.std.specs.Prelude.{◌==◌, ◌++◌, Bool, true, false, List, [], ◌∷◌, codes}
use Rattle.std.specs.List.{list_all, list_any}
use Rattle.std.specs.Str.{bytes_eq}
use Rattle.npf_types.specs.declared.address.Addr.TheVariants.{V4}
use Rattle.npf_lexer.specs.Sign.{sign_text}
use Rattle.npf_lexer.specs.declared.token.Sign.{Sign}
use Rattle.npf_lexer.specs.declared.token.Token.{Token}
use Rattle.npf_lexer.specs.declared.token.TokenKind.{TokenKind}
use Rattle.npf_lexer.specs.declared.token.TokenKind.TheVariants as Kind
use Rattle.npf_phrase.specs.Grammar.{Grammar, token, pure, both, making, either, any_number, fitted}
use Rattle.npf_why.specs.declared.candidate.Candidate.{Candidate}
use Rattle.npf_why.specs.declared.candidate.Candidate.TheVariants as One

-- the token that is tried
abbrev pub candidate_kind : Candidate → TokenKind
candidate_kind (One.Word text) = Kind.Word text.now
candidate_kind (One.Str text) = Kind.Str text.now
candidate_kind (One.Sign sign) = Kind.Sign sign
candidate_kind (One.Number number) = Kind.Number number
candidate_kind One.Variable = Kind.Var (codes "a")
candidate_kind One.Address = Kind.Address (V4 0)
candidate_kind One.Separator = Kind.LineFeed
candidate_kind One.End = Kind.End

-- an example of each token that the grammar speaks of
abbrev pub examples : {T A : Type 0} → Grammar T A → List T
examples (token test example) = example ∷ []
examples (pure a) = []
examples (both g h) = examples g ++ examples h
examples (making f g) = examples g
examples (either test g h) = examples g ++ examples h
examples (any_number g) = examples g
examples (fitted fits g) = examples g

abbrev pub same_kind : TokenKind → TokenKind → Bool
same_kind Kind.LineFeed Kind.LineFeed = true
same_kind Kind.Semicolon Kind.Semicolon = true
same_kind (Kind.Str text) (Kind.Str other) = bytes_eq text other
same_kind (Kind.Var name) (Kind.Var other) = bytes_eq name other
same_kind (Kind.Sign sign) (Kind.Sign other) = bytes_eq (sign_text sign) (sign_text other)
same_kind (Kind.Number number) (Kind.Number other) = number == other
same_kind (Kind.Address _) (Kind.Address _) = true
same_kind (Kind.Word text) (Kind.Word other) = bytes_eq text other
same_kind Kind.End Kind.End = true
same_kind _ _ = false

-- each of these tokens is among those kinds
abbrev pub lists_all : List Token → List TokenKind → Bool
lists_all tokens kinds = list_all (λ t. list_any (same_kind t.kind) kinds) tokens

-- the candidates, in the order in which they are told
unfoldable pub candidate_kinds : List TokenKind
candidate_kinds =
    Kind.Word (codes "set")
    ∷ Kind.Word (codes "alg")
    ∷ Kind.Word (codes "table")
    ∷ Kind.Word (codes "map")
    ∷ Kind.Word (codes "group")
    ∷ Kind.Word (codes "procedure")
    ∷ Kind.Word (codes "type")
    ∷ Kind.Word (codes "ipset")
    ∷ Kind.Word (codes "lpm")
    ∷ Kind.Word (codes "const")
    ∷ Kind.Word (codes "file")
    ∷ Kind.Word (codes "dynamic")
    ∷ Kind.Word (codes "static")
    ∷ Kind.Word (codes "algo")
    ∷ Kind.Word (codes "default")
    ∷ Kind.Word (codes "ruleset")
    ∷ Kind.Word (codes "block")
    ∷ Kind.Word (codes "return")
    ∷ Kind.Word (codes "return-rst")
    ∷ Kind.Word (codes "return-icmp")
    ∷ Kind.Word (codes "pass")
    ∷ Kind.Word (codes "stateful")
    ∷ Kind.Word (codes "stateful-all")
    ∷ Kind.Word (codes "in")
    ∷ Kind.Word (codes "out")
    ∷ Kind.Word (codes "final")
    ∷ Kind.Word (codes "on")
    ∷ Kind.Word (codes "family")
    ∷ Kind.Word (codes "proto")
    ∷ Kind.Word (codes "flags")
    ∷ Kind.Word (codes "icmp-type")
    ∷ Kind.Word (codes "code")
    ∷ Kind.Word (codes "all")
    ∷ Kind.Word (codes "from")
    ∷ Kind.Word (codes "to")
    ∷ Kind.Word (codes "any")
    ∷ Kind.Word (codes "port")
    ∷ Kind.Word (codes "inet4")
    ∷ Kind.Word (codes "inet6")
    ∷ Kind.Word (codes "ifaddrs")
    ∷ Kind.Word (codes "apply")
    ∷ Kind.Word (codes "log")
    ∷ Kind.Word (codes "normalize")
    ∷ Kind.Str (codes "min-ttl")
    ∷ Kind.Str (codes "max-mss")
    ∷ Kind.Str (codes "no-df")
    ∷ Kind.Sign Sign.OpenBrace
    ∷ Kind.Sign Sign.CloseBrace
    ∷ Kind.Sign Sign.OpenParen
    ∷ Kind.Sign Sign.CloseParen
    ∷ Kind.Sign Sign.Comma
    ∷ Kind.Sign Sign.Slash
    ∷ Kind.Sign Sign.Dash
    ∷ Kind.Sign Sign.Colon
    ∷ Kind.Sign Sign.Equals
    ∷ Kind.Sign Sign.Exclamation
    ∷ Kind.Sign Sign.Less
    ∷ Kind.Sign Sign.Greater
    ∷ Kind.Sign Sign.Right
    ∷ Kind.Sign Sign.Left
    ∷ Kind.Sign Sign.Both
    ∷ Kind.Str (codes "a")
    ∷ Kind.Str []
    ∷ Kind.Var (codes "a")
    ∷ Kind.Address (V4 0)
    ∷ Kind.Word (codes "a")
    ∷ Kind.Word (codes "S")
    ∷ Kind.Number 0
    ∷ Kind.Number 32
    ∷ Kind.Number 128
    ∷ Kind.Number 255
    ∷ Kind.Number 65535
    ∷ Kind.Number 4294967295
    ∷ Kind.LineFeed
    ∷ Kind.End
    ∷ Kind.Word (codes "hash")
    ∷ Kind.Word (codes "tree")
    ∷ Kind.Word (codes "cdb")
    ∷ Kind.Word (codes "inet")
    ∷ Kind.Word (codes "normalise")
    ∷ Kind.Word (codes "no-ports")
    ∷ Kind.Word (codes "layer-2")
    ∷ Kind.Word (codes "user")
    ∷ Kind.Word (codes "pcap-filter")
    ∷ Kind.Word (codes "route")
    ∷ Kind.Str (codes "random-id")
    ∷ []
