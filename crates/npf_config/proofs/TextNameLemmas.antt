-- The name of a table's file is text.
use Rattle.std.{proofs.Common.{◌≡◌, Option, Some, None, List, [], ◌∷◌, ◌++◌, All, codes, refl, sym, ap, subst, ◌∙◌}, specs.Bool.⊤}
use Rattle.std.{specs.{Option.{IfSome, option_map}, List.flat_map, Str.IsUtf8}, proofs.lemmas.List.Elements.{All-append, All-cons, All-nil}}
use Rattle.std.proofs.lemmas.Str.{IsUtf8-from_is_utf8}
use Rattle.npf_lexer.specs.declared.token.Token.{Token}
use Rattle.npf_types.specs.declared.span.Span.{Span}
use Rattle.npf_syntax.specs.declared.{stmt.{Stmt.Stmt, Tree.Tree}, value.IfaceTree.IfaceTree, word.Str.Str}
use Rattle.npf_phrase.specs.{Phrase.are_items, Grammar.{Grammar, meaning, making, ◌or◌, optional, preceded, unless, those_there}}
use Rattle.npf_phrase.proofs.ReadingLemmas.{by_choice}
use Rattle.npf_parser.specs.{Parse.Parses, Stmt.{MapRest, define, set, alg, table, no_translation, translation, map_rest, map, group, procedure, stmt, stmts, ends_stmt, file}}
use Rattle.npf_parser_values.specs.Token.{quoted, separator, span_of, text_string}
use Rattle.npf_expand.specs.Table.{tables_of}
use Rattle.npf_config.specs.Tables.{HasTextName}

-- the names of the statement's tables are text
abbrev HasTextNames : Stmt → Type 0
HasTextNames s = All HasTextName (tables_of s)

-- so they are of each statement that the grammar means
abbrev MeansText : Grammar Token Stmt → Type 0
MeansText g = (ts : List Token) (s : Stmt) (n : Option Token) → (meaning g).Is ts s n → HasTextNames s

either_text : (g h : Grammar Token Stmt) → MeansText g → MeansText h → MeansText (g or h)
either_text g h one other ts s n = by_choice _ ((meaning g).Is ts s n) ((meaning h).Is ts s n) (HasTextNames s) (one ts s n) (other ts s n)

-- a statement of another form has no tables
no_tables : (s other : Stmt) → s ≡ other → tables_of other ≡ [] → HasTextNames s
no_tables s other same none = subst (λ (decls : List _). All HasTextName decls) (sym (ap tables_of same)) (subst (All HasTextName) (sym none) (All-nil HasTextName))

abbrev IsText : Option Str → Type 0
IsText string = IfSome (option_map (λ (s : Str). s.text) string) IsUtf8

file_text : (word : List _) (ts : List Token) (string : Option Str) (n : Option Token) → (meaning (optional (preceded (quoted word) text_string))).Is ts string n → IsText string
file_text word ts string n =
    by_choice _ ((s : Str) × (meaning (preceded (quoted word) text_string)).Is ts s n × (string ≡ Some s)) ((ts ≡ []) × (string ≡ None)) (IsText string)
    (λ is. subst IsText (sym is.2) (subst (λ (s : Str). IsUtf8 s.text) (sym is.1.2) (IsUtf8-from_is_utf8 is.1.0.1.text is.1.1.second.1)))
    (λ none. subst IsText (sym none.1) tt)

set_text : MeansText set
unfolding set
set_text ts s n is = no_tables s _ is.2 refl

alg_text : MeansText alg
unfolding alg
alg_text ts s n is = no_tables s _ is.2 refl

-- what stands behind a map's interface makes no table of it
rest_tables : (ts : List Token) (rest : MapRest) (n : Option Token) → (meaning map_rest).Is ts rest n → (iface : IfaceTree) (span : Span) → tables_of (rest iface span) ≡ []
unfolding map_rest translation
rest_tables ts rest n =
    by_choice _ ((meaning no_translation).Is ts rest n) ((meaning translation).Is ts rest n) ((iface : IfaceTree) (span : Span) → tables_of (rest iface span) ≡ [])
    (λ is iface span. ap (λ (r : MapRest). tables_of (r iface span)) is.2) (λ is iface span. ap (λ (r : MapRest). tables_of (r iface span)) is.2)

map_text : MeansText map
unfolding map
map_text ts s n is =
    let parts = is.1.1.second in
    no_tables s _ is.2 (
    ap (λ (a : IfaceTree × MapRest). tables_of (a.1 a.0 (span_of ts))) is.1.2 ∙ rest_tables parts.other is.1.0.1.1 n parts.second is.1.0.1.0 (span_of ts)
    )

group_text : MeansText group
unfolding group
group_text ts s n is = no_tables s _ is.2 refl

procedure_text : MeansText procedure
unfolding procedure
procedure_text ts s n is = no_tables s _ is.2 refl

define_text : MeansText define
unfolding define
define_text ts s n is = no_tables s _ is.2 refl

-- a table's file is the last part of its statement
table_text : MeansText table
unfolding table
table_text ts s n is =
    let typed = is.1.1.second in
    let parts = typed.1.second in
    let named : IsText typed.0.1.1.1 = file_text (codes "file") parts.second.other typed.0.1.1.1 n parts.second.second in
    let text : IsText is.0.1.1 = subst IsText (sym (ap (λ x. x.1.1) (is.1.2 ∙ typed.2))) named in
    subst HasTextNames (sym is.2) (All-cons HasTextName _ [] text (All-nil HasTextName))

stmt_text : MeansText stmt
unfolding stmt
stmt_text =
    either_text set (alg or table or map or group or procedure or define) set_text
    (either_text alg (table or map or group or procedure or define) alg_text
    (either_text table (map or group or procedure or define) table_text
    (either_text map (group or procedure or define) map_text
    (either_text group (procedure or define) group_text
    (either_text procedure define procedure_text define_text)))))

-- what stands between two separators: a statement, or nothing
abbrev entry : Grammar Token (Option Stmt)
entry = unless ends_stmt stmt

abbrev HasTextEntry : Option Stmt → Type 0
HasTextEntry None = ⊤
HasTextEntry (Some s) = HasTextNames s

entry_text : (ts : List Token) (o : Option Stmt) (n : Option Token) → (meaning entry).Is ts o n → HasTextEntry o
entry_text ts o n =
    by_choice _ ((ts ≡ []) × (o ≡ None)) ((s : Stmt) × (meaning stmt).Is ts s n × (o ≡ Some s)) (HasTextEntry o)
    (λ none. subst HasTextEntry (sym none.1) tt) (λ is. subst HasTextEntry (sym is.2) (stmt_text ts is.0 n is.1))

abbrev HaveText : List (Option Stmt) → Type 0
HaveText [] = ⊤
HaveText (o ∷ entries) = HasTextEntry o × HaveText entries

entries_text : (entries : List (Option Stmt)) (ts : List Token) (n : Option Token) → are_items (meaning (preceded separator entry)) ts entries n → HaveText entries
entries_text [] ts n is = tt
entries_text (o ∷ entries) ts n (one, other, parts, begins, is, onward) =
    (subst HasTextEntry (sym is.2) (entry_text is.1.other is.0.1 _ is.1.second), entries_text entries other n onward)

there_text : (entries : List (Option Stmt)) → HaveText entries → All HasTextName (flat_map tables_of (those_there entries))
there_text [] have = All-nil HasTextName
there_text (Some s ∷ entries) (first, have) = All-append HasTextName (tables_of s) (flat_map tables_of (those_there entries)) first (there_text entries have)
there_text (None ∷ entries) (first, have) = there_text entries have

stmts_text : (ts : List Token) (list : List Stmt) (n : Option Token) → (meaning stmts).Is ts list n → All HasTextName (flat_map tables_of list)
unfolding stmts
stmts_text ts list n is =
    let behind = is.1.1 in
    let have : HaveText is.0 = subst HaveText (sym is.1.2) (entry_text behind.one is.1.0.0 _ behind.first, entries_text is.1.0.1 behind.other n behind.second) in
    subst (λ (list : List Stmt). All HasTextName (flat_map tables_of list)) (sym is.2) (there_text is.0 have)

pub tree_text : {tokens : List Token} (tree : Tree) → Parses tokens tree → All HasTextName (flat_map tables_of tree.stmts)
unfolding file
tree_text tree parses =
    let is = parses.1.is in
    subst (λ (t : Tree). All HasTextName (flat_map tables_of t.stmts)) (sym is.2) (stmts_text is.1.one is.0.0 _ is.1.first)
