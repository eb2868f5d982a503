-- The statement of a table.
use Rattle.std.proofs.Common.{◌≡◌, ℕ, true, is_some, Option, Some, None, IfSome, option_map, List, [], ◌∷◌, ◌++◌, codes, refl, sym, ap, subst, ◌∙◌}
use Rattle.std.specs.Str.{is_utf8}
use Rattle.npf_types.specs.{declared.span.Span.Span, Name.name_bytes, Named.named, NameText.is_name}
use Rattle.npf_lexer.specs.declared.token.Sign.TheVariants as Signs
use Rattle.npf_lexer.specs.declared.token.TokenKind.{TokenKind}
use Rattle.npf_lexer.specs.declared.token.TokenKind.TheVariants as Kind
use Rattle.npf_syntax.specs.declared.{stmt.{Stmt.Stmt, TableType.TableType}, word.{Str.Str, Word.Word}}
use Rattle.npf_model.specs.declared.{iface.Iface.Iface, model.Model.Model, table.Kind.{Kind as TableKind, TheVariants.{Ipset, Lpm, Const}}}
use Rattle.npf_model.specs.declared.table.TableDecl.{TableDecl}
use Rattle.npf_phrase.specs.Grammar.{optional, preceded, terminated}
use Rattle.npf_parser_values.specs.Token.{word, text_string, quoted, span_of}
use Rattle.npf_parser.specs.Stmt.{table_type, dynamic, table}
use Rattle.npf_expand.specs.Table.{kind_of_type}
use Rattle.npf_show.specs.{Ends.angled, Piece.{Piece, glued, spaced, optional_pieces}, Table.{kind_pieces, file_pieces}}
use Rattle.npf_show.specs.Piece as Pieces
use Rattle.npf_show_meaning.specs.Regular.{IsRegularDecl}
use Rattle.npf_show_meaning.proofs.Goes.{Goes, Anything, token_goes, make, turn, keep, fit, pick_first, pick_second, said, signed, before, absent, present, it_is, says_goes}
use Rattle.npf_show_meaning.proofs.{Lists.{onto, onto_both}, Blocks.feed, RuleOf.string_goes, Parts.{OfTable, SaysPartOf}}

abbrev pub IsWord : List ℕ → Word → Type 0
IsWord text w = w.text ≡ text

pub any_word_goes : (text : List ℕ) (ks : List TokenKind) → Goes word (IsWord text) (Kind.Word text ∷ ks) ks
any_word_goes text ks = token_goes _ _ (IsWord text) (Kind.Word text) ks (λ s. record { text = text; span = s }) (λ s. refl) (λ s. refl)

kind_goes : (kind : TableKind) (ks : List TokenKind) → Goes table_type (λ k. kind_of_type k ≡ kind) (onto (kind_pieces kind) ks) ks
unfolding table_type
kind_goes Ipset ks = pick_first (it_is (λ s. refl)) (says_goes (codes "ipset") TableType.IpSet (λ k. kind_of_type k ≡ Ipset) ks (λ s. refl))
kind_goes Lpm ks = pick_second (it_is (λ s. refl)) (pick_first (it_is (λ s. refl)) (says_goes (codes "lpm") TableType.Lpm (λ k. kind_of_type k ≡ Lpm) ks (λ s. refl)))
kind_goes Const ks =
    pick_second (it_is (λ s. refl)) (pick_second (it_is (λ s. refl)) (pick_first (it_is (λ s. refl)) (says_goes (codes "const") TableType.Const (λ k. kind_of_type k ≡ Const) ks (λ s. refl))))

abbrev IsFile : Option (List ℕ) → Option Str → Type 0
IsFile file o = option_map (λ s. s.text) o ≡ file

file_goes : (file : Option (List ℕ)) → IfSome file (λ file. is_utf8 file ≡ true) → (ks : List TokenKind)
    → Goes (optional (preceded (quoted (codes "file")) text_string)) (IsFile file) (onto (optional_pieces file_pieces file) (feed ∷ ks)) (feed ∷ ks)
file_goes None is ks = absent {g = preceded (quoted (codes "file")) text_string} (it_is (λ s. refl)) refl
file_goes (Some file) is ks =
    present {g = preceded (quoted (codes "file")) text_string} {P = IsFile (Some file)} (it_is (λ s. refl))
    (said (keep (λ s same. ap Some same) (fit (λ s same. ap is_utf8 same ∙ is) (string_goes file (feed ∷ ks)))))

-- no `dynamic` is shown
undynamic : (file : Option (List ℕ)) (ks : List TokenKind) → Goes dynamic Anything (onto (optional_pieces file_pieces file) (feed ∷ ks)) (onto (optional_pieces file_pieces file) (feed ∷ ks))
undynamic None ks = make (λ ts a is. tt) (absent {g = quoted (codes "dynamic")} {P = Anything} (it_is (λ s. refl)) tt)
undynamic (Some file) ks = make (λ ts a is. tt) (absent {g = quoted (codes "dynamic")} {P = Anything} (it_is (λ s. refl)) tt)

kind_alone : (kind : TableKind) (file : Option (List ℕ)) (ks : List TokenKind) → let to = onto (optional_pieces file_pieces file) (feed ∷ ks) in
    Goes (terminated table_type dynamic) (λ k. kind_of_type k ≡ kind) (onto (kind_pieces kind) to) to
kind_alone kind file ks =
    make {P = λ a. (kind_of_type a.0 ≡ kind) × Unit {0}} (λ ts a is. is.0) (turn (kind_goes kind (onto (optional_pieces file_pieces file) (feed ∷ ks))) (undynamic file ks))

same_presence : (o : Option Str) → is_some (option_map (λ s. s.text) o) ≡ is_some (option_map (λ s. s.span) o)
same_presence None = refl
same_presence (Some s) = refl

module _ (ifaces : List Iface) (model : Model) where
  says_table : (t : TableDecl) → IsRegularDecl t → (w : Word) (k : TableType) (o : Option Str) (span : Span) → IsWord (name_bytes t.name) w → kind_of_type k ≡ t.kind → IsFile t.file o
      → SaysPartOf ifaces model (OfTable t) (Stmt.Table w k o span)
  says_table t is w k o span name kind file = record {
    plain = λ older. refl;
    faults = λ counted few. refl;
    count = refl;
    named = refl;
    default = refl;
    maps = refl;
    tables = (
      record {
        name = sym is.name ∙ ap named (sym name);
        kind = sym kind;
        file = sym file;
        file_span = is.span ∙ ap is_some (sym file) ∙ same_presence o;
      },
      tt,
    );
    procedures = refl;
    table_names = ap (λ text. text ∷ []) name;
    procedure_names = refl;
    settings = refl;
    algs = refl;
  }

  -- the line of a table but for its end
  abbrev pub table_within : TableDecl → List Piece
  table_within t =
      glued (Pieces.Word (codes "table")) ++ angled (name_bytes t.name) ++ spaced (Pieces.Word (codes "type")) ++ kind_pieces t.kind ++ optional_pieces file_pieces t.file

  pub table_stmt_goes : (t : TableDecl) → IsRegularDecl t → (ks : List TokenKind) → Goes table (SaysPartOf ifaces model (OfTable t)) (onto (table_within t) (feed ∷ ks)) (feed ∷ ks)
  unfolding table
  table_stmt_goes t is ks =
      let to = feed ∷ ks in
      let name = name_bytes t.name in
      let kind = kind_pieces t.kind in
      let file = optional_pieces file_pieces t.file in
      subst (λ from. Goes table (SaysPartOf ifaces model (OfTable t)) (Kind.Word (codes "table") ∷ Kind.Sign Signs.Less ∷
      Kind.Word name ∷ Kind.Sign Signs.Greater ∷ Kind.Word (codes "type") ∷ from) to) (sym (onto_both kind file to))
      (make {P = λ a. IsWord name a.0 × ((kind_of_type a.1.0 ≡ t.kind) × IsFile t.file a.1.1)} (λ ts a q. says_table t is a.0 a.1.0 a.1.1 (span_of ts) q.0 q.1.0 q.1.1)
      (said (signed (turn (before (fit (λ w same. ap is_name same ∙ t.name.named) (any_word_goes name (Kind.Sign Signs.Greater ∷ Kind.Word (codes "type") ∷ onto kind (onto file to)))))
      (turn (said (kind_alone t.kind t.file ks)) (file_goes t.file is.file ks))))))
