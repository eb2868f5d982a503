-- The names that statements give: to variables, tables, procedures and named groups.
use Rattle.std.specs.Prelude.{ℕ, Bool, false, ◌||◌, Option, Some, None, List, [], ◌∷◌}
use Rattle.std.specs.List.{flat_map, list_any}
use Rattle.std.specs.Str.{bytes_eq}
use Rattle.std.specs.HashSet.{contains_by}
use Rattle.npf_types.specs.declared.span.Span.{Span}
use Rattle.npf_syntax.specs.declared.group.GroupHead.TheVariants as Head
use Rattle.npf_syntax.specs.declared.stmt.Stmt.{Stmt}
use Rattle.npf_check.specs.declared.name.Given.{Given}
use Rattle.npf_check.specs.declared.name.NameKind.{NameKind}
use Rattle.npf_check.specs.declared.name.NameKind.TheVariants as Names
use Rattle.npf_check.specs.declared.name.Names.{Names as NameSet}

-- a name, and the place of what it is given to
pub record NameAt : Type 0 where
  pub name : List ℕ
  pub span : Span

-- the name that a statement gives to a thing of this kind; the default group has none
abbrev pub name_given : NameKind → Stmt → List NameAt
name_given Names.Variable (Stmt.Define var values span) = record { name = var.name; span = span } ∷ []
name_given Names.Table (Stmt.Table name kind file span) = record { name = name.text; span = span } ∷ []
name_given Names.Procedure (Stmt.Procedure name calls span) = record { name = name.text; span = span } ∷ []
name_given Names.Group (Stmt.Group (Head.Named name dir layer on head) items span) = record { name = name.text; span = span } ∷ []
name_given _ _ = []

-- all names of this kind, in the order of the text
abbrev pub names_given : NameKind → List Stmt → List NameAt
names_given kind stmts = flat_map (name_given kind) stmts

abbrev pub is_among : List ℕ → List NameAt → Bool
is_among text names = list_any (λ given. bytes_eq given.name text) names

-- some statement gives the name to a thing of this kind
abbrev pub is_given : NameKind → List Stmt → List ℕ → Bool
is_given kind stmts text = is_among text (names_given kind stmts)

-- of no text, and of one text beside those that are known
abbrev pub no_text : List ℕ → Bool
no_text text = false

abbrev pub with_text : List ℕ → (List ℕ → Bool) → List ℕ → Bool
with_text name known text = bytes_eq name text || known text

-- the code's answer as a list
abbrev pub as_list : Option Given → List NameAt
as_list None = []
as_list (Some given) = record { name = given.text.now; span = given.span } ∷ []

-- the text is one of the names that the code keeps
abbrev pub holds : NameSet → List ℕ → Bool
holds names text = contains_by (λ kept. bytes_eq text kept.now) names.texts
