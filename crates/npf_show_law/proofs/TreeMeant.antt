-- What the tree of an accepted text means is showable and regular.
use Rattle.std.proofs.Common.{◌≡◌, ◌≤◌, ℕ, zero, suc, ◌+◌, Bool, true, false, not, cond, IfSome, List, [], ◌∷◌, ◌++◌, length, flat_map}
use Rattle.std.{proofs.{Common.{filter, sum_by, slice_get, refl, sym, ap, ap₂, subst, ◌∙◌, arith}, lemmas.List.Sums.sum_by-append}, specs.List.All}
use Rattle.npf_types.specs.{declared.limits.TheConstants.{MAX_LIST_ELEMENTS, MAX_TABLES, MAX_PROCEDURES}, Name.name_bytes, NameText.is_name}
use Rattle.npf_shelf.proofs.ListLemmas.{nil_from_append_left, nil_from_append_right}
use Rattle.npf_faults.specs.declared.fault.Excess.TheVariants as Of
use Rattle.npf_syntax.specs.declared.{group.GroupHead.GroupHead, stmt.{Stmt.Stmt, Tree.Tree}}
use Rattle.npf_model.specs.declared.{ends.AddrItem.TheVariants.InTable, group.Group.Group, iface.Iface.Iface, map.Map.Map, model.Model.Model}
use Rattle.npf_model.specs.declared.{procedure.Procedure.Procedure, table.TableDecl.TableDecl}
use Rattle.npf_check.specs.{Limit.past_faults, Undefined.{is_table_in, tables_of_stmt, procedures_of_stmt}}
use Rattle.npf_expand_values.specs.{Atom.Env, Declarations.{Declared, declared_in, table_name, table_names, table_number, procedure_names}}
use Rattle.npf_expand_values.specs.{Variable.{Definition, env_of}, Source.declared_of}
use Rattle.npf_expand.specs.Elaborates.{behind, default_group, gathered, maps_of, model_of, named_group, procedures_of, stmt_elements, stmt_faults, stmts_faults, tree_faults}
use Rattle.npf_expand.specs.Table.{tables_of}
use Rattle.npf_show.specs.{Ends.name_of_table, Rule.name_of_procedure}
use Rattle.npf_show_tokens.specs.Showable.{IsPlain, FitsAddr, IsShowable, IsShowableItem, IsShowableGroup, IsShowableMap, IsShowableProcedure, IsShowableTable}
use Rattle.npf_show_tokens.specs.Tokens.{is_run_word}
use Rattle.npf_show_meaning.specs.Regular.{IsOfText, IsRegular, IsRegularItem, IsRegularDecl, IsRegularGroup, IsRegularMap, entry_elements, pass_elements, is_default}
use Rattle.npf_show_law.proofs.{Gives.Every, Sound.IsSoundStmt, Atoms.{AreCleanDefinitions, env_sound, every_both, every_listed}}
use Rattle.npf_show_law.proofs.StmtMeant.{IsCleanStmt, IsGoodGroup, IsGoodMap, every_left, tables_meant, procedures_meant, named_meant, default_meant, maps_meant}
use Rattle.npf_show_law.proofs.NameMeant.{is_listed, number_named, among_listed, by_form, tables_named, procedures_named, few_tables, few_procedures}
use Rattle.npf_show_law.proofs.{ElementMeant.elements_few, SettingsMeant.{settings_regular, settings_showable}}

-- the name of a procedure that is there, or of none
plain_at : (xs : List Procedure) (place : ℕ) → Every (λ p. IsShowableProcedure p × IfSome p.log IsOfText) xs → IsPlain (name_of_procedure (slice_get xs place))
plain_at [] place every = refl
plain_at (x ∷ xs) zero every = every.0.0.name
plain_at (x ∷ xs) (suc place) every = plain_at xs place every.1

tables_listed : (stmts : List Stmt) (text : List ℕ) → is_table_in stmts text ≡ is_listed (table_names stmts) text
tables_listed stmts text =
    among_listed _ table_name text (by_form _ (λ a b c. refl) (λ a b c. refl) (λ a b. refl) (λ a b c e. refl) (λ a b c e f g h i. refl) (λ a b. refl) (λ a b c. refl) (λ a b c. refl)) stmts

-- the default groups stand last
abbrev is_named : Group → Bool
is_named group = not (is_default group)

none_named : (ys : List Group) → Every (λ g. is_default g ≡ true) ys → filter is_named ys ≡ []
none_named [] every = refl
none_named (y ∷ ys) every = ap (λ b. cond (not b) (y ∷ filter is_named ys) (filter is_named ys)) every.0 ∙ none_named ys every.1

all_default : (ys : List Group) → Every (λ g. is_default g ≡ true) ys → filter is_default ys ≡ ys
all_default [] every = refl
all_default (y ∷ ys) every = ap (λ b. cond b (y ∷ filter is_default ys) (filter is_default ys)) every.0 ∙ ap (λ l. y ∷ l) (all_default ys every.1)

named_first : (xs ys : List Group) → Every (λ g. is_default g ≡ false) xs → Every (λ g. is_default g ≡ true) ys → filter is_named (xs ++ ys) ≡ xs
named_first [] ys one other = none_named ys other
named_first (x ∷ xs) ys one other = ap (λ b. cond (not b) (x ∷ filter is_named (xs ++ ys)) (filter is_named (xs ++ ys))) one.0 ∙ ap (λ l. x ∷ l) (named_first xs ys one.1 other)

default_last : (xs ys : List Group) → Every (λ g. is_default g ≡ false) xs → Every (λ g. is_default g ≡ true) ys → filter is_default (xs ++ ys) ≡ ys
default_last [] ys one other = all_default ys other
default_last (x ∷ xs) ys one other = ap (λ b. cond b (x ∷ filter is_default (xs ++ ys)) (filter is_default (xs ++ ys))) one.0 ∙ default_last xs ys one.1 other

module _ (ifaces : List Iface) (declared : Declared) where
  plainly : {X : Type 0} (P : X → Type 0) (give : Env → Stmt → List X) → ((env : Env) (stmt : Stmt) → Every P (give env stmt)) →
      (older : List Definition) (stmts : List Stmt) → Every P (gathered ifaces declared give older stmts)
  plainly P give each older [] = tt
  plainly P give each older (stmt ∷ stmts) =
      every_both P (give (env_of ifaces older) stmt) (gathered ifaces declared give (behind older stmt) stmts) (each (env_of ifaces older) stmt) (plainly P give each (behind older stmt) stmts)

  named_only : (env : Env) (stmt : Stmt) → Every (λ g. is_default g ≡ false) (named_group ifaces declared env stmt)
  named_only env (Stmt.Group (GroupHead.Named name dir layer on head) items span) = (refl, tt)
  named_only env (Stmt.Group (GroupHead.Default layer head) items span) = tt
  named_only env (Stmt.Define var values span) = tt
  named_only env (Stmt.Set name value span) = tt
  named_only env (Stmt.Alg name span) = tt
  named_only env (Stmt.MapRuleset iface span) = tt
  named_only env (Stmt.Table name kind file span) = tt
  named_only env (Stmt.Map iface kind proto left arrow right pass span) = tt
  named_only env (Stmt.Procedure name calls span) = tt

  default_only : (env : Env) (stmt : Stmt) → Every (λ g. is_default g ≡ true) (default_group ifaces declared env stmt)
  default_only env (Stmt.Group (GroupHead.Named name dir layer on head) items span) = tt
  default_only env (Stmt.Group (GroupHead.Default layer head) items span) = (refl, tt)
  default_only env (Stmt.Define var values span) = tt
  default_only env (Stmt.Set name value span) = tt
  default_only env (Stmt.Alg name span) = tt
  default_only env (Stmt.MapRuleset iface span) = tt
  default_only env (Stmt.Table name kind file span) = tt
  default_only env (Stmt.Map iface kind proto left arrow right pass span) = tt
  default_only env (Stmt.Procedure name calls span) = tt

module _ (ifaces : List Iface) (fit : All (λ i. All FitsAddr i.addrs) ifaces) (declared : Declared) (d p : List ℕ → Bool) where
  clean_behind : (older : List Definition) (counted : ℕ) (stmt : Stmt) → AreCleanDefinitions ifaces fit d older →
      IsCleanStmt ifaces declared d p (env_of ifaces older) counted stmt → AreCleanDefinitions ifaces fit d (behind older stmt)
  clean_behind older counted (Stmt.Define var values span) clean is = ((is.sound, is.clean, is.tables), clean)
  clean_behind older counted (Stmt.Set name value span) clean is = clean
  clean_behind older counted (Stmt.Alg name span) clean is = clean
  clean_behind older counted (Stmt.MapRuleset iface span) clean is = clean
  clean_behind older counted (Stmt.Table name kind file span) clean is = clean
  clean_behind older counted (Stmt.Map iface kind proto left arrow right pass span) clean is = clean
  clean_behind older counted (Stmt.Group head items span) clean is = clean
  clean_behind older counted (Stmt.Procedure name calls span) clean is = clean

  gathered_every : {X : Type 0} (P : X → Type 0) (give : Env → Stmt → List X)
      → ((older : List Definition) → AreCleanDefinitions ifaces fit d older → (counted : ℕ) (stmt : Stmt) →
      IsCleanStmt ifaces declared d p (env_of ifaces older) counted stmt → Every P (give (env_of ifaces older) stmt))
      → (older : List Definition) (counted : ℕ) (stmts : List Stmt) → AreCleanDefinitions ifaces fit d older → Every IsSoundStmt stmts
      → stmts_faults ifaces declared older counted stmts ≡ [] → flat_map (tables_of_stmt d) stmts ≡ [] →
      flat_map (procedures_of_stmt p) stmts ≡ [] → Every P (gathered ifaces declared give older stmts)
  gathered_every P give gives older counted [] clean every none defined applied = tt
  gathered_every P give gives older counted (stmt ∷ stmts) clean every none defined applied =
      let env = env_of ifaces older in
      let here = stmt_faults ifaces declared env counted stmt in
      let next = counted + stmt_elements ifaces declared env stmt in
      let rest = stmts_faults ifaces declared (behind older stmt) next stmts in
      let is : IsCleanStmt ifaces declared d p env counted stmt = record {
        sound = every.0;
        clean = nil_from_append_left here rest none;
        tables = nil_from_append_left (tables_of_stmt d stmt) (flat_map (tables_of_stmt d) stmts) defined;
        procedures = nil_from_append_left (procedures_of_stmt p stmt) (flat_map (procedures_of_stmt p) stmts) applied;
      } in
      every_both P (give env stmt) (gathered ifaces declared give (behind older stmt) stmts) (gives older clean counted stmt is)
      (gathered_every P give gives (behind older stmt) next stmts (clean_behind older counted stmt clean is) every.1 (nil_from_append_right here rest none)
      (nil_from_append_right (tables_of_stmt d stmt) (flat_map (tables_of_stmt d) stmts) defined) (nil_from_append_right (procedures_of_stmt p stmt) (flat_map (procedures_of_stmt p) stmts) applied))

module _ (ifaces : List Iface) (fit : All (λ i. All FitsAddr i.addrs) ifaces) (tree : Tree) (every : Every IsSoundStmt tree.stmts) (p : List ℕ →
    Bool) (p_listed : (text : List ℕ) → p text ≡ is_listed (procedure_names tree.stmts) text) where
  abbrev model : Model
  model = model_of tree ifaces

  table_at : (name : List ℕ) → length (table_names tree.stmts) ≤ 64 → is_table_in tree.stmts name ≡ true → name_of_table (slice_get model.tables (table_number (table_names tree.stmts) name)) ≡ name
  table_at name few is =
      let same = tables_named tree.stmts every in
      let listed : is_listed (table_names tree.stmts) name ≡ true = sym (tables_listed tree.stmts name) ∙ is in
      let at = number_named (λ (t : TableDecl). name_bytes t.name) name_of_table (λ t. refl) model.tables name
      (subst (λ names. is_listed names name ≡ true) (sym same) listed) (subst (λ names. length names ≤ 64) (sym same) few) in
      subst (λ names. name_of_table (slice_get model.tables (table_number names name)) ≡ name) same at

  table_meant : length (table_names tree.stmts) ≤ 64 → (name : List ℕ) → is_run_word name ≡ true → is_name name ≡ true → is_table_in tree.stmts name ≡ true
      → IsShowableItem model (InTable (table_number (table_names tree.stmts) name)) × IsRegularItem model (InTable (table_number (table_names tree.stmts) name))
  table_meant few name run named is =
      let at = table_at name few is in (
        subst (λ text. is_run_word text ≡ true) (sym at) run,
        record { name = subst (λ text. is_name text ≡ true) (sym at) named; place = ap₂ table_number (tables_named tree.stmts every) at },
      )

  procedure_at : (name : List ℕ) → length (procedure_names tree.stmts) ≤ 64 → p name ≡ true → name_of_procedure (slice_get model.procedures (table_number (procedure_names tree.stmts) name)) ≡ name
  procedure_at name few is =
      let same = procedures_named tree.stmts in
      let listed : is_listed (procedure_names tree.stmts) name ≡ true = sym (p_listed name) ∙ is in
      let at = number_named (λ (q : Procedure). q.name) name_of_procedure (λ q. refl) model.procedures name
      (subst (λ names. is_listed names name ≡ true) (sym same) listed) (subst (λ names. length names ≤ 64) (sym same) few) in
      subst (λ names. name_of_procedure (slice_get model.procedures (table_number names name)) ≡ name) same at

  procedures_good : Every (λ q. IsShowableProcedure q × IfSome q.log IsOfText) model.procedures
  procedures_good = every_listed IsSoundStmt (λ q. IsShowableProcedure q × IfSome q.log IsOfText) procedures_of procedures_meant tree.stmts every

  procedure_meant : length (procedure_names tree.stmts) ≤ 64 → (name : List ℕ) → p name ≡ true
      → IsPlain (name_of_procedure (slice_get model.procedures (table_number (procedure_names tree.stmts) name)))
      × (table_number (declared_of model).procedures (name_of_procedure (slice_get model.procedures (table_number (procedure_names tree.stmts) name))) ≡ table_number (procedure_names tree.stmts) name)
  procedure_meant few name is = (plain_at model.procedures (table_number (procedure_names tree.stmts) name) procedures_good, ap₂ table_number (procedures_named tree.stmts) (procedure_at name few is))

  pub tree_meant : tree_faults tree ifaces ≡ [] → flat_map (tables_of_stmt (is_table_in tree.stmts)) tree.stmts ≡ [] → flat_map (procedures_of_stmt p) tree.stmts ≡ []
      → past_faults Of.Tables MAX_TABLES tree.stmts ≡ [] → past_faults Of.Procedures MAX_PROCEDURES tree.stmts ≡ [] → IsShowable model × IsRegular ifaces model
  tree_meant none defined applied tables_within procedures_within =
      let declared = declared_in tree.stmts in
      let d = is_table_in tree.stmts in
      let numbered = table_meant (few_tables tree.stmts tables_within) in
      let named_at = procedure_meant (few_procedures tree.stmts procedures_within) in
      let maps = every_left (IsShowableMap model) (IsRegularMap ifaces model) model.maps
      (gathered_every ifaces fit declared d p (IsGoodMap ifaces model) (maps_of ifaces declared)
      (λ older clean counted stmt is. maps_meant ifaces fit d (env_of ifaces older)
      (env_sound ifaces fit d older clean) model declared p numbered named_at counted stmt is) [] 0 tree.stmts tt every none defined applied) in
      let named = gathered_every ifaces fit declared d p (IsGoodGroup ifaces model) (named_group ifaces declared)
      (λ older clean counted stmt is. named_meant ifaces fit d (env_of ifaces older)
      (env_sound ifaces fit d older clean) model declared p numbered named_at counted stmt is) [] 0 tree.stmts tt every none defined applied in
      let default = gathered_every ifaces fit declared d p (IsGoodGroup ifaces model) (default_group ifaces declared)
      (λ older clean counted stmt is. default_meant ifaces fit d (env_of ifaces older)
      (env_sound ifaces fit d older clean) model declared p numbered named_at counted stmt is) [] 0 tree.stmts tt every none defined applied in
      let named_groups = gathered ifaces declared (named_group ifaces declared) [] tree.stmts in
      let default_groups = gathered ifaces declared (default_group ifaces declared) [] tree.stmts in
      let groups = every_left (IsShowableGroup model) (IsRegularGroup ifaces model) model.groups (every_both (IsGoodGroup ifaces model) named_groups default_groups named default) in
      let tables = every_left IsShowableTable IsRegularDecl model.tables (every_listed IsSoundStmt (λ t. IsShowableTable t × IsRegularDecl t) tables_of tables_meant tree.stmts every) in
      let procedures = every_left IsShowableProcedure (λ q. IfSome q.log IsOfText) model.procedures procedures_good in
      let of_named = plainly ifaces declared (λ g. is_default g ≡ false) (named_group ifaces declared) (named_only ifaces declared) [] tree.stmts in
      let of_default = plainly ifaces declared (λ g. is_default g ≡ true) (default_group ifaces declared) (default_only ifaces declared) [] tree.stmts in
      let few : 0 + (sum_by (λ (m : Map). pass_elements m.filter) model.maps + sum_by (λ (group : Group). sum_by entry_elements group.items) named_groups + sum_by
      (λ (group : Group). sum_by entry_elements group.items) default_groups) ≤ MAX_LIST_ELEMENTS =
      elements_few ifaces declared [] 0 tree.stmts (omega arith) none in
      let sum = sum_by-append (λ (group : Group). sum_by entry_elements group.items) named_groups default_groups in
      let all : sum_by (λ (m : Map). pass_elements m.filter) model.maps + sum_by (λ (group : Group). sum_by entry_elements group.items) (named_groups ++ default_groups) ≤ MAX_LIST_ELEMENTS =
      omega (arith, few, sum) in (
        record { settings = settings_showable tree.stmts; tables = tables.0; maps = maps.0; procedures = procedures.0; groups = groups.0 },
        record {
          settings = settings_regular tree.stmts;
          tables = tables.1;
          maps = maps.1;
          procedures = procedures.1;
          groups = groups.1;
          order = sym (ap₂ (λ x y. x ++ y) (named_first named_groups default_groups of_named of_default) (default_last named_groups default_groups of_named of_default));
          elements = all;
        },
      )
