-- What the tree of a canonical text means.
use Rattle.std.proofs.Common.{◌≡◌, ◌≤◌, ℕ, ◌+◌, ◌==◌, Bool, true, false, not, if◌then◌else◌, cond, List, [], ◌∷◌, ◌++◌, map, flat_map, codes}
use Rattle.std.proofs.{Common.{filter, sum_by, refl, sym, ap, ap₂, subst, ◌∙◌, arith, append-nil}, lemmas.{Bool.Decides.nat_tests, Grind.flat_map-append, List.Concat.flat_map_single}}
use Rattle.std.{proofs.lemmas.List.Sums.{sum_by-append, sum_by-cons}, specs.{List.list_any, Str.bytes_eq}}
use Rattle.npf_types.specs.{declared.limits.TheConstants.MAX_LIST_ELEMENTS, Name.name_bytes}
use Rattle.npf_syntax.specs.declared.stmt.{Stmt.Stmt, Tree.Tree}
use Rattle.npf_model.specs.declared.{group.Group.Group, iface.Iface.Iface, map.Map.Map, model.Model.Model, procedure.Procedure.Procedure}
use Rattle.npf_model.specs.declared.{settings.{Choice.Choice, Parameter.Parameter, Settings.Settings}, table.TableDecl.TableDecl}
use Rattle.npf_timeouts.specs.{declared.timeouts.Timeout.TheVariants.TcpNew, Timeouts.timeout_of}
use Rattle.npf_model.specs.declared.settings.{PortBound.TheVariants.{Least, Greatest}, Switch.TheVariants.{StrictRst, KeyInterface}}
use Rattle.npf_model.specs.Settings.{choice_in, default_settings, parameters, set_in, with_settings}
use Rattle.npf_expand_values.specs.{Atom.Env, Declarations.{declared_in, table_name, table_names, procedure_name, procedure_names}, Source.declared_of}
use Rattle.npf_expand.specs.Elaborates.{gathered, stmt_elements, stmt_faults, stmts_faults, tree_faults, model_of, named_group, default_group, maps_of, procedures_of}
use Rattle.npf_expand.{specs.{Settings.{algs_in, asks_icmp, settings_in, settings_of}, Table.tables_of}, proofs.SettingsLemmas.settings_both}
use Rattle.npf_show.specs.Setting.{changed_setting, has_same_value, shown_settings}
use Rattle.npf_show_meaning.{specs.{Law.{AreSameTables, SameButSpans}, Regular.{is_default, entry_elements, pass_elements, model_elements}}, proofs.Lists.Each}
use Rattle.npf_show_meaning.proofs.Says.{nameless}
use Rattle.npf_show_meaning.proofs.Parts.{Part, OfSet, OfAlg, OfTable, OfMap, OfProcedure, OfGroup, sets_in, gateways_in, tables_in, maps_in, procedures_in, named_in, default_in, part_elements}
use Rattle.npf_show_meaning.proofs.FileOf.{alg_parts, declared_flat, declared_parts, parts_of, setting_parts, settings_flat, IsPartOf}

every_none : {A X : Type 0} (f : A → List X) → ((a : A) → f a ≡ []) → (xs : List A) → flat_map f xs ≡ []
every_none f none [] = refl
every_none f none (x ∷ xs) = ap₂ (λ a b. a ++ b) (none x) (every_none f none xs)

flat_same : {A : Type 0} (xs : List A) → flat_map (λ x. x ∷ []) xs ≡ xs
flat_same [] = refl
flat_same (x ∷ xs) = ap (λ l. x ∷ l) (flat_same xs)

alg_none : {X : Type 0} (f : Part → List X) → f OfAlg ≡ [] → (is_asked : Bool) → flat_map f (alg_parts is_asked) ≡ []
alg_none f none true = ap (λ x. x ++ []) none
alg_none f none false = refl

-- what is gathered of settings and gateways alone
settings_alone : {X : Type 0} (f : Part → List X) (model : Model) → ((t : TableDecl) → f (OfTable t) ≡ []) → ((m : Map) → f (OfMap m) ≡ [])
    → ((p : Procedure) → f (OfProcedure p) ≡ []) → ((g : Group) → f (OfGroup g) ≡ []) → flat_map f (parts_of model) ≡ flat_map f (setting_parts model)
settings_alone f model t m p g =
    flat_map-append f (setting_parts model) (declared_parts model)
    ∙ ap (λ x. flat_map f (setting_parts model) ++ x)
    (declared_flat f model
    ∙ ap₂ (λ x y. x ++ y)
    (ap₂ (λ x y. x ++ y) (ap₂ (λ x y. x ++ y) (every_none (λ t. f (OfTable t)) t model.tables) (every_none (λ m. f (OfMap m)) m model.maps)) (every_none (λ p. f (OfProcedure p)) p model.procedures))
    (every_none (λ g. f (OfGroup g)) g model.groups))
    ∙ append-nil (flat_map f (setting_parts model))

-- what is gathered of tables alone, of maps, of procedures, of groups
module _ {X : Type 0} (f : Part → List X) (model : Model) (set : (choice : Choice) → f (OfSet choice) ≡ []) (alg : f OfAlg ≡ []) where
  parts_flat : flat_map f (parts_of model)
      ≡ flat_map (λ t. f (OfTable t)) model.tables ++ flat_map (λ m. f (OfMap m)) model.maps ++ flat_map (λ p. f (OfProcedure p)) model.procedures ++ flat_map (λ g. f (OfGroup g)) model.groups
  parts_flat =
      flat_map-append f (setting_parts model) (declared_parts model)
      ∙ ap (λ x. x ++ flat_map f (declared_parts model))
      (settings_flat f model ∙ ap₂ (λ x y. x ++ y) (every_none (λ choice. f (OfSet choice)) set (shown_settings model.settings)) (alg_none f alg model.alg_icmp))
      ∙ declared_flat f model

  from_tables : ((m : Map) → f (OfMap m) ≡ []) → ((p : Procedure) → f (OfProcedure p) ≡ []) → ((g : Group) → f (OfGroup g) ≡ []) →
      flat_map f (parts_of model) ≡ flat_map (λ t. f (OfTable t)) model.tables
  from_tables m p g =
      parts_flat
      ∙ ap (λ x. flat_map (λ t. f (OfTable t)) model.tables ++ x ++ flat_map (λ p. f (OfProcedure p)) model.procedures ++
      flat_map (λ g. f (OfGroup g)) model.groups) (every_none (λ m. f (OfMap m)) m model.maps)
      ∙ ap (λ x. flat_map (λ t. f (OfTable t)) model.tables ++ [] ++ x ++ flat_map (λ g. f (OfGroup g)) model.groups) (every_none (λ p. f (OfProcedure p)) p model.procedures)
      ∙ ap (λ x. flat_map (λ t. f (OfTable t)) model.tables ++ [] ++ [] ++ x) (every_none (λ g. f (OfGroup g)) g model.groups)
      ∙ append-nil _ ∙ append-nil _ ∙ append-nil _

  from_maps : ((t : TableDecl) → f (OfTable t) ≡ []) → ((p : Procedure) → f (OfProcedure p) ≡ []) →
      ((g : Group) → f (OfGroup g) ≡ []) → flat_map f (parts_of model) ≡ flat_map (λ m. f (OfMap m)) model.maps
  from_maps t p g =
      parts_flat
      ∙ ap (λ x. x ++ flat_map (λ m. f (OfMap m)) model.maps ++ flat_map (λ p. f (OfProcedure p)) model.procedures ++
      flat_map (λ g. f (OfGroup g)) model.groups) (every_none (λ t. f (OfTable t)) t model.tables)
      ∙ ap (λ x. flat_map (λ m. f (OfMap m)) model.maps ++ x ++ flat_map (λ g. f (OfGroup g)) model.groups) (every_none (λ p. f (OfProcedure p)) p model.procedures)
      ∙ ap (λ x. flat_map (λ m. f (OfMap m)) model.maps ++ [] ++ x) (every_none (λ g. f (OfGroup g)) g model.groups)
      ∙ append-nil _ ∙ append-nil _

  from_procedures : ((t : TableDecl) → f (OfTable t) ≡ []) → ((m : Map) → f (OfMap m) ≡ []) → ((g : Group) → f (OfGroup g) ≡ []) →
      flat_map f (parts_of model) ≡ flat_map (λ p. f (OfProcedure p)) model.procedures
  from_procedures t m g =
      parts_flat
      ∙ ap (λ x. x ++ flat_map (λ m. f (OfMap m)) model.maps ++ flat_map (λ p. f (OfProcedure p)) model.procedures ++
      flat_map (λ g. f (OfGroup g)) model.groups) (every_none (λ t. f (OfTable t)) t model.tables)
      ∙ ap (λ x. x ++ flat_map (λ p. f (OfProcedure p)) model.procedures ++ flat_map (λ g. f (OfGroup g)) model.groups) (every_none (λ m. f (OfMap m)) m model.maps)
      ∙ ap (λ x. flat_map (λ p. f (OfProcedure p)) model.procedures ++ x) (every_none (λ g. f (OfGroup g)) g model.groups)
      ∙ append-nil _

  from_groups : ((t : TableDecl) → f (OfTable t) ≡ []) → ((m : Map) → f (OfMap m) ≡ []) → ((p : Procedure) → f (OfProcedure p) ≡ []) →
      flat_map f (parts_of model) ≡ flat_map (λ g. f (OfGroup g)) model.groups
  from_groups t m p =
      parts_flat
      ∙ ap (λ x. x ++ flat_map (λ m. f (OfMap m)) model.maps ++ flat_map (λ p. f (OfProcedure p)) model.procedures ++
      flat_map (λ g. f (OfGroup g)) model.groups) (every_none (λ t. f (OfTable t)) t model.tables)
      ∙ ap (λ x. x ++ flat_map (λ p. f (OfProcedure p)) model.procedures ++ flat_map (λ g. f (OfGroup g)) model.groups) (every_none (λ m. f (OfMap m)) m model.maps)
      ∙ ap (λ x. x ++ flat_map (λ g. f (OfGroup g)) model.groups) (every_none (λ p. f (OfProcedure p)) p model.procedures)

-- how many elements all parts have
sum_none : {A : Type 0} (xs : List A) → sum_by (λ _. 0) xs ≡ 0
sum_none [] = refl
sum_none (x ∷ xs) = sum_by-cons (λ _. 0) x xs ∙ ap (λ n. 0 + n) (sum_none xs)

sum_mapped : {A B : Type 0} (f : B → ℕ) (g : A → B) (xs : List A) → sum_by f (map g xs) ≡ sum_by (λ x. f (g x)) xs
sum_mapped f g [] = refl
sum_mapped f g (x ∷ xs) = sum_by-cons f (g x) (map g xs) ∙ ap (λ n. f (g x) + n) (sum_mapped f g xs) ∙ sym (sum_by-cons (λ x. f (g x)) x xs)

alg_elements : (is_asked : Bool) → sum_by part_elements (alg_parts is_asked) ≡ 0
alg_elements true = refl
alg_elements false = refl

parts_elements : (model : Model) → sum_by part_elements (parts_of model) ≡ model_elements model
parts_elements model =
    let s = map OfSet (shown_settings model.settings) in
    let a = alg_parts model.alg_icmp in
    let t = map OfTable model.tables in
    let m = map OfMap model.maps in
    let p = map OfProcedure model.procedures in
    let g = map OfGroup model.groups in
    let e5 = sum_by-append part_elements (setting_parts model) (declared_parts model) in
    let e4 = sum_by-append part_elements s a in
    let none_s : sum_by part_elements s ≡ 0 = sum_mapped part_elements OfSet (shown_settings model.settings) ∙ sum_none (shown_settings model.settings) in
    let none_a = alg_elements model.alg_icmp in
    let e3 = sum_by-append part_elements (t ++ m ++ p) g in
    let e2 = sum_by-append part_elements (t ++ m) p in
    let e1 = sum_by-append part_elements t m in
    let none_t : sum_by part_elements t ≡ 0 = sum_mapped part_elements OfTable model.tables ∙ sum_none model.tables in
    let none_p : sum_by part_elements p ≡ 0 = sum_mapped part_elements OfProcedure model.procedures ∙ sum_none model.procedures in
    let all_m : sum_by part_elements m ≡ sum_by (λ m. pass_elements m.filter) model.maps = sum_mapped part_elements OfMap model.maps in
    let all_g : sum_by part_elements g ≡ sum_by (λ g. sum_by entry_elements g.items) model.groups = sum_mapped part_elements OfGroup model.groups in
    omega (arith, e5, e4, none_s, none_a, e3, e2, e1, none_t, none_p, all_m, all_g)

-- named groups and default groups
named_filter : (groups : List Group) → flat_map (λ g. named_in (OfGroup g)) groups ≡ filter (λ g. not (is_default g)) groups
named_filter [] = refl
named_filter (g ∷ groups) = by g.default (named_filter groups) where
  by : {xs ys : List Group} (b : Bool) → xs ≡ ys → ((if b then [] else g ∷ []) ++ xs) ≡ cond (not b) (g ∷ ys) ys
  by true same = same
  by false same = ap (λ l. g ∷ l) same

default_filter : (groups : List Group) → flat_map (λ g. default_in (OfGroup g)) groups ≡ filter is_default groups
default_filter [] = refl
default_filter (g ∷ groups) = by g.default (default_filter groups) where
  by : {xs ys : List Group} (b : Bool) → xs ≡ ys → ((if b then g ∷ [] else []) ++ xs) ≡ cond b (g ∷ ys) ys
  by true same = ap (λ l. g ∷ l) same
  by false same = same

-- settings, and the gateway
-- a parameter set to what it has
set_same : (settings : Settings) (parameter : Parameter) → set_in (choice_in settings parameter) settings ≡ settings
set_same settings (Parameter.Switch StrictRst) = refl
set_same settings (Parameter.Port Least) = refl
set_same settings (Parameter.Timeout TcpNew) = refl
set_same settings _ = refl

same_switch : (a b : Bool) → (if a then b else not b) ≡ true → a ≡ b
same_switch true true is = refl
same_switch false false is = refl
same_switch true false is = cc
same_switch false true is = cc

same_number : (a b : ℕ) → (a == b) ≡ true → a ≡ b
same_number a b is = grind (arith, nat_tests)

same_choice : (one other : Settings) (parameter : Parameter) → has_same_value (choice_in one parameter) (choice_in other parameter) ≡ true → choice_in one parameter ≡ choice_in other parameter
same_choice one other (Parameter.Switch StrictRst) is = ap (Choice.Switch StrictRst) (same_switch one.strict_rst other.strict_rst is)
same_choice one other (Parameter.Switch KeyInterface) is = ap (Choice.Switch KeyInterface) (same_switch one.key_interface other.key_interface is)
same_choice one other (Parameter.Port Least) is = ap (Choice.Port Least) (same_number one.min_port other.min_port is)
same_choice one other (Parameter.Port Greatest) is = ap (Choice.Port Greatest) (same_number one.max_port other.max_port is)
same_choice one other (Parameter.Timeout timeout) is =
    ap (Choice.Timeout timeout) (same_number (timeout_of one.timeouts timeout) (timeout_of other.timeouts timeout) is)

module _ (target : Settings) where
  -- where a parameter is as without a statement, what is shown of it sets it as the target has it
  restores : (settings : Settings) (parameter : Parameter) → choice_in settings parameter ≡ choice_in default_settings parameter
      → with_settings settings (changed_setting target parameter) ≡ set_in (choice_in target parameter) settings
  restores settings parameter is = by (has_same_value (choice_in target parameter) (choice_in default_settings parameter)) refl where
    by : (same : Bool) → has_same_value (choice_in target parameter) (choice_in default_settings parameter) ≡ same
        → with_settings settings (if same then [] else choice_in target parameter ∷ []) ≡ set_in (choice_in target parameter) settings
    by true same = sym (ap (λ c. set_in c settings) (same_choice target default_settings parameter same ∙ sym is) ∙ set_same settings parameter)
    by false same = refl

  abbrev all_set : Settings → List Parameter → Settings
  all_set settings [] = settings
  all_set settings (parameter ∷ among) = all_set (set_in (choice_in target parameter) settings) among

  -- each is as without a statement until it is set
  abbrev AreUnset : Settings → List Parameter → Type 0
  AreUnset settings [] = Unit {0}
  AreUnset settings (parameter ∷ among) =
      (choice_in settings parameter ≡ choice_in default_settings parameter) × AreUnset (set_in (choice_in target parameter) settings) among

  restores_all : (settings : Settings) (among : List Parameter) → AreUnset settings among → with_settings settings (flat_map (changed_setting target) among) ≡ all_set settings among
  restores_all settings [] unset = refl
  restores_all settings (parameter ∷ among) unset =
      settings_both settings (changed_setting target parameter) (flat_map (changed_setting target) among)
      ∙ ap (λ s. with_settings s (flat_map (changed_setting target) among)) (restores settings parameter unset.0)
      ∙ restores_all (set_in (choice_in target parameter) settings) among unset.1

settings_restored : (settings : Settings) → with_settings default_settings (shown_settings settings) ≡ settings
settings_restored settings =
    restores_all settings default_settings parameters (refl, (refl, (refl, (refl, (refl, (refl, (refl, (refl, (refl, (refl, (refl, tt)))))))))))

alg_restored : (is_asked : Bool) → list_any (bytes_eq (codes "icmp")) (flat_map gateways_in (alg_parts is_asked)) ≡ is_asked
alg_restored true = refl
alg_restored false = refl

same_both : (a b c d : List TableDecl) → AreSameTables a b → AreSameTables c d → AreSameTables (a ++ c) (b ++ d)
same_both [] [] c d ab cd = cd
same_both (x ∷ a) (y ∷ b) c d ab cd = (ab.0, same_both a b c d ab.1 cd)
same_both [] (y ∷ b) c d ab cd = absurd ab
same_both (x ∷ a) [] c d ab cd = absurd ab

module _ (ifaces : List Iface) (model : Model) where
  abbrev Says : Stmt → Part → Type 0
  Says = IsPartOf ifaces model

  each_flat : {X : Type 0} (f : Stmt → List X) (h : Part → List X) → ((stmt : Stmt) (part : Part) → Says stmt part → f stmt ≡ h part)
      → (stmts : List Stmt) (parts : List Part) → Each Says stmts parts → flat_map f stmts ≡ flat_map h parts
  each_flat f h same [] [] each = refl
  each_flat f h same (stmt ∷ stmts) (part ∷ parts) (is, each) = ap₂ (λ x y. x ++ y) (same stmt part is) (each_flat f h same stmts parts each)
  each_flat f h same [] (part ∷ parts) each = absurd each
  each_flat f h same (stmt ∷ stmts) [] each = absurd each

  each_gathered : {X : Type 0} (f : Env → Stmt → List X) (h : Part → List X) → ((stmt : Stmt) (part : Part) → Says stmt part → f (nameless ifaces) stmt ≡ h part)
      → (stmts : List Stmt) (parts : List Part) → Each Says stmts parts → gathered ifaces (declared_of model) f [] stmts ≡ flat_map h parts
  each_gathered f h same [] [] each = refl
  each_gathered f h same (stmt ∷ stmts) (part ∷ parts) (is, each) =
      ap (λ older. f (nameless ifaces) stmt ++ gathered ifaces (declared_of model) f older stmts) (is.plain []) ∙ ap₂ (λ x y. x ++ y) (same stmt part is) (each_gathered f h same stmts parts each)
  each_gathered f h same [] (part ∷ parts) each = absurd each
  each_gathered f h same (stmt ∷ stmts) [] each = absurd each

  each_clean : (stmts : List Stmt) (parts : List Part) → Each Says stmts parts → (counted : ℕ) → counted + sum_by part_elements parts ≤ MAX_LIST_ELEMENTS
      → stmts_faults ifaces (declared_of model) [] counted stmts ≡ []
  each_clean [] [] each counted few = refl
  each_clean (stmt ∷ stmts) (part ∷ parts) (is, each) counted few =
      let sum = sum_by-cons part_elements part parts in
      let first : counted + part_elements part ≤ MAX_LIST_ELEMENTS = omega (arith, few, sum) in
      let count = is.count in
      let onward : counted + stmt_elements ifaces (declared_of model) (nameless ifaces) stmt + sum_by part_elements parts ≤ MAX_LIST_ELEMENTS = omega (arith, few, sum, count) in
      ap (λ older. stmt_faults ifaces (declared_of model) (nameless ifaces) counted stmt ++
      stmts_faults ifaces (declared_of model) older (counted + stmt_elements ifaces (declared_of model) (nameless ifaces) stmt) stmts) (is.plain [])
      ∙ ap₂ (λ x y. x ++ y) (is.faults counted first) (each_clean stmts parts each (counted + stmt_elements ifaces (declared_of model) (nameless ifaces) stmt) onward)
  each_clean [] (part ∷ parts) each counted few = absurd each
  each_clean (stmt ∷ stmts) [] each counted few = absurd each

  each_same : (stmts : List Stmt) (parts : List Part) → Each Says stmts parts → AreSameTables (flat_map tables_in parts) (flat_map tables_of stmts)
  each_same [] [] each = tt
  each_same (stmt ∷ stmts) (part ∷ parts) (is, each) = same_both (tables_in part) (tables_of stmt) (flat_map tables_in parts) (flat_map tables_of stmts) is.tables (each_same stmts parts each)
  each_same [] (part ∷ parts) each = absurd each
  each_same (stmt ∷ stmts) [] each = absurd each

  abbrev names_in : Part → List (List ℕ)
  names_in part = map (λ table. name_bytes table.name) (tables_in part)

  abbrev procedure_names_in : Part → List (List ℕ)
  procedure_names_in part = map (λ procedure. procedure.name) (procedures_in part)

  module _ (tree : Tree) (each : Each Says tree.stmts (parts_of model)) where
    tables_named : table_names tree.stmts ≡ (declared_of model).tables
    tables_named =
        each_flat table_name names_in (λ stmt part is. is.table_names) tree.stmts (parts_of model) each
        ∙ from_tables names_in model (λ _. refl) refl (λ _. refl) (λ _. refl) (λ _. refl) ∙ flat_map_single (λ t. name_bytes t.name) model.tables

    procedures_named : procedure_names tree.stmts ≡ (declared_of model).procedures
    procedures_named =
        each_flat procedure_name procedure_names_in (λ stmt part is. is.procedure_names) tree.stmts (parts_of model) each
        ∙ from_procedures procedure_names_in model (λ _. refl) refl (λ _. refl) (λ _. refl) (λ _. refl) ∙ flat_map_single (λ p. p.name) model.procedures

    declared_same : declared_in tree.stmts ≡ declared_of model
    declared_same = ap₂ (λ t p. record { tables = t; procedures = p }) tables_named procedures_named

    pub clean_again : model_elements model ≤ MAX_LIST_ELEMENTS → tree_faults tree ifaces ≡ []
    clean_again few =
        let sum = parts_elements model in
        ap (λ declared. stmts_faults ifaces declared [] 0 tree.stmts) declared_same ∙ each_clean tree.stmts (parts_of model) each 0 (omega (arith, few, sum))

    named_again : gathered ifaces (declared_of model) (named_group ifaces (declared_of model)) [] tree.stmts ≡ filter (λ g. not (is_default g)) model.groups
    named_again =
        each_gathered (named_group ifaces (declared_of model)) named_in (λ stmt part is. is.named) tree.stmts (parts_of model) each
        ∙ from_groups named_in model (λ _. refl) refl (λ _. refl) (λ _. refl) (λ _. refl) ∙ named_filter model.groups

    default_again : gathered ifaces (declared_of model) (default_group ifaces (declared_of model)) [] tree.stmts ≡ filter is_default model.groups
    default_again =
        each_gathered (default_group ifaces (declared_of model)) default_in (λ stmt part is. is.default) tree.stmts (parts_of model) each
        ∙ from_groups default_in model (λ _. refl) refl (λ _. refl) (λ _. refl) (λ _. refl) ∙ default_filter model.groups

    maps_again : gathered ifaces (declared_of model) (maps_of ifaces (declared_of model)) [] tree.stmts ≡ model.maps
    maps_again =
        each_gathered (maps_of ifaces (declared_of model)) maps_in (λ stmt part is. is.maps) tree.stmts (parts_of model) each
        ∙ from_maps maps_in model (λ _. refl) refl (λ _. refl) (λ _. refl) (λ _. refl) ∙ flat_same model.maps

    procedures_again : flat_map procedures_of tree.stmts ≡ model.procedures
    procedures_again =
        each_flat procedures_of procedures_in (λ stmt part is. is.procedures) tree.stmts (parts_of model) each
        ∙ from_procedures procedures_in model (λ _. refl) refl (λ _. refl) (λ _. refl) (λ _. refl) ∙ flat_same model.procedures

    tables_again : AreSameTables model.tables (flat_map tables_of tree.stmts)
    tables_again =
        subst (λ tables. AreSameTables tables (flat_map tables_of tree.stmts)) (from_tables tables_in model (λ _. refl) refl (λ _. refl) (λ _. refl) (λ _. refl) ∙ flat_same model.tables)
        (each_same tree.stmts (parts_of model) each)

    settings_again : settings_of tree.stmts ≡ model.settings
    settings_again =
        ap (with_settings default_settings)
        (each_flat settings_in sets_in (λ stmt part is. is.settings) tree.stmts (parts_of model) each
        ∙ settings_alone sets_in model (λ _. refl) (λ _. refl) (λ _. refl) (λ _. refl) ∙ settings_flat sets_in model
        ∙ ap₂ (λ x y. x ++ y) (flat_same (shown_settings model.settings)) (alg_none sets_in refl model.alg_icmp) ∙ append-nil (shown_settings model.settings))
        ∙ settings_restored model.settings

    alg_again : asks_icmp tree.stmts ≡ model.alg_icmp
    alg_again =
        ap (list_any (bytes_eq (codes "icmp")))
        (each_flat algs_in gateways_in (λ stmt part is. is.algs) tree.stmts (parts_of model) each
        ∙ settings_alone gateways_in model (λ _. refl) (λ _. refl) (λ _. refl) (λ _. refl) ∙ settings_flat gateways_in model
        ∙ ap (λ x. x ++ flat_map gateways_in (alg_parts model.alg_icmp)) (every_none (λ choice. gateways_in (OfSet choice)) (λ _. refl) (shown_settings model.settings)))
        ∙ alg_restored model.alg_icmp

    pub same_again : model.groups ≡ filter (λ g. not (is_default g)) model.groups ++ filter is_default model.groups → SameButSpans model (model_of tree ifaces)
    same_again order = record {
      groups = order ∙ ap₂ (λ x y. x ++ y) (sym named_again) (sym default_again)
          ∙ sym (ap (λ declared. gathered ifaces declared (named_group ifaces declared) [] tree.stmts ++ gathered ifaces declared (default_group ifaces declared) [] tree.stmts) declared_same);
      tables = tables_again;
      maps = sym maps_again ∙ sym (ap (λ declared. gathered ifaces declared (maps_of ifaces declared) [] tree.stmts) declared_same);
      procedures = sym procedures_again;
      settings = sym settings_again;
      alg_icmp = sym alg_again;
    }
