-- The numbers of tables and procedures are those of their names.
use Rattle.std.proofs.Common.{◌≡◌, ◌≤◌, ◌<◌, ℕ, zero, suc, ◌+◌, Bool, true, false, ◌||◌, min, unwrap_or, Option, Some, None, List, [], ◌∷◌, ◌++◌, length}
use Rattle.std.{proofs.Common.{map, flat_map, slice_get, refl, sym, ap, ap₂, subst, ◌∙◌, arith}, specs.{List.list_any, Str.bytes_eq}}
use Rattle.std.proofs.lemmas.{List.length-append, Option.slice_get_cases, Slice.Eq.bytes_eq-Decides}
use Rattle.npf_types.specs.{declared.limits.TheConstants.{MAX_TABLES, MAX_PROCEDURES}, Name.name_bytes}
use Rattle.npf_faults.specs.declared.fault.Excess.{Excess}
use Rattle.npf_faults.specs.declared.fault.Excess.TheVariants as Of
use Rattle.npf_syntax.specs.declared.stmt.Stmt.{Stmt}
use Rattle.npf_model.specs.{declared.{procedure.Procedure.Procedure, table.TableDecl.TableDecl}, Verdict.first_where}
use Rattle.npf_check.{specs.{Limit.{limited_places, past_faults}, Name.{NameAt, is_among}}, proofs.LimitLemmas.within_by}
use Rattle.npf_expand_values.specs.Declarations.{no_number, table_name, table_names, table_number, procedure_name, procedure_names}
use Rattle.npf_expand.specs.{Elaborates.procedures_of, Table.tables_of}
use Rattle.npf_show_law.proofs.{Gives.Every, Sound.IsSoundStmt, FilterMeant.named_text, StmtMeant.calls_named}

abbrev pub is_listed : List (List ℕ) → List ℕ → Bool
is_listed names text = list_any (λ name. bytes_eq name text) names

-- a name's first place
record IsPlaced (names : List (List ℕ)) (name : List ℕ) (from : ℕ) : Type 0 where
  place : ℕ
  below : place < length names
  first : first_where (bytes_eq name) from names ≡ Some (from + place)
  there : slice_get names place ≡ Some name

placed_rest : (here rest : Bool) (other name : List ℕ) → bytes_eq other name ≡ here → (here || rest) ≡ true → bytes_eq name other ≡ false → rest ≡ true
placed_rest true rest other name is any unlike =
    let same = (bytes_eq-Decides name other).1 (sym ((bytes_eq-Decides other name).0 is)) in
    let no : true ≡ false = sym same ∙ unlike in cc
placed_rest false rest other name is any unlike = any

placed_by : (other : List ℕ) (names : List (List ℕ)) (name : List ℕ) (from : ℕ) (here : Bool) → bytes_eq name other ≡ here → is_listed (other ∷ names) name ≡ true
    → (is_listed names name ≡ true → IsPlaced names name (from + 1)) → IsPlaced (other ∷ names) name from
placed_by other names name from true is any later = record {
  place = 0;
  below = omega arith;
  first = rw is (ap Some (omega arith));
  there = ap Some (sym ((bytes_eq-Decides name other).0 is));
}
placed_by other names name from false is any later =
    let found = later (placed_rest (bytes_eq other name) (is_listed names name) other name refl any is) in
    let below = found.below in
    record { place = suc found.place; below = omega (arith, below); first = rw is (found.first ∙ ap Some (omega arith)); there = found.there }

placed : (names : List (List ℕ)) (name : List ℕ) (from : ℕ) → is_listed names name ≡ true → IsPlaced names name from
placed [] name from any = cc
placed (other ∷ names) name from any = placed_by other names name from (bytes_eq name other) refl any (placed names name (from + 1))

there_named : {X : Type 0} (f : X → List ℕ) (name_of : Option X → List ℕ) → ((x : X) → name_of (Some x) ≡ f x) → (xs : List X) (place : ℕ) (name : List ℕ) → slice_get (map f xs) place ≡ Some name
    → name_of (slice_get xs place) ≡ name
there_named f name_of says [] place name there = cc
there_named f name_of says (x ∷ xs) zero name there = says x ∙ ap (λ o. unwrap_or o []) there
there_named f name_of says (x ∷ xs) (suc place) name there = there_named f name_of says xs place name there

-- what stands at the number of a name has the name
pub number_named : {X : Type 0} (f : X → List ℕ) (name_of : Option X → List ℕ) → ((x : X) → name_of (Some x) ≡ f x) →
    (xs : List X) (name : List ℕ) → is_listed (map f xs) name ≡ true → length (map f xs) ≤ 64
    → name_of (slice_get xs (table_number (map f xs) name)) ≡ name
number_named f name_of says xs name any few =
    let found = placed (map f xs) name 0 any in
    let below = found.below in
    let number : min (unwrap_or (first_where (bytes_eq name) 0 (map f xs)) no_number) no_number ≡ found.place = rw found.first (omega (arith, below, few)) in
    rw number (there_named f name_of says xs found.place name found.there)

-- the names by which the checks look are those of the text
among_both : (text : List ℕ) (xs ys : List NameAt) → is_among text (xs ++ ys) ≡ (is_among text xs || is_among text ys)
among_both text [] ys = refl
among_both text (x ∷ xs) ys = ap (λ b. bytes_eq x.name text || b) (among_both text xs ys) ∙ or_nested (bytes_eq x.name text) (is_among text xs) (is_among text ys) where
  or_nested : (a b c : Bool) → (a || (b || c)) ≡ ((a || b) || c)
  or_nested true b c = refl
  or_nested false b c = refl

listed_both : (text : List ℕ) (xs ys : List (List ℕ)) → is_listed (xs ++ ys) text ≡ (is_listed xs text || is_listed ys text)
listed_both text [] ys = refl
listed_both text (x ∷ xs) ys = ap (λ b. bytes_eq x text || b) (listed_both text xs ys) ∙ or_nested (bytes_eq x text) (is_listed xs text) (is_listed ys text) where
  or_nested : (a b c : Bool) → (a || (b || c)) ≡ ((a || b) || c)
  or_nested true b c = refl
  or_nested false b c = refl

pub among_listed : (given : Stmt → List NameAt) (names : Stmt → List (List ℕ)) (text : List ℕ) → ((stmt : Stmt) → is_among text (given stmt) ≡ is_listed (names stmt) text) → (stmts : List Stmt)
    → is_among text (flat_map given stmts) ≡ is_listed (flat_map names stmts) text
among_listed given names text each [] = refl
among_listed given names text each (stmt ∷ stmts) =
    among_both text (given stmt) (flat_map given stmts) ∙ ap₂ (λ a b. a || b) (each stmt) (among_listed given names text each stmts) ∙ sym (listed_both text (names stmt) (flat_map names stmts))

-- what holds of every form of a statement
pub by_form : (P : Stmt → Type 0) → ((a : _) (b : _) (c : _) → P (Stmt.Define a b c)) → ((a : _) (b : _) (c : _) → P (Stmt.Set a b c)) →
    ((a : _) (b : _) → P (Stmt.Alg a b)) → ((a : _) (b : _) (c : _) (e : _) → P (Stmt.Table a b c e))
    → ((a : _) (b : _) (c : _) (e : _) (f : _) (g : _) (h : _) (i : _) → P (Stmt.Map a b c e f g h i)) → ((a : _) (b : _) → P (Stmt.MapRuleset a b)) →
    ((a : _) (b : _) (c : _) → P (Stmt.Group a b c)) → ((a : _) (b : _) (c : _) → P (Stmt.Procedure a b c)) → (stmt : Stmt) → P stmt
by_form P of_define of_set of_alg of_table of_map of_maps of_group of_procedure (Stmt.Define a b c) = of_define a b c
by_form P of_define of_set of_alg of_table of_map of_maps of_group of_procedure (Stmt.Set a b c) = of_set a b c
by_form P of_define of_set of_alg of_table of_map of_maps of_group of_procedure (Stmt.Alg a b) = of_alg a b
by_form P of_define of_set of_alg of_table of_map of_maps of_group of_procedure (Stmt.Table a b c e) = of_table a b c e
by_form P of_define of_set of_alg of_table of_map of_maps of_group of_procedure (Stmt.Map a b c e f g h i) = of_map a b c e f g h i
by_form P of_define of_set of_alg of_table of_map of_maps of_group of_procedure (Stmt.MapRuleset a b) = of_maps a b
by_form P of_define of_set of_alg of_table of_map of_maps of_group of_procedure (Stmt.Group a b c) = of_group a b c
by_form P of_define of_set of_alg of_table of_map of_maps of_group of_procedure (Stmt.Procedure a b c) = of_procedure a b c

-- the names of the model are those of the text
pub tables_named : (stmts : List Stmt) → Every IsSoundStmt stmts → map (λ (t : TableDecl). name_bytes t.name) (flat_map tables_of stmts) ≡ table_names stmts
tables_named [] every = refl
tables_named (Stmt.Table name kind file span ∷ stmts) every = ap₂ (λ x xs. x ∷ xs) (named_text name.text every.0.0.1) (tables_named stmts every.1)
tables_named (Stmt.Define var values span ∷ stmts) every = tables_named stmts every.1
tables_named (Stmt.Set name value span ∷ stmts) every = tables_named stmts every.1
tables_named (Stmt.Alg name span ∷ stmts) every = tables_named stmts every.1
tables_named (Stmt.MapRuleset iface span ∷ stmts) every = tables_named stmts every.1
tables_named (Stmt.Map iface kind proto left arrow right pass span ∷ stmts) every = tables_named stmts every.1
tables_named (Stmt.Group head items span ∷ stmts) every = tables_named stmts every.1
tables_named (Stmt.Procedure name calls span ∷ stmts) every = tables_named stmts every.1

pub procedures_named : (stmts : List Stmt) → map (λ (p : Procedure). p.name) (flat_map procedures_of stmts) ≡ procedure_names stmts
procedures_named [] = refl
procedures_named (Stmt.Procedure name calls span ∷ stmts) =
    ap₂ (λ x xs. x ∷ xs) (calls_named (record { name = name.text; min_ttl = None; max_mss = None; no_df = false; log = None }) calls) (procedures_named stmts)
procedures_named (Stmt.Define var values span ∷ stmts) = procedures_named stmts
procedures_named (Stmt.Set name value span ∷ stmts) = procedures_named stmts
procedures_named (Stmt.Alg name span ∷ stmts) = procedures_named stmts
procedures_named (Stmt.MapRuleset iface span ∷ stmts) = procedures_named stmts
procedures_named (Stmt.Table name kind file span ∷ stmts) = procedures_named stmts
procedures_named (Stmt.Map iface kind proto left arrow right pass span ∷ stmts) = procedures_named stmts
procedures_named (Stmt.Group head items span ∷ stmts) = procedures_named stmts

counted_places : {X : Type 0} (quantity : Excess) (names : Stmt → List X) → ((stmt : Stmt) → length (names stmt) ≡ length (limited_places quantity stmt)) → (stmts : List Stmt)
    → length (flat_map names stmts) ≡ length (flat_map (limited_places quantity) stmts)
counted_places quantity names each [] = refl
counted_places quantity names each (stmt ∷ stmts) =
    length-append (names stmt) (flat_map names stmts) ∙ ap₂ (λ n m. n + m) (each stmt) (counted_places quantity names each stmts)
    ∙ sym (length-append (limited_places quantity stmt) (flat_map (limited_places quantity) stmts))

few_names : {X : Type 0} (quantity : Excess) (most : ℕ) (names : Stmt → List X) → ((stmt : Stmt) → length (names stmt) ≡ length (limited_places quantity stmt)) →
    (stmts : List Stmt) → past_faults quantity most stmts ≡ []
    → length (flat_map names stmts) ≤ most
few_names quantity most names each stmts none =
    let spans = flat_map (limited_places quantity) stmts in
    subst (λ n. n ≤ most) (sym (counted_places quantity names each stmts)) (within_by quantity most spans none (slice_get_cases spans most).1)

pub few_tables : (stmts : List Stmt) → past_faults Of.Tables MAX_TABLES stmts ≡ [] → length (table_names stmts) ≤ 64
few_tables = few_names Of.Tables MAX_TABLES table_name
    (by_form (λ stmt. length (table_name stmt) ≡ length (limited_places Of.Tables stmt)) (λ a b c. refl) (λ a b c. refl)
    (λ a b. refl) (λ a b c e. refl) (λ a b c e f g h i. refl) (λ a b. refl) (λ a b c. refl) (λ a b c. refl))

pub few_procedures : (stmts : List Stmt) → past_faults Of.Procedures MAX_PROCEDURES stmts ≡ [] → length (procedure_names stmts) ≤ 64
few_procedures = few_names Of.Procedures MAX_PROCEDURES procedure_name
    (by_form (λ stmt. length (procedure_name stmt) ≡ length (limited_places Of.Procedures stmt)) (λ a b c. refl) (λ a b c. refl)
    (λ a b. refl) (λ a b c e. refl) (λ a b c e f g h i. refl) (λ a b. refl) (λ a b c. refl) (λ a b c. refl))
