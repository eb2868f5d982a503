-- What is left of a text's statements, of which so many were read.
use Rattle.std.proofs.Common.{◌≡◌, ◌≤◌, ◌<◌, ◌+◌, ℕ, None, List, [], ◌∷◌, ◌++◌, length, get_or, take, drop, refl, sym, ap, ap₂, subst, ◌∙◌, append-nil, append_assoc}
use Rattle.std.{specs.List.flat_map, proofs.{Math.Path.fun_ext, lemmas.List.{drop_more, drop_all, take_more}}}
use Rattle.npf_syntax.specs.declared.stmt.{Stmt.Stmt, Tree.Tree}
use Rattle.npf_model.specs.declared.{group.Group.Group, iface.Iface.Iface, map.Map.Map, model.Model.Model}
use Rattle.npf_faults.specs.First.{earlier, first_fault}
use Rattle.npf_faults.proofs.FirstLemmas.{earlier-assoc, earlier-none, first_fault-append, no_first_fault, none_of_earlier}
use Rattle.npf_expand_values.specs.{Atom.Env, Declarations.{Declared, declared_in}, Scope.env_in, Summary.counted, Variable.{Definition, env_of}}
use Rattle.npf_expand.specs.declared.elaborate.State.{State}
use Rattle.npf_expand.specs.Elaborates.{Elaborates, behind, default_group, gathered, maps_of, named_group, procedures_of, stmt_elements, stmt_faults, stmts_faults, tree_faults}
use Rattle.npf_expand.specs.{Group.head_faults, Map.map_faults, Settings.{asks_icmp, settings_of}, Step.{Adding, AddsToModel, IsStmtRead, env_behind}}
use Rattle.npf_expand.{specs.Table.tables_of, proofs.StepLemmas.{counted-more, items_faults-counted, passing_faults-counted}}

-- the definitions behind statements
abbrev pub behind_all : List Definition → List Stmt → List Definition
behind_all older [] = older
behind_all older (stmt ∷ stmts) = behind_all (behind older stmt) stmts

behind_all-push : (older : List Definition) (stmts : List Stmt) (stmt : Stmt) → behind_all older (stmts ++ stmt ∷ []) ≡ behind (behind_all older stmts) stmt
behind_all-push older [] stmt = refl
behind_all-push older (s ∷ stmts) stmt = behind_all-push (behind older s) stmts stmt

module _ (ifaces : List Iface) where
  -- a statement binds names as the definitions behind it do
  env_of-behind : (older : List Definition) (stmt : Stmt) → env_behind ifaces (env_of ifaces older) stmt ≡ env_of ifaces (behind older stmt)
  env_of-behind older (Stmt.Define var values span) = refl
  env_of-behind older (Stmt.Set name value span) = refl
  env_of-behind older (Stmt.Alg name span) = refl
  env_of-behind older (Stmt.MapRuleset iface span) = refl
  env_of-behind older (Stmt.Table name kind file span) = refl
  env_of-behind older (Stmt.Map iface kind proto left arrow right pass span) = refl
  env_of-behind older (Stmt.Group head items span) = refl
  env_of-behind older (Stmt.Procedure name calls span) = refl

  module _ (declared : Declared) where
    stmt_faults-counted : (env : Env) (a b : ℕ) (stmt : Stmt) → counted a ≡ counted b → stmt_faults ifaces declared env a stmt ≡ stmt_faults ifaces declared env b stmt
    stmt_faults-counted env a b (Stmt.Define var values span) same = refl
    stmt_faults-counted env a b (Stmt.Set name value span) same = refl
    stmt_faults-counted env a b (Stmt.Alg name span) same = refl
    stmt_faults-counted env a b (Stmt.MapRuleset iface span) same = refl
    stmt_faults-counted env a b (Stmt.Table name kind file span) same = refl
    stmt_faults-counted env a b (Stmt.Map iface kind proto left arrow right pass span) same =
        ap (λ faults. map_faults ifaces env iface proto left right pass ++ faults) (passing_faults-counted a b _ _ span same refl)
    stmt_faults-counted env a b (Stmt.Group head items span) same =
        ap (λ faults. head_faults ifaces env declared head ++ faults) (items_faults-counted ifaces env declared a b items same)
    stmt_faults-counted env a b (Stmt.Procedure name calls span) same = refl

    stmts_faults-counted : (older : List Definition) (a b : ℕ) (stmts : List Stmt) → counted a ≡ counted b
        → stmts_faults ifaces declared older a stmts ≡ stmts_faults ifaces declared older b stmts
    stmts_faults-counted older a b [] same = refl
    stmts_faults-counted older a b (stmt ∷ stmts) same =
        let env = env_of ifaces older in
        let elements = stmt_elements ifaces declared env stmt in
        ap (λ faults. faults ++ stmts_faults ifaces declared (behind older stmt) (a + elements) stmts) (stmt_faults-counted env a b stmt same)
        ∙ ap (λ faults. stmt_faults ifaces declared env b stmt ++ faults)
        (stmts_faults-counted (behind older stmt) (a + elements) (b + elements) stmts (counted-more a b elements elements same refl))

    -- what a state says of statements of which so many were read
    pub record StmtsLeft (state : State) (stmts : List Stmt) (read : ℕ) : Type 0 where
      pub env : env_in state.variables ≡ env_of ifaces (behind_all [] (take read stmts))
      pub faults : first_fault (stmts_faults ifaces declared [] 0 stmts)
          ≡ earlier state.met.first (first_fault (stmts_faults ifaces declared (behind_all [] (take read stmts)) state.met.elements (drop read stmts)))
      pub groups : state.met.first ≡ None → gathered ifaces declared (named_group ifaces declared) [] stmts
          ≡ state.groups.items ++ gathered ifaces declared (named_group ifaces declared) (behind_all [] (take read stmts)) (drop read stmts)
      pub defaults : state.met.first ≡ None → gathered ifaces declared (default_group ifaces declared) [] stmts
          ≡ state.defaults.items ++ gathered ifaces declared (default_group ifaces declared) (behind_all [] (take read stmts)) (drop read stmts)
      pub maps : state.met.first ≡ None → gathered ifaces declared (maps_of ifaces declared) [] stmts
          ≡ state.maps.items ++ gathered ifaces declared (maps_of ifaces declared) (behind_all [] (take read stmts)) (drop read stmts)

    gathered_step : {A : Type 0} (give : Env → Stmt → List A) (whole built more : List A) (older : List Definition) (env : Env) (stmt : Stmt) (rest left : List Stmt)
        → left ≡ stmt ∷ rest → env ≡ env_of ifaces older → whole ≡ built ++ gathered ifaces declared give older left → more ≡ built ++ give env stmt
        → whole ≡ more ++ gathered ifaces declared give (behind older stmt) rest
    gathered_step give whole built more older env stmt rest left front is so_far pushed =
        so_far ∙ ap (λ l. built ++ gathered ifaces declared give older l) front
        ∙ sym (append_assoc built (give (env_of ifaces older) stmt) (gathered ifaces declared give (behind older stmt) rest))
        ∙ ap (λ e. (built ++ give e stmt) ++ gathered ifaces declared give (behind older stmt) rest) (sym is)
        ∙ ap (λ b. b ++ gathered ifaces declared give (behind older stmt) rest) (sym pushed)

    module _ (state next : State) (stmts : List Stmt) (read : ℕ) (stmt d : Stmt) (below : read < length stmts) (is : stmt ≡ get_or stmts read d)
        (left : StmtsLeft state stmts read) (steps : IsStmtRead ifaces declared state next stmt) where
      abbrev older : List Definition
      older = behind_all [] (take read stmts)

      abbrev rest : List Stmt
      rest = drop (read + 1) stmts

      front : drop read stmts ≡ stmt ∷ rest
      front = drop_more stmts read d below ∙ ap (λ (s : Stmt). s ∷ rest) (sym is)

      moved : behind older stmt ≡ behind_all [] (take (read + 1) stmts)
      moved = sym (ap (behind_all []) (take_more stmts read d below) ∙ behind_all-push [] (take read stmts) (get_or stmts read d) ∙ ap (behind older) (sym is))

      none_before : next.met.first ≡ None → state.met.first ≡ None
      none_before none = none_of_earlier state.met.first _ (sym steps.met.first ∙ none)

      adds : (none : next.met.first ≡ None) → AddsToModel ifaces declared (env_in state.variables) state next stmt
      adds none = steps.adds none

      -- what an item of the model is that was gathered so far
      more : {A : Type 0} (give : Env → Stmt → List A) (whole built longer : List A) → whole ≡ built ++ gathered ifaces declared give older (drop read stmts)
          → longer ≡ built ++ give (env_in state.variables) stmt → whole ≡ longer ++ gathered ifaces declared give (behind_all [] (take (read + 1) stmts)) rest
      more give whole built longer so_far pushed =
          gathered_step give whole built longer older (env_in state.variables) stmt rest (drop read stmts) front left.env so_far pushed
          ∙ ap (λ (defs : List Definition). longer ++ gathered ifaces declared give defs rest) moved

      pub stmts_step : StmtsLeft next stmts (read + 1)
      stmts_step =
          let env = env_in state.variables in
          let here = stmt_faults ifaces declared env state.met.elements stmt in
          let elements = stmt_elements ifaces declared env stmt in
          let behind_it = stmts_faults ifaces declared (behind older stmt) (state.met.elements + elements) rest in
          record {
            env = fun_ext steps.env ∙ ap (λ (e : Env). env_behind ifaces e stmt) left.env ∙ env_of-behind older stmt ∙ ap (env_of ifaces) moved;
            faults = left.faults ∙ ap (λ (l : List Stmt). earlier state.met.first (first_fault (stmts_faults ifaces declared older state.met.elements l))) front
                ∙ ap (λ (e : Env). earlier state.met.first (first_fault (stmt_faults ifaces declared e state.met.elements stmt
                ++ stmts_faults ifaces declared (behind older stmt) (state.met.elements + stmt_elements ifaces declared e stmt) rest))) (sym left.env)
                ∙ ap (earlier state.met.first) (first_fault-append here behind_it) ∙ sym (earlier-assoc state.met.first (first_fault here) (first_fault behind_it))
                ∙ ap (λ o. earlier o (first_fault behind_it)) (sym steps.met.first)
                ∙ ap (λ fs. earlier next.met.first (first_fault fs)) (stmts_faults-counted (behind older stmt) _ next.met.elements rest (sym steps.met.count))
                ∙ ap (λ (defs : List Definition). earlier next.met.first (first_fault (stmts_faults ifaces declared defs next.met.elements rest))) moved;
            groups = λ none. more (named_group ifaces declared) _ state.groups.items next.groups.items (left.groups (none_before none)) (adds none).groups;
            defaults = λ none. more (default_group ifaces declared) _ state.defaults.items next.defaults.items (left.defaults (none_before none)) (adds none).defaults;
            maps = λ none. more (maps_of ifaces declared) _ state.maps.items next.maps.items (left.maps (none_before none)) (adds none).maps;
          }

    pub stmts_start : (state : State) (stmts : List Stmt) → ((text : List ℕ) → env_in state.variables text ≡ None)
        → (state.met.first ≡ None) × (state.met.elements ≡ 0) → (state.groups.items ≡ []) × (state.defaults.items ≡ []) × (state.maps.items ≡ [])
        → StmtsLeft state stmts 0
    stmts_start state stmts unbound met empty = record {
      env = fun_ext unbound;
      faults = sym (ap₂ (λ first elements. earlier first (first_fault (stmts_faults ifaces declared [] elements stmts))) met.0 met.1);
      groups = λ none. sym (ap (λ (l : List Group). l ++ gathered ifaces declared (named_group ifaces declared) [] stmts) empty.0);
      defaults = λ none. sym (ap (λ (l : List Group). l ++ gathered ifaces declared (default_group ifaces declared) [] stmts) empty.1);
      maps = λ none. sym (ap (λ (l : List Map). l ++ gathered ifaces declared (maps_of ifaces declared) [] stmts) empty.2);
    }

    gathered_all : {A : Type 0} (give : Env → Stmt → List A) (whole built : List A) (older : List Definition) (stmts : List Stmt) (read : ℕ) → length stmts ≤ read
        → whole ≡ built ++ gathered ifaces declared give older (drop read stmts) → built ≡ whole
    gathered_all give whole built older stmts read past so_far =
        sym (so_far ∙ ap (λ l. built ++ gathered ifaces declared give older l) (drop_all read stmts past) ∙ append-nil built)

    pub stmts_first : (state : State) (stmts : List Stmt) (read : ℕ) → length stmts ≤ read → StmtsLeft state stmts read
        → state.met.first ≡ first_fault (stmts_faults ifaces declared [] 0 stmts)
    stmts_first state stmts read past left =
        sym (left.faults
        ∙ ap (λ (l : List Stmt). earlier state.met.first (first_fault (stmts_faults ifaces declared (behind_all [] (take read stmts)) state.met.elements l))) (drop_all read stmts past)
        ∙ earlier-none state.met.first)

    pub stmts_adding : (state : State) (stmts : List Stmt) (read : ℕ) → length stmts ≤ read → StmtsLeft state stmts read → state.met.first ≡ None
        → Adding ifaces declared state stmts
    stmts_adding state stmts read past left none = record {
      groups = gathered_all (named_group ifaces declared) _ state.groups.items _ stmts read past (left.groups none);
      defaults = gathered_all (default_group ifaces declared) _ state.defaults.items _ stmts read past (left.defaults none);
      maps = gathered_all (maps_of ifaces declared) _ state.maps.items _ stmts read past (left.maps none);
    }

-- the whole text: its first fault, and its model
abbrev pub model_in : List Stmt → List Iface → Model
model_in stmts ifaces =
    let declared = declared_in stmts in
    record {
      groups = gathered ifaces declared (named_group ifaces declared) [] stmts ++ gathered ifaces declared (default_group ifaces declared) [] stmts;
      tables = flat_map tables_of stmts;
      maps = gathered ifaces declared (maps_of ifaces declared) [] stmts;
      procedures = flat_map procedures_of stmts;
      settings = settings_of stmts;
      alg_icmp = asks_icmp stmts;
    }

abbrev pub state_model : List Group → List Group → List Map → List Stmt → Model
state_model groups defaults maps stmts = record {
  groups = groups ++ defaults;
  tables = flat_map tables_of stmts;
  maps = maps;
  procedures = flat_map procedures_of stmts;
  settings = settings_of stmts;
  alg_icmp = asks_icmp stmts;
}

module _ (tree : Tree) (ifaces known : List Iface) (declared : Declared) (stmts : List Stmt) (state : State) (same_ifaces : known ≡ ifaces)
    (same_names : declared ≡ declared_in stmts) (same_stmts : stmts ≡ tree.stmts) where
  pub tree_first : state.met.first ≡ first_fault (stmts_faults known declared [] 0 stmts) → state.met.first ≡ first_fault (tree_faults tree ifaces)
  tree_first is = is ∙ ap (λ (d : Declared). first_fault (stmts_faults known d [] 0 stmts)) same_names
      ∙ ap (λ (k : List Iface). first_fault (stmts_faults k (declared_in stmts) [] 0 stmts)) same_ifaces
      ∙ ap (λ (s : List Stmt). first_fault (stmts_faults ifaces (declared_in s) [] 0 s)) same_stmts

  pub tree_elaborates : (model : Model) → state.met.first ≡ None → state.met.first ≡ first_fault (stmts_faults known declared [] 0 stmts)
      → Adding known declared state stmts → model ≡ state_model state.groups.items state.defaults.items state.maps.items tree.stmts → Elaborates tree ifaces model
  tree_elaborates model none is all built =
      let adding = subst (λ (d : Declared). Adding known d state stmts) same_names all in
      record {
        clean = no_first_fault (tree_faults tree ifaces) (sym (tree_first is) ∙ none);
        meant = built ∙ ap (λ (s : List Stmt). state_model state.groups.items state.defaults.items state.maps.items s) (sym same_stmts)
            ∙ ap (λ (g : List Group). state_model g state.defaults.items state.maps.items stmts) adding.groups
            ∙ ap (λ (g : List Group). state_model (gathered known (declared_in stmts) (named_group known (declared_in stmts)) [] stmts) g state.maps.items stmts) adding.defaults
            ∙ ap (λ (m : List Map). state_model (gathered known (declared_in stmts) (named_group known (declared_in stmts)) [] stmts)
            (gathered known (declared_in stmts) (default_group known (declared_in stmts)) [] stmts) m stmts) adding.maps
            ∙ ap (λ (k : List Iface). model_in stmts k) same_ifaces ∙ ap (λ (s : List Stmt). model_in s ifaces) same_stmts;
      }
