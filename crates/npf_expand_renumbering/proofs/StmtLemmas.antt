-- Statements and trees without faults, numbered anew, are what they are with a longer list of interfaces.
use Rattle.std.{proofs.{Common.{◌≡◌, ℕ, ◌+◌, List, [], ◌∷◌, ◌++◌, map, refl, sym, ap, ◌∙◌}, lemmas.List.map-append}, specs.List.flat_map}
use Rattle.npf_syntax.specs.declared.group.GroupHead.TheVariants as Head
use Rattle.npf_syntax.specs.declared.stmt.Stmt.{Stmt}
use Rattle.npf_model.specs.{declared.{group.Group.Group, iface.Iface.Iface, map.Map.Map, model.Model.Model}, Numbering.{numbered, numbered_group, numbered_map}}
use Rattle.npf_expand_values.specs.{Atom.Env, Declarations.{Declared, declared_in}, Variable.{Definition, env_of}}
use Rattle.npf_expand.specs.Elaborates.{behind, default_group, filter_elements, gathered, maps_of, named_group, procedures_of, stmt_elements, stmt_faults, stmts_faults}
use Rattle.npf_expand.specs.{Map.map_faults, Rule.passing_faults, Settings.{asks_icmp, settings_of}, Table.tables_of}
use Rattle.npf_expand_renumbering.{specs.Renumbers.Renumbers, proofs.{CleanLemmas.{back, both, front}, IfaceLemmas.{KeepsAddresses, keeps_addresses}}}
use Rattle.npf_expand_renumbering.proofs.{ValueLemmas.definition_none, WholeLemmas.{AreClean, IsWhole, env_same, whole_env}, RuleLemmas.map_same}
use Rattle.npf_expand_renumbering.proofs.GroupLemmas.{group_same}

module _ (ifaces longer : List Iface) (keeps : KeepsAddresses ifaces longer) (declared : Declared) where
  module _ (env : Env) (whole : IsWhole env) where
    record IsStmtSame (counted : ℕ) (stmt : Stmt) : Type 0 where
      none : stmt_faults longer declared env counted stmt ≡ []
      counts : stmt_elements longer declared env stmt ≡ stmt_elements ifaces declared env stmt
      groups : named_group longer declared env stmt ≡ map (numbered_group longer) (named_group ifaces declared env stmt)
      defaults : default_group longer declared env stmt ≡ map (numbered_group longer) (default_group ifaces declared env stmt)
      maps : maps_of longer declared env stmt ≡ map (numbered_map longer) (maps_of ifaces declared env stmt)

    stmt_same : (counted : ℕ) (stmt : Stmt) → stmt_faults ifaces declared env counted stmt ≡ [] → IsStmtSame counted stmt
    stmt_same counted (Stmt.Define var values span) none = record {
      none = definition_none ifaces longer keeps env values none;
      counts = refl;
      groups = refl;
      defaults = refl;
      maps = refl;
    }
    stmt_same counted (Stmt.Map iface kind proto left arrow right pass span) none =
        let own = map_faults ifaces env iface proto left right pass in
        let passing = λ (n : ℕ). passing_faults counted n span in
        let elements = filter_elements ifaces declared env pass in
        let same = map_same ifaces longer keeps env whole declared iface kind proto left arrow right pass (front own (passing elements) none) in
        record {
          none = both (map_faults longer env iface proto left right pass) (passing (filter_elements longer declared env pass)) same.none
              (ap passing same.counts ∙ back own (passing elements) none);
          counts = same.counts;
          groups = refl;
          defaults = refl;
          maps = ap (λ (m : Map). m ∷ []) same.means;
        }
    stmt_same counted (Stmt.Group (Head.Named name dir layer on at) items span) none =
        let same = group_same ifaces longer keeps declared env whole (Head.Named name dir layer on at) items counted none in
        record { none = same.none; counts = same.counts; groups = ap (λ (g : Group). g ∷ []) same.means; defaults = refl; maps = refl }
    stmt_same counted (Stmt.Group (Head.Default layer at) items span) none =
        let same = group_same ifaces longer keeps declared env whole (Head.Default layer at) items counted none in
        record { none = same.none; counts = same.counts; groups = refl; defaults = ap (λ (g : Group). g ∷ []) same.means; maps = refl }
    stmt_same counted (Stmt.Set name value span) none = record { none = refl; counts = refl; groups = refl; defaults = refl; maps = refl }
    stmt_same counted (Stmt.Alg name span) none = record { none = refl; counts = refl; groups = refl; defaults = refl; maps = refl }
    stmt_same counted (Stmt.MapRuleset iface span) none = record { none = refl; counts = refl; groups = refl; defaults = refl; maps = refl }
    stmt_same counted (Stmt.Table name kind file span) none = record { none = refl; counts = refl; groups = refl; defaults = refl; maps = refl }
    stmt_same counted (Stmt.Procedure name calls span) none = record { none = refl; counts = refl; groups = refl; defaults = refl; maps = refl }

  clean_behind : (older : List Definition) (counted : ℕ) (stmt : Stmt) → AreClean ifaces older
      → stmt_faults ifaces declared (env_of ifaces older) counted stmt ≡ [] → AreClean ifaces (behind older stmt)
  clean_behind older counted (Stmt.Define var values span) clean none = (none, clean)
  clean_behind older counted (Stmt.Map iface kind proto left arrow right pass span) clean none = clean
  clean_behind older counted (Stmt.Group head items span) clean none = clean
  clean_behind older counted (Stmt.Set name value span) clean none = clean
  clean_behind older counted (Stmt.Alg name span) clean none = clean
  clean_behind older counted (Stmt.MapRuleset iface span) clean none = clean
  clean_behind older counted (Stmt.Table name kind file span) clean none = clean
  clean_behind older counted (Stmt.Procedure name calls span) clean none = clean

  abbrev gives : {A : Type 0} → List Iface → (List Iface → Declared → Env → Stmt → List A) → List Definition → List Stmt → List A
  gives list give older stmts = gathered list declared (give list declared) older stmts

  -- what all statements give, where each gives the same
  gathered_same : {A : Type 0} (give : List Iface → Declared → Env → Stmt → List A) (number : A → A)
      → ((env : Env) (whole : IsWhole env) (counted : ℕ) (stmt : Stmt) → IsStmtSame env whole counted stmt
      → give longer declared env stmt ≡ map number (give ifaces declared env stmt))
      → (older : List Definition) → AreClean ifaces older → (counted : ℕ) (stmts : List Stmt) → stmts_faults ifaces declared older counted stmts ≡ []
      → gives longer give older stmts ≡ map number (gives ifaces give older stmts)
  gathered_same give number each older clean counted [] none = refl
  gathered_same give number each older clean counted (stmt ∷ stmts) none =
      let env = env_of ifaces older in
      let whole = whole_env ifaces older clean in
      let here = stmt_faults ifaces declared env counted stmt in
      let next = counted + stmt_elements ifaces declared env stmt in
      let left = stmts_faults ifaces declared (behind older stmt) next stmts in
      let alone = front here left none in
      let rest = gathered_same give number each (behind older stmt) (clean_behind older counted stmt clean alone) next stmts (back here left none) in
      let more = gives longer give (behind older stmt) stmts in
      ap (λ (e : Env). give longer declared e stmt ++ more) (env_same ifaces longer keeps older clean)
      ∙ ap (λ l. l ++ more) (each env whole counted stmt (stmt_same env whole counted stmt alone))
      ∙ ap (λ l. map number (give ifaces declared env stmt) ++ l) rest
      ∙ sym (map-append number (give ifaces declared env stmt) (gives ifaces give (behind older stmt) stmts))

  stmts_none : (older : List Definition) → AreClean ifaces older → (counted : ℕ) (stmts : List Stmt) → stmts_faults ifaces declared older counted stmts ≡ []
      → stmts_faults longer declared older counted stmts ≡ []
  stmts_none older clean counted [] none = refl
  stmts_none older clean counted (stmt ∷ stmts) none =
      let env = env_of ifaces older in
      let here = stmt_faults ifaces declared env counted stmt in
      let next = counted + stmt_elements ifaces declared env stmt in
      let left = stmts_faults ifaces declared (behind older stmt) next stmts in
      let alone = front here left none in
      let same = stmt_same env (whole_env ifaces older clean) counted stmt alone in
      let here_too = stmt_faults longer declared env counted stmt in
      ap (λ (e : Env). stmt_faults longer declared e counted stmt
      ++ stmts_faults longer declared (behind older stmt) (counted + stmt_elements longer declared e stmt) stmts) (env_same ifaces longer keeps older clean)
      ∙ ap (λ n. here_too ++ stmts_faults longer declared (behind older stmt) (counted + n) stmts) same.counts
      ∙ both here_too (stmts_faults longer declared (behind older stmt) next stmts) same.none
      (stmts_none (behind older stmt) (clean_behind older counted stmt clean alone) next stmts (back here left none))

abbrev model_with : List Group → List Map → List Stmt → Model
model_with groups maps stmts = record {
  groups = groups;
  tables = flat_map tables_of stmts;
  maps = maps;
  procedures = flat_map procedures_of stmts;
  settings = settings_of stmts;
  alg_icmp = asks_icmp stmts;
}

pub renumbers_lem : Renumbers
renumbers_lem tree ifaces more model elaborates =
    let longer = ifaces ++ more in
    let keeps = keeps_addresses ifaces more in
    let stmts = tree.stmts in
    let declared = declared_in stmts in
    let number = map (numbered_group longer) in
    let named_groups = gathered_same ifaces longer keeps declared named_group (numbered_group longer) (λ env whole counted stmt same. same.groups)
    [] tt 0 stmts elaborates.clean in
    let defaults = gathered_same ifaces longer keeps declared default_group (numbered_group longer) (λ env whole counted stmt same. same.defaults)
    [] tt 0 stmts elaborates.clean in
    let maps = gathered_same ifaces longer keeps declared maps_of (numbered_map longer) (λ env whole counted stmt same. same.maps)
    [] tt 0 stmts elaborates.clean in
    let named_now = gathered longer declared (named_group longer declared) [] stmts in
    let named_before = gathered ifaces declared (named_group ifaces declared) [] stmts in
    let default_now = gathered longer declared (default_group longer declared) [] stmts in
    let default_before = gathered ifaces declared (default_group ifaces declared) [] stmts in
    let maps_now = gathered longer declared (maps_of longer declared) [] stmts in
    record {
      clean = stmts_none ifaces longer keeps declared [] tt 0 stmts elaborates.clean;
      meant = ap (numbered longer) elaborates.meant
          ∙ sym (ap (λ (g : List Group). model_with (g ++ default_now) maps_now stmts) named_groups
          ∙ ap (λ (g : List Group). model_with (number named_before ++ g) maps_now stmts) defaults
          ∙ ap (λ (g : List Group). model_with g maps_now stmts) (sym (map-append (numbered_group longer) named_before default_before))
          ∙ ap (λ (m : List Map). model_with (number (named_before ++ default_before)) m stmts) maps);
    }
