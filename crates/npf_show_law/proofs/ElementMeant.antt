-- The lists of a model have no more elements than were counted of its text.
use Rattle.std.{proofs.Common.{◌≡◌, ◌≤◌, ◌+◌, ℕ, Option, Some, None, option_map, List, [], ◌∷◌, ◌++◌, length, map, refl, sym, subst, arith}, specs.List.sum_by}
use Rattle.std.proofs.lemmas.List.Sums.{sum_by-append, sum_by-cons}
use Rattle.npf_types.specs.declared.limits.TheConstants.{MAX_LIST_ELEMENTS}
use Rattle.npf_shelf.proofs.ListLemmas.{nil_from_append_left, nil_from_append_right}
use Rattle.npf_syntax.specs.declared.{filter.{EndsTree.EndsTree as WrittenEnds, Filter.Filter}, group.{GroupHead.GroupHead, ItemTree.ItemTree as WrittenItem}}
use Rattle.npf_syntax.specs.declared.stmt.Stmt.{Stmt}
use Rattle.npf_model.specs.{declared.{group.Group.Group, iface.Iface.Iface, map.Map.Map}, Count.{listed, elements_of_ends, elements_of}}
use Rattle.npf_expand_values.specs.{Address.{addresses_count, address_items}, Atom.Env, Declarations.Declared, Port.{ports_count, ports_of}}
use Rattle.npf_expand_values.specs.Variable.{Definition, env_of}
use Rattle.npf_expand.specs.Elaborates.{behind, default_group, filter_elements, gathered, maps_of, named_group, stmt_elements, stmt_faults, stmts_faults}
use Rattle.npf_expand.specs.Group.{group_of_tree, head_faults, item_elements, item_faults, item_of_tree, items_elements, items_faults}
use Rattle.npf_expand.specs.Map.{map_faults, map_of_tree}
use Rattle.npf_expand.specs.Rule.{ends_count, ends_of_written, filter_count, filter_rule, part_count, part_protocols, passing_faults, rule_faults, source_ends, destination_ends}
use Rattle.npf_expand.proofs.CountedLemmas.{addresses_few, part_few, ports_few, within_limit}
use Rattle.npf_show_meaning.specs.Regular.{entry_elements, pass_elements}

module _ (ifaces : List Iface) (env : Env) (tables : List (List ℕ)) where
  ends_few : (ends : Option WrittenEnds) → elements_of_ends (ends_of_written ifaces env tables ends) ≤ ends_count ifaces env ends
  ends_few None = omega arith
  ends_few (Some (WrittenEnds.Addresses addresses ports span)) =
      let of_addresses = addresses_few ifaces env tables addresses in
      let of_ports = ports_few ifaces env tables ports in
      let both : listed (address_items ifaces env tables addresses) + listed (ports_of ifaces env ports) ≤ addresses_count ifaces env addresses + ports_count ifaces env ports =
      omega (arith, of_addresses, of_ports) in
      both
  ends_few (Some (WrittenEnds.Ports ports span)) =
      let of_ports = ports_few ifaces env tables (Some ports) in
      let all : 0 + listed (ports_of ifaces env (Some ports)) ≤ ports_count ifaces env (Some ports) = omega (arith, of_ports) in
      all

  filter_few : (f : Filter) → elements_of (filter_rule ifaces env tables f) ≤ filter_count ifaces env f
  filter_few f =
      let of_part = part_few ifaces env tables f.proto in
      let of_source = ends_few (source_ends f.ends) in
      let of_destination = ends_few (destination_ends f.ends) in
      let all : length (part_protocols ifaces env f.proto) + elements_of_ends (ends_of_written ifaces env tables (source_ends f.ends)) + elements_of_ends
      (ends_of_written ifaces env tables (destination_ends f.ends))
      ≤ part_count ifaces env f.proto + ends_count ifaces env (source_ends f.ends) + ends_count ifaces env (destination_ends f.ends) = omega (arith, of_part, of_source, of_destination) in
      all

abbrev map_elements : Map → ℕ
map_elements m = pass_elements m.filter

abbrev group_elements : Group → ℕ
group_elements group = sum_by entry_elements group.items

module _ (ifaces : List Iface) (declared : Declared) where
  item_sum : (env : Env) (item : WrittenItem) → entry_elements (item_of_tree ifaces env declared item) ≤ item_elements ifaces env declared item
  item_sum env (WrittenItem.Rule r span) = filter_few ifaces env declared.tables r.filter
  item_sum env (WrittenItem.Ruleset name dir on span) = omega arith

  items_sum : (env : Env) (items : List WrittenItem) → sum_by entry_elements (map (item_of_tree ifaces env declared) items) ≤ items_elements ifaces env declared items
  items_sum env [] = omega arith
  items_sum env (item ∷ items) =
      let here = item_sum env item in
      let rest = items_sum env items in
      let both : entry_elements (item_of_tree ifaces env declared item) + sum_by entry_elements
      (map (item_of_tree ifaces env declared) items) ≤ item_elements ifaces env declared item + items_elements ifaces env declared items = omega (arith, here, rest) in
      rw (sum_by-cons entry_elements (item_of_tree ifaces env declared item) (map (item_of_tree ifaces env declared) items)) both

  group_sum : (env : Env) (head : GroupHead) (items : List WrittenItem) → sum_by group_elements (group_of_tree ifaces env declared head items ∷ []) ≤ items_elements ifaces env declared items
  group_sum env (GroupHead.Named name dir layer on span) items =
      let sum = items_sum env items in
      let one : sum_by group_elements (group_of_tree ifaces env declared (GroupHead.Named name dir layer on span) items ∷
      []) ≡ sum_by entry_elements (map (item_of_tree ifaces env declared) items) + sum_by group_elements [] =
      sum_by-cons group_elements (group_of_tree ifaces env declared (GroupHead.Named name dir layer on span) items) [] in
      rw one (omega (arith, sum))
  group_sum env (GroupHead.Default layer span) items =
      let sum = items_sum env items in
      let one : sum_by group_elements (group_of_tree ifaces env declared (GroupHead.Default layer span) items ∷
      []) ≡ sum_by entry_elements (map (item_of_tree ifaces env declared) items) + sum_by group_elements [] =
      sum_by-cons group_elements (group_of_tree ifaces env declared (GroupHead.Default layer span) items) [] in
      rw one (omega (arith, sum))

  pass_few : (env : Env) (o : Option Filter) → pass_elements (option_map (filter_rule ifaces env declared.tables) o) ≤ filter_elements ifaces declared env o
  pass_few env None = omega arith
  pass_few env (Some f) = filter_few ifaces env declared.tables f

  map_sum : (env : Env) (m : Map) (o : Option Filter) → m.filter ≡ option_map (filter_rule ifaces env declared.tables) o → sum_by map_elements (m ∷ []) ≤ filter_elements ifaces declared env o
  map_sum env m o same =
      let few = pass_few env o in
      let one : sum_by map_elements (m ∷ []) ≡ pass_elements m.filter + sum_by map_elements [] = sum_by-cons map_elements m [] in
      let here : pass_elements m.filter ≤ filter_elements ifaces declared env o = subst (λ filter. pass_elements filter ≤ filter_elements ifaces declared env o) (sym same) few in
      rw one (omega (arith, here))

  item_within : (env : Env) (counted : ℕ) (item : WrittenItem) → counted ≤ MAX_LIST_ELEMENTS →
      item_faults ifaces env declared counted item ≡ [] → counted + item_elements ifaces env declared item ≤ MAX_LIST_ELEMENTS
  item_within env counted (WrittenItem.Rule r span) few none =
      within_limit counted (filter_count ifaces env r.filter) r.span (nil_from_append_right (rule_faults ifaces env r) (passing_faults counted (filter_count ifaces env r.filter) r.span) none) few
  item_within env counted (WrittenItem.Ruleset name dir on span) few none = omega (arith, few)

  items_within : (env : Env) (counted : ℕ) (items : List WrittenItem) → counted ≤ MAX_LIST_ELEMENTS →
      items_faults ifaces env declared counted items ≡ [] → counted + items_elements ifaces env declared items ≤ MAX_LIST_ELEMENTS
  items_within env counted [] few none = omega (arith, few)
  items_within env counted (item ∷ items) few none =
      let here = item_faults ifaces env declared counted item in
      let next = counted + item_elements ifaces env declared item in
      let rest = items_faults ifaces env declared next items in
      let after : next + items_elements ifaces env declared items ≤ MAX_LIST_ELEMENTS =
      items_within env next items (item_within env counted item few (nil_from_append_left here rest none)) (nil_from_append_right here rest none) in
      omega (arith, after)

  stmt_within : (env : Env) (counted : ℕ) (stmt : Stmt) → counted ≤ MAX_LIST_ELEMENTS → stmt_faults ifaces declared env counted stmt ≡ [] →
      counted + stmt_elements ifaces declared env stmt ≤ MAX_LIST_ELEMENTS
  stmt_within env counted (Stmt.Group head items span) few none =
      items_within env counted items few (nil_from_append_right (head_faults ifaces env declared head) (items_faults ifaces env declared counted items) none)
  stmt_within env counted (Stmt.Map iface kind proto left arrow right pass span) few none =
      within_limit counted (filter_elements ifaces declared env pass) span
      (nil_from_append_right (map_faults ifaces env iface proto left right pass) (passing_faults counted (filter_elements ifaces declared env pass) span) none) few
  stmt_within env counted (Stmt.Define var values span) few none = omega (arith, few)
  stmt_within env counted (Stmt.Set name value span) few none = omega (arith, few)
  stmt_within env counted (Stmt.Alg name span) few none = omega (arith, few)
  stmt_within env counted (Stmt.MapRuleset iface span) few none = omega (arith, few)
  stmt_within env counted (Stmt.Table name kind file span) few none = omega (arith, few)
  stmt_within env counted (Stmt.Procedure name calls span) few none = omega (arith, few)

  abbrev stmt_sum : Env → Stmt → ℕ
  stmt_sum env stmt = sum_by map_elements (maps_of ifaces declared env stmt) + sum_by group_elements
      (named_group ifaces declared env stmt) + sum_by group_elements (default_group ifaces declared env stmt)

  stmt_few : (env : Env) (stmt : Stmt) → stmt_sum env stmt ≤ stmt_elements ifaces declared env stmt
  stmt_few env (Stmt.Group (GroupHead.Named name dir layer on head) items span) =
      let sum = group_sum env (GroupHead.Named name dir layer on head) items in
      let all : 0 + sum_by group_elements (group_of_tree ifaces env declared (GroupHead.Named name dir layer on head) items ∷ []) + 0 ≤ items_elements ifaces env declared items = omega (arith, sum) in
      all
  stmt_few env (Stmt.Group (GroupHead.Default layer head) items span) =
      let sum = group_sum env (GroupHead.Default layer head) items in
      let all : 0 + 0 + sum_by group_elements (group_of_tree ifaces env declared (GroupHead.Default layer head) items ∷ []) ≤ items_elements ifaces env declared items = omega (arith, sum) in
      all
  stmt_few env (Stmt.Map iface kind proto left arrow right pass span) =
      let m = map_of_tree ifaces env declared.tables iface kind proto left arrow right pass in
      let sum = map_sum env m pass refl in
      let all : sum_by map_elements (m ∷ []) + 0 + 0 ≤ filter_elements ifaces declared env pass = omega (arith, sum) in
      all
  stmt_few env (Stmt.Define var values span) = omega arith
  stmt_few env (Stmt.Set name value span) = omega arith
  stmt_few env (Stmt.Alg name span) = omega arith
  stmt_few env (Stmt.MapRuleset iface span) = omega arith
  stmt_few env (Stmt.Table name kind file span) = omega arith
  stmt_few env (Stmt.Procedure name calls span) = omega arith

  abbrev sum_from : List Definition → List Stmt → ℕ
  sum_from older stmts =
      sum_by map_elements (gathered ifaces declared (maps_of ifaces declared) older stmts) + sum_by group_elements (gathered ifaces declared (named_group ifaces declared) older stmts)
      + sum_by group_elements (gathered ifaces declared (default_group ifaces declared) older stmts)

  pub elements_few : (older : List Definition) (counted : ℕ) (stmts : List Stmt) → counted ≤ MAX_LIST_ELEMENTS →
      stmts_faults ifaces declared older counted stmts ≡ [] → counted + sum_from older stmts ≤ MAX_LIST_ELEMENTS
  elements_few older counted [] few none = omega (arith, few)
  elements_few older counted (stmt ∷ stmts) few none =
      let env = env_of ifaces older in
      let next = counted + stmt_elements ifaces declared env stmt in
      let here = stmt_faults ifaces declared env counted stmt in
      let rest = stmts_faults ifaces declared (behind older stmt) next stmts in
      let maps_behind = gathered ifaces declared (maps_of ifaces declared) (behind older stmt) stmts in
      let named_behind = gathered ifaces declared (named_group ifaces declared) (behind older stmt) stmts in
      let default_behind = gathered ifaces declared (default_group ifaces declared) (behind older stmt) stmts in
      let after : next + (sum_by map_elements maps_behind + sum_by group_elements named_behind + sum_by group_elements default_behind) ≤ MAX_LIST_ELEMENTS =
      elements_few (behind older stmt) next stmts (stmt_within env counted stmt few (nil_from_append_left here rest none)) (nil_from_append_right here rest none) in
      let sum : sum_by map_elements (maps_of ifaces declared env stmt) + sum_by group_elements (named_group ifaces declared env stmt) + sum_by group_elements
      (default_group ifaces declared env stmt) ≤ stmt_elements ifaces declared env stmt = stmt_few env stmt in
      let maps = sum_by-append map_elements (maps_of ifaces declared env stmt) maps_behind in
      let named = sum_by-append group_elements (named_group ifaces declared env stmt) named_behind in
      let default = sum_by-append group_elements (default_group ifaces declared env stmt) default_behind in
      let all : counted + (sum_by map_elements (maps_of ifaces declared env stmt ++ maps_behind) + sum_by group_elements (named_group ifaces declared env stmt ++
      named_behind) + sum_by group_elements (default_group ifaces declared env stmt ++ default_behind)) ≤ MAX_LIST_ELEMENTS =
      omega (arith, after, sum, maps, named, default) in
      all
