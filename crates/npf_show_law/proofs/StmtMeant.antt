-- What the statements of a configuration without a fault mean.
use Rattle.std.proofs.Common.{◌≡◌, ◌<◌, ◌^◌, ℕ, ◌+◌, min, Bool, true, false, not, is_some, ◌||◌, nat_lt, if◌then◌else◌, unwrap_or, Option, Some, None, IfSome}
use Rattle.std.{proofs.Common.{option_map, List, [], ◌∷◌, ◌++◌, map, flat_map, slice_get, refl, sym, ap, subst, ◌∙◌, arith}, specs.{List.All, Str.is_utf8}}
use Rattle.npf_types.specs.{declared.address.Addr.{Addr, TheVariants.V4}, Address.width, Block.block, Name.name_bytes, Named.named, NameText.is_name}
use Rattle.npf_shelf.proofs.ListLemmas.{nil_from_append_left, nil_from_append_right}
use Rattle.npf_faults.specs.declared.fault.Fault.TheVariants.{UnknownProcedure}
use Rattle.npf_syntax.specs.declared.{filter.Filter.Filter, group.{GroupHead.GroupHead, ItemTree.ItemTree as WrittenItem}, map.SideTree.SideTree as WrittenSide}
use Rattle.npf_syntax.specs.declared.{procedure.{Call.Call, LogName.LogName, Opt.Opt}, rule.RuleTree.RuleTree, stmt.Stmt.Stmt}
use Rattle.npf_syntax.specs.declared.{value.{IfaceTree.IfaceTree as WrittenIface, One.One, Value.Value}, word.Str.Str}
use Rattle.npf_model.specs.declared.{ends.AddrItem.TheVariants.InTable, group.{Group.Group, Item.Item}, iface.Iface.Iface, map.Map.Map, model.Model.Model}
use Rattle.npf_model.specs.declared.procedure.Procedure.{Procedure}
use Rattle.npf_check.specs.Undefined.{table_faults, tables_of_where, tables_of_pass, tables_of_item, tables_of_stmt, applied_faults, procedures_of_item, procedures_of_stmt}
use Rattle.npf_expand_values.specs.Atom.{Atom, NumberAtom, RangeAtom, WordAtom, StringAtom, BlockAtom, TableAtom, AddressesAtom, Env}
use Rattle.npf_expand_values.specs.{Declarations.{Declared, table_number}, Iface.{iface_faults, on_text, on_iface}, Port.{same_port, atom_ports}}
use Rattle.npf_expand_values.specs.{Leader.host_name, Host.{addresses_named, hosts_of}}
use Rattle.npf_expand_values.specs.{Protocol.{protocol_of, first_protocol, one_binding, one_protocol}}
use Rattle.npf_names.{specs.{Names.number_named, Protocol.protocols, Service.services}, proofs.BoundLemmas.{service_small, protocol_small}}
use Rattle.npf_expand_values.specs.{Use.atoms_of, Variable.{binding_of, own_faults}, Source.declared_of}
use Rattle.npf_expand.specs.Elaborates.{stmt_faults, named_group, default_group, maps_of, procedures_of}
use Rattle.npf_expand.specs.Group.{item_of_tree, item_elements, item_faults, items_faults, head_faults, group_of_tree}
use Rattle.npf_expand.specs.Map.{first_host, side_block, first_block, first_port, side_port_faults, side_faults, side_port, side_of, map_filter_faults, map_faults}
use Rattle.npf_expand.specs.Procedure.{with_option, with_options, with_call, with_calls}
use Rattle.npf_expand.{specs.{Rule.{on_faults, filter_faults, rule_faults, filter_rule, rule_of_tree}, Table.tables_of}, proofs.ElementLemmas.untold}
use Rattle.npf_show.specs.Rule.{name_of_procedure}
use Rattle.npf_show_tokens.specs.Showable.{IsPlain, FitsByte, FitsAddr, IsShowablePrefix, IsShowableRange, IsShowableItem, IsShowableFilter, IsShowableRule, IsShowableEntry}
use Rattle.npf_show_tokens.specs.{Showable.{IsShowableGroup, IsShowableSide, IsShowableMap, IsShowableProcedure, IsShowableTable}, Tokens.is_run_word}
use Rattle.npf_show_meaning.specs.Regular.{IsOfText, IsForward, IsRegularItem, IsFilterAlone, IsRegularFilter, IsRegularSide, IsRegularOn}
use Rattle.npf_show_meaning.specs.Regular.{IsRegularRule, IsRegularEntry, IsRegularGroup, IsRegularMap, IsRegularDecl}
use Rattle.npf_show_law.proofs.Gives.{Every, IfThere}
use Rattle.npf_show_law.proofs.Sound.{IsSoundValue, IsSoundPort, IsPlainStr, IsSoundFilter, IsSoundItem, IsSoundHead, IsSoundSide, IsSoundCall, IsSoundStmt}
use Rattle.npf_show_law.proofs.Atoms.{IsSoundAtom, IsSoundEnv, is_on, first_fit, value_sound, iface_named, bound_atoms}
use Rattle.npf_show_law.proofs.Meant.{block_shows, IsGoodRange, port_small, byte_small}
use Rattle.npf_show_law.proofs.FilterMeant.{every_all, named_text, filter_meant}

name_again : (text : List ℕ) → is_name text ≡ true → IsOfText (named text)
name_again text is = ap named (named_text text is)

-- procedures
record IsGoodProcedure (p : Procedure) : Type 0 where
  shown : IsShowableProcedure p
  log : IfSome p.log IsOfText

ttl_fits : (n : ℕ) → FitsByte (min n 255)
ttl_fits n = omega arith

mss_fits : (n : ℕ) → min n 65535 < 2 ^ 16
mss_fits n = omega arith

option_good : (p : Procedure) (o : Opt) → IsGoodProcedure p → IsGoodProcedure (with_option p o)
option_good p (Opt.MinTtl n span) good = record { shown = record { name = good.shown.name; min_ttl = ttl_fits n.value; max_mss = good.shown.max_mss }; log = good.log }
option_good p (Opt.MaxMss n span) good = record { shown = record { name = good.shown.name; min_ttl = good.shown.min_ttl; max_mss = mss_fits n.value }; log = good.log }
option_good p (Opt.NoDf span) good = record { shown = record { name = good.shown.name; min_ttl = good.shown.min_ttl; max_mss = good.shown.max_mss }; log = good.log }
option_good p (Opt.RandomId span) good = good

options_good : (p : Procedure) (os : List Opt) → IsGoodProcedure p → IsGoodProcedure (with_options p os)
options_good p [] good = good
options_good p (o ∷ os) good = options_good (with_option p o) os (option_good p o good)

call_good : (p : Procedure) (c : Call) → IsSoundCall c → IsGoodProcedure p → IsGoodProcedure (with_call p c)
call_good p (Call.Log (LogName.Word w at) span) is good = record { shown = record { name = good.shown.name; min_ttl = good.shown.min_ttl; max_mss = good.shown.max_mss }; log = name_again w.text is }
call_good p (Call.Log (LogName.Str s at) span) is good = record { shown = record { name = good.shown.name; min_ttl = good.shown.min_ttl; max_mss = good.shown.max_mss }; log = name_again s.text is }
call_good p (Call.Normalize os span) is good = options_good p os good
call_good p (Call.Route span) is good = good

calls_good : (p : Procedure) (cs : List Call) → Every IsSoundCall cs → IsGoodProcedure p → IsGoodProcedure (with_calls p cs)
calls_good p [] every good = good
calls_good p (c ∷ cs) every good = calls_good (with_call p c) cs every.1 (call_good p c every.0 good)

options_named : (p : Procedure) (os : List Opt) → (with_options p os).name ≡ p.name
options_named p [] = refl
options_named p (Opt.MinTtl n span ∷ os) = options_named (with_option p (Opt.MinTtl n span)) os
options_named p (Opt.MaxMss n span ∷ os) = options_named (with_option p (Opt.MaxMss n span)) os
options_named p (Opt.NoDf span ∷ os) = options_named (with_option p (Opt.NoDf span)) os
options_named p (Opt.RandomId span ∷ os) = options_named p os

pub calls_named : (p : Procedure) (cs : List Call) → (with_calls p cs).name ≡ p.name
calls_named p [] = refl
calls_named p (Call.Log name span ∷ cs) = calls_named (with_call p (Call.Log name span)) cs
calls_named p (Call.Normalize os span ∷ cs) = calls_named (with_options p os) cs ∙ options_named p os
calls_named p (Call.Route span ∷ cs) = calls_named p cs

pub procedures_meant : (stmt : Stmt) → IsSoundStmt stmt → Every (λ p. IsShowableProcedure p × IfSome p.log IsOfText) (procedures_of stmt)
procedures_meant (Stmt.Procedure name calls span) is =
    let good = calls_good (record { name = name.text; min_ttl = None; max_mss = None; no_df = false; log = None }) calls is.1
    (record { shown = record { name = is.0; min_ttl = tt; max_mss = tt }; log = tt }) in
    ((good.shown, good.log), tt)
procedures_meant (Stmt.Define var values span) is = tt
procedures_meant (Stmt.Set name value span) is = tt
procedures_meant (Stmt.Alg name span) is = tt
procedures_meant (Stmt.MapRuleset iface span) is = tt
procedures_meant (Stmt.Table name kind file span) is = tt
procedures_meant (Stmt.Map iface kind proto left arrow right pass span) is = tt
procedures_meant (Stmt.Group head items span) is = tt

-- tables
file_meant : (file : Option Str) → IfThere (λ s. IsPlainStr s × (is_utf8 s.text ≡ true)) file
    → IfSome (option_map (λ (s : Str). s.text) file) IsPlain × IfSome (option_map (λ (s : Str). s.text) file) (λ text. is_utf8 text ≡ true)
    × (is_some (option_map (λ (s : Str). s.span) file) ≡ is_some (option_map (λ (s : Str). s.text) file))
file_meant None is = (tt, tt, refl)
file_meant (Some s) is = (is.0, is.1, refl)

pub tables_meant : (stmt : Stmt) → IsSoundStmt stmt → Every (λ t. IsShowableTable t × IsRegularDecl t) (tables_of stmt)
tables_meant (Stmt.Table name kind file span) is =
    let parts = file_meant file is.1 in (
      (
        record { name = subst (λ text. is_run_word text ≡ true) (sym (named_text name.text is.0.1)) is.0.0; file = parts.0 },
        record { name = name_again name.text is.0.1; file = parts.1; span = parts.2 },
      ),
      tt,
    )
tables_meant (Stmt.Procedure name calls span) is = tt
tables_meant (Stmt.Define var values span) is = tt
tables_meant (Stmt.Set name value span) is = tt
tables_meant (Stmt.Alg name span) is = tt
tables_meant (Stmt.MapRuleset iface span) is = tt
tables_meant (Stmt.Map iface kind proto left arrow right pass span) is = tt
tables_meant (Stmt.Group head items span) is = tt

-- the port and the protocol of a map
ports_fit : (ifaces : List Iface) (fit : All (λ i. All FitsAddr i.addrs) ifaces) (d : List ℕ → Bool) (atom : Atom) → IsSoundAtom ifaces fit d atom → IfSome (atom_ports atom) IsGoodRange
ports_fit ifaces fit d (NumberAtom n) sound = by (nat_lt 65535 n) refl where
  by : (b : Bool) → nat_lt 65535 n ≡ b → IfSome (if b then None else Some (n, n)) IsGoodRange
  by true is = tt
  by false is = let small = port_small n is in ((small, small), omega arith)
ports_fit ifaces fit d (RangeAtom n m) sound = by (nat_lt 65535 n) (nat_lt 65535 m) refl refl where
  by : (a b : Bool) → nat_lt 65535 n ≡ a → nat_lt 65535 m ≡ b → IfSome (if a || b then None else Some (n, m)) IsGoodRange
  by true b is other = tt
  by false true is other = tt
  by false false is other = ((port_small n is, port_small m other), sound)
ports_fit ifaces fit d (WordAtom text span) sound = by (number_named services text) refl where
  by : (o : Option ℕ) → number_named services text ≡ o → IfSome (same_port o) IsGoodRange
  by None is = tt
  by (Some n) is = let small = service_small text n is in ((omega (arith, small), omega (arith, small)), omega arith)
ports_fit ifaces fit d (StringAtom text) sound = tt
ports_fit ifaces fit d (BlockAtom addr len) sound = tt
ports_fit ifaces fit d (TableAtom name) sound = tt
ports_fit ifaces fit d (AddressesAtom iface addrs) sound = tt

protocol_fits : (atom : Atom) → IfSome (protocol_of atom) FitsByte
protocol_fits (NumberAtom n) = by (nat_lt 255 n) refl where
  by : (b : Bool) → nat_lt 255 n ≡ b → IfSome (if b then None else Some n) FitsByte
  by true is = tt
  by false is = byte_small n is
protocol_fits (WordAtom text span) = by (number_named protocols text) refl where
  by : (o : Option ℕ) → number_named protocols text ≡ o → IfSome o FitsByte
  by None is = tt
  by (Some n) is = let small = protocol_small text n is in omega (arith, small)
protocol_fits (RangeAtom n m) = tt
protocol_fits (StringAtom text) = tt
protocol_fits (BlockAtom addr len) = tt
protocol_fits (TableAtom name) = tt
protocol_fits (AddressesAtom iface addrs) = tt

first_fits : (atoms : List Atom) → IfSome (first_protocol atoms) FitsByte
first_fits [] = tt
first_fits (atom ∷ atoms) = protocol_fits atom

one_fits : (env : Env) (o : Option One) → IfSome (one_protocol env o) FitsByte
one_fits env None = tt
one_fits env (Some one) = first_fits (atoms_of (one_binding env one))

-- a statement without a fault, so many elements behind the text's begin
pub record IsCleanStmt (ifaces : List Iface) (declared : Declared) (d p : List ℕ → Bool) (env : Env) (counted : ℕ) (stmt : Stmt) : Type 0 where
  pub sound : IsSoundStmt stmt
  pub clean : stmt_faults ifaces declared env counted stmt ≡ []
  pub tables : tables_of_stmt d stmt ≡ []
  pub procedures : procedures_of_stmt p stmt ≡ []

abbrev pub IsGoodGroup : List Iface → Model → Group → Type 0
IsGoodGroup ifaces model group = IsShowableGroup model group × IsRegularGroup ifaces model group

abbrev pub IsGoodMap : List Iface → Model → Map → Type 0
IsGoodMap ifaces model m = IsShowableMap model m × IsRegularMap ifaces model m

pub every_left : {X : Type 0} (P Q : X → Type 0) (xs : List X) → Every (λ x. P x × Q x) xs → All P xs × All Q xs
every_left {X = X} P Q xs every = (every_all P xs (lefts xs every), every_all Q xs (rights xs every)) where
  lefts : (xs : List X) → Every (λ x. P x × Q x) xs → Every P xs
  lefts [] every = tt
  lefts (x ∷ xs) every = (every.0.0, lefts xs every.1)

  rights : (xs : List X) → Every (λ x. P x × Q x) xs → Every Q xs
  rights [] every = tt
  rights (x ∷ xs) every = (every.0.1, rights xs every.1)

module _ (ifaces : List Iface) (fit : All (λ i. All FitsAddr i.addrs) ifaces) (d : List ℕ → Bool) (env : Env) (sound : IsSoundEnv ifaces fit d env) where
  -- interfaces
  on_meant : (model : Model) (i : WrittenIface) → iface_faults env i ≡ [] → IsRegularOn ifaces model (on_iface ifaces env i)
  on_meant model i none =
      let is = iface_named ifaces fit d env sound i none in
      subst (λ o. on_text ifaces o ≡ on_text ifaces (Some (name_bytes (on_text ifaces o).name))) (sym is.is) (ap (λ text. on_text ifaces (Some text)) (sym (named_text is.text is.name)))

  maybe_on : (model : Model) (o : Option WrittenIface) → on_faults ifaces env o ≡ [] → IfSome (option_map (on_iface ifaces env) o) (IsRegularOn ifaces model)
  maybe_on model None none = tt
  maybe_on model (Some i) none = on_meant model i none

  -- the sides of a map
  every_v4_shows : IsShowablePrefix (block (V4 0) 0)
  every_v4_shows = block_shows (V4 0) 0 (omega arith)

  host_shows : (addrs : List Addr) → Every FitsAddr addrs → IsShowablePrefix (first_host addrs)
  host_shows [] every = every_v4_shows
  host_shows (addr ∷ addrs) every = block_shows addr (width addr) every.0

  named_fit : (name : Option (List ℕ)) → Every FitsAddr (addresses_named ifaces name)
  named_fit None = tt
  named_fit (Some text) = first_fit ifaces fit d ifaces fit text

  block_meant : (atom : Atom) → IsSoundAtom ifaces fit d atom → IsShowablePrefix (side_block ifaces atom)
  block_meant (BlockAtom addr len) is = block_shows addr (unwrap_or len (width addr)) is
  block_meant (AddressesAtom iface addrs) is = host_shows addrs is.1
  block_meant (NumberAtom n) is = every_v4_shows
  block_meant (RangeAtom n m) is = every_v4_shows
  block_meant (WordAtom text span) is = host_shows (hosts_of ifaces (WordAtom text span)) (named_fit (host_name (WordAtom text span)))
  block_meant (StringAtom text) is = host_shows (hosts_of ifaces (StringAtom text)) (named_fit (host_name (StringAtom text)))
  block_meant (TableAtom name) is = every_v4_shows

  first_shows : (atoms : List Atom) → Every (IsSoundAtom ifaces fit d) atoms → IsShowablePrefix (first_block ifaces atoms)
  first_shows [] every = every_v4_shows
  first_shows (atom ∷ atoms) every = block_meant atom every.0

  port_shows : (atoms : List Atom) → Every (IsSoundAtom ifaces fit d) atoms → IfSome (first_port atoms) IsGoodRange
  port_shows [] every = tt
  port_shows (atom ∷ atoms) every = ports_fit ifaces fit d atom every.0

  -- the atoms of one value
  value_atoms : (v : Value) → IsSoundValue v → own_faults ifaces env v ≡ [] → table_faults d v ≡ [] → Every (IsSoundAtom ifaces fit d) (atoms_of (binding_of ifaces env v))
  value_atoms v is own defined = (bound_atoms ifaces fit d (binding_of ifaces env v) (value_sound ifaces fit d env sound v is own defined)).0

  port_meant : (o : Option Value) → IfThere IsSoundPort o → side_port_faults ifaces env o ≡ [] → IfSome (side_port ifaces env o) IsGoodRange
  port_meant None is none = tt
  port_meant (Some v) is none = port_shows (atoms_of (binding_of ifaces env v)) (value_atoms v is.0 (nil_from_append_left (own_faults ifaces env v) _ none) (is.1 d))

  split_range : {A : Type 0} (P Q : A → Type 0) (o : Option A) → IfSome o (λ a. P a × Q a) → IfSome o P × IfSome o Q
  split_range P Q None is = (tt, tt)
  split_range P Q (Some a) is = is

  side_meant : (s : WrittenSide) → IsSoundSide s → side_faults ifaces env s ≡ [] → table_faults d s.value ≡ [] → IsShowableSide (side_of ifaces env s) × IsRegularSide (side_of ifaces env s)
  side_meant s is none defined =
      let here = nil_from_append_left _ (side_port_faults ifaces env s.port) none in
      let ports = split_range IsShowableRange IsForward (side_port ifaces env s.port) (port_meant s.port is.1 (nil_from_append_right _ (side_port_faults ifaces env s.port) none)) in (
        record {
          net = first_shows (atoms_of (binding_of ifaces env s.value))
              (value_atoms s.value is.0 (nil_from_append_left (own_faults ifaces env s.value) _ here) defined);
          ports = ports.0;
        },
        ports.1,
      )

  module _ (model : Model) (declared : Declared) (p : List ℕ → Bool)
      (numbered : (name : List ℕ) → is_run_word name ≡ true → is_name name ≡ true → d name ≡ true →
      IsShowableItem model (InTable (table_number declared.tables name)) × IsRegularItem model (InTable (table_number declared.tables name)))
      (applied : (name : List ℕ) → p name ≡ true → IsPlain (name_of_procedure (slice_get model.procedures (table_number declared.procedures name)))
      × (table_number (declared_of model).procedures (name_of_procedure (slice_get model.procedures (table_number declared.procedures name))) ≡ table_number declared.procedures name)) where
    maybe_filter : (o : Option Filter) → IfThere IsSoundFilter o → map_filter_faults ifaces env o ≡ [] → tables_of_pass d o ≡ []
        → IfSome (option_map (filter_rule ifaces env declared.tables) o) (IsShowableFilter model) ×
        IfSome (option_map (filter_rule ifaces env declared.tables) o) (λ rule. IsFilterAlone rule × IsRegularFilter model rule)
    maybe_filter None is none defined = (tt, tt)
    maybe_filter (Some f) is none defined =
        let meant = filter_meant ifaces fit d env sound model declared.tables numbered f is none defined in
        (meant.0, (record { decision = refl; state = refl; dir = refl; last = refl; on = refl; procedure = refl }, meant.1))

    maybe_applied : (o : Option Str) → applied_faults p o ≡ []
        → IfSome (option_map (λ (s : Str). table_number declared.procedures s.text) o) (λ number. IsPlain (name_of_procedure (slice_get model.procedures number)))
        × IfSome (option_map (λ (s : Str). table_number declared.procedures s.text) o)
        (λ number. table_number (declared_of model).procedures (name_of_procedure (slice_get model.procedures number)) ≡ number)
    maybe_applied None none = (tt, tt)
    maybe_applied (Some s) none = applied s.text (is_on (p s.text) (untold (not (p s.text)) s.span UnknownProcedure none))

    rule_meant : (r : RuleTree) → IsSoundFilter r.filter → rule_faults ifaces env r ≡ [] → tables_of_where d r.filter.ends ≡ [] → applied_faults p r.apply ≡ []
        → IsShowableRule model (rule_of_tree ifaces env declared r) × IsRegularRule ifaces model (rule_of_tree ifaces env declared r)
    rule_meant r is none defined names =
        let meant = filter_meant ifaces fit d env sound model declared.tables numbered r.filter is
        (nil_from_append_right (on_faults ifaces env r.on) (filter_faults ifaces env r.filter) none) defined in
        let shown = meant.0 in
        let regular = meant.1 in
        let number = maybe_applied r.apply names in (
          record { filter = record { protos = shown.protos; flags = shown.flags; icmp = shown.icmp; from = shown.from; to = shown.to }; procedure = number.0 },
          record {
            filter = record { detail = regular.detail; from = regular.from; to = regular.to };
            on = maybe_on model r.on (nil_from_append_left (on_faults ifaces env r.on) (filter_faults ifaces env r.filter) none);
            procedure = number.1;
          },
        )

    abbrev IsGoodEntry : Item → Type 0
    IsGoodEntry item = IsShowableEntry model item × IsRegularEntry ifaces model item

    item_meant : (counted : ℕ) (item : WrittenItem) → IsSoundItem item → item_faults ifaces env declared counted item ≡ [] →
        tables_of_item d item ≡ [] → procedures_of_item p item ≡ [] → IsGoodEntry (item_of_tree ifaces env declared item)
    item_meant counted (WrittenItem.Rule r span) is none defined names = rule_meant r is (nil_from_append_left (rule_faults ifaces env r) _ none) defined names
    item_meant counted (WrittenItem.Ruleset name dir on span) is none defined names = (tt, (name_again name.text is, maybe_on model on none, refl, refl))

    items_meant : (counted : ℕ) (items : List WrittenItem) → Every IsSoundItem items → items_faults ifaces env declared counted items ≡ [] →
        flat_map (tables_of_item d) items ≡ [] → flat_map (procedures_of_item p) items ≡ []
        → Every IsGoodEntry (map (item_of_tree ifaces env declared) items)
    items_meant counted [] every none defined names = tt
    items_meant counted (item ∷ items) every none defined names =
        let here = item_faults ifaces env declared counted item in
        let next = counted + item_elements ifaces env declared item in
        let rest = items_faults ifaces env declared next items in (
          item_meant counted item every.0 (nil_from_append_left here rest none) (nil_from_append_left (tables_of_item d item) (flat_map (tables_of_item d) items) defined)
              (nil_from_append_left (procedures_of_item p item) (flat_map (procedures_of_item p) items) names),
          items_meant next items every.1 (nil_from_append_right here rest none) (nil_from_append_right (tables_of_item d item) (flat_map (tables_of_item d) items) defined)
              (nil_from_append_right (procedures_of_item p item) (flat_map (procedures_of_item p) items) names),
        )

    group_meant : (counted : ℕ) (head : GroupHead) (items : List WrittenItem) → IsSoundHead head → Every IsSoundItem items
        → head_faults ifaces env declared head ++ items_faults ifaces env declared counted items ≡ [] → flat_map (tables_of_item d) items ≡ [] → flat_map (procedures_of_item p) items ≡ []
        → IsGoodGroup ifaces model (group_of_tree ifaces env declared head items)
    group_meant counted (GroupHead.Named name dir layer on span) items is every none defined names =
        let clean = items_meant counted items every (nil_from_append_right (on_faults ifaces env on) (items_faults ifaces env declared counted items) none) defined names in
        let both = every_left (IsShowableEntry model) (IsRegularEntry ifaces model) (map (item_of_tree ifaces env declared) items) clean in (
          record { name = is; items = both.0 },
          record {
            head = λ never. let no : false ≡ true = never in cc;
            on = maybe_on model on (nil_from_append_left (on_faults ifaces env on) (items_faults ifaces env declared counted items) none);
            items = both.1;
          },
        )
    group_meant counted (GroupHead.Default layer span) items is every none defined names =
        let both = every_left (IsShowableEntry model) (IsRegularEntry ifaces model) (map (item_of_tree ifaces env declared) items) (items_meant counted items every none defined names) in
        (record { name = refl; items = both.0 }, record { head = λ _. record { name = refl; dir = refl; on = refl }; on = tt; items = both.1 })

    pub named_meant : (counted : ℕ) (stmt : Stmt) → IsCleanStmt ifaces declared d p env counted stmt → Every (IsGoodGroup ifaces model) (named_group ifaces declared env stmt)
    named_meant counted (Stmt.Group (GroupHead.Named name dir layer on head) items span) is =
        (group_meant counted (GroupHead.Named name dir layer on head) items is.sound.0 is.sound.1 is.clean is.tables is.procedures, tt)
    named_meant counted (Stmt.Group (GroupHead.Default layer head) items span) is = tt
    named_meant counted (Stmt.Define var values span) is = tt
    named_meant counted (Stmt.Set name value span) is = tt
    named_meant counted (Stmt.Alg name span) is = tt
    named_meant counted (Stmt.MapRuleset iface span) is = tt
    named_meant counted (Stmt.Table name kind file span) is = tt
    named_meant counted (Stmt.Map iface kind proto left arrow right pass span) is = tt
    named_meant counted (Stmt.Procedure name calls span) is = tt

    pub default_meant : (counted : ℕ) (stmt : Stmt) → IsCleanStmt ifaces declared d p env counted stmt → Every (IsGoodGroup ifaces model) (default_group ifaces declared env stmt)
    default_meant counted (Stmt.Group (GroupHead.Default layer head) items span) is =
        (group_meant counted (GroupHead.Default layer head) items is.sound.0 is.sound.1 is.clean is.tables is.procedures, tt)
    default_meant counted (Stmt.Group (GroupHead.Named name dir layer on head) items span) is = tt
    default_meant counted (Stmt.Define var values span) is = tt
    default_meant counted (Stmt.Set name value span) is = tt
    default_meant counted (Stmt.Alg name span) is = tt
    default_meant counted (Stmt.MapRuleset iface span) is = tt
    default_meant counted (Stmt.Table name kind file span) is = tt
    default_meant counted (Stmt.Map iface kind proto left arrow right pass span) is = tt
    default_meant counted (Stmt.Procedure name calls span) is = tt

    pub maps_meant : (counted : ℕ) (stmt : Stmt) → IsCleanStmt ifaces declared d p env counted stmt → Every (IsGoodMap ifaces model) (maps_of ifaces declared env stmt)
    maps_meant counted (Stmt.Map iface kind proto left arrow right pass span) is =
        let whole = nil_from_append_left (map_faults ifaces env iface proto left right pass) _ is.clean in
        let before_pass = nil_from_append_left _ (map_filter_faults ifaces env pass) whole in
        let before_right = nil_from_append_left _ (side_faults ifaces env right) before_pass in
        let before_left = nil_from_append_left _ (side_faults ifaces env left) before_right in
        let sides = nil_from_append_left (table_faults d left.value ++ table_faults d right.value) (tables_of_pass d pass) is.tables in
        let on = on_meant model iface (nil_from_append_left (iface_faults env iface) _ before_left) in
        let inside = side_meant left is.sound.0 (nil_from_append_right _ (side_faults ifaces env left) before_right)
        (nil_from_append_left (table_faults d left.value) (table_faults d right.value) sides) in
        let outside = side_meant right is.sound.1 (nil_from_append_right _ (side_faults ifaces env right) before_pass)
        (nil_from_append_right (table_faults d left.value) (table_faults d right.value) sides) in
        let meant = maybe_filter pass is.sound.2 (nil_from_append_right _ (map_filter_faults ifaces env pass) whole)
        (nil_from_append_right (table_faults d left.value ++ table_faults d right.value) (tables_of_pass d pass) is.tables) in
        ((record { proto = one_fits env proto; inside = inside.0; outside = outside.0; filter = meant.0 }, record { on = on; inside = inside.1; outside = outside.1; filter = meant.1 }), tt)
    maps_meant counted (Stmt.Group head items span) is = tt
    maps_meant counted (Stmt.Define var values span) is = tt
    maps_meant counted (Stmt.Set name value span) is = tt
    maps_meant counted (Stmt.Alg name span) is = tt
    maps_meant counted (Stmt.MapRuleset iface span) is = tt
    maps_meant counted (Stmt.Table name kind file span) is = tt
    maps_meant counted (Stmt.Procedure name calls span) is = tt
