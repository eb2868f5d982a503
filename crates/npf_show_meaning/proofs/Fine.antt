-- A model that can be shown and is as texts make it has what its parts need so that they are read again.
use Rattle.std.proofs.Common.{◌<◌, ℕ, Bool, true, false, if◌then◌else◌, Option, Some, None, IfSome, List, [], ◌∷◌, ◌++◌, length, map, flat_map}
use Rattle.std.{proofs.lemmas.List.Elements.{All-append, All-cons, All-nil, All-head, All-tail}, specs.List.All}
use Rattle.npf_model.specs.declared.{ends.Ends.Ends, group.{Group.Group, Item.{Item, TheVariants.{One, Dynamic}}}, iface.Iface.Iface, map.Map.Map}
use Rattle.npf_model.specs.declared.{model.Model.Model, rule.Rule.Rule, settings.{Choice.Choice, Parameter.Parameter, Settings.Settings}}
use Rattle.npf_model.specs.Settings.{choice_in, default_settings, parameters}
use Rattle.npf_show.specs.Setting.{changed_setting, has_same_value, shown_settings}
use Rattle.npf_show_tokens.specs.Showable.{IsShowable, IsShowableRange, AreShowableEnds, IsShowableFilter, IsShowableRule, IsShowableEntry}
use Rattle.npf_show_tokens.specs.Showable.{IsShowableGroup, IsShowableMap, IsShowableProcedure, IsShowableTable}
use Rattle.npf_show_meaning.specs.Regular.{IsForward, IsRegular, IsRegularChoice}
use Rattle.npf_show_meaning.specs.Regular.{AreRegularEnds, IsRegularFilter, IsRegularRule, IsRegularEntry, IsRegularGroup, IsRegularMap, IsRegularDecl, IsOfText, IsFilterAlone}
use Rattle.npf_show_meaning.proofs.{Values.IsRange, EndsOf.AreFine, FilterOf.IsFineFilter, RuleOf.IsFineRule, GroupOf.IsFineEntry, GroupStmt.IsFineGroup}
use Rattle.npf_show_meaning.proofs.{MapStmt.IsFineMap, Parts.{OfSet, OfAlg, OfTable, OfMap, OfProcedure, OfGroup}}
use Rattle.npf_show_meaning.proofs.FileOf.{alg_parts, declared_parts, parts_of, setting_parts, IsFinePart}

-- two facts of each element make a third
all_both : {A B : Type 0} (P Q : A → Type 0) (R : B → Type 0) (f : A → B) → ((a : A) → P a → Q a → R (f a)) → (xs : List A) → All P xs → All Q xs → All R (map f xs)
all_both P Q R f step [] ps qs = All-nil R
all_both P Q R f step (x ∷ xs) ps qs =
    All-cons R (f x) (map f xs) (step x (All-head P x xs ps) (All-head Q x xs qs)) (all_both P Q R f step xs (All-tail P x xs ps) (All-tail Q x xs qs))

all_pairs : {A : Type 0} (P Q R : A → Type 0) → ((a : A) → P a → Q a → R a) → (xs : List A) → All P xs → All Q xs → All R xs
all_pairs P Q R step [] ps qs = All-nil R
all_pairs P Q R step (x ∷ xs) ps qs =
    All-cons R x xs (step x (All-head P x xs ps) (All-head Q x xs qs)) (all_pairs P Q R step xs (All-tail P x xs ps) (All-tail Q x xs qs))

if_both : {A : Type 0} (P Q R : A → Type 0) → ((a : A) → P a → Q a → R a) → (o : Option A) → IfSome o P → IfSome o Q → IfSome o R
if_both P Q R step None p q = tt
if_both P Q R step (Some a) p q = step a p q

-- what settings are changed to is regular as they are
module _ (settings : Settings) (is : (parameter : Parameter) → IsRegularChoice (choice_in settings parameter)) where
  regular_changed : (parameter : Parameter) → All IsRegularChoice (changed_setting settings parameter)
  regular_changed parameter = by (has_same_value (choice_in settings parameter) (choice_in default_settings parameter)) where
    by : (same : Bool) → All IsRegularChoice (if same then [] else choice_in settings parameter ∷ [])
    by true = All-nil IsRegularChoice
    by false = All-cons IsRegularChoice (choice_in settings parameter) [] (is parameter) (All-nil IsRegularChoice)

  regular_among : (among : List Parameter) → All IsRegularChoice (flat_map (changed_setting settings) among)
  regular_among [] = All-nil IsRegularChoice
  regular_among (parameter ∷ among) =
      All-append IsRegularChoice (changed_setting settings parameter) (flat_map (changed_setting settings) among) (regular_changed parameter) (regular_among among)

module _ (ifaces : List Iface) (model : Model) where
  fine_range : (range : ℕ × ℕ) → IsShowableRange range → IsForward range → IsRange ifaces range
  fine_range range shows forward = record { first = shows.0; last = shows.1; forward = forward }

  fine_ends : (e : Ends) → AreShowableEnds model e → AreRegularEnds model e → AreFine ifaces model e
  fine_ends e shows regular = record {
    excluded = regular.excluded;
    addrs = regular.addrs;
    ports = if_both (All IsShowableRange) (λ ports. (0 < length ports) × All IsForward ports) (λ ports. (0 < length ports) × All (IsRange ifaces) ports)
        (λ ports s r. (r.0, all_pairs IsShowableRange IsForward (IsRange ifaces) fine_range ports s r.1)) e.ports shows.ports regular.ports;
  }

  fine_filter : (r : Rule) → IsShowableFilter model r → IsRegularFilter model r → IsFineFilter ifaces model r
  fine_filter r shows regular = record {
    protos = shows.protos;
    detail = regular.detail;
    icmp = shows.icmp;
    from = fine_ends r.from shows.from regular.from;
    to = fine_ends r.to shows.to regular.to;
  }

  fine_rule : (r : Rule) → IsShowableRule model r → IsRegularRule ifaces model r → IsFineRule ifaces model r
  fine_rule r shows regular = record { filter = fine_filter r shows.filter regular.filter; on = regular.on; procedure = regular.procedure }

  fine_entry : (entry : Item) → IsShowableEntry model entry → IsRegularEntry ifaces model entry → IsFineEntry ifaces model entry
  fine_entry (One r) shows regular = fine_rule r shows regular
  fine_entry (Dynamic name dir on next_id rules) shows regular = regular

  fine_group : (g : Group) → IsShowableGroup model g → IsRegularGroup ifaces model g → IsFineGroup ifaces model g
  fine_group g shows regular = record {
    head = regular.head;
    on = regular.on;
    items = all_pairs (IsShowableEntry model) (IsRegularEntry ifaces model) (IsFineEntry ifaces model) fine_entry g.items shows.items regular.items;
  }

  fine_map : (m : Map) → IsShowableMap model m → IsRegularMap ifaces model m → IsFineMap ifaces model m
  fine_map m shows regular = record {
    on = regular.on;
    proto = shows.proto;
    inside = if_both IsShowableRange IsForward (IsRange ifaces) fine_range m.inside.ports shows.inside.ports regular.inside;
    outside = if_both IsShowableRange IsForward (IsRange ifaces) fine_range m.outside.ports shows.outside.ports regular.outside;
    filter = if_both (IsShowableFilter model) (λ r. IsFilterAlone r × IsRegularFilter model r) (λ r. IsFilterAlone r × IsFineFilter ifaces model r)
        (λ r s q. (q.0, fine_filter r s q.1)) m.filter shows.filter regular.filter;
  }

  fine_sets : (choices : List Choice) → All IsRegularChoice choices → All (IsFinePart ifaces model) (map OfSet choices)
  fine_sets choices all = all_both IsRegularChoice IsRegularChoice (IsFinePart ifaces model) OfSet (λ choice is _. is) choices all all

  fine_alg : (is_asked : Bool) → All (IsFinePart ifaces model) (alg_parts is_asked)
  fine_alg true = All-cons (IsFinePart ifaces model) OfAlg [] tt (All-nil (IsFinePart ifaces model))
  fine_alg false = All-nil (IsFinePart ifaces model)

  fine_declared : IsShowable model → IsRegular ifaces model → All (IsFinePart ifaces model) (declared_parts model)
  fine_declared shows regular =
      let Fine = IsFinePart ifaces model in
      let t = map OfTable model.tables in
      let m = map OfMap model.maps in
      let p = map OfProcedure model.procedures in
      All-append Fine (t ++ m ++ p) (map OfGroup model.groups)
      (All-append Fine (t ++ m) p
      (All-append Fine t m
      (all_both IsShowableTable IsRegularDecl Fine OfTable (λ t s r. r) model.tables shows.tables regular.tables)
      (all_both (IsShowableMap model) (IsRegularMap ifaces model) Fine OfMap fine_map model.maps shows.maps regular.maps))
      (all_both IsShowableProcedure (λ procedure. IfSome procedure.log IsOfText) Fine OfProcedure (λ p s r. (s, r)) model.procedures shows.procedures regular.procedures))
      (all_both (IsShowableGroup model) (IsRegularGroup ifaces model) Fine OfGroup fine_group model.groups shows.groups regular.groups)

  pub fine_parts : IsShowable model → IsRegular ifaces model → All (IsFinePart ifaces model) (parts_of model)
  fine_parts shows regular =
      let Fine = IsFinePart ifaces model in
      All-append Fine (setting_parts model) (declared_parts model)
      (All-append Fine (map OfSet (shown_settings model.settings)) (alg_parts model.alg_icmp)
      (fine_sets (shown_settings model.settings) (regular_among model.settings regular.settings parameters)) (fine_alg model.alg_icmp))
      (fine_declared shows regular)
