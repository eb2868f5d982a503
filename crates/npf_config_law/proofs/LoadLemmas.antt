-- A text is loaded in one way: it means one configuration, or it is refused for faults that are alike.
use Rattle.std.proofs.Common.{◌≡◌, ◌≤◌, ◌<◌, ℕ, Some, inl, inr, Result, Ok, Err, List, [], ◌∷◌, ◌++◌, All, Contains, length, refl, sym, ap, subst, ◌∙◌, arith, slice_get}
use Rattle.std.proofs.lemmas.{List.Elements.{All-contains, Contains-append_right}, Option.same_Some}
use Rattle.npf_types.specs.{declared.{limits.TheConstants.MAX_RULE_WEIGHT, span.Span.Span}, Reading.IsOnly}
use Rattle.npf_faults.specs.declared.fault.{ConfFault.ConfFault, Excess.TheVariants.{Weight, Instructions}, Fault.TheVariants.TooMany}
use Rattle.npf_faults.{specs.First.{IsFirstFaultOf, NotBefore}, proofs.FirstLemmas.{no_first, not_before}}
use Rattle.npf_lexer.specs.{declared.token.Token.Token, Lexer.IsLexed}
use Rattle.npf_syntax.specs.declared.stmt.Tree.{Tree}
use Rattle.npf_parser.specs.{Law.{OnePlace, OneTree, TreeOrHalt}, Parse.{HaltsAt, Parses}, Stmt.file}
use Rattle.npf_model.specs.{declared.{iface.Iface.Iface, model.Model.Model, table.TableDecl.TableDecl}, Configuration.Configuration, Describes.Tables}
use Rattle.npf_model.specs.Verdict.{PlacedRule, all_rules}
use Rattle.npf_bpf.specs.declared.insn.Insn.{Insn}
use Rattle.npf_expand.specs.Elaborates.{model_of, tree_faults}
use Rattle.npf_check.specs.Fault.{check_faults}
use Rattle.npf_outside.specs.declared.files.FileFault.TheVariants as IsFile
use Rattle.npf_outside.specs.{Counts.{Rose, StoodStill}, Files.{FilesMoment, Tree as FileTree}}
use Rattle.npf_bpfgen.specs.RuleWeight.{weight_of}
use Rattle.npf_ruleset.{specs.Refusal.{IsFirstHeavy, IsLight, IsWithinLimits}, proofs.CompileLemmas.instructions_counted}
use Rattle.npf_config.specs.{declared.fault.LoadFault.{LoadFault, TheVariants.{Conf, File, NoMemory}}, Laws.{NeverBoth, OneMeaning}}
use Rattle.npf_config.specs.Refusal.{RefusesConfiguration, RefusesRules, RefusesTables, bad_line, by_rules, by_tables, by_text, too_heavy, too_many, too_much}
use Rattle.npf_config.specs.{RulePlaces.inspected_places, Tables.AreFirstTables}
use Rattle.npf_config.specs.Text.{IsTreeOf, Means, RefusesText, in_checks, in_grammar, in_meaning, in_tokens}
use Rattle.npf_config_law.specs.Readings.{AreAlike, AreOneLoad, LoadsOrEnds, StandAlike, alike, equal}
use Rattle.npf_config_law.proofs.PartLemmas.{Parted, after, before as in_front, here, parted}
use Rattle.npf_config_law.proofs.TableLemmas.{StopsAmong, bad, long, many, one_stops, read_or_stops, tables_same}

both_first : (fault other : ConfFault) → NotBefore fault other → NotBefore other fault → StandAlike fault other
both_first fault other (inl before) (inl behind) = absurd (omega (arith, before, behind))
both_first fault other (inl before) (inr same) = absurd (omega (arith, before, same.0))
both_first fault other (inr same) (inl behind) = absurd (omega (arith, behind, same.0))
both_first fault other (inr same) (inr again) = record { place = same.0; number = omega (arith, same.1, again.1) }

first_alike : (faults : List ConfFault) (fault other : ConfFault) → IsFirstFaultOf faults fault → IsFirstFaultOf faults other → StandAlike fault other
first_alike faults fault other is there = both_first fault other (not_before faults fault other is there.listed) (not_before faults other fault there is.listed)

-- the rules of a model are refused for one fault
module _ (rules : List PlacedRule) where
  heavy_is_not_light : (before behind : List PlacedRule) (heavy : PlacedRule) → MAX_RULE_WEIGHT < weight_of heavy.rule → ¬ All IsLight (before ++ heavy ∷ behind)
  heavy_is_not_light before behind heavy over light =
      let listed : Contains (before ++ heavy ∷ behind) heavy = Contains-append_right before (heavy ∷ behind) heavy (0, omega arith, refl) in
      let is_light : weight_of heavy.rule ≤ MAX_RULE_WEIGHT = All-contains IsLight (before ++ heavy ∷ behind) heavy light listed in
      omega (arith, over, is_light)

  over_is : (place weight : ℕ) → (is : IsFirstHeavy rules place weight) → MAX_RULE_WEIGHT < weight_of is.heavy.rule
  over_is place weight is = let over = is.over in let weighs = is.weighs in omega (arith, over, weighs)

  heavy_or_light : (place weight : ℕ) → IsFirstHeavy rules place weight → ¬ All IsLight rules
  heavy_or_light place weight is light = heavy_is_not_light is.before is.behind is.heavy (over_is place weight is) (subst (λ (all : List PlacedRule). All IsLight all) is.are light)

  one_heavy : (p w q v : ℕ) → IsFirstHeavy rules p w → IsFirstHeavy rules q v → (p ≡ q) × (w ≡ v)
  one_heavy p w q v is there = by (parted is.before there.before is.behind there.behind is.heavy there.heavy (sym is.are ∙ there.are))
    where
      by : Parted is.before there.before is.heavy there.heavy → (p ≡ q) × (w ≡ v)
      by (here front heavy) = (
        is.at ∙ ap length front ∙ sym there.at,
        is.weighs ∙ ap (λ (placed : PlacedRule). weight_of placed.rule) heavy ∙ sym there.weighs,
      )
      by (in_front more front) = absurd (heavy_is_not_light is.before more is.heavy (over_is p w is)
          (subst (λ (all : List PlacedRule). All IsLight all) front there.light))
      by (after more front) = absurd (heavy_is_not_light there.before more there.heavy (over_is q v there)
          (subst (λ (all : List PlacedRule). All IsLight all) front is.light))

module _ (tree : Tree) (model : Model) where
  one_rules : (one two : ConfFault) → RefusesRules tree model one → RefusesRules tree model two → one ≡ two
  one_rules _ _ (too_heavy p w span is at) (too_heavy q v span' there at') =
      let same = one_heavy (all_rules model.groups) p w q v is there in
      let place : span ≡ span' = same_Some span span' (sym at ∙ ap (slice_get (inspected_places tree.stmts)) same.0 ∙ at') in
      ap (λ (s : Span). record { span = s; fault = TooMany Weight w }) place ∙ ap (λ (n : ℕ). record { span = span'; fault = TooMany Weight n }) same.1
  one_rules _ _ (too_heavy p w span is at) (too_much count there) = absurd (heavy_or_light (all_rules model.groups) p w is there.light)
  one_rules _ _ (too_much count is) (too_heavy p w span there at) = absurd (heavy_or_light (all_rules model.groups) p w there is.light)
  one_rules _ _ (too_much count is) (too_much more there) =
      ap (λ (n : ℕ). record { span = tree.end; fault = TooMany Instructions n }) (is.counted ∙ sym there.counted)

  within_or_refused : (programs : List (List Insn)) (fault : ConfFault) → IsWithinLimits model programs → ¬ RefusesRules tree model fault
  within_or_refused programs _ within (too_heavy p w span is at) = heavy_or_light (all_rules model.groups) p w is within.compiled.light
  within_or_refused programs _ within (too_much count is) =
      let counted = instructions_counted (all_rules model.groups) programs within.compiled in
      let few = within.few in
      let over = is.over in
      let total = is.counted in
      omega (arith, counted, few, over, total)

module _ (one_tree : OneTree) (tree_or_halt : TreeOrHalt) (one_place : OnePlace) (one_meaning : OneMeaning) (never_both : NeverBoth)
    (files : FileTree) (old now : FilesMoment) (told : old.contents ≡ Some files) (well : StoodStill old.read_faults now.read_faults)
    (ifaces : List Iface) (text : List ℕ) where
  same_tokens : (tokens others : List Token) → IsOnly IsLexed text (Ok tokens) → IsOnly IsLexed text (Ok others) → others ≡ tokens
  same_tokens tokens others one other =
      let same = one.only (Ok others) other.reads in
      cc

  no_tokens : (tokens : List Token) (fault : ConfFault) → IsOnly IsLexed text (Ok tokens) → ¬ IsOnly IsLexed text (Err fault)
  no_tokens tokens fault one other = let same = one.only (Err fault) other.reads in cc

  same_tree : (tree other : Tree) → IsTreeOf text tree → IsTreeOf text other → tree ≡ other
  same_tree tree other one two =
      one_tree one.tokens tree other one.parsed (subst (λ (tokens : List Token). Parses tokens other) (same_tokens one.tokens two.tokens one.spelled two.spelled) two.parsed)

  no_halt : (tree : Tree) (tokens : List Token) (span : Span) → IsTreeOf text tree → IsOnly IsLexed text (Ok tokens) → ¬ HaltsAt file tokens span
  no_halt tree tokens span is spelled halts =
      (tree_or_halt tokens).1
      ((tree, subst (λ (all : List Token). Parses all tree) (same_tokens tokens is.tokens spelled is.spelled) is.parsed), (span, halts))

  no_meaning : (tree other : Tree) (fault : ConfFault) → IsTreeOf text tree → IsTreeOf text other → tree_faults tree ifaces ≡ [] → ¬ IsFirstFaultOf (tree_faults other ifaces) fault
  no_meaning tree other fault is there clean = no_first (tree_faults other ifaces) fault (ap (λ (t : Tree). tree_faults t ifaces) (same_tree other tree there is) ∙ clean)

  -- a text is refused for faults that stand alike
  one_refusal : (one two : ConfFault) → RefusesText ifaces text one → RefusesText ifaces text two → StandAlike one two
  one_refusal _ _ (in_tokens fault is) (in_tokens other there) =
      let same = is.only (Err other) there.reads in
      let faults : fault ≡ other = cc in
      subst (λ (f : ConfFault). StandAlike fault f) faults (record { place = refl; number = refl })
  one_refusal _ _ (in_tokens fault is) (in_grammar tokens span there halts) = absurd (no_tokens tokens fault there is)
  one_refusal _ _ (in_tokens fault is) (in_meaning tree other there first) = absurd (no_tokens there.tokens fault there.spelled is)
  one_refusal _ _ (in_tokens fault is) (in_checks tree model other there means first) = absurd (no_tokens there.tokens fault there.spelled is)
  one_refusal _ _ (in_grammar tokens span is halts) (in_tokens fault there) = absurd (no_tokens tokens fault is there)
  one_refusal _ _ (in_grammar tokens span is halts) (in_grammar others place there stops) =
      let same : span ≡ place = one_place tokens span place halts (subst (λ (all : List Token). HaltsAt file all place) (same_tokens tokens others is there) stops) in
      record { place = ap (λ (s : Span). s.at) same; number = refl }
  one_refusal _ _ (in_grammar tokens span is halts) (in_meaning tree other there first) = absurd (no_halt tree tokens span there is halts)
  one_refusal _ _ (in_grammar tokens span is halts) (in_checks tree model other there means first) = absurd (no_halt tree tokens span there is halts)
  one_refusal _ _ (in_meaning tree fault is first) (in_tokens other there) = absurd (no_tokens is.tokens other is.spelled there)
  one_refusal _ _ (in_meaning tree fault is first) (in_grammar tokens span there halts) = absurd (no_halt tree tokens span is there halts)
  one_refusal _ _ (in_meaning tree fault is first) (in_meaning other last there second) =
      first_alike (tree_faults tree ifaces) fault last first
      (subst (λ (t : Tree). IsFirstFaultOf (tree_faults t ifaces) last) (same_tree other tree there is) second)
  one_refusal _ _ (in_meaning tree fault is first) (in_checks other model last there means second) = absurd (no_meaning other tree fault there is means.clean first)
  one_refusal _ _ (in_checks tree model fault is means first) (in_tokens other there) = absurd (no_tokens is.tokens other is.spelled there)
  one_refusal _ _ (in_checks tree model fault is means first) (in_grammar tokens span there halts) = absurd (no_halt tree tokens span is there halts)
  one_refusal _ _ (in_checks tree model fault is means first) (in_meaning other last there second) = absurd (no_meaning tree other last is there means.clean second)
  one_refusal _ _ (in_checks tree model fault is means first) (in_checks other other_model last there other_means second) =
      let trees : other ≡ tree = same_tree other tree there is in
      let models : other_model ≡ model = other_means.meant ∙ ap (λ (t : Tree). model_of t ifaces) trees ∙ sym means.meant in
      let moved = subst (λ (t : Tree). IsFirstFaultOf (check_faults t other_model) last) trees second in
      first_alike (check_faults tree model) fault last first (subst (λ (m : Model). IsFirstFaultOf (check_faults tree m) last) models moved)

  -- why a text that is told isn't loaded
  data Ends : LoadFault → Type 0 where
    of_text : {fault : ConfFault} → RefusesText ifaces text fault → Ends (Conf fault)
    of_tables : {fault : LoadFault} (tree : Tree) (model : Model) → Means ifaces text tree model → StopsAmong files old now told model.tables fault → Ends fault
    of_rules : {fault : ConfFault} (tree : Tree) (model : Model) (tables : Tables) → Means ifaces text tree model → AreFirstTables old.contents model.tables tables
        → RefusesRules tree model fault → Ends (Conf fault)

  stops_of : (decls : List TableDecl) (fault : ConfFault) → RefusesTables old decls fault → StopsAmong files old now told decls (Conf fault)
  stops_of decls _ (bad_line decl tables comes is) = record { decl = decl; tables = tables; comes = comes; stops = bad is }
  stops_of decls _ (too_many decl tables entries comes are past) = record { decl = decl; tables = tables; comes = comes; stops = many entries are past }

  stays : Rose old.read_faults now.read_faults → ⊥
  stays rose = omega (arith, well.0, well.1, rose)

  conf_ends : (fault : ConfFault) → RefusesConfiguration ifaces text old now fault → Ends (Conf fault)
  conf_ends _ (by_text fault is) = of_text is
  conf_ends _ (by_tables tree model fault means is) = of_tables tree model means (stops_of model.tables fault is)
  conf_ends _ (by_rules tree model tables fault means are is) = of_rules tree model tables means are is

  ends_of : (fault : LoadFault) → LoadsOrEnds ifaces text old now (Err fault) → Ends fault
  ends_of (Conf fault) is = conf_ends fault is
  ends_of (File span name IsFile.Failed) is = absurd (stays is.refused.unread.unread.0)
  ends_of (File span name IsFile.Long) is =
      of_tables is.tree is.model is.means (record { decl = is.refused.decl; tables = is.refused.tables; comes = is.refused.comes; stops = long is.refused.unread })
  ends_of (File span name IsFile.NoMemory) is = absurd is.refused.unread.unread
  ends_of NoMemory is = absurd is

  models_same : (tree other : Tree) (model also : Model) → Means ifaces text tree model → Means ifaces text other also → (tree ≡ other) × (model ≡ also)
  models_same = one_meaning ifaces text

  tables_of : (tree other : Tree) (model also : Model) (tables : Tables) → Means ifaces text tree model → Means ifaces text other also
      → AreFirstTables old.contents also.tables tables → AreFirstTables old.contents model.tables tables
  tables_of tree other model also tables is there = subst (λ (m : Model). AreFirstTables old.contents m.tables tables) (sym (models_same tree other model also is there).1)

  no_stops : (tree other : Tree) (model also : Model) (tables : Tables) (fault : LoadFault) → Means ifaces text tree model → Means ifaces text other also
      → AreFirstTables old.contents also.tables tables → ¬ StopsAmong files old now told model.tables fault
  no_stops tree other model also tables fault is there are = read_or_stops files old now told model.tables tables fault (tables_of tree other model also tables is there are)

  ends_alike : (one two : LoadFault) → Ends one → Ends two → AreAlike one two
  ends_alike _ _ (of_text {fault = f} is) (of_text {fault = g} there) = alike (one_refusal f g is there)
  ends_alike _ _ (of_text {fault = f} is) (of_tables tree model means there) = absurd (never_both ifaces text tree model f means is)
  ends_alike _ _ (of_text {fault = f} is) (of_rules tree model tables means are there) = absurd (never_both ifaces text tree model f means is)
  ends_alike _ _ (of_tables tree model means is) (of_text {fault = g} there) = absurd (never_both ifaces text tree model g means there)
  ends_alike one two (of_tables tree model means is) (of_tables other also there again) =
      equal (one_stops files old now told model.tables one two is
      (subst (λ (m : Model). StopsAmong files old now told m.tables two) (sym (models_same tree other model also means there).1) again))
  ends_alike one _ (of_tables tree model means is) (of_rules other also tables there are refused) = absurd (no_stops tree other model also tables one means there are is)
  ends_alike _ _ (of_rules tree model tables means are is) (of_text {fault = g} there) = absurd (never_both ifaces text tree model g means there)
  ends_alike _ two (of_rules tree model tables means are is) (of_tables other also there again) = absurd (no_stops other tree also model tables two there means are again)
  ends_alike _ _ (of_rules {fault = f} tree model tables means are is) (of_rules {fault = g} other also others there too again) =
      let same = models_same tree other model also means there in
      let moved = subst (λ (t : Tree). RefusesRules t also g) (sym same.0) again in
      equal (ap Conf (one_rules tree model f g is (subst (λ (m : Model). RefusesRules tree m g) (sym same.1) moved)))

  -- what is loaded isn't refused
  never_ends : (config : Configuration) (fault : LoadFault) → LoadsOrEnds ifaces text old now (Ok config) → ¬ Ends fault
  never_ends config _ is (of_text {fault = f} refused) = never_both ifaces text is.0.tree config.model f is.0.means refused
  never_ends config fault is (of_tables tree model means stops) = no_stops tree is.0.tree model config.model config.tables fault means is.0.means is.0.tables stops
  never_ends config _ is (of_rules {fault = f} tree model tables means are refused) =
      let same = models_same tree is.0.tree model config.model means is.0.means in
      within_or_refused tree config.model is.1.0 f is.1.1 (subst (λ (m : Model). RefusesRules tree m f) same.1 refused)

  pub one_load : (one two : Result Configuration LoadFault) → LoadsOrEnds ifaces text old now one → LoadsOrEnds ifaces text old now two → AreOneLoad one two
  one_load (Ok one) (Ok two) is there =
      let same = models_same is.0.tree there.0.tree one.model two.model is.0.means there.0.means in
      record {
        model = same.1;
        tables = tables_same files old.contents told one.model.tables one.tables two.tables is.0.tables.each
            (tables_of is.0.tree there.0.tree one.model two.model two.tables is.0.means there.0.means there.0.tables).each;
      }
  one_load (Ok one) (Err fault) is there = never_ends one fault is (ends_of fault there)
  one_load (Err fault) (Ok two) is there = never_ends two fault there (ends_of fault is)
  one_load (Err fault) (Err other) is there = ends_alike fault other (ends_of fault is) (ends_of other there)
