-- What is said of a map that can't be is said of that map: a text has one meaning.
use Rattle.std.proofs.Common.{◌≡◌, ℕ, true, is_some, Option, Some, None, Ok, Err, List, [], Contains, zip, refl, sym, ap, subst, ◌∙◌}
use Rattle.npf_types.specs.Reading.{IsOnly}
use Rattle.npf_faults.specs.{declared.fault.ConfFault.ConfFault}
use Rattle.npf_lexer.specs.{declared.token.Token.Token, Lexer.IsLexed}
use Rattle.npf_syntax.specs.declared.stmt.Tree.{Tree}
use Rattle.npf_parser.specs.{Parse.{Parses}, Law.OneTree}
use Rattle.npf_model.specs.declared.{iface.Iface.Iface, model.Model.Model}
use Rattle.npf_expand.specs.Elaborates.{Elaborates, model_of, tree_faults}
use Rattle.npf_check.specs.{Map.bad_map_faults, Name.no_text, WrittenMap.written_maps}
use Rattle.npf_why_map.specs.{declared.reason.MapReason.MapReason, Laws.{EachBadMapHasReason, EachReasonIsOfMap, IsOfMapAt}, Place.reason_at}
use Rattle.npf_shelf.proofs.ListLemmas.{Contains-nil}
use Rattle.npf_ctl_why.specs.{Laws.{MeansModel}, Map.{ExplainsMap, IsReasonIn, IsReasonInTree, map_text}}

some_with : {X : Type 0} (P : X → Type 0) (o : Option X) → is_some o ≡ true → ((x : X) → o ≡ Some x → P x) → (x : X) × P x × (o ≡ Some x)
some_with P None is from = cc
some_with P (Some x) is from = (x, from x refl, refl)

module _ (one_tree : OneTree) (ifaces : List Iface) (text : List ℕ) (tree : Tree) (model : Model) (means : MeansModel ifaces text tree model) where
  same_tokens : (tokens : List Token) → IsOnly IsLexed text (Ok tokens) → means.tokens ≡ tokens
  same_tokens tokens spelled =
      let same = means.spelled.only (Ok tokens) spelled.reads in
      cc

  parsed_as : (tokens : List Token) → IsOnly IsLexed text (Ok tokens) → Parses tokens tree
  parsed_as tokens spelled = subst (λ (ts : List Token). Parses ts tree) (same_tokens tokens spelled) means.parsed

  same_model : (other : Tree) (other_model : Model) → tree ≡ other → Elaborates other ifaces other_model → other_model ≡ model
  same_model other other_model same elaborated = elaborated.meant ∙ ap (λ (t : Tree). model_of t ifaces) (sym same) ∙ sym means.elaborated.meant

  of_tree : (at : ℕ) (other : Tree) (reason : Option MapReason) → tree ≡ other → IsReasonInTree ifaces other at reason → reason ≡ reason_at at tree model
  of_tree at other reason same (IsReasonInTree.meant other_model elaborated is) =
      is ∙ ap (λ (t : Tree). reason_at at t other_model) (sym same) ∙ ap (reason_at at tree) (same_model other other_model same elaborated)
  of_tree at other reason same (IsReasonInTree.meaningless fault first is) =
      let none : tree_faults other ifaces ≡ [] = ap (λ (t : Tree). tree_faults t ifaces) (sym same) ∙ means.elaborated.clean in
      absurd (Contains-nil fault (subst (λ (faults : List ConfFault). Contains faults fault) none first.listed))

  of_text : (at : ℕ) (reason : Option MapReason) → IsReasonIn ifaces text at reason → reason ≡ reason_at at tree model
  of_text at reason (IsReasonIn.read tokens other spelled parsed in_tree) = of_tree at other reason (one_tree tokens tree other (parsed_as tokens spelled) parsed) in_tree
  of_text at reason (IsReasonIn.halted tokens spelled meaningless is) = absurd (meaningless (tree, parsed_as tokens spelled))
  of_text at reason (IsReasonIn.no_tokens fault refused is) =
      let same = means.spelled.only (Err fault) refused.reads in
      cc

  pub explained : EachBadMapHasReason → EachReasonIsOfMap → (fault : ConfFault) (out : List ℕ) → Contains (bad_map_faults tree model) fault
      → ExplainsMap ifaces text fault.span.at out
      → (reason : MapReason) × IsOfMapAt fault.span.at (zip (written_maps no_text tree.stmts) model.maps) reason × (out ≡ map_text (Some reason))
  explained has_reason is_of_map fault out listed said =
      let at = fault.span.at in
      let maps = zip (written_maps no_text tree.stmts) model.maps in
      let found = some_with (IsOfMapAt at maps) (reason_at at tree model) (has_reason tree model fault listed) (is_of_map at tree model) in
      (found.0, found.1, said.2 ∙ ap map_text (of_text at said.0 said.1 ∙ found.2))
