-- The stages of the language decide on each text once.
use Rattle.std.proofs.Common.{◌≡◌, ◌<◌, ℕ, Ok, Err, List, [], Contains, length, sym, ap, subst, ◌∙◌, arith}
use Rattle.npf_types.specs.Reading.{IsOnly}
use Rattle.npf_faults.specs.declared.fault.ConfFault.{ConfFault}
use Rattle.npf_lexer.specs.{declared.token.Token.Token, Lexer.{IsLexed, Lexed}}
use Rattle.npf_syntax.specs.declared.stmt.Tree.{Tree}
use Rattle.npf_parser.specs.{Parse.Parses, Law.{OneTree, TreeOrHalt}}
use Rattle.npf_model.specs.declared.{iface.Iface.Iface, model.Model.Model}
use Rattle.npf_expand.specs.Elaborates.{Elaborates, model_of, tree_faults}
use Rattle.npf_check.specs.Fault.{check_faults}
use Rattle.npf_config.specs.Text.{IsTreeOf, Means, RefusesText, in_tokens, in_grammar, in_meaning, in_checks}

same_tokens : (text : List ℕ) (tokens others : List Token) → IsOnly IsLexed text (Ok tokens) → IsOnly IsLexed text (Ok others) → tokens ≡ others
same_tokens text tokens others one other =
    let same = one.only (Ok others) other.reads in
    cc

no_fault : (faults : List ConfFault) (fault : ConfFault) → faults ≡ [] → ¬ Contains faults fault
no_fault faults fault none listed =
    let below : listed.0 < length faults = listed.1 in
    let empty = ap length none in
    omega arith

module _ (one_tree : OneTree) (tree_or_halt : TreeOrHalt) (ifaces : List Iface) (text : List ℕ) where
  same_tree : (tree other : Tree) → IsTreeOf text tree → IsTreeOf text other → tree ≡ other
  same_tree tree other one two =
      one_tree two.tokens tree other (subst (λ (tokens : List Token). Parses tokens tree) (same_tokens text one.tokens two.tokens one.spelled two.spelled) one.parsed) two.parsed

  same_model : (tree other : Tree) (model other_model : Model) → tree ≡ other → Elaborates tree ifaces model → Elaborates other ifaces other_model → model ≡ other_model
  same_model tree other model other_model same one two = one.meant ∙ ap (λ (t : Tree). model_of t ifaces) same ∙ sym two.meant

  pub one_meaning : (tree other : Tree) (model other_model : Model) → Means ifaces text tree model → Means ifaces text other other_model → (tree ≡ other) × (model ≡ other_model)
  one_meaning tree other model other_model one two =
      let same = same_tree tree other one.written two.written in
      (same, same_model tree other model other_model same one.elaborated two.elaborated)

  pub never_both : (tree : Tree) (model : Model) (fault : ConfFault) → Means ifaces text tree model → ¬ RefusesText ifaces text fault
  never_both tree model _ means (in_tokens fault only) =
      let same = means.written.spelled.only (Err fault) only.reads in
      cc
  never_both tree model _ means (in_grammar tokens span spelled halts) =
      let parsed = subst (λ (ts : List Token). Parses ts tree) (same_tokens text means.written.tokens tokens means.written.spelled spelled) means.written.parsed in
      (tree_or_halt tokens).1 ((tree, parsed), (span, halts))
  never_both tree model _ means (in_meaning other fault is first) =
      let same = same_tree tree other means.written is in
      no_fault (tree_faults other ifaces) fault (ap (λ (t : Tree). tree_faults t ifaces) (sym same) ∙ means.elaborated.clean) first.listed
  never_both tree model _ means (in_checks other other_model fault is meant first) =
      let same = same_tree tree other means.written is in
      let same_models = same_model tree other model other_model same means.elaborated meant in
      no_fault (check_faults other other_model) fault
      (ap (λ (t : Tree). check_faults t other_model) (sym same) ∙ ap (check_faults tree) (sym same_models) ∙ means.checked) first.listed
