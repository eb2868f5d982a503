-- What is loaded in place of configurations that are one is one.
use Rattle.std.proofs.Common.{◌≡◌, ℕ, Some, Result, Ok, Err, List, sym, ap, subst, ◌∙◌}
use Rattle.npf_types.specs.declared.span.Span.{Span}
use Rattle.npf_faults.specs.declared.fault.ConfFault.{ConfFault}
use Rattle.npf_syntax.specs.declared.stmt.Tree.{Tree}
use Rattle.npf_parser.specs.Law.{OnePlace, OneTree, TreeOrHalt}
use Rattle.npf_model.specs.{declared.{iface.Iface.Iface, model.Model.Model}, Configuration.Configuration}
use Rattle.npf_outside.specs.{Counts.StoodStill, Files.{FilesMoment, Tree as FileTree}}
use Rattle.npf_config.specs.Laws.{NeverBoth, OneMeaning}
use Rattle.npf_config_changes.specs.{declared.fault.ChangeFault.ChangeFault, Additions.KeepsCounts, ChangeLaws.HasOneResult}
use Rattle.npf_config_changes.specs.declared.fault.ChangeFault.TheVariants as Change
use Rattle.npf_config_changes.proofs.LawLemmas.{one_after, one_told}
use Rattle.npf_config_reload.specs.{Reloads.{IsLoadedAlone, TakesOver, passed, taken}, Taken.{model_taken, taken_over}}
use Rattle.npf_config_law.{specs.{Answers.AreOne, Entries.AreOneConfiguration}, proofs.LoadLemmas.one_load}

once_kept : (span : Span) (model : Model) → HasOneResult (KeepsCounts span model)
once_kept span model = one_after _ _ (one_told _) (λ _. one_after _ _ (one_told _) (λ _. one_told _))

module _ (one_tree : OneTree) (tree_or_halt : TreeOrHalt) (one_place : OnePlace) (one_meaning : OneMeaning) (never_both : NeverBoth)
    (files : FileTree) (before now : FilesMoment) (told : before.contents ≡ Some files) (well : StoodStill before.read_faults now.read_faults)
    (ifaces : List Iface) (text : List ℕ) (old last : Configuration) (same : AreOneConfiguration old last) where
  one_own : (own other : Configuration) → IsLoadedAlone ifaces before.contents old text own → IsLoadedAlone ifaces before.contents last text other → AreOneConfiguration own other
  one_own own other is there =
      one_load one_tree tree_or_halt one_place one_meaning never_both files before now told well ifaces text (Ok own) (Ok other)
      (is.first, (is.programs, is.within)) (there.first, (there.programs, there.within))

  one_model : (own other : Configuration) → AreOneConfiguration own other → (taken_over old own).model ≡ (taken_over last other).model
  one_model own other owns = ap (λ (model : Model). model_taken model own.model) same.model ∙ ap (model_taken last.model) owns.model

  -- the limits are kept or passed alike
  one_count : (own other : Configuration) (is : IsLoadedAlone ifaces before.contents old text own) (there : IsLoadedAlone ifaces before.contents last text other)
      (one two : Result (Unit {0}) ChangeFault) → KeepsCounts is.first.tree.end (taken_over old own).model one → KeepsCounts there.first.tree.end (taken_over last other).model two
      → one ≡ two
  one_count own other is there one two kept keeps =
      let trees = one_meaning ifaces text is.first.tree there.first.tree own.model other.model is.first.means there.first.means in
      let models = one_model own other (one_own own other is there) in
      let moved = subst (λ (tree : Tree). KeepsCounts tree.end (taken_over last other).model two) (sym trees.0) keeps in
      once_kept is.first.tree.end (taken_over old own).model one two kept (subst (λ (model : Model). KeepsCounts is.first.tree.end model two) (sym models) moved)

  pub takeovers_agree : (one two : Result Configuration ConfFault) → TakesOver ifaces before.contents old text one → TakesOver ifaces before.contents last text two
      → AreOne AreOneConfiguration (λ fault other. fault ≡ other) one two
  takeovers_agree _ _ (taken {own = own} is kept) (taken {own = other} there keeps) =
      let owns = one_own own other is there in
      record { model = one_model own other owns; tables = owns.tables }
  takeovers_agree _ _ (taken {own = own} is kept) (passed {own = other} {fault = g} there passes) =
      let never = one_count own other is there (Ok tt) (Err (Change.Conf g)) kept passes in cc
  takeovers_agree _ _ (passed {own = own} {fault = f} is passes) (taken {own = other} there keeps) =
      let never = one_count own other is there (Err (Change.Conf f)) (Ok tt) passes keeps in cc
  takeovers_agree _ _ (passed {own = own} {fault = f} is passes) (passed {own = other} {fault = g} there also) =
      let told_same = one_count own other is there (Err (Change.Conf f)) (Err (Change.Conf g)) passes also in cc
