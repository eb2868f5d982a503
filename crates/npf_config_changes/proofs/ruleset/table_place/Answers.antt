use Rattle.std.proofs.{Common.{◌≡◌, ◌<◌, ℕ, Some, List, get_or, length, slice_get, refl, sym, ◌∙◌}, lemmas.Option.slice_get_read}
use Rattle.npf_model.specs.declared.table.TableDecl.{TableDecl}
use Rattle.npf_config_changes.{specs.Rulesets.are_one_name, proofs.FindLemmas.{first_behind, first_here}}
use Rattle.npf_config_changes.proofs.ruleset.table_place.Goals as goal

read : {X : Type 0} (xs : List X) (n : ℕ) (x : X) → n < length xs → x ≡ get_or xs n x → slice_get xs n ≡ Some x
read xs n x lt is = slice_get_read xs (length xs) n x refl lt is

pub returns-then-is_name-clause-place : goal.returns-then-is_name-clause-place
returns-then-is_name-clause-place c =
    let decls = c.args.decls.now in
    first_here decls c.loop-at.at c.index-decls-at.result (read decls c.loop-at.at c.index-decls-at.result c.loop-at-test.true c.index-decls-at.is)
    (λ (decl : TableDecl). are_one_name decl.name c.args.name.now)
    (sym c.is_name.ensures ∙ c.if-is_name.true) ∙ sym c.loop-at.invariant

pub loop-at-preserved : goal.loop-at-preserved
loop-at-preserved c =
    let decls = c.args.decls.now in
    c.loop-at.invariant ∙ first_behind decls c.loop-at.at c.index-decls-at.result (read decls c.loop-at.at c.index-decls-at.result c.loop-at-test.true c.index-decls-at.is)
    (λ (decl : TableDecl). are_one_name decl.name c.args.name.now)
    (sym c.is_name.ensures ∙ c.if-is_name.false)
