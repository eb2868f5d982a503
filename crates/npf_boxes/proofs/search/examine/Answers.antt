use Rattle.std.proofs.Common.{List, sym, subst, ap, ◌∙◌}
use Rattle.std.specs.Prelude.{All}
use Rattle.std.proofs.lemmas.List.Elements.{All-push}
use Rattle.npf_boxes.specs.declared.part.BoxPart.{BoxPart}
use Rattle.npf_boxes.specs.Part.{IsPartOf}
use Rattle.npf_boxes.proofs.CellLemmas.{all_written}
use Rattle.npf_boxes.proofs.LookLemmas.{left_part}
use Rattle.npf_boxes.proofs.search.examine.Goals as goal

pub returns-then-left-clause-parts : goal.returns-then-left-clause-parts
returns-then-left-clause-parts c = λ _ box numbers of all.
    let is_left = rw c.in-Some.is at c.in_ok-left.ensures.left in
    let seen_is = c.deref.ensures.value ∙ ap (λ v. v.items) c.as_ref.ensures in
    let words_is = all_written _ _ _ (c.look.auto.words ∙ c.deref_mut.ensures.len) in
    let left_is = ap (λ v. v.items) c.in_ok-new.ensures.ok in
    let part = left_part c.args.boxes.now box numbers _ _ _ _ c.args.part _ is_left seen_is c.deref_mut.ensures.value words_is left_is of in
    let P : List BoxPart → Type 0 = All (IsPartOf c.args.boxes.now box numbers) in
    subst P (sym c.in_ok-push.ensures.items) (All-push (IsPartOf c.args.boxes.now box numbers) c.args.parts.now.items _ all part)

pub returns-clause-parts : goal.returns-clause-parts
returns-clause-parts c = λ _ box numbers of all.
    let is_left = rw c.in-Some.is at c.in_ok-left.ensures.left in
    let seen_is = c.deref.ensures.value ∙ ap (λ v. v.items) c.as_ref.ensures in
    let words_is = all_written _ _ _ (c.look.auto.words ∙ c.deref_mut.ensures.len) in
    let left_is = ap (λ v. v.items) c.in_ok-new.ensures.ok in
    let part = left_part c.args.boxes.now box numbers _ _ _ _ c.args.part _ is_left seen_is c.deref_mut.ensures.value words_is left_is of in
    c.in_ok-split.ensures.parts box numbers part all
