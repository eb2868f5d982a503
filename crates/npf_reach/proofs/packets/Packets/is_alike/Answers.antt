use Rattle.std.proofs.Common.{◌≡◌, ◌<◌, ◌||◌, true, length, get_or, take, sym, subst, ap, ◌∙◌, inl, inr, arith}
use Rattle.std.proofs.lemmas.Bool.{and_parts, cases_Bool}
use Rattle.std.proofs.lemmas.List.{Elements.All-get_or, Folds.list_any_more}
use Rattle.npf_reach.specs.declared.part.KindPart.{KindPart}
use Rattle.npf_reach.specs.Kinds.{IsKindOf, cells_kind, is_of_kind}
use Rattle.npf_reach.specs.Packets.{part_has, parts_have}
use Rattle.npf_reach.proofs.KindLemmas.{held_same, of_kind}
use Rattle.npf_reach.proofs.packets.Packets.is_alike.Goals as goal

pub loop-part-preserved : goal.loop-part-preserved
loop-part-preserved c = λ facts ifid dir packet had.
    let tables = c.args.self.now.tables.now in
    let products = c.args.self.now.products.now in
    let parts = c.args.self.now.parts.items in
    let i = c.loop-part.part-index in
    let part = c.part-item.result in
    let test : KindPart → _ = λ it. part_has it facts ifid dir in
    let xs_is = c.deref-part-items.ensures.value in
    let low : i < length parts = omega (arith, c.loop-part-test.true, ap length xs_is) in
    let is : part ≡ get_or parts i part = c.part-item.is ∙ ap (λ xs. get_or xs i part) xs_is in
    let own : IsKindOf tables products part.cells.now =
    subst (λ (it : KindPart). IsKindOf tables products it.cells.now) (sym is)
    (All-get_or (λ (it : KindPart). IsKindOf tables products it.cells.now) parts i part low c.requires.of.kinds) in
    let some : (parts_have (take i parts) facts ifid dir || test part) ≡ true =
    ap (λ (one : KindPart). parts_have (take i parts) facts ifid dir || test one) is ∙ sym (list_any_more test parts i part low) ∙ had in
    elim (cases_Bool (parts_have (take i parts) facts ifid dir)) [
      | inl before ↦ c.loop-part.invariant facts ifid dir packet before
      | inr none ↦
          let here : part_has part facts ifid dir ≡ true = sym (ap (λ b. b || test part) none) ∙ some in
          let kind = of_kind (cells_kind part.cells.now) facts ifid packet (and_parts (is_of_kind (cells_kind part.cells.now) facts) _ here).0 in
          sym (held_same tables products part.cells.now facts ifid dir c.args.one own c.requires.one kind)
          ∙ c.is_alike.ensures c.if-not-is_alike.false facts ifid dir packet here
          ∙ held_same tables products part.cells.now facts ifid dir c.args.other own c.requires.other kind
    ]
